-- The frame, and the closing line after it.
use Rattle.std.proofs.Common.{rules}
use Rattle.listing.proofs.Output.{appends_both}
use Rattle.listing.proofs.write_listing.Goals as goal

pub returns-in_ok-write_frame-in-0 : goal.returns-in_ok-write_frame-in-0
returns-in_ok-write_frame-in-0 g c = search (rules, appends_both)
