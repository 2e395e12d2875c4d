-- A turn writes the text of the next line.
use Rattle.std.proofs.Common.{rules}
use Rattle.listing.proofs.Output.{appends_next, appends_frame}
use Rattle.listing.proofs.write_frame.Goals as goal

pub loop-pixels-preserved : goal.loop-pixels-preserved
loop-pixels-preserved g c = search (rules, appends_next)

pub returns : goal.returns
returns g c = search (rules, appends_frame)
