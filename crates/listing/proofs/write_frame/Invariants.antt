-- The lines so far are written.
use Rattle.std.proofs.Common.{take}
use Rattle.std.specs.List.{flat_map}
use Rattle.std.specs.Io.KnownBytes.{Appends}
use Rattle.listing.specs.Text.{line_text}
use Rattle.listing.proofs.write_frame.Given as goal

abbrev pub invariant-loop-pixels : goal.invariant-loop-pixels
invariant-loop-pixels g l =
    Appends (g.W.Write.contents l.initial.out) (g.W.Write.contents l.out) (flat_map line_text (take l.pixels-index l.lines))
