-- The differing pixels passed are counted.
-- Assumes nothing.
use Rattle.std.proofs.Common.{◌≡◌, ◌*◌, length}
use Rattle.machine.specs.Sizes.{line_length}
use Rattle.machine.specs.Numbers.{passing_from}
use Rattle.compare.specs.Places.{differs}
use Rattle.compare.proofs.pixels.Line.differing_pixels.Given as goal

abbrev pub invariant-loop-x : goal.invariant-loop-x
invariant-loop-x l = l.count ≡ length (passing_from (differs l.self.frames.first.now l.self.frames.second.now) (line_length * l.self.number) l.x)
