-- The loop's invariant: the disagreements of the pixels passed are counted.
-- Assumes nothing.
use Rattle.std.proofs.Common.{◌≡◌, length}
use Rattle.machine.specs.Numbers.{passing_from}
use Rattle.slips.specs.Slip.{disagrees}
use Rattle.slips.proofs.slip.Lines.candidate.Given as goal

abbrev pub invariant-loop-x : goal.invariant-loop-x
invariant-loop-x l = l.count ≡ length (passing_from (disagrees l.self.reference.now l.self.grabbed.now l.slip) 0 l.x)
