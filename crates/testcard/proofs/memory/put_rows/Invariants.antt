-- The rows so far stand at their addresses.
use Rattle.std.proofs.Common.{◌≡◌}
use Rattle.testcard.specs.Image.{with_first_rows}
use Rattle.testcard.proofs.memory.put_rows.Given as goal

abbrev pub invariant-loop-number : goal.invariant-loop-number
invariant-loop-number l = l.memory ≡ with_first_rows l.initial.memory l.address l.rows l.number
