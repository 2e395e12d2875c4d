-- A pixel more is counted where it disagrees.
-- The laws are those that `compare::differing_pixels` takes too, one use each: a lemma of both would take all that they take.
-- Assumes nothing.
use Rattle.std.proofs.Common.{arith, ◌≡◌, ℕ, ◌+◌, Bool, length, sym, ap, ap₂, ◌∙◌, w64, to_z, of_z, to_z-of_z}
use mir.Val.{bool_byte}
use Rattle.machine.specs.Sizes.{line_length}
use Rattle.machine.proofs.Numbers.{from_none, from_count, from_most}
use Rattle.slips.specs.Slip.{disagrees, disagreements}
use Rattle.slips.proofs.slip.Lines.candidate.Goals as goal

pub loop-x-init : goal.loop-x-init
loop-x-init c = sym (ap length (from_none _ _))

pub loop-x-preserved : goal.loop-x-preserved
loop-x-preserved c =
    let test = disagrees c.args.self.reference.now c.args.self.grabbed.now (to_z w64 (of_z w64 c.args.slip)) in
    let x : c.loop-x.x ≡ 0 + c.loop-x.x = omega arith in
    ap₂ (λ (n : ℕ) (b : Bool). n + bool_byte b) c.loop-x.invariant (c.disagrees.ensures ∙ ap test x) ∙ sym (from_count test 0 c.loop-x.x)

pub overflow_add-count : goal.overflow_add-count
overflow_add-count c =
    let test = disagrees c.args.self.reference.now c.args.self.grabbed.now (to_z w64 (of_z w64 c.args.slip)) in
    omega (arith, loop-x-preserved c, from_most test 0 (c.loop-x.x + 1))

pub returns-clause-count : goal.returns-clause-count
unfolding disagreements
returns-clause-count c =
    let x : c.loop-x.x ≡ line_length = omega arith in
    c.loop-x.invariant ∙ rw (x, to_z-of_z c.ranges.slip)
