-- A pixel more adds 1 to the count where it differs, and the places of a line are 240 at most.
-- The laws are those that `slips::candidate` takes too, one use each: a lemma of both would take all that they take.
-- Assumes nothing.
use Rattle.std.proofs.Common.{◌+◌, ◌*◌, ℕ, Bool, length, sym, ap, ap₂, ◌∙◌, arith}
use mir.Val.{bool_byte}
use Rattle.machine.proofs.Numbers.{from_none, from_count, from_most}
use Rattle.machine.specs.Sizes.{line_length}
use Rattle.compare.specs.Places.{differs}
use Rattle.compare.proofs.pixels.Line.differing_pixels.Goals as goal

pub loop-x-init : goal.loop-x-init
loop-x-init c = sym (ap length (from_none _ _))

pub loop-x-preserved : goal.loop-x-preserved
loop-x-preserved c =
    let a = c.args in
    let here = c.loop-x in
    let test = differs a.self.frames.first.now a.self.frames.second.now in
    ap₂ (λ (n : ℕ) (b : Bool). n + bool_byte b) here.invariant c.differs_at.ensures ∙ sym (from_count test (line_length * a.self.number) here.x)

pub overflow_add-count : goal.overflow_add-count
overflow_add-count c =
    let a = c.args in
    omega (arith, loop-x-preserved c, from_most (differs a.self.frames.first.now a.self.frames.second.now) (line_length * a.self.number) (c.loop-x.x + 1))
