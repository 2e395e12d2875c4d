-- One slip more: it is taken where it is better, and the best stays where it is not.
-- Assumes nothing.
use Rattle.std.proofs.Common.{◌≡◌, ◌+◌, ◌-◌, true, false, pos, ◌+ℤ◌, w64, to_z, of_z, arith, rules}
use Rattle.std.proofs.lemmas.Int.{ints}
use Rattle.machine.proofs.Numbers.{from_most}
use Rattle.machine.specs.Sizes.{line_length}
use Rattle.slips.specs.Internal.{is_better}
use Rattle.slips.specs.Slip.{IsSlip, disagrees, disagreements}
use Rattle.slips.proofs.Best.{best_taken, best_kept}
use Rattle.slips.proofs.Slips.{place, place_most, place_next}
use Rattle.slips.proofs.slip.Lines.best_slip.Goals.{then-is_better, else-is_better}
use Rattle.slips.proofs.slip.Lines.best_slip.Goals as goal

pub loop-slip-preserved : goal.loop-slip-preserved
loop-slip-preserved c =
    let reference = c.args.self.reference.now in
    let grabbed = c.args.self.grabbed.now in
    let here = c.loop-slip.invariant in
    let best = c.loop-slip.best.slip in
    let slip = to_z w64 c.loop-slip.slip-bits in
    let is : IsSlip slip = search rules in
    let next : to_z w64 (of_z w64 (slip +ℤ pos 1)) ≡ slip +ℤ pos 1 = omega (arith, ints) in
    let passed = place slip - 1 in
    let at : place slip ≡ passed + 1 = omega (arith, here.after_first) in
    let more : place (slip +ℤ pos 1) ≡ passed + 1 + 1 = omega (arith, place_next slip is) in
    let last : passed + 1 + 1 - 1 ≡ passed + 1 = omega arith in
    rw (next, more, last)
    (elim c.if-is_better.branch [
      | then-is_better w ↦
          let told : is_better slip (disagreements reference grabbed slip) best (disagreements reference grabbed best) ≡ true =
          cc (w.if-is_better.true, c.is_better.ensures, c.candidate-next.ensures.slip, c.candidate-next.ensures.count, here.counted) in
          rw (w.best-is, c.candidate-next.ensures.slip)
          (record {
            after_first = omega arith;
            before_end = omega (arith, place_most slip is);
            best_so_far = best_taken reference grabbed passed best slip is at here.best_so_far told;
            counted = c.candidate-next.ensures.count;
          })
      | else-is_better w ↦
          let told : is_better slip (disagreements reference grabbed slip) best (disagreements reference grabbed best) ≡ false =
          cc (w.if-is_better.false, c.is_better.ensures, c.candidate-next.ensures.slip, c.candidate-next.ensures.count, here.counted) in
          rw w.best-is
          (record {
            after_first = omega arith;
            before_end = omega (arith, place_most slip is);
            best_so_far = best_kept reference grabbed passed best slip is at here.best_so_far told;
            counted = here.counted;
          })
    ])

pub overflow_cast-result-2 : goal.overflow_cast-result-2
unfolding disagreements
overflow_cast-result-2 c =
    let test = disagrees c.args.self.reference.now c.args.self.grabbed.now c.loop-slip.best.slip in
    omega (arith, c.loop-slip.invariant.counted, from_most test 0 line_length)
