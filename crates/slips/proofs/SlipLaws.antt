-- The laws of slips: one slip is the best, one answer is given, and what a moved line comes to.
-- Assumes nothing.
use Prim.Native.Nat.{ℕ, zero, suc, ◌+◌, ◌-◌, ◌≤◌, ◌<◌}
use mathlib.Core.Bool.{Bool, true, false, not, ◌||◌}
use mathlib.Core.List.{List}
use mathlib.Core.Logic.{inl, ◌≢◌}
use mathlib.Core.Path.{◌≡◌, refl, sym, ap, ◌∙◌}
use native.Mathlib.Omega.{arith}
use lib.Dec.{eqb, leb}
use lib.IntN.{ℤ, pos, negsuc, nat_abs, sub_ℕ, ◌+ℤ◌}
use lib.ListN.{length, get_or}
use borrow.Author.Tests.{leb-false, le-leb, lt-leb, eq-eqb}
use Rattle.machine.specs.Sizes.{line_length}
use Rattle.machine.specs.Numbers.{passing_from}
use Rattle.slips.specs.Slip.{IsSlip, is_outside, disagrees, disagreements, Best, slipped, unsearched, slip_status, IsSlipAnswer}
use Rattle.slips.specs.SlipLaws.{OneBestSlip, OneSlipAnswer, EqualLinesHaveNoSlip, Moved, MovedLineDisagreesBySlip}
use Rattle.slips.proofs.Best.{best_one, best_exists}
use Rattle.slips.proofs.Integers.{difference}
use Rattle.machine.proofs.Numbers.{two_parts, from_same}
use Rattle.slips.specs.declared.slip.Slip.{Slip}

pub one_best_slip : OneBestSlip
one_best_slip reference grabbed =
    let found = best_exists reference grabbed in
    (found.0, found.1, best_one reference grabbed IsSlip found.0 found.1)

module _ (reference grabbed : List ℕ) where
  abbrev Answer : Type 0
  Answer = (answer : Slip) × IsSlipAnswer reference grabbed answer × ((other : Slip) → IsSlipAnswer reference grabbed other → other ≡ answer)

  go_answer : (n : ℕ) → slip_status reference grabbed ≡ n → Answer
  go_answer zero e =
      let one = one_best_slip reference grabbed in
      let answer = slipped reference grabbed one.0 in (
        answer,
        record { done = λ _. record { best = one.1; is = refl }; refused = λ no. absurd (no e) },
        λ other is. (is.done e).is ∙ ap (slipped reference grabbed) (one.2 other.slip (is.done e).best),
      )
  go_answer (suc n) e =
      let no : slip_status reference grabbed ≢ 0 = λ z. omega arith in (
        unsearched (slip_status reference grabbed),
        record { done = λ z. absurd (no z); refused = λ _. refl },
        λ other is. is.refused no,
      )

pub one_slip_answer : OneSlipAnswer
one_slip_answer reference grabbed = go_answer reference grabbed (slip_status reference grabbed) refl

-- the pixels that leave a line which moves
abbrev leaves : ℤ → ℕ → Bool
leaves slip x = is_outside (pos x +ℤ slip)

module _ (x b : ℕ) where
  before_line : x < b → is_outside (sub_ℕ x b) ≡ true
  before_line h = difference x b (λ (at : ℤ). is_outside at ≡ true) (λ _. refl) (λ more. absurd (omega arith))

  on_line : b ≤ x → x < line_length → is_outside (sub_ℕ x b) ≡ false
  on_line h k =
      difference x b (λ (at : ℤ). is_outside at ≡ false) (λ less. absurd (omega arith)) (λ _. lt-leb line_length (x - b) (omega arith))

leaving : (slip : ℤ) → IsSlip slip → length (passing_from (leaves slip) 0 line_length) ≡ nat_abs slip
leaving (pos n) is =
    let parts : line_length ≡ line_length - n + n = omega arith in
    let count = two_parts (leaves (pos n)) (line_length - n) n false true
    (λ k h. lt-leb line_length (k + n) (omega arith))
    (λ k h. le-leb line_length (line_length - n + k + n) (omega arith)) in
    ap (λ (size : ℕ). length (passing_from (leaves (pos n)) 0 size)) parts ∙ count ∙ (omega arith)
leaving (negsuc n) is =
    let parts : line_length ≡ suc n + (line_length - suc n) = omega arith in
    let count = two_parts (leaves (negsuc n)) (suc n) (line_length - suc n) true false
    (λ k h. before_line k (suc n) (omega arith))
    (λ k h. on_line (suc n + k) (suc n) (omega arith) (omega arith)) in
    ap (λ (size : ℕ). length (passing_from (leaves (negsuc n)) 0 size)) parts ∙ count ∙ (omega arith)

module _ (reference grabbed : List ℕ) (slip : ℤ) (moved : Moved reference grabbed slip) where
  -- a pixel that stays on the line is found again
  found : (x : ℕ) → x < line_length → (at : ℤ) → pos x +ℤ slip ≡ at
      → (is_outside at || not (eqb (get_or reference x 0) (get_or grabbed (nat_abs at) 0))) ≡ is_outside at
  found x h (negsuc n) e = refl
  found x h (pos at) e = go (leb line_length at) refl
    where
      go : (t : Bool) → leb line_length at ≡ t → (t || not (eqb (get_or reference x 0) (get_or grabbed at 0))) ≡ t
      go true outside = refl
      go false inside = ap not (eq-eqb (get_or reference x 0) (get_or grabbed at 0) (sym (moved x at h (leb-false line_length at inside) e)))

  moved_count : IsSlip slip → disagreements reference grabbed slip ≡ nat_abs slip
  unfolding disagreements
  moved_count is =
      ap length
      (from_same (disagrees reference grabbed slip) (leaves slip) 0 line_length (λ k h. found (0 + k) (omega arith) (pos (0 + k) +ℤ slip) refl))
      ∙ leaving slip is

pub moved_line_disagrees_by_slip : MovedLineDisagreesBySlip
moved_line_disagrees_by_slip reference grabbed slip is moved =
    let there = moved_count reference grabbed slip moved is in
    record {
      there = there;
      best = λ answer accepted answers.
          let gives = answers.done accepted in
          omega (arith, ap (λ (a : Slip). a.disagreements) gives.is, gives.best.fewest slip is);
    }

not_zero : (slip : ℤ) → slip ≢ pos 0 → 0 < nat_abs slip
not_zero (pos zero) distinct = absurd (distinct refl)
not_zero (pos (suc n)) distinct = omega arith
not_zero (negsuc n) distinct = omega arith

module _ (line : List ℕ) where
  stays : Moved line line (pos 0)
  stays x at h k e =
      let same : x + 0 ≡ at = cc in
      let x-at : at ≡ x = omega arith in
      ap (λ (n : ℕ). get_or line n 0) x-at

  nothing_disagrees : disagreements line line (pos 0) ≡ 0
  nothing_disagrees = moved_count line line (pos 0) stays (omega arith)

  zero_best : Best line line (pos 0)
  zero_best = record {
    among = omega arith;
    fewest = λ other is. omega (arith, nothing_disagrees);
    nearest = λ other is distinct e. inl (not_zero other distinct);
  }

pub equal_lines_have_no_slip : EqualLinesHaveNoSlip
equal_lines_have_no_slip line answer sized answers =
    let accepted : slip_status line line ≡ 0 = rw sized in
    let gives = answers.done accepted in
    let slip : answer.slip ≡ pos 0 = best_one line line IsSlip (pos 0) (zero_best line) answer.slip gives.best in
    gives.is ∙ ap (slipped line line) slip ∙ ap (λ (n : ℕ). record { status = 0; slip = pos 0; disagreements = n }) (nothing_disagrees line)
