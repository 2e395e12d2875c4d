-- The laws of comparisons, by the one list of differing places that every answer is made of.
-- Assumes nothing.
use Prim.Native.Nat.{ℕ, zero, suc, ◌+◌, ◌<◌}
use mathlib.Core.Bool.{Bool, true, false, not, cond}
use mathlib.Core.List.{List, [], ◌∷◌, ◌++◌}
use mathlib.Core.Path.{◌≡◌, refl, sym, ap, subst, ◌∙◌}
use native.Mathlib.Omega.{arith}
use lib.Dec.{eqb}
use lib.ListN.{length, get_or, length-append}
use lib.Seq.{ext_get_or}
use borrow.Author.Tests.{eq-eqb, ne_eqb, eqb-true, eqb-false, not-false}
use Rattle.std.proofs.lemmas.List.{nil_from_length}
use Rattle.machine.specs.Lists.{gather}
use Rattle.machine.specs.Refusal.{output_check}
use Rattle.machine.specs.Sizes.{lines, line_length, frame_length}
use Rattle.machine.proofs.Refusals.{done}
use Rattle.compare.specs.Answer.{report, line_counts, status_of, compare_answer, counts_left, cells_left}
use Rattle.compare.specs.Internal.{line_places, counts_in}
use Rattle.compare.specs.Laws.{ComparisonIsSymmetric, LineCountsSumToPixels, EmptyIsEqual, Smallest, RectangleIsSmallest}
use Rattle.machine.specs.Numbers.{sum}
use Rattle.compare.specs.Places.{x_of, line_of, differs, differences}
use Rattle.compare.proofs.Accepted.{accepted_lengths}
use Rattle.machine.proofs.Numbers.{start_pieces, from_nothing, from_nowhere, from_same}
use Rattle.compare.proofs.Picks.{rising, falling, picked_before, picked_one}
use Rattle.compare.proofs.Places.{equal}
use Rattle.compare.proofs.Whole.{counts_are}
use Rattle.compare.specs.declared.comparison.Comparison.{Comparison}

-- what an accepted comparison answers and leaves
module _ (first second counts cells : List ℕ) (accepted : status_of first second counts cells ≡ 0) where
  answered : compare_answer first second counts cells ≡ report (differences first second)
  unfolding compare_answer
  answered = done _ _ _ accepted

  counted : counts_left first second counts cells ≡ line_counts (differences first second)
  unfolding counts_left
  counted = done _ _ _ accepted

-- which of two numbers comes first does not matter to a test of equality, nor which of two lengths to refusal 2
eqb_swap : (a b : ℕ) → eqb a b ≡ eqb b a
eqb_swap a b = go (eqb a b) refl
  where
    go : (t : Bool) → eqb a b ≡ t → eqb a b ≡ eqb b a
    go true e = e ∙ sym (eq-eqb b a (sym (eqb-true a b e)))
    go false e = e ∙ sym (ne_eqb b a (λ same. eqb-false a b e (sym same)))

cond_swap : (p q : Bool) (number later : ℕ) → cond p number (cond q number later) ≡ cond q number (cond p number later)
cond_swap true true number later = refl
cond_swap true false number later = refl
cond_swap false true number later = refl
cond_swap false false number later = refl

pub comparison_is_symmetric : ComparisonIsSymmetric
unfolding compare_answer counts_left cells_left
comparison_is_symmetric first second counts cells =
    let status : status_of first second counts cells ≡ status_of second first counts cells =
    cond_swap (output_check frame_length (length first)).applies (output_check frame_length (length second)).applies 2 _ in
    let places : differences first second ≡ differences second first =
    from_same (differs first second) (differs second first) 0 frame_length (λ k h. ap not (eqb_swap (get_or first (0 + k) 0) (get_or second (0 + k) 0))) in
    (rw (status, places), rw (status, places), rw (status, places))

sum_append : (xs ys : List ℕ) → sum (xs ++ ys) ≡ sum xs + sum ys
sum_append [] ys = omega arith
sum_append (x ∷ xs) ys = omega (arith, sum_append xs ys)

-- the lengths of lists that are joined
sum_lengths : (piece : ℕ → List ℕ) (n : ℕ) → sum (gather (λ (k : ℕ). length (piece k) ∷ []) n) ≡ length (gather piece n)
unfolding gather
sum_lengths piece zero = refl
sum_lengths piece (suc n) =
    sum_append (gather (λ (k : ℕ). length (piece k) ∷ []) n) (length (piece n) ∷ [])
    ∙ omega (arith, sum_lengths piece n, length-append (gather piece n) (piece n))

pub line_counts_sum_to_pixels : LineCountsSumToPixels
unfolding report counts_in
line_counts_sum_to_pixels first second counts cells accepted =
    ap sum (counted first second counts cells accepted ∙ sym (counts_are first second))
    ∙ sum_lengths (line_places first second) lines
    ∙ ap length (sym (start_pieces (differs first second) line_length lines))
    ∙ sym (ap (λ (c : Comparison). c.pixels) (answered first second counts cells accepted))

pub empty_is_equal : EmptyIsEqual
unfolding report
empty_is_equal first second counts cells accepted =
    let sized = (accepted_lengths first second counts cells accepted).frames in
    let places = differences first second in
    let is = ap (λ (c : Comparison). c.empty) (answered first second counts cells accepted) in (
      λ e.
          let none : places ≡ [] = nil_from_length places (eqb-true (length places) 0 (sym is ∙ e)) in
          ext_get_or 0 first second (sized.one ∙ sym sized.other)
          (λ i h.
          let place : 0 + i ≡ i = omega arith in
          let same = from_nowhere (differs first second) 0 frame_length none i (omega (arith, sized.one)) in
          eqb-true (get_or first i 0) (get_or second i 0) (not-false (eqb (get_or first i 0) (get_or second i 0)) (rw place at same))),
      λ e.
          let none : places ≡ [] =
          from_nothing (differs first second) 0 frame_length (λ k h. equal first second (0 + k) (ap (λ (l : List ℕ). get_or l (0 + k) 0) e)) in
          is ∙ ap (λ (l : List ℕ). eqb (length l) 0) none,
    )

pub rectangle_is_smallest : RectangleIsSmallest
unfolding report
rectangle_is_smallest first second counts cells accepted full =
    let places = differences first second in
    let is = answered first second counts cells accepted in
    let some : 0 < length places = omega (arith, eqb-false (length places) 0 (sym (ap (λ (c : Comparison). c.empty) is) ∙ full)) in
    subst (λ (c : Comparison). Smallest c places) (sym is)
    (record {
      holds = λ place at. record {
        left = picked_before rising x_of places place at;
        right = picked_before falling x_of places place at;
        top = picked_before rising line_of places place at;
        bottom = picked_before falling line_of places place at;
      };
      left = picked_one rising x_of places some;
      right = picked_one falling x_of places some;
      top = picked_one rising line_of places some;
      bottom = picked_one falling line_of places some;
    })
