-- What a search over a range of numbers tells, where the closure computes a test and stays as it was: `find`, `rfind` and `any`.
-- Assumes nothing.
use Rattle.std.proofs.Common.{◌≡◌, ℕ, ◌+◌, ◌-◌, ◌≤◌, ◌<◌, Bool, true, false, List, [], ◌∷◌, Option, Some, None, refl, sym, ap, subst, ◌∙◌, arith, Bor, length, get_or}
use mathlib.Core.Logic.{⊎_elim}
use Rattle.std.proofs.iter.Yields.{nat_range_steps}
use Rattle.std.proofs.lemmas.Iterator.{YieldsList-from_range, cases_from_any, first_from_Range}
use Rattle.std.proofs.lemmas.List.FromFn.{length-range_with_len, get_or-range_with_len}
use Rattle.std.specs.Bool.{⊤, MatchBool}
use Rattle.std.specs.Fn.{Called, CalledAt}
use Rattle.std.specs.Iterator.{Yields, YieldsThen}
use Rattle.std.specs.List.{FoldsTo, range_with_len, AllWithin, HoldsAt}
use Rattle.std.specs.Option.{MatchOption}
use Rattle.std.specs.Range.{range_steps_back}
use Rattle.std.specs.declared.ops.Range.{Range}
use denote.Param.Members.{Mut}
use Rattle.machine.proofs.Numbers.{either}

-- a range gives its numbers from its back
abbrev backs : Range ℕ → Option ℕ → Range ℕ → Type 0
backs = range_steps_back (λ (a b : ℕ). b - a) (λ (a b : ℕ). b ≡ a + 1)

-- no number passes, or one does, and none before it, or none behind it
abbrev pub First : (ℕ → Bool) → Range ℕ → Option ℕ → Type 0
First test s r = MatchOption r ((k : ℕ) → s.start ≤ k → k < s.end → test k ≡ false)
    (λ i. (s.start ≤ i) × (i < s.end) × (test i ≡ true) × ((k : ℕ) → s.start ≤ k → k < i → test k ≡ false))

abbrev pub Last : (ℕ → Bool) → Range ℕ → Option ℕ → Type 0
Last test s r = MatchOption r ((k : ℕ) → s.start ≤ k → k < s.end → test k ≡ false)
    (λ i. (s.start ≤ i) × (i < s.end) × (test i ≡ true) × ((k : ℕ) → i < k → k < s.end → test k ≡ false))

module _ {F : Type 0} {g : Mut F (Bor ℕ × Unit {0}) Bool} (test : ℕ → Bool) (f : F)
    (computes : (x : ℕ) (b : Bool) (q : F) → CalledAt g f x b q → (q ≡ f) × (b ≡ test x)) where
  pub first_found : (s u : Range ℕ) (r : Option ℕ)
      → (xs : List ℕ) × (j : F) × YieldsThen nat_range_steps s xs r u × FoldsTo (λ p x q. CalledAt g p x false q) f xs j × MatchOption r ⊤ (λ x. (h : F) × CalledAt g j x true h)
      → First test s r
  first_found s u r ran =
      first_from_Range s u f r (λ x. test x ≡ true) (λ x. test x ≡ false) ran (λ x q k. sym (computes x true q k).1) (λ x q k. ((computes x false q k).0, sym (computes x false q k).1))

  -- what came before from the back
  passed : (xs : List ℕ) (s t : Range ℕ) (j p : F) → p ≡ f → Yields backs s xs t → FoldsTo (λ p x q. CalledAt g p x false q) p xs j
      → (t.start ≡ s.start) × (t.end ≤ s.end) × (j ≡ f) × ((k : ℕ) → t.end ≤ k → k < s.end → test k ≡ false)
  passed [] s t j p e y c = (sym (ap (λ (v : Range ℕ). v.start) y), omega (arith, ap (λ (v : Range ℕ). v.end) y), sym c ∙ e, λ k a b. absurd (omega (arith, ap (λ (v : Range ℕ). v.end) y)))
  passed (x ∷ xs) s t j p e y c =
      let called = computes x false c.0 (subst (λ (v : F). CalledAt g v x false c.0) e c.1) in
      let later = passed xs y.0 t j c.0 called.0 y.2 c.2 in
      let step = y.1 in (
        later.0 ∙ step.0,
        omega (arith, later.1, step.1.2),
        later.2,
        λ k a b. ⊎_elim
            (λ (here : y.0.end ≤ k). subst (λ (n : ℕ). test n ≡ false) {x = x} {y = k} (omega (arith, step.1.1, step.1.2)) (sym called.1))
            (λ (less : k < y.0.end). later.3 k a less)
            (either y.0.end k),
      )

  pub last_found : (s u : Range ℕ) (r : Option ℕ)
      → (xs : List ℕ) × (j : F) × YieldsThen backs s xs r u × FoldsTo (λ p x q. CalledAt g p x false q) f xs j × MatchOption r ⊤ (λ x. (h : F) × CalledAt g j x true h)
      → Last test s r
  last_found s u r ran = ends r ran.2.2 ran.4
    where
      before : (ran.2.0.start ≡ s.start) × (ran.2.0.end ≤ s.end) × (ran.1 ≡ f) × ((k : ℕ) → ran.2.0.end ≤ k → k < s.end → test k ≡ false)
      before = passed ran.0 s ran.2.0 ran.1 f refl ran.2.1 ran.3

      ends : (o : Option ℕ) → backs ran.2.0 o u → MatchOption o ⊤ (λ x. (h : F) × CalledAt g ran.1 x true h) → Last test s o
      ends None step t = λ k a b. before.3 k (omega (arith, before.0, step.1.0)) b
      ends (Some x) step t =
          let called = computes x true t.0 (subst (λ (v : F). CalledAt g v x true t.0) before.2 t.1) in (
            omega (arith, before.0, step.1.0, step.1.1, step.1.2),
            omega (arith, before.1, step.1.1, step.1.2),
            sym called.1,
            λ k a b. before.3 k (omega (arith, step.1.1, step.1.2)) b,
          )

module _ {F : Type 0} {g : Mut F (ℕ × Unit {0}) Bool} (test : ℕ → Bool) (f : F)
    (computes : (x : ℕ) (b : Bool) (q : F) → Called g f (x, tt) b q → (q ≡ f) × (b ≡ test x)) where
  -- whether one of the first numbers passes
  pub some_found : (count : ℕ) (u : Range ℕ) (r : Bool)
      → (xs : List ℕ) × (o : Option ℕ) × (j : F) × YieldsThen nat_range_steps (record { start = 0; end = count }) xs o u × FoldsTo (λ p x q. Called g p (x, tt) false q) f xs j × MatchOption o (r ≡ false) (λ x. (r ≡ true) × ((h : F) × Called g j (x, tt) true h))
      → MatchBool r ((k : ℕ) × (k < count) × (test k ≡ true)) ((k : ℕ) → k < count → test k ≡ false)
  some_found count u r ran =
      tell r (cases_from_any u f r (λ x. test x ≡ true) (λ x. test x ≡ false) ran (YieldsList-from_range 0 count count refl (omega arith))
      (λ x q k. sym (computes x true q k).1) (λ x q k. ((computes x false q k).0, sym (computes x false q k).1)))
    where
      all : List ℕ
      all = range_with_len 0 count

      long : length all ≡ count
      long = length-range_with_len 0 count

      at : (k : ℕ) → k < count → get_or all k 0 ≡ k
      at k h = omega (arith, get_or-range_with_len 0 count k 0 h)

      tell : (b : Bool) → MatchBool b ((k : ℕ) × (k < length all) × HoldsAt (λ x. test x ≡ true) all k) (AllWithin (λ x. test x ≡ false) all 0 (length all))
          → MatchBool b ((k : ℕ) × (k < count) × (test k ≡ true)) ((k : ℕ) → k < count → test k ≡ false)
      tell true h =
          let k = h.0 in
          let less : k < count = omega (arith, h.1, long) in
          (k, less, subst (λ (n : ℕ). test n ≡ true) (at k less) (h.2 0))
      tell false h = λ k less. subst (λ (n : ℕ). test n ≡ false) (at k less) (h k 0 (omega arith) (omega (arith, long)))
