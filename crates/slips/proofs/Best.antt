-- The best of some slips is one, and there is one: slip by slip from -12 on, the next is taken or left by the program's own test.
-- Assumes nothing.
use Prim.Native.Nat.{ℕ, zero, suc, ◌+◌, ◌≤◌, ◌<◌}
use mathlib.Core.Bool.{Bool, true, false, cond}
use mathlib.Core.List.{List}
use mathlib.Core.Logic.{◌⊎◌, inl, inr, ⊎_elim}
use mathlib.Core.Path.{◌≡◌, refl, sym, ap, ◌∙◌}
use native.Mathlib.Nat.{eq-or-lt_of_le, le_refl}
use native.Mathlib.Numerals.{add-one}
use native.Mathlib.Omega.{arith}
use lib.Dec.{eqb, ltb}
use lib.IntN.{ℤ, nat_abs, sub_ℕ, ℤ_discrete}
use borrow.Author.Tests.{eqb-true, eqb-false, ltb-true, ltb-false}
use Rattle.slips.specs.Internal.{is_better}
use Rattle.slips.specs.Slip.{farthest_slip, IsSlip, Behind, disagreements, BestOf, Best}
use Rattle.slips.proofs.Slips.{first_slip, place, last_place, place_one, place_most, place_at, slip_at, later_positive, positive_one}

-- the slips up to a place
abbrev pub UpTo : ℕ → ℤ → Type 0
UpTo n slip = IsSlip slip × (place slip ≤ n)

-- two slips are not each behind the other
behind_one : (a b : ℤ) → Behind a b → Behind b a → a ≡ b
behind_one a b (inl h) (inl k) = absurd (omega arith)
behind_one a b (inl h) (inr k) = absurd (omega arith)
behind_one a b (inr h) (inl k) = absurd (omega arith)
behind_one a b (inr h) (inr k) = positive_one a b h.1 k.1 h.0

behind_far : (other slip : ℤ) → Behind other slip → nat_abs slip ≤ nat_abs other
behind_far other slip (inl h) = omega arith
behind_far other slip (inr h) = omega arith

module _ (reference grabbed : List ℕ) where
  abbrev count : ℤ → ℕ
  count = disagreements reference grabbed

  abbrev pub BestTo : ℕ → ℤ → Type 0
  BestTo n = BestOf reference grabbed (UpTo n)

  module _ (Among : ℤ → Type 0) (slip : ℤ) (best : BestOf reference grabbed Among slip) where
    pub best_one : (other : ℤ) → BestOf reference grabbed Among other → other ≡ slip
    best_one other rival = go (ℤ_discrete other slip)
      where
        same : count other ≡ count slip
        same = omega (arith, best.fewest other rival.among, rival.fewest slip best.among)

        go : Dec (other ≡ slip) → other ≡ slip
        go (yes e) = e
        go (no distinct) =
            behind_one other slip
            (best.nearest other rival.among distinct same)
            (rival.nearest slip best.among (λ e. distinct (sym e)) (sym same))

    -- one with as many disagreements is not nearer zero
    no_nearer : (other : ℤ) → Among other → count other ≡ count slip → nat_abs slip ≤ nat_abs other
    no_nearer other among e = go (ℤ_discrete other slip)
      where
        go : Dec (other ≡ slip) → nat_abs slip ≤ nat_abs other
        go (yes same) = rw same (le_refl (nat_abs slip))
        go (no distinct) = behind_far other slip (best.nearest other among distinct e)

  pub best_first : BestTo 0 first_slip
  best_first =
      let only : (other : ℤ) → UpTo 0 other → other ≡ first_slip =
      λ other h. place_one other first_slip h.0 (omega arith) (omega (arith, h.1)) in
      record {
        among = (omega arith, omega arith);
        fewest = λ other h. rw (only other h) (le_refl _);
        nearest = λ other h distinct e. absurd (distinct (only other h));
      }

  -- one slip more, at the next place
  module _ (n : ℕ) (best slip : ℤ) (is : IsSlip slip) (next : place slip ≡ n + 1) (before : BestTo n best) where
    which : (other : ℤ) → UpTo (n + 1) other → UpTo n other ⊎ (other ≡ slip)
    which other h =
        ⊎_elim
        (λ (last : place other ≡ n + 1). inr (place_one other slip h.0 is (last ∙ sym next)))
        (λ (less : place other < n + 1). inl (h.0, omega arith))
        (eq-or-lt_of_le h.1)

    -- what the program's test tells, that the slip is better or that it is not
    abbrev Told : Bool → Type 0
    Told true = (count slip < count best) ⊎ ((count slip ≡ count best) × (nat_abs slip < nat_abs best))
    Told false = (count best < count slip) ⊎ ((count slip ≡ count best) × (nat_abs best ≤ nat_abs slip))

    told : (t : Bool) → is_better slip (count slip) best (count best) ≡ t → Told t
    told = go (eqb (count slip) (count best)) refl
      where
        go : (same : Bool) → eqb (count slip) (count best) ≡ same → (t : Bool)
            → cond same (ltb (nat_abs slip) (nat_abs best)) (ltb (count slip) (count best)) ≡ t → Told t
        go true e true nearer = inr (eqb-true _ _ e, ltb-true _ _ nearer)
        go true e false farther = inr (eqb-true _ _ e, ltb-false _ _ farther)
        go false e true fewer = inl (ltb-true _ _ fewer)
        go false e false more = inl (omega (arith, ltb-false (count slip) (count best) more, eqb-false (count slip) (count best) e))

    taken_fewest : Told true → (other : ℤ) → UpTo n other → count slip ≤ count other
    taken_fewest (inl fewer) other earlier = omega (arith, before.fewest other earlier)
    taken_fewest (inr nearer) other earlier = omega (arith, before.fewest other earlier)

    taken_nearest : Told true → (other : ℤ) → UpTo n other → count other ≡ count slip → Behind other slip
    taken_nearest (inl fewer) other earlier e = absurd (omega (arith, before.fewest other earlier))
    taken_nearest (inr nearer) other earlier e = inl (omega (arith, no_nearer (UpTo n) best before other earlier (e ∙ nearer.0)))

    pub best_taken : is_better slip (count slip) best (count best) ≡ true → BestTo (n + 1) slip
    best_taken e = record {
      among = (is, omega arith);
      fewest = λ other h. ⊎_elim (taken_fewest (told true e) other) (λ same. rw same (le_refl _)) (which other h);
      nearest = λ other h distinct as_many.
          ⊎_elim (λ earlier. taken_nearest (told true e) other earlier as_many) (λ same. absurd (distinct same)) (which other h);
    }

    kept_fewest : Told false → count best ≤ count slip
    kept_fewest (inl more) = omega arith
    kept_fewest (inr farther) = omega arith

    kept_nearest : Told false → count slip ≡ count best → Behind slip best
    kept_nearest (inl more) e = absurd (omega arith)
    kept_nearest (inr farther) e =
        ⊎_elim
        (λ (as-far : nat_abs best ≡ nat_abs slip).
        inr (sym as-far, later_positive best slip (omega (arith, before.among.1)) (sym as-far)))
        inl
        (eq-or-lt_of_le farther.1)

    pub best_kept : is_better slip (count slip) best (count best) ≡ false → BestTo (n + 1) best
    best_kept e = record {
      among = (before.among.0, omega (arith, before.among.1));
      fewest = λ other h. ⊎_elim (before.fewest other) (λ same. rw same (kept_fewest (told false e))) (which other h);
      nearest = λ other h distinct as_many.
          ⊎_elim
          (λ earlier. before.nearest other earlier distinct as_many)
          (λ (same : other ≡ slip). rw same (kept_nearest (told false e) (sym (ap count same) ∙ as_many)))
          (which other h);
    }

  pub best_whole : (slip : ℤ) → BestTo last_place slip → Best reference grabbed slip
  best_whole slip best = record {
    among = best.among.0;
    fewest = λ other is. best.fewest other (is, place_most other is);
    nearest = λ other is. best.nearest other (is, place_most other is);
  }

  module _ (n : ℕ) (h : suc n ≤ last_place) (best : ℤ) (before : BestTo n best) where
    abbrev next : ℤ
    next = sub_ℕ (suc n) farthest_slip

    go_next : (t : Bool) → is_better next (count next) best (count best) ≡ t → (slip : ℤ) × BestTo (suc n) slip
    go_next true e = (next, rw (add-one n) at (best_taken n best next (slip_at (suc n) h) (omega (arith, place_at (suc n))) before e))
    go_next false e = (best, rw (add-one n) at (best_kept n best next (slip_at (suc n) h) (omega (arith, place_at (suc n))) before e))

  best_at : (n : ℕ) → n ≤ last_place → (slip : ℤ) × BestTo n slip
  best_at zero h = (first_slip, best_first)
  best_at (suc n) h =
      let earlier = best_at n (omega arith) in
      go_next n h earlier.0 earlier.1 _ refl

  pub best_exists : (slip : ℤ) × Best reference grabbed slip
  best_exists = let found = best_at last_place (omega arith) in (found.0, best_whole found.0 found.1)
