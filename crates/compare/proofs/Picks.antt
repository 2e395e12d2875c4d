-- Laws of one number that is picked out of many: it stands before each of them in an order, and is one of them. The least and the
-- greatest are the cases of the two orders.
-- Assumes nothing.
use Prim.Native.Nat.{ℕ, ◌≤◌, ◌<◌, min, max}
use mathlib.Core.List.Memᴰ
use mathlib.Core.List.{List, [], ◌∷◌, map, foldl, Memᴰ}
use mathlib.Core.Logic.{◌⊎◌, inl, inr, ⊎_elim}
use mathlib.Core.Path.{◌≡◌, refl, sym, ap, subst, ◌∙◌}
use native.Mathlib.Omega.{arith}
use lib.ListN.{length}
use Rattle.machine.specs.Lists.{Each}
use Rattle.machine.proofs.Each.{each_none, each_cons, each_head, each_tail, each_mapped}
use Rattle.machine.specs.Numbers.{picked}
use Rattle.machine.proofs.Numbers.{either}

-- what is in a list of numbers is the number of one of the list
mapped : {n : ℕ} (number : ℕ → ℕ) (places : List ℕ) → Memᴰ n (map number places) → (place : ℕ) × Memᴰ place places × (number place ≡ n)
mapped number [] m = absurd (Memᴰ.not-nil m)
mapped number (place ∷ places) m =
    ⊎_elim (λ e. (place, Memᴰ.head refl, sym e))
    (λ later.
    let found = mapped number places later in
    (found.0, Memᴰ.tail found.1, found.2))
    (Memᴰ.cases_cons m)

-- of two numbers the one that stands before the other is picked
pub record Order (pick : ℕ → ℕ → ℕ) (Before : ℕ → ℕ → Type 0) : Type 0 where
  pub same : (a : ℕ) → Before a a
  pub through : (a b c : ℕ) → Before a b → Before b c → Before a c
  pub both : (a b : ℕ) → Before a b → Before b a → a ≡ b
  pub first : (a b : ℕ) → Before (pick a b) a
  pub second : (a b : ℕ) → Before (pick a b) b
  pub one : (a b : ℕ) → (pick a b ≡ a) ⊎ (pick a b ≡ b)
  pub bound : (a b c : ℕ) → Before c a → Before c b → Before c (pick a b)

abbrev pub AtLeast : ℕ → ℕ → Type 0
AtLeast a b = b ≤ a

pub rising : Order min (λ (a b : ℕ). a ≤ b)
rising = record {
  same = λ a. omega arith;
  through = λ a b c x y. omega arith;
  both = λ a b x y. omega arith;
  first = λ a b. omega arith;
  second = λ a b. omega arith;
  one = λ a b. ⊎_elim (λ h. inl (omega arith)) (λ h. inr (omega arith)) (either a b);
  bound = λ a b c x y. omega arith;
}

pub falling : Order max AtLeast
falling = record {
  same = λ a. omega arith;
  through = λ a b c x y. omega arith;
  both = λ a b x y. omega arith;
  first = λ a b. omega arith;
  second = λ a b. omega arith;
  one = λ a b. ⊎_elim (λ h. inr (omega arith)) (λ h. inl (omega arith)) (either a b);
  bound = λ a b c x y. omega arith;
}

module _ {pick : ℕ → ℕ → ℕ} {Before : ℕ → ℕ → Type 0} (order : Order pick Before) where
  -- a number that stands before what was picked so far is picked
  pub picks : (b n : ℕ) → Before n b → pick b n ≡ n
  picks b n h = order.both (pick b n) n (order.second b n) (order.bound b n n h (order.same n))

  pub fold_first : (b : ℕ) (ns : List ℕ) → Before (foldl pick b ns) b
  fold_first b [] = order.same b
  fold_first b (n ∷ ns) = order.through (foldl pick (pick b n) ns) (pick b n) b (fold_first (pick b n) ns) (order.first b n)

  pub fold_each : (b : ℕ) (ns : List ℕ) → Each (Before (foldl pick b ns)) ns
  fold_each b [] = each_none (Before b)
  fold_each b (n ∷ ns) =
      let whole = foldl pick (pick b n) ns in
      each_cons (Before whole) n ns (order.through whole (pick b n) n (fold_first (pick b n) ns) (order.second b n)) (fold_each (pick b n) ns)

  pub fold_bound : (c b : ℕ) (ns : List ℕ) → Before c b → Each (Before c) ns → Before c (foldl pick b ns)
  fold_bound c b [] h p = h
  fold_bound c b (n ∷ ns) h p =
      fold_bound c (pick b n) ns (order.bound b n c h (each_head (Before c) n ns p)) (each_tail (Before c) n ns p)

  pub fold_one : (b : ℕ) (ns : List ℕ) → Memᴰ (foldl pick b ns) (b ∷ ns)
  fold_one b [] = Memᴰ.head refl
  fold_one b (n ∷ ns) =
      ⊎_elim
      (λ (e : foldl pick (pick b n) ns ≡ pick b n).
      ⊎_elim (λ (a : pick b n ≡ b). Memᴰ.head (e ∙ a)) (λ (a : pick b n ≡ n). Memᴰ.tail (Memᴰ.head (e ∙ a))) (order.one b n))
      (λ later. Memᴰ.tail (Memᴰ.tail later))
      (Memᴰ.cases_cons (fold_one (pick b n) ns))

  -- one of the list that stands before all of it decides
  pub fold_is : (b m : ℕ) (ns : List ℕ) → Memᴰ m ns → Each (Before m) ns → foldl pick b ns ≡ pick b m
  fold_is b m ns here p =
      order.both (foldl pick b ns) (pick b m) (order.bound b m (foldl pick b ns) (fold_first b ns) (fold_each b ns m here))
      (fold_bound (pick b m) b ns (order.first b m) (λ n at. order.through (pick b m) m n (order.second b m) (p n at)))

  -- a start that stands before all of the list stays
  pub fold_kept : (b : ℕ) (ns : List ℕ) → Each (Before b) ns → foldl pick b ns ≡ b
  fold_kept b ns p = order.both (foldl pick b ns) b (fold_first b ns) (fold_bound b b ns (order.same b) p)

  -- a start that none stands behind does not matter
  pub fold_picked : (b n : ℕ) (ns : List ℕ) → Before n b → foldl pick b (n ∷ ns) ≡ picked pick (n ∷ ns)
  fold_picked b n ns h = ap (λ (m : ℕ). foldl pick m ns) (picks b n h)

  pub picked_each : (ns : List ℕ) → Each (Before (picked pick ns)) ns
  picked_each [] = each_none (Before 0)
  picked_each (n ∷ ns) = each_cons (Before (foldl pick n ns)) n ns (fold_first n ns) (fold_each n ns)

  -- numbers that are all the same
  pub fold_all : (b m : ℕ) (ns : List ℕ) → Each (λ (n : ℕ). n ≡ m) ns → 0 < length ns → foldl pick b ns ≡ pick b m
  fold_all b m [] p h = absurd (omega arith)
  fold_all b m (n ∷ ns) p h =
      fold_is b m (n ∷ ns) (Memᴰ.head (sym (each_head (λ (n : ℕ). n ≡ m) n ns p))) (λ k at. subst (Before m) (sym (p k at)) (order.same m))

-- the picked one of the numbers that a list has
module _ {pick : ℕ → ℕ → ℕ} {Before : ℕ → ℕ → Type 0} (order : Order pick Before) (number : ℕ → ℕ) where
  pub picked_before : (places : List ℕ) → Each (λ (place : ℕ). Before (picked pick (map number places)) (number place)) places
  picked_before places = each_mapped (Before (picked pick (map number places))) number places (picked_each order (map number places))

  -- one of the list has it
  pub picked_one : (places : List ℕ) → 0 < length places → (place : ℕ) × Memᴰ place places × (number place ≡ picked pick (map number places))
  picked_one [] h = absurd (omega arith)
  picked_one (place ∷ places) h = mapped number (place ∷ places) (fold_one order (number place) (map number places))
