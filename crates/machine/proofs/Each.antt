-- What holds of each element of a list holds of each of its parts, and the other way round.
-- Assumes nothing.
use Prim.Native.Nat.{ℕ, zero, suc, ◌<◌}
use mathlib.Core.List.Memᴰ
use mathlib.Core.List.{List, [], ◌∷◌, ◌++◌, map, flat_map, flatten}
use mathlib.Core.Logic.{⊎_elim}
use mathlib.Core.Path.{◌≡◌, refl, sym, subst}
use native.Mathlib.Nat.{eq-or-lt_of_le}
use native.Mathlib.Omega.{arith}
use lib.ListN.{replicate}
use Rattle.machine.specs.Lists.{gather, Each}

-- by membership, as `Each` is defined: the library's laws are of its own `All`
module _ {A : Type 0} (P : A → Type 0) where
  pub each_none : Each P []
  each_none x m = absurd (Memᴰ.not-nil m)

  pub each_cons : (x : A) (xs : List A) → P x → Each P xs → Each P (x ∷ xs)
  each_cons x xs px pxs y m = ⊎_elim (λ e. subst P (sym e) px) (pxs y) (Memᴰ.cases_cons m)

  pub each_append : (xs ys : List A) → Each P xs → Each P ys → Each P (xs ++ ys)
  each_append xs ys pxs pys x m = ⊎_elim (pxs x) (pys x) (Memᴰ.append_cases xs m)

  pub each_left : (xs ys : List A) → Each P (xs ++ ys) → Each P xs
  each_left xs ys p x m = p x (Memᴰ.append_left ys m)

  pub each_right : (xs ys : List A) → Each P (xs ++ ys) → Each P ys
  each_right xs ys p x m = p x (Memᴰ.append_right xs m)

  pub each_gather : (f : ℕ → List A) (n : ℕ) → ((k : ℕ) → k < n → Each P (f k)) → Each P (gather f n)
  unfolding gather
  each_gather f zero p = each_none
  each_gather f (suc n) p = each_append (gather f n) (f n) (each_gather f n (λ k h. p k (omega arith))) (p n (omega arith))

  -- and back, of the k-th piece
  pub each_piece : (f : ℕ → List A) (n : ℕ) → Each P (gather f n) → (k : ℕ) → k < n → Each P (f k)
  unfolding gather
  each_piece f zero p k h = absurd (omega arith)
  each_piece f (suc n) p k h =
      ⊎_elim (λ (e : k ≡ n). rw e (each_right (gather f n) (f n) p)) (λ less. each_piece f n (each_left (gather f n) (f n) p) k less)
      (eq-or-lt_of_le (omega arith))

-- by membership, as `Each` is defined: the library's laws are of its own `All`
module _ {A : Type 0} (P : A → Type 0) where
  pub each_replicate : (n : ℕ) {x : A} → P x → Each P (replicate n x)
  each_replicate zero p = each_none P
  each_replicate (suc n) {x} p = each_cons P x (replicate n x) p (each_replicate n p)

  pub each_head : (x : A) (xs : List A) → Each P (x ∷ xs) → P x
  each_head x xs p = p x (Memᴰ.head refl)

  pub each_tail : (x : A) (xs : List A) → Each P (x ∷ xs) → Each P xs
  each_tail x xs p y m = p y (Memᴰ.tail m)

  pub each_flatten : (xs : List (List A)) → Each (Each P) xs → Each P (flatten xs)
  unfolding flatten
  each_flatten [] p = each_none P
  each_flatten (x ∷ xs) p =
      each_append P x (flatten xs) (p x (Memᴰ.head refl)) (each_flatten xs (λ y m. p y (Memᴰ.tail m)))

module _ {A B : Type 0} (P : B → Type 0) where
  pub each_map : (f : A → B) (xs : List A) → Each (λ (x : A). P (f x)) xs → Each P (map f xs)
  each_map f [] p = each_none P
  each_map f (x ∷ xs) p =
      each_cons P (f x) (map f xs) (p x (Memᴰ.head refl)) (each_map f xs (λ y m. p y (Memᴰ.tail m)))

  -- and back
  pub each_mapped : (f : A → B) (xs : List A) → Each P (map f xs) → Each (λ (x : A). P (f x)) xs
  each_mapped f xs p x m = p (f x) (Memᴰ.map f m)

  pub each_flat_map : (f : A → List B) (xs : List A) → Each (λ (x : A). Each P (f x)) xs → Each P (flat_map f xs)
  unfolding flat_map
  each_flat_map f [] p = each_none P
  each_flat_map f (x ∷ xs) p =
      each_append P (f x) (flat_map f xs) (p x (Memᴰ.head refl)) (each_flat_map f xs (λ y m. p y (Memᴰ.tail m)))

  -- and back, of each list that was joined
  pub each_joined : (f : A → List B) (xs : List A) → Each P (flat_map f xs) → Each (λ (x : A). Each P (f x)) xs
  unfolding flat_map
  each_joined f [] p = each_none (λ (x : A). Each P (f x))
  each_joined f (x ∷ xs) p =
      each_cons (λ (x : A). Each P (f x)) x xs (each_left P (f x) (flat_map f xs) p)
      (each_joined f xs (each_right P (f x) (flat_map f xs) p))
