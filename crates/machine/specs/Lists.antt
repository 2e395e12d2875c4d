-- Lists that are put together in order of a number, as the cells of a line and the lines of a frame are, and what is in a list.
-- Assumes nothing.
use Rattle.std.specs.Prelude.{ℕ, zero, suc, Bool, false, ◌||◌, ◌≡◌, eqb, length}
use mathlib.Core.List.{List, [], ◌∷◌, ◌++◌, Memᴰ}

-- the lists that f gives for 0, 1, .. n - 1, joined in this order
unfoldable pub gather : {A : Type 0} → (ℕ → List A) → ℕ → List A
gather f zero = []
gather f (suc n) = gather f n ++ f n

-- P holds of each element of a list
abbrev pub Each : {A : Type 0} → (A → Type 0) → List A → Type 0
Each {A} P xs = (x : A) → Memᴰ x xs → P x

-- a number is one of a list
unfoldable pub is_in : ℕ → List ℕ → Bool
is_in n [] = false
is_in n (m ∷ ms) = eqb n m || is_in n ms

-- two lists are as long as is wanted
pub record AreSized (wanted : ℕ) (first second : List ℕ) : Type 0 where
  pub one : length first ≡ wanted
  pub other : length second ≡ wanted
