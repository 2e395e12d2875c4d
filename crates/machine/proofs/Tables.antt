-- A table that follows a rule: the test of it, which computes, and what it says.
-- Assumes nothing.
use Prim.Native.Nat.{ℕ, zero, suc, ◌<◌}
use mathlib.Core.Bool.{Bool, true, ◌&&◌, and-eq-true_iff}
use mathlib.Core.List.{List, [], ◌∷◌}
use mathlib.Core.Path.{◌≡◌, sym, ◌∙◌}
use native.Mathlib.Omega.{arith}
use lib.Dec.{eqb}
use lib.ListN.{length, get_or}
use lib.Seq.{ext_get_or}
use borrow.Author.Tests.{eqb-true}
use Rattle.machine.specs.Lists.{gather}
use Rattle.machine.proofs.Lists.{singles_length, singles_at}

-- each place of a table holds the number that a rule gives for it
abbrev pub follows : (ℕ → ℕ) → List ℕ → Bool
follows rule [] = true
follows rule (n ∷ table) = eqb n (rule zero) && follows (λ (place : ℕ). rule (suc place)) table

-- what the test says of the first place and of the others
first_follows : (rule : ℕ → ℕ) (n : ℕ) (table : List ℕ) → follows rule (n ∷ table) ≡ true
    → (n ≡ rule zero) × (follows (λ (place : ℕ). rule (suc place)) table ≡ true)
first_follows rule n table test =
    let both = (and-eq-true_iff (eqb n (rule zero)) (follows (λ (place : ℕ). rule (suc place)) table)).0 test in
    (eqb-true n (rule zero) both.0, both.1)

-- so it says of each place which number it holds
number_at : (rule : ℕ → ℕ) (table : List ℕ) → follows rule table ≡ true → (place : ℕ) → place < length table
    → get_or table place 0 ≡ rule place
number_at rule [] test place h = absurd (omega arith)
number_at rule (n ∷ table) test zero h = (first_follows rule n table test).0
number_at rule (n ∷ table) test (suc place) h =
    number_at (λ (place : ℕ). rule (suc place)) table (first_follows rule n table test).1 place (omega arith)

-- and that the table is the rule's
pub table_is : (rule : ℕ → ℕ) (size : ℕ) (table : List ℕ) → length table ≡ size → follows rule table ≡ true
    → table ≡ gather (λ (place : ℕ). rule place ∷ []) size
table_is rule size table sized test =
    ext_get_or 0 table (gather (λ (place : ℕ). rule place ∷ []) size) (sized ∙ sym (singles_length rule size))
    (λ place h. number_at rule table test place h ∙ sym (singles_at rule size place 0 (omega arith)))
