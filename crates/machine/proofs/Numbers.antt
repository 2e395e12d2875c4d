-- Laws of the numbers that pass a test: in parts and in pieces, which they are, and how many.
-- Assumes nothing.
use Prim.Native.Nat.{ℕ, zero, suc, ◌+◌, ◌*◌, ◌≤◌, ◌<◌}
use mathlib.Core.Bool.{Bool, true, false, cond}
use mathlib.Core.List.Memᴰ
use mathlib.Core.List.{List, [], ◌∷◌, ◌++◌, append-nil, append_assoc, flat_map, Memᴰ}
use mathlib.Core.Logic.{◌⊎◌, inl, inr, ⊎_elim}
use mathlib.Core.Path.{◌≡◌, refl, sym, ap, ap₂, subst, ◌∙◌}
use native.Mathlib.Nat.{mul-suc, eq-or-lt_of_le}
use native.Mathlib.Numerals.{add-one}
use native.Mathlib.Omega.{arith}
use lib.Dec.{eqb, leb}
use lib.ListN.{length, length-append}
use mir.Val.{bool_byte}
use borrow.Author.Tests.{eq-eqb, ne_eqb, leb-true, leb-false}
use Rattle.machine.specs.Lists.{gather, Each}
use Rattle.machine.proofs.Each.{each_none, each_cons, each_head, each_tail, each_gather}
use Rattle.machine.proofs.Lists.{gather_next, gather_same, flat_map_append}
use Rattle.machine.specs.Numbers.{if_passed, passing_from, passing}

-- of two numbers the first is at most the second, or above it
pub either : (a b : ℕ) → (a ≤ b) ⊎ (b < a)
either a b = go (leb a b) refl
  where
    go : (t : Bool) → leb a b ≡ t → (a ≤ b) ⊎ (b < a)
    go true e = inl (leb-true a b e)
    go false e = inr (leb-false a b e)

-- a list that has an element has a length
pub some : {n : ℕ} (ns : List ℕ) → Memᴰ n ns → 0 < length ns
some [] m = absurd (Memᴰ.not-nil m)
some (k ∷ ks) m = omega arith

one_most : (b : Bool) → bool_byte b ≤ 1
one_most true = omega arith
one_most false = omega arith

-- one number, by what the test says of it
module _ (test : ℕ → Bool) (n : ℕ) where
  pub passed : test n ≡ true → if_passed test n ≡ n ∷ []
  passed e = rw e

  pub failed : test n ≡ false → if_passed test n ≡ []
  failed e = rw e

  go_length : (b : Bool) → test n ≡ b → length (if_passed test n) ≡ bool_byte b
  go_length true e = rw e
  go_length false e = rw e

  pub one_length : length (if_passed test n) ≡ bool_byte (test n)
  one_length = go_length (test n) refl

  go_each : (b : Bool) → test n ≡ b → (P : ℕ → Type 0) → (test n ≡ true → P n) → Each P (if_passed test n)
  go_each true e P p = rw e (each_cons P n [] (p e) (each_none P))
  go_each false e P p = rw e (each_none P)

  pub one_each : (P : ℕ → Type 0) → (test n ≡ true → P n) → Each P (if_passed test n)
  one_each = go_each (test n) refl

module _ (test : ℕ → Bool) where
  pub from_none : (from : ℕ) → passing_from test from 0 ≡ []
  unfolding passing_from gather
  from_none from = refl

  pub from_next : (from n : ℕ) → passing_from test from (n + 1) ≡ passing_from test from n ++ if_passed test (from + n)
  unfolding passing_from
  from_next from n = gather_next (λ (k : ℕ). if_passed test (from + k)) n

  pub from_parts : (from m n : ℕ) → passing_from test from (m + n) ≡ passing_from test from m ++ passing_from test (from + m) n
  unfolding passing_from gather
  from_parts from m zero =
      let e : m + 0 ≡ m = omega arith in
      ap (passing_from test from) e ∙ sym (append-nil (passing_from test from m))
  from_parts from m (suc n) =
      let e : m + suc n ≡ suc (m + n) = omega arith in
      let place : from + (m + n) ≡ from + m + n = omega arith in
      ap (passing_from test from) e
      ∙ ap₂ (λ (l : List ℕ) (p : ℕ). l ++ if_passed test p) (from_parts from m n) place
      ∙ append_assoc (passing_from test from m) (passing_from test (from + m) n) (if_passed test (from + m + n))

  -- one piece more
  pub from_piece : (size from n : ℕ)
      → passing_from test from (size * (n + 1)) ≡ passing_from test from (size * n) ++ passing_from test (from + size * n) size
  from_piece size from n =
      let e : size * (n + 1) ≡ size * n + size = ap (λ (k : ℕ). size * k) (add-one n) ∙ mul-suc size n in
      ap (passing_from test from) e ∙ from_parts from (size * n) size

  -- from 0 on
  pub start_piece : (size n : ℕ) → passing_from test 0 (size * (n + 1)) ≡ passing_from test 0 (size * n) ++ passing_from test (size * n) size
  start_piece size n =
      let e : 0 + size * n ≡ size * n = omega arith in
      from_piece size 0 n ∙ ap (λ (from : ℕ). passing_from test 0 (size * n) ++ passing_from test from size) e

  pub start_pieces : (size n : ℕ) → passing_from test 0 (size * n) ≡ gather (λ (k : ℕ). passing_from test (size * k) size) n
  unfolding gather
  start_pieces size zero =
      let e : size * 0 ≡ 0 = omega arith in
      ap (passing_from test 0) e ∙ from_none 0
  start_pieces size (suc n) =
      ap (λ (k : ℕ). passing_from test 0 (size * k)) (sym (add-one n))
      ∙ start_piece size n
      ∙ ap (λ (l : List ℕ). l ++ passing_from test (size * n) size) (start_pieces size n)

  -- each passes, and is one of the row
  pub from_each : (P : ℕ → Type 0) (from n : ℕ) → ((k : ℕ) → k < n → test (from + k) ≡ true → P (from + k)) → Each P (passing_from test from n)
  unfolding passing_from
  from_each P from n p = each_gather P (λ (k : ℕ). if_passed test (from + k)) n (λ k h. one_each test (from + k) P (p k h))

  -- each of the row that passes is there
  pub from_member : (from n k : ℕ) → k < n → test (from + k) ≡ true → Memᴰ (from + k) (passing_from test from n)
  unfolding passing_from gather
  from_member from zero k h e = absurd (omega arith)
  from_member from (suc n) k h e =
      ⊎_elim
      (λ (last : k ≡ n).
      Memᴰ.append_right (passing_from test from n)
      (subst (λ (m : ℕ). Memᴰ (from + k) (if_passed test (from + m))) last (rw (passed test (from + k) e) (Memᴰ.head refl))))
      (λ (less : k < n). Memᴰ.append_left (if_passed test (from + n)) (from_member from n k less e))
      (eq-or-lt_of_le (omega arith))

  pub from_nothing : (from n : ℕ) → ((k : ℕ) → k < n → test (from + k) ≡ false) → passing_from test from n ≡ []
  unfolding passing_from gather
  from_nothing from zero p = refl
  from_nothing from (suc n) p =
      ap₂ ◌++◌ (from_nothing from n (λ k h. p k (omega arith))) (failed test (from + n) (p n (omega arith)))

  -- where none passes, no test says so
  pub from_nowhere : (from n : ℕ) → passing_from test from n ≡ [] → (k : ℕ) → k < n → test (from + k) ≡ false
  from_nowhere from n none k h = go (test (from + k)) refl
    where
      go : (b : Bool) → test (from + k) ≡ b → test (from + k) ≡ false
      go true e = absurd (Memᴰ.not-nil (subst (Memᴰ (from + k)) none (from_member from n k h e)))
      go false e = e

  pub from_count : (from n : ℕ) → length (passing_from test from (n + 1)) ≡ length (passing_from test from n) + bool_byte (test (from + n))
  from_count from n =
      ap length (from_next from n)
      ∙ length-append (passing_from test from n) (if_passed test (from + n))
      ∙ ap (λ (m : ℕ). length (passing_from test from n) + m) (one_length test (from + n))

  pub from_most : (from n : ℕ) → length (passing_from test from n) ≤ n
  from_most from zero = rw (from_none from) (omega arith)
  from_most from (suc n) =
      let e : suc n ≡ n + 1 = omega arith in
      rw (e, from_count from n) (omega (arith, from_most from n, one_most (test (from + n))))

  pub from_all : (from n : ℕ) → ((k : ℕ) → k < n → test (from + k) ≡ true) → length (passing_from test from n) ≡ n
  from_all from zero p = ap length (from_none from)
  from_all from (suc n) p =
      let e : suc n ≡ n + 1 = omega arith in
      rw (e, from_count from n, p n (omega arith)) (omega (arith, from_all from n (λ k h. p k (omega arith))))

  from_says : (b : Bool) (from n : ℕ) → ((k : ℕ) → k < n → test (from + k) ≡ b) → length (passing_from test from n) ≡ cond b n 0
  from_says true from n says = from_all from n says
  from_says false from n says = ap length (from_nothing from n says)

  -- a row in two parts, of each of which the test says one thing
  pub two_parts : (m n : ℕ) (b c : Bool) → ((k : ℕ) → k < m → test k ≡ b) → ((k : ℕ) → k < n → test (m + k) ≡ c)
      → length (passing_from test 0 (m + n)) ≡ cond b m 0 + cond c n 0
  two_parts m n b c one other =
      let plain : (k : ℕ) → 0 + k ≡ k = λ k. omega arith in
      ap length (from_parts 0 m n)
      ∙ length-append (passing_from test 0 m) (passing_from test (0 + m) n)
      ∙ ap₂ ◌+◌ (from_says b 0 m (λ k h. rw (plain k) (one k h))) (from_says c (0 + m) n (λ k h. rw (plain m) (other k h)))

-- two tests that say the same of each of the row
pub from_same : (test other : ℕ → Bool) (from n : ℕ) → ((k : ℕ) → k < n → test (from + k) ≡ other (from + k))
    → passing_from test from n ≡ passing_from other from n
unfolding passing_from
from_same test other from n same =
    gather_same (λ (k : ℕ). if_passed test (from + k)) (λ (k : ℕ). if_passed other (from + k)) n (λ k h. rw (same k h))

-- those of a list that pass
module _ (test : ℕ → Bool) where
  pub passing_all : (ns : List ℕ) → Each (λ (n : ℕ). test n ≡ true) ns → passing test ns ≡ ns
  unfolding flat_map
  passing_all [] p = refl
  passing_all (n ∷ ns) p =
      ap₂ ◌++◌ (passed test n (each_head (λ (m : ℕ). test m ≡ true) n ns p)) (passing_all ns (each_tail (λ (m : ℕ). test m ≡ true) n ns p))

  pub passing_none : (ns : List ℕ) → Each (λ (n : ℕ). test n ≡ false) ns → passing test ns ≡ []
  unfolding flat_map
  passing_none [] p = refl
  passing_none (n ∷ ns) p =
      ap₂ ◌++◌ (failed test n (each_head (λ (m : ℕ). test m ≡ false) n ns p)) (passing_none ns (each_tail (λ (m : ℕ). test m ≡ false) n ns p))

-- of pieces whose elements have the piece's number, those with one number are one piece
module _ (number : ℕ → ℕ) (piece : ℕ → List ℕ) where
  abbrev is : ℕ → ℕ → Bool
  is k n = eqb (number n) k

  pub one_piece : (n : ℕ) → ((i : ℕ) → i < n → Each (λ (m : ℕ). number m ≡ i) (piece i)) → (k : ℕ) → k < n
      → passing (is k) (gather piece n) ≡ piece k
  unfolding gather
  one_piece zero numbered k h = absurd (omega arith)
  one_piece (suc n) numbered k h =
      flat_map_append (if_passed (is k)) (gather piece n) (piece n)
      ∙ ⊎_elim
      (λ (last : k ≡ n).
      let here : Each (λ (m : ℕ). is k m ≡ true) (piece n) =
      λ m at. eq-eqb (number m) k (numbered n (omega arith) m at ∙ sym last) in
      let earlier : Each (λ (m : ℕ). is k m ≡ false) (gather piece n) =
      each_gather (λ (m : ℕ). is k m ≡ false) piece n (λ i less m at. ne_eqb (number m) k (λ e. omega (arith, numbered i (omega arith) m at))) in
      ap₂ ◌++◌ (passing_none (is k) (gather piece n) earlier) (passing_all (is k) (piece n) here) ∙ ap piece (sym last))
      (λ (less : k < n).
      let later : Each (λ (m : ℕ). is k m ≡ false) (piece n) =
      λ m at. ne_eqb (number m) k (λ e. omega (arith, numbered n (omega arith) m at)) in
      ap₂ ◌++◌ (one_piece n (λ i h'. numbered i (omega arith)) k less) (passing_none (is k) (piece n) later) ∙ append-nil (piece k))
      (eq-or-lt_of_le (omega arith))
