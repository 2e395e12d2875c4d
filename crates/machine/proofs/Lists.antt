-- Laws of lists that are joined piece by piece, of what is in a list, and of a list of which one piece is lent and comes back filled.
-- Assumes nothing.
use Prim.Native.Nat.{ℕ, zero, suc, ◌+◌, ◌-◌, ◌*◌, ◌≤◌, ◌<◌}
use mathlib.Core.Bool.{Bool, false, ◌||◌, or_assoc}
use mathlib.Core.List.{List, [], ◌∷◌, ◌++◌, append_assoc, map, map-append, flat_map, flatten}
use mathlib.Core.Logic.{⊎_elim}
use mathlib.Core.Path.{◌≡◌, refl, sym, ap, ap₂, ◌∙◌}
use native.Mathlib.Nat.{mul-suc, mul-le-mul_left, add-sub_cancel_left, eq-or-lt_of_le}
use native.Mathlib.Numerals.{add-one}
use native.Mathlib.Omega.{arith}
use lib.Dec.{eqb}
use lib.ListN.{length, get_or, take, drop, length-append, length-drop, get_or-append}
use lib.Seq.{take_at, length-take-le, get_or-append-add, get_or-take, get_or-drop}
use borrow.Rule.Slice.PartMut.{put_mid, same_len_mid, take_put, drop_put}
use borrow.Author.Tests.{ne_eqb}
use Rattle.machine.specs.Lists.{gather, Each, is_in}
use Rattle.machine.proofs.Choice.{eqb_same}
use Rattle.machine.proofs.Each.{each_head, each_tail}

-- one piece more
pub gather_next : {A : Type 0} (f : ℕ → List A) (n : ℕ) → gather f (n + 1) ≡ gather f n ++ f n
unfolding gather
gather_next f n = ap (gather f) (add-one n)

-- the same pieces
pub gather_same : {A : Type 0} (f g : ℕ → List A) (n : ℕ) → ((k : ℕ) → k < n → f k ≡ g k) → gather f n ≡ gather g n
unfolding gather
gather_same f g zero same = refl
gather_same f g (suc n) same = ap₂ ◌++◌ (gather_same f g n (λ k h. same k (omega arith))) (same n (omega arith))

-- pieces whose elements are changed in one way
pub gather_mapped : {A B : Type 0} (change : A → B) (f : ℕ → List A) (g : ℕ → List B) (n : ℕ) → ((k : ℕ) → k < n → g k ≡ map change (f k))
    → gather g n ≡ map change (gather f n)
unfolding gather
gather_mapped change f g zero changed = refl
gather_mapped change f g (suc n) changed =
    ap₂ ◌++◌ (gather_mapped change f g n (λ k h. changed k (omega arith))) (changed n (omega arith)) ∙ sym (map-append change (gather f n) (f n))

-- pieces of one size
module _ {A : Type 0} (f : ℕ → List A) (size : ℕ) (sized : (k : ℕ) → length (f k) ≡ size) where
  pub gather_length : (n : ℕ) → length (gather f n) ≡ size * n
  unfolding gather
  gather_length zero = omega arith
  gather_length (suc n) = length-append (gather f n) (f n) ∙ omega (arith, gather_length n, sized n, mul-suc size n)

  -- element j of piece i
  pub gather_at : (n i j : ℕ) (d : A) → i < n → j < size → get_or (gather f n) (size * i + j) d ≡ get_or (f i) j d
  unfolding gather
  gather_at zero i j d hi hj = absurd (omega arith)
  gather_at (suc n) i j d hi hj =
      ⊎_elim
      (λ (e : i ≡ n).
      rw e (rw (← gather_length n) (get_or-append-add (gather f n) (f n) j d)))
      (λ (less : i < n).
      let before : size * suc i ≤ size * n = mul-le-mul_left size (omega arith) in
      get_or-append (gather f n) (f n) d (size * i + j) (omega (arith, gather_length n, mul-suc size i))
      ∙ gather_at n i j d less hj)
      (eq-or-lt_of_le (omega arith))

-- pieces of one element each
module _ {A : Type 0} (f : ℕ → A) where
  pub singles_length : (n : ℕ) → length (gather (λ (k : ℕ). f k ∷ []) n) ≡ n
  singles_length n = gather_length (λ (k : ℕ). f k ∷ []) 1 (λ k. refl) n ∙ omega arith

  pub singles_at : (n k : ℕ) (d : A) → k < n → get_or (gather (λ (k : ℕ). f k ∷ []) n) k d ≡ f k
  singles_at n k d h =
      let place : k ≡ 1 * k + 0 = omega arith in
      ap (λ (i : ℕ). get_or (gather (λ (k : ℕ). f k ∷ []) n) i d) place ∙ gather_at (λ (k : ℕ). f k ∷ []) 1 (λ k. refl) n k 0 d h (omega arith)

-- joined lists of one size
pub flatten_length : {A : Type 0} (size : ℕ) (xs : List (List A)) → Each (λ (x : List A). length x ≡ size) xs
    → length (flatten xs) ≡ size * length xs
unfolding flatten
flatten_length size [] sized = omega arith
flatten_length size (x ∷ xs) sized =
    let rest = flatten_length size xs (each_tail (λ (y : List _). length y ≡ size) x xs sized) in
    length-append x (flatten xs)
    ∙ omega (arith, each_head (λ (y : List _). length y ≡ size) x xs sized, rest, mul-suc size (length xs))

-- element j of list i
pub flatten_at : {A : Type 0} (size : ℕ) (xs : List (List A)) → Each (λ (x : List A). length x ≡ size) xs → (i j : ℕ) (d : A)
    → i < length xs → j < size → get_or (flatten xs) (size * i + j) d ≡ get_or (get_or xs i []) j d
unfolding flatten
flatten_at size [] sized i j d hi hj = absurd (omega arith)
flatten_at size (x ∷ xs) sized zero j d hi hj =
    let here = each_head (λ (y : List _). length y ≡ size) x xs sized in
    let place : size * 0 + j ≡ j = omega arith in
    rw place (get_or-append x (flatten xs) d j (omega arith))
flatten_at size (x ∷ xs) sized (suc i) j d hi hj =
    let here = each_head (λ (y : List _). length y ≡ size) x xs sized in
    let place : size * suc i + j ≡ length x + (size * i + j) = omega (arith, mul-suc size i) in
    rw place
    (get_or-append-add x (flatten xs) (size * i + j) d
    ∙ flatten_at size xs (each_tail (λ (y : List _). length y ≡ size) x xs sized) i j d (omega arith) hj)

-- the library's law of this name is of std's own flat_map
pub flat_map_append : {A B : Type 0} (f : A → List B) (xs ys : List A) → flat_map f (xs ++ ys) ≡ flat_map f xs ++ flat_map f ys
unfolding flat_map
flat_map_append f [] ys = refl
flat_map_append f (x ∷ xs) ys = ap (λ (l : _). f x ++ l) (flat_map_append f xs ys) ∙ sym (append_assoc (f x) (flat_map f xs) (flat_map f ys))

pub flatten_append : {A : Type 0} (xs ys : List (List A)) → flatten (xs ++ ys) ≡ flatten xs ++ flatten ys
unfolding flatten
flatten_append [] ys = refl
flatten_append (x ∷ xs) ys = ap (λ (l : _). x ++ l) (flatten_append xs ys) ∙ sym (append_assoc x (flatten xs) (flatten ys))

-- what is in a list: in joined lists, in one from which it is apart, and where all numbers are more by one number
pub in_append : (n : ℕ) (xs ys : List ℕ) → is_in n (xs ++ ys) ≡ (is_in n xs || is_in n ys)
unfolding is_in
in_append n [] ys = refl
in_append n (x ∷ xs) ys = ap (λ (b : Bool). eqb n x || b) (in_append n xs ys) ∙ sym (or_assoc (eqb n x) (is_in n xs) (is_in n ys))

pub in_none : (n : ℕ) (xs : List ℕ) → Each (λ (x : ℕ). n ≡ x → ⊥) xs → is_in n xs ≡ false
unfolding is_in
in_none n [] apart = refl
in_none n (x ∷ xs) apart =
    ap₂ ◌||◌ (ne_eqb n x (each_head (λ (x : ℕ). n ≡ x → ⊥) x xs apart)) (in_none n xs (each_tail (λ (x : ℕ). n ≡ x → ⊥) x xs apart))

pub in_moved : (base n : ℕ) (xs : List ℕ) → is_in (base + n) (map (λ (x : ℕ). base + x) xs) ≡ is_in n xs
unfolding is_in
in_moved base n [] = refl
in_moved base n (x ∷ xs) = ap₂ ◌||◌ (eqb_same (base + n) (base + x) n x (λ e. omega arith) (λ e. omega arith)) (in_moved base n xs)

-- the k-th piece of n elements of a list is lent: what it is, and what the list is when it is back as ys
module _ {A : Type 0} (n k : ℕ) (xs : List A) (fits : n * k + n ≤ length xs) where
  pub piece_size : length (take (n * k + n - n * k) (drop (n * k) xs)) ≡ n
  piece_size = rw (add-sub_cancel_left (n * k) n) (length-take-le n (drop (n * k) xs) (simp length-drop (omega arith)))

  pub piece_length : (ys : List A) → length ys ≡ n → length (put_mid (n * k) (n * k + n - n * k) xs ys) ≡ length xs
  piece_length ys size = same_len_mid (n * k) (n * k + n - n * k) xs ys (size ∙ sym piece_size)

  pub piece_done : (ys : List A) → length ys ≡ n
      → take (n * (k + 1)) (put_mid (n * k) (n * k + n - n * k) xs ys) ≡ take (n * k) xs ++ ys
  piece_done ys size =
      rw (add-one k, mul-suc n k, ← append_assoc (take (n * k) xs) ys (drop (n * k + n - n * k) (drop (n * k) xs)))
      (take_at (take (n * k) xs ++ ys) _ (n * k + n)
      (length-append (take (n * k) xs) ys ∙ omega (arith, length-take-le (n * k) xs (omega arith))))

-- n elements from a on are lent: what the list has before them, in their place and after them when they are back as ys
module _ {A : Type 0} (a n : ℕ) (xs ys : List A) (fits : a + n ≤ length xs) (size : length ys ≡ n) (d : A) where
  abbrev back : List A
  back = put_mid a (a + n - a) xs ys

  pub put_before : (k : ℕ) → k < a → get_or back k d ≡ get_or xs k d
  put_before k h =
      sym (get_or-take a back k d h) ∙ ap (λ (l : List A). get_or l k d) (take_put a (a + n - a) xs ys (omega arith)) ∙ get_or-take a xs k d h

  pub put_inside : (k : ℕ) → k < n → get_or back (a + k) d ≡ get_or ys k d
  put_inside k h =
      let before : length (take a xs) ≡ a = length-take-le a xs (omega arith) in
      ap (λ (m : ℕ). get_or back (m + k) d) (sym before)
      ∙ get_or-append-add (take a xs) _ k d
      ∙ get_or-append ys _ d k (omega arith)

  pub put_after : (k : ℕ) → a + n ≤ k → get_or back k d ≡ get_or xs k d
  put_after k h =
      let place : a + n + (k - (a + n)) ≡ k = omega arith in
      rw (← place)
      (sym (get_or-drop (a + n) back (k - (a + n)) d)
      ∙ ap (λ (l : List A). get_or l (k - (a + n)) d) (drop_put a (a + n) xs ys (omega arith) fits (omega arith))
      ∙ get_or-drop (a + n) xs (k - (a + n)) d)
