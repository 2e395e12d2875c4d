-- Laws of a map: which bits a marking sets, one marking after another, one address, and a part of the map that is lent.
-- Assumes nothing.
use Prim.Native.Nat.{ℕ, ◌+◌, ◌-◌, ◌*◌, ◌/◌, ◌%◌, ◌^◌, ◌≤◌, ◌<◌}
use mathlib.Core.Bool.{Bool, true, false, cond, ◌||◌, or_assoc, or-false}
use mathlib.Core.List.{List, [], ◌∷◌, ◌++◌, map}
use mathlib.Core.Path.{◌≡◌, refl, sym, ap, ◌∙◌}
use native.Mathlib.Nat.{add-sub_cancel_left}
use native.Mathlib.Omega.{arith}
use lib.Dec.{eqb, ltb}
use lib.ListN.{length, get_or, set, take, drop, length-set, length-drop}
use lib.Seq.{ext_get_or, get_or-set_same, get_or-set_other, length-take-le, get_or-take, get_or-drop}
use borrow.Author.Tests.{eqb-true, eqb-false, ne_eqb, ltb-true, ltb-false}
use borrow.Rule.Slice.PartMut.{put_mid, same_len_mid}
use Rattle.machine.specs.Bits.{bit}
use Rattle.machine.specs.Lists.{Each, is_in}
use Rattle.machine.proofs.Bits.{bits_same, bits_below, bit_of_bits, byte_of_bits, byte_with_bit}
use Rattle.machine.proofs.Choice.{eqb_same}
use Rattle.machine.proofs.Each.{each_map}
use Rattle.machine.proofs.Lists.{singles_length, singles_at, in_append, in_none, in_moved, put_before, put_inside, put_after}
use Rattle.used_map.specs.Laws.{MarkedExactly, MarksJoin}
use Rattle.used_map.specs.Map.{byte_bits, is_marked, marked_byte, marked}

-- every element is a byte
abbrev pub Bytes : List ℕ → Type 0
Bytes xs = (k : ℕ) → get_or xs k 0 < 256

module _ (lent addresses : List ℕ) where
  pub marked_length : length (marked lent addresses) ≡ length lent
  unfolding marked
  marked_length = singles_length (λ (k : ℕ). marked_byte addresses k (get_or lent k 0)) (length lent)

  pub marked_at : (k : ℕ) → k < length lent → get_or (marked lent addresses) k 0 ≡ marked_byte addresses k (get_or lent k 0)
  unfolding marked
  marked_at k h = singles_at (λ (k : ℕ). marked_byte addresses k (get_or lent k 0)) (length lent) k 0 h

pub marked_exactly : MarkedExactly
marked_exactly lent addresses address h =
    let k = address / byte_bits in
    let b = address % byte_bits in
    let place : byte_bits * k + b ≡ address = omega arith in
    ap (bit (2 ^ b)) (marked_at lent addresses k (omega arith))
    ∙ bit_of_bits (λ (b : ℕ). bit (2 ^ b) (get_or lent k 0) || is_in (byte_bits * k + b) addresses) byte_bits b (omega arith)
    ∙ ap (λ (n : ℕ). is_marked lent address || is_in n addresses) place

-- a list is marked as another where it has the same length, and each byte the same bits
as_marked : (lent addresses other : List ℕ) → length other ≡ length lent
    → ((k : ℕ) → k < length lent → get_or other k 0 ≡ marked_byte addresses k (get_or lent k 0)) → other ≡ marked lent addresses
as_marked lent addresses other size same =
    ext_get_or 0 other (marked lent addresses) (size ∙ sym (marked_length lent addresses))
    (λ k h. same k (omega arith) ∙ sym (marked_at lent addresses k (omega arith)))

pub marks_join : MarksJoin
marks_join lent xs ys =
    as_marked lent (xs ++ ys) (marked (marked lent xs) ys) (marked_length (marked lent xs) ys ∙ marked_length lent xs)
    (λ k h. marked_at (marked lent xs) ys k (omega (arith, marked_length lent xs))
    ∙ ap (marked_byte ys k) (marked_at lent xs k h)
    ∙ bits_same _ _ byte_bits (λ b hb.
    ap (λ (before : Bool). before || is_in (byte_bits * k + b) ys)
    (bit_of_bits (λ (b : ℕ). bit (2 ^ b) (get_or lent k 0) || is_in (byte_bits * k + b) xs) byte_bits b hb)
    ∙ or_assoc (bit (2 ^ b) (get_or lent k 0)) (is_in (byte_bits * k + b) xs) (is_in (byte_bits * k + b) ys)
    ∙ ap (λ (used : Bool). bit (2 ^ b) (get_or lent k 0) || used) (sym (in_append (byte_bits * k + b) xs ys))))

-- a byte of which no address is marked stays
kept : (addresses : List ℕ) (k byte : ℕ) → byte < 256 → ((b : ℕ) → b < byte_bits → is_in (byte_bits * k + b) addresses ≡ false)
    → byte ≡ marked_byte addresses k byte
kept addresses k byte small apart =
    sym (byte_of_bits byte small)
    ∙ bits_same _ _ byte_bits (λ b hb. sym (or-false (bit (2 ^ b) byte)) ∙ ap (λ (used : Bool). bit (2 ^ b) byte || used) (sym (apart b hb)))

-- no address leaves the map as it was
pub marked_none : (lent : List ℕ) → Bytes lent → lent ≡ marked lent []
unfolding is_in
marked_none lent bytes = as_marked lent [] lent refl (λ k h. kept [] k (get_or lent k 0) (bytes k) (λ b hb. refl))

-- one address
module _ (lent : List ℕ) (bytes : Bytes lent) (address : ℕ) where
  abbrev place : ℕ
  place = address / byte_bits

  abbrev byte : ℕ
  byte = get_or lent place 0

  abbrev weight : ℕ
  weight = 2 ^ (address % byte_bits)

  alone : (n : ℕ) → is_in n (address ∷ []) ≡ eqb n address
  unfolding is_in
  alone n = or-false (eqb n address)

  elsewhere : (k : ℕ) → (k ≡ place → ⊥) → get_or lent k 0 ≡ marked_byte (address ∷ []) k (get_or lent k 0)
  elsewhere k other =
      kept (address ∷ []) k (get_or lent k 0) (bytes k)
      (λ b hb. alone (byte_bits * k + b) ∙ ne_eqb (byte_bits * k + b) address (λ e. other (omega arith)))

  there : marked_byte (address ∷ []) place byte ≡ cond (is_marked lent address) byte (byte + weight)
  there =
      bits_same _ _ byte_bits (λ b hb.
      ap (λ (used : Bool). bit (2 ^ b) byte || used)
      (alone (byte_bits * place + b) ∙ eqb_same (byte_bits * place + b) address b (address % byte_bits) (λ e. omega arith) (λ e. omega arith)))
      ∙ byte_with_bit byte (address % byte_bits) (bytes place) (omega arith)

  -- a list is the map with its bit set where it has that byte so, and every other byte as it was
  with_bit : (other : List ℕ) → length other ≡ length lent → ((k : ℕ) → (k ≡ place → ⊥) → get_or other k 0 ≡ get_or lent k 0)
      → (place < length lent → get_or other place 0 ≡ cond (is_marked lent address) byte (byte + weight)) → other ≡ marked lent (address ∷ [])
  with_bit other size apart here = as_marked lent (address ∷ []) other size (λ k h. go k h (eqb k place) refl)
    where
      go : (k : ℕ) → k < length lent → (same : Bool) → eqb k place ≡ same → get_or other k 0 ≡ marked_byte (address ∷ []) k (get_or lent k 0)
      go k h true e = let is = eqb-true k place e in rw is (here (omega arith) ∙ sym there)
      go k h false e = apart k (eqb-false k place e) ∙ elsewhere k (eqb-false k place e)

  -- the weight is added where the bit is not set
  pub marked_added : place < length lent → is_marked lent address ≡ false → set lent place (byte + weight) ≡ marked lent (address ∷ [])
  marked_added inside clear =
      with_bit (set lent place (byte + weight)) (length-set lent place (byte + weight))
      (λ k other. get_or-set_other lent place k (byte + weight) 0 other)
      (λ h. get_or-set_same lent place (byte + weight) 0 inside ∙ simp clear)

  pub added_small : is_marked lent address ≡ false → byte + weight < 256
  added_small clear =
      let is : marked_byte (address ∷ []) place byte ≡ byte + weight = there ∙ simp clear in
      rw (← is) (bits_below (λ (b : ℕ). bit (2 ^ b) byte || is_in (byte_bits * place + b) (address ∷ [])) byte_bits)

  -- nothing changes where it is, or where the map has not its byte
  pub marked_already : is_marked lent address ≡ true → lent ≡ marked lent (address ∷ [])
  marked_already is = with_bit lent refl (λ k other. refl) (λ h. simp is)

  pub marked_outside : length lent ≤ place → lent ≡ marked lent (address ∷ [])
  marked_outside outside = with_bit lent refl (λ k other. refl) (λ h. absurd (omega arith))

-- n bytes of a map from a byte on are lent, and marked with addresses that are counted from there
module _ (from n : ℕ) (lent addresses : List ℕ) (bytes : Bytes lent) (fits : from + n ≤ length lent) (inside : Each (λ (a : ℕ). a < byte_bits * n) addresses) where
  abbrev part : List ℕ
  part = take (from + n - from) (drop from lent)

  abbrev moved : List ℕ
  moved = map (λ (a : ℕ). byte_bits * from + a) addresses

  abbrev back : List ℕ
  back = put_mid from (from + n - from) lent (marked part addresses)

  part_size : length part ≡ n
  part_size = rw (add-sub_cancel_left from n) (length-take-le n (drop from lent) (simp length-drop (omega arith)))

  size : length (marked part addresses) ≡ n
  size = marked_length part addresses ∙ part_size

  outside : (k : ℕ) → ((a : ℕ) → a < byte_bits * n → (b : ℕ) → b < byte_bits → byte_bits * k + b ≡ byte_bits * from + a → ⊥)
      → get_or lent k 0 ≡ marked_byte moved k (get_or lent k 0)
  outside k apart =
      kept moved k (get_or lent k 0) (bytes k)
      (λ b hb. in_none (byte_bits * k + b) moved
      (each_map (λ (x : ℕ). byte_bits * k + b ≡ x → ⊥) (λ (a : ℕ). byte_bits * from + a) addresses (λ a m. apart a (inside a m) b hb)))

  within : (k : ℕ) → k < n → get_or (marked part addresses) k 0 ≡ marked_byte moved (from + k) (get_or lent (from + k) 0)
  within k h =
      let byte : get_or part k 0 ≡ get_or lent (from + k) 0 = get_or-take (from + n - from) (drop from lent) k 0 (omega arith) ∙ get_or-drop from lent k 0 in
      marked_at part addresses k (omega (arith, part_size))
      ∙ ap (marked_byte addresses k) byte
      ∙ bits_same _ _ byte_bits (λ b hb.
      let place : byte_bits * (from + k) + b ≡ byte_bits * from + (byte_bits * k + b) = omega arith in
      ap (λ (used : Bool). bit (2 ^ b) (get_or lent (from + k) 0) || used)
      (rw place (sym (in_moved (byte_bits * from) (byte_bits * k + b) addresses))))

  -- back in its place, the whole map is marked with the addresses themselves
  pub marked_part : back ≡ marked lent moved
  marked_part =
      as_marked lent moved back (same_len_mid from (from + n - from) lent (marked part addresses) (marked_length part addresses))
      (λ k h. go k (ltb k from) (ltb k (from + n)) refl refl)
    where
      go : (k : ℕ) (before inside : Bool) → ltb k from ≡ before → ltb k (from + n) ≡ inside → get_or back k 0 ≡ marked_byte moved k (get_or lent k 0)
      go k true inside e e' =
          let low = ltb-true k from e in
          put_before from n lent (marked part addresses) fits size 0 k low ∙ outside k (λ a ha b hb same. omega arith)
      go k false true e e' =
          let low = ltb-false k from e in
          let high = ltb-true k (from + n) e' in
          let place : from + (k - from) ≡ k = omega arith in
          rw (← place) (put_inside from n lent (marked part addresses) fits size 0 (k - from) (omega arith) ∙ within (k - from) (omega arith))
      go k false false e e' =
          let high = ltb-false k (from + n) e' in
          put_after from n lent (marked part addresses) fits size 0 k high ∙ outside k (λ a ha b hb same. omega arith)
