-- What is read off cells that are joined: pixels, used addresses and the mode left, each a reading of the parts.
-- Assumes nothing.
use Prim.Native.Nat.{ℕ, ◌+◌, ◌≤◌}
use Rattle.std.specs.Prelude.{is_some}
use Rattle.std.specs.Int.{from_bool}
use Rattle.std.specs.Option.{option_to_list}
use mathlib.Core.List.{List, [], ◌∷◌, ◌++◌, append-nil, map-append, flat_map, Option-to_list}
use mathlib.Core.Option.{Option, none, some}
use mathlib.Core.Path.{◌≡◌, refl, ap}
use native.Mathlib.Omega.{arith}
use lib.ListN.{length, length-append, length-map}
use Rattle.machine.proofs.Lists.{flat_map_append, flatten_append}
use Rattle.video.specs.Cell.{Cell, pixels, screen_addresses, character_addresses, used, mode_left}
use Rattle.video.specs.Internal.{optional, painted_cell, used_by}

module _ (xs ys : List Cell) where
  pub pixels_append : pixels (xs ++ ys) ≡ pixels xs ++ pixels ys
  unfolding pixels
  pixels_append = simp (map-append, flatten_append)

  pub characters_append : length (character_addresses (xs ++ ys)) ≡ length (character_addresses xs) + length (character_addresses ys)
  unfolding character_addresses
  characters_append = simp (flat_map_append, length-append)

  pub used_append : used (xs ++ ys) ≡ used xs ++ used ys
  unfolding used
  used_append = flat_map_append (λ (c : Cell). c.screen ∷ Option-to_list c.character) xs ys

-- the count of one cell more
pub characters_one : (xs : List Cell) (x : Cell)
    → length (character_addresses (xs ++ (x ∷ []))) ≡ length (character_addresses xs) + length (Option-to_list x.character)
unfolding character_addresses flat_map
characters_one xs x = simp (characters_append, append-nil)

-- whether there is one
pub one_counted : (character : Option ℕ) → from_bool (is_some (optional character)) ≡ length (Option-to_list character)
unfolding Option-to_list
one_counted none = refl
one_counted (some address) = refl

-- its addresses, as the painted cell has them
pub used_one : (x : Cell) → used_by (painted_cell x) ≡ used (x ∷ [])
unfolding used flat_map Option-to_list
used_one x = ap (λ (l : List ℕ). x.screen ∷ l) (go x.character)
  where
    go : (character : Option ℕ) → option_to_list (optional character) ≡ Option-to_list character ++ []
    go none = refl
    go (some address) = refl

pub mode_left_append : (mode : ℕ) (xs ys : List Cell) → mode_left mode (xs ++ ys) ≡ mode_left (mode_left mode xs) ys
unfolding mode_left
mode_left_append mode [] ys = refl
mode_left_append mode (x ∷ xs) ys = mode_left_append x.registers.mode xs ys

-- a cell uses one screen byte, and one character byte at most
pub screens_length : (cells : List Cell) → length (screen_addresses cells) ≡ length cells
unfolding screen_addresses
screens_length cells = length-map cells (λ (c : Cell). c.screen)

one_at_most : {A : Type 0} (o : Option A) → length (Option-to_list o) ≤ 1
unfolding Option-to_list
one_at_most none = omega arith
one_at_most (some a) = omega arith

pub characters_most : (cells : List Cell) → length (character_addresses cells) ≤ length cells
unfolding character_addresses flat_map
characters_most [] = omega arith
characters_most (c ∷ cells) =
    rw (length-append (Option-to_list c.character) (flat_map (λ (c : Cell). Option-to_list c.character) cells))
    (omega (arith, one_at_most c.character, characters_most cells))
