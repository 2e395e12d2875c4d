-- A list of accesses leaves a memory of the same length, changed at most at the addresses where the decode rules say that it stores:
-- one induction over the list. The rules' latches and those of the contracts' definitions go together, since the length is kept.
-- Assumes nothing.
use Prim.Native.Nat.{ℕ, zero, suc, ◌≤◌}
use mathlib.Core.Path.{◌≡◌, refl, sym, ◌∙◌}
use mathlib.Core.Bool.{Bool, true, false, cond}
use mathlib.Core.List.{List, [], ◌∷◌}
use lib.ListN.{length, length-set}
use lib.Seq.{get_or-set_other}
use Rattle.machine.specs.Image.{Image, IsImage, byte_at, with_byte}
use Rattle.machine.specs.Lists.{Each}
use Rattle.machine.specs.Refusal.{if_done}
use Rattle.machine.specs.Sizes.{last_profile}
use Rattle.machine.proofs.Each.{each_head, each_left, each_right}
use Rattle.machine.proofs.Folding.{one_length}
use Rattle.machine.proofs.Refusals.{refused, profile_passed, memory_passed}
use Rattle.bus.specs.Accesses.{Action, read, write, writeInPlace, Step, Board, taken, board_after_write, board_after_action, board_after, write_stores, action_stores, latches_after_write, latches_after_action, stores}
use Rattle.bus.specs.Cycle.{is_memory, access_refusal, write_contents, write_latches}
use Rattle.bus.specs.Laws.{OtherProfileStoresNowhere}
use Rattle.bus.specs.Place.{place}
use Rattle.bus.specs.declared.latch.Latches.{Latches}

-- the address is none of those
abbrev pub NoneOf : ℕ → List ℕ → Type 0
NoneOf address addresses = Each (λ (y : ℕ). address ≡ y → ⊥) addresses

-- one image became another, whose bytes are the same but at most at some addresses
record Changed (before after : Image) (addresses : List ℕ) : Type 0 where
  sized : length after ≡ length before
  kept : (address : ℕ) → NoneOf address addresses → byte_at after address ≡ byte_at before address

unchanged : {image : Image} {addresses : List ℕ} → Changed image image addresses
unchanged = record { sized = refl; kept = λ address none. refl }

-- at most one byte: none where the write is refused or its place holds none
one_byte : (status : ℕ) (held : Bool) (image : Image) (at byte : ℕ)
    → Changed image (if_done status (cond held (with_byte image at byte) image) image) (if_done status (cond held (at ∷ []) []) [])
one_byte (suc number) held image at byte = unchanged
one_byte zero false image at byte = unchanged
one_byte zero true image at byte =
    record {
      sized = length-set image at byte;
      kept = λ address none. get_or-set_other image at address byte 0 (each_head (λ (y : ℕ). address ≡ y → ⊥) at [] none);
    }

module _ (image : Image) (profile : ℕ) (latches : Latches) where
  abbrev here : Board
  here = record { memory = image; latches = latches }

  -- what an access leaves: the image changed where the rules say that it stores, and the latches that the rules give
  abbrev Left : (after : Board) → List ℕ → Latches → Type 0
  Left after addresses rules = Changed image after.memory addresses × (after.latches ≡ rules)

  write_left : (address byte : ℕ)
      → Left (board_after_write profile address byte here) (write_stores (length image) profile latches address)
      (latches_after_write (length image) profile latches address byte)
  unfolding write_contents write_latches
  write_left address byte =
      let reached = place profile latches address in
      (one_byte (access_refusal profile (length image) latches.kind) (is_memory reached) image reached.number byte, refl)

  action_left : (action : Action)
      → Left (board_after_action profile action here) (action_stores (length image) profile latches action)
      (latches_after_action (length image) profile latches action)
  action_left (read address) = (unchanged, refl)
  action_left (write address byte) = write_left address byte
  action_left (writeInPlace address byte) = write_left address byte

-- the whole list
steps_changed : (steps : List Step) (image : Image) (latches : Latches)
    → Changed image (board_after (record { memory = image; latches = latches }) steps).memory (stores (length image) latches steps)
steps_changed [] image latches = unchanged
steps_changed (step ∷ steps) image latches =
    let taking = taken step.brings latches in
    let one = action_left image step.profile taking step.action in
    let after = board_after_action step.profile step.action (record { memory = image; latches = taking }) in
    let rest = steps_changed steps after.memory after.latches in
    record {
      sized = rest.sized ∙ one.0.sized;
      kept = λ address none.
          let Other : ℕ → Type 0 = λ (y : ℕ). address ≡ y → ⊥ in
          let stored = action_stores (length image) step.profile taking step.action in
          rest.kept address (rw (one.0.sized, one.1) (each_right Other stored _ none))
          ∙ one.0.kept address (each_left Other stored _ none);
    }

pub steps_sized : (steps : List Step) (image : Image) (latches : Latches)
    → length (board_after (record { memory = image; latches = latches }) steps).memory ≡ length image
steps_sized steps image latches = (steps_changed steps image latches).sized

pub steps_keep : (steps : List Step) (image : Image) (latches : Latches) (address : ℕ) → NoneOf address (stores (length image) latches steps)
    → byte_at (board_after (record { memory = image; latches = latches }) steps).memory address ≡ byte_at image address
steps_keep steps image latches address none = (steps_changed steps image latches).kept address none

-- it is refused by 12 or, for its length, by 1
other_profile : (memory : Image) (profile other kind : ℕ) → profile ≤ last_profile → IsImage profile memory → (other ≡ profile → ⊥)
    → access_refusal other (length memory) kind ≡ 0 → ⊥
other_profile memory profile other kind within size differs done =
    let passed = profile_passed _ other done in
    differs (one_length other profile passed.holds within (sym (memory_passed _ other (length memory) passed.rest).holds ∙ size))

pub other_profile_stores_nowhere : OtherProfileStoresNowhere
other_profile_stores_nowhere memory profile other within size differs latches address =
    refused _ _ [] (other_profile memory profile other latches.kind within size differs)
