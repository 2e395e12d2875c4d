-- A list of bus accesses: what it leaves by the contracts' definitions, and where it stores by the decode rules.
-- Assumes nothing.
use Rattle.std.specs.Prelude.{ℕ, cond, List, [], ◌∷◌, ◌++◌}
use Rattle.std.proofs.Math.Option.{Option, none, some}
use Rattle.machine.specs.Image.{Image}
use Rattle.machine.specs.Refusal.{if_done}
use Rattle.bus.specs.Latch.{latches_after}
use Rattle.bus.specs.Place.{place}
use Rattle.bus.specs.Cycle.{is_memory, access_refusal, write_contents, write_latches}
use Rattle.bus.specs.declared.latch.Latches.{Latches}

-- a read at an address; a write of a byte, by value or with the latches in place
pub data Action : Type 0 where
  read : ℕ → Action
  write writeInPlace : ℕ → ℕ → Action

-- one access of the list: it brings a profile, and takes the latches as the one before left them or brings its own
pub record Step : Type 0 where
  pub profile : ℕ
  pub brings : Option Latches
  pub action : Action

abbrev pub taken : Option Latches → Latches → Latches
taken none left = left
taken (some brought) left = brought

-- the memory and the latches as they go from access to access
pub record Board : Type 0 where
  pub memory : Image
  pub latches : Latches

-- the board after a write in either form, by the definitions that the contracts of write and write_in_place cite
abbrev pub board_after_write : ℕ → ℕ → ℕ → Board → Board
board_after_write profile address byte board =
    record {
      memory = write_contents board.memory profile board.latches address byte;
      latches = write_latches board.memory profile board.latches address byte;
    }

-- the board after an access; a read is lent the memory only to be read, and takes the latches by value
abbrev pub board_after_action : ℕ → Action → Board → Board
board_after_action profile (read address) board = board
board_after_action profile (write address byte) board = board_after_write profile address byte board
board_after_action profile (writeInPlace address byte) board = board_after_write profile address byte board

-- the board after the whole list
abbrev pub board_after : Board → List Step → Board
board_after board [] = board
board_after board (step ∷ steps) =
    let here : Board = record { memory = board.memory; latches = taken step.brings board.latches } in
    board_after (board_after_action step.profile step.action here) steps

-- where a write to a memory of this size stores, by the decode rules: nowhere if it is refused or its target is neither 0 nor 4
abbrev pub write_stores : ℕ → ℕ → Latches → ℕ → List ℕ
write_stores size profile latches address =
    let reached = place profile latches address in
    if_done (access_refusal profile size latches.kind) (cond (is_memory reached) (reached.number ∷ []) []) []

-- where an access stores (document 01: stores)
abbrev pub action_stores : ℕ → ℕ → Latches → Action → List ℕ
action_stores size profile latches (read address) = []
action_stores size profile latches (write address byte) = write_stores size profile latches address
action_stores size profile latches (writeInPlace address byte) = write_stores size profile latches address

-- the latches that the rules give after a write: as they were if it is refused
abbrev pub latches_after_write : ℕ → ℕ → Latches → ℕ → ℕ → Latches
latches_after_write size profile latches address byte =
    if_done (access_refusal profile size latches.kind) (latches_after latches address byte) latches

abbrev pub latches_after_action : ℕ → ℕ → Latches → Action → Latches
latches_after_action size profile latches (read address) = latches
latches_after_action size profile latches (write address byte) = latches_after_write size profile latches address byte
latches_after_action size profile latches (writeInPlace address byte) = latches_after_write size profile latches address byte

-- every address at which the list stores, in a memory of this size
abbrev pub stores : ℕ → Latches → List Step → List ℕ
stores size left [] = []
stores size left (step ∷ steps) =
    let latches = taken step.brings left in
    action_stores size step.profile latches step.action
    ++ stores size (latches_after_action size step.profile latches step.action) steps
