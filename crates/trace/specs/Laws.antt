-- What holds of every trace, stated over the definitions alone; the proofs are in proofs/.
-- Assumes nothing.
use Rattle.std.specs.Prelude.{ℕ, ◌≤◌, cond, List, ◌∷◌, ◌++◌, map, ◌≡◌, length}
use Rattle.std.proofs.Math.Option.{none}
use Rattle.machine.specs.Image.{Image}
use Rattle.machine.specs.Sizes.{longest_trace}
use Rattle.bus.specs.Accesses.{Step, read, write, Board, board_after}
use Rattle.bus.specs.declared.latch.Latches.{Latches}
use Rattle.trace.specs.Cycle.{board_of, is_write, access_on}
use Rattle.trace.specs.List.{all_answered, board_after_cycles, trace_status, trace_answer, trace_contents, trace_cycles}
use Rattle.trace.specs.declared.cycle.Cycle.{Cycle}

-- what a record asks for: address, direction and byte to write
pub record Asked : Type 0 where
  pub address : ℕ
  pub write : ℕ
  pub byte : ℕ

abbrev pub asked : Cycle → Asked
asked cycle = record { address = cycle.address; write = cycle.write; byte = cycle.byte }

-- no call changes what its records ask for
abbrev pub AskedStays : Type 0
AskedStays =
    (memory : Image) (profile : ℕ) (latches : Latches) (cycles : List Cycle)
    → map asked (trace_cycles memory profile latches cycles) ≡ map asked cycles

-- in a call that is answered no single access is refused: every record's is done on the board that those before it left
abbrev pub NoneRefused : Type 0
NoneRefused =
    (memory : Image) (profile : ℕ) (latches : Latches) (before : List Cycle) (cycle : Cycle) (after : List Cycle)
    → trace_status memory profile latches (before ++ cycle ∷ after) ≡ 0
    → (access_on profile (board_after_cycles profile (board_of memory latches) before) cycle).status ≡ 0

-- lists of any length: a joined list is the first list and then the second on the board that the first leaves
pub record Joined (profile : ℕ) (board : Board) (xs ys : List Cycle) : Type 0 where
  pub board_left : board_after_cycles profile board (xs ++ ys) ≡ board_after_cycles profile (board_after_cycles profile board xs) ys
  pub answers : all_answered profile board (xs ++ ys)
      ≡ all_answered profile board xs ++ all_answered profile (board_after_cycles profile board xs) ys

abbrev pub CyclesJoin : Type 0
CyclesJoin = (profile : ℕ) (board : Board) (xs ys : List Cycle) → Joined profile board xs ys

-- two calls, the second with the memory and the latches that the first left, and one call with the joined list
pub record SameCalls (memory : Image) (profile : ℕ) (latches : Latches) (xs ys : List Cycle) : Type 0 where
  pub answer : trace_answer memory profile latches (xs ++ ys)
      ≡ trace_answer (trace_contents memory profile latches xs) profile (trace_answer memory profile latches xs).latches ys
  pub contents : trace_contents memory profile latches (xs ++ ys)
      ≡ trace_contents (trace_contents memory profile latches xs) profile (trace_answer memory profile latches xs).latches ys
  pub cycles : trace_cycles memory profile latches (xs ++ ys)
      ≡ trace_cycles memory profile latches xs
      ++ trace_cycles (trace_contents memory profile latches xs) profile (trace_answer memory profile latches xs).latches ys

-- calls join, answered or refused, where the joined list is not too long for one call
abbrev pub CallsJoin : Type 0
CallsJoin =
    (memory : Image) (profile : ℕ) (latches : Latches) (xs ys : List Cycle)
    → length (xs ++ ys) ≤ longest_trace → SameCalls memory profile latches xs ys

-- the accesses of a trace as a list of accesses of the bus: each takes the latches as the one before left them
abbrev pub access_of : ℕ → Cycle → Step
access_of profile cycle =
    record {
      profile = profile;
      brings = none;
      action = cond (is_write cycle) (write cycle.address cycle.byte) (read cycle.address);
    }

abbrev pub accesses_of : ℕ → List Cycle → List Step
accesses_of profile cycles = map (access_of profile) cycles

-- a trace leaves the board that the list of its accesses leaves
abbrev pub TraceIsAccesses : Type 0
TraceIsAccesses =
    (profile : ℕ) (board : Board) (cycles : List Cycle) → board_after_cycles profile board cycles ≡ board_after board (accesses_of profile cycles)
