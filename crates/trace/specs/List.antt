-- A trace: its records answered in order, what it answers and what it leaves, for every input.
-- Assumes nothing.
use Rattle.std.specs.Prelude.{ℕ, List, [], ◌∷◌, length}
use Rattle.machine.specs.Refusal.{refusal_before, refusal, if_done, trace_check}
use Rattle.bus.specs.Accesses.{Board}
use Rattle.bus.specs.Cycle.{access_checks}
use Rattle.bus.specs.declared.latch.Latches.{Latches}
use Rattle.trace.specs.Cycle.{board_of, board_after_cycle, answered}
use Rattle.trace.specs.declared.cycle.Cycle.{Cycle}
use Rattle.trace.specs.declared.list.Traced.{Traced}

-- the records answered one at a time, each on the board that those before it left
abbrev pub all_answered : ℕ → Board → List Cycle → List Cycle
all_answered profile board [] = []
all_answered profile board (cycle ∷ cycles) =
    answered profile board cycle ∷ all_answered profile (board_after_cycle profile board cycle) cycles

-- the board that they leave
abbrev pub board_after_cycles : ℕ → Board → List Cycle → Board
board_after_cycles profile board [] = board
board_after_cycles profile board (cycle ∷ cycles) = board_after_cycles profile (board_after_cycle profile board cycle) cycles

-- refusals 12, 1, 7, 13 as for a single access, then 8, by the inputs of the call alone
abbrev pub trace_refusal : ℕ → ℕ → ℕ → ℕ → ℕ
trace_refusal profile size kind count = refusal_before (access_checks profile size kind) (refusal (trace_check count ∷ []))

-- the status of a call
abbrev pub trace_status : List ℕ → ℕ → Latches → List Cycle → ℕ
trace_status memory profile latches cycles = trace_refusal profile (length memory) latches.kind (length cycles)

-- the board that a call leaves: as it was where it is refused
abbrev pub trace_board : List ℕ → ℕ → Latches → List Cycle → Board
trace_board memory profile latches cycles =
    let board = board_of memory latches in
    if_done (trace_status memory profile latches cycles) (board_after_cycles profile board cycles) board

-- the status, and the latches of the board that is left
abbrev pub traced : ℕ → Board → Traced
traced status board = record { status = status; latches = board.latches }

-- what a trace answers
unfoldable pub trace_answer : List ℕ → ℕ → Latches → List Cycle → Traced
trace_answer memory profile latches cycles =
    traced (trace_status memory profile latches cycles) (trace_board memory profile latches cycles)

-- the memory that a trace leaves
unfoldable pub trace_contents : List ℕ → ℕ → Latches → List Cycle → List ℕ
trace_contents memory profile latches cycles = (trace_board memory profile latches cycles).memory

-- the records that it leaves
unfoldable pub trace_cycles : List ℕ → ℕ → Latches → List Cycle → List Cycle
trace_cycles memory profile latches cycles =
    if_done (trace_status memory profile latches cycles) (all_answered profile (board_of memory latches) cycles) cycles
