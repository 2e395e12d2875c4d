-- Traces and noninterference: a trace leaves what the theorem's list of its accesses leaves, so one that stores at no used address
-- leaves a memory that shows the same. What a trace leaves is said by the definitions that the contract of trace cites.
-- Assumes nothing.
use Rattle.std.specs.Prelude.{ℕ, ◌≤◌, List, ◌≡◌, length}
use Rattle.machine.specs.Image.{Image, IsImage}
use Rattle.machine.specs.Sizes.{longest_trace}
use Rattle.video.specs.State.{Within}
use Rattle.video.specs.Cell.{used}
use Rattle.video.specs.Frame.{frame_cells}
use Rattle.video.specs.declared.state.State.{State}
use Rattle.bus.specs.Accesses.{board_after, stores}
use Rattle.bus.specs.declared.latch.Latches.{Latches}
use Rattle.trace.specs.Cycle.{board_of}
use Rattle.trace.specs.Laws.{accesses_of}
use Rattle.trace.specs.List.{trace_answer, trace_contents}
use Rattle.trace.specs.declared.cycle.Cycle.{Cycle}
use Rattle.reference.specs.Noninterference.{ShowSame, Apart}

-- every call whose list is not too long, answered or refused, leaves the memory and the latches that its accesses leave
abbrev pub TraceLeavesSame : Type 0
TraceLeavesSame =
    (memory : Image) (profile : ℕ) (latches : Latches) (cycles : List Cycle) → length cycles ≤ longest_trace
    → board_of (trace_contents memory profile latches cycles) (trace_answer memory profile latches cycles).latches
    ≡ board_after (board_of memory latches) (accesses_of profile cycles)

-- every call, answered or refused, with any profile and latches, shows the same if its accesses store at no used address
abbrev pub TracesShowSame : Type 0
TracesShowSame =
    (first : Image) (state : State) → IsImage state.profile first → Within state
    → (profile : ℕ) (latches : Latches) (cycles : List Cycle)
    → Apart (used (frame_cells first state)) (stores (length first) latches (accesses_of profile cycles))
    → ShowSame first (trace_contents first profile latches cycles) state
