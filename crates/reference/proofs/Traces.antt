-- A trace leaves what the list of its accesses leaves, of which noninterference speaks; one that is refused for its length leaves what
-- no access leaves.
-- Assumes nothing.
use Prim.Native.Nat.{ℕ, zero, suc}
use mathlib.Core.List.{[]}
use mathlib.Core.Path.{◌≡◌, refl, sym, ◌∙◌}
use lib.ListN.{length}
use Rattle.machine.specs.Refusal.{if_done}
use Rattle.machine.proofs.Each.{each_none}
use Rattle.bus.specs.Cycle.{access_refusal}
use Rattle.trace.specs.Cycle.{board_of}
use Rattle.trace.specs.Laws.{accesses_of}
use Rattle.trace.specs.List.{board_after_cycles, trace_status, trace_answer, trace_contents}
use Rattle.trace.proofs.Laws.{trace_is_accesses, as_access, cycles_refused}
use Rattle.reference.specs.Noninterference.{ShowSame}
use Rattle.reference.specs.Traces.{TraceLeavesSame, TracesShowSame}
use Rattle.reference.proofs.Noninterference.{noninterference}

-- by the status: it is that of a single access, and refused accesses leave the board
pub trace_leaves_same : TraceLeavesSame
unfolding trace_answer trace_contents
trace_leaves_same memory profile latches cycles short =
    let board = board_of memory latches in
    go (trace_status memory profile latches cycles) (sym (as_access profile (length memory) latches.kind (length cycles) short)) ∙ trace_is_accesses profile board cycles
  where
    go : (status : ℕ) → access_refusal profile (length memory) latches.kind ≡ status
        → if_done status (board_after_cycles profile (board_of memory latches) cycles) (board_of memory latches)
        ≡ board_after_cycles profile (board_of memory latches) cycles
    go zero done = refl
    go (suc number) refused = sym (cycles_refused profile (board_of memory latches) number refused cycles)

pub traces_show_same : TracesShowSame
unfolding trace_contents
traces_show_same first state image within profile latches cycles apart = go (trace_status first profile latches cycles)
  where
    go : (status : ℕ) → ShowSame first (if_done status (board_after_cycles profile (board_of first latches) cycles) (board_of first latches)).memory state
    go zero =
        rw (trace_is_accesses profile (board_of first latches) cycles)
        ((noninterference first state image within).accesses latches (accesses_of profile cycles) apart)
    go (suc number) = (noninterference first state image within).accesses latches [] (λ address m. each_none _)
