-- The laws of traces, by induction over the list. No access changes the length of the memory or the controller kind, and these
-- decide every refusal but that of a list that is too long.
-- Assumes nothing.
use Prim.Native.Nat.{ℕ, zero, suc, ◌≤◌}
use mathlib.Core.Bool.{Bool, true, false, cond}
use mathlib.Core.List.{List, [], ◌∷◌, ◌++◌, map}
use mathlib.Core.Path.{◌≡◌, refl, sym, ap, ap₂, ◌∙◌}
use native.Mathlib.Omega.{arith}
use lib.ListN.{length, length-append}
use borrow.Author.Tests.{le-ltb}
use Rattle.machine.specs.Refusal.{Check, refusal_before, refusal, if_done}
use Rattle.machine.specs.Sizes.{longest_trace}
use Rattle.machine.proofs.Choice.{cond_all, cond_both}
use Rattle.bus.specs.Accesses.{Action, Board, board_after_action, board_after}
use Rattle.bus.specs.Cycle.{access_checks, access_refusal, read_answer, write_answer, write_contents, write_latches}
use Rattle.bus.specs.Latch.{latches_after}
use Rattle.bus.specs.declared.cycle.Access.{Access}
use Rattle.bus.specs.declared.latch.Latches.{Latches}
use Rattle.bus.proofs.Stores.{steps_sized}
use Rattle.trace.specs.Cycle.{board_of, is_write, access_on, board_after_cycle, answered}
use Rattle.trace.specs.Laws.{asked, AskedStays, NoneRefused, CyclesJoin, CallsJoin, accesses_of, TraceIsAccesses}
use Rattle.trace.specs.List.{all_answered, board_after_cycles, trace_refusal, traced, trace_status, trace_answer, trace_contents, trace_cycles}
use Rattle.trace.specs.declared.cycle.Cycle.{Cycle}

pub trace_is_accesses : TraceIsAccesses
trace_is_accesses profile board [] = refl
trace_is_accesses profile board (cycle ∷ cycles) =
    trace_is_accesses profile (board_after_cycle profile board cycle) cycles
    ∙ ap (λ (here : Board). board_after here (accesses_of profile cycles))
    (cond_both (λ (after : Board) (action : Action). after ≡ board_after_action profile action board) (is_write cycle) _ _ _ _ refl refl)

pub cycles_join : CyclesJoin
cycles_join profile board [] ys = record { board_left = refl; answers = refl }
cycles_join profile board (x ∷ xs) ys =
    let rest = cycles_join profile (board_after_cycle profile board x) xs ys in
    record { board_left = rest.board_left; answers = ap (λ (l : List Cycle). answered profile board x ∷ l) rest.answers }

all_asked : (profile : ℕ) (board : Board) (cycles : List Cycle) → map asked (all_answered profile board cycles) ≡ map asked cycles
all_asked profile board [] = refl
all_asked profile board (cycle ∷ cycles) = ap (λ (l : List _). asked cycle ∷ l) (all_asked profile (board_after_cycle profile board cycle) cycles)

pub asked_stays : AskedStays
unfolding trace_cycles
asked_stays memory profile latches cycles = go (trace_status memory profile latches cycles)
  where
    go : (status : ℕ) → map asked (if_done status (all_answered profile (board_of memory latches) cycles) cycles) ≡ map asked cycles
    go zero = all_asked profile (board_of memory latches) cycles
    go (suc number) = refl

-- the length of the memory is kept
sized : (profile : ℕ) (board : Board) (cycles : List Cycle) → length (board_after_cycles profile board cycles).memory ≡ length board.memory
sized profile board cycles =
    ap (λ (b : Board). length b.memory) (trace_is_accesses profile board cycles)
    ∙ steps_sized (accesses_of profile cycles) board.memory board.latches

-- and so is the controller kind
kind_after_write : (status address byte : ℕ) (latches : Latches) → (if_done status (latches_after latches address byte) latches).kind ≡ latches.kind
kind_after_write zero address byte latches = refl
kind_after_write (suc number) address byte latches = refl

module _ (profile : ℕ) where
  kind_after : (board : Board) (cycle : Cycle) → (board_after_cycle profile board cycle).latches.kind ≡ board.latches.kind
  unfolding write_latches
  kind_after board cycle =
      cond_all (λ (after : Board). after.latches.kind ≡ board.latches.kind) (is_write cycle) _ _
      (kind_after_write (access_refusal profile (length board.memory) board.latches.kind) cycle.address cycle.byte board.latches) refl

  kind_kept : (board : Board) (cycles : List Cycle) → (board_after_cycles profile board cycles).latches.kind ≡ board.latches.kind
  kind_kept board [] = refl
  kind_kept board (cycle ∷ cycles) =
      kind_kept (board_after_cycle profile board cycle) cycles ∙ kind_after board cycle

-- the status of a single access
status_of_lem : (status : ℕ) (done refused : Access) → done.status ≡ 0 → refused.status ≡ status → (if_done status done refused).status ≡ status
status_of_lem zero done refused e f = e
status_of_lem (suc number) done refused e f = f

access_status : (profile : ℕ) (board : Board) (cycle : Cycle)
    → (access_on profile board cycle).status ≡ access_refusal profile (length board.memory) board.latches.kind
unfolding read_answer write_answer
access_status profile board cycle =
    cond_all (λ (answer : Access). answer.status ≡ access_refusal profile (length board.memory) board.latches.kind) (is_write cycle) _ _
    (status_of_lem _ _ _ refl refl) (status_of_lem _ _ _ refl refl)

-- tests that pass before others pass alone
passed : (applies : Bool) (number later other : ℕ) → (later ≡ 0 → other ≡ 0) → cond applies number later ≡ 0 → cond applies number other ≡ 0
passed true number later other f e = e
passed false number later other f e = f e

all_passed : (checks : List Check) (later : ℕ) → refusal_before checks later ≡ 0 → refusal checks ≡ 0
all_passed [] later e = refl
all_passed (check ∷ checks) later e = passed check.applies check.number (refusal_before checks later) (refusal checks) (all_passed checks later) e

pub none_refused : NoneRefused
none_refused memory profile latches before cycle after done =
    let board = board_after_cycles profile (board_of memory latches) before in
    access_status profile board cycle
    ∙ ap₂ (λ (size kind : ℕ). access_refusal profile size kind) (sized profile (board_of memory latches) before) (kind_kept profile (board_of memory latches) before)
    ∙ all_passed (access_checks profile (length memory) latches.kind) _ done

-- a list that is not too long is refused as a single access is
pub as_access : (profile size kind count : ℕ) → count ≤ longest_trace → trace_refusal profile size kind count ≡ access_refusal profile size kind
as_access profile size kind count short = simp (le-ltb longest_trace count short)

-- accesses that are refused leave the board
module _ (profile : ℕ) (board : Board) (number : ℕ) (refused : access_refusal profile (length board.memory) board.latches.kind ≡ suc number) where
  cycle_refused : (cycle : Cycle) → board_after_cycle profile board cycle ≡ board
  unfolding write_contents write_latches
  cycle_refused cycle = cond_all (λ (after : Board). after ≡ board) (is_write cycle) _ _ (rw refused refl) refl

  pub cycles_refused : (cycles : List Cycle) → board_after_cycles profile board cycles ≡ board
  cycles_refused [] = refl
  cycles_refused (cycle ∷ cycles) = rw (cycle_refused cycle) (cycles_refused cycles)

-- two calls and one, by their statuses
module _ (profile : ℕ) (board : Board) (xs ys : List Cycle) where
  abbrev left : ℕ → Board
  left status = if_done status (board_after_cycles profile board xs) board

  boards_join : (all one two : ℕ) → one ≡ all → two ≡ all
      → if_done all (board_after_cycles profile board (xs ++ ys)) board ≡ if_done two (board_after_cycles profile (left one) ys) (left one)
  boards_join zero one two e f = rw (e, f) (cycles_join profile board xs ys).board_left
  boards_join (suc number) one two e f = rw (e, f) refl

  answers_join : (all one two : ℕ) → one ≡ all → two ≡ all
      → if_done all (all_answered profile board (xs ++ ys)) (xs ++ ys)
      ≡ if_done one (all_answered profile board xs) xs ++ if_done two (all_answered profile (left one) ys) ys
  answers_join zero one two e f = rw (e, f) (cycles_join profile board xs ys).answers
  answers_join (suc number) one two e f = rw (e, f) refl

  -- what the first call leaves is refused for no other reason
  left_sized : (status : ℕ) → length (left status).memory ≡ length board.memory
  left_sized zero = sized profile board xs
  left_sized (suc number) = refl

  left_kind : (status : ℕ) → (left status).latches.kind ≡ board.latches.kind
  left_kind zero = kind_kept profile board xs
  left_kind (suc number) = refl

pub calls_join : CallsJoin
unfolding trace_answer trace_contents trace_cycles
calls_join memory profile latches xs ys short =
    let board = board_of memory latches in
    let one = trace_status memory profile latches xs in
    let after = left profile board xs ys one in
    let two = trace_status after.memory profile after.latches ys in
    let all = trace_status memory profile latches (xs ++ ys) in
    let size = length-append xs ys in
    let first_short : length xs ≤ longest_trace = omega arith in
    let second_short : length ys ≤ longest_trace = omega arith in
    let whole : all ≡ access_refusal profile (length memory) latches.kind = as_access profile (length memory) latches.kind (length (xs ++ ys)) short in
    let e : one ≡ all = as_access profile (length memory) latches.kind (length xs) first_short ∙ sym whole in
    let f : two ≡ all =
    as_access profile (length after.memory) after.latches.kind (length ys) second_short
    ∙ ap₂ (λ (n kind : ℕ). access_refusal profile n kind) (left_sized profile board xs ys one) (left_kind profile board xs ys one)
    ∙ sym whole in
    let boards = boards_join profile board xs ys all one two e f in
    record {
      answer = ap₂ traced (sym f) boards;
      contents = ap (λ (b : Board). b.memory) boards;
      cycles = answers_join profile board xs ys all one two e f;
    }
