-- The loop of `trace`: what is done, followed by what the rest would do, is the whole.
-- Assumes nothing.
use Rattle.std.proofs.Common.{◌≡◌, ◌++◌, take, drop}
use Rattle.trace.specs.Cycle.{board_of}
use Rattle.trace.specs.List.{all_answered, board_after_cycles}
use Rattle.trace.proofs.list.trace.Given as goal

abbrev pub invariant-loop-cycle : goal.invariant-loop-cycle
invariant-loop-cycle l =
    let start = board_of l.fn.memory l.fn.latches in
    let board = board_of l.memory l.left in
    record {
      records : take l.cycle-index l.cycles ++ all_answered l.profile board (drop l.cycle-index l.cycles)
          ≡ all_answered l.profile start l.fn.cycles;
      left : board_after_cycles l.profile board (drop l.cycle-index l.cycles) ≡ board_after_cycles l.profile start l.fn.cycles;
    }
