-- One record of a trace: what its access answers, and what it leaves.
-- Assumes nothing.
use Rattle.std.specs.Prelude.{ℕ, Bool, cond, not, eqb}
use Rattle.machine.specs.Image.{Image}
use Rattle.bus.specs.Accesses.{Board, board_after_write}
use Rattle.bus.specs.Cycle.{read_answer, write_answer}
use Rattle.bus.specs.declared.cycle.Access.{Access}
use Rattle.bus.specs.declared.latch.Latches.{Latches}
use Rattle.trace.specs.declared.cycle.Cycle.{Cycle}

-- the memory and the latches that an access finds
abbrev pub board_of : Image → Latches → Board
board_of memory latches = record { memory = memory; latches = latches }

-- 0 is a read, any other number a write
abbrev pub is_write : Cycle → Bool
is_write cycle = not (eqb cycle.write 0)

-- what the single access answers, by the definitions that the contracts of read and write cite
abbrev pub access_on : ℕ → Board → Cycle → Access
access_on profile board cycle =
    cond (is_write cycle) (write_answer board.memory profile board.latches cycle.address)
    (read_answer board.memory profile board.latches cycle.address)

-- the board that it leaves: a read changes nothing
abbrev pub board_after_cycle : ℕ → Board → Cycle → Board
board_after_cycle profile board cycle = cond (is_write cycle) (board_after_write profile cycle.address cycle.byte board) board

-- a record with an answer: address, direction and byte to write stay as they were
abbrev pub filled : Cycle → ℕ → ℕ → ℕ → Cycle
filled cycle target number byte =
    record {
      address = cycle.address;
      write = cycle.write;
      byte = cycle.byte;
      number = number;
      target = target;
      byte_read = byte;
    }

-- the record with the answer of its access
abbrev pub answered : ℕ → Board → Cycle → Cycle
answered profile board cycle =
    let answer = access_on profile board cycle in
    filled cycle answer.target answer.number answer.byte
