-- The latch record, and which writes change it.
-- Assumes nothing.
use Rattle.std.specs.Prelude.{ℕ, Bool, cond, ◌&&◌, ◌||◌, eqb}
use Rattle.bus.specs.declared.latch.Latches.{Latches}

-- fresh latches: no controller, and 0 in both bytes
abbrev pub fresh_latches : Latches
fresh_latches = record { kind = 0; first = 0; second = 0 }

-- the first latch is written at 0314 under the Microdisc, at 03FA under the Jasmin
abbrev pub is_first_latch : ℕ → ℕ → Bool
is_first_latch kind address = (eqb kind 1 && eqb address 0x314) || (eqb kind 2 && eqb address 0x3FA)

-- the second latch is written at 03FB under the Jasmin
abbrev pub is_second_latch : ℕ → ℕ → Bool
is_second_latch kind address = eqb kind 2 && eqb address 0x3FB

-- the latches after a write of a byte, from the next access on
abbrev pub latches_after : Latches → ℕ → ℕ → Latches
latches_after before address byte =
    record {
      kind = before.kind;
      first = cond (is_first_latch before.kind address) byte before.first;
      second = cond (is_second_latch before.kind address) byte before.second;
    }
