-- The four registers, and which bytes change them.
-- Assumes nothing.
use Rattle.std.specs.Prelude.{ℕ, ◌/◌, ◌%◌, Bool, cond, ◌&&◌, eqb, ltb, leb}
use Rattle.machine.specs.Bits.{bit}
use Rattle.video.specs.declared.registers.Registers.{Registers}

-- at the start of each line ink is 7, style and paper are 0; the mode carries over
abbrev pub line_reset : ℕ → Registers
line_reset mode = record { ink = 7; style = 0; paper = 0; mode = mode }

-- a byte is an attribute exactly when bits 5 and 6 are both 0
abbrev pub is_attribute : ℕ → Bool
is_attribute byte = eqb (byte / 32 % 4) 0

-- an attribute's low five bits choose the register, its low three are the new value
unfoldable pub latched : Registers → ℕ → Registers
latched before byte =
    cond (ltb (byte % 32) 8) (record { ink = byte % 8; style = before.style; paper = before.paper; mode = before.mode })
    (cond (ltb (byte % 32) 16) (record { ink = before.ink; style = byte % 8; paper = before.paper; mode = before.mode })
    (cond (ltb (byte % 32) 24) (record { ink = before.ink; style = before.style; paper = byte % 8; mode = before.mode })
    (record { ink = before.ink; style = before.style; paper = before.paper; mode = byte % 8 })))

-- ink pixels show paper while the style flashes (bit 2) and the counter is 16 or more
abbrev pub shown_ink : Registers → ℕ → ℕ
shown_ink registers counter = cond (bit 4 registers.style && leb 16 counter) registers.paper registers.ink
