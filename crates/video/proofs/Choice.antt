-- Laws of a pattern's six choices, and of the colours that are chosen.
-- Assumes nothing.
use Prim.Native.Nat.{ℕ, ◌-◌, ◌≤◌}
use mathlib.Core.Bool.{Bool, true, false, cond, ◌&&◌}
use mathlib.Core.List.{List, [], ◌∷◌, map}
use mathlib.Core.Path.{◌≡◌, refl, ap₂}
use native.Mathlib.Omega.{arith}
use lib.Dec.{leb}
use Rattle.machine.specs.Bits.{bit}
use Rattle.machine.proofs.Choice.{cond_most}
use Rattle.video.specs.Pattern.{pattern_colour, complemented}
use Rattle.video.specs.Registers.{shown_ink}
use Rattle.video.specs.declared.registers.Registers.{Registers}

pub cond_map : (f : ℕ → ℕ) (b : Bool) (x y : ℕ) → cond b (f x) (f y) ≡ f (cond b x y)
cond_map f true x y = refl
cond_map f false x y = refl

-- a change of ink and paper is a change of each pixel
pub pattern_map : (f : ℕ → ℕ) (ink paper pattern : ℕ) (weights : List ℕ)
    → map (pattern_colour (f ink) (f paper) pattern) weights ≡ map f (map (pattern_colour ink paper pattern) weights)
pattern_map f ink paper pattern [] = refl
pattern_map f ink paper pattern (weight ∷ weights) =
    ap₂ ◌∷◌ (cond_map f (bit weight pattern) ink paper) (pattern_map f ink paper pattern weights)

pub shown_most : (registers : Registers) (counter : ℕ) → registers.ink ≤ 7 → registers.paper ≤ 7 → shown_ink registers counter ≤ 7
shown_most registers counter ink paper =
    cond_most (bit 4 registers.style && leb 16 counter) registers.paper registers.ink paper ink

pub complemented_most : (byte colour : ℕ) → colour ≤ 7 → complemented byte colour ≤ 7
complemented_most byte colour h = cond_most (bit 128 byte) (7 - colour) colour (omega arith) h
