-- What holds of the slip of every two lines.
-- Assumes nothing.
use Rattle.std.specs.Prelude.{ℕ, ◌≤◌, ◌<◌, List, ◌≡◌, ℤ, pos, nat_abs, ◌+ℤ◌, length, get_or}
use Rattle.machine.specs.Sizes.{line_length}
use Rattle.slips.specs.Slip.{IsSlip, disagreements, Best, slip_status, IsSlipAnswer}
use Rattle.slips.specs.declared.slip.Slip.{Slip}

-- exactly one slip is the best
abbrev pub OneBestSlip : Type 0
OneBestSlip = (reference grabbed : List ℕ) → (slip : ℤ) × Best reference grabbed slip × ((other : ℤ) → Best reference grabbed other → other ≡ slip)

-- exactly one answer is given, refused or not
abbrev pub OneSlipAnswer : Type 0
OneSlipAnswer =
    (reference grabbed : List ℕ)
    → (answer : Slip) × IsSlipAnswer reference grabbed answer × ((other : Slip) → IsSlipAnswer reference grabbed other → other ≡ answer)

-- a line has not slipped against itself, and no pixel disagrees
abbrev pub EqualLinesHaveNoSlip : Type 0
EqualLinesHaveNoSlip =
    (line : List ℕ) (answer : Slip) → length line ≡ line_length → IsSlipAnswer line line answer
    → answer ≡ record { status = 0; slip = pos 0; disagreements = 0 }

-- a line is another, moved: each pixel x stands at x + slip, where the line has that place; what came in may be anything
abbrev pub Moved : List ℕ → List ℕ → ℤ → Type 0
Moved reference grabbed slip =
    (x at : ℕ) → x < line_length → at < line_length → pos x +ℤ slip ≡ pos at → get_or grabbed at 0 ≡ get_or reference x 0

-- at the slip by which a line was moved just the pixels that left it disagree, so the best slip has no more
pub record MovedBy (reference grabbed : List ℕ) (slip : ℤ) : Type 0 where
  pub there : disagreements reference grabbed slip ≡ nat_abs slip
  pub best : (answer : Slip) → slip_status reference grabbed ≡ 0 → IsSlipAnswer reference grabbed answer → answer.disagreements ≤ nat_abs slip

abbrev pub MovedLineDisagreesBySlip : Type 0
MovedLineDisagreesBySlip = (reference grabbed : List ℕ) (slip : ℤ) → IsSlip slip → Moved reference grabbed slip → MovedBy reference grabbed slip
