-- The sideways slip of a grabbed line: where it disagrees with the reference at a slip, which slip is the best, and what the search for
-- it answers, for every input.
-- Assumes nothing.
use Rattle.std.specs.Prelude.{ℕ, ◌≤◌, ◌<◌, Bool, true, not, ◌||◌, List, [], ◌∷◌, ◌⊎◌, ◌≢◌, ◌≡◌, eqb, leb, ℤ, pos, negsuc, nat_abs, ◌+ℤ◌, length, get_or, ◌<ℤ◌}
use Rattle.machine.specs.Refusal.{refusal, output_check}
use Rattle.machine.specs.Sizes.{line_length}
use Rattle.machine.specs.Numbers.{passing_from}
use Rattle.slips.specs.declared.slip.Slip.{Slip}

-- pixels to either side
abbrev pub farthest_slip : ℕ
farthest_slip = 12

-- the 25 slips, from -12 to 12
abbrev pub IsSlip : ℤ → Type 0
IsSlip slip = nat_abs slip ≤ farthest_slip

-- an index falls outside a line, whose places are 0 to 239
abbrev pub is_outside : ℤ → Bool
is_outside (pos at) = leb line_length at
is_outside (negsuc n) = true

-- farther from zero than another slip, or as far and positive
abbrev pub Behind : ℤ → ℤ → Type 0
Behind other slip = (nat_abs slip < nat_abs other) ⊎ ((nat_abs other ≡ nat_abs slip) × (pos 0 <ℤ other))

-- the lengths of two lines: 2 for either
abbrev pub slip_refusal : ℕ → ℕ → ℕ
slip_refusal reference grabbed = refusal (output_check line_length reference ∷ output_check line_length grabbed ∷ [])

-- what a refused search answers
abbrev pub unsearched : ℕ → Slip
unsearched status = record { status = status; slip = pos 0; disagreements = 0 }

module _ (reference grabbed : List ℕ) where
  -- the index x + slip falls outside the line, or the reference's pixel x is not the grabbed pixel there
  abbrev pub disagrees : ℤ → ℕ → Bool
  disagrees slip x = let at = pos x +ℤ slip in is_outside at || not (eqb (get_or reference x 0) (get_or grabbed (nat_abs at) 0))

  -- how many of the 240 pixels of the reference disagree
  unfoldable pub disagreements : ℤ → ℕ
  disagreements slip = length (passing_from (disagrees slip) 0 line_length)

  -- of some slips the one to take: none has fewer disagreements, and another with as many is farther from zero, or as far and positive
  pub record BestOf (Among : ℤ → Type 0) (slip : ℤ) : Type 0 where
    pub among : Among slip
    pub fewest : (other : ℤ) → Among other → disagreements slip ≤ disagreements other
    pub nearest : (other : ℤ) → Among other → other ≢ slip → disagreements other ≡ disagreements slip → Behind other slip

  -- of all 25
  abbrev pub Best : ℤ → Type 0
  Best = BestOf IsSlip

  -- what is answered of a slip
  abbrev pub slipped : ℤ → Slip
  slipped slip = record { status = 0; slip = slip; disagreements = disagreements slip }

  abbrev pub slip_status : ℕ
  slip_status = slip_refusal (length reference) (length grabbed)

  -- an answer that gives the best slip
  pub record GivesBest (answer : Slip) : Type 0 where
    pub best : Best answer.slip
    pub is : answer ≡ slipped answer.slip

  -- what the search answers; the law OneSlipAnswer says that it is one answer and no other
  pub record IsSlipAnswer (answer : Slip) : Type 0 where
    pub done : slip_status ≡ 0 → GivesBest answer
    pub refused : slip_status ≢ 0 → answer ≡ unsearched slip_status
