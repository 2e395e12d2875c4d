-- What holds of every comparison, and what of one that is not refused.
-- Assumes nothing.
use Rattle.std.specs.Prelude.{ℕ, ◌≤◌, true, false, ◌≡◌}
use mathlib.Core.List.{List, Memᴰ}
use Rattle.machine.specs.Lists.{Each}
use Rattle.compare.specs.Answer.{status_of, compare_answer, counts_left, cells_left}
use Rattle.machine.specs.Numbers.{sum}
use Rattle.compare.specs.Places.{x_of, line_of, differences}
use Rattle.compare.specs.declared.comparison.Comparison.{Comparison}

-- it does not matter which frame comes first, refused or not
abbrev pub ComparisonIsSymmetric : Type 0
ComparisonIsSymmetric =
    (first second counts cells : List ℕ)
    → (compare_answer first second counts cells ≡ compare_answer second first counts cells)
    × (counts_left first second counts cells ≡ counts_left second first counts cells)
    × (cells_left first second counts cells ≡ cells_left second first counts cells)

-- the sum of the line counts is the number of pixels
abbrev pub LineCountsSumToPixels : Type 0
LineCountsSumToPixels =
    (first second counts cells : List ℕ) → status_of first second counts cells ≡ 0
    → sum (counts_left first second counts cells) ≡ (compare_answer first second counts cells).pixels

-- a comparison is empty exactly where the frames are equal
abbrev pub EmptyIsEqual : Type 0
EmptyIsEqual =
    (first second counts cells : List ℕ) → status_of first second counts cells ≡ 0
    → ((compare_answer first second counts cells).empty ≡ true → first ≡ second)
    × (first ≡ second → (compare_answer first second counts cells).empty ≡ true)

-- a place lies in the rectangle of an answer
pub record Holds (answer : Comparison) (place : ℕ) : Type 0 where
  pub left : answer.first_x ≤ x_of place
  pub right : x_of place ≤ answer.last_x
  pub top : answer.first_line ≤ line_of place
  pub bottom : line_of place ≤ answer.last_line

-- a side has one of some places on it
abbrev pub Touched : (ℕ → ℕ) → ℕ → List ℕ → Type 0
Touched coordinate side places = (place : ℕ) × Memᴰ place places × (coordinate place ≡ side)

-- the rectangle holds all of some places, and no smaller one does: each side has one of them on it
pub record Smallest (answer : Comparison) (places : List ℕ) : Type 0 where
  pub holds : Each (Holds answer) places
  pub left : Touched x_of answer.first_x places
  pub right : Touched x_of answer.last_x places
  pub top : Touched line_of answer.first_line places
  pub bottom : Touched line_of answer.last_line places

-- where the frames differ, the rectangle is the smallest that holds every differing place
abbrev pub RectangleIsSmallest : Type 0
RectangleIsSmallest =
    (first second counts cells : List ℕ) → status_of first second counts cells ≡ 0
    → (compare_answer first second counts cells).empty ≡ false
    → Smallest (compare_answer first second counts cells) (differences first second)
