-- The refusals: their numbers, when each is given, and which of several.
-- Assumes nothing.
use Rattle.std.specs.Prelude.{ℕ, zero, suc, Bool, cond, not, ◌&&◌, List, [], ◌∷◌, eqb, leb, ltb, Result, Ok, Err}
use Rattle.machine.specs.Image.{is_16k, image_length}
use Rattle.machine.specs.declared.refusal.Refusal.{Refusal}
use Rattle.machine.specs.declared.refusal.Refusal.TheVariants.{Memory, Output, Mode, Counter, Line, Column, Kind, Trace, Profile, Controller}
use Rattle.machine.specs.Sizes.{columns, lines, last_mode, last_count, last_kind, last_profile, longest_trace}

-- the number of a refusal (document 01: numbers given instead of an answer)
abbrev pub number_of : Refusal → ℕ
number_of Memory = 1
number_of Output = 2
number_of Mode = 3
number_of Counter = 4
number_of Line = 5
number_of Column = 6
number_of Kind = 7
number_of Trace = 8
number_of Profile = 12
number_of Controller = 13

-- the status of an outcome: 0, or the number of its refusal
abbrev pub status_of : {A : Type 0} → Result A Refusal → ℕ
status_of (Ok value) = 0
status_of (Err refusal) = number_of refusal

-- one refusal of the table: its number, and whether it applies to what was given
pub record Check : Type 0 where
  pub number : ℕ
  pub applies : Bool

abbrev pub check_of : Refusal → Bool → Check
check_of refusal applies = record { number = number_of refusal; applies = applies }

-- the number of a check that applies, else the status of those after it
abbrev pub given : Check → ℕ → ℕ
given check later = cond check.applies check.number later

-- the first of a list that applies, else the status of the checks after the list
abbrev pub refusal_before : List Check → ℕ → ℕ
refusal_before [] later = later
refusal_before (check ∷ checks) later = given check (refusal_before checks later)

-- the first of a list that applies, 0 where none does (document 01: numbers given instead of an answer)
abbrev pub refusal : List Check → ℕ
refusal checks = refusal_before checks 0

-- 1: the memory has not the length of the profile
abbrev pub memory_check : ℕ → ℕ → Check
memory_check profile size = check_of Memory (not (eqb size (image_length profile)))

-- 2: a lent line, frame or list has not the length that is wanted
abbrev pub output_check : ℕ → ℕ → Check
output_check wanted size = check_of Output (not (eqb size wanted))

-- 3: the mode is above 7
abbrev pub mode_check : ℕ → Check
mode_check mode = check_of Mode (ltb last_mode mode)

-- 4: the flash counter is above 31
abbrev pub counter_check : ℕ → Check
counter_check counter = check_of Counter (ltb last_count counter)

-- 5: the line is above 223
abbrev pub line_check : ℕ → Check
line_check line = check_of Line (leb lines line)

-- 6: the column is above 39
abbrev pub column_check : ℕ → Check
column_check column = check_of Column (leb columns column)

-- 7: the controller kind is above 2
abbrev pub kind_check : ℕ → Check
kind_check kind = check_of Kind (ltb last_kind kind)

-- 8: a trace has more than 1,024 records
abbrev pub trace_check : ℕ → Check
trace_check count = check_of Trace (ltb longest_trace count)

-- 12: the profile is above 1
abbrev pub profile_check : ℕ → Check
profile_check profile = check_of Profile (ltb last_profile profile)

-- 13: the 16K machine with a controller
abbrev pub controller_check : ℕ → ℕ → Check
controller_check profile kind = check_of Controller (is_16k profile && not (eqb kind 0))

-- what is given or left: the first where the status is 0, the second where it is a refusal
abbrev pub if_done : {A : Type 0} → ℕ → A → A → A
if_done zero done refused = done
if_done (suc number) done refused = refused
