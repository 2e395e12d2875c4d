-- What a status tells: which of two things is given, and where it is 0 that each test of the list was passed.
-- Assumes nothing.
use Prim.Native.Nat.{ℕ, zero, suc, ◌≤◌}
use Rattle.std.specs.Prelude.{Result, Err}
use mathlib.Core.Bool.{Bool, true, false, not, cond}
use mathlib.Core.Path.{◌≡◌, refl, subst}
use native.Mathlib.Omega.{arith}
use lib.Dec.{T, eqb, ltb}
use borrow.Author.Tests.{eq-eqb, eqb-true, ltb-false, not-false}
use Rattle.machine.specs.Image.{is_16k, image_length}
use Rattle.machine.specs.Refusal.{number_of, status_of, given, if_done, memory_check, output_check, kind_check, profile_check, controller_check, trace_check}
use Rattle.machine.specs.declared.refusal.Refusal.{Refusal}
use Rattle.machine.specs.declared.refusal.Refusal.TheVariants.{Memory, Output, Mode, Counter, Line, Column, Kind, Trace, Profile, Controller}
use Rattle.machine.specs.Sizes.{last_kind, last_profile, longest_trace}

pub done : {A : Type 0} (n : ℕ) (a b : A) → n ≡ 0 → if_done n a b ≡ a
done zero a b e = refl
done (suc n) a b e = absurd (omega arith)

pub refused : {A : Type 0} (n : ℕ) (a b : A) → (n ≡ 0 → ⊥) → if_done n a b ≡ b
refused zero a b e = absurd (e refl)
refused (suc n) a b e = refl

-- a refusal is no 0: what is given is what a refusal leaves
pub by_number : {A : Type 0} (reason : Refusal) (done refused : A) → if_done (number_of reason) done refused ≡ refused
by_number Memory done refused = refl
by_number Output done refused = refl
by_number Mode done refused = refl
by_number Counter done refused = refl
by_number Line done refused = refl
by_number Column done refused = refl
by_number Kind done refused = refl
by_number Trace done refused = refl
by_number Profile done refused = refl
by_number Controller done refused = refl

-- and so it is where a call gave this refusal for its checks
pub by_refusal : {A B : Type 0} (outcome : Result B Refusal) (reason : Refusal) (number : ℕ) (done refused : A)
    → outcome ≡ Err reason → status_of outcome ≡ number → if_done number done refused ≡ refused
by_refusal {B = B} outcome reason number done refused is checked =
    let numbered : number_of reason ≡ number = subst (λ (o : Result B Refusal). status_of o ≡ number) is checked in
    rw (← numbered) (by_number reason done refused)

-- a test was passed: what it asks holds, and so the status is that of the tests after it
pub record Passed (Fact : Type 0) (later : ℕ) : Type 0 where
  pub holds : Fact
  pub rest : later ≡ 0

-- a check of a list whose status is 0 does not apply
unapplied : (applies : Bool) (number later : ℕ) → T (not (eqb number 0)) → cond applies number later ≡ 0 → Passed (applies ≡ false) later
unapplied true number later t e = absurd (subst (λ (b : Bool). T (not b)) (eq-eqb number 0 e) t)
unapplied false number later t e = record { holds = refl; rest = e }

-- two forms of a test: a length that is wanted, a largest number
module _ (number later : ℕ) (numbered : T (not (eqb number 0))) where
  equal : (wanted size : ℕ) → cond (not (eqb size wanted)) number later ≡ 0 → Passed (size ≡ wanted) later
  equal wanted size e =
      let p = unapplied (not (eqb size wanted)) number later numbered e in
      record { holds = eqb-true size wanted (not-false _ p.holds); rest = p.rest }

  at_most : (last n : ℕ) → cond (ltb last n) number later ≡ 0 → Passed (n ≤ last) later
  at_most last n e =
      let p = unapplied (ltb last n) number later numbered e in
      record { holds = ltb-false last n p.holds; rest = p.rest }

-- what each test has shown where it was passed
module _ (later : ℕ) where
  pub memory_passed : (profile size : ℕ) → given (memory_check profile size) later ≡ 0 → Passed (size ≡ image_length profile) later
  memory_passed profile size = equal 1 later tt (image_length profile) size

  pub output_passed : (wanted size : ℕ) → given (output_check wanted size) later ≡ 0 → Passed (size ≡ wanted) later
  output_passed wanted size = equal 2 later tt wanted size

  pub kind_passed : (kind : ℕ) → given (kind_check kind) later ≡ 0 → Passed (kind ≤ last_kind) later
  kind_passed kind = at_most 7 later tt last_kind kind

  pub trace_passed : (count : ℕ) → given (trace_check count) later ≡ 0 → Passed (count ≤ longest_trace) later
  trace_passed count = at_most 8 later tt longest_trace count

  pub profile_passed : (profile : ℕ) → given (profile_check profile) later ≡ 0 → Passed (profile ≤ last_profile) later
  profile_passed profile = at_most 12 later tt last_profile profile

  pub controller_passed : (profile kind : ℕ) → given (controller_check profile kind) later ≡ 0
      → Passed (is_16k profile ≡ true → kind ≡ 0) later
  controller_passed profile kind e =
      let p = unapplied (controller_check profile kind).applies 13 later tt e in
      record {
        holds = λ small. eqb-true kind 0 (not-false _ (simp small at p.holds));
        rest = p.rest;
      }
