-- The outcome of the checks decides between refusal and report.
-- Assumes nothing.
use Rattle.std.proofs.Common.{ℕ, ◌≡◌, replicate, sym, ap, ◌∙◌}
use Rattle.std.specs.Prelude.{Result, Err}
use Rattle.machine.specs.Refusal.{status_of, if_done}
use Rattle.machine.specs.declared.refusal.Refusal.{Refusal}
use Rattle.machine.proofs.Refusals
use Rattle.machine.proofs.Refusals.{by_refusal}
use Rattle.compare.specs.Answer.{no_cell, uncompared, compare_answer, counts_left, cells_left}
use Rattle.compare.specs.Internal.{reported}
use Rattle.compare.proofs.Accepted.{accepted_lengths}
use Rattle.compare.proofs.Whole.{clear_is, counts_are, listed_are, small, report_is}
use Rattle.compare.proofs.frames.compare.Goals as goal

-- what a comparison that is not refused gives, and what a refused one leaves
as_done : {A : Type 0} (given : A) (number : ℕ) (done left : A) → number ≡ 0 → given ≡ done → given ≡ if_done number done left
as_done given number done left accepted is = is ∙ sym (Refusals.done number done left accepted)

as_refused : {A : Type 0} (outcome : Result (Unit {0}) Refusal) (reason : Refusal) (number : ℕ) (done left : A)
    → outcome ≡ Err reason → status_of outcome ≡ number → left ≡ if_done number done left
as_refused outcome reason number done left is checked = sym (by_refusal outcome reason number done left is checked)

pub find-requires-clause-cells_value : goal.find-requires-clause-cells_value
find-requires-clause-cells_value c =
    let a = c.args in
    let sized = accepted_lengths a.first.now a.second.now a.line_counts.now a.cells.now (sym c.in-Ok.ensures) in
    c.fill.ensures.after (λ y same. same) ∙ ap (λ (n : ℕ). replicate n no_cell) sized.list ∙ clear_is a.first.now a.second.now

pub report-requires : goal.report-requires
report-requires c = rw c.find.ensures.value (small c.args.first.now c.args.second.now)

pub returns-in-Ok : goal.returns-in-Ok
unfolding compare_answer counts_left cells_left
returns-in-Ok c =
    let first = c.args.first.now in
    let second = c.args.second.now in
    let accepted = sym c.in-Ok.ensures in
    record {
      value = as_done _ _ _ _ accepted (c.report.ensures ∙ ap reported c.find.ensures.value ∙ report_is first second);
      line_counts_after = as_done _ _ _ _ accepted (c.find.ensures.line_counts_after ∙ counts_are first second);
      cells_after = as_done _ _ _ _ accepted (c.find.ensures.cells_after ∙ listed_are first second);
    }

pub returns-in-Err : goal.returns-in-Err
unfolding compare_answer counts_left cells_left
returns-in-Err c =
    let is = c.in-Err.is in
    let checked = c.check_lengths.ensures in
    record {
      value = c.refused.ensures ∙ ap uncompared c.in-Err.ensures ∙ as_refused _ _ _ _ _ is checked;
      line_counts_after = as_refused _ _ _ _ _ is checked;
      cells_after = as_refused _ _ _ _ _ is checked;
    }
