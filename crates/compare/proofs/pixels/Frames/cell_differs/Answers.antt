-- The first pixel that differs is one of the cell's places, and where none does the cell has none.
-- Assumes nothing.
use Rattle.std.proofs.Common.{◌≡◌, ◌+◌, ◌*◌, ◌<◌, ℕ, Bool, true, false, List, length, ltb, sym, ap, rules, tests}
use borrow.Author.Tests.{lt-ltb}
use Rattle.std.specs.Bool.{MatchBool}
use Rattle.machine.specs.Numbers.{passing_from}
use Rattle.machine.specs.Sizes.{cell_length}
use Rattle.machine.proofs.Numbers.{some, from_member, from_nothing}
use Rattle.compare.specs.Places.{differs}
use Rattle.compare.proofs.Searches.{some_found}
use Rattle.compare.proofs.pixels.Frames.cell_differs.Goals as goal

pub returns : goal.returns
returns c =
    let a = c.args in
    let test = differs a.self.first.now a.self.second.now in
    told test (cell_length * a.cell) c.any.result
    (some_found (λ (k : ℕ). test ((cell_length * a.cell) + k)) _ (λ x b q k. search (rules, tests)) cell_length _ c.any.result c.any.ensures.ran)
  where
    told : (test : ℕ → Bool) (from : ℕ) (found : Bool)
        → MatchBool found ((k : ℕ) × (k < cell_length) × (test (from + k) ≡ true)) ((k : ℕ) → k < cell_length → test (from + k) ≡ false)
        → found ≡ ltb 0 (length (passing_from test from cell_length))
    told test from true one =
        let places = passing_from test from cell_length in
        sym (lt-ltb 0 (length places) (some places (from_member test from cell_length one.0 one.1 one.2)))
    told test from false none = sym (ap (λ (l : List ℕ). ltb 0 (length l)) (from_nothing test from cell_length none))
