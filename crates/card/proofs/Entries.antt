-- What stands at each entry of the card, and by which test a table is the card.
-- Assumes nothing.
use Prim.Native.Nat.{ℕ, ◌+◌}
use mathlib.Core.Bool.{true}
use mathlib.Core.List.{List, ◌++◌}
use mathlib.Core.Path.{◌≡◌, sym, ap, ap₂, ◌∙◌}
use native.Mathlib.Omega.{arith}
use lib.ListN.{length, get_or, take, drop, length-drop, take-append-drop, get_or-append}
use lib.Seq.{length-take-le, get_or-append-add}
use Rattle.machine.specs.Sizes.{lines}
use Rattle.machine.proofs.Lists.{singles_length, singles_at}
use Rattle.machine.proofs.Tables.{follows, table_is}
use Rattle.card.specs.Card.{text_start, hires_start, per_line, card}
use Rattle.card.specs.Laws.{EntryOfCard}

pub entry_of_card : EntryOfCard
unfolding card
entry_of_card line h =
    let text-half : length (per_line text_start) ≡ lines = singles_length text_start lines in (
      get_or-append (per_line text_start) (per_line hires_start) 0 line (omega (arith, text-half)) ∙ singles_at text_start lines line 0 h,
      ap (λ (n : ℕ). get_or card (n + line) 0) (sym text-half)
          ∙ get_or-append-add (per_line text_start) (per_line hires_start) line 0
          ∙ singles_at hires_start lines line 0 h,
    )

-- a table is the card where each half passes its test
pub is_card : (starts : List ℕ) → length starts ≡ lines + lines → follows text_start (take lines starts) ≡ true
    → follows hires_start (drop lines starts) ≡ true → starts ≡ card
unfolding card
is_card starts size text hires =
    sym (take-append-drop lines starts)
    ∙ ap₂ ◌++◌ (table_is text_start lines (take lines starts) (length-take-le lines starts (omega arith)) text)
    (table_is hires_start lines (drop lines starts) (simp length-drop (omega arith)) hires)
