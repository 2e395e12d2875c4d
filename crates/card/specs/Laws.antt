-- What holds of the card; the proof is in proofs/.
-- Assumes nothing.
use Rattle.std.specs.Prelude.{ℕ, ◌+◌, ◌<◌, ◌≡◌, get_or}
use Rattle.machine.specs.Sizes.{lines}
use Rattle.card.specs.Card.{text_start, hires_start, card}

-- entry `line` of the card is the line's start in text, entry 224 + line its start in hires
abbrev pub EntryOfCard : Type 0
EntryOfCard = (line : ℕ) → line < lines → (get_or card line 0 ≡ text_start line) × (get_or card (lines + line) 0 ≡ hires_start line)
