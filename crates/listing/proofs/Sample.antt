-- The sample line of document 01, for a painting of 65,536 zero bytes, spelled byte by byte: the definitions compute to it.
-- Assumes nothing.
use mathlib.Core.Path.{◌≡◌, refl}
use mathlib.Core.List.{[], ◌∷◌}
use Rattle.video.specs.declared.answer.Painted.{Painted}
use Rattle.listing.specs.Text.{decimal_in, closing_text, refused_text}

abbrev zeros : Painted
zeros = record { status = 0; state = record { mode = 2; counter = 1; profile = 0 }; screen = 8960; character = 0 }

-- "mode 2 counter 1 screen 8960 character 0" and a line feed
sample : closing_text zeros
    ≡ 109 ∷ 111 ∷ 100 ∷ 101 ∷ 32 ∷ 50 ∷ 32 ∷ 99 ∷ 111 ∷ 117 ∷ 110 ∷ 116 ∷ 101 ∷ 114 ∷ 32 ∷ 49
    ∷ 32 ∷ 115 ∷ 99 ∷ 114 ∷ 101 ∷ 101 ∷ 110 ∷ 32 ∷ 56 ∷ 57 ∷ 54 ∷ 48
    ∷ 32 ∷ 99 ∷ 104 ∷ 97 ∷ 114 ∷ 97 ∷ 99 ∷ 116 ∷ 101 ∷ 114 ∷ 32 ∷ 48 ∷ 10 ∷ []
unfolding decimal_in
sample = refl

-- "refused 1" and a line feed
refused : refused_text 1 ≡ 114 ∷ 101 ∷ 102 ∷ 117 ∷ 115 ∷ 101 ∷ 100 ∷ 32 ∷ 49 ∷ 10 ∷ []
unfolding decimal_in
refused = refl
