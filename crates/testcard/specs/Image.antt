-- Where the parts of the card stand in the bytes of a memory image.
-- Assumes nothing.
use Rattle.std.specs.Prelude.{ℕ, zero, suc, ◌+◌, ◌*◌, List, [], length, map, get_or}
use Rattle.std.specs.List.{flat_map}
use Rattle.std.proofs.Math.Seq.{paste}
use Rattle.testcard.specs.declared.memory.Image.{Image}
use Rattle.testcard.specs.declared.row.Row.{Row}

-- a part stands in the bytes at an address
abbrev pub with_part : List ℕ → ℕ → List ℕ → List ℕ
with_part bytes address part = paste bytes address part (length part)

-- glyphs stand one after another, eight bytes each
abbrev pub with_glyphs : List ℕ → ℕ → List (List ℕ) → List ℕ
with_glyphs bytes address glyphs = with_part bytes address (flat_map (λ glyph. glyph) glyphs)

-- the first rows stand in the bytes, row n at the address of row 0 and 40 n
unfoldable pub with_first_rows : List ℕ → ℕ → List Row → ℕ → List ℕ
with_first_rows bytes address rows zero = bytes
with_first_rows bytes address rows (suc n) =
    with_part (with_first_rows bytes address rows n) (address + 40 * n) (get_or (map (λ (row : Row). row.cells) rows) n [])

-- all rows
abbrev pub with_rows : List ℕ → ℕ → List Row → List ℕ
with_rows bytes address rows = with_first_rows bytes address rows (length rows)

-- the card stands in the bytes: the sets of hires mode and of text mode, the lines of the hires screen and the rows of the text screen
unfoldable pub with_card : List ℕ → Image → List ℕ
with_card bytes image =
    let hires_sets = with_glyphs (with_glyphs bytes 0x9800 image.hires_standard) 0x9C00 image.hires_alternate in
    let sets = with_glyphs (with_glyphs hires_sets 0xB400 image.text_standard) 0xB800 image.text_alternate in
    with_rows (with_rows sets 0xA000 image.lines) 0xBB80 image.screen
