-- The parts are put one after another.
use Rattle.std.proofs.Common.{ℕ, ◌≡◌, List, refl}
use Rattle.std.specs.List.{flat_map}
use Rattle.testcard.specs.Image.{with_part, with_rows, with_card}
use Rattle.testcard.specs.declared.row.Row.{Row}
use Rattle.testcard.proofs.memory.Image.put_into.Goals as goal

part_of : (address : ℕ) (bytes before part whole new : List ℕ)
    → bytes ≡ before → part ≡ whole → new ≡ with_part bytes address part → new ≡ with_part before address whole
part_of address bytes before part whole new p q put = cc

rows_of : (address : ℕ) (rows : List Row) (bytes before new : List ℕ)
    → bytes ≡ before → new ≡ with_rows bytes address rows → new ≡ with_rows before address rows
rows_of address rows bytes before new p put = cc

pub returns : goal.returns
unfolding with_card
returns c =
    let image = c.args.self.now in
    let memory = c.args.memory.now in
    let whole = λ (glyphs : List (List ℕ)). flat_map (λ glyph. glyph) glyphs in
    let first = with_part memory 0x9800 (whole image.hires_standard) in
    let second = with_part first 0x9C00 (whole image.hires_alternate) in
    let third = with_part second 0xB400 (whole image.text_standard) in
    let sets = with_part third 0xB800 (whole image.text_alternate) in
    let lines = with_rows sets 0xA000 image.lines in
    let p = part_of 0x9800 memory memory c.as_flattened.result.now (whole image.hires_standard) c.put.new.memory
    refl c.as_flattened.ensures.value c.put.ensures in
    let q = part_of 0x9C00 c.put.new.memory first c.as_flattened-2.result.now (whole image.hires_alternate) c.put-2.new.memory
    p c.as_flattened-2.ensures.value c.put-2.ensures in
    let r = part_of 0xB400 c.put-2.new.memory second c.as_flattened-3.result.now (whole image.text_standard) c.put-3.new.memory
    q c.as_flattened-3.ensures.value c.put-3.ensures in
    let s = part_of 0xB800 c.put-3.new.memory third c.as_flattened-4.result.now (whole image.text_alternate) c.put-4.new.memory
    r c.as_flattened-4.ensures.value c.put-4.ensures in
    let t = rows_of 0xA000 image.lines c.put-4.new.memory sets c.put_rows.new.memory s c.put_rows.ensures in
    rows_of 0xBB80 image.screen c.put_rows.new.memory lines c.put_rows-2.new.memory t c.put_rows-2.ensures
