-- `video::source::Source::paint_cell` meets its contract: an attribute is pattern 0 in its own colours, a picture leaves the registers
-- alone.
use Rattle.std.proofs.Common.{◌≡◌, ℕ, get_or, sym, ap, ◌∙◌}
use Rattle.machine.specs.Image.{Image, byte_at}
use Rattle.video.specs.Address.{screen_address, is_bitmap}
use Rattle.video.specs.Cell.{screen_byte}
use Rattle.video.specs.RegisterValues.{RegisterValues}
use Rattle.video.specs.Internal.{block_ram}
use Rattle.video.proofs.Cells.{pattern_address, attribute_painted, picture_painted}
use Rattle.video.proofs.source.Source.paint_cell.Goals as goal

-- the byte that was read is the rules' screen byte
read : (block : Image) (screen line column mode : ℕ) → screen ≡ screen_address 1 line column mode
    → get_or block screen 0 ≡ screen_byte (block_ram block) line column mode
unfolding screen_byte
read block screen line column mode is = ap (byte_at block) is

pub returns-then-is_attribute : goal.returns-then-is_attribute
returns-then-is_attribute c =
    let a = c.args in
    let mode : c.before-2.inside.mode ≡ a.before.mode = ap (λ (h : RegisterValues). h.mode) c.before-2.view_is in
    let screen = rw mode at c.screen_address-screen.ensures in
    let byte = read a.self.block.now c.screen_address-screen.result a.line.number a.column a.before.mode screen in
    let attribute = sym c.is_attribute.ensures ∙ c.if-is_attribute.true in
    rw (c.paint_colours.ensures, c.latch.ensures, byte, screen)
    (attribute_painted (block_ram a.self.block.now) a.self.state.counter a.line.number a.column a.before (rw byte at attribute))

pub returns : goal.returns
returns c =
    let a = c.args in
    let counter = a.self.state.counter in
    let mode : c.before-2.inside.mode ≡ a.before.mode = ap (λ (h : RegisterValues). h.mode) c.before-2.view_is in
    let screen = rw mode at c.screen_address-screen.ensures in
    let byte = read a.self.block.now c.screen_address-screen.result a.line.number a.column a.before.mode screen in
    let picture = sym c.is_attribute.ensures ∙ c.if-is_attribute.false in
    let bitmap : c.is_bitmap-bitmap.result ≡ is_bitmap a.line.number a.before.mode = cc (mode, c.is_bitmap-bitmap.ensures) in
    let chosen : c.unwrap_or-pattern.result ≡ pattern_address (block_ram a.self.block.now) counter a.line.number a.column a.before =
    cc (c.unwrap_or-pattern.ensures, c.choose-character.ensures, c.character_address-definition.ensures, bitmap, byte, screen) in
    let painted = picture_painted (block_ram a.self.block.now) counter a.line.number a.column a.before (rw byte at picture) in
    cc (painted, c.choose-character.ensures, c.paint_colours-2.ensures, c.character_address-definition.ensures, bitmap, chosen, byte, screen)
