-- `video::address::Scanline::new` meets its contract: the card has both starts, and each is counted from the block's.
use Rattle.std.proofs.Common.{◌≡◌, ℕ, ◌+◌, ◌-◌, ◌<◌, List, get_or, ap, ◌∙◌, arith, rules}
use Rattle.machine.specs.Sizes.{lines}
use Rattle.card.specs.Card.{text_start, hires_start, card}
use Rattle.card.proofs.Entries.{entry_of_card}
use Rattle.video.specs.Address.{video_block}
use Rattle.video.proofs.Addresses.{screen_in_block}
use Rattle.video.proofs.address.Scanline.new.Goals as goal

starts_are : (starts : List ℕ) → starts ≡ card → (line : ℕ) → line < lines
    → (get_or starts line 0 ≡ text_start line) × (get_or starts (lines + line) 0 ≡ hires_start line)
starts_are starts is line low =
    let of_card = entry_of_card line low in
    let same : (place : ℕ) → get_or starts place 0 ≡ get_or card place 0 = λ place. ap (λ (l : List ℕ). get_or l place 0) is in
    (same line ∙ of_card.0, same (lines + line) ∙ of_card.1)

-- both lie in the block: 0 is a mode of text, 4 one of hires
pub overflow_sub-result : goal.overflow_sub-result
overflow_sub-result c =
    let line = c.args.number in
    let are = starts_are c.args.starts.now c.requires.starts_value line c.requires.number_lt_lines in
    omega (arith, c.from-text.ensures, are.0, screen_in_block 0 line 0 0 c.requires.number_lt_lines (omega arith))

pub overflow_sub-result-2 : goal.overflow_sub-result-2
overflow_sub-result-2 c =
    let line = c.args.number in
    let are = starts_are c.args.starts.now c.requires.starts_value line c.requires.number_lt_lines in
    omega (arith, c.from-hires.ensures, are.1, screen_in_block 0 line 0 4 c.requires.number_lt_lines (omega arith))

pub invariant_of-result : goal.invariant_of-result
invariant_of-result c =
    let are = starts_are c.args.starts.now c.requires.starts_value c.args.number c.requires.number_lt_lines in
    let from_block : ℕ → ℕ = λ start. start - video_block in record {
      is_line = c.requires.number_lt_lines;
      text_is = ap from_block (c.from-text.ensures ∙ are.0);
      hires_is = ap from_block (c.from-hires.ensures ∙ are.1);
      can_show_is = search rules;
    }
