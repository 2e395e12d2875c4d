-- What the loop over a frame has done when it comes to a line, how one line more adds to it, and what it comes to at the end.
-- Assumes nothing.
use Prim.Native.Nat.{ℕ, ◌+◌, ◌-◌, ◌*◌, ◌≤◌, ◌<◌}
use mathlib.Core.Bool.{Bool, true, false, cond}
use mathlib.Core.List.{List, ◌++◌, flat_map, flatten}
use mathlib.Core.Path.{◌≡◌, refl, sym, ap, ap₂, ◌∙◌}
use native.Mathlib.Omega.{arith}
use lib.ListN.{length, take}
use lib.Seq.{take_all}
use borrow.Rule.Slice.PartMut.{put_mid}
use Rattle.machine.specs.Image.{Image}
use Rattle.machine.specs.Lists.{gather}
use Rattle.machine.specs.Sizes.{columns, lines, line_length, frame_length}
use Rattle.machine.proofs.Lists.{piece_length, piece_done}
use Rattle.used_map.specs.Map.{marked}
use Rattle.used_map.proofs.Marks.{Bytes, marked_none, marks_join}
use Rattle.video.specs.Answer.{painted}
use Rattle.video.specs.Cell.{Cell, pixels, character_addresses, used}
use Rattle.video.specs.Frame.{mode_after_lines, mode_before, line_of, first_lines, frame_cells}
use Rattle.video.specs.Internal.{block_ram, answered, painted_line}
use Rattle.video.specs.Line.{line_cells}
use Rattle.video.specs.Ram.{Ram}
use Rattle.video.specs.State.{with_profile, after_frame}
use Rattle.video.proofs.Frames.{lines_next, characters_down, mode_next, mode_down, frame_uses_screen_bytes}
use Rattle.video.proofs.Lines.{line_pixels, line_uses_screen_bytes}
use Rattle.video.proofs.Readings.{pixels_append, characters_append, used_append}
use Rattle.video.specs.declared.line.PaintedLine.{PaintedLine}
use Rattle.video.specs.declared.registers.Registers.{Registers}
use Rattle.video.specs.declared.state.State.{State}

module _ (image : Image) (state : State) where
  abbrev ram : Ram
  ram = block_ram image

  abbrev first : ℕ → List Cell
  first = first_lines ram state.counter state.mode

  pub record Reached (frame : List ℕ) (registers : Registers) (screen character line : ℕ) : Type 0 where
    pub size : length frame ≡ frame_length
    pub filled : take (line_length * line) frame ≡ pixels (first line)
    pub path : registers.mode ≡ mode_before ram state.mode line
    pub screens : screen ≡ columns * line
    pub characters : character ≡ length (character_addresses (first line))

  pub none : (frame : List ℕ) (registers : Registers) → length frame ≡ frame_length → registers.mode ≡ state.mode → Reached frame registers 0 0 0
  unfolding first_lines gather mode_after_lines pixels flatten character_addresses flat_map
  none frame registers size mode = record { size = size; filled = refl; path = mode; screens = refl; characters = refl }

  -- where addresses are marked, those of the lines before a line are
  abbrev pub Marked : Bool → ℕ → List ℕ → List ℕ → Type 0
  Marked marking line before marks = marks ≡ cond marking (marked before (used (first line))) before

  pub none_marked : (marking : Bool) (marks : List ℕ) → Bytes marks → Marked marking 0 marks marks
  unfolding first_lines gather used flat_map
  none_marked true marks bytes = marked_none marks bytes
  none_marked false marks bytes = refl

  module _ (frame : List ℕ) (registers : Registers) (screen character line : ℕ) (here : Reached frame registers screen character line) where
    pub next : line < lines → (number : ℕ) → number ≡ line → (part : List ℕ) (answer : PaintedLine)
        → part ≡ pixels (line_cells ram state.counter number registers.mode)
        → answer ≡ painted_line ram state.counter number registers.mode
        → Reached (put_mid (line_length * line) (line_length * line + line_length - line_length * line) frame part) answer.registers
        (screen + answer.screen) (character + answer.character) (line + 1)
    next more number here-is part answer p e =
        let mode = mode_before ram state.mode line in
        let cells = line_of ram state.counter state.mode line in
        let pixels-are : part ≡ pixels cells = p ∙ ap₂ (λ (l m : ℕ). pixels (line_cells ram state.counter l m)) here-is here.path in
        let is : answer ≡ painted_line ram state.counter line mode = e ∙ ap₂ (painted_line ram state.counter) here-is here.path in
        let size : length part ≡ line_length = ap length pixels-are ∙ line_pixels ram state.counter line mode in
        let fits : line_length * line + line_length ≤ length frame = omega arith in
        let grown = lines_next ram state.counter state.mode line in
        record {
          size = piece_length line_length line frame fits part size ∙ here.size;
          filled = piece_done line_length line frame fits part size ∙ ap₂ ◌++◌ here.filled pixels-are ∙ sym (ap pixels grown ∙ pixels_append (first line) cells);
          path = ap (λ (a : PaintedLine). a.registers.mode) is ∙ sym (mode_next ram state.mode line);
          screens = omega (arith, here.screens, ap (λ (a : PaintedLine). a.screen) is, line_uses_screen_bytes ram state.counter line mode);
          characters =
              ap₂ (λ (n : ℕ) (a : PaintedLine). n + a.character) here.characters is
              ∙ sym (ap (λ (l : List Cell). length (character_addresses l)) grown ∙ characters_append (first line) cells);
        }

    -- no more character bytes are used than cells
    pub few : character ≤ columns * line
    few = omega (arith, here.characters, characters_down ram state.counter state.mode line)

    -- the line's addresses are marked after those of the lines before it
    pub next_marked : (number : ℕ) → number ≡ line → (marking : Bool) (before marks after : List ℕ) → Marked marking line before marks
        → after ≡ cond marking (marked marks (used (line_cells ram state.counter number registers.mode))) marks
        → Marked marking (line + 1) before after
    next_marked number here-is true before marks after m a =
        let cells = line_of ram state.counter state.mode line in
        a
        ∙ ap₂ (λ (l : List ℕ) (n : ℕ). marked l (used (line_cells ram state.counter n registers.mode))) m here-is
        ∙ ap (λ (mode : ℕ). marked (marked before (used (first line))) (used (line_cells ram state.counter line mode))) here.path
        ∙ marks_join before (used (first line)) (used cells)
        ∙ ap (marked before) (sym (ap used (lines_next ram state.counter state.mode line) ∙ used_append (first line) cells))
    next_marked number here-is false before marks after m a = a ∙ m

    pub all : line ≡ lines
        → (answered (after_frame state) registers.mode screen character ≡ painted (after_frame state) (frame_cells image (with_profile 1 state)))
        × (frame ≡ pixels (frame_cells image (with_profile 1 state)))
    all end = (
      rw (here.path, here.screens, here.characters, end, mode_down ram state.counter state.mode lines, frame_uses_screen_bytes image (with_profile 1 state)) refl,
      sym (take_all (line_length * line) frame (omega arith)) ∙ here.filled ∙ ap (λ (n : ℕ). pixels (first n)) end,
    )
