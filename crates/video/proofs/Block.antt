-- The block of a memory that video reads: it is there, it is the image of a 16K machine, and what is painted from it is what the
-- memory shows.
-- Assumes nothing.
use Prim.Native.Nat.{ℕ, ◌+◌, ◌-◌, ◌*◌, ◌/◌, ◌%◌, ◌<◌, ◌≤◌}
use mathlib.Core.List.{List, [], ◌∷◌, map}
use mathlib.Core.Path.{◌≡◌, refl, sym, ap, ap₂, ◌∙◌}
use native.Mathlib.Omega.{arith}
use lib.ListN.{length, take, drop, length-drop}
use lib.Seq.{length-take-le, get_or-take, get_or-drop}
use borrow.Rule.Slice.PartMut.{put_mid}
use Rattle.machine.specs.Image.{Image, is_16k, block_length, image_length, IsImage, folded}
use Rattle.machine.specs.Lists.{Each}
use Rattle.machine.specs.Sizes.{columns, lines}
use Rattle.machine.proofs.Choice.{cond_all, cond_both}
use Rattle.machine.proofs.Each.{each_head, each_tail, each_map}
use Rattle.used_map.specs.Map.{byte_bits, map_length, marked}
use Rattle.used_map.proofs.Marks.{Bytes, marked_part}
use Rattle.video.specs.Address.{video_block, screen_address, character_address}
use Rattle.video.specs.Answer.{painted, cells_of_line}
use Rattle.video.specs.Cell.{Cell, pixels, used}
use Rattle.video.specs.Frame.{frame_cells}
use Rattle.video.specs.Internal.{block_of, block_marks}
use Rattle.video.specs.Laws.{StandsIn, folded_cell}
use Rattle.video.specs.State.{with_profile}
use Rattle.video.proofs.Addresses.{InBlock, block_moved, screen_in_block, characters_in_block}
use Rattle.video.proofs.Folded.{folded_twice, line_folded, frame_folds, pixels_folded, used_folded, painted_folded}
use Rattle.video.proofs.Used.{used_of_line, used_of_frame}
use Rattle.video.specs.declared.state.State.{State}

module _ (profile : ℕ) (memory : Image) (sized : IsImage profile memory) where
  pub block_fits : folded profile video_block + block_length ≤ length memory
  block_fits =
      let fits : folded profile video_block + block_length ≤ image_length profile =
      cond_both (λ (n size : ℕ). n + block_length ≤ size) (is_16k profile) 0 video_block block_length 65536 (omega arith) (omega arith) in
      omega arith

  pub block_sized : IsImage 1 (block_of profile memory)
  block_sized = length-take-le block_length (drop (folded profile video_block) memory) (simp length-drop (omega (arith, block_fits)))

  stands : StandsIn profile (block_of profile memory) memory
  stands place h =
      let from = folded profile video_block in
      let there : folded profile (video_block + place) ≡ from + place = omega (arith, block_moved profile (video_block + place) (omega arith)) in
      rw there (sym (get_or-take block_length (drop from memory) place 0 h ∙ get_or-drop from memory place 0))

-- the memory has the addresses that the block has, as far from each other
module _ (profile : ℕ) where
  -- the byte of a map with which the bits of the block begin
  abbrev from : ℕ
  from = folded profile video_block / byte_bits

  abbrev Moved : ℕ → Type 0
  Moved address = byte_bits * from + folded 1 address ≡ address

  moved : (address : ℕ) → InBlock address → Moved (folded profile address)
  moved address h =
      rw (folded_twice profile address, block_moved profile address h)
      (cond_all (λ (base : ℕ). byte_bits * (base / byte_bits) + folded 1 address ≡ base + folded 1 address) (is_16k profile) (video_block % block_length) video_block (omega arith) (omega arith))

  moved_all : (addresses : List ℕ) → Each Moved addresses → map (λ (a : ℕ). byte_bits * from + a) (map (folded 1) addresses) ≡ addresses
  moved_all [] all = refl
  moved_all (a ∷ addresses) all = ap₂ ◌∷◌ (each_head Moved a addresses all) (moved_all addresses (each_tail Moved a addresses all))

  -- so the bits of the block, marked from it, are a map marked from the memory
  marks_of_block : (lent : List ℕ) → Bytes lent → length lent ≡ map_length
      → (read cells : List Cell) → read ≡ map (folded_cell 1) cells → Each Moved (used cells)
      → put_mid from (from + block_marks - from) lent (marked (take (from + block_marks - from) (drop from lent)) (used read)) ≡ marked lent (used cells)
  marks_of_block lent bytes sized read cells same all =
      let folds : used read ≡ map (folded 1) (used cells) = ap used same ∙ used_folded 1 cells in
      let fits : from + block_marks ≤ length lent =
      rw sized (cond_all (λ (base : ℕ). base / byte_bits + block_marks ≤ map_length) (is_16k profile) (video_block % block_length) video_block (omega arith) (omega arith)) in
      let inside : Each (λ (a : ℕ). a < byte_bits * block_marks) (used read) = rw folds (each_map _ (folded 1) (used cells) (λ a m. omega arith)) in
      marked_part from block_marks lent (used read) bytes fits inside
      ∙ ap (marked lent) (ap (map (λ (a : ℕ). byte_bits * from + a)) folds ∙ moved_all (used cells) all)

module _ (memory : Image) (state : State) (sized : IsImage state.profile memory) where
  abbrev block : Image
  block = block_of state.profile memory

  -- a frame shows and answers the same from the memory and from the block
  pub frame_of_block : (after : State)
      → (painted after (frame_cells block (with_profile 1 state)) ≡ painted after (frame_cells memory state))
      × (pixels (frame_cells block (with_profile 1 state)) ≡ pixels (frame_cells memory state))
  frame_of_block after =
      let same = frame_folds block memory state (stands state.profile memory sized) in
      (ap (painted after) same ∙ painted_folded 1 after (frame_cells memory state), ap pixels same ∙ pixels_folded 1 (frame_cells memory state))

  -- and so does a line
  pub line_of_block : (line : ℕ) → line < lines
      → let cells = cells_of_line block (with_profile 1 state) line in
      (painted state cells ≡ painted state (cells_of_line memory state line)) × (pixels cells ≡ pixels (cells_of_line memory state line))
  line_of_block line hl =
      let same = line_folded block memory state (stands state.profile memory sized) line state.mode hl in
      (ap (painted state) same ∙ painted_folded 1 state (cells_of_line memory state line), ap pixels same ∙ pixels_folded 1 (cells_of_line memory state line))

  -- and both mark the same in a map, whose part comes back marked from the block
  module _ (lent : List ℕ) (bytes : Bytes lent) (mapped : length lent ≡ map_length) where
    screens_moved : (line column mode : ℕ) → line < lines → column < columns → Moved state.profile (screen_address state.profile line column mode)
    screens_moved line column mode hl hc = moved state.profile (screen_address 0 line column mode) (screen_in_block 0 line column mode hl hc)

    characters_moved : (line mode style code : ℕ) → code < 128 → Moved state.profile (character_address state.profile line mode style code)
    characters_moved line mode style code h = moved state.profile (character_address 0 line mode style code) (characters_in_block 0 line mode style code h)

    module _ (place : ℕ) (is : place ≡ from state.profile) (image : Image) (blocked : image ≡ block) (marks : List ℕ) where
      abbrev part : List ℕ
      part = take (place + block_marks - place) (drop place lent)

      abbrev back : List ℕ
      back = put_mid place (place + block_marks - place) lent marks

      marks_back : (read : Image → List Cell) (cells : List Cell) → marks ≡ marked part (used (read image))
          → read block ≡ map (folded_cell 1) cells → Each (Moved state.profile) (used cells) → back ≡ marked lent (used cells)
      marks_back read cells m same all =
          ap (put_mid place (place + block_marks - place) lent) m
          ∙ rw (is, blocked) (marks_of_block state.profile lent bytes mapped (read block) cells same all)

      pub frame_marks : marks ≡ marked part (used (frame_cells image (with_profile 1 state))) → back ≡ marked lent (used (frame_cells memory state))
      frame_marks m =
          marks_back (λ (image : Image). frame_cells image (with_profile 1 state)) (frame_cells memory state) m
          (frame_folds block memory state (stands state.profile memory sized))
          (used_of_frame (Moved state.profile) memory state screens_moved characters_moved)

      pub line_marks : (line : ℕ) → line < lines → marks ≡ marked part (used (cells_of_line image (with_profile 1 state) line))
          → back ≡ marked lent (used (cells_of_line memory state line))
      line_marks line hl m =
          marks_back (λ (image : Image). cells_of_line image (with_profile 1 state) line) (cells_of_line memory state line) m
          (line_folded block memory state (stands state.profile memory sized) line state.mode hl)
          (used_of_line (Moved state.profile) memory state screens_moved characters_moved line hl)
