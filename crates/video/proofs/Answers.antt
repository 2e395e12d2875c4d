-- What a painting answers and leaves, by its status: a refusal, or what was painted from the block of the memory.
-- Assumes nothing.
use Prim.Native.Nat.{ℕ, ◌<◌}
use Rattle.std.specs.Prelude.{Result, Ok, Err}
use mathlib.Core.List.{List}
use mathlib.Core.Path.{◌≡◌, sym, ap, ◌∙◌}
use Rattle.machine.specs.Image.{Image, IsImage}
use Rattle.machine.specs.Refusal.{number_of, status_of}
use Rattle.machine.specs.Sizes.{lines}
use Rattle.machine.specs.declared.refusal.Refusal.{Refusal}
use Rattle.machine.proofs.Refusals.{done, by_refusal}
use Rattle.used_map.specs.Map.{marked}
use Rattle.video.specs.Answer.{painted, unpainted, painted_by, filled_by, mapped_by, cells_of_line}
use Rattle.video.specs.Cell.{Cell, pixels, used}
use Rattle.video.specs.Frame.{frame_cells}
use Rattle.video.specs.Internal.{block_of}
use Rattle.video.specs.State.{with_profile}
use Rattle.video.proofs.Block.{frame_of_block, line_of_block}
use Rattle.video.specs.declared.state.State.{State}

pub painting_done : (number : ℕ) (state after : State) (cells : List Cell) (lent : List ℕ) → number ≡ 0
    → (painted after cells ≡ painted_by number state after cells) × (pixels cells ≡ filled_by number cells lent)
painting_done number state after cells lent ok = (sym (done _ _ _ ok), sym (done _ _ _ ok))

-- and a map
pub mapping_done : (number : ℕ) (cells : List Cell) (map : List ℕ) → number ≡ 0 → marked map (used cells) ≡ mapped_by number cells map
mapping_done number cells map ok = sym (done _ _ _ ok)

module _ (outcome : Result (Unit {0}) Refusal) (number : ℕ) (checked : status_of outcome ≡ number) where
  pub passed : (value : Unit {0}) → outcome ≡ Ok value → number ≡ 0
  passed value is = sym checked ∙ ap status_of is

  -- the checks gave a reason: the state as handed in, and what was lent as it was
  module _ (reason : Refusal) (is : outcome ≡ Err reason) (cells : List Cell) where
    pub answer_refused : (state after : State) → unpainted (number_of reason) state ≡ painted_by number state after cells
    answer_refused state after =
        let numbered : number_of reason ≡ number = sym (ap status_of is) ∙ checked in
        ap (λ (n : ℕ). unpainted n state) numbered
        ∙ sym (by_refusal outcome reason number (painted after cells) (unpainted number state) is checked)

    pub contents_refused : (lent : List ℕ) → lent ≡ filled_by number cells lent
    contents_refused lent = sym (by_refusal outcome reason number (pixels cells) lent is checked)

    pub map_refused : (map : List ℕ) → map ≡ mapped_by number cells map
    map_refused map = sym (by_refusal outcome reason number (marked map (used cells)) map is checked)

-- the checks were passed: what was painted from the block
module _ (number : ℕ) (ok : number ≡ 0) (memory : Image) (state : State) (sized : IsImage state.profile memory)
    (block : Image) (is : block ≡ block_of state.profile memory) (lent : List ℕ) where
  pub frame_painted : (after : State)
      → (painted after (frame_cells block (with_profile 1 state)) ≡ painted_by number state after (frame_cells memory state))
      × (pixels (frame_cells block (with_profile 1 state)) ≡ filled_by number (frame_cells memory state) lent)
  frame_painted after =
      let same = frame_of_block memory state sized after in
      let end = painting_done number state after (frame_cells memory state) lent ok in
      rw is (same.0 ∙ end.0, same.1 ∙ end.1)

  pub line_painted : (line : ℕ) → line < lines
      → (painted state (cells_of_line block (with_profile 1 state) line) ≡ painted_by number state state (cells_of_line memory state line))
      × (pixels (cells_of_line block (with_profile 1 state) line) ≡ filled_by number (cells_of_line memory state line) lent)
  line_painted line hl =
      let same = line_of_block memory state sized line hl in
      let end = painting_done number state state (cells_of_line memory state line) lent ok in
      rw is (same.0 ∙ end.0, same.1 ∙ end.1)
