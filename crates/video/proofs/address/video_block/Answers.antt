-- `video::address::video_block` meets its contract: the block is there, and is the part that is handed back.
use Rattle.std.proofs.Common.{ℕ, List, take, drop, sym, ap₂, subst}
use native.Mathlib.Nat.{add-sub_cancel_left}
use Rattle.machine.specs.Image.{IsImage, block_length}
use Rattle.video.proofs.Block.{block_sized}
use Rattle.video.proofs.address.video_block.Goals as goal

pub returns : goal.returns
returns c =
    let f : ℕ → ℕ → List ℕ = λ size from. take size (drop from c.args.memory.now) in
    let is = ap₂ f (add-sub_cancel_left c.fold-from.result block_length) c.fold-from.ensures.value in
    record { value = is; image = subst (λ (block : List ℕ). IsImage 1 block) (sym is) (block_sized c.args.profile c.args.memory.now c.requires) }
