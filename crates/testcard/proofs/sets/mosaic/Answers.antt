-- What a mask leaves of a row of blocks is no more than the blocks.
use Rattle.std.proofs.Common.{ℕ, ◌<◌, List, [], ◌∷◌, All, slice_index_or, arith}
use Rattle.std.specs.Int.Bits.{bit_and}
use Rattle.std.proofs.lemmas.List.Elements.{All-cons, All-nil}
use Rattle.std.proofs.lemmas.Nat.{and_le_l}
use Rattle.testcard.proofs.sets.mosaic.Goals as goal

abbrev Within : List ℕ → Type 0
Within rows = All (λ row. row < 64) rows

masked : (blocks mask : ℕ) (rows : List ℕ) → blocks < 64 → Within rows → Within (bit_and blocks mask ∷ rows)
masked blocks mask rows within rest =
    let row_within : bit_and blocks mask < 64 = omega (arith, and_le_l blocks mask) in
    All-cons (λ row. row < 64) (bit_and blocks mask) rows row_within rest

all_masked : (top middle bottom a b c d e f g h : ℕ) → top < 64 → middle < 64 → bottom < 64
    → Within (bit_and top a ∷ bit_and top b ∷ bit_and top c ∷ bit_and middle d ∷ bit_and middle e ∷ bit_and middle f
    ∷ bit_and bottom g ∷ bit_and bottom h ∷ [])
all_masked top middle bottom a b c d e f g h p q r =
    let eighth = bit_and bottom h ∷ [] in
    let seventh = bit_and bottom g ∷ eighth in
    let sixth = bit_and middle f ∷ seventh in
    let fifth = bit_and middle e ∷ sixth in
    let fourth = bit_and middle d ∷ fifth in
    let third = bit_and top c ∷ fourth in
    let second = bit_and top b ∷ third in
    let last = masked bottom g eighth r (masked bottom h [] r (All-nil (λ row. row < 64))) in
    let lower = masked middle d fifth q (masked middle e sixth q (masked middle f seventh q last)) in
    masked top a second p (masked top b third p (masked top c fourth p lower))

pub returns : goal.returns
returns c =
    let row = λ (k : ℕ). slice_index_or c.args.mask k 0 in
    all_masked c.blocks-top.result c.blocks-middle.result c.blocks-bottom.result
    (row 0) (row 1) (row 2) (row 3) (row 4) (row 5) (row 6) (row 7)
    c.blocks-top.ensures c.blocks-middle.ensures c.blocks-bottom.ensures
