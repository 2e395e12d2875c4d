-- The list of cells: a cell more is set at the next place, which past the end of the list changes nothing.
-- Assumes nothing.
use Prim.Native.Nat.{ℕ, suc, ◌+◌, ◌-◌, ◌≤◌, ◌<◌}
use mathlib.Core.List.{List, [], ◌∷◌, ◌++◌, append-nil, append_assoc}
use mathlib.Core.Logic.{⊎_elim}
use mathlib.Core.Path.{◌≡◌, sym, ap, ap₂, ◌∙◌}
use native.Mathlib.Omega.{arith}
use lib.ListN.{length, take, set, replicate, length-append, length-take, length-replicate, replicate-append-replicate}
use lib.Seq.{sets, set-append_seam, set_out, take-append-le, take-set-lt}
use Rattle.compare.specs.Answer.{list_length, no_cell, listed}
use Rattle.machine.proofs.Numbers.{either}

pub sets_more : {A : Type 0} (l : List A) (i : ℕ) (vs ws : List A) → sets l i (vs ++ ws) ≡ sets (sets l i vs) (i + length vs) ws
sets_more l i [] ws = let e : i ≡ i + 0 = omega arith in ap (λ (n : ℕ). sets l n ws) e
sets_more l i (v ∷ vs) ws =
    let e : suc i + length vs ≡ i + suc (length vs) = omega arith in
    sets_more (set l i v) (suc i) vs ws ∙ ap (λ (n : ℕ). sets (sets (set l i v) (suc i) vs) n ws) e

pub listed_length : (cells : List ℕ) → length (listed cells) ≡ list_length
unfolding listed
listed_length cells = simp (length-take, length-append, length-replicate) (omega arith)

-- what is left over of a list that has one cell
rest : List ℕ
rest = replicate (list_length - 1) no_cell

-- one cell more
pub listed_next : (cells : List ℕ) (cell : ℕ) → set (listed cells) (length cells) cell ≡ listed (cells ++ (cell ∷ []))
unfolding listed rest
listed_next cells cell = ⊎_elim full room (either list_length (length cells))
  where
    unused : List ℕ
    unused = replicate list_length no_cell

    full : list_length ≤ length cells → set (listed cells) (length cells) cell ≡ listed (cells ++ (cell ∷ []))
    full h =
        set_out (listed cells) (length cells) cell (omega (arith, listed_length cells))
        ∙ take-append-le list_length cells unused h
        ∙ sym (ap (take list_length) (append_assoc cells (cell ∷ []) unused) ∙ take-append-le list_length cells (cell ∷ unused) h)

    room : length cells < list_length → set (listed cells) (length cells) cell ≡ listed (cells ++ (cell ∷ []))
    room h =
        let head = cells ++ (cell ∷ []) in
        let long : list_length ≤ length (head ++ rest) = simp (length-append, length-replicate) (omega arith) in
        sym (take-set-lt list_length (cells ++ unused) (length cells) cell h)
        ∙ ap (take list_length) (set-append_seam cells no_cell rest cell ∙ sym (append_assoc cells (cell ∷ []) rest))
        ∙ sym (take-append-le list_length (head ++ rest) (no_cell ∷ []) long)
        ∙ ap (take list_length) (append_assoc head rest (no_cell ∷ []) ∙ ap (λ (l : List ℕ). head ++ l) (replicate-append-replicate (list_length - 1) 1 no_cell))

pub listed_more : (cells more : List ℕ) → sets (listed cells) (length cells) more ≡ listed (cells ++ more)
listed_more cells [] = ap listed (sym (append-nil cells))
listed_more cells (cell ∷ more) =
    let longer : suc (length cells) ≡ length (cells ++ (cell ∷ [])) = simp length-append (omega arith) in
    ap₂ (λ (l : List ℕ) (n : ℕ). sets l n more) (listed_next cells cell) longer
    ∙ listed_more (cells ++ (cell ∷ [])) more
    ∙ ap listed (append_assoc cells (cell ∷ []) more)
