-- `video::map::mark_cell` meets its contract: the screen address and, where one is used, the character address.
use Rattle.std.proofs.Common.{ℕ, List, [], ◌∷◌, ap, ◌∙◌}
use Rattle.used_map.specs.Map.{marked}
use Rattle.used_map.proofs.Marks.{marks_join}
use Rattle.video.proofs.map.mark_cell.Goals as goal

pub returns-in-Some : goal.returns-in-Some
returns-in-Some c =
    let cell = c.args.cell in
    simp c.in-Some.is
    (c.mark-in-Some.ensures
    ∙ ap (λ (l : List ℕ). marked l (c.in-Some.address ∷ [])) c.mark.ensures
    ∙ marks_join c.args.map.now (cell.screen ∷ []) (c.in-Some.address ∷ []))
