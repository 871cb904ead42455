use Rattle.std.proofs.Common.{◌≡◌, sym, ◌∙◌, arith}
use Rattle.mesh_scene.proofs.Parts.{part_is_parsed, same_text}
use Rattle.mesh_scene.proofs.scene_file.numbers.part_in.Goals as goal
use Rattle.mesh_scene.proofs.scene_file.numbers.part_in.Goals.{then-number-eq0-via-then-number-eq0, then-number-eq0-via-else-number-eq0+then-number-ge-LIMIT}

pub returns-in_default-clause-none : goal.returns-in_default-clause-none
returns-in_default-clause-none c n part = let e = part_is_parsed _ n _ c.parse.ensures.value.0 part in cc (e, c.in_default.is)

pub returns-then-number-eq0-clause-none : goal.returns-then-number-eq0-clause-none
returns-then-number-eq0-clause-none c n part =
    let e = part_is_parsed _ n _ c.parse.ensures.value.0 part in
    let same : n ≡ c.in-Ok.number = cc (e, c.in-Ok.is) in
    elim c.then-number-eq0.branch [
      | then-number-eq0-via-then-number-eq0 w ↦ omega (arith, part.positive)
      | then-number-eq0-via-else-number-eq0+then-number-ge-LIMIT w ↦ omega (arith, part.small)
    ]

pub returns-else-eq-clause-none : goal.returns-else-eq-clause-none
returns-else-eq-clause-none c n part =
    let e = part_is_parsed _ n _ c.parse.ensures.value.0 part in
    let same : n ≡ c.in-Ok.number = cc (e, c.in-Ok.is) in
    same_text _ _ _ n same c.format.ensures.text part.spells (sym c.eq.ensures ∙ c.if-eq.false)
