use Rattle.std.proofs.Common.{None, Some, lit<, decimal}
use Rattle.std.proofs.lemmas.Str.Pattern.{split_after}
use Rattle.mesh_grid.specs.declared.snap.steps.GridStep.{GridStep}
use Rattle.mesh_scene.specs.SceneFile.Fractions.{IsStepText}
use Rattle.mesh_scene.proofs.Parts.{if_none, no_slash, numerator_is_part, denominator_is_part}
use Rattle.mesh_scene.proofs.scene_file.numbers.step_in.Goals as goal

pub returns-in_err-numerator-clause-none : goal.returns-in_err-numerator-clause-none
returns-in_err-numerator-clause-none c =
    let no : (s : GridStep) → IsStepText c.args.text.now s → ⊥ = λ s is.
    split_after 47 _ (decimal s.numerator) (decimal s.denominator) None c.in_err-numerator.ensures.cases (lit< tt)
    is.spells (no_slash s.numerator is.step.numerator_small) in
    if_none _ no

pub returns-in_err-part_in-clause-none : goal.returns-in_err-part_in-clause-none
returns-in_err-part_in-clause-none c =
    let no : (s : GridStep) → IsStepText c.args.text.now s → ⊥ = λ s is.
    let cut = Some (c.in_ok-numerator.numerator, c.in_ok-numerator.denominator) in
    let parts = split_after 47 _ (decimal s.numerator) (decimal s.denominator) cut c.in_ok-numerator.ensures.cases
    (lit< tt) is.spells (no_slash s.numerator is.step.numerator_small) in
    c.in_err-part_in.ensures.none s.numerator (numerator_is_part _ s is.step parts.0) in
    if_none _ no

pub returns-in_err-part_in-2-clause-none : goal.returns-in_err-part_in-2-clause-none
returns-in_err-part_in-2-clause-none c =
    let no : (s : GridStep) → IsStepText c.args.text.now s → ⊥ = λ s is.
    let cut = Some (c.in_ok-numerator.numerator, c.in_ok-numerator.denominator) in
    let parts = split_after 47 _ (decimal s.numerator) (decimal s.denominator) cut c.in_ok-numerator.ensures.cases
    (lit< tt) is.spells (no_slash s.numerator is.step.numerator_small) in
    c.in_err-part_in-2.ensures.none s.denominator (denominator_is_part _ s is.step parts.1) in
    if_none _ no
