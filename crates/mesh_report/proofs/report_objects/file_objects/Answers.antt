use Rattle.std.proofs.Common.{List, [], ◌∷◌, length, drop, ◌<◌, ◌+◌, ℕ, ◌++◌, Vec, Global, ap, ◌∙◌, arith, sym}
use Rattle.std.proofs.lemmas.Bool.Decides.{nat_tests}
use Rattle.std.proofs.lemmas.List.{map-append}
use Rattle.mesh_grid.specs.Moves.Shown.{Rounded, rounded_of}
use Rattle.mesh_texts.specs.Objects.{texts_of}
use Rattle.mesh_report.specs.ReportObjects.{file_object, file_objects}
use Rattle.mesh_report.specs.Reports.{first_move}
use Rattle.mesh_report.proofs.FileObjects.{one_object_more}
use Rattle.mesh_report.proofs.report_objects.file_objects.Goals as goal

pub loop-name-preserved : goal.loop-name-preserved
loop-name-preserved c =
    let old = c.loop-name in
    let look = c.in-Some.ensures.lookup in
    let there : old.file < length c.args.counts.now = grind (arith, nat_tests, look.0) in
    let n = c.in-Some.counts.now in
    let moved = rounded_of c.move_at-moved.result in
    let first = first_move (drop old.file c.args.moves.now) in
    let volume = c.in_ok-volume.volume.items in
    let named = ap (λ (name : List ℕ). file_object name n moved volume) (c.as_bytes-name.ensures.value ∙ c.as_str.ensures) in
    let placed = ap (λ (r : Rounded). file_object c.name-item.result n r volume) c.move_at-moved.ensures in
    let measured = ap (λ (v : List ℕ). file_object c.name-item.result n first v) c.in_ok-volume.ensures in
    let made = c.in_ok-object.ensures ∙ named ∙ placed ∙ measured in
    let pushed = ap texts_of c.in_ok-push.ensures.items ∙ map-append (λ (v : Vec ℕ Global). v.items) old.texts.items (c.in_ok-object.object ∷ []) in
    let all = file_objects c.args.names.now c.args.step.now c.args.counts.now c.args.moves.now c.args.sixfold_volumes.now in
    let rest = file_objects (drop (old.name-index + 1) c.args.names.now) c.args.step.now (drop (old.file + 1) c.args.counts.now)
    (drop (old.file + 1) c.args.moves.now) (drop (old.file + 1) c.args.sixfold_volumes.now) in
    record {
      file = omega (arith, old.invariant.file);
      texts = one_object_more c.args.step.now c.args.names.now c.args.counts.now c.args.moves.now c.args.sixfold_volumes.now
          old.name-index old.file c.name-item.result n c.in_ok-object.object.items all (texts_of old.texts.items)
          c.loop-name-test.true c.name-item.is there look.1 old.invariant.texts made
          ∙ ap (λ (xs : List (List ℕ)). xs ++ rest) (sym pushed);
    }
