use Rattle.std.proofs.Common.{ℕ, List, subst, string_bytes}
use Rattle.mesh_shapes.specs.Shapes.{IsShapeFile}
use Rattle.mesh_shapes.proofs.ShapeFiles.{next_file}
use Rattle.mesh_shapes.proofs.files.push_file.Goals as goal

pub returns-in_ok-push-in-Some : goal.returns-in_ok-push-in-Some
returns-in_ok-push-in-Some c =
    let word = string_bytes c.args.word.now in let text = c.in-Some.text in
    let made = rw c.in-Some.is at c.in_ok-text.ensures in
    let file : IsShapeFile (word, text.items) = subst (λ (w : List ℕ). IsShapeFile (w, text.items)) c.deref.ensures made in
    next_file c.args.files.now.items c.push.new.self.items (c.in_ok-clone-in-Some.field-0, text) word c.in_ok-push-in-Some.ensures.items
    c.in_ok-clone-in-Some.ensures.cases file
