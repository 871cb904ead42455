use Rattle.std.proofs.Common.{rules, ◌≡◌, sym, Err}
use Rattle.ember_obj.specs.declared.fault.ObjFault.TheVariants.{Index}
use Rattle.ember_obj.specs.References.{vertex_at}
use Rattle.ember_obj.proofs.references.indexed_vertex.Goals as goal

pub returns-in-None : goal.returns-in-None
returns-in-None c =
    let fault : vertex_at c.args.line c.args.vertices.now c.args.index.now ≡ Err (Index c.args.line) = search rules in
    sym fault
