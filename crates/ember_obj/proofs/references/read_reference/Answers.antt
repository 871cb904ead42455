use Rattle.std.proofs.Common.{◌∙◌, ap}
use Rattle.ember_obj.specs.References.{vertex_at}
use Rattle.ember_obj.proofs.references.read_reference.Goals as goal

pub returns : goal.returns
returns c = c.indexed_vertex.ensures ∙ ap (vertex_at c.args.line c.args.vertices.now) c.cut_before.ensures.before
