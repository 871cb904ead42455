use Rattle.std.proofs.Common.{map, string_bytes}
use Rattle.ember_call.specs.Lent.{named_bytes}
use Rattle.ember_call.proofs.MeshEnds.{call_has_outcome}
use Rattle.ember_call.proofs.mesh.mesh_outcome_of.Goals as goal

pub returns : goal.returns
returns c =
    call_has_outcome (map string_bytes c.args.words.now) (named_bytes c.args.files.now) c.outcome_over.result c.run_mesh_one-status.result
    c.new-shelf.result c.run_mesh_one-status.new.shelf c.new-target.result c.run_mesh_one-status.new.target
    c.new-out.result c.run_mesh_one-status.new.out c.new-err.result c.run_mesh_one-status.new.err
    c.new-shelf.ensures c.new-target.ensures c.new-out.ensures c.new-err.ensures c.run_mesh_one-status.ensures c.outcome_over.ensures
