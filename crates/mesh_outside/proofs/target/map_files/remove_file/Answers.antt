use Rattle.std.proofs.Common.{None}
use Rattle.mesh_outside.proofs.MapFiles.{Puts-updated}
use Rattle.mesh_outside.proofs.target.map_files.remove_file.Goals as goal

pub returns : goal.returns
returns c = Puts-updated c.args.files.now c.remove.new.self c.args.name.now None c.remove.ensures.updates
