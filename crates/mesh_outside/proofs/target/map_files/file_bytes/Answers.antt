use Rattle.std.proofs.Common.{Some, ap, sym, ◌∙◌}
use Rattle.std.specs.Option.{option_map}
use Rattle.mesh_outside.proofs.MapFiles.{first_of-named, value_at-file}
use Rattle.mesh_outside.proofs.target.map_files.file_bytes.Goals as goal

pub returns-in-Some : goal.returns-in-Some
returns-in-Some c = value_at-file c.args.files.now c.args.name.now c.in-Some.bytes.now c.in-Some.ensures.value ∙ ap (λ w. Some w) (sym c.as_slice.ensures.value)

pub returns-in-None : goal.returns-in-None
returns-in-None c = first_of-named c.args.files.now c.args.name.now ∙ ap (option_map (λ w. w.items)) (sym c.in-None.ensures.value)
