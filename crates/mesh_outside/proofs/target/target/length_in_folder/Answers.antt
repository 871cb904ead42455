use Rattle.std.proofs.Common.{Some, None, arith}
use Rattle.std.proofs.lemmas.Str.Pattern.{rfind_char}
use Rattle.mesh_outside.proofs.NamesInFolders.{last_slash_begins_the_name, paths_without_slashes_are_names}
use Rattle.mesh_outside.proofs.target.target.length_in_folder.Goals as goal

pub returns-in-Some : goal.returns-in-Some
returns-in-Some c =
    let found = rfind_char 47 c.args.path.now (Some c.in-Some.slash) c.in-Some.ensures.cases (omega arith) in
    last_slash_begins_the_name c.args.path.now c.in-Some.slash found.0 found.1 found.2

pub returns-in-None : goal.returns-in-None
returns-in-None c =
    paths_without_slashes_are_names c.args.path.now (rfind_char 47 c.args.path.now None c.in-None.ensures.cases (omega arith))
