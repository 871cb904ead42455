use Rattle.ember_verdict.proofs.OneSolid.{solid_once_at_most, solid_here_as_nearby, solid_nearby_as_here}
use Rattle.ember_verdict.proofs.one_solid.solids_wind_once_at_most.Goals as goal

pub returns-clause-once : goal.returns-clause-once
returns-clause-once c = λ tris formula faces solid. solid_once_at_most tris formula solid.file solid.document faces solid.read

pub returns-clause-alone : goal.returns-clause-alone
returns-clause-alone c = λ tris formula faces solid. solid_here_as_nearby tris formula solid.file solid.document faces solid.read

pub returns-clause-scene : goal.returns-clause-scene
returns-clause-scene c = λ tris formula faces solid. solid_nearby_as_here tris formula solid.file solid.document faces solid.read
