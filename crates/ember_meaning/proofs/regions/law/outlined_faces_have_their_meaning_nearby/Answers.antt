use Rattle.ember_meaning.proofs.Nearby.{meaning_nearby, wind_nearby_as_here, wind_here_as_nearby, wind_once_at_most}
use Rattle.ember_meaning.proofs.regions.law.outlined_faces_have_their_meaning_nearby.Goals as goal

pub returns-clause-nearby : goal.returns-clause-nearby
returns-clause-nearby c = meaning_nearby

pub returns-clause-scene : goal.returns-clause-scene
returns-clause-scene c = wind_nearby_as_here

pub returns-clause-alone : goal.returns-clause-alone
returns-clause-alone c = wind_here_as_nearby

pub returns-clause-once : goal.returns-clause-once
returns-clause-once c = wind_once_at_most
