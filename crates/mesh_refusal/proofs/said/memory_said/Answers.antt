use Rattle.std.proofs.Common.{sym, ap}
use Rattle.std.specs.Fmt.{digits}
use Rattle.mesh_refusal.specs.Refusals.{refusal_object}
use Rattle.mesh_refusal.specs.Said.{memory_said}
use Rattle.mesh_refusal.proofs.said.memory_said.Goals as goal

pub returns-then-json : goal.returns-then-json
unfolding digits refusal_object
returns-then-json c = sym (ap memory_said c.if-json.true)
