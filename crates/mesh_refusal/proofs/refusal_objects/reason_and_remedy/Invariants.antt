use Rattle.std.proofs.Common.{◌≡◌, drop, map}
use Rattle.mesh_refusal.specs.Refusals.{reason_and_remedy}
use Rattle.mesh_refusal.proofs.refusal_objects.reason_and_remedy.Given as goal

abbrev pub invariant-loop-remedy : goal.invariant-loop-remedy
invariant-loop-remedy l =
    reason_and_remedy (map (λ remedy. remedy.now) (drop l.remedy-index l.remedies)) l.text ≡
    reason_and_remedy (map (λ remedy. remedy.now) l.remedies) l.text
