-- Faults that are passed on, and what is there if it is asked for.
use Rattle.std.proofs.Common.{◌≡◌, Bool, true, false, Result, Ok, Err, IfErr, refl, sym, subst}
use Rattle.std.specs.Bool.{then_some}
use Rattle.std.specs.Result.{IsErrAnd}
use Rattle.mesh_solid.specs.Mesh.Asked.{IsThereIf}

-- what holds of the fault that a result has
pub passed_on : {T E : Type 0} (P : E → Type 0) (result : Result T E) (fault : E) → IsErrAnd result (λ given. given ≡ fault) → P fault → IfErr result P
passed_on P (Ok value) fault e h = tt
passed_on P (Err given) fault e h = subst P (sym e) h

-- what is there exactly if it is asked for
pub asked_is_there : {T : Type 0} (asked : Bool) (P : T → Type 0) (it : T) → P it → IsThereIf asked P (then_some asked it)
asked_is_there true P it h = (refl, h)
asked_is_there false P it h = refl
