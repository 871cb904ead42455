-- The verdict of `slice`, step by step.
use Rattle.std.proofs.Common.{◌≡◌, ◌⊎◌, inl, inr}
use Rattle.ember_reread.specs.declared.fault.RereadFault.{RereadFault}
use Rattle.ember_reread.specs.declared.fault.RereadFault.TheVariants.{Form, OutOfMemory}
use Rattle.ember_verdict.specs.declared.status.Status.TheVariants as status

-- of the two ways to be refused, that of the form
pub form_only : {P : Type 0} (fault : RereadFault) → fault ≡ Form → (fault ≡ OutOfMemory) ⊎ P → P
form_only fault is (inl memory) = absurd (cc)
form_only fault is (inr refused) = refused
