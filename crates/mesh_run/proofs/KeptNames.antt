-- What the names of a target hold when nothing is written
use Rattle.std.proofs.Common.{Some, None, refl}
use Rattle.std.specs.declared.option.Option.{Option}
use Rattle.mesh_outside.specs.Target.Targets.{Names, HoldsSame}

-- names hold what they hold
pub names_hold_the_same : (held : Option Names) → HoldsSame held held
names_hold_the_same None = tt
names_hold_the_same (Some f) = λ other. refl
