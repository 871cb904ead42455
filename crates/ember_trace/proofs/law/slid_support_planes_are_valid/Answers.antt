use Rattle.ember_trace.proofs.Slides.{slid_once, slid_constant, slid_twice}
use Rattle.ember_trace.proofs.law.slid_support_planes_are_valid.Goals as goal

pub returns-clause-once : goal.returns-clause-once
returns-clause-once c = λ p k at sized small. slid_once p k at sized small

pub returns-clause-constant : goal.returns-clause-constant
returns-clause-constant c = λ p k at sized small. slid_constant p k at sized small

pub returns-clause-twice : goal.returns-clause-twice
returns-clause-twice c = λ p j k at by sized small smaller. slid_twice p j k at by sized small smaller
