-- What is read step by step
use Rattle.std.proofs.Common.{◌≡◌, ap, Option, None, Some, Result, Ok, Err}
use Rattle.mesh_gltf.specs.declared.fault.GltfFault.{GltfFault}
use Rattle.mesh_gltf.specs.Primitives.{and_then, or_fault}

-- the first of two parts
pub first_read : {A B : Type 0} (r : Result A GltfFault) (a : A) (next : A → Result B GltfFault) → r ≡ Ok a → and_then r next ≡ next a
first_read r a next e = ap (λ q. and_then q next) e

-- a fault of the first part is that of both
pub first_fault : {A B : Type 0} (r : Result A GltfFault) (fault : GltfFault) (next : A → Result B GltfFault) → r ≡ Err fault → and_then r next ≡ Err fault
first_fault r fault next e = ap (λ q. and_then q next) e

-- what is there
pub there : {A B : Type 0} (o : Option A) (fault : GltfFault) (a : A) (next : A → Result B GltfFault) → o ≡ Some a → and_then (or_fault fault o) next ≡ next a
there o fault a next e = ap (λ q. and_then (or_fault fault q) next) e

-- what isn't there
pub not_there : {A B : Type 0} (o : Option A) (fault : GltfFault) (next : A → Result B GltfFault) → o ≡ None → and_then (or_fault fault o) next ≡ Err fault
not_there o fault next e = ap (λ q. and_then (or_fault fault q) next) e
