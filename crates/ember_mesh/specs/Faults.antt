-- When triangles are no mesh
use Rattle.std.specs.Prelude.{◌≡◌, Some, List, ⊤}
use Rattle.ember_model.specs.declared.tri.Tri.{Tri}
use Rattle.ember_balance.specs.Loose.{loose_of}
use Rattle.ember_mesh.specs.declared.fault.MeshFault.{MeshFault}
use Rattle.ember_mesh.specs.declared.fault.MeshFault.TheVariants.{Unbalanced, OutOfMemory}

-- the fault has the least loose edge; or out-of-memory
abbrev pub IsMeshFault : List Tri → MeshFault → Type 0
IsMeshFault ts (Unbalanced loose) = loose_of ts ≡ Some loose
IsMeshFault ts OutOfMemory = ⊤
