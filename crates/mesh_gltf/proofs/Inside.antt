-- Elements of an accessor are bytes of its buffer
use Rattle.std.proofs.Common.{◌≡◌, ℕ, ◌+◌, ◌*◌, ◌-◌, ◌<◌, ◌≤◌, List, length, true, arith}
use Rattle.std.proofs.Math.Nat.{mul-le-mul_left}
use Rattle.std.proofs.lemmas.Bool.Decides.{nat_tests}
use Rattle.mesh_gltf.specs.declared.windows.Window.{Window}
use Rattle.mesh_gltf.specs.Windows.{is_inside}

-- each element of a window that is inside its buffer is there
pub element_inside : (size index : ℕ) (w : Window) (bytes : List ℕ) → is_inside size w bytes ≡ true → index < w.count →
    w.start + w.stride * index + size ≤ length bytes
unfolding is_inside
element_inside size index w bytes inside some =
    let before : w.stride * index ≤ w.stride * (w.count - 1) = mul-le-mul_left w.stride (omega (arith, some)) in
    grind (arith, nat_tests)
