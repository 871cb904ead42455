-- How normals turn round an edge
use Rattle.std.specs.Prelude.{ℤ, neg_ℤ, ◌+ℤ◌, ◌-ℤ◌, ◌*ℤ◌}
use Rattle.std.specs.Ordering.{int_cmp}
use Rattle.std.specs.declared.cmp.Ordering.{Ordering}
use Rattle.ember_algebra.specs.Size.{Small}
use Rattle.mesh_write.specs.declared.vertices.point.DecimalPoint.{DecimalPoint}
use Rattle.mesh_manifold.specs.declared.turns.Normal.{Normal}

-- each entry is below 2^25 in size
pub record IsNormal (n : Normal) : Type 0 where
  pub x : Small 33554431 n.x
  pub y : Small 33554431 n.y
  pub z : Small 33554431 n.z

abbrev pub opposite : Normal → Normal
opposite n = record { x = neg_ℤ n.x; y = neg_ℤ n.y; z = neg_ℤ n.z }

abbrev pub cross : Normal → Normal → Normal
cross g h = record {
  x = g.y *ℤ h.z -ℤ g.z *ℤ h.y;
  y = g.z *ℤ h.x -ℤ g.x *ℤ h.z;
  z = g.x *ℤ h.y -ℤ g.y *ℤ h.x;
}

abbrev pub inner : Normal → Normal → ℤ
inner g h = g.x *ℤ h.x +ℤ g.y *ℤ h.y +ℤ g.z *ℤ h.z

-- how far a point lies in a direction
abbrev pub along : DecimalPoint → Normal → ℤ
along p n = p.x *ℤ n.x +ℤ p.y *ℤ n.y +ℤ p.z *ℤ n.z

-- which way g turns to become h, seen against the edge from u to v
abbrev pub turn : DecimalPoint → DecimalPoint → Normal → Normal → Ordering
turn u v g h = int_cmp (along v (cross g h)) (along u (cross g h))
