use Rattle.std.proofs.Common.{All, flat_map}
use Rattle.std.specs.List.{range_with_len}
use Rattle.ember_box.specs.Regions.{cutting_planes_at}
use Rattle.ember_leaf.specs.EarlierTriangles.{AreEarlier}
use Rattle.ember_leaf.specs.KeptRegions.{tris_of}
use Rattle.ember_leaf.specs.Cutters.{cutting_planes_in, owners_in, IsCutterOf, IsBounded, OmitsUnmet}
use Rattle.ember_leaf.proofs.cutters.find_cutters_unless_covered.Given as goal

abbrev pub invariant-loop-j : goal.invariant-loop-j
invariant-loop-j g l =
    All (IsCutterOf l.target.tri) l.list.items × OmitsUnmet (IsBounded l.target.tri l.bounds)
    (flat_map (cutting_planes_at (tris_of l.near) l.i) (range_with_len 0 l.j)) (cutting_planes_in l.list.items) ×
    AreEarlier (tris_of l.near) l.i l.target.tri l.bounds l.j (owners_in l.list.items)
