-- Boxes and their twelve triangles
use Rattle.std.specs.Prelude.{ℕ, ◌+◌, ◌*◌, List, [], ◌∷◌, ◌++◌, ℤ, pos, ◌+ℤ◌}
use Rattle.ember_model.specs.declared.point.Corner.{Corner}
use Rattle.ember_model.specs.declared.tri.Tri.{Tri}
use Rattle.ember_gen.specs.declared.block.Block.{Block}
use Rattle.ember_gen.specs.Numbers.{draw, place, side}

-- box i: three draws for the least corner, and three for the sides
abbrev pub low_of : ℕ → Corner
low_of i =
    record { x = place (draw (6 * i + 1)); y = place (draw (6 * i + 2)); z = place (draw (6 * i + 3)) }

abbrev pub high_of : ℕ → Corner
high_of i =
    record {
      x = (low_of i).x +ℤ pos (side (draw (6 * i + 4)));
      y = (low_of i).y +ℤ pos (side (draw (6 * i + 5)));
      z = (low_of i).z +ℤ pos (side (draw (6 * i + 6)));
    }

-- box i, as the generator draws it
unfoldable pub block_of : ℕ → Block
block_of i = record { low = low_of i; high = high_of i }

-- a face with four corners is two triangles from its first corner
abbrev pub quad : ℕ → Corner → Corner → Corner → Corner → List Tri
quad m a b c d = record { a = a; b = b; c = c; mesh = m } ∷ record { a = a; b = c; c = d; mesh = m } ∷ []

-- the faces of a box with the corners c1 to c4 below and c5 to c8 above, in their order round it
abbrev pub block_faces : ℕ → Corner → Corner → Corner → Corner → Corner → Corner → Corner → Corner → List Tri
block_faces m c1 c2 c3 c4 c5 c6 c7 c8 =
    quad m c1 c4 c3 c2 ++ quad m c5 c6 c7 c8 ++ quad m c1 c2 c6 c5 ++ quad m c2 c3 c7 c6 ++ quad m c3 c4 c8 c7 ++
    quad m c4 c1 c5 c8

abbrev pub corner : ℤ → ℤ → ℤ → Corner
corner x y z = record { x = x; y = y; z = z }

-- the twelve triangles of a box, as those of mesh m
unfoldable pub triangles_of : ℕ → Block → List Tri
triangles_of m b =
    let p = b.low in
    let q = b.high in
    block_faces m (corner p.x p.y p.z) (corner q.x p.y p.z) (corner q.x q.y p.z) (corner p.x q.y p.z)
    (corner p.x p.y q.z) (corner q.x p.y q.z) (corner q.x q.y q.z) (corner p.x q.y q.z)
