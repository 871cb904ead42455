-- Faces with the same points are crossed, and left clear, at the same points.
use Rattle.std.proofs.Common.{◌≡◌, refl, sym, ap, ◌∙◌, ◌&&◌, Bool, List, [], ◌∷◌, ℤ, pos, ◌+ℤ◌, ◌*ℤ◌}
use Rattle.std.specs.Prelude.{if◌then◌else◌}
use Rattle.ember_algebra.specs.Sign.{sign, is_negative}
use Rattle.ember_model.specs.declared.tri.Tri.{Tri}
use Rattle.ember_model.specs.declared.plane.Plane.{Plane}
use Rattle.ember_model.specs.declared.point.Spot.{Spot}
use Rattle.ember_model.specs.declared.point.Axis.{Axis}
use Rattle.ember_model.specs.declared.face.Face.{Face}
use Rattle.ember_model.specs.Planes.{value_at, along}
use Rattle.ember_model.specs.Points.{scaled, moved}
use Rattle.ember_model.specs.Faces.{is_inside, hit, crossing}
use Rattle.ember_model.specs.Clear.{IsClear, AreClear}
use Rattle.ember_model.specs.Meshes.{wind}
use Rattle.ember_poly.specs.Outlines.{SamePoints}
use Rattle.ember_expr.specs.Formula.{Formula}
use Rattle.ember_meaning.specs.Regions.Meaning.{HaveMeaning}

-- ---- one face
-- the crossing, given whether the hit is inside
abbrev crossing_where : Plane → Axis → Spot → Bool → ℤ
crossing_where n a p inside =
    if is_negative (value_at n p *ℤ along n a) && inside then sign (along n a) else pos 0

same_crossing : (f g : Face) (a : Axis) (p : Spot) → SamePoints f g → crossing f a p ≡ crossing g a p
unfolding crossing
same_crossing f g a p s =
    ap (crossing_where f.support a p) (s.inside (hit f.support a p)) ∙ ap (λ (n : Plane). crossing_where n a p (is_inside g (hit n a p))) s.support

same_clear : (f g : Face) (p : Spot) → SamePoints f g → IsClear g p → IsClear f p
same_clear f g p s c =
    record {
      outside = s.closed p ∙ c.outside;
      rays =
          λ a m k positive ahead e. s.inside (moved (scaled m p) a k)
          ∙ c.rays a m k positive ahead (sym (s.closed (moved (scaled m p) a k)) ∙ e);
    }

-- ---- lists of faces, one by one
abbrev pub HaveSamePoints : List Face → List Face → Type 0
HaveSamePoints [] [] = Unit {0}
HaveSamePoints [] (g ∷ gs) = ⊥
HaveSamePoints (f ∷ fs) [] = ⊥
HaveSamePoints (f ∷ fs) (g ∷ gs) = SamePoints f g × HaveSamePoints fs gs

same_wind : (a : Axis) (p : Spot) (fs gs : List Face) → HaveSamePoints fs gs → wind a fs p ≡ wind a gs p
same_wind a p [] [] s = refl
same_wind a p [] (g ∷ gs) s = absurd s
same_wind a p (f ∷ fs) [] s = absurd s
same_wind a p (f ∷ fs) (g ∷ gs) s = λ i. same_crossing f g a p s.0 i +ℤ same_wind a p fs gs s.1 i

all_clear : (p : Spot) (fs gs : List Face) → HaveSamePoints fs gs → AreClear gs p → AreClear fs p
all_clear p [] [] s c = tt
all_clear p [] (g ∷ gs) s c = absurd s
all_clear p (f ∷ fs) [] s c = absurd s
all_clear p (f ∷ fs) (g ∷ gs) s c = (same_clear f g p s.0 c.0, all_clear p fs gs s.1 c.1)

-- faces with the same points have the same meaning
pub same_meaning : (scene : List Tri) (x : Formula) (fs gs : List Face) → HaveSamePoints fs gs → HaveMeaning scene x fs → HaveMeaning scene x gs
same_meaning scene x fs gs s m a b p w clear clear_faces =
    sym (same_wind a p fs gs s) ∙ m a b p w clear (all_clear p fs gs s clear_faces)
