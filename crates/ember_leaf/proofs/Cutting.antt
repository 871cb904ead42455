-- Regions cut by triangle after triangle: parts of the start, which each of the triangles can cut.
use Rattle.std.proofs.Common.{◌≡◌, true, refl, sym, ap, subst, ◌∙◌, arith, ℕ, zero, suc, ◌+◌, ◌<◌, List, [], ◌∷◌, length, take, drop, get_or, All}
use Rattle.std.proofs.lemmas.List.{take_more}
use Rattle.std.proofs.lemmas.List.Elements.{All-get_or}
use Rattle.ember_algebra.specs.Relations.{Each, Chain, done, step, Every}
use Rattle.ember_algebra.specs.Sign.{is_negative}
use Rattle.ember_algebra.proofs.Relations.{chain_push}
use Rattle.ember_model.specs.declared.plane.Plane.{Plane}
use Rattle.ember_model.specs.declared.face.Face.{Face}
use Rattle.ember_model.specs.Planes.{value_at, opposite}
use Rattle.ember_model.specs.Faces.{Contains, Somewhere, below}
use Rattle.ember_model.proofs.SignTests.{negative_in, positive_out}
use Rattle.ember_width.specs.declared.width.Width.{Ghosts}
use Rattle.ember_box.specs.Regions.{CuttingPlane, AreLeftByCuttingPlane, splits, whole}
use Rattle.ember_poly.specs.Cuts.{HasInside}
use Rattle.ember_poly.proofs.ReachBySigns.{over_opposite}
use Rattle.ember_trace.proofs.FilledFaces.{inside_below}
use Rattle.ember_leaf.specs.declared.cutter.Cutter.{Cutter}
use Rattle.ember_leaf.specs.declared.cutter.Role.{Role}
use Rattle.ember_leaf.specs.declared.cutter.Role.TheVariants.{OtherPlane, Later, Earlier}
use Rattle.ember_leaf.specs.Cutters.{ShareAPlane, SharesAs, CanCut, AreCut}
use Rattle.ember_leaf.proofs.WallClips.{each_every, inside_in_below}
use Rattle.ember_leaf.proofs.OwnedRegions.{left_every, every_all, regions_left}

-- ---- lists
pub chain_next : {X A : Type 0} (R : X → A → A → Type 0) (xs : List X) (i : ℕ) (d : X) (a b c : A) → i < length xs →
    d ≡ get_or xs i d → Chain R (take i xs) a b → R d b c → Chain R (take (i + 1) xs) a c
chain_next R xs i d a b c l e h r = rw (take_more xs i d l, ← e) (chain_push h r)

-- what holds of all members of a list holds of all members from k on
pub all_drop : {X : Type 0} (P : X → Type 0) (k : ℕ) (xs : List X) → All P xs → All P (drop k xs)
all_drop P zero xs h = h
all_drop P (suc k) [] h = h
all_drop P (suc k) (x ∷ xs) h = all_drop P k xs (λ i d l. h (suc i) d (omega (arith, l)))

-- `All` and `Every` say the same of a list
pub all_every : {X : Type 0} (P : X → Type 0) (xs : List X) → All P xs → Every P xs
all_every P [] h = tt
all_every P (x ∷ xs) h =
    (h zero x (omega arith), all_every P xs (λ i d l. h (suc i) d (omega (arith, l))))

-- ---- parts of a face
pub record IsPieceOf (f g : Face) : Type 0 where
  pub support : g.support ≡ f.support
  pub within : Contains f g
  pub somewhere : HasInside g

whole_piece : (f : Face) → HasInside f → IsPieceOf f f
whole_piece f s =
    record { support = refl; within = record { holds = λ v i. i }; somewhere = s }

piece_below : (f g : Face) (p : Plane) → IsPieceOf f g → Somewhere g (λ v. is_negative (value_at p v) ≡ true) → IsPieceOf f (below g p)
piece_below f g p h s =
    record {
      support = h.support;
      within = record { holds = λ v i. h.within.holds v (inside_below g p v i).0 };
      somewhere = record { at = s.at; inside = inside_in_below g p s.at s.inside s.holds; holds = tt };
    }

piece_kept : (f : Face) (b : CuttingPlane) (g : Face) (gs : List Face) → IsPieceOf f g → AreLeftByCuttingPlane b g gs → Every (IsPieceOf f) gs
piece_kept f b g gs h (splits m c) = (
  piece_below f g b.plane h c.some_below,
  (
    piece_below f g (opposite b.plane) h
        (record {
          at = c.some_above.at;
          inside = c.some_above.inside;
          holds =
              negative_in (over_opposite b.plane c.some_above.at
              (record { over = positive_out (value_at b.plane c.some_above.at) c.some_above.holds })).under;
        }),
    tt,
  ),
)
piece_kept f b g gs h (whole n) = (h, tt)

pieces_kept : (f : Face) {bs : List CuttingPlane} {gs hs : List Face} →
    Chain (λ b. Each (AreLeftByCuttingPlane b)) bs gs hs → Every (IsPieceOf f) gs → Every (IsPieceOf f) hs
pieces_kept f done h = h
pieces_kept f (step {x = b} r c) h =
    pieces_kept f c (each_every (IsPieceOf f) (IsPieceOf f) (piece_kept f b) r h)

cut_pieces : {W M : Type 0} {G : Ghosts W M} (cs : List (Cutter W M G)) (f : Face) (gs : List Face) → HasInside f → AreCut cs (f ∷ []) gs → Every (IsPieceOf f) gs
cut_pieces cs f gs s c =
    let l = regions_left cs f gs c in
    left_every (IsPieceOf f) l.without (pieces_kept f l.cuts (whole_piece f s, tt))

piece_can : {W M : Type 0} {G : Ghosts W M} (c : Cutter W M G) (f g : Face) → CanCut c f → IsPieceOf f g → CanCut c g
piece_can c f g h p = record { shares = by c.role h.shares; somewhere = p.somewhere }
  where
    shared : ShareAPlane c.tri f → ShareAPlane c.tri g
    shared s =
        record { face = λ v i. s.face v (p.within.holds v i); triangle = λ v i. ap (λ (n : Plane). value_at n v) p.support ∙ s.triangle v i }

    by : (k : Role) → SharesAs k c.tri f → SharesAs k c.tri g
    by OtherPlane s = tt
    by Later s = shared s
    by Earlier s = shared s

-- a cutter that can cut the start can cut all regions of it
pub all_can_cut : {W M : Type 0} {G : Ghosts W M} (cs : List (Cutter W M G)) (f : Face) (gs : List Face) → AreCut cs (f ∷ []) gs → (c : Cutter W M G) → CanCut c f → All (CanCut c) gs
all_can_cut cs f gs k c h = every_all (CanCut c) gs (by gs (cut_pieces cs f gs h.somewhere k))
  where
    by : (gs : List Face) → Every (IsPieceOf f) gs → Every (CanCut c) gs
    by [] e = tt
    by (g ∷ gs) e = (piece_can c f g h e.0, by gs e.1)

-- a cutter of the list can cut f if all can
pub can_cut_at : {W M : Type 0} {G : Ghosts W M} (cs : List (Cutter W M G)) (f : Face) (i : ℕ) (d : Cutter W M G) → i < length cs → d ≡ get_or cs i d → All (λ c. CanCut c f) cs → CanCut d f
can_cut_at cs f i d l e h =
    subst (λ c. CanCut c f) (sym e) (All-get_or (λ c. CanCut c f) cs i d l h)
