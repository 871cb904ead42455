-- Regions that are left, where those that a triangle owns are left out as soon as they are found.
use Rattle.std.proofs.Common.{◌≡◌, sym, subst, ℕ, zero, suc, None, Some, slice_get, List, [], ◌∷◌, ◌++◌, append_assoc, All}
use Rattle.std.specs.List.{AllByRecursion}
use Rattle.std.proofs.lemmas.List.{append-nil}
use Rattle.std.proofs.lemmas.List.Elements.{All-nil, All-cons}
use Rattle.ember_algebra.specs.Relations.{Each, Chain, none, more, done, step, Every}
use Rattle.ember_algebra.proofs.Relations.{each_append, chain_append}
use Rattle.ember_model.specs.declared.tri.Tri.{Tri}
use Rattle.ember_model.specs.declared.plane.Plane.{Plane}
use Rattle.ember_model.specs.declared.face.Face.{Face}
use Rattle.ember_model.specs.Planes.{opposite}
use Rattle.ember_model.specs.Faces.{face_of, Meets}
use Rattle.ember_width.specs.declared.width.Width.{Ghosts}
use Rattle.ember_box.specs.Regions.{CuttingPlane, AreLeftByCuttingPlane, splits, whole}
use Rattle.ember_trace.proofs.FilledFaces.{inside_below}
use Rattle.ember_leaf.specs.declared.cutter.Cutter.{Cutter}
use Rattle.ember_leaf.specs.TriRelations.{HasContaining}
use Rattle.ember_leaf.specs.Cutters.{cutting_planes_with, cutting_planes_by, cutting_planes_in, owners_by, owners_in}
use Rattle.ember_leaf.specs.Cutters.{Without, ended, left, dropped, AreDisjoint, IsFree, AreLeft, AreSplit}
use Rattle.ember_leaf.proofs.WallClips.{each_every}
use Rattle.ember_leaf.proofs.CutCases.{at_cutting_plane}

-- ---- cutting planes, one after another
abbrev AreCutBy : List CuttingPlane → List Face → List Face → Type 0
AreCutBy bs fs gs = Chain (λ b. Each (AreLeftByCuttingPlane b)) bs fs gs

-- cutting two lists and joining the results cuts the joined list
pub cuts_both : {bs : List CuttingPlane} {fs gs us vs : List Face} → AreCutBy bs fs gs → AreCutBy bs us vs → AreCutBy bs (fs ++ us) (gs ++ vs)
cuts_both done done = done
cuts_both (step r c) (step q d) = step (each_append r q) (cuts_both c d)

cuts_none : (bs : List CuttingPlane) → AreCutBy bs [] []
cuts_none [] = done
cuts_none (b ∷ bs) = step none (cuts_none bs)

-- what a face doesn't meet leaves it whole
pub cuts_unmet : (t : Tri) (ps : List Plane) (f : Face) → (Meets f (face_of t) → ⊥) → AreCutBy (cutting_planes_with t ps) (f ∷ []) (f ∷ [])
cuts_unmet t [] f n = done
cuts_unmet t (p ∷ ps) f n = step (more (whole (λ m c. n m)) none) (cuts_unmet t ps f n)

-- some list of faces is what cutting planes leave
each_left : (b : CuttingPlane) (fs : List Face) → (gs : List Face) × Each (AreLeftByCuttingPlane b) fs gs
each_left b [] = ([], none)
each_left b (f ∷ fs) = let h = at_cutting_plane b f in let k = each_left b fs in (h.0 ++ k.0, more h.1 k.1)

all_left : (bs : List CuttingPlane) (fs : List Face) → (gs : List Face) × AreCutBy bs fs gs
all_left [] fs = (fs, done)
all_left (b ∷ bs) fs = let h = each_left b fs in let k = all_left bs h.0 in (k.0, step h.1 k.1)

-- what parts keep, cutting planes keep
cuts_every : (P : Face → Type 0) → ((f : Face) (p : Plane) → P f →
    P (record { support = f.support; edges = f.edges ++ p ∷ [] })) → {bs : List CuttingPlane} {fs gs : List Face} →
    AreCutBy bs fs gs → Every P fs → Every P gs
cuts_every P k done h = h
cuts_every P k (step {x = b} r c) h = cuts_every P k c (each_every P P by r h)
  where
    by : (f : Face) (gs : List Face) → P f → AreLeftByCuttingPlane b f gs → Every P gs
    by f gs p (splits m c) = (k f b.plane p, (k f (opposite b.plane) p, tt))
    by f gs p (whole n) = (p, tt)

-- ---- lists with members left out
module _ {X : Type 0} {P Q : X → Type 0} where
  -- leaving members out of two lists and joining what is left leaves them out of the joined list
  pub without_append : {xs ys us vs : List X} → Without P Q xs ys → Without P Q us vs → Without P Q (xs ++ us) (ys ++ vs)
  without_append ended w = w
  without_append (left q r) w = left q (without_append r w)
  without_append (dropped p r) w = dropped p (without_append r w)

  all_dropped : (xs : List X) → Every P xs → Without P Q xs []
  all_dropped [] h = ended
  all_dropped (x ∷ xs) h = dropped h.0 (all_dropped xs h.1)

  -- nothing is left out if all members have the second property
  pub none_dropped : (xs : List X) → ((x : X) → Q x) → Without P Q xs xs
  none_dropped [] f = ended
  none_dropped (x ∷ xs) f = left (f x) (none_dropped xs f)

  -- what holds of all members holds of those that are left
  pub left_every : (R : X → Type 0) {xs ys : List X} → Without P Q xs ys → Every R xs → Every R ys
  left_every R ended h = tt
  left_every R (left q w) h = (h.0, left_every R w h.1)
  left_every R (dropped p w) h = left_every R w h.1

  -- what is left has the second property
  pub left_have : {xs ys : List X} → Without P Q xs ys → Every Q ys
  left_have ended = tt
  left_have (left q w) = (q, left_have w)
  left_have (dropped p w) = left_have w

-- with other properties
pub without_map : {X : Type 0} {P Q R S : X → Type 0} (T : X → Type 0) → ((x : X) → T x → P x → R x) →
    ((x : X) → T x → Q x → S x) → {xs ys : List X} → Every T xs → Without P Q xs ys → Without R S xs ys
without_map T f g t ended = ended
without_map T f g t (left {x = x} q w) = left (g x t.0 q) (without_map T f g t.1 w)
without_map T f g t (dropped {x = x} p w) = dropped (f x t.0 p) (without_map T f g t.1 w)

-- `Every` and `All` say the same of a list
pub every_all : {X : Type 0} (P : X → Type 0) (xs : List X) → Every P xs → All P xs
every_all P [] h = All-nil P
every_all P (x ∷ xs) h = All-cons P x xs h.0 (every_all P xs h.1)

-- ---- triangles that own
held_before : (ts us : List Tri) (f : Face) → HasContaining ts f → HasContaining (ts ++ us) f
held_before ts us f h =
    record { index = h.index; tri = h.tri; here = by ts h.index h.here; holds = h.holds }
  where
    none_some : None ≡ Some h.tri → ⊥
    none_some e = cc

    by : (ts : List Tri) (i : ℕ) → slice_get ts i ≡ Some h.tri → slice_get (ts ++ us) i ≡ Some h.tri
    by [] i e = absurd (none_some e)
    by (t ∷ ts) zero e = e
    by (t ∷ ts) (suc i) e = by ts i e

held_after : (ts us : List Tri) (f : Face) → HasContaining us f → HasContaining (ts ++ us) f
held_after [] us f h = h
held_after (t ∷ ts) us f h =
    let r = held_after ts us f h in record { index = suc r.index; tri = r.tri; here = r.here; holds = r.holds }

free_both : (ts us : List Tri) (f : Face) → IsFree ts f → IsFree us f → IsFree (ts ++ us) f
free_both ts us f h k = record { free = by ts h.free }
  where
    by : (ts : List Tri) → AllByRecursion (λ t. AreDisjoint (face_of t) f) ts → AllByRecursion (λ t. AreDisjoint (face_of t) f) (ts ++ us)
    by [] a = k.free
    by (t ∷ ts) a = (a.0, by ts a.1)

part_held : (ts : List Tri) (f : Face) (p : Plane) → HasContaining ts f → HasContaining ts (record { support = f.support; edges = f.edges ++ p ∷ [] })
part_held ts f p h =
    record { index = h.index; tri = h.tri; here = h.here; holds = record { holds = λ v i. h.holds.holds v (inside_below f p v i).0 } }

part_free : (ts : List Tri) (f : Face) (p : Plane) → IsFree ts f → IsFree ts (record { support = f.support; edges = f.edges ++ p ∷ [] })
part_free ts f p h = record { free = by ts h.free }
  where
    by : (ts : List Tri) → AllByRecursion (λ t. AreDisjoint (face_of t) f) ts →
        AllByRecursion (λ t. AreDisjoint (face_of t) (record { support = f.support; edges = f.edges ++ p ∷ [] })) ts
    by [] a = tt
    by (t ∷ ts) a = (record { holds = λ v i. a.0.holds v (inside_below f p v i).0 }, by ts a.1)

-- ---- one triangle more
module _ (old new : List Tri) (bs : List CuttingPlane) where
  next_left : {all gs hs : List Face} → Without (HasContaining old) (IsFree old) all gs →
      Each (λ g. AreLeft bs new (g ∷ [])) gs hs → AreLeft bs (old ++ new) all hs
  next_left ended none = record { all = []; cuts = cuts_none bs; without = ended }
  next_left (left {x = f} q w) (more r e) =
      let t = next_left w e in let k = cuts_every (IsFree old) (part_free old) r.cuts (q, tt) in
      record {
        all = r.all ++ t.all;
        cuts = cuts_both r.cuts t.cuts;
        without =
            without_append (without_map (IsFree old) (λ g a h. held_after old new g h) (λ g a h. free_both old new g a h) k
            r.without) t.without;
      }
  next_left (dropped {x = f} p w) e =
      let t = next_left w e in let s = all_left bs (f ∷ []) in
      let k = cuts_every (HasContaining (old ++ new)) (part_held (old ++ new)) s.1 (held_before old new f p, tt) in
      record { all = s.0 ++ t.all; cuts = cuts_both s.1 t.cuts; without = without_append (all_dropped s.0 k) t.without }

-- ---- all triangles, one after another
left_from : {W M : Type 0} {G : Ghosts W M} (bs : List CuttingPlane) (ts : List Tri) (f : Face) {cs : List (Cutter W M G)} {fs gs : List Face} →
    AreLeft bs ts (f ∷ []) fs → Chain AreSplit cs fs gs →
    AreLeft (bs ++ cutting_planes_in cs) (ts ++ owners_in cs) (f ∷ []) gs
left_from bs ts f {gs = gs} l done =
    subst (λ (us : List Tri). AreLeft (bs ++ []) us (f ∷ []) gs) (sym (append-nil ts))
    (subst (λ (cs : List CuttingPlane). AreLeft cs ts (f ∷ []) gs) (sym (append-nil bs)) l)
left_from bs ts f {gs = gs} l (step {x = c} {xs = cs} r d) =
    let n = next_left ts (owners_by c) (cutting_planes_by c) l.without r in
    let h = left_from (bs ++ cutting_planes_by c) (ts ++ owners_by c) f (record { all = n.all; cuts = chain_append l.cuts n.cuts; without = n.without }) d in
    subst (λ (us : List Tri). AreLeft (bs ++ (cutting_planes_by c ++ cutting_planes_in cs)) us (f ∷ []) gs)
    (append_assoc ts (owners_by c) (owners_in cs))
    (subst (λ (ds : List CuttingPlane). AreLeft ds ((ts ++ owners_by c) ++ owners_in cs) (f ∷ []) gs)
    (append_assoc bs (cutting_planes_by c) (cutting_planes_in cs)) h)

-- what is left of a start, and how it comes from all its regions
pub regions_left : {W M : Type 0} {G : Ghosts W M} (cs : List (Cutter W M G)) (f : Face) (gs : List Face) → Chain AreSplit cs (f ∷ []) gs → AreLeft (cutting_planes_in cs) (owners_in cs) (f ∷ []) gs
regions_left cs f gs c =
    left_from [] [] f (record { all = f ∷ []; cuts = done; without = left (record { free = tt }) ended }) c
