-- The list of all regions: how many of one place hold a point.
use Rattle.std.proofs.Common.{◌≡◌, ℕ, zero, suc, ◌+◌, ◌<◌, ◌≤◌, refl, ap, ◌∙◌, sym, subst, List, [], ◌∷◌, ◌++◌, map}
use Rattle.std.proofs.Common.{length, Bool, true, false, not, ◌&&◌, ◌||◌, cond, eqb, ltb, pos, ◌≤ℤ◌, ◌⊎◌, inl, inr}
use Rattle.std.proofs.Common.{arith}
use Rattle.std.specs.List.{sum_by, count_by, list_any, range_with_len}
use Rattle.std.proofs.lemmas.List.Sums.{sum_by-cons}
use Rattle.std.proofs.lemmas.Bool.{cases_Bool, eq-eqb, ne_eqb, lt-ltb, le-ltb, cases_order, cases_lt}
use Rattle.ember_algebra.specs.Relations.{Each, none, more, Chain, done, step, Every}
use Rattle.ember_algebra.proofs.Relations.{each_count, each_append, every_unit}
use Rattle.ember_model.specs.declared.tri.Tri.{Tri}
use Rattle.ember_model.specs.declared.point.Spot.{Spot}
use Rattle.ember_model.specs.declared.face.Face.{Face}
use Rattle.ember_model.specs.Faces.{is_inside, is_flat, face_of}
use Rattle.ember_box.specs.Boxes.{Cell}
use Rattle.ember_box.specs.Near.{near, tri_at}
use Rattle.ember_box.specs.Sums.{number}
use Rattle.ember_box.specs.Regions.{AreLeftByWall, AreLeftByCuttingPlane, walls, cutting_planes, IsRegions}
use Rattle.ember_expr.specs.Formula.{Formula}
use Rattle.ember_leaf.specs.KeptRegions.{NarrowKept as Kept}
use Rattle.ember_leaf.specs.Written.{IsWrittenOfRegion, IsWrittenOf}
use Rattle.ember_leaf.proofs.SomeRegions.{written_by_regions}
use Rattle.ember_leaf.specs.Scenes.{HasOneValue, LeafGives, regions, nothing}
use Rattle.ember_meaning.proofs.CountedPoints.{hits, is_in_box, IsFair, IsFairAt, IsFairInAll}
use Rattle.ember_meaning.proofs.Listed.{Entry, entry, IsEntriesOf, IsEntriesIn, IsEntries, has_inside, is_hit_at, Without, ends, keeps, drops}
use Rattle.ember_meaning.proofs.Leaf.{leaf_count}
use Rattle.ember_meaning.proofs.Tree.{IsParted}

-- ---- a flat triangle has no region
walls_of_none : {fs : List Face} (c : Cell) → (ws : List _) → Chain (λ w. Each (AreLeftByWall w)) ws [] fs → fs ≡ []
walls_of_none c [] done = refl
walls_of_none c (w ∷ ws) (step none e) = walls_of_none c ws e

cutting_planes_of_none : {fs : List Face} → (bs : List _) → Chain (λ b. Each (AreLeftByCuttingPlane b)) bs [] fs → fs ≡ []
cutting_planes_of_none [] done = refl
cutting_planes_of_none (b ∷ bs) (step none e) = cutting_planes_of_none bs e

flat_none : (c : Cell) (ts : List Tri) (i : ℕ) (fs : List Face) → is_flat (tri_at ts i) ≡ true → IsRegions c ts i fs → fs ≡ []
flat_none c ts i fs e r =
    let begun = subst (λ b. Chain (λ w. Each (AreLeftByWall w)) (walls c) (elim b [ true ↦ [] | false ↦ face_of (tri_at ts i) ∷ [] ]) r.start) e r.is_start in
    cutting_planes_of_none (cutting_planes ts i)
    (subst (λ s. Chain (λ b. Each (AreLeftByCuttingPlane b)) (cutting_planes ts i) s fs)
    (walls_of_none c (walls c) begun) r.cuts)

-- ---- the regions of one triangle in one leaf
abbrev pub is_entry_at : Spot → ℕ → Entry → Bool
is_entry_at x t e = eqb e.tri t && is_inside e.face x

count_placed : (c : Cell) (x : Spot) (t i : ℕ) (fs : List Face) → count_by (is_entry_at x t) (map (entry c i) fs) ≡ cond (eqb i t) (hits x fs) 0
count_placed c x t i [] = nought (eqb i t)
  where
    nought : (b : Bool) → ◌≡◌ {A = ℕ} 0 (cond b 0 0)
    nought true = refl
    nought false = refl
count_placed c x t i (f ∷ fs) =
    sum_by-cons (λ r. cond (is_entry_at x t r) 1 0) (entry c i f) (map (entry c i) fs)
    ∙ parts (eqb i t) (is_inside f x) (hits x fs) (count_by (is_entry_at x t) (map (entry c i) fs))
    (count_placed c x t i fs) ∙ ap (λ (n : ℕ). cond (eqb i t) n 0)
    (sym (sum_by-cons (λ g. cond (is_inside g x) 1 0) f fs))
  where
    parts : (b q : Bool) (h n : ℕ) → n ≡ cond b h 0 → number (b && q) + n ≡ cond b (number q + h) 0
    parts true q h n e = ap (λ (m : ℕ). number q + m) e
    parts false q h n e = omega arith

place_count : (scene : List Tri) (c : Cell) (x : Spot) (t i : ℕ) (es : List Entry) →
    (is_flat (tri_at (near scene c) i) ≡ false → IsFair c (near scene c) i x) → IsEntriesOf scene c i es →
    count_by (is_entry_at x t) es ≡ cond (eqb i t)
    (number (is_in_box c x && (not (is_flat (tri_at (near scene c) i))
    && is_inside (face_of (tri_at (near scene c) i)) x))) 0
place_count scene c x t i es fair r =
    let ts = near scene c in
    ap (λ (l : List Entry). count_by (is_entry_at x t) l) r.is ∙ count_placed c x t i r.faces
    ∙ ap (λ (n : ℕ). cond (eqb i t) n 0) (held (is_in_box c x) (is_inside (face_of (tri_at ts i)) x)
    (cases_Bool (is_flat (tri_at ts i))) (λ e. leaf_count c ts i x r.faces e (fair e) r.are_regions))
  where
    nothing : (a b : Bool) → 0 ≡ number (a && (not true && b))
    nothing true b = refl
    nothing false b = refl

    held : (a b : Bool) → (is_flat (tri_at (near scene c) i) ≡ true) ⊎ (is_flat (tri_at (near scene c) i) ≡ false) →
        (is_flat (tri_at (near scene c) i) ≡ false → hits x r.faces ≡ number (a && b)) →
        hits x r.faces ≡ number (a && (not (is_flat (tri_at (near scene c) i)) && b))
    held a b (inl e) f =
        ap (λ (l : List Face). hits x l) (flat_none c (near scene c) i r.faces e r.are_regions) ∙ nothing a b ∙ ap (λ z. number (a && (not z && b))) (sym e)
    held a b (inr e) f = f e ∙ ap (λ z. number (a && (not z && b))) (sym e)

sum_at : (g : ℕ → ℕ) (t a n b : ℕ) → b ≡ a + n → sum_by (λ i. cond (eqb i t) (g i) 0) (range_with_len a n) ≡ cond (not (ltb t a) && ltb t b) (g t) 0
sum_at g t a zero b e = by (cases_lt t a)
  where
    by : (t < a) ⊎ (a ≤ t) → 0 ≡ cond (not (ltb t a) && ltb t b) (g t) 0
    by (inl l) = rw (lt-ltb t a l) refl
    by (inr l) = let m : b ≤ t = omega arith in rw (le-ltb t a l, le-ltb t b m) refl
sum_at g t a (suc n) b e =
    sum_by-cons (λ i. cond (eqb i t) (g i) 0) a (range_with_len (a + 1) n) ∙ by (cases_order a t) (sum_at g t (a + 1) n b (omega arith))
  where
    by : (a ≡ t) ⊎ ((a < t) ⊎ (t < a)) → {s : ℕ} → s ≡ cond (not (ltb t (a + 1)) && ltb t b) (g t) 0 →
        cond (eqb a t) (g a) 0 + s ≡ cond (not (ltb t a) && ltb t b) (g t) 0
    by (inl q) h =
        let l : t < a + 1 = omega arith in let m : a ≤ t = omega arith in let k : t < b = omega arith in
        let z = h ∙ ap (λ c. cond (not c && ltb t b) (g t) 0) (lt-ltb t (a + 1) l) in
        rw (eq-eqb a t q, le-ltb t a m, lt-ltb t b k, z) (ap (λ (j : ℕ). g j + 0) q ∙ omega arith)
    by (inr (inl q)) h =
        let l : a + 1 ≤ t = omega arith in let m : a ≤ t = omega arith in
        let z = h ∙ ap (λ c. cond (not c && ltb t b) (g t) 0) (le-ltb t (a + 1) l) in
        rw (ne_eqb a t (λ u. omega arith), le-ltb t a m, z) (omega arith)
    by (inr (inr q)) h =
        let l : t < a + 1 = omega arith in
        let z = h ∙ ap (λ c. cond (not c && ltb t b) (g t) 0) (lt-ltb t (a + 1) l) in
        rw (ne_eqb a t (λ u. omega arith), lt-ltb t a q, z) (omega arith)

-- the regions of place t in one leaf that hold x: one if the leaf holds x and the triangle's
-- face has it inside, otherwise none
regions_count : (scene : List Tri) (x : Spot) (t : ℕ) (c : Cell) (es : List Entry) → IsFairAt scene x c →
    IsEntriesIn scene c es → count_by (is_entry_at x t) es ≡ number (is_in_box c x && has_inside (near scene c) t x)
regions_count scene x t c es fair r =
    let ts = near scene c in
    let k = each_count (is_entry_at x t) (λ i. cond (eqb i t)
    (number (is_in_box c x && (not (is_flat (tri_at ts i)) && is_inside (face_of (tri_at ts i)) x))) 0)
    (λ i. Unit {0}) (λ r. Unit {0}) (λ i zs u q. (every_unit zs, place_count scene c x t i zs (fair i) q)) r
    (every_unit (range_with_len 0 (length ts))) in
    k.1 ∙ sum_at (λ i. number (is_in_box c x && (not (is_flat (tri_at ts i)) && is_inside (face_of (tri_at ts i)) x))) t
    0 (length ts) (length ts) (omega arith) ∙ last (ltb t (length ts)) (is_in_box c x)
    (not (is_flat (tri_at ts t)) && is_inside (face_of (tri_at ts t)) x)
  where
    last : (l a b : Bool) → cond (not (ltb t 0) && l) (number (a && b)) 0 ≡ number (a && (l && b))
    last l a b = rw (le-ltb t 0 (omega arith)) (by l a b)
      where
        by : (l a b : Bool) → cond (not false && l) (number (a && b)) 0 ≡ number (a && (l && b))
        by true a b = refl
        by false true b = refl
        by false false b = refl

-- ---- all leaves
entries_sum : (scene : List Tri) (x : Spot) (t : ℕ) (cs : List Cell) (es : List Entry) → Every (IsFairAt scene x) cs →
    Each (IsEntriesIn scene) cs es → count_by (is_entry_at x t) es ≡ sum_by
    (λ c. number (is_in_box c x && has_inside (near scene c) t x)) cs
entries_sum scene x t cs es fair r =
    (each_count (is_entry_at x t) (λ c. number (is_in_box c x && has_inside (near scene c) t x)) (IsFairAt scene x)
    (λ e. Unit {0}) (λ c zs u q. (every_unit zs, regions_count scene x t c zs u q)) r fair).1

le_sum : {X : Type 0} (p q : X → Bool) (xs : List X) → sum_by (λ x. number (p x && q x)) xs ≤ count_by p xs
le_sum p q [] = omega arith
le_sum p q (x ∷ xs) =
    omega (arith, sum_by-cons (λ y. number (p y && q y)) x xs, sum_by-cons (λ y. cond (p y) 1 0) x xs, le_sum p q xs, less (p x) (q x))
  where
    less : (a b : Bool) → number (a && b) ≤ number a
    less true true = omega arith
    less true false = omega arith
    less false b = omega arith

-- if at most one passes p, the sum of p and q is 1 or 0
sum_any : {X : Type 0} (p q : X → Bool) (xs : List X) → count_by p xs ≤ 1 → sum_by (λ x. number (p x && q x)) xs ≡ number (list_any (λ x. p x && q x) xs)
sum_any p q [] h = refl
sum_any p q (x ∷ xs) h =
    sum_by-cons (λ y. number (p y && q y)) x xs ∙ by (p x) (q x) (sum_by-cons (λ y. cond (p y) 1 0) x xs) (λ l. sum_any p q xs l)
  where
    by : (a b : Bool) → count_by p (x ∷ xs) ≡ number a + count_by p xs →
        (count_by p xs ≤ 1 → sum_by (λ y. number (p y && q y)) xs ≡ number (list_any (λ y. p y && q y) xs)) →
        number (a && b) + sum_by (λ y. number (p y && q y)) xs ≡ number ((a && b) || list_any (λ y. p y && q y) xs)
    by true true e f = omega (arith, le_sum p q xs)
    by true false e f = let l : count_by p xs ≤ 1 = omega arith in omega (arith, f l)
    by false b e f = let l : count_by p xs ≤ 1 = omega arith in omega (arith, f l)

-- of all regions of place t, one holds x if in the leaf of x that triangle's face has x inside,
-- otherwise none
pub entries_count : (scene : List Tri) (cs : List Cell) (x : Spot) (t : ℕ) (es : List Entry) →
    count_by (λ c. is_in_box c x) cs ≤ 1 → IsFairInAll scene cs x → IsEntries scene cs es →
    count_by (is_entry_at x t) es ≡ number (is_hit_at scene cs x t)
entries_count scene cs x t es one fair r =
    entries_sum scene x t cs es fair r ∙ sum_any (λ c. is_in_box c x) (λ c. has_inside (near scene c) t x) cs one

-- ---- at most one listed leaf holds a point
fewer_without : {X : Type 0} {P : X → Type 0} (p : X → Bool) {xs ys : List X} → Without P xs ys → count_by p ys ≤ count_by p xs
fewer_without p ends = omega arith
fewer_without p (keeps {x = x} {xs = xs} {ys = ys} w) =
    omega (arith, sum_by-cons (λ z. cond (p z) 1 0) x xs, sum_by-cons (λ z. cond (p z) 1 0) x ys, fewer_without p w)
fewer_without p (drops {x = x} {xs = xs} {ys = ys} h w) =
    omega (arith, sum_by-cons (λ z. cond (p z) 1 0) x xs, fewer_without p w)

-- of some of the boxes that part another one at most one contains a point
pub one_holds : {P : Cell → Type 0} {whole : Cell} {all : List Cell} → IsParted whole all → (cs : List Cell) (x : Spot) →
    pos 0 ≤ℤ x.w → Without P all cs → count_by (λ c. is_in_box c x) cs ≤ 1
one_holds {whole = whole} parted cs x w l =
    at_most (is_in_box whole x) (fewer_without (λ c. is_in_box c x) l) (parted.count x w)
  where
    at_most : {a n : ℕ} (b : Bool) → a ≤ n → n ≡ number b → a ≤ 1
    at_most true h e = omega arith
    at_most false h e = omega arith

-- ---- the written regions, listed
pub record Listed (scene : List Tri) (x : Formula) (ds : List Cell) (ks : List Kept) : Type 0 where
  pub cells : List Cell
  pub entries : List Entry
  pub listed : Without (HasOneValue scene x) ds cells
  pub are_entries : IsEntries scene cells entries
  pub are_written : Each (λ e us. IsWrittenOfRegion scene x (near scene e.cell) e.tri e.face us) entries ks

record OfLeaf (scene : List Tri) (x : Formula) (c : Cell) (is : List ℕ) (ks : List Kept) : Type 0 where
  entries : List Entry
  are_entries : Each (IsEntriesOf scene c) is entries
  are_written : Each (λ e us. IsWrittenOfRegion scene x (near scene e.cell) e.tri e.face us) entries ks

-- what each member gives, its image gives
pub each_map : {X Z Y : Type 0} {R : Z → List Y → Type 0} (h : X → Z) {xs : List X} {ys : List Y} → Each (λ x. R (h x)) xs ys → Each R (map h xs) ys
each_map h none = none
each_map h (more r e) = more r (each_map h e)

of_leaf : (scene : List Tri) (x : Formula) (c : Cell) {is : List ℕ} {ks : List Kept} →
    Each (IsWrittenOf scene x c (near scene c)) is ks → (OfLeaf scene x c is ks → ⊥) → ⊥
of_leaf scene x c none n = n (record { entries = []; are_entries = none; are_written = none })
of_leaf scene x c (more {x = i} {zs = zs} w e) n =
    of_leaf scene x c e (λ k. written_by_regions scene x c (near scene c) i w
    (λ r. n (record {
      entries = map (entry c i) r.faces ++ k.entries;
      are_entries =
          more (record { faces = r.faces; are_regions = r.are_regions; is = refl }) k.are_entries;
      are_written =
          each_append (each_map (entry c i) r.are_written) k.are_written;
    })))

-- it can't be that there is no such list
pub leaf_list_exists : (scene : List Tri) (x : Formula) {ds : List Cell} {ks : List Kept} → Each (LeafGives scene x) ds ks → (Listed scene x ds ks → ⊥) → ⊥
leaf_list_exists scene x none n =
    n (record { cells = []; entries = []; listed = ends; are_entries = none; are_written = none })
leaf_list_exists scene x (more {x = c} (regions w) e) n =
    leaf_list_exists scene x e (λ k. of_leaf scene x c w
    (λ o. n (record {
      cells = c ∷ k.cells;
      entries = o.entries ++ k.entries;
      listed = keeps k.listed;
      are_entries =
          more o.are_entries k.are_entries;
      are_written = each_append o.are_written k.are_written;
    })))
leaf_list_exists scene x (more (nothing h) e) n =
    leaf_list_exists scene x e (λ k. n (record {
      cells = k.cells;
      entries = k.entries;
      listed =
          drops h k.listed;
      are_entries = k.are_entries;
      are_written = k.are_written;
    }))
