-- Each inside point of a triangle's face that lies off the cutting planes is inside exactly one
-- region.
use Rattle.std.proofs.Common.{◌≡◌, ℕ, ◌+◌, refl, ap, ◌∙◌, sym, subst, List, [], ◌∷◌, Bool, true, false, not, ◌&&◌, ◌||◌}
use Rattle.std.proofs.Common.{cond, zero, suc, ℤ, pos, negsuc, ◌⊎◌, inl, inr, ⊎_elim, arith}
use Rattle.std.specs.List.{list_all, sum_by}
use Rattle.std.proofs.lemmas.Bool.{cases_Bool, false≢true}
use Rattle.std.proofs.lemmas.List.Sums.{sum_by-cons}
use Rattle.ember_algebra.specs.Relations.{Each, Chain, done, step, Every}
use Rattle.ember_algebra.specs.Sign.{is_positive, is_zero, is_negative}
use Rattle.ember_algebra.proofs.Relations.{each_count, chain_keeps}
use Rattle.ember_model.specs.declared.plane.Plane.{Plane}
use Rattle.ember_model.specs.declared.point.Spot.{Spot}
use Rattle.ember_model.specs.declared.face.Face.{Face}
use Rattle.ember_model.specs.Planes.{value_at}
use Rattle.ember_model.specs.Faces.{is_inside, Cuts}
use Rattle.ember_model.proofs.SignTests.{positive_out, zero_out, zero_not_negative}
use Rattle.ember_box.specs.Sums.{number}
use Rattle.ember_box.specs.Regions.{Wall, AreLeftByWall, cut, outside, in_high, stays, CuttingPlane}
use Rattle.ember_box.specs.Regions.{AreLeftByCuttingPlane, splits, whole, FaceIsAbove, FaceLiesOn}
use Rattle.ember_trace.proofs.FilledFaces.{plane_at_inside_point_cuts}
use Rattle.ember_meaning.proofs.CountedPoints.{IsOff, hits, passes}
use Rattle.ember_meaning.proofs.FaceParts.{by_tests, is_inside-below, is_inside-above, on_support}

-- a plane that cuts a face is no multiple of its support
off : (x : Spot) (f : Face) (p : Plane) → IsOff x f.support p → Cuts f p → is_inside f x ≡ true → is_zero (value_at p x) ≡ true → ⊥
off x f p o c i z =
    ⊎_elim (λ n. n (on_support f x i) z) (λ m. zero_not_negative _
    (m.zero c.some_below.at (on_support f c.some_below.at c.some_below.inside)) c.some_below.holds) o

-- ---- a cutting plane keeps the count
two_parts : (a : Bool) (z : ℤ) → (a ≡ true → is_zero z ≡ true → ⊥) → cond (a && is_negative z) 1 0 + cond (a && is_positive z) 1 0 ≡ cond a 1 0
two_parts false z n = refl
two_parts true (pos zero) n = absurd (n refl refl)
two_parts true (pos (suc k)) n = refl
two_parts true (negsuc k) n = refl

cutting_plane_count : (x : Spot) (s : Plane) (b : CuttingPlane) → IsOff x s b.plane → (f : Face) (ys : List Face) →
    f.support ≡ s → AreLeftByCuttingPlane b f ys → Every (λ g. g.support ≡ s) ys × (hits x ys ≡ cond (is_inside f x) 1 0)
cutting_plane_count x s b o f ys e (splits m c) =
    let n = off x f b.plane (subst (λ t. IsOff x t b.plane) (sym e) o) c in
    ((e, (e, tt)), rw (is_inside-below f b.plane x, is_inside-above f b.plane x) (omega (arith, two_parts (is_inside f x) (value_at b.plane x) n)))
cutting_plane_count x s b o f ys e (whole n) = ((e, tt), omega arith)

-- fs have the support s
abbrev HaveSupport : Plane → List Face → Type 0
HaveSupport s fs = Every (λ g. g.support ≡ s) fs

-- all cutting planes together keep the count
cutting_planes_step : (x : Spot) (s : Plane) (b : CuttingPlane) (fs gs : List Face) → IsOff x s b.plane →
    HaveSupport s fs → Each (AreLeftByCuttingPlane b) fs gs → HaveSupport s gs × (hits x gs ≡ hits x fs)
cutting_planes_step x s b fs gs o h r =
    each_count (λ g. is_inside g x) (λ f. cond (is_inside f x) 1 0) (λ f. f.support ≡ s) (λ g. g.support ≡ s)
    (λ f ys e q. cutting_plane_count x s b o f ys e q) r h

pub cutting_planes_count : (x : Spot) (s : Plane) (bs : List CuttingPlane) (fs gs : List Face) →
    Every (λ b. IsOff x s b.plane) bs → HaveSupport s fs → Chain (λ b. Each (AreLeftByCuttingPlane b)) bs fs gs →
    HaveSupport s gs × (hits x gs ≡ hits x fs)
cutting_planes_count x s bs fs gs o h r =
    chain_keeps (λ b. IsOff x s b.plane) (λ a b. HaveSupport s b × (hits x b ≡ hits x a)) fs o (h, refl)
    (λ b us vs o q r. let k = cutting_planes_step x s b us vs o q.0 r in (k.0, k.1 ∙ q.1)) r

-- ---- a wall keeps what passes it
passes_zero : (x : Spot) (w : Wall) → w.is_high ≡ true → is_zero (value_at w.plane x) ≡ true → passes x w ≡ false
passes_zero x w h z = by (value_at w.plane x) w.is_high h z
  where
    by : (v : ℤ) (b : Bool) → b ≡ true → is_zero v ≡ true → (is_negative v || (not b && is_zero v)) ≡ false
    by (pos zero) b h z = rw h refl
    by (pos (suc n)) b h z = absurd (false≢true z)
    by (negsuc n) b h z = absurd (false≢true z)

passes_positive : (x : Spot) (w : Wall) → is_positive (value_at w.plane x) ≡ true → passes x w ≡ false
passes_positive x w p = by (value_at w.plane x) w.is_high p
  where
    by : (v : ℤ) (b : Bool) → is_positive v ≡ true → (is_negative v || (not b && is_zero v)) ≡ false
    by (pos zero) b p = absurd (false≢true p)
    by (pos (suc n)) true p = refl
    by (pos (suc n)) false p = refl
    by (negsuc n) b p = absurd (false≢true p)

passes_off : (x : Spot) (w : Wall) → (is_zero (value_at w.plane x) ≡ true → ⊥) → passes x w ≡ is_negative (value_at w.plane x)
passes_off x w n = by (value_at w.plane x) w.is_high n
  where
    by : (v : ℤ) (b : Bool) → (is_zero v ≡ true → ⊥) → (is_negative v || (not b && is_zero v)) ≡ is_negative v
    by (pos zero) b n = absurd (n refl)
    by (pos (suc n)) true h = refl
    by (pos (suc n)) false h = refl
    by (negsuc n) b h = refl

passes_negative : (x : Spot) (w : Wall) → is_negative (value_at w.plane x) ≡ true → passes x w ≡ true
passes_negative x w e = rw e refl

passes_low : (x : Spot) (w : Wall) → w.is_high ≡ false → is_zero (value_at w.plane x) ≡ true → passes x w ≡ true
passes_low x w h z = by (value_at w.plane x) w.is_high h z
  where
    by : (v : ℤ) (b : Bool) → b ≡ false → is_zero v ≡ true → (is_negative v || (not b && is_zero v)) ≡ true
    by (pos zero) b h z = rw h refl
    by (pos (suc n)) b h z = absurd (false≢true z)
    by (negsuc n) b h z = refl

swapped : (i m p : Bool) → (i ≡ true → p ≡ m) → number (i && m) ≡ number (p && i)
swapped true m true h = ap number (sym (h refl))
swapped true m false h = ap number (sym (h refl))
swapped false m true h = refl
swapped false m false h = refl

none_left : (p i : Bool) → (i ≡ true → p ≡ false) → 0 ≡ number (p && i)
none_left true true h = absurd (false≢true (sym (h refl)))
none_left false true h = refl
none_left true false h = refl
none_left false false h = refl

all_left : (p i : Bool) → (i ≡ true → p ≡ true) → number i ≡ number (p && i)
all_left true true h = refl
all_left false true h = absurd (false≢true (h refl))
all_left true false h = refl
all_left false false h = refl

-- a face that stays passes the wall at each inside point off it
stays_passes : (x : Spot) (w : Wall) (f : Face) → IsOff x f.support w.plane → (Cuts f w.plane → ⊥) →
    (FaceIsAbove f w.plane → ⊥) → (w.is_high ≡ true → FaceLiesOn f w.plane → ⊥) → is_inside f x ≡ true → passes x w ≡ true
stays_passes x w f o n a h i =
    by_tests (value_at w.plane x) (λ px. absurd (a (all_above px))) (λ zx. on zx (cases_Bool w.is_high)) (λ m. passes_negative x w m)
  where
    all_above : is_positive (value_at w.plane x) ≡ true → FaceIsAbove f w.plane
    all_above px =
        record {
          holds = λ v hv. by_tests (value_at w.plane v) (λ p. p)
              (λ z. absurd (n (plane_at_inside_point_cuts f w.plane x v i hv (positive_out (value_at w.plane x) px)
              (zero_out (value_at w.plane v) z)))) (λ m. absurd
              (n (record {
                some_below = record { at = v; inside = hv; holds = m };
                some_above =
                    record { at = x; inside = i; holds = px };
              })));
        }

    on : is_zero (value_at w.plane x) ≡ true → (w.is_high ≡ true) ⊎ (w.is_high ≡ false) → passes x w ≡ true
    on zx (inr low) = passes_low x w low zx
    on zx (inl high) =
        ⊎_elim (λ off. absurd (off (on_support f x i) zx)) (λ m. absurd (h high (record { holds = λ v hv. m.zero v (on_support f v hv) }))) o

wall_count : (x : Spot) (s : Plane) (w : Wall) → IsOff x s w.plane → (f : Face) (ys : List Face) → f.support ≡ s →
    AreLeftByWall w f ys → HaveSupport s ys × (hits x ys ≡ cond (passes x w && is_inside f x) 1 0)
wall_count x s w o f ys e (cut c) =
    let n = off x f w.plane (subst (λ t. IsOff x t w.plane) (sym e) o) c in (
      (e, tt),
      rw (is_inside-below f w.plane x) (omega (
        arith,
        swapped (is_inside f x) (is_negative (value_at w.plane x)) (passes x w) (λ i. passes_off x w (n i)),
      )),
    )
wall_count x s w o f ys e (outside a) =
    (tt, none_left (passes x w) (is_inside f x) (λ i. passes_positive x w (a.holds x i)))
wall_count x s w o f ys e (in_high h a) =
    (tt, none_left (passes x w) (is_inside f x) (λ i. passes_zero x w h (a.holds x i)))
wall_count x s w o f ys e (stays n a h) =
    ((e, tt), omega (arith, all_left (passes x w) (is_inside f x) (stays_passes x w f (subst (λ t. IsOff x t w.plane) (sym e) o) n a h)))

-- a sum where each term has one test in front
sum_tested : (p : Bool) (x : Spot) (fs : List Face) → sum_by (λ f. cond (p && is_inside f x) 1 0) fs ≡ cond p (hits x fs) 0
sum_tested true x fs = refl
sum_tested false x [] = refl
sum_tested false x (f ∷ fs) = omega (arith, sum_by-cons (λ g. 0) f fs, sum_tested false x fs)

walls_step : (x : Spot) (s : Plane) (w : Wall) (fs gs : List Face) → IsOff x s w.plane → HaveSupport s fs →
    Each (AreLeftByWall w) fs gs → HaveSupport s gs × (hits x gs ≡ cond (passes x w) (hits x fs) 0)
walls_step x s w fs gs o h r =
    let k = each_count (λ g. is_inside g x) (λ f. cond (passes x w && is_inside f x) 1 0) (λ f. f.support ≡ s)
    (λ g. g.support ≡ s) (λ f ys e q. wall_count x s w o f ys e q) r h in
    (k.0, k.1 ∙ sum_tested (passes x w) x fs)

-- the count of a start: that of the face where x passes all walls, otherwise none
pub start_count : (x : Spot) (s : Plane) (ws : List Wall) (fs gs : List Face) → Every (λ w. IsOff x s w.plane) ws →
    HaveSupport s fs → Chain (λ w. Each (AreLeftByWall w)) ws fs gs →
    HaveSupport s gs × (hits x gs ≡ cond (list_all (λ w. passes x w) ws) (hits x fs) 0)
start_count x s [] fs gs o h done = (h, refl)
start_count x s (w ∷ ws) fs gs o h (step {b = us} r e) =
    let k = walls_step x s w fs us o.0 h r in let m = start_count x s ws us gs o.1 k.0 e in
    (m.0, m.1 ∙ ap (λ n. cond (list_all (λ w. passes x w) ws) n 0) k.1 ∙ both (list_all (λ w. passes x w) ws) (passes x w) (hits x fs))
  where
    both : (a b : Bool) (n : ℕ) → cond a (cond b n 0) 0 ≡ cond (b && a) n 0
    both true true n = refl
    both true false n = refl
    both false true n = refl
    both false false n = refl
