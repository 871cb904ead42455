-- Surfaces that are placed: their images, and what borrows from these
use Rattle.std.proofs.Common.{◌≡◌, ◌<◌, inl, inr, ℕ, zero, suc, ◌+◌, List, [], ◌∷◌, ◌++◌, length, drop, drop-cons, drop-drop, take, get_or, refl, sym, ap, subst, ◌∙◌, arith}
use Rattle.std.proofs.Common.{Option, None, Some}
use Rattle.std.specs.List.{find, slice_get}
use Rattle.std.specs.Option.{option_map}
use Rattle.std.proofs.lemmas.List.{length-drop, take_all, take_more}
use Rattle.std.proofs.lemmas.Option.{none-some, same_Some, slice_get_read}
use Rattle.mesh_read.specs.declared.surface.surface.Surface.{Surface}
use Rattle.mesh_grid.specs.Grid.Grids.{IsWithinLimit}
use Rattle.mesh_read.proofs.FarPoints.{far_by_content}
use Rattle.mesh_read.proofs.Flaws.{far_is_flaw}
use Rattle.mesh_read.specs.declared.surface.surface.Facet.{Facet}
use Rattle.mesh_read.specs.Surface.Surfaces.{content_of, first_far, is_facet_too_large}
use Rattle.mesh_read.specs.Surface.Flaws.{flaw_in}
use Rattle.mesh_place.specs.declared.surface.transformed.TransformedSurface.{TransformedSurface}
use Rattle.mesh_place.specs.Images.{transformed_content}
use Rattle.mesh_placing.specs.declared.files.Placing.{Placing}
use Rattle.mesh_placing.specs.declared.image.ImageFault.{ImageFault}
use Rattle.mesh_placing.specs.declared.image.ImageFault.TheVariants as image_fault
use Rattle.mesh_placing.specs.Images.{IsPlacedBy}
use Rattle.mesh_boolean.specs.declared.fault.BooleanFault.{BooleanFault}
use Rattle.mesh_boolean.specs.declared.fault.BooleanFault.TheVariants.{File, Image, Scene, Solid, TooFar, TooManyTriangles, OutOfMemory}
use Rattle.mesh_boolean.specs.Images.{AreForEach, AllOfThree, IsGiven, AreGiven, IsImageIf, AreImages, IsLent, AreLent, HasFlaw, HaveFlaw}
use Rattle.mesh_boolean.specs.Images.{HaveImageFault, IsImageFaultIf, of_image_fault}

-- ---- three lists
module _ {A B C : Type 0} (R : A → B → C → Type 0) where
  -- an entry more
  pub three_push : (xs : List A) (ys : List B) (zs : List C) (x : A) (y : B) (z : C) → AllOfThree R xs ys zs → R x y z →
      AllOfThree R (xs ++ x ∷ []) (ys ++ y ∷ []) (zs ++ z ∷ [])
  three_push [] [] [] x y z h r = (r, tt)
  three_push [] [] (w ∷ zs) x y z h r = absurd h
  three_push [] (v ∷ ys) zs x y z h r = absurd h
  three_push (u ∷ xs) [] zs x y z h r = absurd h
  three_push (u ∷ xs) (v ∷ ys) [] x y z h r = absurd h
  three_push (u ∷ xs) (v ∷ ys) (w ∷ zs) x y z h r = (h.0, three_push xs ys zs x y z h.1 r)

  -- there are as many
  pub three_are_as_many : (xs : List A) (ys : List B) (zs : List C) → AllOfThree R xs ys zs → length zs ≡ length ys
  three_are_as_many [] [] [] h = refl
  three_are_as_many [] [] (w ∷ zs) h = absurd h
  three_are_as_many [] (v ∷ ys) zs h = absurd h
  three_are_as_many (u ∷ xs) [] zs h = absurd h
  three_are_as_many (u ∷ xs) (v ∷ ys) [] h = absurd h
  three_are_as_many (u ∷ xs) (v ∷ ys) (w ∷ zs) h = ap suc (three_are_as_many xs ys zs h.1)

  -- the entries in the place of one of the third list
  pub third_is_of : (xs : List A) (ys : List B) (zs : List C) (i : ℕ) (z : C) → AllOfThree R xs ys zs → slice_get zs i ≡ Some z →
      (x : A) × (y : B) × (slice_get xs i ≡ Some x) × (slice_get ys i ≡ Some y) × R x y z
  third_is_of [] [] [] i z h e = absurd (none-some z e)
  third_is_of [] [] (w ∷ zs) i z h e = absurd h
  third_is_of [] (v ∷ ys) zs i z h e = absurd h
  third_is_of (u ∷ xs) [] zs i z h e = absurd h
  third_is_of (u ∷ xs) (v ∷ ys) [] i z h e = absurd h
  third_is_of (u ∷ xs) (v ∷ ys) (w ∷ zs) zero z h e = (u, v, refl, refl, subst (R u v) (same_Some w z e) h.0)
  third_is_of (u ∷ xs) (v ∷ ys) (w ∷ zs) (suc i) z h e = third_is_of xs ys zs i z h.1 e

-- an entry more of lists that are taken from the front
pub three_more : {A B C : Type 0} (R : A → B → C → Type 0) (xs : List A) (ys : List B) (now new : List C) (i : ℕ) (x : A) (y : B) (z : C) →
    i < length xs → i < length ys → x ≡ get_or xs i x → y ≡ get_or ys i y → AllOfThree R (take i xs) (take i ys) now →
    new ≡ now ++ z ∷ [] → R x y z → AllOfThree R (take (i + 1) xs) (take (i + 1) ys) new
three_more {A} {B} {C} R xs ys now new i x y z k l p q h e r =
    let first : take (i + 1) xs ≡ take i xs ++ x ∷ [] = take_more xs i x k ∙ ap (λ (w : A). take i xs ++ w ∷ []) (sym p) in
    let second : take (i + 1) ys ≡ take i ys ++ y ∷ [] = take_more ys i y l ∙ ap (λ (w : B). take i ys ++ w ∷ []) (sym q) in
    rw (first, second, e) (three_push R (take i xs) (take i ys) now x y z h r)

-- ---- images, and what borrows from them
given_each : (placings : List (Option Placing)) (read : List Surface) (images : List (Option TransformedSurface)) (given : List Surface) →
    AllOfThree IsImageIf placings read images → AllOfThree IsLent images read given → AllOfThree IsGiven placings read given
given_each [] [] [] given h l = l
given_each [] [] (i ∷ is) given h l = absurd h
given_each [] (s ∷ ss) is given h l = absurd h
given_each (p ∷ ps) [] is given h l = absurd h
given_each (p ∷ ps) (s ∷ ss) [] given h l = absurd h
given_each (p ∷ ps) (s ∷ ss) (i ∷ is) [] h l = absurd l
given_each (p ∷ ps) (s ∷ ss) (i ∷ is) (t ∷ ts) h l = (one p i h.0 l.0, given_each ps ss is ts h.1 l.1)
  where
    one : (p : Option Placing) (i : Option TransformedSurface) → IsImageIf p s i → IsLent i s t → IsGiven p s t
    one None None h l = l
    one None (Some image) h l = absurd (none-some image (sym h))
    one (Some placing) None h l = absurd h
    one (Some placing) (Some image) h l = subst (IsPlacedBy placing (content_of s)) (sym l) h

-- surfaces and their images, as they are given
pub given_by_images : (placings : List (Option Placing)) (read : List Surface) (images : List (Option TransformedSurface))
    (given : List Surface) → AreImages placings read images → AreLent images read given → AreGiven placings read given
given_by_images [] read images given h l = subst (λ (is : List (Option TransformedSurface)). AreLent is read given) h l
given_by_images (p ∷ ps) read [] given h l = absurd (no_images ps read h)
  where
    no_images : (ps : List (Option Placing)) (read : List Surface) → AllOfThree IsImageIf (p ∷ ps) read [] → ⊥
    no_images ps [] h = h
    no_images ps (s ∷ ss) h = h
given_by_images (p ∷ ps) read (i ∷ is) given h l = given_each (p ∷ ps) read (i ∷ is) given h l

-- there are as many as were read
pub given_are_as_many : (placings : List (Option Placing)) (read given : List Surface) → AreGiven placings read given → length given ≡ length read
given_are_as_many [] read given h = ap length h
given_are_as_many (p ∷ ps) read given h = three_are_as_many IsGiven (p ∷ ps) read given h

-- an image for each, or none at all
pub images_are_for_each : (placings : List (Option Placing)) (read : List Surface) (images : List (Option TransformedSurface)) →
    AreImages placings read images → AreForEach images read
images_are_for_each [] read images h = inl h
images_are_for_each (p ∷ ps) read images h = inr (three_are_as_many IsImageIf (p ∷ ps) read images h)

-- a surface without a flaw has no triangle that is too far out
pub mesh_is_within_limit : (s : Surface) → flaw_in (content_of s) ≡ None → IsWithinLimit s
mesh_is_within_limit s e =
    found_nowhere (find (is_facet_too_large s.vertices.items) s.facets.items)
    (sym (far_by_content s) ∙ far_is_flaw (first_far (content_of s)) s.facets.items e)
  where
    found_nowhere : (found : Option Facet) → option_map (λ (f : Facet). f.place) found ≡ None → found ≡ None
    found_nowhere None e = refl
    found_nowhere (Some facet) e = absurd (none-some facet.place (sym e))

-- ---- faults
-- an image that is no mesh is one of a surface that is placed
flaw_is_fault : (placings : List (Option Placing)) (read : List Surface) (images : List (Option TransformedSurface)) →
    AreImages placings read images → (index : ℕ) (image : TransformedSurface) → slice_get images index ≡ Some (Some image) →
    (placing : Placing) × (surface : Surface) × (slice_get placings index ≡ Some (Some placing)) ×
    (slice_get read index ≡ Some surface) × IsPlacedBy placing (content_of surface) (transformed_content image)
flaw_is_fault [] read images h index image e =
    absurd (none-some (Some image) (subst (λ (is : List (Option TransformedSurface)). slice_get is index ≡ Some (Some image)) h e))
flaw_is_fault (p ∷ ps) read images h index image e =
    let all = third_is_of IsImageIf (p ∷ ps) read images index (Some image) h e in by all.0 all.1 all.2 all.3 all.4
  where
    by : (x : Option Placing) (s : Surface) → slice_get (p ∷ ps) index ≡ Some x → slice_get read index ≡ Some s → IsImageIf x s (Some image) →
        (placing : Placing) × (surface : Surface) × (slice_get (p ∷ ps) index ≡ Some (Some placing)) ×
        (slice_get read index ≡ Some surface) × IsPlacedBy placing (content_of surface) (transformed_content image)
    by None s f g r = absurd (none-some image (sym r))
    by (Some placing) s f g r = (placing, s, f, g, r)

pub flaws_are_faults : (placings : List (Option Placing)) (read : List Surface) (images : List (Option TransformedSurface))
    (fault : BooleanFault) → AreImages placings read images → HaveFlaw images fault → HaveImageFault placings read fault
flaws_are_faults placings read images (Image index (image_fault.Flaw flaw)) h f =
    let all = flaw_is_fault placings read images h index f.image f.found in
    record {
      placing = all.0;
      placed = all.2;
      surface = all.1;
      found = all.3;
      is_fault = record { image = transformed_content f.image; placed = all.4; has = f.has };
      of_image = other;
    }
  where
    other : image_fault.Flaw flaw ≡ image_fault.OutOfMemory → ⊥
    other e = cc
flaws_are_faults placings read images (Image index (image_fault.Steps fault)) h f = absurd f
flaws_are_faults placings read images (Image index (image_fault.LongVertex vertex)) h f = absurd f
flaws_are_faults placings read images (Image index image_fault.OutOfMemory) h f = absurd f
flaws_are_faults placings read images (File index fault) h f = absurd f
flaws_are_faults placings read images (Scene fault) h f = absurd f
flaws_are_faults placings read images (Solid fault) h f = absurd f
flaws_are_faults placings read images TooFar h f = absurd f
flaws_are_faults placings read images TooManyTriangles h f = absurd f
flaws_are_faults placings read images OutOfMemory h f = tt

-- ---- the loops over placings and images
-- an index of one list is one of the other
pub within_for_each : {A B : Type 0} (xs : List A) (ys : List B) (i : ℕ) → AreForEach xs ys → i < length xs → i < length ys
within_for_each xs ys i (inl e) l = let none : length xs ≡ 0 = ap length e in absurd (omega (arith, none, l))
within_for_each xs ys i (inr e) l = omega (arith, e, l)

-- the first surface that has no image
pub image_fault_at : (placings : List (Option Placing)) (read : List Surface) (index : ℕ) (p : Option Placing) (s : Surface)
    (fault : ImageFault) → index < length placings → index < length read → p ≡ get_or placings index p → s ≡ get_or read index s →
    IsImageFaultIf p s fault → HaveImageFault placings read (of_image_fault index fault)
image_fault_at placings read index None s fault k l is at h = absurd h
image_fault_at placings read index (Some placing) s image_fault.OutOfMemory k l is at h = tt
image_fault_at placings read index (Some placing) s (image_fault.Steps cause) k l is at h = record {
  placing = placing;
  placed = slice_get_read placings (length placings) index (Some placing) refl k is;
  surface = s;
  found = slice_get_read read (length read) index s refl l at;
  is_fault = h;
  of_image = other;
}
  where
    other : image_fault.Steps cause ≡ image_fault.OutOfMemory → ⊥
    other e = cc
image_fault_at placings read index (Some placing) s (image_fault.LongVertex vertex) k l is at h = record {
  placing = placing;
  placed = slice_get_read placings (length placings) index (Some placing) refl k is;
  surface = s;
  found = slice_get_read read (length read) index s refl l at;
  is_fault = h;
  of_image = other;
}
  where
    other : image_fault.LongVertex vertex ≡ image_fault.OutOfMemory → ⊥
    other e = cc
image_fault_at placings read index (Some placing) s (image_fault.Flaw flaw) k l is at h = record {
  placing = placing;
  placed = slice_get_read placings (length placings) index (Some placing) refl k is;
  surface = s;
  found = slice_get_read read (length read) index s refl l at;
  is_fault = h;
  of_image = other;
}
  where
    other : image_fault.Flaw flaw ≡ image_fault.OutOfMemory → ⊥
    other e = cc

-- an image that is no mesh
pub flaw_at : (images : List (Option TransformedSurface)) (index : ℕ) (image : Option TransformedSurface) (fault : ImageFault) →
    index < length images → image ≡ get_or images index image → HasFlaw image fault → HaveFlaw images (of_image_fault index fault)
flaw_at images index image image_fault.OutOfMemory l at h = tt
flaw_at images index image (image_fault.Steps cause) l at h = by image h
  where
    by : (i : Option TransformedSurface) → HasFlaw i (image_fault.Steps cause) → HaveFlaw images (Image index (image_fault.Steps cause))
    by None h = h
    by (Some i) h = h
flaw_at images index image (image_fault.LongVertex vertex) l at h = by image h
  where
    by : (i : Option TransformedSurface) → HasFlaw i (image_fault.LongVertex vertex) → HaveFlaw images (Image index (image_fault.LongVertex vertex))
    by None h = h
    by (Some i) h = h
flaw_at images index None (image_fault.Flaw flaw) l at h = absurd h
flaw_at images index (Some image) (image_fault.Flaw flaw) l at h =
    record { image = image; found = slice_get_read images (length images) index (Some image) refl l at; has = h }

-- all of three lists, each taken up to the length of the first
three_all : {A B C : Type 0} (R : A → B → C → Type 0) (x : A) (xs : List A) (ys : List B) (zs : List C) (n : ℕ) →
    n ≡ length (x ∷ xs) → AreForEach (x ∷ xs) ys → AllOfThree R (take n (x ∷ xs)) (take n ys) zs → AllOfThree R (x ∷ xs) ys zs
three_all {A} {B} {C} R x xs ys zs n e (inl none) h = let m = ap length none in absurd (omega (arith, m))
three_all {A} {B} {C} R x xs ys zs n e (inr same) h =
    let first : take n (x ∷ xs) ≡ x ∷ xs = take_all n (x ∷ xs) (omega (arith, e)) in
    let second : take n ys ≡ ys = take_all n ys (omega (arith, e, same)) in
    subst (λ (us : List A). AllOfThree R us ys zs) first (subst (λ (vs : List B). AllOfThree R (take n (x ∷ xs)) vs zs) second h)

nothing_left : {A B C : Type 0} (R : A → B → C → Type 0) (ys : List B) (zs : List C) → AllOfThree R [] (take 0 ys) zs → zs ≡ []
nothing_left R ys [] h = refl
nothing_left R ys (z ∷ zs) h = absurd h

pub images_are_all : (placings : List (Option Placing)) (read : List Surface) (images : List (Option TransformedSurface)) (n : ℕ) →
    n ≡ length placings → AreForEach placings read → AllOfThree IsImageIf (take n placings) (take n read) images →
    AreImages placings read images
images_are_all [] read images n e each h =
    nothing_left IsImageIf read images (subst (λ (k : ℕ). AllOfThree IsImageIf (take k []) (take k read) images) e h)
images_are_all (p ∷ ps) read images n e each h = three_all IsImageIf p ps read images n e each h

pub lent_are_all : (i : Option TransformedSurface) (is : List (Option TransformedSurface)) (read given : List Surface) (n : ℕ) →
    n ≡ length (i ∷ is) → AreForEach (i ∷ is) read → AllOfThree IsLent (take n (i ∷ is)) (take n read) given → AreLent (i ∷ is) read given
lent_are_all i is read given n e each h = three_all IsLent i is read given n e each h

-- ---- surfaces that are taken from the front
-- one is left
pub rest_has_next : (rest all : List Surface) (i : ℕ) → i < length all → rest ≡ drop i all → 0 < length rest
rest_has_next rest all i l e = let n = ap length e in let m = length-drop i all in omega (arith, n, m, l)

-- it is the one with the index
pub next_of_rest : (rest all : List Surface) (i : ℕ) (s : Surface) → i < length all → rest ≡ drop i all → s ≡ get_or rest 0 s →
    s ≡ get_or all i s
next_of_rest rest all i s l e is =
    is ∙ ap (λ (xs : List Surface). get_or xs 0 s) (e ∙ drop-cons all i s l)

-- the others
pub rest_more : (rest new all : List Surface) (i : ℕ) → rest ≡ drop i all → new ≡ drop 1 rest → new ≡ drop (i + 1) all
rest_more rest new all i e is = is ∙ ap (drop 1) e ∙ drop-drop 1 i all

-- entries for each of a list are entries for each of one that is as long
pub for_each_of : {A B C : Type 0} (xs : List A) (ys : List B) (zs : List C) → AreForEach xs ys → length ys ≡ length zs → AreForEach xs zs
for_each_of xs ys zs (inl none) e = inl none
for_each_of xs ys zs (inr same) e = inr (same ∙ e)
