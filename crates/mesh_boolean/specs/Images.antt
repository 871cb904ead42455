-- The images of surfaces that are placed
use Rattle.std.specs.Prelude.{◌≡◌, ◌≢◌, ⊤, ◌⊎◌, ℕ, List, [], ◌∷◌, length, Option, None, Some, slice_get}
use Rattle.mesh_read.specs.declared.surface.surface.Surface.{Surface}
use Rattle.mesh_read.specs.declared.surface.flaw.Flaw.{Flaw}
use Rattle.mesh_read.specs.Surface.Surfaces.{content_of}
use Rattle.mesh_read.specs.Surface.Flaws.{flaw_in}
use Rattle.mesh_place.specs.declared.surface.transformed.TransformedSurface.{TransformedSurface}
use Rattle.mesh_place.specs.Images.{transformed_content}
use Rattle.mesh_placing.specs.declared.files.Placing.{Placing}
use Rattle.mesh_placing.specs.declared.image.ImageFault.{ImageFault}
use Rattle.mesh_placing.specs.declared.image.ImageFault.TheVariants as image_fault
use Rattle.mesh_placing.specs.Images.{IsPlacedBy, IsImageFault}
use Rattle.mesh_boolean.specs.declared.fault.BooleanFault.{BooleanFault}
use Rattle.mesh_boolean.specs.declared.fault.BooleanFault.TheVariants.{File, Image, Scene, Solid, TooFar}
use Rattle.mesh_boolean.specs.declared.fault.BooleanFault.TheVariants.{TooManyTriangles, OutOfMemory}

-- there are no entries at all, or one for each of these
abbrev pub AreForEach : {A B : Type 0} → List A → List B → Type 0
AreForEach xs ys = (xs ≡ []) ⊎ (length xs ≡ length ys)

-- the relation holds of the entries in each place of three lists of one length
abbrev pub AllOfThree : {A B C : Type 0} → (A → B → C → Type 0) → List A → List B → List C → Type 0
AllOfThree R [] [] [] = ⊤
AllOfThree R [] [] (z ∷ zs) = ⊥
AllOfThree R [] (y ∷ ys) zs = ⊥
AllOfThree R (x ∷ xs) [] zs = ⊥
AllOfThree R (x ∷ xs) (y ∷ ys) [] = ⊥
AllOfThree R (x ∷ xs) (y ∷ ys) (z ∷ zs) = R x y z × AllOfThree R xs ys zs

-- ---- what is given: each surface as it was read, or its image
abbrev pub IsGiven : Option Placing → Surface → Surface → Type 0
IsGiven None read given = given ≡ read
IsGiven (Some placing) read given = IsPlacedBy placing (content_of read) (content_of given)

-- if there are no placings, all are as they were read
abbrev pub AreGiven : List (Option Placing) → List Surface → List Surface → Type 0
AreGiven [] read given = given ≡ read
AreGiven (placing ∷ placings) read given = AllOfThree IsGiven (placing ∷ placings) read given

-- ---- the same in two steps: images, and what borrows from them
abbrev pub IsImageIf : Option Placing → Surface → Option TransformedSurface → Type 0
IsImageIf None read image = image ≡ None
IsImageIf (Some placing) read None = ⊥
IsImageIf (Some placing) read (Some image) = IsPlacedBy placing (content_of read) (transformed_content image)

abbrev pub AreImages : List (Option Placing) → List Surface → List (Option TransformedSurface) → Type 0
AreImages [] read images = images ≡ []
AreImages (placing ∷ placings) read images = AllOfThree IsImageIf (placing ∷ placings) read images

abbrev pub IsLent : Option TransformedSurface → Surface → Surface → Type 0
IsLent None read given = given ≡ read
IsLent (Some image) read given = content_of given ≡ transformed_content image

abbrev pub AreLent : List (Option TransformedSurface) → List Surface → List Surface → Type 0
AreLent [] read given = given ≡ read
AreLent (image ∷ images) read given = AllOfThree IsLent (image ∷ images) read given

-- ---- faults
abbrev pub of_image_fault : ℕ → ImageFault → BooleanFault
of_image_fault index image_fault.OutOfMemory = OutOfMemory
of_image_fault index fault = Image index fault

-- the surface with this index has no image by its placing, or the image is no mesh
pub record HasNoImage (placings : List (Option Placing)) (read : List Surface) (index : ℕ) (fault : ImageFault) :
    Type 0 where
  pub placing : Placing
  pub placed : slice_get placings index ≡ Some (Some placing)
  pub surface : Surface
  pub found : slice_get read index ≡ Some surface
  pub is_fault : IsImageFault placing surface fault
  pub of_image : fault ≢ image_fault.OutOfMemory

-- one of them has none
abbrev pub HaveImageFault : List (Option Placing) → List Surface → BooleanFault → Type 0
HaveImageFault placings read (Image index fault) = HasNoImage placings read index fault
HaveImageFault placings read (File index fault) = ⊥
HaveImageFault placings read (Scene fault) = ⊥
HaveImageFault placings read (Solid fault) = ⊥
HaveImageFault placings read TooFar = ⊥
HaveImageFault placings read TooManyTriangles = ⊥
HaveImageFault placings read OutOfMemory = ⊤

abbrev pub IsImageFaultIf : Option Placing → Surface → ImageFault → Type 0
IsImageFaultIf None read fault = ⊥
IsImageFaultIf (Some placing) read fault = IsImageFault placing read fault

-- the image is no mesh, or memory ran out
abbrev pub HasFlaw : Option TransformedSurface → ImageFault → Type 0
HasFlaw (Some image) (image_fault.Flaw flaw) = flaw_in (transformed_content image) ≡ Some flaw
HasFlaw None (image_fault.Flaw flaw) = ⊥
HasFlaw image image_fault.OutOfMemory = ⊤
HasFlaw image (image_fault.Steps fault) = ⊥
HasFlaw image (image_fault.LongVertex vertex) = ⊥

-- the image with this index is no mesh
pub record IsFlawed (images : List (Option TransformedSurface)) (index : ℕ) (flaw : Flaw) : Type 0 where
  pub image : TransformedSurface
  pub found : slice_get images index ≡ Some (Some image)
  pub has : flaw_in (transformed_content image) ≡ Some flaw

abbrev pub HaveFlaw : List (Option TransformedSurface) → BooleanFault → Type 0
HaveFlaw images (Image index (image_fault.Flaw flaw)) = IsFlawed images index flaw
HaveFlaw images (Image index (image_fault.Steps fault)) = ⊥
HaveFlaw images (Image index (image_fault.LongVertex vertex)) = ⊥
HaveFlaw images (Image index image_fault.OutOfMemory) = ⊥
HaveFlaw images (File index fault) = ⊥
HaveFlaw images (Scene fault) = ⊥
HaveFlaw images (Solid fault) = ⊥
HaveFlaw images TooFar = ⊥
HaveFlaw images TooManyTriangles = ⊥
HaveFlaw images OutOfMemory = ⊤
