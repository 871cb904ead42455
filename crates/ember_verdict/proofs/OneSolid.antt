-- All commands speak of one solid.
use Rattle.std.proofs.Common.{◌≡◌, ℕ, refl, sym, ap, subst, ◌∙◌, Bool, true, false, Some, List, map, take, length, ℤ, pos, ◌<ℤ◌}
use Rattle.std.specs.List.{list_all}
use Rattle.std.specs.Prelude.{if◌then◌else◌}
use Rattle.ember_algebra.proofs.Large.{eventually_map}
use Rattle.ember_box.specs.Reference.{reference_at}
use Rattle.ember_meaning.specs.Closed.Chains.{face_from}
use Rattle.ember_expr.specs.Formula.{Formula}
use Rattle.ember_expr.specs.Truth.{truth}
use Rattle.ember_meaning.specs.Regions.Meaning.{HaveMeaning, one_if}
use Rattle.ember_meaning.specs.Regions.Nearby.{AgreeOver, WindNearbyAsHere, WindHereAsNearby, WindOnceAtMost}
use Rattle.ember_meaning.proofs.Nearby.{wind_nearby_as_here, wind_here_as_nearby, wind_once_at_most, meanings_agree}
use Rattle.ember_meaning.proofs.SameWritten.{same_written}
use Rattle.ember_model.specs.ClearTest.{is_clear_of}
use Rattle.ember_model.specs.FaceFiles.{IsFaceFile}
use Rattle.ember_model.specs.Meshes.{IsScene, vector}
use Rattle.ember_model.specs.declared.face.Face.{Face}
use Rattle.ember_model.specs.declared.point.Axis.TheVariants.{X, Y}
use Rattle.ember_model.specs.declared.point.Spot.{Spot}
use Rattle.ember_model.specs.declared.tri.Tri.{Tri}
use Rattle.ember_reread.proofs.OneReading.{one_reading}
use Rattle.ember_report.specs.Runs.{run_report}
use Rattle.ember_ref.proofs.ClearReferences.{clear_references}
use Rattle.ember_ref.proofs.ReferenceLegs.{weight_at}
use Rattle.ember_slice.proofs.Passing.{crossed_along_x, crossed_along_y}
use Rattle.ember_visit.specs.Jobs.{root_job}
use Rattle.ember_visit.specs.Values.{shape}
use Rattle.ember_voxel.specs.Grid.{is_one}
use Rattle.ember_voxel.specs.Voxels.{cell_value, least_corner}
use Rattle.ember_verdict.specs.Lattices.{IsLatticeText}
use Rattle.ember_verdict.specs.OneSolid.{SegmentsHaveMeaning, SegmentsCrossOnceAtMost, ValueIsOfFaces, IsCell, bit_at, BitsAreOfFaces, BitsAreOfFacesNearby}
use Rattle.ember_verdict.specs.Outputs.{Counts, IsOutput, count_lines}
use Rattle.ember_verdict.specs.Slices.{IsSlice}
use Rattle.ember_verdict.specs.Solids.{IsSolidFile}
use Rattle.ember_verdict.proofs.ClearFaces.{clear_faces}
use Rattle.ember_verdict.proofs.OneTexts.{solid_one}

module _ (tris : List Tri) (formula : Formula) (file : List ℕ) (is : IsSolidFile tris formula file) where
  -- what holds of the faces of one reading holds of those of each
  each_reading : (P : List Face → Type 0) → P (map face_from is.reads.read.written) → (faces : List Face) → IsFaceFile file faces → P faces
  each_reading P h faces r =
      subst P (sym is.reads.read.faces ∙ one_reading file is.reads.faces faces is.reads.read r) h

  written_mean : HaveMeaning tris formula (map face_from is.reads.read.written)
  written_mean = subst (HaveMeaning tris formula) is.reads.read.faces is.reads.meaning

  -- the document's faces wind at most once around a point that is clear of them
  pub solid_once_at_most : (faces : List Face) → IsFaceFile file faces → WindOnceAtMost faces
  solid_once_at_most =
      each_reading WindOnceAtMost (wind_once_at_most tris formula is.reads.read.written is.reads.outlined written_mean)

  -- there they wind as the expression says nearby
  pub solid_here_as_nearby : (faces : List Face) → IsFaceFile file faces → WindHereAsNearby tris formula faces
  solid_here_as_nearby =
      each_reading (WindHereAsNearby tris formula) (wind_here_as_nearby tris formula is.reads.read.written is.reads.outlined written_mean)

  -- near a clear point of the scene they wind as the expression says at the point
  pub solid_nearby_as_here : (faces : List Face) → IsFaceFile file faces → WindNearbyAsHere tris formula faces
  solid_nearby_as_here =
      each_reading (WindNearbyAsHere tris formula) (wind_nearby_as_here tris formula is.reads.read.written is.reads.outlined written_mean)

  -- ---- slices
  -- the crossings of the segments are the winding numbers of the faces, and these have the meaning
  pub slices_mean : (at : ℤ) (text : List ℕ) (slice : IsSlice at file text) → SegmentsHaveMeaning tris formula at slice.0 slice.2.segments
  slices_mean at text slice axis p here clear clear_faces =
      let m = is.means slice.0 slice.1 in record {
        along_x = crossed_along_x p at here.weight here.on slice.2.are_segments ∙ m X axis p here.weight clear clear_faces;
        along_y = crossed_along_y p at here.weight here.on slice.2.are_segments ∙ m Y axis p here.weight clear clear_faces;
      }

  -- the segments are crossed at most once at a point that is clear of the faces
  pub slices_once_at_most : (at : ℤ) (text : List ℕ) (slice : IsSlice at file text) → SegmentsCrossOnceAtMost at slice.0 slice.2.segments
  slices_once_at_most at text slice p here clear_faces =
      let w = solid_once_at_most slice.0 slice.1 p here.weight clear_faces in (
        w.0,
        record {
          along_x = crossed_along_x p at here.weight here.on slice.2.are_segments ∙ w.1 X;
          along_y = crossed_along_y p at here.weight here.on slice.2.are_segments ∙ w.1 Y;
        },
      )

  -- ---- points
  -- the value that is written for a point is how often the faces wind there
  pub value_of_faces : (faces : List Face) → IsFaceFile file faces → (p : Spot) (meshes : ℕ) (text : List ℕ) →
      pos 0 <ℤ p.w → list_all (λ t. is_clear_of t p) tris ≡ true → IsOutput (Counts p meshes tris (Some formula)) text →
      ValueIsOfFaces text faces p
  value_of_faces faces read p meshes text weight taken output =
      let clear = clear_faces tris p weight taken in record {
        value = truth (vector X tris p) formula;
        shown = record { counts = count_lines 1 (take meshes (vector X tris p)); is = output };
        clear = λ c axis. is.means faces read axis X p weight clear c;
        nearby = eventually_map (λ k h. λ axis. h axis X) (solid_nearby_as_here faces read p weight clear);
      }

  -- ---- lattices
  module _ (meshes : ℕ) (scene : IsScene tris meshes) (size : ℕ) (text : List ℕ) (lattice : IsLatticeText tris formula size text) where
    -- the bit is the value at the reference point
    bit_is : (i j l : ℕ) → IsCell size i j l → cell_value tris formula size i j l ≡ bit_at size lattice.rows i j l
    bit_is i j l c =
        sym (ap is_one (lattice.grid.cell i j l c.on_x c.on_y c.on_z) ∙ by (cell_value tris formula size i j l))
      where
        by : (b : Bool) → is_one (if b then 49 else 48) ≡ b
        by true = refl
        by false = refl

    -- the bit is how often the faces wind at the reference point
    pub bits_of_faces : (faces : List Face) → IsFaceFile file faces → BitsAreOfFaces size lattice.rows faces
    bits_of_faces faces read i j l c clear axis =
        let lo = least_corner size i j l in
        is.means faces read axis X (reference_at lo) (weight_at lo) (clear_references lo tris scene.valid) clear ∙ ap one_if (bit_is i j l c)

    -- and near it, wherever it lies
    pub bits_of_faces_nearby : (faces : List Face) → IsFaceFile file faces → BitsAreOfFacesNearby size lattice.rows faces
    bits_of_faces_nearby faces read i j l c =
        let lo = least_corner size i j l in
        eventually_map (λ k h. λ axis. h axis X ∙ ap one_if (bit_is i j l c))
        (solid_nearby_as_here faces read (reference_at lo) (weight_at lo) (clear_references lo tris scene.valid))

-- ---- expressions
module _ (tris : List Tri) (meshes : ℕ) (f g : Formula) (one other : List ℕ) (scene : IsScene tris meshes)
    (a : IsSolidFile tris f one) (b : IsSolidFile tris g other) where
  -- expressions that agree have one document
  pub agreeing_solids_are_one : AgreeOver tris f g → one ≡ other
  agreeing_solids_are_one agree =
      solid_one tris meshes scene g one other (record {
        kept = a.text.kept;
        report =
            run_report (shape tris g) (root_job tris) (length a.text.kept);
        solid =
            record { written = same_written tris f g agree a.text.kept a.text.solid.written; report_is = refl };
        text =
            a.text.text;
      }) b.text

  -- expressions with one document agree
  pub one_solid_agrees : one ≡ other → AgreeOver tris f g
  one_solid_agrees same =
      meanings_agree tris f g a.reads.read.written a.reads.outlined (written_mean tris f one a)
      (subst (HaveMeaning tris g) a.reads.read.faces
      (b.means a.reads.faces (subst (λ (bytes : List ℕ). IsFaceFile bytes a.reads.faces) same a.reads.read)))
