-- Faces that get numbers, one by one
use Rattle.std.proofs.Common.{◌≡◌, ℕ, zero, suc, ◌+◌, ◌*◌, ◌/◌, ◌%◌, ◌<◌, ◌≤◌, List, [], ◌∷◌, ◌++◌, map, length, take, get_or}
use Rattle.std.proofs.Common.{Some, slice_get, refl, sym, ap, subst, ◌∙◌, arith}
use Rattle.std.specs.List.{AllZip}
use Rattle.std.proofs.lemmas.List.{map-append, take_more}
use Rattle.std.proofs.lemmas.Option.{none-some, same_Some}
use Rattle.std.proofs.lemmas.Slice.Zip.{all_zipped_more}
use Rattle.ember_model.specs.declared.plane.Plane.{Plane}
use Rattle.ember_model.specs.FaceFiles.{WrittenFace}
use Rattle.ember_reread.specs.declared.cornered_face.CorneredFace.{CorneredFace}
use Rattle.ember_reread.specs.Cornered.{face_of}
use Rattle.mesh_certificate.specs.Key.PlaneKeys.{IsPlaneKey}
use Rattle.mesh_solid.specs.Refusal.Searches.{index_in, plane_in, HasPlane}
use Rattle.mesh_solid.specs.Tables.Numberings.{HasEntry}
use Rattle.mesh_solid.proofs.Lists.{Extends, entry_stays, pairs_with}

-- ---- the number of a plane and an index
pub plane_of_number : (plane index : ℕ) → index < 4294967296 → plane_in (plane * 4294967296 + index) ≡ plane
plane_of_number plane index l = omega (arith, l)

pub index_of_number : (plane index : ℕ) → index < 4294967296 → index_in (plane * 4294967296 + index) ≡ index
index_of_number plane index l = omega (arith, l)

-- ---- one face more
module _ (fs : List CorneredFace) (i : ℕ) (l : i < length fs) (face : CorneredFace) (e : face ≡ get_or fs i face) where
  one_more : map face_of (take (i + 1) fs) ≡ map face_of (take i fs) ++ face_of face ∷ []
  one_more =
      ap (map face_of) (take_more fs i face l) ∙ map-append face_of (take i fs) (get_or fs i face ∷ [])
      ∙ (λ k. map face_of (take i fs) ++ face_of (sym e k) ∷ [])

  pub planes_more : (before planes : List Plane) (ns : List ℕ) (plane : ℕ) → i < 4294967296 → Extends before planes →
      AllZip (HasPlane before) (map face_of (take i fs)) ns → HasEntry planes plane (IsPlaneKey face.support) →
      AllZip (HasPlane planes) (map face_of (take (i + 1) fs)) (ns ++ (plane * 4294967296 + i) ∷ [])
  planes_more before planes ns plane small grown h has =
      subst (λ (ws : List WrittenFace). AllZip (HasPlane planes) ws (ns ++ (plane * 4294967296 + i) ∷ [])) (sym one_more)
      (all_zipped_more (HasPlane planes) (map face_of (take i fs)) ns (face_of face) (plane * 4294967296 + i)
      (pairs_with (HasPlane before) (HasPlane planes)
      (λ w n k. entry_stays before planes (plane_in n) (IsPlaneKey w.support) grown k) (map face_of (take i fs)) ns h)
      (subst (λ (n : ℕ). HasEntry planes n (IsPlaneKey face.support)) (sym (plane_of_number plane i small)) has))

-- each index is that of its place
pub indices_more : (ns : List ℕ) (i plane : ℕ) → length ns ≡ i → i < 4294967296 →
    ((k n : ℕ) → slice_get ns k ≡ Some n → index_in n ≡ k) →
    (k n : ℕ) → slice_get (ns ++ (plane * 4294967296 + i) ∷ []) k ≡ Some n → index_in n ≡ k
indices_more ns i plane long small h =
    λ k n q. from ns 0 (omega (arith, long)) (λ k n q. h k n q ∙ omega arith) k n q ∙ omega arith
  where
    from : (ms : List ℕ) (s : ℕ) → s + length ms ≡ i → ((k n : ℕ) → slice_get ms k ≡ Some n → index_in n ≡ s + k) →
        (k n : ℕ) → slice_get (ms ++ (plane * 4294967296 + i) ∷ []) k ≡ Some n → index_in n ≡ s + k
    from [] s many h zero n q =
        ap index_in (sym (same_Some (plane * 4294967296 + i) n q)) ∙ index_of_number plane i small ∙ omega (arith, many)
    from [] s many h (suc k) n q = absurd (none-some n q)
    from (m ∷ ms) s many h zero n q = h zero n q
    from (m ∷ ms) s many h (suc k) n q =
        from ms (s + 1) (omega (arith, many)) (λ k n q. h (suc k) n q ∙ omega arith) k n q ∙ omega arith
