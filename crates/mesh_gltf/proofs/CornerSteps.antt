-- The corners of a primitive, one after another
use Rattle.std.proofs.Common.{◌≡◌, ℕ, suc, ◌<◌, ◌≤◌, ◌+◌, ◌-◌, ◌*◌, List, [], ◌∷◌, ◌++◌, sym, ap, ◌∙◌, arith, append_assoc}
use Rattle.std.proofs.Common.{Option, None, Some}
use Rattle.std.proofs.lemmas.List.{append-nil}
use Rattle.std.proofs.lemmas.Bool.Decides.{nat_tests}
use Rattle.mesh_gltf.specs.declared.corners.IndexSize.{IndexSize}
use Rattle.mesh_gltf.specs.declared.windows.Window.{Window}
use Rattle.mesh_gltf.specs.Bytes.{index_at}
use Rattle.mesh_gltf.specs.Heads.{with_head}
use Rattle.mesh_gltf.specs.Corners.{corner_of, corners_from, corners_in_row}
use Rattle.mesh_gltf.proofs.Parts.{behind, element_added, all_read}

corner_there : (base points index : ℕ) → index < points → corner_of base points index ≡ Some (base + index)
corner_there base points index some = grind (arith, nat_tests)

corner_missing : (base points index : ℕ) → points ≤ index → corner_of base points index ≡ None
corner_missing base points index past = grind (arith, nat_tests)

-- one corner more
pub corners_more : (all : Option (List ℕ)) (base points count index i : ℕ) (size : IndexSize) (w : Window) (bytes now new : List ℕ) →
    all ≡ behind now (corners_from base points size w bytes index (count - index)) → index < count →
    i ≡ index_at size bytes (w.start + w.stride * index) → i < points → new ≡ now ++ (base + i) ∷ [] →
    all ≡ behind new (corners_from base points size w bytes (index + 1) (count - (index + 1)))
corners_more all base points count index i size w bytes now new before few is some add =
    let left : count - index ≡ suc (count - (index + 1)) = omega arith in
    before
    ∙ ap (λ (n : ℕ). behind now (corners_from base points size w bytes index n)) left
    ∙ ap (λ (o : Option ℕ). behind now (with_head o (corners_from base points size w bytes (index + 1) (count - (index + 1)))))
    (ap (λ (n : ℕ). corner_of base points n) (sym is) ∙ corner_there base points i some)
    ∙ element_added now new (base + i) (corners_from base points size w bytes (index + 1) (count - (index + 1))) add

-- an index that is no point
pub corners_refused : (all : Option (List ℕ)) (base points count index i : ℕ) (size : IndexSize) (w : Window) (bytes now : List ℕ) →
    all ≡ behind now (corners_from base points size w bytes index (count - index)) → index < count →
    i ≡ index_at size bytes (w.start + w.stride * index) → points ≤ i → all ≡ None
corners_refused all base points count index i size w bytes now before few is past =
    let left : count - index ≡ suc (count - (index + 1)) = omega arith in
    before
    ∙ ap (λ (n : ℕ). behind now (corners_from base points size w bytes index n)) left
    ∙ ap (λ (o : Option ℕ). behind now (with_head o (corners_from base points size w bytes (index + 1) (count - (index + 1)))))
    (ap (λ (n : ℕ). corner_of base points n) (sym is) ∙ corner_missing base points i past)

-- all corners are read
pub corners_read : (all : Option (List ℕ)) (base points count index : ℕ) (size : IndexSize) (w : Window) (bytes now : List ℕ) →
    all ≡ behind now (corners_from base points size w bytes index (count - index)) → count ≤ index → all ≡ Some now
corners_read all base points count index size w bytes now before full =
    let left : count - index ≡ 0 = omega arith in
    all_read all now (before ∙ ap (λ (n : ℕ). behind now (corners_from base points size w bytes index n)) left)

-- one point of a row more
pub row_more : (all now new : List ℕ) (first points index : ℕ) →
    all ≡ now ++ corners_in_row (first + index) (points - index) → index < points → new ≡ now ++ (first + index) ∷ [] →
    all ≡ new ++ corners_in_row (first + (index + 1)) (points - (index + 1))
row_more all now new first points index before few add =
    let left : points - index ≡ suc (points - (index + 1)) = omega arith in
    let next : first + index + 1 ≡ first + (index + 1) = omega arith in
    before
    ∙ ap (λ (n : ℕ). now ++ corners_in_row (first + index) n) left
    ∙ sym (append_assoc now ((first + index) ∷ []) (corners_in_row (first + index + 1) (points - (index + 1))))
    ∙ ap (λ xs. xs ++ corners_in_row (first + index + 1) (points - (index + 1))) (sym add)
    ∙ ap (λ (n : ℕ). new ++ corners_in_row n (points - (index + 1))) next

-- the whole row
pub row_read : (all now : List ℕ) (first points index : ℕ) →
    all ≡ now ++ corners_in_row (first + index) (points - index) → points ≤ index → all ≡ now
row_read all now first points index before full =
    let left : points - index ≡ 0 = omega arith in
    before ∙ ap (λ (n : ℕ). now ++ corners_in_row (first + index) n) left ∙ append-nil now
