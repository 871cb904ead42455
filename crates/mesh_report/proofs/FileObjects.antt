-- The objects and the warnings of files, from the first on
use Rattle.std.proofs.Common.{◌≡◌, ℕ, suc, ◌+◌, ◌<◌, List, [], ◌∷◌, ◌++◌, length, drop, get_or, drop-cons, drop-drop, ℤ, sym, ap, ◌∙◌, arith, append_assoc}
use Rattle.mesh_grid.specs.declared.moves.length.Length.{Length}
use Rattle.mesh_grid.specs.declared.snap.steps.GridStep.{GridStep}
use Rattle.mesh_scene.specs.declared.scene.counts.Counts.{Counts}
use Rattle.mesh_report.specs.ReportObjects.{file_object, file_objects, first_volume, turned_warning, turned_warnings}
use Rattle.mesh_report.specs.Reports.{first_move}

-- an element comes before those after it
pub first_element : {A : Type 0} (xs : List A) (i : ℕ) (x : A) → i < length xs → x ≡ get_or xs i x → drop i xs ≡ x ∷ drop (i + 1) xs
first_element {A = A} xs i x inside is =
    let next : suc i ≡ i + 1 = omega arith in
    drop-cons xs i x inside ∙ ap (λ (y : A). y ∷ drop (suc i) xs) (sym is) ∙ ap (λ (k : ℕ). x ∷ drop k xs) next

module _ (step : GridStep) (names : List (List ℕ)) where
  module _ (counts : List Counts) (moves : List Length) (volumes : List ℤ) where
    -- the object of a file comes before those of the files after it
    first_object : (i f : ℕ) (name : List ℕ) (c : Counts) → i < length names → name ≡ get_or names i name →
        f < length counts → c ≡ get_or counts f c →
        file_objects (drop i names) step (drop f counts) (drop f moves) (drop f volumes) ≡
        file_object name c (first_move (drop f moves)) (first_volume step (drop f volumes))
        ∷ file_objects (drop (i + 1) names) step (drop (f + 1) counts) (drop (f + 1) moves) (drop (f + 1) volumes)
    first_object i f name c inside is there found =
        let object = file_object name c (first_move (drop f moves)) (first_volume step (drop f volumes)) in
        let left = first_element names i name inside is in
        let right = first_element counts f c there found in
        let later_moves : drop 1 (drop f moves) ≡ drop (f + 1) moves = drop-drop 1 f moves in
        let later_volumes : drop 1 (drop f volumes) ≡ drop (f + 1) volumes = drop-drop 1 f volumes in
        ap (λ (ns : List (List ℕ)). file_objects ns step (drop f counts) (drop f moves) (drop f volumes)) left
        ∙ ap (λ (cs : List Counts). file_objects (name ∷ drop (i + 1) names) step cs (drop f moves) (drop f volumes)) right
        ∙ ap (λ (ms : List Length). object ∷ file_objects (drop (i + 1) names) step (drop (f + 1) counts) ms (drop 1 (drop f volumes))) later_moves
        ∙ ap (λ (vs : List ℤ). object ∷ file_objects (drop (i + 1) names) step (drop (f + 1) counts) (drop (f + 1) moves) vs) later_volumes

    -- so all objects are still those that are made and those to come
    pub one_object_more : (i f : ℕ) (name : List ℕ) (c : Counts) (object : List ℕ) (all old : List (List ℕ)) →
        i < length names → name ≡ get_or names i name → f < length counts → c ≡ get_or counts f c →
        all ≡ old ++ file_objects (drop i names) step (drop f counts) (drop f moves) (drop f volumes) →
        object ≡ file_object name c (first_move (drop f moves)) (first_volume step (drop f volumes)) →
        all ≡ (old ++ object ∷ [])
        ++ file_objects (drop (i + 1) names) step (drop (f + 1) counts) (drop (f + 1) moves) (drop (f + 1) volumes)
    one_object_more i f name c object all old inside is there found before made =
        let rest = file_objects (drop (i + 1) names) step (drop (f + 1) counts) (drop (f + 1) moves) (drop (f + 1) volumes) in
        let first = file_object name c (first_move (drop f moves)) (first_volume step (drop f volumes)) in
        before
        ∙ ap (λ (xs : List (List ℕ)). old ++ xs) (first_object i f name c inside is there found)
        ∙ sym (append_assoc old (first ∷ []) rest)
        ∙ ap (λ (o : List ℕ). (old ++ o ∷ []) ++ rest) (sym made)

  -- the warning of a file comes before those of the files after it
  first_warning : (volumes : List ℤ) (number i f : ℕ) (name : List ℕ) (sixfold_volume : ℤ) → i < length names →
      name ≡ get_or names i name → f < length volumes → sixfold_volume ≡ get_or volumes f sixfold_volume →
      turned_warnings number (drop i names) step (drop f volumes) ≡ turned_warning number name step sixfold_volume
      ++ turned_warnings (number + 1) (drop (i + 1) names) step (drop (f + 1) volumes)
  first_warning volumes number i f name sixfold_volume inside is there found =
      ap (λ (ns : List (List ℕ)). turned_warnings number ns step (drop f volumes)) (first_element names i name inside is)
      ∙ ap (λ (vs : List ℤ). turned_warnings number (name ∷ drop (i + 1) names) step vs) (first_element volumes f sixfold_volume there found)

  -- so all warnings are still those that are made and those to come
  pub one_warning_more : (volumes : List ℤ) (number i f : ℕ) (name : List ℕ) (sixfold_volume : ℤ) (all old new : List (List ℕ)) →
      i < length names → name ≡ get_or names i name → f < length volumes → sixfold_volume ≡ get_or volumes f sixfold_volume →
      all ≡ old ++ turned_warnings number (drop i names) step (drop f volumes) →
      new ≡ old ++ turned_warning number name step sixfold_volume →
      all ≡ new ++ turned_warnings (number + 1) (drop (i + 1) names) step (drop (f + 1) volumes)
  one_warning_more volumes number i f name sixfold_volume all old new inside is there found before put =
      let rest = turned_warnings (number + 1) (drop (i + 1) names) step (drop (f + 1) volumes) in
      before
      ∙ ap (λ (xs : List (List ℕ)). old ++ xs) (first_warning volumes number i f name sixfold_volume inside is there found)
      ∙ sym (append_assoc old (turned_warning number name step sixfold_volume) rest)
      ∙ ap (λ (xs : List (List ℕ)). xs ++ rest) (sym put)
