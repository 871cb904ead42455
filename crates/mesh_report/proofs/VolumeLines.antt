-- The lines of the files' volumes, from the first on
use Rattle.std.proofs.Common.{◌≡◌, ℕ, suc, ◌+◌, ◌<◌, List, ◌∷◌, ◌++◌, length, drop, get_or, drop-cons, ℤ, sym, ap, ◌∙◌, arith, append_assoc}
use Rattle.mesh_grid.specs.declared.snap.steps.GridStep.{GridStep}
use Rattle.mesh_report.specs.Volumes.{volume_line, volume_lines}

module _ (step : GridStep) (names : List (List ℕ)) (volumes : List ℤ) where
  -- the line of a file comes before those of the files after it
  first_line : (number i f : ℕ) (name : List ℕ) (sixfold_volume : ℤ) → i < length names → name ≡ get_or names i name →
      f < length volumes → sixfold_volume ≡ get_or volumes f sixfold_volume →
      volume_lines number (drop i names) step (drop f volumes) ≡ volume_line number name step sixfold_volume
      ++ volume_lines (number + 1) (drop (i + 1) names) step (drop (f + 1) volumes)
  first_line number i f name sixfold_volume inside is there found =
      let next_name : suc i ≡ i + 1 = omega arith in
      let next_volume : suc f ≡ f + 1 = omega arith in
      let left : drop i names ≡ name ∷ drop (i + 1) names =
      drop-cons names i name inside ∙ ap (λ (n : List ℕ). n ∷ drop (suc i) names) (sym is) ∙ ap (λ (k : ℕ). name ∷ drop k names) next_name in
      let right : drop f volumes ≡ sixfold_volume ∷ drop (f + 1) volumes =
      drop-cons volumes f sixfold_volume there ∙ ap (λ (k : ℤ). k ∷ drop (suc f) volumes) (sym found) ∙ ap (λ (k : ℕ). sixfold_volume ∷ drop k volumes) next_volume in
      ap (λ (ns : List (List ℕ)). volume_lines number ns step (drop f volumes)) left
      ∙ ap (λ (vs : List ℤ). volume_lines number (name ∷ drop (i + 1) names) step vs) right

  -- so all lines are still those that are written and those to come
  pub one_volume_more : (number i f : ℕ) (name : List ℕ) (sixfold_volume : ℤ) (all old new : List ℕ) → i < length names →
      name ≡ get_or names i name → f < length volumes → sixfold_volume ≡ get_or volumes f sixfold_volume →
      all ≡ old ++ volume_lines number (drop i names) step (drop f volumes) →
      new ≡ old ++ volume_line number name step sixfold_volume →
      all ≡ new ++ volume_lines (number + 1) (drop (i + 1) names) step (drop (f + 1) volumes)
  one_volume_more number i f name sixfold_volume all old new inside is there found before put =
      let rest = volume_lines (number + 1) (drop (i + 1) names) step (drop (f + 1) volumes) in
      before
      ∙ ap (λ (xs : List ℕ). old ++ xs) (first_line number i f name sixfold_volume inside is there found)
      ∙ sym (append_assoc old (volume_line number name step sixfold_volume) rest)
      ∙ ap (λ (xs : List ℕ). xs ++ rest) (sym put)
