-- The lines and the warnings of the triangles on files, from the first on
use Rattle.std.proofs.Common.{◌≡◌, ℕ, ◌+◌, ◌<◌, List, ◌∷◌, ◌++◌, length, drop, get_or, sym, ap, ◌∙◌, append_assoc}
use Rattle.mesh_texts.specs.Texts.{line}
use Rattle.mesh_report.specs.Lying.{missed_warning, missed_warnings, on_file_lines, on_file_text}
use Rattle.mesh_report.proofs.FileObjects.{first_element}

module _ (names : List (List ℕ)) (counts : List ℕ) (all : ℕ) where
  -- the line of a file comes before those of the files after it
  first_line : (i f : ℕ) (name : List ℕ) (count : ℕ) → i < length names → name ≡ get_or names i name →
      f < length counts → count ≡ get_or counts f count →
      on_file_lines (drop i names) (drop f counts) all ≡ line (on_file_text name count all)
      ++ on_file_lines (drop (i + 1) names) (drop (f + 1) counts) all
  first_line i f name count inside is there found =
      ap (λ (ns : List (List ℕ)). on_file_lines ns (drop f counts) all) (first_element names i name inside is)
      ∙ ap (λ (cs : List ℕ). on_file_lines (name ∷ drop (i + 1) names) cs all) (first_element counts f count there found)

  -- so all lines are still those that are written and those to come
  pub one_line_more : (i f : ℕ) (name : List ℕ) (count : ℕ) (whole old new : List ℕ) → i < length names →
      name ≡ get_or names i name → f < length counts → count ≡ get_or counts f count →
      whole ≡ old ++ on_file_lines (drop i names) (drop f counts) all →
      new ≡ old ++ line (on_file_text name count all) →
      whole ≡ new ++ on_file_lines (drop (i + 1) names) (drop (f + 1) counts) all
  one_line_more i f name count whole old new inside is there found before put =
      let rest = on_file_lines (drop (i + 1) names) (drop (f + 1) counts) all in
      before
      ∙ ap (λ (xs : List ℕ). old ++ xs) (first_line i f name count inside is there found)
      ∙ sym (append_assoc old (line (on_file_text name count all)) rest)
      ∙ ap (λ (xs : List ℕ). xs ++ rest) (sym put)

  -- the warning of a file comes before those of the files after it
  first_warning : (i f : ℕ) (name : List ℕ) (count : ℕ) → i < length names → name ≡ get_or names i name →
      f < length counts → count ≡ get_or counts f count →
      missed_warnings (drop i names) (drop f counts) all ≡ missed_warning name count all
      ++ missed_warnings (drop (i + 1) names) (drop (f + 1) counts) all
  first_warning i f name count inside is there found =
      ap (λ (ns : List (List ℕ)). missed_warnings ns (drop f counts) all) (first_element names i name inside is)
      ∙ ap (λ (cs : List ℕ). missed_warnings (name ∷ drop (i + 1) names) cs all) (first_element counts f count there found)

  -- so all warnings are still those that are made and those to come
  pub one_warning_more : (i f : ℕ) (name : List ℕ) (count : ℕ) (whole old new : List (List ℕ)) → i < length names →
      name ≡ get_or names i name → f < length counts → count ≡ get_or counts f count →
      whole ≡ old ++ missed_warnings (drop i names) (drop f counts) all → new ≡ old ++ missed_warning name count all →
      whole ≡ new ++ missed_warnings (drop (i + 1) names) (drop (f + 1) counts) all
  one_warning_more i f name count whole old new inside is there found before put =
      let rest = missed_warnings (drop (i + 1) names) (drop (f + 1) counts) all in
      before
      ∙ ap (λ (xs : List (List ℕ)). old ++ xs) (first_warning i f name count inside is there found)
      ∙ sym (append_assoc old (missed_warning name count all) rest)
      ∙ ap (λ (xs : List (List ℕ)). xs ++ rest) (sym put)
