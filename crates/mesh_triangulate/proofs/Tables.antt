-- The table of the boundary's lines
use Rattle.std.proofs.Common.{◌≡◌, ◌⊎◌, inl, inr, ℕ, ◌+◌, ◌<◌, cond, Option, Some, List, [], ◌∷◌, ◌++◌, length, get_or, take, sym, ap, subst, ◌∙◌, eqb}
use Rattle.std.specs.List.{Contains}
use Rattle.std.specs.Option.{IsSome, is_some}
use Rattle.std.proofs.lemmas.Bool.{cases_eq}
use Rattle.std.proofs.lemmas.List.{take_more}
use Rattle.std.proofs.lemmas.List.Elements.{Contains-append_left, Contains-push, Contains-push_cases}
use Rattle.mesh_certificate.specs.declared.certificate.segment.Segment.{Segment}
use Rattle.mesh_triangulate.specs.Diagonals.{edge_key}
use Rattle.mesh_triangulate.specs.Lines.{AreLinesOf}
use Rattle.mesh_triangulate.proofs.NextLines.{put_at_key, put_elsewhere}

abbrev key_of : Segment → ℕ
key_of s = edge_key s.start s.end

module _ (ss : List Segment) (s : Segment) (before after : ℕ → Option ℕ) (put : (q : ℕ) → after q ≡ cond (eqb (key_of s) q) (Some s.line) (before q)) where
  -- the table after one more segment
  one_more_has_line : AreLinesOf ss before → AreLinesOf (ss ++ s ∷ []) after
  one_more_has_line h =
      record { sound = λ q l e. found q l e (cases_eq (key_of s) q); complete = λ t c. has t (Contains-push_cases ss s t c) (cases_eq (key_of s) (key_of t)) }
    where
      found : (q l : ℕ) → after q ≡ Some l → (key_of s ≡ q) ⊎ (key_of s ≡ q → ⊥) → (t : Segment) × Contains (ss ++ s ∷ []) t × (key_of t ≡ q) × (t.line ≡ l)
      found q l e (inl k) =
          let p = put_at_key before after (key_of s) s.line put q k in
          let same : s.line ≡ l = cc in (s, Contains-push ss s, k, same)
      found q l e (inr ne) =
          let w = h.sound q l (sym (put_elsewhere before after (key_of s) s.line put q ne) ∙ e) in
          (w.0, Contains-append_left ss (s ∷ []) w.0 w.1, w.2, w.3)

      has : (t : Segment) → Contains ss t ⊎ (s ≡ t) → (key_of s ≡ key_of t) ⊎ (key_of s ≡ key_of t → ⊥) → IsSome (after (key_of t))
      has t c (inl k) = ap is_some (put_at_key before after (key_of s) s.line put (key_of t) k)
      has t (inl c) (inr ne) =
          ap is_some (put_elsewhere before after (key_of s) s.line put (key_of t) ne) ∙ h.complete t c
      has t (inr e) (inr ne) = absurd (ne (ap key_of e))

-- the same of the first segments of a list, by the segment's key
pub next_has_line : (ss : List Segment) (i : ℕ) (s : Segment) (key : ℕ) (before after : ℕ → Option ℕ) → i < length ss →
    s ≡ get_or ss i s → key ≡ key_of s → ((q : ℕ) → after q ≡ cond (eqb key q) (Some s.line) (before q)) →
    AreLinesOf (take i ss) before → AreLinesOf (take (i + 1) ss) after
next_has_line ss i s key before after l e k put h =
    subst (λ (ts : List Segment). AreLinesOf ts after)
    (sym (take_more ss i s l ∙ ap (λ (t : Segment). take i ss ++ t ∷ []) (sym e)))
    (one_more_has_line (take i ss) s before after
    (λ q. put q ∙ ap (λ (n : ℕ). cond (eqb n q) (Some s.line) (before q)) k) h)
