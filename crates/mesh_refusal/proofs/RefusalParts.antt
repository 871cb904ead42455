-- The object of a refusal, from its parts
use Rattle.std.proofs.Common.{◌≡◌, List, ℕ, [], ◌∷◌, codes, decimal, Some, None, ap, ◌∙◌, option_map, refl}
use Rattle.std.specs.declared.option.Option.{Option}
use Rattle.std.specs.Option.{option_or}
use Rattle.mesh_info.specs.Info.Lines.{quoted}
use Rattle.mesh_texts.specs.Objects.{Entry, object_line, optional}
use Rattle.mesh_texts.proofs.Entries.{entry}
use Rattle.mesh_refusal.specs.Refusals.{parts_of, reason_and_remedy, refusal_object, remedies}

-- what the first text that is there becomes
pub option_map-or : {A : Type 0} (f : A → List ℕ) (a b : Option A) → option_map f (option_or a b) ≡ option_or (option_map f a) (option_map f b)
option_map-or f None b = refl
option_map-or f (Some x) b = refl

module _ (number : ℕ) (file known : Option (List ℕ)) (why : List ℕ) where
  pub refusal_of_entries : (place remedy chosen : Option (List ℕ)) (rest reason : List ℕ) (s f p r m : Entry) →
      (place, rest) ≡ parts_of file why → (reason, remedy) ≡ reason_and_remedy remedies rest →
      chosen ≡ option_or known place → s ≡ entry (codes "status") (decimal number) →
      f ≡ entry (codes "file") (optional file) → p ≡ entry (codes "place") (optional chosen) →
      r ≡ entry (codes "reason") (quoted reason) → m ≡ entry (codes "remedy") (optional remedy) →
      object_line (s ∷ f ∷ p ∷ r ∷ m ∷ []) ≡ refusal_object number file known why
  unfolding refusal_object
  refusal_of_entries place remedy chosen rest reason s f p r m parts said is es ef ep er em =
      let place_is = ap (λ (x : Option (List ℕ) × List ℕ). x.0) parts in
      let rest_is = ap (λ (x : Option (List ℕ) × List ℕ). x.1) parts in
      let said_is = said ∙ ap (reason_and_remedy remedies) rest_is in
      let place_entry = ep ∙ ap (λ (o : Option (List ℕ)). entry (codes "place") (optional o)) (is ∙ ap (option_or known) place_is) in
      let reason_entry = er ∙ ap (λ (x : List ℕ × Option (List ℕ)). entry (codes "reason") (quoted x.0)) said_is in
      let remedy_entry = em ∙ ap (λ (x : List ℕ × Option (List ℕ)). entry (codes "remedy") (optional x.1)) said_is in
      λ k. object_line (es k ∷ ef k ∷ place_entry k ∷ reason_entry k ∷ remedy_entry k ∷ [])
