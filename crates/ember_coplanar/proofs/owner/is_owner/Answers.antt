use Rattle.std.proofs.Common.{◌≡◌, ◌∙◌, refl, sym, ap, true}
use Rattle.ember_model.specs.declared.tri.Tri.{Tri}
use Rattle.ember_model.specs.Faces.{face_of, Contains}
use Rattle.ember_model.specs.Owners.{is_coplanar}
use Rattle.ember_model.proofs.SignTests.{clash}
use Rattle.ember_coplanar.proofs.Coplanar.{lies_on_both}
use Rattle.ember_coplanar.proofs.Containing.{some_inj}
use Rattle.ember_coplanar.proofs.Owning.{own_lies, own_is, index_in_take_is_less, before_is, next_place}
use Rattle.ember_coplanar.proofs.owner.is_owner.Goals.{else-same_plane-via-then-same_plane+else-contains, else-same_plane-via-else-same_plane}
use Rattle.ember_coplanar.proofs.owner.is_owner.Goals as goal

pub contains-requires-clause-plane : goal.contains-requires-clause-plane
contains-requires-clause-plane g c =
    lies_on_both _ _ c.args.r.now (sym c.same_plane.ensures ∙ c.if-same_plane.true)
    (own_lies c.args.near.now c.args.i _ c.args.r.now c.requires.index c.requires.plane)

pub returns-then-contains : goal.returns-then-contains
returns-then-contains g c =
    let ts = c.args.near.now in let l = c.loop-t-test.true in (
      λ e. absurd (clash e refl),
      λ o. absurd (o.first c.loop-t.t-index _ _
          (index_in_take_is_less ts c.args.i c.loop-t.t-index l) (before_is ts c.args.i c.loop-t.t-index _ l)
          (own_is ts c.args.i _ c.requires.index) (sym c.same_plane.ensures ∙ c.if-same_plane.true)
          (c.contains.ensures.0 c.if-contains.true)),
    )

pub loop-t-preserved : goal.loop-t-preserved
loop-t-preserved g c j t u l p q e h =
    let own = some_inj (sym q ∙ own_is c.args.near.now c.args.i _ c.requires.index) in
    next_place (λ (s : Tri). is_coplanar s u ≡ true → Contains (face_of s) c.args.r.now →
    ⊥) c.args.near.now c.args.i c.loop-t.t-index _ c.loop-t-test.true (λ k s m n. c.loop-t.invariant k s u m n q)
    (λ f g. elim c.else-same_plane.branch [
      | else-same_plane-via-then-same_plane+else-contains w ↦ clash (w.contains.ensures.1 g) w.if-contains.false
      | else-same_plane-via-else-same_plane w ↦ clash (c.same_plane.ensures ∙ ap (is_coplanar _) (sym own) ∙ f) w.if-same_plane.false
    ]) j t l p e h
