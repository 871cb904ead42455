use Rattle.std.proofs.Common.{refl, sym, ap, ◌∙◌, subst, ◌+◌, Option, false}
use Rattle.mesh_sources.specs.declared.items.Item.{Item}
use Rattle.mesh_sources.specs.declared.source.Source.{Source}
use Rattle.mesh_sources.specs.Nodes.{IsFirstFrom, IsFoundFrom}
use Rattle.mesh_sources.specs.Places.{is_turned, IsPlace}
use Rattle.mesh_sources.proofs.Placed.{clash}
use Rattle.mesh_sources.proofs.Found.{found_without, found_first, found_again}
use Rattle.mesh_sources.proofs.search.found_with.Goals as goal

pub returns-then-not-is_place : goal.returns-then-not-is_place
returns-then-not-is_place c ns i n here same h =
    let f = c.args.facet.now in
    found_without ns i n f here c.args.found
    (λ p. clash c.if-not-is_place.true (c.is_place.ensures.1 (subst (λ (it : Item). IsPlace f it.tri) same p))) h

pub returns-in-None : goal.returns-in-None
returns-in-None c ns i n here same h =
    let f = c.args.facet.now in
    let place = subst (λ (it : Item). IsPlace f it.tri) (sym same) (c.is_place.ensures.0 c.if-not-is_place.false) in
    found_first ns i n f here (record { triangle = c.args.item.now.number; turned = c.is_turned.result; several = false }) place
    (ap (λ (it : Item). it.number) same) (c.is_turned.ensures ∙ ap (λ (it : Item). is_turned f.plane it.tri) (sym same)) refl
    (subst (λ (o : Option Source). IsFoundFrom ns (i + 1) f o) c.in-None.is h)

pub returns-in-Some : goal.returns-in-Some
returns-in-Some c ns i n here same h =
    let f = c.args.facet.now in
    let place = subst (λ (it : Item). IsPlace f it.tri) (sym same) (c.is_place.ensures.0 c.if-not-is_place.false) in
    let next : Source = record { triangle = c.args.item.now.number; turned = c.is_turned.result; several = false } in
    subst (IsFirstFrom ns i f) (sym c.first_of.ensures) (found_again ns i n f here next place
    (ap (λ (it : Item). it.number) same) (c.is_turned.ensures ∙ ap (λ (it : Item). is_turned f.plane it.tri) (sym same)) refl
    c.in-Some.source (subst (λ (o : Option Source). IsFoundFrom ns (i + 1) f o) c.in-Some.is h))
