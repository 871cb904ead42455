use Rattle.std.proofs.Common.{◌≡◌, ◌<◌, refl, sym, ap, ◌∙◌, arith}
use Rattle.mesh_grid.specs.Moves.Shown.{places_up_to}
use Rattle.mesh_grid.proofs.Lengths.{places_found, places_fewer, no_places}
use Rattle.mesh_grid.proofs.moves.shown.places_of.Goals as goal

pub loop-places-init : goal.loop-places-init
loop-places-init c = record { few = omega arith; same = refl }

pub returns-then-is_short-clause-value : goal.returns-then-is_short-clause-value
returns-then-is_short-clause-value c =
    let places = c.loop-places.places in
    let some : 0 < places = omega (arith, c.loop-places-test.true) in
    sym (places_found c.args.root c.args.under places some (sym c.is_short.ensures ∙ c.if-is_short.true)) ∙ c.loop-places.invariant.same

pub loop-places-preserved : goal.loop-places-preserved
loop-places-preserved c =
    let places = c.loop-places.places in
    let some : 0 < places = omega (arith, c.loop-places-test.true) in
    record {
      few = omega (arith, c.loop-places.invariant.few);
      same = sym (places_fewer c.args.root c.args.under places some (sym c.is_short.ensures ∙ c.if-is_short.false)) ∙ c.loop-places.invariant.same;
    }

pub returns-clause-value : goal.returns-clause-value
returns-clause-value c =
    let zero : c.loop-places.places ≡ 0 = omega (arith, c.loop-places-test.false) in
    sym (no_places c.args.root c.args.under) ∙ ap (places_up_to c.args.root c.args.under) (sym zero) ∙ c.loop-places.invariant.same
