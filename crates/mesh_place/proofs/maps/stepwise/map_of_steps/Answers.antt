use Rattle.std.proofs.Common.{rules, ◌≡◌, ◌<◌, ◌≤◌, ◌∙◌, ◌+◌, ℕ, true, Some, length, ap, sym, refl, subst, arith, drop, []}
use Rattle.std.proofs.lemmas.Option.{slice_get-get_or}
use Rattle.ember_algebra.specs.Relations.{Chain, done}
use Rattle.mesh_place.specs.AffineMaps.{Affine, affine_of, is_flattening, identity}
use Rattle.mesh_place.specs.Steps.{IsMapOfSteps, Leads, fault_from, is_short_step, places_of_step}
use Rattle.mesh_place.proofs.AffineLaws.{space_is_kept}
use Rattle.mesh_place.proofs.Stepwise.{placing_more, fault_more}
use Rattle.mesh_place.proofs.maps.stepwise.map_of_steps.Goals as goal

pub loop-number-init : goal.loop-number-init
loop-number-init c =
    let none = c.in_ok-all.ensures.map in
    record {
      map = subst (λ (a : Affine). Chain Leads [] identity a) (sym none) done;
      space = ap is_flattening none;
      fault = ap (λ (n : ℕ). fault_from 0 n c.args.steps.now) (sym c.in_ok-all.ensures.places);
    }

pub loop-number-preserved : goal.loop-number-preserved
loop-number-preserved c =
    let l = c.loop-number in let steps = c.args.steps.now in let s = c.index-steps-number.result in
    let within : l.number < length steps = omega arith in
    let short : is_short_step s ≡ true = search rules in
    let few : l.all.places + places_of_step s ≤ 4999 = omega (arith, c.places_of_step.ensures.value) in
    let same : l.all.places + places_of_step s ≡ c.in_ok-next.next.places = omega (arith, c.in_ok-next.ensures.places, c.in_ok-map.ensures.places) in
    record {
      map = placing_more steps l.number s (affine_of l.all) (affine_of c.in_ok-next.next) (affine_of c.in_ok-map.map) within
          c.index-steps-number.is l.invariant.map c.in_ok-map.ensures.map c.in_ok-next.ensures.map;
      space = ap is_flattening c.in_ok-next.ensures.map
          ∙ space_is_kept (affine_of c.in_ok-map.map) (affine_of l.all) (sym c.in_ok-flat.ensures ∙ c.if-flat.false) l.invariant.space;
      fault = l.invariant.fault ∙ fault_more steps l.number l.all.places s within c.index-steps-number.is short few
          ∙ ap (λ (n : ℕ). fault_from (l.number + 1) n (drop (l.number + 1) steps)) same;
    }

pub returns-then-flat-clause-fault : goal.returns-then-flat-clause-fault
returns-then-flat-clause-fault c =
    let s = c.index-steps-number.result in
    let within : c.loop-number.number < length c.args.steps.now = omega arith in
    record {
      step = s;
      is = slice_get-get_or c.args.steps.now c.loop-number.number s within ∙ ap Some (sym c.index-steps-number.is);
      flat = record {
        map = affine_of c.in_ok-map.map;
        is = c.in_ok-map.ensures.map;
        flat = sym c.in_ok-flat.ensures ∙ c.if-flat.true;
      };
    }
