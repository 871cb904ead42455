use Rattle.std.proofs.Common.{◌≤◌, ◌∷◌, List, ℕ, map, refl, sym, ap, subst, ◌∙◌, arith}
use Rattle.std.specs.List.{list_any}
use Rattle.std.proofs.lemmas.List.Elements.{recursion_from_All}
use Rattle.ember_balance.proofs.SortedSurplus.{Rises, rises}
use Rattle.ember_reread.specs.Cornered.{face_of}
use Rattle.mesh_solid.specs.Refusal.Searches.{overlap}
use Rattle.mesh_solid.proofs.Searches.{none_behind}
use Rattle.mesh_solid.proofs.refusal.overlap.overlaps_one.Goals as goal

pub loop-other-init : goal.loop-other-init
loop-other-init c =
    record {
      found = refl;
      order = (
        recursion_from_All (λ n. c.args.number ≤ n) c.args.others.now c.requires.least,
        rises c.args.others.now c.requires.order,
      );
    }

pub returns-then-plane_in-plane : goal.returns-then-plane_in-plane
returns-then-plane_in-plane c =
    let ws = map face_of c.args.faces.now in
    let n = c.args.number in
    let k = c.in-Some.other.now in
    let ks = c.in-Some.behind.now in
    let is = c.in-Some.ensures.cases.0 in
    let order = subst (λ (ns : List ℕ). Rises (n ∷ ns)) is c.loop-other.invariant.order in
    sym (c.loop-other.invariant.found ∙ ap (list_any (overlap ws n)) is
    ∙ none_behind ws n k order.0.0 (λ q. c.if-plane_in-plane.true (c.plane_in.ensures ∙ q ∙ sym c.plane_in-plane.ensures))
    (k ∷ ks) (omega arith, order.1.0))
