use Rattle.std.proofs.Common.{◌∙◌, ap, ◌++◌, ◌∷◌, [], arith, rules}
use Rattle.steal_core.specs.Core.{core, placed}
use Rattle.steal_core.specs.declared.place.Place.TheVariants.{Hand}
use Rattle.steal_core.proofs.state.State.new.Goals as goal

pub returns-in_err-placed : goal.returns-in_err-placed
returns-in_err-placed c = search rules

pub push_reserved-requires : goal.push_reserved-requires
push_reserved-requires c = let e = c.in_ok-placed.ensures in omega (arith, e.len, e.capacity, c.requires)

pub invariant_of-result : goal.invariant_of-result
invariant_of-result c = let e = c.in_ok-placed.ensures in omega (arith, e.capacity, c.push_reserved.ensures.capacity)

pub returns : goal.returns
returns c =
    let e = c.in_ok-placed.ensures in
    ap (λ xs. core c.args.workers c.args.boxes xs) (c.push_reserved.ensures.items ∙ ap (λ xs. xs ++ placed (Hand 0) 1 ∷ []) e.items)
