use Rattle.std.proofs.Common.{◌≡◌, refl, sym, subst}
use Rattle.mesh_grid.specs.Moves.Moves.{fineness_of, IsFineness}
use Rattle.mesh_grid.proofs.FinenessFits.{fineness_fits}
use Rattle.mesh_grid.proofs.moves.fineness.fineness_of.Goals as goal

value : (c : goal.After-max) → c.max.result ≡ fineness_of c.args.step.now
value c = rw (c.max.ensures, c.min.ensures) refl

pub returns-clause-value : goal.returns-clause-value
returns-clause-value c = value c

pub returns-clause-fineness : goal.returns-clause-fineness
returns-clause-fineness c = subst (IsFineness c.args.step.now) (sym (value c)) (fineness_fits c.args.step.now c.requires)
