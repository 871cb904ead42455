use Rattle.mesh_solid.proofs.Numbers.{kept_or_put}
use Rattle.mesh_solid.proofs.tables.numbering.number_of.Goals as goal

pub returns-clause-entries : goal.returns-clause-entries
returns-clause-entries g c = kept_or_put _ c.args.entry c.args.table.now.keys _ c.in_ok-index.ensures.keys

pub returns-clause-number : goal.returns-clause-number
returns-clause-number g c =
    let s = c.in_ok-index.ensures.stored in record { entry = s.0; here = s.1; holds = s.2 }
