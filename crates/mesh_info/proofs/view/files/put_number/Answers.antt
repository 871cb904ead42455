use Rattle.mesh_info.proofs.FileNumbers.{one_number_more}
use Rattle.mesh_info.proofs.view.files.put_number.Goals as goal

pub loop-facet-preserved : goal.loop-facet-preserved
loop-facet-preserved c =
    one_number_more c.args.number c.loop-facet._facet-index c.args.facets.now c.args.files.now.items c.loop-facet.files.items
    c.push.new.self.items c.loop-facet-test.true c.loop-facet.invariant c.in_ok-push.ensures.items
