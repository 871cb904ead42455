use Rattle.std.proofs.Common.{nat_lt, refl}
use Rattle.std.proofs.lemmas.Bool.{lt-ltb, le-ltb}
use Rattle.mesh_written.specs.Shared.{index_edge, same_edge}
use Rattle.mesh_written.proofs.Noted.{on_ok_then}
use Rattle.mesh_written.proofs.SharedCounts.{noted_rising, noted_skipped}
use Rattle.mesh_written.proofs.shared_by_index.IndexEdges.add_rising.Goals as goal

pub returns-then-from-to : goal.returns-then-from-to
returns-then-from-to c =
    on_ok_then c.add.result c.add.ensures
    (λ more edges h. noted_rising nat_lt index_edge same_edge c.args.from c.args.to edges _ _
    (index_edge c.args.from c.args.to) (lt-ltb c.args.from c.args.to c.if-from-to.true) refl (more edges h))

pub returns : goal.returns
returns c =
    λ edges h.
    noted_skipped nat_lt index_edge same_edge c.args.from c.args.to edges _ _ (le-ltb c.args.from c.args.to c.if-from-to.false) h
