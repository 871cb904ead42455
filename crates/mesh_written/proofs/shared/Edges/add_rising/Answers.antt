use Rattle.std.proofs.Common.{sym, ◌∙◌}
use Rattle.mesh_written.specs.Shared.{is_lower, key_between, same_ends}
use Rattle.mesh_written.proofs.Noted.{on_ok_then}
use Rattle.mesh_written.proofs.SharedCounts.{noted_rising, noted_skipped}
use Rattle.mesh_written.proofs.shared.Edges.add_rising.Goals as goal

pub returns-then-is_lower : goal.returns-then-is_lower
returns-then-is_lower c =
    on_ok_then c.add.result c.add.ensures
    (λ more keys h. noted_rising is_lower key_between same_ends c.args.from.now c.args.to.now keys _ _
    c.key_between.result (sym c.is_lower.ensures ∙ c.if-is_lower.true) c.key_between.ensures (more keys h))

pub returns : goal.returns
returns c =
    λ keys h.
    noted_skipped is_lower key_between same_ends c.args.from.now c.args.to.now keys _ _ (sym c.is_lower.ensures ∙ c.if-is_lower.false) h
