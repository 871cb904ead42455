use Rattle.std.proofs.Common.{ap, ◌∙◌, List, Option}
use Rattle.std.specs.Prelude.{count_by, is_some}
use Rattle.mesh_sources.specs.declared.source.Source.{Source}
use Rattle.mesh_sources.proofs.sources.source_count.Goals as goal

pub returns : goal.returns
returns c =
    record {
      sources = c.in_ok-sources.sources.items;
      each = c.in_ok-sources.ensures;
      count_is = c.count_of.ensures ∙ ap (λ (ss : List (Option Source)). count_by is_some ss) c.deref.ensures.value;
    }
