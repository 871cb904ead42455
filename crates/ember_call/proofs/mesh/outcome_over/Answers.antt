use Rattle.std.proofs.Common.{inl}
use Rattle.ember_call.proofs.mesh.outcome_over.Goals as goal

pub returns : goal.returns
returns c = inl (record {
  no_fault = c.lack_memory-is_short.ensures c.if-is_short.false;
  taken = c.into_bytes-taken.result;
  taken_is = c.into_bytes-taken.ensures;
  said = c.into_bytes-said.result;
  said_is = c.into_bytes-said.ensures;
  written = c.into_files-written.result;
  written_is = c.into_files-written.ensures.files;
  own_names = c.into_files-written.ensures.own_names;
  outcome_is = c.outcome_with.ensures;
})
