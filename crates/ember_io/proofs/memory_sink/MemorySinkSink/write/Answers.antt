use Rattle.std.proofs.Common.{rules}
use Rattle.ember_io.proofs.memory_sink.MemorySinkSink.write.Goals as goal

pub returns-clause-count : goal.returns-clause-count
returns-clause-count c = search rules
