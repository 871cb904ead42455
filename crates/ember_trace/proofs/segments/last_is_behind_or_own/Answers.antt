use Rattle.std.proofs.Common.{sym}
use Rattle.ember_trace.proofs.segments.last_is_behind_or_own.Goals as goal

pub returns-then-is_own : goal.returns-then-is_own
returns-then-is_own g c = sym (c.is_own.ensures c.if-is_own.true)
