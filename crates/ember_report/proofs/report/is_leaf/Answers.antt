use Rattle.std.proofs.Common.{rules}
use Rattle.ember_report.proofs.report.is_leaf.Goals as goal

pub returns-in-Leafed : goal.returns-in-Leafed
returns-in-Leafed c = search rules

pub returns-in_default : goal.returns-in_default
returns-in_default c = search rules
