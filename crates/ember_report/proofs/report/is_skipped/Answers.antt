use Rattle.std.proofs.Common.{rules}
use Rattle.ember_report.proofs.report.is_skipped.Goals as goal

pub returns-in-Passed : goal.returns-in-Passed
returns-in-Passed c = search rules

pub returns-in_default : goal.returns-in_default
returns-in_default c = search rules
