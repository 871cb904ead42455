use Rattle.ember_reread.proofs.Prefixes.{prefix_found}
use Rattle.ember_reread.proofs.parts.skip_bytes.Goals as goal

pub returns : goal.returns
returns c = prefix_found c.args.bytes.now c.args.text.now c.strip_prefix.result c.strip_prefix.ensures.cases
