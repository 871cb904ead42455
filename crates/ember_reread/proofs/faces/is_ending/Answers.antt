use Rattle.std.proofs.Common.{◌∙◌, ap, nat_eq}
use Rattle.std.specs.Cmp.Lexicographic.{pointwise}
use Rattle.ember_reread.proofs.Prefixes.{ending_test}
use Rattle.ember_reread.proofs.faces.is_ending.Goals as goal

pub returns : goal.returns
returns c =
    ending_test c.args.count c.args.bytes.now c.in-Some.rest.now c.in-Some-skip_bytes.rest.now c.as_bytes.result.now
    c.eq.result c.in-Some.ensures c.in-Some-skip_bytes.ensures (c.as_bytes.ensures.value ∙ c.format.ensures.text)
    (c.eq.ensures ∙ ap (λ l. pointwise nat_eq c.in-Some-skip_bytes.rest.now l) c.as_slice.ensures)
