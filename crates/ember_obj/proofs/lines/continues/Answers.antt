use Rattle.std.proofs.Common.{rules, ◌≡◌, ◌∙◌, sym, ap, not}
use Rattle.std.specs.List.{list_any}
use Rattle.ember_obj.specs.Lines.{is_hash, is_continued}
use Rattle.ember_obj.proofs.lines.continues.Goals as goal

pub returns-then-ends_with : goal.returns-then-ends_with
returns-then-ends_with c =
    let line = c.args.line.now in
    let last : is_continued line ≡ not (list_any is_hash line) = search rules in
    ap not c.has_comment.ensures ∙ sym last
