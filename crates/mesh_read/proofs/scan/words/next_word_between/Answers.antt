use Rattle.std.proofs.Common.{◌∙◌, sym, arith}
use Rattle.mesh_read.specs.Scan.Parts.{is_blank}
use Rattle.mesh_read.proofs.Cuts.{word_cut}
use Rattle.mesh_read.proofs.scan.words.next_word_between.Goals as goal

pub returns-clause-words : goal.returns-clause-words
returns-clause-words c =
    sym c.skip_blanks-start.ensures.words
    ∙ word_cut (is_blank c.args.blanks) c.skip_blanks-start.result.start c.cut_word.result.0.start c.cut_word.result.1.start
    c.skip_blanks-start.result.bytes.now c.cut_word.result.0.bytes.now c.cut_word.result.1.bytes.now (grind arith)
    (c.skip_blanks-start.ensures.first (grind arith)) c.cut_word.ensures.before c.cut_word.ensures.onward
    c.cut_word.ensures.start (omega (arith, c.cut_word.ensures.next, c.cut_word.ensures.start))
