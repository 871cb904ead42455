use Rattle.std.proofs.Common.{◌≡◌, ◌≤◌, ◌+◌, ◌-◌, [], length, drop}
use Rattle.mesh_read.specs.Scan.Parts.{is_blank, words_by, words_between}
use Rattle.mesh_read.proofs.scan.words.skip_blanks.Given as goal

abbrev pub invariant-loop-start : goal.invariant-loop-start
invariant-loop-start l = (l.start ≤ length l.part.bytes.now) × (words_by (is_blank l.blanks) (l.part.start + l.start) (drop l.start l.part.bytes.now) [] ≡ words_between l.blanks l.part)

abbrev pub decreases-loop-start : goal.decreases-loop-start
decreases-loop-start l = length l.part.bytes.now - l.start
