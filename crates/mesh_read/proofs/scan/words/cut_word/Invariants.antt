use Rattle.std.proofs.Common.{◌≡◌, ◌≤◌, ◌++◌, ◌-◌, length, take, drop}
use Rattle.ember_obj.specs.Scan.{before, onward}
use Rattle.mesh_read.specs.Scan.Parts.{is_blank}
use Rattle.mesh_read.proofs.scan.words.cut_word.Given as goal

abbrev pub invariant-loop-end : goal.invariant-loop-end
invariant-loop-end l = record {
  within : l.end ≤ length l.part.bytes.now;
  before : before (is_blank l.blanks) l.part.bytes.now ≡ take l.end l.part.bytes.now ++ before (is_blank l.blanks) (drop l.end l.part.bytes.now);
  onward : onward (is_blank l.blanks) l.part.bytes.now ≡ onward (is_blank l.blanks) (drop l.end l.part.bytes.now);
}

abbrev pub decreases-loop-end : goal.decreases-loop-end
decreases-loop-end l = length l.part.bytes.now - l.end
