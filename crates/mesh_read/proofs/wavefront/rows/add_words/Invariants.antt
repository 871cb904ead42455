use Rattle.std.proofs.Common.{◌≡◌, ◌++◌, length, map}
use Rattle.mesh_read.specs.Scan.Parts.{piece_of, words_in}
use Rattle.mesh_read.proofs.wavefront.rows.add_words.Given as goal

abbrev pub invariant-loop-word : goal.invariant-loop-word
invariant-loop-word l =
    map piece_of l.fn.words.items ++ words_in l.text ≡ map piece_of l.words.items ++ words_in l.rest

abbrev pub decreases-loop-word : goal.decreases-loop-word
decreases-loop-word l = length l.rest.bytes.now
