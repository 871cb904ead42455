use Rattle.std.proofs.Common.{◌≡◌, ℕ, None, subst, sym, arith, below_more, string_bytes, String, Global, map, List}
use Rattle.std.proofs.lemmas.List.{get_or_read}
use Rattle.ember_io.specs.Files.{named, first_of}
use Rattle.mesh_shapes.specs.Shapes.{IsNoFile, AreShapeFiles}
use Rattle.mesh_shapes.proofs.ShapeFiles.{all_of_words}
use Rattle.mesh_shapes.proofs.files.shape_files.Goals as goal

pub loop-word-preserved : goal.loop-word-preserved
loop-word-preserved c =
    let next = c.in_ok-push_file.ensures in let l = c.loop-word in
    record {
      each = next.each l.invariant.each;
      all = below_more _ _ (λ k h d none. l.invariant.all k h d (next.kept _ none))
          (λ d. subst (λ (w : String Global). first_of (named c.push_file.new.files.items) (string_bytes w) ≡ None → IsNoFile (string_bytes w))
          (get_or_read c.args.words.now l.word-index c.word-item.result (omega arith) c.word-item.is d) next.served);
    }

pub returns : goal.returns
returns c =
    let l = c.loop-word in let words = c.args.words.now in
    let files : AreShapeFiles (map string_bytes words) (named l.files.items) = record {
      each = l.invariant.each;
      all = all_of_words (λ (word : List ℕ). first_of (named l.files.items) word ≡ None → IsNoFile word) words
          (λ k h d. l.invariant.all k (omega arith) d);
    } in
    subst (AreShapeFiles (map string_bytes words)) (sym c.of.ensures) files
