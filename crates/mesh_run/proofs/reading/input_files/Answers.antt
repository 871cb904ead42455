use Rattle.std.proofs.Common.{ap, ◌∙◌, arith}
use Rattle.mesh_run.proofs.ToldFiles.{bytes_more, items_of, names_more}
use Rattle.mesh_run.proofs.reading.input_files.Goals as goal

pub loop-index-preserved : goal.loop-index-preserved
loop-index-preserved c =
    let i = c.loop-index.invariant in
    record {
      names = names_more c.loop-index.files.items _ c.args.names.now c.loop-index.index _ _ (omega arith) i.names
          c.in_ok-push.ensures.items (c.as_bytes.ensures.value ∙ c.as_str.ensures ∙ c.index-names-index.is);
      bytes = bytes_more c.loop-index.files.items _ c.args.contents.now c.loop-index.index _ _ c.loop-index-test.true
          i.bytes c.in_ok-push.ensures.items (c.as_slice.ensures.value ∙ ap items_of c.index-contents-index.is);
    }
