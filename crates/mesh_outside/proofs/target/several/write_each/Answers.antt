use Rattle.std.proofs.Common.{ℕ, ◌+◌, List, ◌∷◌, ◌++◌, Some, Err, take, drop, sym, ap, subst, ◌∙◌, arith}
use Rattle.std.specs.Prelude.{string_bytes}
use Rattle.mesh_outside.specs.Target.Several.{NamedBytes, PutsEach, names_and_bytes}
use Rattle.mesh_outside.specs.Target.Targets.{Puts}
use Rattle.mesh_outside.proofs.SeveralFiles.{PutsEach-more, cause_since, files_before_and_behind, files_with_one_more, risen_twice_since}
use Rattle.mesh_outside.proofs.target.several.write_each.Goals as goal

pub returns-in-Err-clause-some : goal.returns-in-Err-clause-some
returns-in-Err-clause-some g c =
    let files = c.args.files.now in
    let i = c.loop-file.file-index in
    let file = c.file-item.result in
    let e = c.in-Err.ensures in
    record {
      written = names_and_bytes (take i files);
      bytes = file.bytes.items;
      others = names_and_bytes (drop (i + 1) files);
      all = files_before_and_behind files i file c.loop-file-test.true c.file-item.is
          ∙ ap (λ (name : List ℕ). names_and_bytes (take i files) ++ (name, file.bytes.items)
          ∷ names_and_bytes (drop (i + 1) files)) (sym c.as_str-name.ensures.value);
      between = g.T.Target.held c.loop-file.target;
      put = c.loop-file.invariant.put;
      held = e.old;
      removed = risen_twice_since _ _ _ c.loop-file.invariant.later e.removed;
      cause = cause_since _ c.as_str-name.result.now _ _ _ c.in-Err.why c.loop-file.invariant.later (λ is. e.fault (ap Err is)) (λ is. e.taken (ap Err is));
    }

pub loop-file-preserved : goal.loop-file-preserved
loop-file-preserved g c =
    let files = c.args.files.now in
    let i = c.loop-file.file-index in
    let file = c.file-item.result in
    let e = c.in_default.ensures in
    let put = subst (λ (name : List ℕ). Puts (g.T.Target.held c.loop-file.target)
    (g.T.Target.held c.write_whole.new.target) name (Some file.bytes.items)) c.as_str-name.ensures.value
    (subst (λ (bytes : List ℕ). Puts (g.T.Target.held c.loop-file.target) (g.T.Target.held c.write_whole.new.target)
    c.as_str-name.result.now (Some bytes)) c.deref.ensures.value e.whole) in
    record {
      none_begun = e.none_begun;
      later = omega (arith, c.loop-file.invariant.later, e.later);
      put = subst (λ (put : List NamedBytes). PutsEach put (g.T.Target.held c.args.target.now)
          (g.T.Target.held c.write_whole.new.target))
          (sym (files_with_one_more files i file c.loop-file-test.true c.file-item.is))
          (PutsEach-more (names_and_bytes (take i files)) _ (g.T.Target.held c.loop-file.target) _
          (string_bytes file.name) file.bytes.items c.loop-file.invariant.put put);
    }
