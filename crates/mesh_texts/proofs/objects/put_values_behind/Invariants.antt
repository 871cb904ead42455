use Rattle.std.proofs.Common.{◌≡◌, ◌++◌, drop}
use Rattle.mesh_texts.specs.Objects.{behind, texts_of}
use Rattle.mesh_texts.proofs.objects.put_values_behind.Given as goal

abbrev pub invariant-loop-value : goal.invariant-loop-value
invariant-loop-value l =
    l.text.items ++ behind (texts_of (drop l.value-index l.values)) ≡ l.fn.text.items ++ behind (texts_of l.values)
