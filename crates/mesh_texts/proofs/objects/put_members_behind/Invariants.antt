use Rattle.std.proofs.Common.{◌≡◌, ◌++◌, drop, map}
use Rattle.mesh_texts.specs.Objects.{behind, entries_of, entry_text}
use Rattle.mesh_texts.proofs.objects.put_members_behind.Given as goal

abbrev pub invariant-loop-member : goal.invariant-loop-member
invariant-loop-member l =
    l.text.items ++ behind (map entry_text (entries_of (drop l.member-index l.members))) ≡
    l.fn.text.items ++ behind (map entry_text (entries_of l.members))
