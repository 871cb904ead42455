use Rattle.std.proofs.Common.{◌≡◌, true, take}
use Rattle.ember_leaf.specs.Contact.{IsBehind}
use Rattle.ember_leaf.proofs.contact.contact_of.Given as goal

abbrev pub invariant-loop-i : goal.invariant-loop-i
invariant-loop-i l =
    (l.behind.a ≡ true → IsBehind (take l.i l.edges) l.t.a) × (l.behind.b ≡ true →
    IsBehind (take l.i l.edges) l.t.b) × (l.behind.c ≡ true → IsBehind (take l.i l.edges) l.t.c)
