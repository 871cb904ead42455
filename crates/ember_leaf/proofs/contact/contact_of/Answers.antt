use Rattle.std.proofs.Common.{◌∙◌, ap, sym}
use Rattle.ember_width.specs.declared.heights.Heights.{Heights}
use Rattle.ember_width.specs.Heights.{none_behind}
use Rattle.ember_leaf.proofs.Contacts.{behind_more}
use Rattle.ember_leaf.proofs.contact.contact_of.Goals as goal

pub loop-i-preserved : goal.loop-i-preserved
loop-i-preserved c =
    let es = c.args.edges.now in let i = c.loop-i.i in let t = c.args.t.now in let l = c.loop-i-test.true in let h =
    c.heights_of-heights.ensures.value in let k = c.and-behind.ensures in (
      behind_more es i t.a l (ap (λ (x : Heights). x.a) h) k.a c.loop-i.invariant.0,
      behind_more es i t.b l (ap (λ (x : Heights). x.b) h) k.b c.loop-i.invariant.1,
      behind_more es i t.c l (ap (λ (x : Heights). x.c) h) k.c c.loop-i.invariant.2,
    )

pub returns-then-none_behind : goal.returns-then-none_behind
returns-then-none_behind c =
    record {
      index = c.loop-i.i;
      before = c.loop-i-test.true;
      parts =
          ap none_behind (sym c.heights_of-heights.ensures.value) ∙ sym c.none_behind.ensures ∙ c.if-none_behind.true;
    }
