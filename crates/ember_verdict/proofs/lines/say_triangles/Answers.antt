use Rattle.std.proofs.Common.{List, ℕ, ◌++◌, codes, subst, ◌∙◌}
use Rattle.ember_verdict.specs.Messages.{AppendsUntilFault}
use Rattle.ember_verdict.proofs.lines.say_triangles.Goals as goal

pub returns : goal.returns
returns g c =
    subst (λ (count : List ℕ). AppendsUntilFault (g.E.Sink.faults c.args.err.now) (g.E.Sink.faults c.say.new.err)
    (g.E.Sink.taken c.args.err.now) (g.E.Sink.taken c.say.new.err)
    (codes "ember: " ++ (count ++ codes " triangles\n")))
    (c.as_bytes-count.ensures.value ∙ c.format.ensures.text)
    c.say.ensures
