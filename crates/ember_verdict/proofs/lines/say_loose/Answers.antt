use Rattle.std.proofs.Common.{List, ℕ, ◌++◌, codes, subst}
use Rattle.ember_verdict.specs.Messages.{AppendsUntilFault}
use Rattle.ember_verdict.proofs.lines.say_loose.Goals as goal

pub returns : goal.returns
returns g c =
    let x = c.x_digits.ensures in let y = c.y_digits.ensures in let z = c.z_digits.ensures in
    let u = c.x_digits-2.ensures in let v = c.y_digits-2.ensures in let w = c.z_digits-2.ensures in
    let there = c.count_digits.ensures in let back = c.count_digits-2.ensures in
    subst (λ (text : List ℕ). AppendsUntilFault (g.E.Sink.faults c.args.err.now) (g.E.Sink.faults c.say.new.err)
    (g.E.Sink.taken c.args.err.now) (g.E.Sink.taken c.say.new.err) text)
    (λ i. codes "ember: " ++ (c.args.name.now ++ (codes ": edge "
    ++ (x i ++ (codes " " ++ (y i ++ (codes " "
    ++ (z i ++ (codes " to " ++ (u i ++ (codes " "
    ++ (v i ++ (codes " " ++ (w i ++ (codes " stands "
    ++ (there i ++ (codes " times and " ++ (back i ++ codes " times reversed\n"))))))))))))))))))
    c.say.ensures
