use Rattle.std.proofs.Common.{◌≡◌, ◌∙◌, ap, subst}
use Rattle.std.specs.Prelude.{IfOk}
use Rattle.clap.specs.Simple.{App, app_of, with_rule}
use Rattle.clap.specs.Walk.{Rule}
use Rattle.ember_words.proofs.arguments.at_app.Goals as goal

-- the same rule put to the same command
same : {a b : App} {r s : Rule} → a ≡ b → r ≡ s → with_rule a r ≡ with_rule b s
same {a} {b} {r} {s} p q = ap (λ x. with_rule x r) p ∙ ap (λ y. with_rule b y) q

pub returns : goal.returns
returns c =
    let pointed = c.in_ok-command.ensures ∙ same c.new-command.ensures.app c.required_option.ensures.rule in
    let asked = c.in_ok-command-2.ensures ∙ same pointed c.option.ensures.rule in
    let placed = c.in_ok-command-3.ensures ∙ same asked c.option_with_default.ensures.rule in
    subst (λ app. IfOk c.with-4.result (λ made. app_of made ≡ app)) (same placed c.several_words.ensures.rule) c.with-4.ensures
