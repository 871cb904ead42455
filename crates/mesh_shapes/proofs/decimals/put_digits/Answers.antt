use Rattle.std.proofs.Common.{◌≡◌, ◌∷◌, sym, ◌∙◌, ap, true, List, ℕ}
use Rattle.std.specs.List.{list_all}
use Rattle.std.specs.Char.{is_ascii_digit}
use Rattle.std.proofs.lemmas.Bool.{and_parts}
use Rattle.mesh_shapes.proofs.FractionTexts.{digit_appended}
use Rattle.mesh_shapes.proofs.decimals.put_digits.Goals as goal

pub loop-first-preserved : goal.loop-first-preserved
loop-first-preserved c =
    let l = c.loop-first in let d = c.in-Some.first.now in let ds = c.in-Some.others.now in
    let front : l.rest.now ≡ d ∷ ds = c.in-Some.ensures.cases.0 in
    let all : list_all is_ascii_digit (d ∷ ds) ≡ true = ap (λ (xs : List ℕ). list_all is_ascii_digit xs) (sym front) ∙ l.invariant.digits in
    record {
      text = digit_appended _ l.out.items c.push.new.self.items d ds l.rest.now front c.in_ok-push.ensures.items
          l.invariant.digits (sym c.if-is_nought.ensures) l.invariant.text;
      digits = (and_parts (is_ascii_digit d) (list_all is_ascii_digit ds) all).1;
    }
