use Rattle.std.proofs.Common.{◌≡◌, refl, sym, ◌∙◌, Bool, true, false, ◌&&◌}
use Rattle.ember_algebra.specs.Sign.{sgn}
use Rattle.ember_model.specs.declared.plane.Plane.{Plane}
use Rattle.ember_model.specs.Planes.{value_at}
use Rattle.ember_ref.specs.References.{reference_of_list}
use Rattle.ember_trace.proofs.ThreeEdges.{all_three, last_of_three}
use Rattle.ember_trace.proofs.reference_lines.is_behind_edges.Goals as goal

first_out : (x a r : Bool) → x ≡ a → x ≡ false → x ≡ a && r
first_out x a r e f = f ∙ sym (λ i. (sym e ∙ f) i && r)

second_out : (x y a b r : Bool) → x ≡ a → y ≡ b → x ≡ true → y ≡ false → y ≡ a && (b && r)
second_out x y a b r e h t f = f ∙ sym (λ i. (sym e ∙ t) i && ((sym h ∙ f) i && r))

pub returns-then-is_behind_edge-2 : goal.returns-then-is_behind_edge-2
returns-then-is_behind_edge-2 g c =
    last_of_three c.is_behind_edge.result c.is_behind_edge-then-is_behind_edge.result
    c.is_behind_edge-then-is_behind_edge-2.result _ c.if-is_behind_edge.true c.if-is_behind_edge-2.true
    (all_three (λ (p : Plane). sgn (value_at p (reference_of_list g.W.Width.fine c.args.lo))) c.args.t.now c.args.k _ _ _ _ _ _ refl
    refl refl (c.is_behind_edge.ensures _ refl) (c.is_behind_edge-then-is_behind_edge.ensures _ refl)
    (c.is_behind_edge-then-is_behind_edge-2.ensures _ refl))

pub returns-else-is_behind_edge-2 : goal.returns-else-is_behind_edge-2
returns-else-is_behind_edge-2 g c =
    second_out c.is_behind_edge.result c.is_behind_edge-then-is_behind_edge.result _ _ _
    (c.is_behind_edge.ensures _ refl) (c.is_behind_edge-then-is_behind_edge.ensures _ refl) c.if-is_behind_edge.true
    c.if-is_behind_edge-2.false

pub returns-else-is_behind_edge : goal.returns-else-is_behind_edge
returns-else-is_behind_edge g c = first_out c.is_behind_edge.result _ _ (c.is_behind_edge.ensures _ refl) c.if-is_behind_edge.false
