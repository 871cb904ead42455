use Rattle.std.proofs.Common.{◌≡◌, ap, sym, subst, ◌∙◌, ℕ, Bool, true, cond, ◌&&◌, List, All, Some, None}
use Rattle.ember_algebra.specs.Sign.{is_zero}
use Rattle.ember_model.specs.declared.plane.Plane.{Plane}
use Rattle.ember_model.specs.Faces.{is_flat, face_of}
use Rattle.ember_model.specs.Limits.{narrow_limit}
use Rattle.ember_model.specs.Within.{IsTriWithin, IsEdgeWithin}
use Rattle.ember_model.proofs.PlaneSizes.{edges_valid, edges_sized_within}
use Rattle.ember_model.proofs.triangle_planes.face_of.Goals as goal

pub returns-then-has_no_normal-clause-value : goal.returns-then-has_no_normal-clause-value
unfolding is_flat
returns-then-has_no_normal-clause-value c =
    let t = c.args.t.now in
    let flat : is_flat t ≡ true = ap (λ (n : Plane). is_zero n.a && (is_zero n.b && is_zero n.c))
    (sym c.support_of-support.ensures.value) ∙ sym c.has_no_normal.ensures ∙ c.if-has_no_normal.true in
    sym (ap (λ (b : Bool). cond b None (Some (face_of t))) flat)

edges_are : (c : goal.After-of) → c.of.result ≡ c.main_edges.result
edges_are c = c.of.ensures ∙ c.in_ok-edges.ensures.items

pub returns-clause-value : goal.returns-clause-value
unfolding is_flat face_of
returns-clause-value c =
    let t = c.args.t.now in let n = c.support_of-support.ensures.value in let e = edges_are c ∙ c.main_edges.ensures.value in
    let f = ap (λ (n : Plane). is_zero n.a && (is_zero n.b && is_zero n.c)) (sym n) ∙ sym c.has_no_normal.ensures ∙ c.if-has_no_normal.false in
    (λ i. Some (record { support = n i; edges = e i })) ∙ sym (ap (λ (b : Bool). cond b None (Some (face_of t))) f)

edges_within : (c : goal.After-of) (m : ℕ) → IsTriWithin m c.args.t.now → All (IsEdgeWithin m) c.of.result
edges_within c m v = subst (λ (es : List Plane). All (IsEdgeWithin m) es) (sym (edges_are c)) (c.main_edges.ensures.within m v)

pub returns-clause-within : goal.returns-clause-within
returns-clause-within c m v = record { support = c.support_of-support.ensures.within m v; edges = edges_within c m v }

pub returns-clause-edges : goal.returns-clause-edges
returns-clause-edges c v = edges_sized_within c.of.result (edges_within c narrow_limit v)

pub returns-clause-valid : goal.returns-clause-valid
returns-clause-valid c v =
    record {
      support = c.support_of-support.ensures.valid v;
      edges = edges_valid c.of.result (edges_sized_within c.of.result (edges_within c narrow_limit v));
    }
