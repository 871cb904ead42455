use Rattle.std.proofs.Common.{◌≡◌, ◌∙◌, sym, ap, Bool, true, false, ◌&&◌, ℕ}
use Rattle.ember_model.specs.declared.plane.Plane.{Plane}
use Rattle.ember_model.specs.Limits.{broad_limit}
use Rattle.ember_model.specs.Planes.{value_at}
use Rattle.ember_model.specs.Within.{normal_limit, IsEdgeWithin}
use Rattle.ember_algebra.specs.Sign.{is_negative}
use Rattle.ember_algebra.proofs.Booleans.{same_some}
use Rattle.ember_model.proofs.SignTests.{and_true}
use Rattle.ember_width.specs.Laws.{broad_planes}
use Rattle.ember_width.proofs.TakenPlanes.{edge_taken}
use Rattle.ember_width.proofs.Slides.{edge_within_planes}
use Rattle.ember_ref.specs.References.{reference_of_list, HasNormalWithin}
use Rattle.ember_ref.proofs.signs.projects_inside.Goals as goal

-- the entries of an edge plane
normal_of : (m : ℕ) (p : Plane) → IsEdgeWithin m p → HasNormalWithin (normal_limit m) p
normal_of m p s = let e = edge_within_planes m p s in record { a = e.a; b = e.b; c = e.c }

pub is_below-requires-clause-plane : goal.is_below-requires-clause-plane
is_below-requires-clause-plane c = edge_taken broad_planes (c.edge_plane.ensures.within broad_limit c.requires.tri)

pub is_below-requires-then-is_below-clause-plane : goal.is_below-requires-then-is_below-clause-plane
is_below-requires-then-is_below-clause-plane c =
    edge_taken broad_planes (c.edge_plane-then-is_below.ensures.within broad_limit c.requires.tri)

pub is_below-requires-then-is_below-2-clause-plane : goal.is_below-requires-then-is_below-2-clause-plane
is_below-requires-then-is_below-2-clause-plane c =
    edge_taken broad_planes (c.edge_plane-then-is_below-2.ensures.within broad_limit c.requires.tri)

-- three tests, of which the code makes those that it needs
all_of : {r a b d : Bool} → true ≡ a → true ≡ b → r ≡ d → r ≡ (a && (b && (d && true)))
all_of {r} {a} {b} {d} p q e = e ∙ sym (and_true d) ∙ (λ i. p i && (q i && (d && true)))

second_fails : {r a b : Bool} (d : Bool) → true ≡ a → r ≡ b → r ≡ false → r ≡ (a && (b && d))
second_fails d p e n = n ∙ (λ i. p i && ((sym n ∙ e) i && d))

first_fails : {r a : Bool} (d : Bool) → r ≡ a → r ≡ false → r ≡ (a && d)
first_fails d e n = n ∙ (λ i. (sym n ∙ e) i && d)

pub returns-then-is_below-2 : goal.returns-then-is_below-2
returns-then-is_below-2 c = λ m f within tells.
    let at = reference_of_list f c.args.at in
    let p = c.edge_plane in let q = c.edge_plane-then-is_below in let r = c.edge_plane-then-is_below-2 in
    let x = c.is_below.ensures (normal_limit m) f (normal_of m p.result (p.ensures.within m within)) tells
    ∙ ap (λ (h : Plane). is_negative (value_at h at)) (sym (same_some p.ensures.value)) in
    let y = c.is_below-then-is_below.ensures (normal_limit m) f (normal_of m q.result (q.ensures.within m within)) tells
    ∙ ap (λ (h : Plane). is_negative (value_at h at)) (sym (same_some q.ensures.value)) in
    let z = c.is_below-then-is_below-2.ensures (normal_limit m) f (normal_of m r.result (r.ensures.within m within)) tells
    ∙ ap (λ (h : Plane). is_negative (value_at h at)) (sym (same_some r.ensures.value)) in
    all_of (sym c.if-is_below.true ∙ x) (sym c.if-is_below-2.true ∙ y) z

pub returns-else-is_below-2 : goal.returns-else-is_below-2
returns-else-is_below-2 c = λ m f within tells.
    let at = reference_of_list f c.args.at in let p = c.edge_plane in let q = c.edge_plane-then-is_below in
    let x = c.is_below.ensures (normal_limit m) f (normal_of m p.result (p.ensures.within m within)) tells
    ∙ ap (λ (h : Plane). is_negative (value_at h at)) (sym (same_some p.ensures.value)) in
    let y = c.is_below-then-is_below.ensures (normal_limit m) f (normal_of m q.result (q.ensures.within m within)) tells
    ∙ ap (λ (h : Plane). is_negative (value_at h at)) (sym (same_some q.ensures.value)) in
    second_fails _ (sym c.if-is_below.true ∙ x) y c.if-is_below-2.false

pub returns-else-is_below : goal.returns-else-is_below
returns-else-is_below c = λ m f within tells.
    let at = reference_of_list f c.args.at in let p = c.edge_plane in
    let x = c.is_below.ensures (normal_limit m) f (normal_of m p.result (p.ensures.within m within)) tells
    ∙ ap (λ (h : Plane). is_negative (value_at h at)) (sym (same_some p.ensures.value)) in
    first_fails _ x c.if-is_below.false
