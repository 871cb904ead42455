use Rattle.std.proofs.Common.{◌≡◌, ℕ, ℤ, ◌+◌, ◌≤◌, ◌∙◌, ap, sym, subst, Bool, true, false, Option, Some, to_z, of_z}
use mir.Syntax.{w64}
use Rattle.ember_algebra.specs.Size.{Small}
use Rattle.std.specs.Prelude.{IfSome}
use Rattle.ember_algebra.proofs.Exact.{narrow, ◌&◌, done, exact}
use Rattle.ember_model.specs.Limits.{broad_limit}
use Rattle.ember_model.specs.declared.plane.Plane.{Plane}
use Rattle.ember_width.specs.Levels.{level_meet}
use Rattle.ember_width.proofs.TakenPlanes.{coordinate_in_root}
use Rattle.ember_poly.specs.Levels.{IsLevel}
use Rattle.ember_poly.proofs.LevelMeets.{turns_up, turns_down, meets_up, meets_down, meet_is}
use Rattle.ember_poly.specs.declared.level.Level.{Level}
use Rattle.ember_poly.proofs.passage.point_of.Goals as goal

level_is : {o : Option Level} {l : Level} (p : Plane) {b : Bool} → IfSome o (λ l. IsLevel l.axis l.at l.is_up p) →
    o ≡ Some l → l.is_up ≡ b → IsLevel l.axis l.at b p
level_is {o} {l} p {b} h e u =
    subst (λ u. IsLevel l.axis l.at u p) u (subst (λ o. IfSome o (λ l. IsLevel l.axis l.at l.is_up p)) e h)

small_is : {m : ℕ} {o : Option Level} {l : Level} → IfSome o (λ l. Small m l.at) → o ≡ Some l → Small m l.at
small_is {m} {o} {l} h e = subst (λ o. IfSome o (λ l. Small m l.at)) e h

-- the coordinate as it is passed on
passed_on : {m : ℕ} {z : ℤ} → m ≤ broad_limit → Small (m + 1) z → to_z w64 (of_z w64 z) ≡ z
passed_on l s = exact (coordinate_in_root l s & done) (narrow 0) tt

pub level_point-requires-clause-at : goal.level_point-requires-clause-at
level_point-requires-clause-at g c =
    let s = small_is c.requires.small c.in-Some.is in
    subst (λ z. Small (g.W.Width.corner + 1) z) (sym (passed_on g.met.W.Width.at_most_broad s)) s

pub level_point-requires-else-l-clause-at : goal.level_point-requires-else-l-clause-at
level_point-requires-else-l-clause-at g c =
    let s = small_is c.requires.small c.in-Some.is in
    subst (λ z. Small (g.W.Width.corner + 1) z) (sym (passed_on g.met.W.Width.at_most_broad s)) s

pub level_point-requires-clause-turns : goal.level_point-requires-clause-turns
level_point-requires-clause-turns g c =
    let a = c.args in let l = c.in-Some.l in
    turns_up l.axis l.at a.p.now a.q.now a.r.now (level_is a.r.now c.requires.level c.in-Some.is c.if-l.true) c.requires.turns

pub level_point-requires-else-l-clause-turns : goal.level_point-requires-else-l-clause-turns
level_point-requires-else-l-clause-turns g c =
    let a = c.args in let l = c.in-Some.l in
    turns_down l.axis l.at a.p.now a.q.now a.r.now (level_is a.r.now c.requires.level c.in-Some.is c.if-l.false) c.requires.turns

pub returns-then-l : goal.returns-then-l
returns-then-l g c =
    let a = c.args in let l = c.in-Some.l in let m = c.level_point in
    let e = passed_on g.met.W.Width.at_most_broad (small_is c.requires.small c.in-Some.is) in
    meets_up l.axis l.at true a.p.now a.q.now a.r.now (g.W.Width.spot m.result)
    (level_is a.r.now c.requires.level c.in-Some.is c.if-l.true)
    (m.ensures ∙ ap (λ t. level_meet l.axis t a.p.now a.q.now) e) (g.met.W.Width.weighs m.result)

pub returns-else-l : goal.returns-else-l
returns-else-l g c =
    let a = c.args in let l = c.in-Some.l in let m = c.level_point-else-l in
    let e = passed_on g.met.W.Width.at_most_broad (small_is c.requires.small c.in-Some.is) in
    meets_down l.axis l.at false a.p.now a.q.now a.r.now (g.W.Width.spot m.result)
    (level_is a.r.now c.requires.level c.in-Some.is c.if-l.false)
    (m.ensures ∙ ap (λ t. level_meet l.axis t a.q.now a.p.now) e) (g.met.W.Width.weighs m.result)

pub returns-in-Some-meet : goal.returns-in-Some-meet
returns-in-Some-meet g c =
    let a = c.args in
    meet_is a.p.now a.q.now a.r.now (g.W.Width.spot c.in-Some-meet.m) c.in-Some-meet.ensures.formula
    (g.met.W.Width.weighs c.in-Some-meet.m)
