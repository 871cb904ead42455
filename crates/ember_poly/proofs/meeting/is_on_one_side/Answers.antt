use Rattle.std.proofs.Common.{inl, inr, subst, ◌∙◌, pos, ◌<ℤ◌}
use mir.Syntax.{w64}
use Rattle.ember_algebra.proofs.Exact.{input, stored, ◌&◌, done, exact}
use Rattle.ember_poly.proofs.meeting.is_on_one_side.Goals as goal

pub returns-then-are_above : goal.returns-then-are_above
returns-then-are_above c =
    let a = c.value_at_corner-a.ensures in let b = c.value_at_corner-b.ensures in let d = c.value_at_corner-c.ensures in
    let e = exact (a.small & done) (stored w64 (input 0)) tt ∙ a.value in
    let f = exact (b.small & done) (stored w64 (input 0)) tt ∙ b.value in
    let g = exact (d.small & done) (stored w64 (input 0)) tt ∙ d.value in
    λ t. (let u = c.are_above.ensures t in inl (
      record { over = subst (λ h. pos 0 <ℤ h) e u.0 },
      record { over = subst (λ h. pos 0 <ℤ h) f u.1 },
      record { over = subst (λ h. pos 0 <ℤ h) g u.2 },
    ))

pub returns-else-are_above : goal.returns-else-are_above
returns-else-are_above c =
    let a = c.value_at_corner-a.ensures in let b = c.value_at_corner-b.ensures in let d = c.value_at_corner-c.ensures in
    let e = exact (a.small & done) (stored w64 (input 0)) tt ∙ a.value in
    let f = exact (b.small & done) (stored w64 (input 0)) tt ∙ b.value in
    let g = exact (d.small & done) (stored w64 (input 0)) tt ∙ d.value in
    λ t. (let u = c.are_below.ensures t in inr (
      record { under = subst (λ h. h <ℤ pos 0) e u.0 },
      record { under = subst (λ h. h <ℤ pos 0) f u.1 },
      record { under = subst (λ h. h <ℤ pos 0) g u.2 },
    ))
