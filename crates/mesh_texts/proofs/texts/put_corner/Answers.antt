use Rattle.std.proofs.Common.{◌≡◌, codes, ℤ, pos, ◌+ℤ◌, ◌*ℤ◌, ◌*◌, unsigned_abs, ◌++◌, ap, ◌∙◌}
use Rattle.ember_model.specs.declared.point.Spot.{Spot}
use Rattle.mesh_number.specs.Number.Fractions.{Fraction}
use Rattle.mesh_grid.specs.declared.grid.grid.Grid.{Grid}
use Rattle.mesh_texts.specs.Texts.{shown, grid_place}
use Rattle.mesh_number.proofs.Appended.{after7, on_ok_if}
use Rattle.mesh_texts.proofs.texts.put_corner.Goals as goal

-- where the coordinate x / w lies in the user's unit
abbrev place_at : Grid → ℤ → ℤ → ℤ → Fraction
place_at g x offset w = record {
  numerator = (x +ℤ offset *ℤ w) *ℤ pos g.step.numerator;
  denominator = g.step.denominator * unsigned_abs w;
}

pub returns : goal.returns
returns c =
    let g = c.args.grid.now in
    let corner = c.args.corner.now in
    let point = c.whole_point-point.ensures in
    let x = ap (λ (v : Spot). c.extend_from_slice.new.self.items ++ shown (place_at g v.x g.offset.x v.w)) point in
    let y = ap (λ (v : Spot). c.extend_from_slice-2.new.self.items ++ shown (place_at g v.y g.offset.y v.w)) point in
    let z = ap (λ (v : Spot). c.extend_from_slice-3.new.self.items ++ shown (place_at g v.z g.offset.z v.w)) point in
    on_ok_if _ _ c.extend_from_slice-4.result c.extend_from_slice-4.ensures.items
    (after7 (codes "(") (shown (grid_place g corner.x g.offset.x)) (codes " ")
    (shown (grid_place g corner.y g.offset.y)) (codes " ") (shown (grid_place g corner.z g.offset.z)) (codes ")") _ _
    _ _ _ _ _
    c.in_ok-extend_from_slice.ensures.items (c.in_ok-put_shown.ensures ∙ x) c.in_ok-extend_from_slice-2.ensures.items
    (c.in_ok-put_shown-2.ensures ∙ y) c.in_ok-extend_from_slice-3.ensures.items (c.in_ok-put_shown-3.ensures ∙ z))
