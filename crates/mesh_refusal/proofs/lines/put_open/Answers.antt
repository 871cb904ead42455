use Rattle.std.proofs.Common.{codes, decimal, List, ℕ, ◌++◌, ap, ◌∙◌}
use Rattle.mesh_texts.specs.Texts.{corner_text}
use Rattle.mesh_refusal.specs.Lines.{noun_of}
use Rattle.mesh_number.proofs.Appended.{after11, on_ok_if}
use Rattle.mesh_refusal.proofs.lines.put_open.Goals as goal

pub returns : goal.returns
returns c =
    let o = c.args.fault.now in
    let noun = ap (λ (xs : List ℕ). c.extend_from_slice-4.new.self.items ++ xs) c.noun_of.ensures in
    let place = ap (λ (n : ℕ). c.extend_from_slice-6.new.self.items ++ decimal n) c.from.ensures in
    on_ok_if _ _ c.extend_from_slice-7.result c.extend_from_slice-7.ensures.items
    (after11 (codes "not closed: ") (decimal o.edges) (codes " loose edges, the first from ")
    (corner_text o.grid o.loose.from) (codes " to ") (corner_text o.grid o.loose.to) (codes ", in ")
    (noun_of c.args.format) (codes " ") (decimal o.place) (codes "; close the hole in the modeller") _ _ _ _ _ _ _ _ _
    _ _
    c.in_ok-extend_from_slice.ensures.items c.in_ok-put_count.ensures c.in_ok-extend_from_slice-2.ensures.items
    c.in_ok-put_corner.ensures c.in_ok-extend_from_slice-3.ensures.items c.in_ok-put_corner-2.ensures
    c.in_ok-extend_from_slice-4.ensures.items (c.in_ok-extend_from_slice-5.ensures.items ∙ noun)
    c.in_ok-extend_from_slice-6.ensures.items (c.in_ok-put_count-2.ensures ∙ place))
