use Rattle.std.proofs.Common.{◌≡◌, rules, ℕ, All, length, map, sym, subst, ◌∙◌, arith}
use Rattle.mesh_read.specs.Surface.Surfaces.{IsWithin, content_of, point_of}
use Rattle.mesh_arrays.specs.Faults.{IsMeshFault}
use Rattle.mesh_arrays.proofs.InOrder.{all_corners_within, found_are_as_many, points_are_finite}
use Rattle.mesh_arrays.proofs.Refused.{flaw_is, has_some, no_flaw_is_within, no_triangle_is_far, triangle_fault_is, without_flaw_is_near}
use Rattle.mesh_arrays.proofs.surface.surface_of.Goals as goal

pub returns-in-Err-facets_of-clause-fault : goal.returns-in-Err-facets_of-clause-fault
returns-in-Err-facets_of-clause-fault c =
    let vertices = c.args.mesh.now.vertices.now in
    let found = c.in-Ok.vertices.items in
    let as_many = found_are_as_many vertices found c.in-Ok.ensures.points in
    triangle_fault_is c.args.mesh.now c.len.result c.in-Err-facets_of.fault (omega (arith, as_many))
    (points_are_finite vertices (map point_of found) c.in-Ok.ensures.points) c.in-Err-facets_of.ensures.fault

pub returns-in-Ok-as_mesh-clause-within_limit : goal.returns-in-Ok-as_mesh-clause-within_limit
returns-in-Ok-as_mesh-clause-within_limit c = no_flaw_is_within c.in-Ok-as_mesh.surface c.in-Ok-as_mesh.ensures.ok

pub returns-in-Err-as_mesh-clause-fault : goal.returns-in-Err-as_mesh-clause-fault
returns-in-Err-as_mesh-clause-fault c =
    let mesh = c.args.mesh.now in
    let found = c.in-Ok.vertices.items in
    let as_many = found_are_as_many mesh.vertices.now found c.in-Ok.ensures.points in
    subst (IsMeshFault mesh) (sym c.from.ensures)
    (flaw_is mesh (record { points = map point_of found; facets = c.in-Ok-facets_of.facets.items }) c.in-Err-as_mesh.flaw
    (record { points = c.in-Ok.ensures.points; facets = c.in-Ok-facets_of.ensures.facets })
    (omega (arith, has_some c.in-Ok-facets_of.facets.len (sym c.is_empty.ensures ∙ c.if-is_empty.false)))
    (all_corners_within mesh.triangles.now c.len.result (length mesh.vertices.now) 1 c.in-Ok-facets_of.facets.items
    (omega (arith, as_many)) c.in-Ok-facets_of.ensures.facets c.in-Ok-facets_of.ensures.within) c.in-Err-as_mesh.ensures.flaw)

pub returns-then-is_empty-clause-surface : goal.returns-then-is_empty-clause-surface
returns-then-is_empty-clause-surface c =
    let all : c.len.result ≡ length c.in-Ok.vertices.items = search rules in
    let none : length c.in-Ok-facets_of.facets.items ≡ 0 = search rules in
    record {
      content = record { points = c.in-Ok.ensures.points; facets = c.in-Ok-facets_of.ensures.facets };
      within = subst (λ (n : ℕ). All (IsWithin n) c.in-Ok-facets_of.facets.items) all c.in-Ok-facets_of.ensures.within;
      near = no_triangle_is_far (map point_of c.in-Ok.vertices.items) c.in-Ok-facets_of.facets.items none;
    }

pub returns-in-Ok-as_mesh-clause-surface : goal.returns-in-Ok-as_mesh-clause-surface
returns-in-Ok-as_mesh-clause-surface c =
    let all : c.len.result ≡ length c.in-Ok.vertices.items = search rules in
    record {
      content = rw (c.in-Ok-as_mesh.ensures.same) (record { points = c.in-Ok.ensures.points; facets = c.in-Ok-facets_of.ensures.facets });
      within = rw (c.in-Ok-as_mesh.ensures.same)
          (subst (λ (n : ℕ). All (IsWithin n) c.in-Ok-facets_of.facets.items) all c.in-Ok-facets_of.ensures.within);
      near = without_flaw_is_near (content_of c.in-Ok-as_mesh.surface) c.in-Ok-as_mesh.ensures.ok;
    }
