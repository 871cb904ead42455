use Rattle.mesh_certificate.proofs.Boundaries.{chains_from_boundary, boundary_from_chains}
use Rattle.mesh_certificate.proofs.LeftOver.{boundary_from_left, left_from_boundary}
use Rattle.mesh_certificate.proofs.certificate.chains.same_chains.Goals as goal

pub returns-clause-boundary : goal.returns-clause-boundary
returns-clause-boundary c =
    let fs = c.args.faces.now in let ts = c.args.triangles.now in
    let p = c.sort_unstable.ensures.permutation in let q = c.sort_by_stretches.ensures.permutation in
    let e = c.in_ok-of_faces.ensures in let f = c.in_ok-of_triangles.ensures in
    let v = c.deref.ensures.value in let w = c.deref-2.ensures.value in (
      λ t. boundary_from_left fs ts e p v f q w _ _ c.in_ok-starts.ensures (c.are_rearranged.ensures.0 t),
      λ h. c.are_rearranged.ensures.1 (left_from_boundary fs ts e p v f q w _ _ c.in_ok-starts.ensures h),
    )

pub returns-clause-chains : goal.returns-clause-chains
returns-clause-chains c =
    let fs = c.args.faces.now in let ts = c.args.triangles.now in
    let p = c.sort_unstable.ensures.permutation in let q = c.sort_by_stretches.ensures.permutation in
    let e = c.in_ok-of_faces.ensures in let f = c.in_ok-of_triangles.ensures in
    let v = c.deref.ensures.value in let w = c.deref-2.ensures.value in (
      λ t. chains_from_boundary fs ts (boundary_from_left fs ts e p v f q w _ _ c.in_ok-starts.ensures
          (c.are_rearranged.ensures.0 t)),
      λ h. c.are_rearranged.ensures.1
          (left_from_boundary fs ts e p v f q w _ _ c.in_ok-starts.ensures (boundary_from_chains fs ts h)),
    )
