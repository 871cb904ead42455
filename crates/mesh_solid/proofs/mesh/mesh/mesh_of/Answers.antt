use Rattle.std.proofs.Common.{refl, sym, subst}
use Rattle.std.specs.List.{All}
use Rattle.ember_width.specs.Broad.{IsBroadPlane}
use Rattle.mesh_solid.proofs.SolidSteps.{certified_of}
use Rattle.mesh_solid.proofs.mesh.mesh.mesh_of.Goals as goal

pub certified_triangles-requires-clause-valid : goal.certified_triangles-requires-clause-valid
certified_triangles-requires-clause-valid g c =
    subst (All IsBroadPlane) (sym c.deref.ensures.value) c.requires.broad

pub returns-clause-mesh : goal.returns-clause-mesh
returns-clause-mesh g c =
    record {
      planes = refl;
      corners = refl;
      certified = certified_of c.in_ok-triangles.triangles.items c.deref.ensures.value c.deref-2.ensures.value
          c.deref-3.ensures.value c.deref-4.ensures.value c.in_ok-triangles.ensures;
    }

pub returns-clause-faces : goal.returns-clause-faces
returns-clause-faces g c = refl
