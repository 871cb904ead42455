use Rattle.mesh_solid.proofs.DocumentWinding.{document_is_closed, document_winds_as_faces, document_winds_as_faces_nearby}
use Rattle.mesh_solid.proofs.mesh.law.triangles_of_documents_wind_as_faces.Goals as goal

pub returns-clause-alike : goal.returns-clause-alike
returns-clause-alike c = λ bytes mesh is. document_winds_as_faces bytes mesh is.of_document is.outlined

pub returns-clause-nearby : goal.returns-clause-nearby
returns-clause-nearby c = λ bytes mesh is. document_winds_as_faces_nearby bytes mesh is.of_document is.outlined

pub returns-clause-closed : goal.returns-clause-closed
returns-clause-closed c = document_is_closed
