use Rattle.ember_verdict.proofs.OneTexts.{solid_one}
use Rattle.ember_verdict.proofs.SolidFiles.{document_is_output}
use Rattle.ember_verdict.proofs.law.solids_have_one_document.Goals as goal

pub returns-clause-document : goal.returns-clause-document
returns-clause-document c = λ tris meshes formula scene one other a b. solid_one tris meshes scene formula one other a b

pub returns-clause-output : goal.returns-clause-output
returns-clause-output c = λ tris meshes formula scene one other a b. solid_one tris meshes scene formula one other a.text b.text

pub returns-clause-same : goal.returns-clause-same
returns-clause-same c = λ tris meshes scene formula bytes outside. (document_is_output tris meshes formula bytes scene outside, λ file. file.text)
