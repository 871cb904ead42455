use Rattle.ember_meaning.proofs.ReadFaces.{document_reads}
use Rattle.ember_meaning.proofs.regions.law.documents_read_with_their_meaning.Goals as goal

pub returns : goal.returns
returns c = λ scene f ks v w o bytes d. document_reads scene 64 f ks bytes v w o d
