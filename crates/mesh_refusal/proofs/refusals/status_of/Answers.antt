use Rattle.mesh_refusal.proofs.refusals.status_of.Goals as goal

pub returns-in-File : goal.returns-in-File
returns-in-File c = rw c.in-File.is c.refused.ensures

pub returns-in-Image : goal.returns-in-Image
returns-in-Image c = rw c.in-Image.is c.unplaceable.ensures
