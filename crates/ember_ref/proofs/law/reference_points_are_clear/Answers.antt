use Rattle.ember_ref.proofs.ClearReferences.{clear_beside, clear_references}
use Rattle.ember_ref.proofs.law.reference_points_are_clear.Goals as goal

pub returns-clause-valid : goal.returns-clause-valid
returns-clause-valid c = clear_references

pub returns-clause-within : goal.returns-clause-within
returns-clause-within c = λ m f least tris tells within. clear_beside m f least tells tris within
