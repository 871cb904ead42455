use Rattle.ember_visit.proofs.Laws.{root_is_job, left_is_job, right_is_job}
use Rattle.ember_visit.proofs.law.halves_of_a_job_are_jobs.Goals as goal

pub returns-clause-root : goal.returns-clause-root
returns-clause-root c = λ ts meshes scene. root_is_job ts meshes scene

pub returns-clause-halves : goal.returns-clause-halves
returns-clause-halves c = λ ts meshes job k scene is may. (left_is_job ts meshes scene job is k may, right_is_job ts meshes scene job is k may)
