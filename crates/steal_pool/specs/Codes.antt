-- A job is stored as its box, its list and its winding numbers.
use Rattle.std.specs.Prelude.{ℕ, ℤ, List, refl}
use Rattle.std.specs.Coded.{Coded, code_by, coded×, coded_ℕ, coded_ℤ, coded_list}
use Rattle.ember_box.specs.Boxes.{Cell, cell_code}
use Rattle.ember_model.specs.declared.vector.Vector.{Vector}
use Rattle.ember_job.specs.declared.job.Job.{Job}

-- a vector by its counts
abbrev pub coded_vector : List ℤ → Vector
coded_vector counts = record { counts = counts }

-- how a job is stored
abbrev pub job_code : Coded Job
job_code = code_by (Cell × (List ℕ × List ℤ)) (coded× cell_code (coded× (coded_list coded_ℕ) (coded_list coded_ℤ)))
    (λ j. (j.cell, (j.list, j.at.counts))) (λ p. record { cell = p.0; list = p.1.0; at = coded_vector p.1.1 })
    (λ _. refl)
