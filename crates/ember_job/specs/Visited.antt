-- The boxes that are visited from a root.
use Rattle.std.specs.Prelude.{◌≡◌, ℕ, zero, suc, List, [], ◌∷◌, ◌++◌}
use Rattle.ember_box.specs.Boxes.{halvings_left}
use Rattle.ember_job.specs.declared.job.Job.{Job}
use Rattle.ember_job.specs.declared.job.Kind.{Kind}
use Rattle.ember_job.specs.declared.job.Kind.TheVariants.{Halved, Leafed, Passed}
use Rattle.ember_job.specs.declared.job.Entry.{Entry}
use Rattle.ember_job.specs.Works.{Shape, halved, leafed, passed}

-- which jobs are visited: the root, and the two halves of each visited job that is halved
pub data IsVisited (shape : Job → Shape) (root : Job) : Job → Type 0 where
  root_visited : IsVisited shape root root
  left_visited : (job low high : Job) → IsVisited shape root job → shape job ≡ halved low high →
      IsVisited shape root low
  right_visited : (job low high : Job) → IsVisited shape root job → shape job ≡ halved low high →
      IsVisited shape root high

-- the kind of a shape
abbrev pub kind_of : Shape → Kind
kind_of (halved low high) = Halved
kind_of leafed = Leafed
kind_of passed = Passed

-- the entry of a visited box, by its path and kind, and by its job
abbrev pub entry : ℕ → Kind → Entry
entry path kind = record { path = path; kind = kind }

abbrev pub entry_of : (Job → Shape) → Job → Entry
entry_of shape job = entry job.cell.path (kind_of (shape job))

-- a job of this shape, and if it is halved also what `below` gives for its halves, left half first
abbrev pub below_shape : (Job → List Job) → Job → Shape → List Job
below_shape below job (halved low high) = job ∷ below low ++ below high
below_shape below job leafed = job ∷ []
below_shape below job passed = job ∷ []

-- the visited jobs from a job on, each before those below it, left half first; at most this many halvings deep
abbrev pub visited_within : (Job → Shape) → ℕ → Job → List Job
visited_within shape zero job = job ∷ []
visited_within shape (suc n) job = below_shape (visited_within shape n) job (shape job)

-- all visited jobs below a job, itself first
abbrev pub visited : (Job → Shape) → Job → List Job
visited shape job = visited_within shape (halvings_left job.cell) job

-- the leaves among jobs that are listed in tree order
abbrev pub if_leafed : Job → Shape → List Job
if_leafed job (halved low high) = []
if_leafed job leafed = job ∷ []
if_leafed job passed = []

abbrev pub leaves_among : (Job → Shape) → List Job → List Job
leaves_among shape [] = []
leaves_among shape (job ∷ jobs) = if_leafed job (shape job) ++ leaves_among shape jobs

-- the leaves among the visited jobs below a job
abbrev pub leaves : (Job → Shape) → Job → List Job
leaves shape root = leaves_among shape (visited shape root)
