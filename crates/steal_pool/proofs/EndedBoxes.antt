-- A box that ended as a leaf, or by its halves.
use Rattle.std.proofs.Common.{◌≡◌, ℕ, ◌+◌, ◌*◌, All, List, [], ◌∷◌, ◌++◌, ◌∙◌, sym, ap, subst, Some, None, arith}
use Rattle.std.proofs.lemmas.List.Elements.{All-push}
use Rattle.ember_box.specs.Boxes.{halvings_left}
use Rattle.ember_job.specs.declared.job.Job.{Job}
use Rattle.ember_job.specs.declared.job.Entry.{Entry}
use Rattle.ember_job.specs.declared.job.Kind.TheVariants.{Halved, Leafed}
use Rattle.ember_job.specs.declared.job.Outcome.TheVariants.{Halves, Leaf}
use Rattle.ember_job.specs.Visited.{entry}
use Rattle.ember_job.specs.Weights.{weigh}
use Rattle.ember_tree.specs.declared.part.Part.{Part}
use Rattle.steal_pool.specs.declared.heap_jobs.HalfJobs.{HalfJobs}
use Rattle.steal_pool.specs.declared.output.Output.{Output}
use Rattle.steal_pool.specs.Steps.{Weight, OutcomeFits, IsPart, AreHalves, EndsBox, by_path, at_entry, at_left, at_halves}
use Rattle.steal_pool.proofs.DequeSteps.{weigh_append}

entered : {I : Type 0} (h : Entry → ℕ) (old new : Output I) (e : Entry) →
    new.journal.items ≡ old.journal.items ++ e ∷ [] → weigh h new.journal.items ≡ weigh h old.journal.items + h e
entered h old new e is = omega (arith, ap (weigh h) is, weigh_append h old.journal.items (e ∷ []))

-- a leaf's entry and item were added
pub leaf_ends : {I : Type 0} (visited : Job → Type 0) (answers : Job → I →
    Type 0) (w : Weight) (j : Job) (old new : Output I) (item : I) (p : ℕ) → p ≡ j.cell.path →
    new.journal.items ≡ old.journal.items ++ entry p Leafed ∷ [] →
    new.parts.items ≡ old.parts.items ++ record { path = p; item = item } ∷ [] →
    OutcomeFits visited answers w j (Leaf item) → EndsBox w j old new None
leaf_ends visited answers w j old new item p here is there fits = record {
  sums = λ h g. omega (
    arith,
    entered h old new (entry p Leafed) is,
    ap (weigh (by_path g)) there,
    weigh_append (by_path g) old.parts.items (record { path = p; item = item } ∷ []),
    fits.1 h g,
    ap (λ q. h (entry q Leafed)) here,
    ap g here,
  );
  path = λ h. omega (arith, entered (at_entry h) old new (entry p Leafed) is, ap h here);
  left = λ h. omega (arith, entered (at_left h) old new (entry p Leafed) is);
  both = λ h. omega (arith, entered (at_halves h) old new (entry p Leafed) is);
}

-- and its item answers
pub leaf_parts : {I : Type 0} (visited : Job → Type 0) (answers : Job → I →
    Type 0) (w : Weight) (j : Job) (old new : List (Part I)) (item : I) (p : ℕ) → p ≡ j.cell.path →
    new ≡ old ++ record { path = p; item = item } ∷ [] → visited j → OutcomeFits visited answers w j (Leaf item) →
    All (IsPart visited answers) old → All (IsPart visited answers) new
leaf_parts visited answers w j old new item p here there is_visited fits found =
    subst (All (IsPart visited answers)) (sym there)
    (All-push (IsPart visited answers) old (record { path = p; item = item }) found
    (record { job = j; is_visited = is_visited; path = here; item = fits.0 }))

-- the entry of a box with halves was added; the halves lie in boxes
pub halves_end : {I : Type 0} (visited : Job → Type 0) (answers : Job → I →
    Type 0) (w : Weight) (j left right : Job) (b : HalfJobs) (old new : Output I) (p : ℕ) → p ≡ j.cell.path →
    b.left ≡ left → b.right ≡ right → new.journal.items ≡ old.journal.items ++ entry p Halved ∷ [] →
    new.parts.items ≡ old.parts.items → OutcomeFits visited answers w j (Halves left right) → EndsBox w j old new (Some b)
halves_end visited answers w j left right b old new p here l r is there fits =
    let left_at : b.left.cell.path ≡ 2 * p = ap (λ (x : Job). x.cell.path) l ∙ fits.2 ∙ ap (λ q. 2 * q) (sym here) in
    let right_at : b.right.cell.path ≡ 2 * p + 1 = ap (λ (x : Job). x.cell.path) r ∙ fits.3 ∙ ap (λ q. 2 * q + 1) (sym here) in record {
      sums = λ h g. omega (
        arith,
        entered h old new (entry p Halved) is,
        ap (weigh (by_path g)) there,
        fits.6 h g,
        ap (λ q. h (entry q Halved)) here,
        ap (w h g) l,
        ap (w h g) r,
      );
      path = λ h. omega (arith, entered (at_entry h) old new (entry p Halved) is, ap h here);
      left = λ h. omega (arith, entered (at_left h) old new (entry p Halved) is, ap h left_at);
      both = λ h. omega (arith, entered (at_halves h) old new (entry p Halved) is, ap h left_at, ap h right_at);
    }

-- the halves of an outcome that fits are those of visited boxes
pub halves_fit : {I : Type 0} (visited : Job → Type 0) (answers : Job → I →
    Type 0) (w : Weight) (j left right : Job) (b : HalfJobs) → b.left ≡ left → b.right ≡ right →
    OutcomeFits visited answers w j (Halves left right) → AreHalves visited j (Some b)
halves_fit visited answers w j left right b l r fits = (
  subst visited (sym l) fits.0,
  subst visited (sym r) fits.1,
  ap (λ (x : Job). halvings_left x.cell + 1) l ∙ fits.4,
  ap (λ (x : Job). halvings_left x.cell + 1) r ∙ fits.5,
)
