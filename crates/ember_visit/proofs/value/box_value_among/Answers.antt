use Rattle.std.proofs.Common.{◌≡◌, ℕ, Option, None, Some, IfSome, ◌∙◌, sym, rules, List, ℤ, Bool}
use Rattle.ember_expr.specs.Formula.{Formula, formula_of, IsMeshNumber}
use Rattle.ember_expr.specs.Truth.{truth}
use Rattle.ember_known.specs.Masks.{is_in}
use Rattle.ember_known.specs.Laws.{AgreeOutside}
use Rattle.ember_box.specs.Near.{listed}
use Rattle.ember_visit.specs.Values.{has_mesh, box_value}
use Rattle.ember_visit.proofs.value.box_value_among.Goals as goal

pub meshes_of-requires-clause-numbered : goal.meshes_of-requires-clause-numbered
meshes_of-requires-clause-numbered c = c.requires.numbered

pub meshes_of-requires-clause-places : goal.meshes_of-requires-clause-places
meshes_of-requires-clause-places c = search rules

pub known-requires : goal.known-requires
known-requires c = c.requires.counts

same_meshes : (c : goal.After-known) (n : ℕ) → IsMeshNumber 64 n → is_in c.meshes_of.result.0 n ≡ has_mesh (listed c.args.tris.now c.args.job.now.list) n
same_meshes c n fit = c.meshes_of.ensures n fit ∙ (λ i. has_mesh (listed c.args.tris.now (c.items.ensures i)) n)

pub returns-clause-value : goal.returns-clause-value
unfolding box_value
returns-clause-value c = c.known.ensures.same (has_mesh (listed c.args.tris.now c.args.job.now.list)) (same_meshes c)

-- the law for one set of undecided meshes is that for another with the same meshes
other_set : (u w : ℕ → Bool) (counts : List ℤ) (f : Formula) (o : Option Bool) →
    ((n : ℕ) → IsMeshNumber 64 n → u n ≡ w n) → IfSome o (λ b. (others : List ℤ) → AgreeOutside u counts others →
    truth others f ≡ b) → IfSome o (λ b. (others : List ℤ) → AgreeOutside w counts others → truth others f ≡ b)
other_set u w counts f None same law = law
other_set u w counts f (Some b) same law = λ others agree. law others (record { same = λ n fit e. agree.same n fit (sym (same n fit) ∙ e) })

pub returns-clause-law : goal.returns-clause-law
returns-clause-law c = other_set (is_in c.meshes_of.result.0) (has_mesh (listed c.args.tris.now c.args.job.now.list))
    c.args.job.now.at.counts (formula_of c.args.e.now) c.known.result (same_meshes c) c.known.ensures.law
