-- A worker's passes, one on each deque.
use Rattle.std.proofs.Common.{◌≡◌, ℕ, zero, suc, ◌+◌, ◌<◌, List, [], ◌∷◌, length, set, get_or, refl, ap, arith, Option, Some, None}
use Rattle.std.specs.declared.alloc.Global.{Global}
use Rattle.crossbeam_deque.specs.Handles.{Pass, view, IsPassOf, stealer_deque}
use Rattle.crossbeam_deque.specs.declared.handles.Stealer.{Stealer}
use Rattle.ember_job.specs.declared.job.Job.{Job}
use Rattle.steal_pool.specs.declared.protocol.HandleView.{HandleView}
use Rattle.ember_job.specs.Weights.{weigh}
use Rattle.steal_pool.specs.Protocol.{with_taken, IsTake}
use Rattle.steal_pool.specs.Steps.{all_taken, EachPass, StealsOne}
use Rattle.steal_pool.proofs.DequeSteps.{weigh_append}

module _ {P : Type 0} where
  -- there is one pass on each deque
  pub each_length : (ts : List (Stealer Job Global HandleView P)) (ps : List (Pass Job HandleView Global)) → EachPass ts ps → length ts ≡ length ps
  each_length [] [] e = refl
  each_length [] (p ∷ ps) e = absurd e
  each_length (t ∷ ts) [] e = absurd e
  each_length (t ∷ ts) (p ∷ ps) e = ap suc (each_length ts ps e.1)

  -- the pass with index i is one on the deque with index i, and not spent
  pub each_at : (ts : List (Stealer Job Global HandleView P)) (ps : List (Pass Job HandleView Global)) (i : ℕ)
      (t : Stealer Job Global HandleView P) (p : Pass Job HandleView Global) → EachPass ts ps → i < length ps
      → IsPassOf (stealer_deque (get_or ts i t)) (get_or ps i p) × ((view (get_or ps i p)).lent ≡ 1)
  each_at [] [] i t p e h = absurd (omega arith)
  each_at [] (q ∷ ps) i t p e h = absurd e
  each_at (u ∷ ts) [] i t p e h = absurd e
  each_at (u ∷ ts) (q ∷ ps) zero t p e h = e.0
  each_at (u ∷ ts) (q ∷ ps) (suc i) t p e h = each_at ts ps i t p e.1 (omega arith)

  -- a pass may be replaced by another one on the same deque that isn't spent
  pub each_set : (ts : List (Stealer Job Global HandleView P)) (ps : List (Pass Job HandleView Global)) (i : ℕ)
      (t : Stealer Job Global HandleView P) (q : Pass Job HandleView Global) → EachPass ts ps →
      IsPassOf (stealer_deque (get_or ts i t)) q → (view q).lent ≡ 1 → EachPass ts (set ps i q)
  each_set [] [] i t q e h one = e
  each_set [] (p ∷ ps) i t q e h one = absurd e
  each_set (u ∷ ts) [] i t q e h one = absurd e
  each_set (u ∷ ts) (p ∷ ps) zero t q e h one = ((h, one), e.1)
  each_set (u ∷ ts) (p ∷ ps) (suc i) t q e h one = (e.0, each_set ts ps i t q e.1 h one)

taken_set : (h : Job → ℕ) (ps : List (Pass Job HandleView Global)) (i : ℕ) (p q : Pass Job HandleView Global) →
    i < length ps → all_taken h (set ps i q) + weigh h (view (get_or ps i p)).taken ≡ all_taken h ps
    + weigh h (view q).taken
taken_set h [] i p q l = absurd (omega arith)
taken_set h (r ∷ ps) zero p q l = omega arith
taken_set h (r ∷ ps) (suc i) p q l = omega (arith, taken_set h ps i p q (omega arith))

-- nothing was stolen
taken_none : (ps : List (Pass Job HandleView Global)) (i : ℕ) (p q : Pass Job HandleView Global) → i < length ps →
    view q ≡ view (get_or ps i p) → (h : Job → ℕ) → all_taken h (set ps i q) ≡ all_taken h ps
taken_none ps i p q l e h = omega (arith, taken_set h ps i p q l, ap (λ (v : HandleView). weigh h v.taken) e)

-- a box was stolen
taken_one : (ps : List (Pass Job HandleView Global)) (i : ℕ) (p q : Pass Job HandleView Global) (x : Job) →
    i < length ps → view q ≡ with_taken (view (get_or ps i p)) (x ∷ []) → (h : Job → ℕ) →
    all_taken h (set ps i q) ≡ all_taken h ps + h x
taken_one ps i p q x l e h = omega (
  arith,
  taken_set h ps i p q l,
  ap (λ (v : HandleView). weigh h v.taken) e,
  weigh_append h (view (get_or ps i p)).taken (x ∷ []),
)

-- the same for what a steal answers
pub taken_steal : (V : Job → Type 0) (r : Option Job) (ps : List (Pass Job HandleView Global)) (i : ℕ)
    (p q : Pass Job HandleView Global) → i < length ps → IsTake V r (view (get_or ps i p)) (view q) →
    StealsOne V r ps (set ps i q)
taken_steal V None ps i p q l e = taken_none ps i p q l e
taken_steal V (Some x) ps i p q l e = (e.1, taken_one ps i p q x l e.0)
