-- Passes are made and taken in one after the other.
use Rattle.std.proofs.Common.{◌≡◌, ℕ, zero, suc, ◌+◌, ◌<◌, List, [], ◌∷◌, ◌++◌, length, set, get_or, refl, sym, ap, ◌∙◌, subst, arith}
use Rattle.std.specs.declared.alloc.Global.{Global}
use Rattle.crossbeam_deque.specs.Handles.{Pass, view, IsPassOf, worker_deque, worker_view}
use Rattle.crossbeam_deque.specs.declared.handles.Stealer.{Stealer}
use Rattle.crossbeam_deque.specs.declared.handles.Worker.{Worker}
use Rattle.ember_job.specs.declared.job.Job.{Job}
use Rattle.steal_pool.specs.declared.protocol.HandleView.{HandleView}
use Rattle.ember_job.specs.Weights.{weigh}
use Rattle.steal_pool.specs.Protocol.{with_one_lent, with_returned, new_pass}
use Rattle.steal_pool.specs.Steps.{all_taken}
use Rattle.steal_pool.specs.Owners.{EachOwner, Fresh, Lent, Lends, NewRow, all_pushed, owners_taken, Lending, Absorbing}
use Rattle.steal_pool.proofs.DequeSteps.{weigh_append}

module _ {P : Type 0} where
  owner_at : (Q : HandleView → Type 0) (ts : List (Stealer Job Global HandleView P))
      (os : List (Worker Job Global HandleView P)) (o : Worker Job Global HandleView P) (i : ℕ) → EachOwner Q ts os →
      i < length os → Q (worker_view (get_or os i o))
  owner_at Q [] [] o i e l = absurd (omega arith)
  owner_at Q [] (x ∷ os) o i e l = absurd e
  owner_at Q (t ∷ ts) [] o i e l = absurd e
  owner_at Q (t ∷ ts) (x ∷ os) o zero e l = e.0.1
  owner_at Q (t ∷ ts) (x ∷ os) o (suc i) e l = owner_at Q ts os o i e.1 (omega arith)

  -- the next owner has m passes out, and has pushed and taken nothing
  pub lending_at : (m i : ℕ) (ts : List (Stealer Job Global HandleView P)) (os : List (Worker Job Global HandleView P))
      (ps : List (Pass Job HandleView Global)) (o : Worker Job Global HandleView P) → Lending m i ts os ps →
      i < length os → Fresh m (worker_view (get_or os i o))
  lending_at m zero ts os [] o e l = owner_at (Fresh m) ts os o 0 e l
  lending_at m zero ts os (p ∷ ps) o e l = absurd e
  lending_at m (suc i) (t ∷ ts) (x ∷ os) (p ∷ ps) o e l = lending_at m i ts os ps o e.1 (omega arith)
  lending_at m (suc i) [] os ps o e l = absurd e
  lending_at m (suc i) (t ∷ ts) [] ps o e l = absurd e
  lending_at m (suc i) (t ∷ ts) (x ∷ os) [] o e l = absurd e

  lending_step : (m i : ℕ) (ts : List (Stealer Job Global HandleView P)) (os : List (Worker Job Global HandleView P))
      (ps : List (Pass Job HandleView Global)) (d o : Worker Job Global HandleView P) (p : Pass Job HandleView Global) →
      Lending m i ts os ps
      → i < length os → worker_deque o ≡ worker_deque (get_or os i d) → Fresh (m + 1) (worker_view o) →
      IsPassOf (worker_deque (get_or os i d)) p → view p ≡ new_pass → Lending m (suc i) ts (set os i o) (ps ++ p ∷ [])
  lending_step m zero [] [] [] d o p e l same now pass new = absurd (omega arith)
  lending_step m zero [] (x ∷ os) [] d o p e l same now pass new = absurd e
  lending_step m zero (t ∷ ts) [] [] d o p e l same now pass new = absurd e
  lending_step m zero (t ∷ ts) (x ∷ os) [] d o p e l same now pass new = ((same ∙ e.0.0, now, subst (λ q. IsPassOf q p) e.0.0 pass, new), e.1)
  lending_step m zero ts os (q ∷ ps) d o p e l same now pass new = absurd e
  lending_step m (suc i) (t ∷ ts) (x ∷ os) (q ∷ ps) d o p e l same now pass new = (e.0, lending_step m i ts os ps d o p e.1 (omega arith) same now pass new)
  lending_step m (suc i) [] os ps d o p e l same now pass new = absurd e
  lending_step m (suc i) (t ∷ ts) [] ps d o p e l same now pass new = absurd e
  lending_step m (suc i) (t ∷ ts) (x ∷ os) [] d o p e l same now pass new = absurd e

  -- handles are lent to all deques
  pub lending_end : (m i : ℕ) (ts : List (Stealer Job Global HandleView P)) (os : List (Worker Job Global HandleView P))
      (ps : List (Pass Job HandleView Global)) → Lending m i ts os ps → i ≡ length os →
      EachOwner (Fresh (m + 1)) ts os × NewRow ts ps
  lending_end m zero [] [] [] e l = (tt, record { each = tt; taken = λ h. refl })
  lending_end m zero (t ∷ ts) [] [] e l = absurd e
  lending_end m zero ts (x ∷ os) [] e l = absurd (omega arith)
  lending_end m zero ts os (p ∷ ps) e l = absurd e
  lending_end m (suc i) (t ∷ ts) (x ∷ os) (p ∷ ps) e l =
      let r = lending_end m i ts os ps e.1 (omega arith) in (
        ((e.0.0, e.0.1), r.0),
        record {
          each = ((e.0.2, ap (λ (v : HandleView). v.lent) e.0.3), r.1.each);
          taken = λ h. omega (arith, r.1.taken h, ap (λ (v : HandleView). weigh h v.taken) e.0.3);
        },
      )
  lending_end m (suc i) [] os ps e l = absurd e
  lending_end m (suc i) (t ∷ ts) [] ps e l = absurd e
  lending_end m (suc i) (t ∷ ts) (x ∷ os) [] e l = absurd e

  -- what is known of the next owner and the next pass
  abbrev Next : ℕ → Worker Job Global HandleView P → Pass Job HandleView Global → Type 0
  Next m o p = IsPassOf (worker_deque o) p × ((view p).lent ≡ 1) × Lent (m + 1) (worker_view o)

  absorbing_at : (m i : ℕ) (ts : List (Stealer Job Global HandleView P)) (os : List (Worker Job Global HandleView P))
      (p : Pass Job HandleView Global) (ps : List (Pass Job HandleView Global)) (d : Worker Job Global HandleView P)
      → Absorbing m i ts os (p ∷ ps) → i < length os → Next m (get_or os i d) p
  absorbing_at m zero [] [] p ps d e l = absurd (omega arith)
  absorbing_at m zero [] (x ∷ os) p ps d e l = absurd e.0
  absorbing_at m zero (t ∷ ts) [] p ps d e l = absurd e.0
  absorbing_at m zero (t ∷ ts) (x ∷ os) p ps d e l = (subst (λ q. IsPassOf q p) (sym e.0.0.0) e.1.0.0, e.1.0.1, e.0.0.1)
  absorbing_at m (suc i) (t ∷ ts) (x ∷ os) p ps d e l = absorbing_at m i ts os p ps d e.1 (omega arith)
  absorbing_at m (suc i) [] os p ps d e l = absurd e
  absorbing_at m (suc i) (t ∷ ts) [] p ps d e l = absurd e

  absorbing_step : (m i : ℕ) (ts : List (Stealer Job Global HandleView P)) (os : List (Worker Job Global HandleView P))
      (p : Pass Job HandleView Global) (ps : List (Pass Job HandleView Global)) (d o : Worker Job Global HandleView P)
      → Absorbing m i ts os (p ∷ ps) → i < length os → worker_deque o ≡ worker_deque (get_or os i d) →
      Lent m (worker_view o) → Absorbing m (suc i) ts (set os i o) ps
  absorbing_step m zero [] [] p ps d o e l same now = absurd (omega arith)
  absorbing_step m zero [] (x ∷ os) p ps d o e l same now = absurd e.0
  absorbing_step m zero (t ∷ ts) [] p ps d o e l same now = absurd e.0
  absorbing_step m zero (t ∷ ts) (x ∷ os) p ps d o e l same now = ((same ∙ e.0.0.0, now), (e.0.1, e.1.1))
  absorbing_step m (suc i) (t ∷ ts) (x ∷ os) p ps d o e l same now = (e.0, absorbing_step m i ts os p ps d o e.1 (omega arith) same now)
  absorbing_step m (suc i) [] os p ps d o e l same now = absurd e
  absorbing_step m (suc i) (t ∷ ts) [] p ps d o e l same now = absurd e

  -- at the end each deque has the same number of handles lent, and none is left to take back
  pub absorbing_end : (m i : ℕ) (ts : List (Stealer Job Global HandleView P))
      (os : List (Worker Job Global HandleView P)) (ps : List (Pass Job HandleView Global)) → Absorbing m i ts os ps →
      i ≡ length os → EachOwner (Lent m) ts os × (ps ≡ [])
  absorbing_end m zero [] [] [] e l = (tt, refl)
  absorbing_end m zero [] [] (p ∷ ps) e l = absurd e.1
  absorbing_end m zero (t ∷ ts) [] ps e l = absurd e.0
  absorbing_end m zero ts (x ∷ os) ps e l = absurd (omega arith)
  absorbing_end m (suc i) (t ∷ ts) (x ∷ os) ps e l = let r = absorbing_end m i ts os ps e.1 (omega arith) in ((e.0, r.0), r.1)
  absorbing_end m (suc i) [] os ps e l = absurd e
  absorbing_end m (suc i) (t ∷ ts) [] ps e l = absurd e

  -- passes are left as long as owners are
  pub absorbing_some : (m i : ℕ) (ts : List (Stealer Job Global HandleView P))
      (os : List (Worker Job Global HandleView P)) → Absorbing m i ts os [] → i < length os → ⊥
  absorbing_some m zero [] [] e l = omega arith
  absorbing_some m zero [] (x ∷ os) e l = e.0
  absorbing_some m zero (t ∷ ts) os e l = e.1
  absorbing_some m (suc i) (t ∷ ts) (x ∷ os) e l = absorbing_some m i ts os e.1 (omega arith)
  absorbing_some m (suc i) [] os e l = e
  absorbing_some m (suc i) (t ∷ ts) [] e l = e

  pushed_set : (h : Job → ℕ) (os : List (Worker Job Global HandleView P)) (i : ℕ) (d o : Worker Job Global HandleView P)
      → i < length os → all_pushed h (set os i o) + weigh h (worker_view (get_or os i d)).pushed ≡ all_pushed h os
      + weigh h (worker_view o).pushed
  pushed_set h [] i d o l = absurd (omega arith)
  pushed_set h (x ∷ os) zero d o l = omega arith
  pushed_set h (x ∷ os) (suc i) d o l = omega (arith, pushed_set h os i d o (omega arith))

  owners_taken_set : (h : Job → ℕ) (os : List (Worker Job Global HandleView P)) (i : ℕ)
      (d o : Worker Job Global HandleView P) → i < length os →
      owners_taken h (set os i o) + weigh h (worker_view (get_or os i d)).taken ≡ owners_taken h os
      + weigh h (worker_view o).taken
  owners_taken_set h [] i d o l = absurd (omega arith)
  owners_taken_set h (x ∷ os) zero d o l = omega arith
  owners_taken_set h (x ∷ os) (suc i) d o l = omega (arith, owners_taken_set h os i d o (omega arith))

-- a list keeps its length if one member is set
pub set_length : {X : Type 0} (xs : List X) (i : ℕ) (x : X) → length (set xs i x) ≡ length xs
set_length [] i x = refl
set_length (y ∷ xs) zero x = refl
set_length (y ∷ xs) (suc i) x = ap suc (set_length xs i x)

-- one owner more has made a pass
pub lending_next : {P : Type 0} (m i : ℕ) (ts : List (Stealer Job Global HandleView P))
    (os : List (Worker Job Global HandleView P)) (ps qs : List (Pass Job HandleView Global))
    (d o : Worker Job Global HandleView P) (p : Pass Job HandleView Global)
    → Lending m i ts os ps → i < length os → Lends (get_or os i d) o p → qs ≡ ps ++ p ∷ [] → Lending m (i + 1) ts (set os i o) qs
lending_next m i ts os ps qs d o p e l new is =
    subst (λ k. Lending m k ts (set os i o) qs) next
    (subst (λ rs. Lending m (suc i) ts (set os i o) rs) (sym is)
    (lending_step m i ts os ps d o p e l new.deque now new.of_deque new.pass_is))
  where
    next : suc i ≡ i + 1
    next = omega arith

    now : Fresh (m + 1) (worker_view o)
    now = new.view_is ∙ ap with_one_lent (lending_at m i ts os ps d e l)

-- one owner more has taken in a pass
pub absorbing_next : {P : Type 0} (m i : ℕ) (ts : List (Stealer Job Global HandleView P))
    (os : List (Worker Job Global HandleView P)) (p : Pass Job HandleView Global)
    (qs ps : List (Pass Job HandleView Global)) (d o : Worker Job Global HandleView P)
    → Absorbing m i ts os qs → qs ≡ p ∷ ps → i < length os → worker_deque o ≡ worker_deque (get_or os i d) →
    worker_view o ≡ with_returned (worker_view (get_or os i d)) (view p) → Absorbing m (i + 1) ts (set os i o) ps
absorbing_next m i ts os p qs ps d o e is l same now =
    subst (λ k. Absorbing m k ts (set os i o) ps) next
    (absorbing_step m i ts os p ps d o here l same (
      ap (λ (v : HandleView). v.owns) now ∙ at.2.0,
      omega (arith, ap (λ (v : HandleView). v.lent) now, at.1, at.2.1),
    ))
  where
    next : suc i ≡ i + 1
    next = omega arith

    here : Absorbing m i ts os (p ∷ ps)
    here = subst (λ rs. Absorbing m i ts os rs) is e

    at : Next m (get_or os i d) p
    at = absorbing_at m i ts os p ps d here l

-- the next handle is one of the next deque
pub absorbing_now : {P : Type 0} (m i : ℕ) (ts : List (Stealer Job Global HandleView P))
    (os : List (Worker Job Global HandleView P)) (p : Pass Job HandleView Global)
    (qs ps : List (Pass Job HandleView Global)) (d : Worker Job Global HandleView P)
    → Absorbing m i ts os qs → qs ≡ p ∷ ps → i < length os → Next m (get_or os i d) p
absorbing_now m i ts os p qs ps d e is l = absorbing_at m i ts os p ps d (subst (λ rs. Absorbing m i ts os rs) is e) l

-- taking back a pass doesn't change what was pushed
pub absorbed_pushed : {P : Type 0} (h : Job → ℕ) (os : List (Worker Job Global HandleView P)) (i n : ℕ)
    (p : Pass Job HandleView Global) (d o : Worker Job Global HandleView P) → i < length os
    → worker_view o ≡ with_returned (worker_view (get_or os i d)) (view p) → all_pushed h os ≡ n → all_pushed h (set os i o) ≡ n
absorbed_pushed h os i n p d o l now e = omega (arith, e, pushed_set h os i d o l, ap (λ (v : HandleView). weigh h v.pushed) now)

-- what the pass has taken now counts as taken by the owner
pub absorbed_taken : {P : Type 0} (h : Job → ℕ) (os : List (Worker Job Global HandleView P)) (i n : ℕ)
    (p : Pass Job HandleView Global) (qs ps : List (Pass Job HandleView Global)) (d o : Worker Job Global HandleView P) →
    i < length os
    → worker_view o ≡ with_returned (worker_view (get_or os i d)) (view p) → qs ≡ p ∷ ps →
    owners_taken h os + all_taken h qs ≡ n → owners_taken h (set os i o) + all_taken h ps ≡ n
absorbed_taken h os i n p qs ps d o l now is e =
    omega (
      arith,
      e,
      owners_taken_set h os i d o l,
      ap (λ (v : HandleView). weigh h v.taken) now,
      weigh_append h (worker_view (get_or os i d)).taken (view p).taken,
      ap (all_taken h) is,
    )
