-- Each kind of step keeps the rule.
use Rattle.std.proofs.Common.{◌≡◌, ◌≢◌, ◌≤◌, ◌<◌, ℕ, zero, suc, ◌+◌, ◌-◌, Bool, true, false, true≢false, List, [], ◌∷◌}
use Rattle.std.proofs.Common.{◌++◌, length, set, sym, refl, ap, ◌∙◌, subst, All, inl, inr, arith}
use mathlib.Core.Option.{some, some-ne-none, some-injective}
use lib.ListN.{get_elem?}
use lib.Seq.{take-append_seam, drop-append_seam}
use Rattle.std.proofs.lemmas.List.Elements.{All-append, All-take, All-drop, All-nil, All-push}
use Rattle.crossbeam_deque.specs.Tasks.{Pushes, Takes, Pops, Forks, Merges, Finds}
use Rattle.crossbeam_deque.proofs.Lists.{at_set, at_snoc}
use Rattle.ember_job.specs.declared.job.Job.{Job}
use Rattle.steal_pool.specs.declared.protocol.HandleView.{HandleView}
use Rattle.ember_job.specs.Weights.{weigh}
use Rattle.steal_pool.specs.Protocol.{handle, owner_lent, guest_lent, Fits, JobsConserved, TookAllPushed}

-- the weight of two lists together is the sum of their weights
pub weigh_append : {X : Type 0} (h : X → ℕ) (xs ys : List X) → weigh h (xs ++ ys) ≡ weigh h xs + weigh h ys
weigh_append h [] ys = omega arith
weigh_append h (x ∷ xs) ys = omega (arith, weigh_append h xs ys)

-- the total after a change of one pass
total_set : (f : HandleView → ℕ) (views : List HandleView) (port : ℕ) (v w : HandleView) →
    get_elem? views port ≡ some v → weigh f (set views port w) + f v ≡ weigh f views + f w
total_set f [] port v w at = absurd (some-ne-none v (sym at))
total_set f (u ∷ us) zero v w at = let e : f u ≡ f v = ap f (some-injective u v at) in omega arith
total_set f (u ∷ us) (suc port) v w at = omega (arith, total_set f us port v w at)

total_at : (f : HandleView → ℕ) (views : List HandleView) (port : ℕ) (v : HandleView) → get_elem? views port ≡ some v → f v ≤ weigh f views
total_at f [] port v at = absurd (some-ne-none v (sym at))
total_at f (u ∷ us) zero v at = let e : f u ≡ f v = ap f (some-injective u v at) in omega arith
total_at f (u ∷ us) (suc port) v at = omega (arith, total_at f us port v at)

total_none : (f : HandleView → ℕ) (views : List HandleView) → ((j : ℕ) (u : HandleView) → get_elem? views j ≡ some u → f u ≡ 0) → weigh f views ≡ 0
total_none f [] all = refl
total_none f (u ∷ us) all = omega (arith, all 0 u refl, total_none f us (λ j w at. all (suc j) w at))

total_one : (f : HandleView → ℕ) (views : List HandleView) (port : ℕ) (v : HandleView) → get_elem? views port ≡ some v →
    ((j : ℕ) (u : HandleView) → get_elem? views j ≡ some u → j ≢ port → f u ≡ 0) → weigh f views ≡ f v
total_one f [] port v at others = absurd (some-ne-none v (sym at))
total_one f (u ∷ us) zero v at others = let e : f u ≡ f v = ap f (some-injective u v at) in
    omega (arith, total_none f us (λ j w there. others (suc j) w there (λ p. absurd (omega arith))))
total_one f (u ∷ us) (suc port) v at others = omega (
  arith,
  others 0 u refl (λ p. absurd (omega arith)),
  total_one f us port v at (λ j w there other. others (suc j) w there (λ p. other (omega arith))),
)

fits_set : (owner : ℕ) (views : List HandleView) (port : ℕ) (w : HandleView) →
    ((j : ℕ) (u : HandleView) → get_elem? views j ≡ some u → Fits owner j u) → Fits owner port w →
    (j : ℕ) (u : HandleView) → get_elem? (set views port w) j ≡ some u → Fits owner j u
fits_set owner views port w all mine j u at =
    elim (at_set views port j w u at) [
      | inl x ↦ subst (λ (y : ℕ × HandleView). Fits owner y.0 y.1) (λ i. (sym x.0 i, x.1 i)) mine
      | inr x ↦ all j u x.1
    ]

-- what an owner and a guest have lent
owner_all : (b : Bool) → b ≡ true → (n : ℕ) → owner_lent b n ≡ n
owner_all b e n = rw e refl

owner_none : (b : Bool) → b ≡ true → (n : ℕ) → guest_lent b n ≡ 0
owner_none b e n = rw e refl

guest_all : (b : Bool) → b ≡ false → (n : ℕ) → guest_lent b n ≡ n
guest_all b e n = rw e refl

guest_none : (b : Bool) → b ≡ false → (n : ℕ) → owner_lent b n ≡ 0
guest_none b e n = rw e refl

-- no handle but the owner's counts passes that are out
owns_alone : (views : List HandleView) (port owner : ℕ) → port ≡ owner →
    ((i : ℕ) (x : HandleView) → get_elem? views i ≡ some x → Fits owner i x) → (j : ℕ) (w : HandleView) →
    get_elem? views j ≡ some w → j ≢ port → owner_lent w.owns w.lent ≡ 0
owns_alone views port owner here fits j w there far = by w.owns refl where
  by : (b : Bool) → w.owns ≡ b → owner_lent w.owns w.lent ≡ 0
  by true e = absurd (far ((fits j w there).0 e ∙ sym here))
  by false e = guest_none w.owns e w.lent

module _ (P : Job → Type 0) where
  left : (xs ys : List Job) → All P (xs ++ ys) → All P xs
  left xs ys h = subst (All P) (take-append_seam xs ys) (All-take P (length xs) (xs ++ ys) h)

  right : (xs ys : List Job) → All P (xs ++ ys) → All P ys
  right xs ys h = subst (All P) (drop-append_seam xs ys) (All-drop P (length xs) (xs ++ ys) h)

  -- the protocol holds of a new deque
  pub protocol_begins : JobsConserved P [] (handle true 0 [] [] ∷ [])
  protocol_begins = record { owner = 0; visited_all = λ i d l. absurd (omega arith); fits = only; same = λ h. refl; lent = refl } where
    only : (port : ℕ) (v : HandleView) → get_elem? (handle true 0 [] [] ∷ []) port ≡ some v → Fits 0 port v
    only zero u at = ((λ _. refl), λ other. absurd (other refl))
    only (suc j) u at = absurd (some-ne-none u (sym at))

  -- a push by the owner keeps the protocol
  pub protocol_pushes : (port : ℕ) (v : HandleView) (xs : List Job) → v.owns ≡ true → All P xs →
      Pushes (JobsConserved P) port v xs (λ w. w ≡ handle v.owns v.lent (v.pushed ++ xs) v.taken)
  protocol_pushes port v xs own new items views k at =
      let w : HandleView = handle v.owns v.lent (v.pushed ++ xs) v.taken in
      let here : port ≡ k.owner = (k.fits port v at).0 own in (
        w,
        record {
          owner = k.owner;
          visited_all = All-append P items xs k.visited_all new;
          fits = fits_set k.owner views port w k.fits ((λ _. here), λ other. absurd (other here));
          same = λ h. omega (
            arith,
            k.same h,
            total_set (λ u. weigh h u.pushed) views port v w at,
            total_set (λ u. weigh h u.taken) views port v w at,
            weigh_append h v.pushed xs,
            weigh_append h items xs,
          );
          lent = omega (
            arith,
            k.lent,
            total_set (λ u. guest_lent u.owns u.lent) views port v w at,
            total_set (λ u. owner_lent u.owns u.lent) views port v w at,
          );
        },
        refl,
      )

  -- a pass has taken xs
  took : (port : ℕ) (v : HandleView) (xs items rest : List Job) (views : List HandleView) →
      (k : JobsConserved P items views) → get_elem? views port ≡ some v → All P rest →
      ((h : Job → ℕ) → weigh h items ≡ weigh h xs + weigh h rest)
      → (v.owns ≡ false → 0 < v.lent) → JobsConserved P rest (set views port (handle v.owns v.lent v.pushed (v.taken ++ xs)))
  took port v xs items rest views k at all split out =
      let w : HandleView = handle v.owns v.lent v.pushed (v.taken ++ xs) in record {
        owner = k.owner;
        visited_all = all;
        fits = fits_set k.owner views port w k.fits (
          (k.fits port v at).0,
          λ other. (((k.fits port v at).1 other).0, λ none. absurd (mine v.owns refl other none)),
        );
        same = λ h. omega (
          arith,
          k.same h,
          split h,
          total_set (λ u. weigh h u.pushed) views port v w at,
          total_set (λ u. weigh h u.taken) views port v w at,
          weigh_append h v.taken xs,
        );
        lent = omega (arith, k.lent, total_set (λ u. guest_lent u.owns u.lent) views port v w at, total_set (λ u. owner_lent u.owns u.lent) views port v w at);
      }
    where
      mine : (b : Bool) → v.owns ≡ b → port ≢ k.owner → v.lent ≡ 0 → ⊥
      mine true e other none = other ((k.fits port v at).0 e)
      mine false e other none = absurd (omega (arith, out e, none))

  -- a handle that may take does, and the protocol holds
  pub protocol_takes : (port : ℕ) (v : HandleView) → (v.owns ≡ false → 0 < v.lent) →
      Takes (JobsConserved P) port v 1 (λ xs w. (w ≡ handle v.owns v.lent v.pushed (v.taken ++ xs)) × All P xs)
  protocol_takes port v out xs items views some_box few k at = (
    handle v.owns v.lent v.pushed (v.taken ++ xs),
    took port v xs (xs ++ items) items views k at (right xs items k.visited_all) (λ h. weigh_append h xs items) out,
    (refl, left xs items k.visited_all),
  )

  -- a handle that may take protocol_pops, and the protocol holds
  pub protocol_pops : (port : ℕ) (v : HandleView) → (v.owns ≡ false → 0 < v.lent) →
      Pops (JobsConserved P) port v (λ xs w. (w ≡ handle v.owns v.lent v.pushed (v.taken ++ xs)) × All P xs)
  protocol_pops port v out x items views k at = (
    handle v.owns v.lent v.pushed (v.taken ++ x ∷ []),
    took port v (x ∷ []) (items ++ x ∷ []) items views k at (left items (x ∷ []) k.visited_all)
        (λ h. omega (arith, weigh_append h items (x ∷ []))) out,
    (refl, right items (x ∷ []) k.visited_all),
  )

  -- a pass is made for a stealer
  pub protocol_lends : (port : ℕ) (v : HandleView) → v.owns ≡ true →
      Forks (JobsConserved P) port v (handle v.owns (v.lent + 1) v.pushed v.taken) (handle false 1 [] [])
  protocol_lends port v own items views k at =
      let w : HandleView = handle v.owns (v.lent + 1) v.pushed v.taken in
      let new : HandleView = handle false 1 [] [] in
      let vs : List HandleView = set views port w in
      let here : port ≡ k.owner = (k.fits port v at).0 own in
      let old = fits_set k.owner views port w k.fits ((λ _. here), λ other. absurd (other here)) in record {
        owner = k.owner;
        visited_all = k.visited_all;
        fits = λ j u there. elim (at_snoc vs new u j there) [
          | inl x ↦ old j u x
          | inr x ↦ (
            (λ p. absurd (true≢false (sym (ap (λ (y : HandleView). y.owns) x ∙ p)))),
            λ other. (ap (λ (y : HandleView). y.pushed) (sym x), λ _. ap (λ (y : HandleView). y.taken) (sym x)),
          )
        ];
        same = λ h. omega (
          arith,
          k.same h,
          total_set (λ u. weigh h u.pushed) views port v w at,
          total_set (λ u. weigh h u.taken) views port v w at,
          weigh_append (λ u. weigh h u.pushed) vs (new ∷ []),
          weigh_append (λ u. weigh h u.taken) vs (new ∷ []),
        );
        lent = omega (
          arith,
          k.lent,
          total_set (λ u. guest_lent u.owns u.lent) views port v w at,
          total_set (λ u. owner_lent u.owns u.lent) views port v w at,
          weigh_append (λ u. guest_lent u.owns u.lent) vs (new ∷ []),
          weigh_append (λ u. owner_lent u.owns u.lent) vs (new ∷ []),
          owner_all v.owns own v.lent,
          owner_none v.owns own v.lent,
          owner_all v.owns own (v.lent + 1),
          owner_none v.owns own (v.lent + 1),
        );
      }

  -- a pass comes back
  pub protocol_takes_back : (port : ℕ) (v : HandleView) (other : ℕ) (u : HandleView) → v.owns ≡ true →
      Merges (JobsConserved P) port v other u (handle v.owns (v.lent - u.lent) v.pushed (v.taken ++ u.taken))
      (handle false 0 [] [])
  protocol_takes_back port v other u own items views k at two there =
      let both : HandleView = handle v.owns (v.lent - u.lent) v.pushed (v.taken ++ u.taken) in
      let spent : HandleView = handle false 0 [] [] in
      let vs : List HandleView = set views port both in
      let here : port ≡ k.owner = (k.fits port v at).0 own in
      let now = fits_set k.owner views port both k.fits ((λ _. here), λ away. absurd (away here)) in
      let none : u.pushed ≡ [] = ((now other u there).1 (λ p. two (p ∙ sym here))).0 in
      let guest : u.owns ≡ false = is_guest u.owns refl (λ p. two ((now other u there).0 p ∙ sym here)) in record {
        owner = k.owner;
        visited_all = k.visited_all;
        fits = fits_set k.owner vs other spent now ((λ p. absurd (true≢false (sym p))), λ _. (refl, λ _. refl));
        same = λ h. omega (
          arith,
          k.same h,
          total_set (λ w. weigh h w.pushed) views port v both at,
          total_set (λ w. weigh h w.taken) views port v both at,
          total_set (λ w. weigh h w.pushed) vs other u spent there,
          total_set (λ w. weigh h w.taken) vs other u spent there,
          weigh_append h v.taken u.taken,
          ap (weigh h) none,
        );
        lent = omega (
          arith,
          k.lent,
          total_set (λ w. guest_lent w.owns w.lent) views port v both at,
          total_set (λ w. owner_lent w.owns w.lent) views port v both at,
          total_set (λ w. guest_lent w.owns w.lent) vs other u spent there,
          total_set (λ w. owner_lent w.owns w.lent) vs other u spent there,
          total_at (λ w. guest_lent w.owns w.lent) vs other u there,
          total_one (λ w. owner_lent w.owns w.lent) views port v at (owns_alone views port k.owner here k.fits),
          owner_all v.owns own v.lent,
          owner_all v.owns own (v.lent - u.lent),
          owner_none v.owns own v.lent,
          owner_none v.owns own (v.lent - u.lent),
          guest_all u.owns guest u.lent,
          guest_none u.owns guest u.lent,
        );
      }
    where
      is_guest : (b : Bool) → u.owns ≡ b → (u.owns ≡ true → ⊥) → u.owns ≡ false
      is_guest true e far = absurd (far e)
      is_guest false e far = e

  -- all passes are back, and the deque is empty
  pub took_all_pushed : (port : ℕ) (v : HandleView) → v.owns ≡ true → Finds (JobsConserved P) port v (TookAllPushed v)
  took_all_pushed port v own views k at back h =
      let here : port ≡ k.owner = (k.fits port v at).0 own in
      omega (
        arith,
        k.same h,
        total_one (λ u. weigh h u.pushed) views port v at (λ j u there far. ap (weigh h) ((k.fits j u there).1 (λ p. far (p ∙ sym here))).0),
        total_one (λ u. weigh h u.taken) views port v at
            (λ j u there far. ap (weigh h) (((k.fits j u there).1 (λ p. far (p ∙ sym here))).1
            (none j u there (λ p. far ((k.fits j u there).0 p ∙ sym here)) (away j u there k.owner here k.fits k.lent)))),
      )
    where
      guest : (u : HandleView) → (u.owns ≡ true → ⊥) → guest_lent u.owns u.lent ≡ u.lent
      guest u far = case u.owns refl where
        case : (b : Bool) → u.owns ≡ b → guest_lent u.owns u.lent ≡ u.lent
        case true e = absurd (far e)
        case false e = rw e refl

      own_zero : owner_lent v.owns v.lent ≡ 0
      own_zero = rw (own, back) refl

      away : (j : ℕ) (u : HandleView) → get_elem? views j ≡ some u → (owner : ℕ) → port ≡ owner →
          ((i : ℕ) (x : HandleView) → get_elem? views i ≡ some x → Fits owner i x) →
          weigh (λ w. guest_lent w.owns w.lent) views ≡ weigh (λ w. owner_lent w.owns w.lent) views →
          guest_lent u.owns u.lent ≡ 0
      away j u there owner here fits lent = omega (
        arith,
        lent,
        own_zero,
        total_at (λ w. guest_lent w.owns w.lent) views j u there,
        total_one (λ w. owner_lent w.owns w.lent) views port v at (owns_alone views port owner here fits),
      )

      none : (j : ℕ) (u : HandleView) → get_elem? views j ≡ some u → (u.owns ≡ true → ⊥) → guest_lent u.owns u.lent ≡ 0 → u.lent ≡ 0
      none j u there far e = omega (arith, guest u far, e)

-- one element
pub All_one : {X : Type 0} (P : X → Type 0) (x : X) → P x → All P (x ∷ [])
All_one P x p = All-push P [] x (All-nil P) p
