-- Of the loose edges of triangles only one is the least, and it is the one that the definition finds
use Rattle.std.proofs.Common.{◌≡◌, inl, inr, Bool, true, false, cond, Option, Some, None, List, [], ◌∷◌, refl, sym, ap, subst, ◌∙◌, arith}
use Rattle.std.specs.Option.{MatchOption}
use Rattle.std.specs.List.{filter}
use Rattle.std.proofs.lemmas.Bool.{ltb-true, lt-ltb, le-ltb, false_from_ne_true}
use Rattle.ember_model.specs.declared.tri.Tri.{Tri}
use Rattle.ember_model.specs.Meshes.{Edge, reversed, edges_in, edge_count, IsBalanced}
use Rattle.ember_model.proofs.SignTests.{clash, In}
use Rattle.ember_balance.specs.declared.loose.Loose.{Loose}
use Rattle.ember_balance.specs.Loose.{comes_before, is_loose, least_from, with_counts, least_of, loose_of, edge_of, IsLeastLoose}
use Rattle.ember_balance.proofs.EdgeNumbers.{one_edge}
use Rattle.ember_balance.proofs.Edges.{member_from_times}

-- ---- members that pass a test
none_pass : (p : Edge → Bool) → ((e : Edge) → p e ≡ false) → (es : List Edge) → filter p es ≡ []
none_pass p h [] = refl
none_pass p h (e ∷ es) = rw (h e) (none_pass p h es)

member_passes : (p : Edge → Bool) (e : Edge) (es : List Edge) → p e ≡ true → In e es → In e (filter p es)
member_passes p e [] h m = absurd m
member_passes p e (f ∷ es) h (inl q) = rw (subst (λ (g : Edge). p g ≡ true) q h) (inl q)
member_passes p e (f ∷ es) h (inr m) = by (p f) (member_passes p e es h m)
  where
    by : (b : Bool) → In e (filter p es) → In e (cond b (f ∷ filter p es) (filter p es))
    by true r = inr r
    by false r = r

passes_member : (p : Edge → Bool) (e : Edge) (es : List Edge) → In e (filter p es) → p e ≡ true
passes_member p e [] m = absurd m
passes_member p e (f ∷ es) m = by (p f) refl m (passes_member p e es)
  where
    by : (b : Bool) → p f ≡ b → In e (cond b (f ∷ filter p es) (filter p es)) → (In e (filter p es) → p e ≡ true) → p e ≡ true
    by true h (inl q) k = subst (λ (g : Edge). p g ≡ true) (sym q) h
    by true h (inr m) k = k m
    by false h m k = k m

-- ---- the least
-- no edge of the list comes before e
abbrev NoneBefore : Edge → List Edge → Type 0
NoneBefore e fs = (f : Edge) → In f fs → comes_before f e ≡ false

none_before : (e f : Edge) (fs : List Edge) → comes_before f e ≡ false → NoneBefore e fs → NoneBefore e (f ∷ fs)
none_before e f fs b h k (inl q) = subst (λ (i : Edge). comes_before i e ≡ false) (sym q) b
none_before e f fs b h k (inr m) = h k m

least_is : (e f : Edge) (fs : List Edge) → In e (f ∷ fs) → NoneBefore e (f ∷ fs) → least_from f fs ≡ e
least_is e f [] (inl p) h = sym p
least_is e f [] (inr m) h = absurd m
least_is e f (g ∷ gs) m h =
    by (λ k b n. least_is e k gs n (none_before e k gs b (λ j r. h j (inr (inr r))))) (comes_before g f) refl m
  where
    g_not_before : comes_before g e ≡ false
    g_not_before = h g (inr (inl refl))

    f_not_before : comes_before f e ≡ false
    f_not_before = h f (inl refl)

    by : ((k : Edge) → comes_before k e ≡ false → In e (k ∷ gs) → least_from k gs ≡ e) → (b : Bool) →
        comes_before g f ≡ b → In e (f ∷ g ∷ gs) → least_from (cond b g f) gs ≡ e
    by next true l (inl p) =
        absurd (clash (subst (λ (k : Edge). comes_before g k ≡ true) (sym p) l) g_not_before)
    by next true l (inr r) = next g g_not_before r
    by next false l (inl p) = next f f_not_before (inl p)
    by next false l (inr (inr r)) = next f f_not_before (inr r)
    by next false l (inr (inl q)) =
        next f f_not_before (inl (sym (one_edge f e f_not_before (subst (λ (k : Edge). comes_before k f ≡ false) (sym q) l))))

least_of_is : (es fs : List Edge) (e : Edge) → In e fs → NoneBefore e fs → least_of es fs ≡ Some (with_counts es e)
least_of_is es [] e m h = absurd m
least_of_is es (f ∷ fs) e m h = ap (λ (k : Edge). Some (with_counts es k)) (least_is e f fs m h)

-- balanced triangles have no loose edge
pub loose_of_balanced : (ts : List Tri) → IsBalanced ts → loose_of ts ≡ None
unfolding loose_of
loose_of_balanced ts h =
    ap (least_of (edges_in ts)) (none_pass (is_loose (edges_in ts)) (λ e. let q = h e in le-ltb _ _ (omega (arith, q))) (edges_in ts))

module _ (ts : List Tri) (l : Loose) (h : IsLeastLoose ts l) where
  abbrev es : List Edge
  es = edges_in ts

  abbrev e : Edge
  e = edge_of l

  there : l.there ≡ edge_count e es
  there = h.there

  back : l.back ≡ edge_count (reversed e) es
  back = h.back

  counts : with_counts es e ≡ l
  counts = λ i. record { from = l.from; to = l.to; there = sym there i; back = sym back i }

  loose : is_loose es e ≡ true
  loose = lt-ltb _ _ (omega (arith, there, back, h.more))

  standing : In e es
  standing = member_from_times e es (omega (arith, there, back, h.more))

  first : NoneBefore e (filter (is_loose es) es)
  first f m =
      false_from_ne_true _ (λ b. let more = ltb-true (edge_count (reversed f) es) (edge_count f es)
      (passes_member (is_loose es) f es m) in let most = h.least f b in omega (arith, more, most))

  loose_of_least : loose_of ts ≡ Some l
  unfolding loose_of
  loose_of_least =
      least_of_is es (filter (is_loose es) es) e (member_passes (is_loose es) e es loose standing) first ∙ ap Some counts

-- the least loose edge is the one that the definition gives
pub loose_is : (ts : List Tri) (o : Option Loose) → MatchOption o (IsBalanced ts) (λ l. IsLeastLoose ts l) → o ≡ loose_of ts
loose_is ts None h = sym (loose_of_balanced ts h)
loose_is ts (Some l) h = sym (loose_of_least ts l h)
