-- Triangles of which no edge is loose are balanced.
use Rattle.std.proofs.Common.{◌≡◌, ◌⊎◌, inl, inr, ◌≤◌, Bool, true, false, cond, List, [], ◌∷◌, None, refl, subst, arith}
use Rattle.std.specs.List.{filter}
use Rattle.std.proofs.lemmas.Bool.{ltb-true, ltb-false}
use Rattle.ember_balance.specs.Loose.{is_loose, least_of, loose_of}
use Rattle.ember_balance.proofs.Edges.{member_from_times}
use Rattle.ember_model.specs.declared.tri.Tri.{Tri}
use Rattle.ember_model.specs.Meshes.{Edge, reversed, edges_in, edge_count, IsBalanced}
use Rattle.ember_model.proofs.SignTests.{clash, In}

-- a member that passes a test is left
some_pass : (p : Edge → Bool) (e : Edge) (es : List Edge) → p e ≡ true → In e es → filter p es ≡ [] → ⊥
some_pass p e [] h m none = absurd m
some_pass p e (f ∷ es) h m none = by (p f) refl none m (some_pass p e es h)
  where
    by : (b : Bool) → p f ≡ b → cond b (f ∷ filter p es) (filter p es) ≡ [] → (e ≡ f) ⊎ In e es → (In e es → filter p es ≡ [] → ⊥) → ⊥
    by true q n m later = cc
    by false q n (inl same) later = clash (subst (λ (g : Edge). p g ≡ true) same h) q
    by false q n (inr m) later = later m n

none_least : (es fs : List Edge) → least_of es fs ≡ None → fs ≡ []
none_least es [] h = refl
none_least es (f ∷ fs) h = cc

module _ (ts : List Tri) (none : least_of (edges_in ts) (filter (is_loose (edges_in ts)) (edges_in ts)) ≡ None) where
  at_most : (e : Edge) → edge_count e (edges_in ts) ≤ edge_count (reversed e) (edges_in ts)
  at_most e = by (is_loose (edges_in ts) e) refl
    where
      by : (b : Bool) → is_loose (edges_in ts) e ≡ b → edge_count e (edges_in ts) ≤ edge_count (reversed e) (edges_in ts)
      by true q =
          let less = ltb-true (edge_count (reversed e) (edges_in ts)) (edge_count e (edges_in ts)) q in
          absurd (some_pass (is_loose (edges_in ts)) e (edges_in ts) q
          (member_from_times e (edges_in ts) (omega (arith, less)))
          (none_least (edges_in ts) (filter (is_loose (edges_in ts)) (edges_in ts)) none))
      by false q = ltb-false (edge_count (reversed e) (edges_in ts)) (edge_count e (edges_in ts)) q

  none_loose : IsBalanced ts
  none_loose e = let there = at_most e in let back = at_most (reversed e) in omega (arith, there, back)

-- no edge of the triangles is loose: they are balanced
pub balanced_if_none : (ts : List Tri) → loose_of ts ≡ None → IsBalanced ts
unfolding loose_of
balanced_if_none ts h = none_loose ts h
