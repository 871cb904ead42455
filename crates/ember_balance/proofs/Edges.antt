-- Edges that are equal, how often they occur, and lists of them
use Rattle.std.proofs.Common.{◌≡◌, ◌⊎◌, inl, inr, ℕ, ◌+◌, ◌*◌, ◌<◌, Bool, true, false, cond, List, [], ◌∷◌, ◌++◌}
use Rattle.std.proofs.Common.{map, length, take, get_or, refl, sym, ap, subst, ◌∙◌, arith, eqb}
use Rattle.std.specs.List.{All, AllByRecursion}
use Rattle.std.proofs.lemmas.List.{take_more, map-append}
use Rattle.std.proofs.lemmas.Bool.{eq-eqb, eqb-true, ne_eqb}
use Rattle.std.proofs.lemmas.List.Elements.{All-head, All-tail, All-weaker}
use Rattle.ember_algebra.proofs.Sums.{occurrences-map}
use Rattle.ember_model.specs.declared.tri.Tri.{Tri}
use Rattle.ember_model.specs.Limits.{broad_limit}
use Rattle.ember_model.specs.Valid.{IsValidTri}
use Rattle.ember_model.specs.Meshes.{Edge, reversed, edges_in, same_edge, edge_count}
use Rattle.ember_model.specs.Within.{IsTriWithin}
use Rattle.ember_model.proofs.PlaneSizes.{tri_broad}
use Rattle.ember_model.proofs.SignTests.{clash, In}
use Rattle.ember_model.proofs.SameEdges.{same_edge_out, same_edge-refl}
use Rattle.ember_model.proofs.SameEdges.{same_edge_reversed}
use Rattle.ember_balance.specs.Counts.{count}
use Rattle.ember_balance.specs.Numbers.{edge_number, two_way_number, IsBroadEdge}

-- ---- equal edges
-- an edge is as often a reverse as its own reverse is an edge
pub times_reversed : (e : Edge) (es : List Edge) → edge_count e (map reversed es) ≡ edge_count (reversed e) es
times_reversed = occurrences-map same_edge reversed reversed same_edge_reversed

-- ---- by their numbers
module _ (number : Edge → ℕ) (one : (e f : Edge) → IsBroadEdge e → IsBroadEdge f → number e ≡ number f → e ≡ f) where
  same_by_number : (e f : Edge) → IsBroadEdge e → IsBroadEdge f → same_edge e f ≡ eqb (number e) (number f)
  same_by_number e f v w = by (same_edge e f) refl
    where
      by : (b : Bool) → same_edge e f ≡ b → b ≡ eqb (number e) (number f)
      by true h = sym (eq-eqb _ _ (ap number (same_edge_out e f h)))
      by false h =
          sym (ne_eqb _ _ (λ n. clash (subst (λ (g : Edge). same_edge e g ≡ true) (one e f v w n) (same_edge-refl e)) h))

  -- an edge occurs as often as its number among the numbers
  pub times_is_count : (e : Edge) → IsBroadEdge e → (es : List Edge) → AllByRecursion IsBroadEdge es → edge_count e es ≡ count (number e) (map number es)
  times_is_count e v [] a = refl
  times_is_count e v (f ∷ es) a =
      let t = times_is_count e v es a.1 in
      let s = same_by_number e f v a.0 in
      λ i. cond (s i) 1 0 + t i

-- ---- the edges of triangles
-- valid triangles are within the broad limit
pub tris_broad : (ts : List Tri) → All IsValidTri ts → All (IsTriWithin broad_limit) ts
tris_broad = All-weaker IsValidTri (IsTriWithin broad_limit) (λ t. tri_broad)

-- the edges of triangles on the broad grid are on it
pub broad_edges : (ts : List Tri) → All (IsTriWithin broad_limit) ts → AllByRecursion IsBroadEdge (edges_in ts)
broad_edges [] h = tt
broad_edges (t ∷ ts) h =
    let v = All-head (IsTriWithin broad_limit) t ts h in
    (record { from = v.a; to = v.b }, (record { from = v.b; to = v.c }, (record { from = v.c; to = v.a }, broad_edges ts (All-tail (IsTriWithin broad_limit) t ts h))))

-- the reverses of edges on the broad grid are on it
pub broad_reversed : (es : List Edge) → AllByRecursion IsBroadEdge es → AllByRecursion IsBroadEdge (map reversed es)
broad_reversed [] a = tt
broad_reversed (e ∷ es) a = (record { from = a.0.to; to = a.0.from }, broad_reversed es a.1)

-- triangles have three edges each
pub length-edges_in : (ts : List Tri) → length (edges_in ts) ≡ 3 * length ts
length-edges_in [] = refl
length-edges_in (t ∷ ts) = omega (arith, length-edges_in ts)

-- the edges of two lists of triangles are those of the first, and then those of the second
pub edges_in-append : (ts us : List Tri) → edges_in (ts ++ us) ≡ edges_in ts ++ edges_in us
edges_in-append [] us = refl
edges_in-append (t ∷ ts) us = let r = edges_in-append ts us in
    λ i. record { from = t.a; to = t.b } ∷ record { from = t.b; to = t.c } ∷ record { from = t.c; to = t.a } ∷ r i

abbrev IsLaidOut : (List Edge → List ℕ) → Type 0
IsLaidOut f = (es gs : List Edge) → f (es ++ gs) ≡ f es ++ f gs

more : (f : List Edge → List ℕ) → IsLaidOut f → (ts : List Tri) (i : ℕ) (d : Tri) (ns ms : List ℕ) → i < length ts →
    ns ≡ f (edges_in (take i ts)) → ms ≡ ns ++ f (edges_in (get_or ts i d ∷ [])) → ms ≡ f (edges_in (take (i + 1) ts))
more f h ts i d ns ms l e g =
    let t = get_or ts i d ∷ [] in
    let laid : f (edges_in (take (i + 1) ts)) ≡ f (edges_in (take i ts)) ++ f (edges_in t) =
    ap (λ (us : List Tri). f (edges_in us)) (take_more ts i d l) ∙ ap f (edges_in-append (take i ts) t)
    ∙ h (edges_in (take i ts)) (edges_in t) in
    g ∙ ap (λ (ks : List ℕ). ks ++ f (edges_in t)) e ∙ sym laid

-- the numbers of the edges of one triangle more
pub there_more : (ts : List Tri) (i : ℕ) (d : Tri) (ns ms : List ℕ) → i < length ts →
    ns ≡ map edge_number (edges_in (take i ts)) → ms ≡ ns ++ map edge_number (edges_in (get_or ts i d ∷ [])) →
    ms ≡ map edge_number (edges_in (take (i + 1) ts))
there_more = more (map edge_number) (map-append edge_number)

-- the two-way numbers of the edges of one triangle more
pub two_way_more : (ts : List Tri) (i : ℕ) (d : Tri) (ns ms : List ℕ) → i < length ts →
    ns ≡ map two_way_number (edges_in (take i ts)) → ms ≡ ns ++ map two_way_number (edges_in (get_or ts i d ∷ [])) →
    ms ≡ map two_way_number (edges_in (take (i + 1) ts))
two_way_more = more (map two_way_number) (map-append two_way_number)

-- the numbers of the reversed edges of one triangle more
pub back_more : (ts : List Tri) (i : ℕ) (d : Tri) (ns ms : List ℕ) → i < length ts →
    ns ≡ map edge_number (map reversed (edges_in (take i ts))) →
    ms ≡ ns ++ map edge_number (map reversed (edges_in (get_or ts i d ∷ []))) →
    ms ≡ map edge_number (map reversed (edges_in (take (i + 1) ts)))
back_more =
    more (λ es. map edge_number (map reversed es))
    (λ es gs. ap (map edge_number) (map-append reversed es gs)
    ∙ map-append edge_number (map reversed es) (map reversed gs))

-- ---- members
-- an edge that occurs at least once is a member
pub member_from_times : (e : Edge) (es : List Edge) → 0 < edge_count e es → In e es
member_from_times e [] l = absurd (omega (arith, l))
member_from_times e (f ∷ es) l = by (same_edge e f) refl l (member_from_times e es)
  where
    by : (b : Bool) → same_edge e f ≡ b → 0 < cond b 1 0 + edge_count e es → (0 < edge_count e es → In e es) → (e ≡ f) ⊎ In e es
    by true h l k = inl (same_edge_out e f h)
    by false h l k = inr (k (omega (arith, l)))

-- a member of a list of edges on the broad grid is on it
pub broad_member : (e : Edge) (es : List Edge) → In e es → AllByRecursion IsBroadEdge es → IsBroadEdge e
broad_member e [] m a = absurd m
broad_member e (f ∷ es) (inl p) a = subst IsBroadEdge (sym p) a.0
broad_member e (f ∷ es) (inr m) a = broad_member e es m a.1

pub record Numbered (k : ℕ) (es : List Edge) : Type 0 where
  pub edge : Edge
  pub member : In edge es
  pub number : edge_number edge ≡ k

-- a number that occurs among the edges' numbers is that of some edge
pub member_from_count : (k : ℕ) (es : List Edge) → 0 < count k (map edge_number es) → Numbered k es
member_from_count k [] l = absurd (omega (arith, l))
member_from_count k (f ∷ es) l = by (eqb k (edge_number f)) refl l (member_from_count k es)
  where
    by : (b : Bool) → eqb k (edge_number f) ≡ b → 0 < cond b 1 0 + count k (map edge_number es) →
        (0 < count k (map edge_number es) → Numbered k es) → Numbered k (f ∷ es)
    by true h l r = record { edge = f; member = inl refl; number = sym (eqb-true k (edge_number f) h) }
    by false h l r =
        let n = r (omega (arith, l)) in record { edge = n.edge; member = inr n.member; number = n.number }
