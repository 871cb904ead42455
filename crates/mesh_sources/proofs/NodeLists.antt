-- Lists of nodes
use Rattle.std.proofs.Common.{◌≡◌, ◌⊎◌, ⊎_elim, inl, inr, ℕ, zero, suc, ◌-◌, ◌≤◌, ◌<◌, refl, sym, ap, ◌∙◌, subst, arith, List, [], ◌∷◌, ◌++◌, length, get_or, Some, None, Option, pos}
use Rattle.std.specs.List.{slice_get, Contains}
use Rattle.std.specs.Option.{option_map}
use Rattle.std.proofs.lemmas.Option.{slice_get-get_or, slice_get-map, slice_get_within}
use Rattle.ember_algebra.proofs.Booleans.{same_some}
use Rattle.ember_model.specs.declared.point.Corner.{Corner}
use Rattle.ember_model.specs.declared.tri.Tri.{Tri}
use Rattle.mesh_sources.specs.declared.items.Item.{Item}
use Rattle.mesh_sources.specs.declared.nodes.Bounds.{Bounds}
use Rattle.mesh_sources.specs.declared.nodes.Node.{Node}
use Rattle.mesh_sources.specs.declared.spans.Span.{Span}
use Rattle.mesh_sources.specs.Nodes.{AreBoundsFrom, AreBoundsOf, AreBoundsWithin, IsNode, AreNodes, items_in}
use Rattle.mesh_sources.proofs.Bounded.{bounds_widened}

-- what a list has past its end
abbrev pub no_corner : Corner
no_corner = record { x = pos 0; y = pos 0; z = pos 0 }

abbrev pub no_tri : Tri
no_tri = record { a = no_corner; b = no_corner; c = no_corner; mesh = 0 }

abbrev pub no_item : Item
no_item = record { number = 0; tri = no_tri; mark = pos 0; place = 0 }

abbrev pub no_span : Span
no_span = record { low = pos 0; high = pos 0 }

abbrev pub no_node : Node
no_node =
    record { item = no_item; start = 0; bounds = record { mark = no_span; around = record { x = no_span; y = no_span; z = no_span } } }

none_is_some : {X P : Type 0} {x : X} → None ≡ Some x → P
none_is_some e = cc

-- an element of a list with one more at its end
pub get_push : {X : Type 0} (xs : List X) (x : X) (i : ℕ) (y : X) → slice_get (xs ++ x ∷ []) i ≡ Some y →
    (slice_get xs i ≡ Some y) ⊎ ((i ≡ length xs) × (x ≡ y))
get_push [] x zero y e = inr (refl, same_some e)
get_push [] x (suc i) y e = none_is_some e
get_push (z ∷ xs) x zero y e = inl e
get_push (z ∷ xs) x (suc i) y e =
    ⊎_elim (λ h. inl h) (λ h. inr (omega (arith, h.0), h.1)) (get_push xs x i y e)

module _ (ns : List Node) (n : Node) (are : AreNodes ns) (start : n.start ≤ length ns) (own : AreBoundsOf n.bounds n.item.tri) (from : AreBoundsFrom ns n.start n.bounds) where
  old : (i : ℕ) (m : Node) → slice_get ns i ≡ Some m → IsNode (ns ++ n ∷ []) i m
  old i m here =
      let h = are i m here in record {
        start = h.start;
        bounds = λ j o l k e. ⊎_elim (λ b. h.bounds j o l k b)
            (λ b. absurd (omega (arith, k, b.0, slice_get_within ns i m here))) (get_push ns n j o e);
      }

  new : IsNode (ns ++ n ∷ []) (length ns) n
  new =
      record {
        start = start;
        bounds = λ j o l k e. ⊎_elim (λ b. from j o l b)
            (λ b. subst (λ (m : Node). AreBoundsOf n.bounds m.item.tri) b.1 own) (get_push ns n j o e);
      }

  -- one node more
  pub nodes_more : AreNodes (ns ++ n ∷ [])
  nodes_more i m e =
      ⊎_elim (λ h. old i m h) (λ h. subst (λ (k : ℕ). IsNode (ns ++ n ∷ []) k m) (sym h.0)
      (subst (λ (o : Node). IsNode (ns ++ n ∷ []) (length ns) o) h.1 new)) (get_push ns n i m e)

-- the items of nodes, with one more
pub items_push : (ns : List Node) (n : Node) → items_in (ns ++ n ∷ []) ≡ items_in ns ++ n.item ∷ []
items_push [] n = refl
items_push (m ∷ ns) n = ap (λ (xs : List Item). m.item ∷ xs) (items_push ns n)

-- the node of an item
option_item : (o : Option Node) (it : Item) → option_map (λ (n : Node). n.item) o ≡ Some it → (n : Node) × (o ≡ Some n) × (n.item ≡ it)
option_item None it e = none_is_some e
option_item (Some n) it e = (n, refl, same_some e)

pub node_of_item : (ns : List Node) (it : Item) → Contains (items_in ns) it → (j : ℕ) × (n : Node) × (slice_get ns j ≡ Some n) × (n.item ≡ it)
node_of_item ns it h =
    let e : slice_get (items_in ns) h.0 ≡ Some it = slice_get-get_or (items_in ns) h.0 it h.1 ∙ ap (λ (i : Item). Some i) h.2 in
    let o = option_item (slice_get ns h.0) it (sym (slice_get-map (λ (n : Node). n.item) ns h.0) ∙ e) in
    (h.0, o.0, o.1, o.2)

pub before_or_from : (j end : ℕ) → (j < end) ⊎ (end ≤ j)
before_or_from j zero = inr (omega arith)
before_or_from zero (suc end) = inl (omega arith)
before_or_from (suc j) (suc end) = ⊎_elim (λ k. inl (omega (arith, k))) (λ k. inr (omega (arith, k))) (before_or_from j end)

-- ---- the node before an index
module _ (ns : List Node) (end : ℕ) (d : Node) (some : 0 < end) (within : end ≤ length ns) where
  abbrev node : Node
  node = get_or ns (end - 1) d

  pub node_here : slice_get ns (end - 1) ≡ Some node
  node_here = slice_get-get_or ns (end - 1) d (omega arith)

  module _ (are : AreNodes ns) where
    pub node_starts : node.start < end
    node_starts = let h = are (end - 1) node node_here in omega (arith, h.start)

    -- bounds from the node on, joined with the node's, are bounds from its start on
    pub joined_more : (b c : Bounds) → AreBoundsFrom ns end b → AreBoundsWithin b c → AreBoundsWithin node.bounds c → AreBoundsFrom ns node.start c
    joined_more b c from one other j m l e =
        ⊎_elim (λ k. bounds_widened ((are (end - 1) node node_here).bounds j m l (omega (arith, k)) e) other)
        (λ k. bounds_widened (from j m k e) one) (before_or_from j end)
