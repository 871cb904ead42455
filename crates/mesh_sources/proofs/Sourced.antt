-- What the search found is the source
use Rattle.std.proofs.Common.{◌≡◌, ℕ, ◌≤◌, refl, sym, ap, ◌∙◌, subst, arith, List, length, get_or, Some, None, Option, Bool, true, false}
use Rattle.std.specs.Prelude.{IsTrue}
use Rattle.std.specs.List.{slice_get, All}
use Rattle.std.specs.Option.{MatchOption}
use Rattle.ember_model.specs.Valid.{IsValidTri}
use Rattle.mesh_sources.proofs.Found.{item_inside}
use Rattle.std.proofs.lemmas.Option.{slice_get_within, slice_get-get_or}
use Rattle.std.proofs.lemmas.List.Elements.{All-contains}
use Rattle.ember_algebra.proofs.Booleans.{same_some}
use Rattle.ember_model.specs.declared.tri.Tri.{Tri}
use Rattle.mesh_sources.specs.declared.facet.Facet.{Facet}
use Rattle.mesh_sources.specs.declared.items.Item.{Item}
use Rattle.mesh_sources.specs.declared.nodes.Node.{Node}
use Rattle.mesh_sources.specs.declared.source.Source.{Source}
use Rattle.mesh_sources.specs.Places.{IsPlace}
use Rattle.mesh_sources.specs.Sources.{IsAnother, IsSource, IsSourceOf}
use Rattle.mesh_sources.specs.Nodes.{IsItem, AreItems, items_in, EachPlaceFrom, IsFirstFrom, IsFoundFrom}
use Rattle.mesh_sources.proofs.NodeLists.{node_of_item}

-- the triangles of the nodes are valid
pub nodes_valid : (scene : List Tri) (n : ℕ) (ns : List Node) → AreItems scene n (items_in ns) → All (λ (n : Node). IsValidTri n.item.tri) ns
nodes_valid scene n ns h k d l =
    (All-contains (IsItem scene) (items_in ns) (get_or ns k d).item h.items_are
    (item_inside ns k (get_or ns k d) (slice_get-get_or ns k d l))).valid

module _ (scene : List Tri) (ns : List Node) (items : AreItems scene (length scene) (items_in ns)) where
  module _ (f : Facet) where
    -- what holds of each place among the nodes holds of each place in the scene
    in_scene : (P : ℕ → Type 0) → EachPlaceFrom ns 0 f (λ it. P it.number) → (i : ℕ) (t : Tri) → slice_get scene i ≡ Some t → IsPlace f t → P i
    in_scene P each i t here place =
        let h = items.each i (slice_get_within scene i t here) in
        let k = All-contains (IsItem scene) (items_in ns) h.item items.items_are h.inside in
        let same : t ≡ h.item.tri = same_some (sym here ∙ subst (λ (j : ℕ). slice_get scene j ≡ Some h.item.tri) h.is k.here) in
        let n = node_of_item ns h.item h.inside in
        let there : IsPlace f n.1.item.tri = subst (λ (it : Item). IsPlace f it.tri) (sym n.3) (subst (IsPlace f) same place) in
        subst P (ap (λ (it : Item). it.number) n.3 ∙ h.is) (each n.0 n.1 (omega arith) n.2 there)

    module _ (s : Source) (h : IsFirstFrom ns 0 f s) where
      item_here : slice_get scene s.triangle ≡ Some h.item.tri
      item_here =
          subst (λ (n : ℕ). slice_get scene n ≡ Some h.item.tri) h.number (All-contains (IsItem scene) (items_in ns) h.item items.items_are h.is.inside).here

      another : IsTrue s.several → IsAnother scene f s.triangle
      another e =
          let o = h.several e in record {
            index = o.item.number;
            tri = o.item.tri;
            here = (All-contains (IsItem scene) (items_in ns) o.item items.items_are o.is.inside).here;
            place = o.is.place;
            other = o.other;
          }

      several_if : (b : Bool) → s.several ≡ b → IsAnother scene f s.triangle → IsTrue b
      several_if true e o = refl
      several_if false e o = absurd (o.other (in_scene (λ n. n ≡ s.triangle) (h.single e) o.index o.tri o.here o.place))

      pub source_is : IsSource scene f s
      source_is =
          record {
            tri = h.item.tri;
            here = item_here;
            place = h.is.place;
            first = λ i t l e p. omega (arith, l, in_scene (λ n. s.triangle ≤ n) h.first i t e p);
            turned = h.turned;
            several = (another, λ o. several_if s.several refl o);
          }

    pub source_found : (o : Option Source) → IsFoundFrom ns 0 f o → IsSourceOf scene f o
    source_found None h = λ k d l p. in_scene (λ n. ⊥) h k (get_or scene k d) (slice_get-get_or scene k d l) p
    source_found (Some s) h = source_is s h

  -- and for a triangle of a mesh
  pub triangle_source : (o : Option Facet) (source : Option Source) → MatchOption o (source ≡ None) (λ f. IsFoundFrom ns 0 f source) →
      MatchOption o (source ≡ None) (λ f. IsSourceOf scene f source)
  triangle_source None source h = h
  triangle_source (Some f) source h = source_found f source h
