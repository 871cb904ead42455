-- Lists of items
use Rattle.std.proofs.Common.{◌≡◌, ⊎_elim, ℕ, ◌+◌, ◌<◌, sym, ap, ◌∙◌, subst, arith, List, [], ◌∷◌, ◌++◌, length, get_or, Some}
use Rattle.std.specs.List.{slice_get, All}
use Rattle.std.specs.List.Sorted.{IsPermutation}
use Rattle.std.proofs.lemmas.Option.{slice_get-get_or}
use Rattle.std.proofs.lemmas.List.Elements.{All-push, Contains-append_left, Contains-push}
use Rattle.std.proofs.lemmas.List.Sorted.{All-permutation, Contains-permutation}
use Rattle.ember_model.specs.declared.tri.Tri.{Tri}
use Rattle.ember_model.specs.Planes.{support_of}
use Rattle.ember_model.specs.Valid.{IsValidTri}
use Rattle.mesh_sources.specs.declared.items.Item.{Item}
use Rattle.mesh_sources.specs.Marks.{HasMark}
use Rattle.mesh_sources.specs.Nodes.{IsItem, AreItems}
use Rattle.mesh_sources.proofs.NodeLists.{before_or_from}

-- the item of a triangle
pub item_is : (scene : List Tri) (i : ℕ) (d : Tri) (it : Item) → i < length scene → All IsValidTri scene → it.number ≡ i →
    it.tri ≡ get_or scene i d → HasMark (support_of (get_or scene i d)) it.mark → IsItem scene it
item_is scene i d it l valid number tri mark =
    record {
      here = subst (λ (k : ℕ). slice_get scene k ≡ Some it.tri) (sym number) (slice_get-get_or scene i d l ∙ ap (λ (t : Tri). Some t) (sym tri));
      valid = subst IsValidTri (sym tri) (valid i d l);
      mark = subst (λ (t : Tri). HasMark (support_of t) it.mark) (sym tri) mark;
    }

-- one item more
pub items_more : (scene : List Tri) (i : ℕ) (items : List Item) (it : Item) → AreItems scene i items → IsItem scene it → it.number ≡ i →
    AreItems scene (i + 1) (items ++ it ∷ [])
items_more scene i items it h is number =
    record {
      items_are = All-push (IsItem scene) items it h.items_are is;
      each = λ j l. ⊎_elim (λ k. let o = h.each j k in record { item = o.item; inside = Contains-append_left items (it ∷ []) o.item o.inside; is = o.is })
          (λ k. record { item = it; inside = Contains-push items it; is = number ∙ omega (arith, l, k) }) (before_or_from j i);
    }

-- the same items in another order
pub items_permuted : (scene : List Tri) (n : ℕ) (xs ys : List Item) → AreItems scene n xs → IsPermutation xs ys → AreItems scene n ys
items_permuted scene n xs ys h p =
    record {
      items_are = All-permutation (IsItem scene) xs ys p h.items_are;
      each = λ j l. let o = h.each j l in record { item = o.item; inside = Contains-permutation xs ys o.item p o.inside; is = o.is };
    }
