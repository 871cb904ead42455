-- What a search has found, with one node more
use Rattle.std.proofs.Common.{◌≡◌, ◌⊎◌, ⊎_elim, inl, inr, ℕ, zero, suc, ◌+◌, ◌≤◌, ◌<◌, refl, sym, ap, ◌∙◌, subst, arith, List, Some, None, Option, Bool, true, false}
use Rattle.std.specs.Prelude.{nat_lt}
use Rattle.std.specs.List.{slice_get, Contains}
use Rattle.std.specs.Option.{option_map}
use Rattle.std.proofs.lemmas.Bool.Decides.{nat_tests}
use Rattle.std.proofs.lemmas.Option.{slice_get_within, get_or_from_slice_get, slice_get-map}
use Rattle.std.proofs.lemmas.List.Elements.{Contains-get_or}
use Rattle.ember_algebra.proofs.Booleans.{same_some}
use Rattle.ember_algebra.proofs.Numbers.{nat_lt_out}
use Rattle.mesh_sources.specs.declared.facet.Facet.{Facet}
use Rattle.mesh_sources.specs.declared.items.Item.{Item}
use Rattle.mesh_sources.specs.declared.nodes.Node.{Node}
use Rattle.mesh_sources.specs.declared.source.Source.{Source}
use Rattle.mesh_sources.specs.Places.{is_turned, IsPlace}
use Rattle.mesh_sources.proofs.NodeLists.{before_or_from}
use Rattle.mesh_sources.specs.Nodes.{items_in, EachPlaceFrom, IsPlaceIn, IsFirstFrom, IsFoundFrom, earlier, first_of}
use Rattle.mesh_sources.proofs.Placed.{clash}

pub item_inside : (ns : List Node) (i : ℕ) (n : Node) → slice_get ns i ≡ Some n → Contains (items_in ns) n.item
item_inside ns i n e =
    let f : slice_get (items_in ns) i ≡ Some n.item = slice_get-map (λ (n : Node). n.item) ns i ∙ ap (option_map (λ (n : Node). n.item)) e in
    subst (Contains (items_in ns)) (get_or_from_slice_get (items_in ns) i n.item n.item f)
    (Contains-get_or (items_in ns) i n.item (slice_get_within (items_in ns) i n.item f))

neither : (a b : ℕ) → nat_lt a b ≡ false → nat_lt b a ≡ false → a ≡ b
neither a b e f = grind (arith, nat_tests)

module _ (ns : List Node) (i : ℕ) (n : Node) (f : Facet) (here : slice_get ns i ≡ Some n) where
  -- what holds of the places behind, and of this one if it is a place
  pub each_more : (P : Item → Type 0) → EachPlaceFrom ns (i + 1) f P → (IsPlace f n.item.tri → P n.item) → EachPlaceFrom ns i f P
  each_more P behind this j m l e p =
      ⊎_elim (λ k. behind j m k e p)
      (λ k. let same : n ≡ m = same_some (sym here ∙ subst (λ (j : ℕ). slice_get ns j ≡ Some m) k e) in
      subst (λ (o : Node). P o.item) same (this (subst (λ (o : Node). IsPlace f o.item.tri) (sym same) p)))
      (next i j l)
    where
      next : (i j : ℕ) → i ≤ j → (i + 1 ≤ j) ⊎ (j ≡ i)
      next zero zero l = inr refl
      next zero (suc j) l = inl (omega arith)
      next (suc i) zero l = absurd (omega arith)
      next (suc i) (suc j) l = ⊎_elim (λ k. inl (omega (arith, k))) (λ k. inr (ap suc k)) (next i j (omega (arith, l)))

  -- the node's item isn't a place
  pub found_without : (o : Option Source) → (IsPlace f n.item.tri → ⊥) → IsFoundFrom ns (i + 1) f o → IsFoundFrom ns i f o
  found_without None none h = each_more (λ it. ⊥) h none
  found_without (Some s) none h =
      record {
        item = h.item;
        is = h.is;
        number = h.number;
        turned = h.turned;
        first = each_more (λ it. s.triangle ≤ it.number) h.first (λ p. absurd (none p));
        several = h.several;
        single = λ e. each_more (λ it. it.number ≡ s.triangle) (h.single e) (λ p. absurd (none p));
      }

  module _ (next : Source) (place : IsPlace f n.item.tri) (number : n.item.number ≡ next.triangle) (turned : next.turned ≡ is_turned f.plane n.item.tri) (alone : next.several ≡ false) where
    this_place : IsPlaceIn ns f n.item
    this_place = record { inside = item_inside ns i n here; place = place }

    -- it is the first place
    pub found_first : EachPlaceFrom ns (i + 1) f (λ it. ⊥) → IsFirstFrom ns i f next
    found_first none =
        record {
          item = n.item;
          is = this_place;
          number = number;
          turned = turned;
          first = each_more (λ it. next.triangle ≤ it.number) (λ j m l e p. absurd (none j m l e p)) (λ p. omega (arith, number));
          several = λ e. clash alone e;
          single = λ e. each_more (λ it. it.number ≡ next.triangle) (λ j m l e p. absurd (none j m l e p)) (λ p. number);
        }

    module _ (s : Source) (h : IsFirstFrom ns (i + 1) f s) where
      before : (next.triangle < s.triangle) → IsFirstFrom ns i f (record next { several = true })
      before l =
          record {
            item = n.item;
            is = this_place;
            number = number;
            turned = turned;
            first = each_more (λ it. next.triangle ≤ it.number) (λ j m k e p. omega (arith, l, h.first j m k e p)) (λ p. omega (arith, number));
            several = λ e. record { item = h.item; is = h.is; other = λ q. omega (arith, l, h.number, q) };
            single = λ e. absurd (differ e);
          }
        where
          differ : true ≡ false → ⊥
          differ e = cc

      after : (s.triangle < next.triangle) → IsFirstFrom ns i f (record s { several = true })
      after l =
          record {
            item = h.item;
            is = h.is;
            number = h.number;
            turned = h.turned;
            first = each_more (λ it. s.triangle ≤ it.number) h.first (λ p. omega (arith, l, number));
            several = λ e. record { item = n.item; is = this_place; other = λ q. omega (arith, l, number, q) };
            single = λ e. absurd (differ e);
          }
        where
          differ : true ≡ false → ⊥
          differ e = cc

      same : next.triangle ≡ s.triangle → IsFirstFrom ns i f s
      same q =
          record {
            item = h.item;
            is = h.is;
            number = h.number;
            turned = h.turned;
            first = each_more (λ it. s.triangle ≤ it.number) h.first (λ p. omega (arith, number, q));
            several = h.several;
            single = λ e. each_more (λ it. it.number ≡ s.triangle) (h.single e) (λ p. number ∙ q);
          }

      by : (a b : Bool) → nat_lt next.triangle s.triangle ≡ a → nat_lt s.triangle next.triangle ≡ b → IsFirstFrom ns i f (earlier a b s next)
      by true b p q = before (nat_lt_out next.triangle s.triangle p)
      by false true p q = after (nat_lt_out s.triangle next.triangle q)
      by false false p q = same (neither next.triangle s.triangle p q)

      -- it is one more place
      pub found_again : IsFirstFrom ns i f (first_of s next)
      found_again = by (nat_lt next.triangle s.triangle) (nat_lt s.triangle next.triangle) refl refl

-- none of the nodes from one index to another is a place
pub each_skipped : (ns : List Node) (start end : ℕ) (f : Facet) (P : Item → Type 0) → EachPlaceFrom ns end f P →
    ((j : ℕ) (n : Node) → start ≤ j → j < end → slice_get ns j ≡ Some n → IsPlace f n.item.tri → ⊥) → EachPlaceFrom ns start f P
each_skipped ns start end f P behind none j n l e p =
    ⊎_elim (λ k. absurd (none j n l k e p)) (λ k. behind j n k e p) (before_or_from j end)

pub found_skipped : (ns : List Node) (start end : ℕ) (f : Facet) (o : Option Source) → IsFoundFrom ns end f o →
    ((j : ℕ) (n : Node) → start ≤ j → j < end → slice_get ns j ≡ Some n → IsPlace f n.item.tri → ⊥) → IsFoundFrom ns start f o
found_skipped ns start end f None h none = each_skipped ns start end f (λ it. ⊥) h none
found_skipped ns start end f (Some s) h none =
    record {
      item = h.item;
      is = h.is;
      number = h.number;
      turned = h.turned;
      first = each_skipped ns start end f (λ it. s.triangle ≤ it.number) h.first none;
      several = h.several;
      single = λ e. each_skipped ns start end f (λ it. it.number ≡ s.triangle) (h.single e) none;
    }
