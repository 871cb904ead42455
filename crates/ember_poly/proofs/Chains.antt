-- Chains: their parts, one more side, and the ring ring_turned_by_one by one side.
use Rattle.std.proofs.Common.{List, [], ◌∷◌, ◌++◌}
use Rattle.std.specs.List.{AllByRecursion}
use Rattle.ember_model.specs.declared.plane.Plane.{Plane}
use Rattle.ember_poly.specs.Rings.{Side, IsBelow, IsCornerOf, IsSideChain, IsNotEmpty, IsConvexRing, EndsAt}

-- ---- all of a list
-- what holds of all members and of one more holds of all
pub each-push : {X : Type 0} (P : X → Type 0) (xs : List X) (y : X) → AllByRecursion P xs → P y → AllByRecursion P (xs ++ y ∷ [])
each-push P [] y h p = (p, tt)
each-push P (x ∷ xs) y h p = (h.0, each-push P xs y h.1 p)

-- what holds of two lists together holds of the first
pub each-front : {X : Type 0} (P : X → Type 0) (xs ys : List X) → AllByRecursion P (xs ++ ys) → AllByRecursion P xs
each-front P [] ys h = tt
each-front P (x ∷ xs) ys h = (h.0, each-front P xs ys h.1)

-- what holds of two lists together holds of the second
pub each-back : {X : Type 0} (P : X → Type 0) (xs ys : List X) → AllByRecursion P (xs ++ ys) → AllByRecursion P ys
each-back P [] ys h = h
each-back P (x ∷ xs) ys h = each-back P xs ys h.1

-- what follows from a fact of all members holds of all members
pub each_map : {X : Type 0} (P Q : X → Type 0) (xs : List X) → ((x : X) → P x → Q x) → AllByRecursion P xs → AllByRecursion Q xs
each_map P Q [] f h = tt
each_map P Q (x ∷ xs) f h = (f x h.0, each_map P Q xs f h.1)

-- what follows from two facts of all members holds of all members
pub each_both : {X : Type 0} (P Q R : X → Type 0) (xs : List X) → ((x : X) → P x → Q x → R x) → AllByRecursion P xs → AllByRecursion Q xs → AllByRecursion R xs
each_both P Q R [] f h k = tt
each_both P Q R (x ∷ xs) f h k = (f x h.0 k.0, each_both P Q R xs f h.1 k.1)

-- ---- chains
chain-push : (n g : Plane) (xs : List Side) (t : Side) → IsSideChain n g xs → EndsAt n g xs t →
    AllByRecursion (λ s. IsBelow t.plane s.corner) xs → IsSideChain n g (xs ++ t ∷ [])
chain-push n g [] t c e u = (e, tt, tt, tt)
chain-push n g (s ∷ xs) t c e u =
    (c.0, each-push (λ r. IsBelow g r.corner) xs t c.1 e.0, each-push (λ r. IsBelow r.plane s.corner) xs t c.2 u.0, chain-push n s.plane xs t c.3 e.1 u.1)

-- the front of a chain of sides is one
pub chain-front : (n g : Plane) (xs ys : List Side) → IsSideChain n g (xs ++ ys) → IsSideChain n g xs
chain-front n g [] ys c = tt
chain-front n g (s ∷ xs) ys c =
    (c.0, each-front (λ r. IsBelow g r.corner) xs ys c.1, each-front (λ r. IsBelow r.plane s.corner) xs ys c.2, chain-front n s.plane xs ys c.3)

-- where a part of a chain ends
pub chain_ends : (n g : Plane) (xs : List Side) (t : Side) (ys : List Side) → IsSideChain n g (xs ++ t ∷ ys) → EndsAt n g xs t
chain_ends n g [] t ys c = c.0
chain_ends n g (s ∷ xs) t ys c =
    ((each-back (λ r. IsBelow g r.corner) xs (t ∷ ys) c.1).0, chain_ends n s.plane xs t ys c.3)

-- a side's plane at the corners before it

ends_make : (n g : Plane) (xs : List Side) (s t : Side) → IsBelow g t.corner →
    AllByRecursion (λ r. IsBelow r.plane t.corner) xs → IsCornerOf n s.plane t → EndsAt n g (xs ++ s ∷ []) t
ends_make n g [] s t u h j = (u, j)
ends_make n g (r ∷ xs) s t u h j = (u, ends_make n r.plane xs s t h.0 h.1 j)

-- the three facts of the corner that ends a chain of sides
pub ends_under : (n g : Plane) (xs : List Side) (s t : Side) → EndsAt n g (xs ++ s ∷ []) t →
    IsBelow g t.corner × AllByRecursion (λ r. IsBelow r.plane t.corner) xs × IsCornerOf n s.plane t
ends_under n g [] s t e = (e.0, tt, e.1)
ends_under n g (r ∷ xs) s t e =
    let h = ends_under n r.plane xs s t e.1 in (e.0, (h.0, h.1), h.2)

not_empty-push : (xs : List Side) (s : Side) → IsNotEmpty (xs ++ s ∷ [])
not_empty-push [] s = tt
not_empty-push (x ∷ xs) s = tt

-- ---- a ring ring_turned_by_one by one side
-- a ring begun at its second side is a ring
pub ring_turned_by_one : (n : Plane) (s : Side) (xs : List Side) → IsConvexRing n (s ∷ xs) → IsConvexRing n (xs ++ s ∷ [])
ring_turned_by_one n s [] h = absurd h
ring_turned_by_one n s (t ∷ []) h = absurd h.0
ring_turned_by_one n s (t ∷ u ∷ xs) h =
    (not_empty-push xs s, h.2, chain-push n u.plane (xs ++ s ∷ []) t h.2.3 (ends_make n u.plane xs s t h.1.2.0 h.1.2.1 h.1.0) h.2.1)

-- ---- a chain that is closed by one more side
-- a chain with a side that closes it is a ring
pub chain_is_closed : (n : Plane) (f : Side) (ks : List Side) (l p : Side) → IsSideChain n f.plane (ks ++ l ∷ []) →
    IsBelow f.plane p.corner → AllByRecursion (λ r. IsBelow r.plane p.corner) ks → IsCornerOf n l.plane p →
    AllByRecursion (λ r. IsBelow r.plane f.corner) (ks ++ l ∷ []) → IsCornerOf n p.plane f →
    AllByRecursion (λ r. IsBelow p.plane r.corner) (ks ++ l ∷ []) → IsConvexRing n (f ∷ (ks ++ l ∷ []) ++ p ∷ [])
chain_is_closed n f [] l p c u h j v k b =
    let first : IsSideChain n f.plane (l ∷ p ∷ []) = chain-push n f.plane (l ∷ []) p c (u, j) b in
    (tt, first, chain-push n l.plane (p ∷ []) f first.3 (v.0, k) first.1)
chain_is_closed n f (m ∷ ks) l p c u h j v k b =
    let first : IsSideChain n f.plane (m ∷ (ks ++ l ∷ []) ++ p ∷ []) =
    chain-push n f.plane (m ∷ (ks ++ l ∷ [])) p c (ends_make n f.plane (m ∷ ks) l p u h j) b in (
      not_empty-push (ks ++ l ∷ []) p,
      first,
      chain-push n m.plane ((ks ++ l ∷ []) ++ p ∷ []) f first.3
          (ends_make n m.plane (ks ++ l ∷ []) p f v.0 v.1 k) first.1,
    )
