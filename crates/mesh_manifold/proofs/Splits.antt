-- Split triangles, one more at a time.
use Rattle.std.proofs.Common.{◌≡◌, ℕ, zero, suc, ◌+◌, ◌<◌, List, [], ◌∷◌, ◌++◌, length, take, get_or, Some, slice_get}
use Rattle.std.proofs.Common.{append_assoc, append-nil, refl, sym, ap, subst, ◌∙◌}
use Rattle.std.specs.List.{AllZip}
use Rattle.std.proofs.lemmas.List.{take_more}
use Rattle.std.proofs.lemmas.Option.{none-some}
use Rattle.mesh_write.specs.declared.vertices.point.IndexedTriangle.{IndexedTriangle}
use Rattle.mesh_manifold.specs.declared.split.SplitMesh.{SplitMesh}
use Rattle.mesh_manifold.specs.Splits.{IsSplitOf, AreSplitOf, Continues}

-- ---- lists that go on
pub goes_on_same : (xs : List ℕ) → Continues xs xs
goes_on_same xs = record { more = []; is = sym (append-nil xs) }

goes_on_after : (xs ys zs : List ℕ) → Continues xs ys → Continues ys zs → Continues xs zs
goes_on_after xs ys zs a b =
    record { more = a.more ++ b.more; is = b.is ∙ ap (λ (l : List ℕ). l ++ b.more) a.is ∙ append_assoc xs a.more b.more }

found_behind : (xs ys : List ℕ) (n x : ℕ) → slice_get xs n ≡ Some x → slice_get (xs ++ ys) n ≡ Some x
found_behind [] ys n x e = absurd (none-some x e)
found_behind (y ∷ xs) ys zero x e = e
found_behind (y ∷ xs) ys (suc n) x e = found_behind xs ys n x e

found_still : (xs ys : List ℕ) (n x : ℕ) → Continues xs ys → slice_get xs n ≡ Some x → slice_get ys n ≡ Some x
found_still xs ys n x c e = subst (λ (l : List ℕ). slice_get l n ≡ Some x) (sym c.is) (found_behind xs c.more n x e)

-- the last one is found
pub last_found : (xs : List ℕ) (x : ℕ) → slice_get (xs ++ x ∷ []) (length xs) ≡ Some x
last_found [] x = refl
last_found (y ∷ xs) x = last_found xs x

-- ---- triangles
split_still : (xs ys : List ℕ) (new old : IndexedTriangle) → Continues xs ys → IsSplitOf xs new old → IsSplitOf ys new old
split_still xs ys new old c h = record {
  a = found_still xs ys new.a old.a c h.a;
  b = found_still xs ys new.b old.b c h.b;
  c = found_still xs ys new.c old.c c h.c;
}

one_more : (xs ys : List ℕ) (news olds : List IndexedTriangle) (new old : IndexedTriangle) → Continues xs ys →
    AllZip (IsSplitOf xs) news olds → IsSplitOf ys new old → AllZip (IsSplitOf ys) (news ++ new ∷ []) (olds ++ old ∷ [])
one_more xs ys [] [] new old c h s = (s, tt)
one_more xs ys [] (o ∷ olds) new old c h s = absurd h
one_more xs ys (n ∷ news) [] new old c h s = absurd h
one_more xs ys (n ∷ news) (o ∷ olds) new old c h s =
    (split_still xs ys n o c h.0, one_more xs ys news olds new old c h.1 s)

-- a triangle whose corners got vertices, one after another
pub triangle_pushed : (o0 o1 o2 o3 : List ℕ) (news more before : List IndexedTriangle) (t : IndexedTriangle) (a b c : ℕ)
    → Continues o0 o1 → slice_get o1 a ≡ Some t.a → Continues o1 o2 → slice_get o2 b ≡ Some t.b → Continues o2 o3 →
    slice_get o3 c ≡ Some t.c → AllZip (IsSplitOf o0) news before → more ≡ news ++ (record { a = a; b = b; c = c }) ∷ [] →
    AllZip (IsSplitOf o3) more (before ++ t ∷ [])
triangle_pushed o0 o1 o2 o3 news more before t a b c c1 at_a c2 at_b c3 at_c h e =
    let new : IndexedTriangle = record { a = a; b = b; c = c } in
    let c13 : Continues o1 o3 = goes_on_after o1 o2 o3 c2 c3 in
    let c03 : Continues o0 o3 = goes_on_after o0 o1 o3 c1 c13 in
    let is : IsSplitOf o3 new t = record {
      a = found_still o1 o3 a t.a c13 at_a;
      b = found_still o2 o3 b t.b c3 at_b;
      c = at_c;
    } in
    subst (λ (us : List IndexedTriangle). AllZip (IsSplitOf o3) us (before ++ t ∷ [])) (sym e) (one_more o0 o3 news before new t c03 h is)

-- the mesh of one triangle more
pub mesh_more : (ts : List IndexedTriangle) (i : ℕ) (d : IndexedTriangle) (mesh : SplitMesh) → i < length ts →
    AreSplitOf mesh (take i ts ++ get_or ts i d ∷ []) → AreSplitOf mesh (take (i + 1) ts)
mesh_more ts i d mesh l h = subst (AreSplitOf mesh) (sym (take_more ts i d l)) h

-- there are as many
pub as_many : (xs : List ℕ) (news olds : List IndexedTriangle) → AllZip (IsSplitOf xs) news olds → length news ≡ length olds
as_many xs [] [] h = refl
as_many xs [] (o ∷ olds) h = absurd h
as_many xs (n ∷ news) [] h = absurd h
as_many xs (n ∷ news) (o ∷ olds) h = ap (λ (n : ℕ). suc n) (as_many xs news olds h.1)
