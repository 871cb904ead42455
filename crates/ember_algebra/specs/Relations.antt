-- Lists that are made member by member, or step by step
use Rattle.std.specs.Prelude.{List, [], ◌∷◌, ◌++◌, ⊤}

-- ys is, in order, what the members of xs give
pub data Each {X Y : Type 0} (R : X → List Y → Type 0) : List X → List Y → Type 0 where
  none : Each R [] []
  more : {x : X} {xs : List X} {ys zs : List Y} → R x ys → Each R xs zs → Each R (x ∷ xs) (ys ++ zs)

-- the members of xs, one after another, lead from the first state to the last
pub data Chain {X A : Type 0} (R : X → A → A → Type 0) : List X → A → A → Type 0 where
  done : {a : A} → Chain R [] a a
  step : {x : X} {xs : List X} {a b c : A} → R x a b → Chain R xs b c → Chain R (x ∷ xs) a c

-- each member has the property: the same as `AllByRecursion` of the library, whose `All` says it of each index
abbrev pub Every : {X : Type 0} → (X → Type 0) → List X → Type 0
Every P [] = ⊤
Every P (x ∷ xs) = P x × Every P xs
