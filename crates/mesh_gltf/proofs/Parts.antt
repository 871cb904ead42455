-- Lists that are read one element after another
use Rattle.std.proofs.Common.{◌≡◌, List, [], ◌∷◌, ◌++◌, refl, sym, ap, ◌∙◌, append_assoc}
use Rattle.std.proofs.Common.{Option, None, Some, Result, Ok, Err}
use Rattle.std.proofs.lemmas.List.{append-nil}
use Rattle.mesh_gltf.specs.declared.fault.GltfFault.{GltfFault}
use Rattle.mesh_gltf.specs.Heads.{with_head}

-- what was read, and then what is left to read
abbrev pub behind : {A : Type 0} → List A → Option (List A) → Option (List A)
behind xs None = None
behind xs (Some more) = Some (xs ++ more)

-- the same where there may be faults
abbrev pub behind_ok : {A : Type 0} → List A → Result (List A) GltfFault → Result (List A) GltfFault
behind_ok xs (Err fault) = Err fault
behind_ok xs (Ok more) = Ok (xs ++ more)

-- before the first element
pub nothing_behind : {A : Type 0} (o : Option (List A)) → o ≡ behind [] o
nothing_behind None = refl
nothing_behind (Some more) = refl

-- one element more
pub element_added : {A : Type 0} (items new : List A) (a : A) (more : Option (List A)) → new ≡ items ++ a ∷ [] →
    behind items (with_head (Some a) more) ≡ behind new more
element_added items new a None is = refl
element_added items new a (Some more) is = ap (λ xs. Some xs) (sym (append_assoc items (a ∷ []) more) ∙ ap (λ xs. xs ++ more) (sym is))

-- behind the last element
pub all_read : {A : Type 0} (o : Option (List A)) (items : List A) → o ≡ behind items (Some []) → o ≡ Some items
all_read o items so_far = so_far ∙ ap (λ xs. Some xs) (append-nil items)

-- what was read comes after what was there
pub read_behind : {A : Type 0} (items new : List A) (o : Option (List A)) → behind items o ≡ Some new →
    (more : List A) × (o ≡ Some more) × (new ≡ items ++ more)
read_behind items new None is = cc
read_behind items new (Some more) is = (more, refl, cc)

-- nothing was read
pub none_behind : {A : Type 0} (items : List A) (o : Option (List A)) → behind items o ≡ None → o ≡ None
none_behind items None is = refl
none_behind items (Some more) is = cc
