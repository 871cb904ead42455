-- Triangles that are read one after another.
use Rattle.std.proofs.Common.{◌≡◌, ℕ, suc, zero, ◌<◌, ◌≤◌, ◌+◌, ◌-◌, subst, List, refl, ap, ◌∙◌, arith, Ok, Err}
use Rattle.mesh_read.specs.Surface.Surfaces.{Content}
use Rattle.mesh_read.specs.declared.stl.fault.StlFault.{StlFault}
use Rattle.mesh_read.specs.Stl.Binary.{first_facets, with_facet_at}

-- a fault in the first facets stays the file's fault
fault_after : (bytes : List ℕ) (k d n : ℕ) (fault : StlFault) → first_facets bytes k ≡ Err fault → n ≡ d + k → first_facets bytes n ≡ Err fault
fault_after bytes k zero n fault is e =
    let same : k ≡ n = omega arith in
    subst (λ (m : ℕ). first_facets bytes m ≡ Err fault) same is
fault_after bytes k (suc d) n fault is e =
    let same : suc (d + k) ≡ n = omega arith in
    subst (λ (m : ℕ). first_facets bytes m ≡ Err fault) same (ap (with_facet_at bytes (d + k)) (fault_after bytes k d (d + k) fault is refl))

fault_stays : (bytes : List ℕ) (k n : ℕ) (fault : StlFault) → first_facets bytes k ≡ Err fault → k ≤ n → first_facets bytes n ≡ Err fault
fault_stays bytes k n fault is within = fault_after bytes k (n - k) n fault is (omega arith)

-- one facet more
next_facet : (bytes : List ℕ) (k : ℕ) → first_facets bytes (k + 1) ≡ with_facet_at bytes k (first_facets bytes k)
next_facet bytes k =
    let e : suc k ≡ k + 1 = omega arith in
    subst (λ (m : ℕ). first_facets bytes m ≡ with_facet_at bytes k (first_facets bytes k)) e refl

-- one facet more
pub facet_added : (bytes : List ℕ) (k : ℕ) (content more : Content) → first_facets bytes k ≡ Ok content →
    with_facet_at bytes k (Ok content) ≡ Ok more → first_facets bytes (k + 1) ≡ Ok more
facet_added bytes k content more is one = next_facet bytes k ∙ ap (with_facet_at bytes k) is ∙ one

-- the fault of a facet is that of all facets from it on
pub facet_refused : (bytes : List ℕ) (k n : ℕ) (content : Content) (fault : StlFault) →
    first_facets bytes k ≡ Ok content → with_facet_at bytes k (Ok content) ≡ Err fault → k < n →
    first_facets bytes n ≡ Err fault
facet_refused bytes k n content fault is one within =
    fault_stays bytes (k + 1) n fault (next_facet bytes k ∙ ap (with_facet_at bytes k) is ∙ one) (omega arith)
