-- The nodes of a scene, one after another
use Rattle.std.proofs.Common.{◌≡◌, ◌⊎◌, inl, inr, ℕ, zero, suc, ◌<◌, ◌≤◌, ◌+◌, ◌-◌, List, [], ◌∷◌, ◌++◌, get_or, drop, length, codes, refl, sym, ap, ◌∙◌, arith}
use Rattle.std.proofs.Common.{None, Some, Result, Ok, Err}
use Rattle.std.proofs.Math.Seq.{drop-cons}
use Rattle.std.proofs.lemmas.List.{drop-append-le, drop_all}
use Rattle.mesh_read.specs.Surface.Surfaces.{Content}
use Rattle.serde_json.specs.Data.{Data}
use Rattle.mesh_gltf.specs.declared.fault.GltfFault.{GltfFault}
use Rattle.mesh_gltf.specs.declared.fault.GltfFault.TheVariants.{Node, TwiceInScene, OutOfMemory}
use Rattle.mesh_gltf.specs.Members.{item_in}
use Rattle.mesh_gltf.specs.Primitives.{and_then}
use Rattle.mesh_gltf.specs.Nodes.{with_node, children_of, with_nodes}
use Rattle.mesh_gltf.proofs.Steps.{first_read, first_fault, there, not_there}

-- the next node waits in front
in_front : (left : ℕ) (document : Data) (buffers : List (List ℕ)) (waiting : List ℕ) (done : ℕ) (index : ℕ) (content : Content) →
    done < length waiting → index ≡ get_or waiting done index →
    with_nodes left document buffers (drop done waiting) content
    ≡ with_nodes left document buffers (index ∷ drop (done + 1) waiting) content
in_front left document buffers waiting done index content some is =
    let later : suc done ≡ done + 1 = omega arith in
    ap (λ ws. with_nodes left document buffers ws content)
    (drop-cons waiting done index some
    ∙ ap (λ (i : ℕ). i ∷ drop (suc done) waiting) (sym is)
    ∙ ap (λ (n : ℕ). index ∷ drop n waiting) later)

-- a node with children, which wait behind the others
node_read : (left : ℕ) (document : Data) (buffers : List (List ℕ)) (waiting children : List ℕ) (index : ℕ)
    (content next : Content) (node : Data) → item_in (codes "nodes") index document ≡ Some node →
    with_node index document buffers content node ≡ Ok next → children_of index node ≡ Ok children →
    with_nodes (suc left) document buffers (index ∷ waiting) content
    ≡ with_nodes left document buffers (waiting ++ children) next
node_read left document buffers waiting children index content next node is read have =
    there (item_in (codes "nodes") index document) (Node index) node (λ n.
    and_then (with_node index document buffers content n) (λ c.
    and_then (children_of index n) (λ cs. with_nodes left document buffers (waiting ++ cs) c))) is
    ∙ first_read (with_node index document buffers content node) next (λ c.
    and_then (children_of index node) (λ cs. with_nodes left document buffers (waiting ++ cs) c)) read
    ∙ first_read (children_of index node) children (λ cs. with_nodes left document buffers (waiting ++ cs) next) have

-- a node whose children aren't indices
childless : (left : ℕ) (document : Data) (buffers : List (List ℕ)) (waiting : List ℕ) (index : ℕ)
    (content next : Content) (node : Data) (fault : GltfFault) → item_in (codes "nodes") index document ≡ Some node →
    with_node index document buffers content node ≡ Ok next → children_of index node ≡ Err fault →
    with_nodes (suc left) document buffers (index ∷ waiting) content ≡ Err fault
childless left document buffers waiting index content next node fault is read none =
    there (item_in (codes "nodes") index document) (Node index) node (λ n.
    and_then (with_node index document buffers content n) (λ c.
    and_then (children_of index n) (λ cs. with_nodes left document buffers (waiting ++ cs) c))) is
    ∙ first_read (with_node index document buffers content node) next (λ c.
    and_then (children_of index node) (λ cs. with_nodes left document buffers (waiting ++ cs) c)) read
    ∙ first_fault (children_of index node) fault (λ cs. with_nodes left document buffers (waiting ++ cs) next) none

-- a node whose mesh isn't read
node_refused : (left : ℕ) (document : Data) (buffers : List (List ℕ)) (waiting : List ℕ) (index : ℕ)
    (content : Content) (node : Data) (fault : GltfFault) → item_in (codes "nodes") index document ≡ Some node →
    with_node index document buffers content node ≡ Err fault →
    with_nodes (suc left) document buffers (index ∷ waiting) content ≡ Err fault
node_refused left document buffers waiting index content node fault is refused =
    there (item_in (codes "nodes") index document) (Node index) node (λ n.
    and_then (with_node index document buffers content n) (λ c.
    and_then (children_of index n) (λ cs. with_nodes left document buffers (waiting ++ cs) c))) is
    ∙ first_fault (with_node index document buffers content node) fault (λ c.
    and_then (children_of index node) (λ cs. with_nodes left document buffers (waiting ++ cs) c)) refused

-- a node that isn't there
node_missing : (left : ℕ) (document : Data) (buffers : List (List ℕ)) (waiting : List ℕ) (index : ℕ) (content : Content) →
    item_in (codes "nodes") index document ≡ None →
    with_nodes left document buffers (index ∷ waiting) content ≡ Err (Node index)
node_missing zero document buffers waiting index content none =
    not_there (item_in (codes "nodes") index document) (Node index) (λ n. Err (TwiceInScene index)) none
node_missing (suc left) document buffers waiting index content none =
    not_there (item_in (codes "nodes") index document) (Node index) (λ n.
    and_then (with_node index document buffers content n) (λ c.
    and_then (children_of index n) (λ cs. with_nodes left document buffers (waiting ++ cs) c))) none

-- ---- the same as a loop has it: so many nodes have come, and the next waits at that place
so_far : (all : Result Content GltfFault) (document : Data) (buffers : List (List ℕ)) (waiting : List ℕ) (count done : ℕ) (index : ℕ)
    (content : Content) → all ≡ with_nodes (count - done) document buffers (drop done waiting) content →
    done < count → done < length waiting → index ≡ get_or waiting done index →
    all ≡ with_nodes (suc (count - (done + 1))) document buffers (index ∷ drop (done + 1) waiting) content
so_far all document buffers waiting count done index content before few some is =
    let left : count - done ≡ suc (count - (done + 1)) = omega arith in
    before ∙ ap (λ (n : ℕ). with_nodes n document buffers (drop done waiting) content) left
    ∙ in_front (suc (count - (done + 1))) document buffers waiting done index content some is

pub nodes_more : (all : Result Content GltfFault) (document : Data) (buffers : List (List ℕ)) (waiting new children : List ℕ)
    (count done : ℕ) (index : ℕ) (content next : Content) (node : Data) →
    all ≡ with_nodes (count - done) document buffers (drop done waiting) content →
    done < count → done < length waiting → index ≡ get_or waiting done index →
    item_in (codes "nodes") index document ≡ Some node → with_node index document buffers content node ≡ Ok next →
    children_of index node ≡ Ok children → new ≡ waiting ++ children →
    all ≡ with_nodes (count - (done + 1)) document buffers (drop (done + 1) new) next
nodes_more all document buffers waiting new children count done index content next node before few some at is read have add =
    let within : done + 1 ≤ length waiting = omega arith in
    so_far all document buffers waiting count done index content before few some at
    ∙ node_read (count - (done + 1)) document buffers (drop (done + 1) waiting) children index content next node is read have
    ∙ ap (λ ws. with_nodes (count - (done + 1)) document buffers ws next)
    (sym (drop-append-le (done + 1) waiting children within) ∙ ap (drop (done + 1)) (sym add))

pub children_refused : (all : Result Content GltfFault) (document : Data) (buffers : List (List ℕ)) (waiting : List ℕ)
    (count done : ℕ) (index : ℕ) (content next : Content) (node : Data) (fault : GltfFault) →
    all ≡ with_nodes (count - done) document buffers (drop done waiting) content →
    done < count → done < length waiting → index ≡ get_or waiting done index →
    item_in (codes "nodes") index document ≡ Some node → with_node index document buffers content node ≡ Ok next →
    children_of index node ≡ Err fault → all ≡ Err fault
children_refused all document buffers waiting count done index content next node fault before few some at is read none =
    so_far all document buffers waiting count done index content before few some at
    ∙ childless (count - (done + 1)) document buffers (drop (done + 1) waiting) index content next node fault is read none

pub nodes_refused : (all : Result Content GltfFault) (document : Data) (buffers : List (List ℕ)) (waiting : List ℕ)
    (count done : ℕ) (index : ℕ) (content : Content) (node : Data) (fault : GltfFault) →
    all ≡ with_nodes (count - done) document buffers (drop done waiting) content →
    done < count → done < length waiting → index ≡ get_or waiting done index →
    item_in (codes "nodes") index document ≡ Some node → with_node index document buffers content node ≡ Err fault →
    all ≡ Err fault
nodes_refused all document buffers waiting count done index content node fault before few some at is refused =
    so_far all document buffers waiting count done index content before few some at
    ∙ node_refused (count - (done + 1)) document buffers (drop (done + 1) waiting) index content node fault is refused

pub next_missing : (all : Result Content GltfFault) (document : Data) (buffers : List (List ℕ)) (waiting : List ℕ)
    (count done : ℕ) (index : ℕ) (content : Content) →
    all ≡ with_nodes (count - done) document buffers (drop done waiting) content →
    done < length waiting → index ≡ get_or waiting done index →
    item_in (codes "nodes") index document ≡ None → all ≡ Err (Node index)
next_missing all document buffers waiting count done index content before some at none =
    before ∙ in_front (count - done) document buffers waiting done index content some at
    ∙ node_missing (count - done) document buffers (drop (done + 1) waiting) index content none

-- as many nodes have come as there are, and one more waits
pub too_many : (all : Result Content GltfFault) (document : Data) (buffers : List (List ℕ)) (waiting : List ℕ)
    (count done : ℕ) (index : ℕ) (content : Content) (node : Data) →
    all ≡ with_nodes (count - done) document buffers (drop done waiting) content →
    count ≤ done → done < length waiting → index ≡ get_or waiting done index →
    item_in (codes "nodes") index document ≡ Some node → all ≡ Err (TwiceInScene index)
too_many all document buffers waiting count done index content node before full some at is =
    let left : count - done ≡ 0 = omega arith in
    before ∙ ap (λ (n : ℕ). with_nodes n document buffers (drop done waiting) content) left
    ∙ in_front 0 document buffers waiting done index content some at
    ∙ there (item_in (codes "nodes") index document) (Node index) node (λ n. Err (TwiceInScene index)) is

-- no node waits
nobody : (left : ℕ) (document : Data) (buffers : List (List ℕ)) (content : Content) → with_nodes left document buffers [] content ≡ Ok content
nobody zero document buffers content = refl
nobody (suc left) document buffers content = refl

pub nodes_done : (all : Result Content GltfFault) (document : Data) (buffers : List (List ℕ)) (waiting : List ℕ)
    (count done : ℕ) (content : Content) →
    all ≡ with_nodes (count - done) document buffers (drop done waiting) content → length waiting ≤ done → all ≡ Ok content
nodes_done all document buffers waiting count done content before end =
    before ∙ ap (λ ws. with_nodes (count - done) document buffers ws content) (drop_all done waiting end)
    ∙ nobody (count - done) document buffers content

-- a fault, or out-of-memory, of the next node
pub node_fault : (all : Result Content GltfFault) (document : Data) (buffers : List (List ℕ)) (waiting : List ℕ)
    (count done index : ℕ) (content : Content) (node : Data) (fault : GltfFault) →
    all ≡ with_nodes (count - done) document buffers (drop done waiting) content →
    done < count → done < length waiting → index ≡ get_or waiting done index →
    item_in (codes "nodes") index document ≡ Some node →
    (fault ≡ OutOfMemory) ⊎ (with_node index document buffers content node ≡ Err fault) →
    (fault ≡ OutOfMemory) ⊎ (all ≡ Err fault)
node_fault all document buffers waiting count done index content node fault before few some at is (inl memory) = inl memory
node_fault all document buffers waiting count done index content node fault before few some at is (inr refused) =
    inr (nodes_refused all document buffers waiting count done index content node fault before few some at is refused)

-- the same of its children
pub children_fault : (all : Result Content GltfFault) (document : Data) (buffers : List (List ℕ)) (waiting : List ℕ)
    (count done index : ℕ) (content next : Content) (node : Data) (fault : GltfFault) →
    all ≡ with_nodes (count - done) document buffers (drop done waiting) content →
    done < count → done < length waiting → index ≡ get_or waiting done index →
    item_in (codes "nodes") index document ≡ Some node → with_node index document buffers content node ≡ Ok next →
    (fault ≡ OutOfMemory) ⊎ (children_of index node ≡ Err fault) → (fault ≡ OutOfMemory) ⊎ (all ≡ Err fault)
children_fault all document buffers waiting count done index content next node fault before few some at is read (inl memory) = inl memory
children_fault all document buffers waiting count done index content next node fault before few some at is read (inr refused) =
    inr (children_refused all document buffers waiting count done index content next node fault before few some at is read refused)
