use Rattle.std.proofs.Common.{◌≡◌, ℕ, ◌+◌, List, [], ◌∷◌, ◌++◌, length, All, sym, ap, subst, arith, ◌∙◌, length-append}
use Rattle.ember_mesh.specs.declared.states.Closed.{Closed}
use Rattle.ember_mesh.specs.Joined.{AreNumbered}
use Rattle.ember_box_tests.proofs.scenes.scene_of_files.Goals as goal

numbered_more : (m : ℕ) (parts : List Closed) (part : Closed) → AreNumbered m parts →
    All (λ t. t.mesh ≡ m + length parts) part.tris → AreNumbered m (parts ++ part ∷ [])
numbered_more m [] part h l = (subst (λ (n : ℕ). All (λ t. t.mesh ≡ n) part.tris) (omega arith) l, tt)
numbered_more m (p ∷ parts) part h l = (h.0, numbered_more (m + 1) parts part h.1 (subst (λ (n : ℕ). All (λ t. t.mesh ≡ n) part.tris) (omega arith) l))

pub loop-bytes-preserved : goal.loop-bytes-preserved
loop-bytes-preserved c =
    let l = c.loop-bytes.invariant in
    let closed = c.in_ok-closed.closed in
    let mesh : c.loop-bytes.number ≡ 1 + length c.loop-bytes.parts.items = omega (arith, l.count, l.number) in
    record {
      count = ap length c.in-Ok.ensures.items ∙ length-append c.loop-bytes.parts.items (closed ∷ []) ∙ ap (λ (n : ℕ). n + 1) l.count;
      number = omega (arith, l.number);
      numbered = subst (AreNumbered 1) (sym c.in-Ok.ensures.items)
          (numbered_more 1 c.loop-bytes.parts.items closed l.numbered
          (subst (λ (n : ℕ). All (λ t. t.mesh ≡ n) closed.tris) mesh c.in_ok-closed.ensures));
    }
