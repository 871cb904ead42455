use Rattle.std.proofs.Common.{◌≡◌, ◌<◌, ◌≤◌, ◌+◌, ◌-◌, List, [], ◌∷◌, length-append, ℕ, Err, length, take, get_or, sym, ap, subst, ◌∙◌, arith}
use Rattle.std.proofs.lemmas.List.{get_or_default}
use Rattle.std.specs.declared.alloc.Global.{Global}
use Rattle.std.specs.declared.option.Option.{Option}
use Rattle.std.specs.List.{All}
use Rattle.std.specs.Prelude.{Vec}
use Rattle.ember_io.specs.Causes.{HasRisen}
use Rattle.ember_io.specs.Shelves.{Tells, TellsMore}
use Rattle.ember_io.specs.Calls.{shelf_call}
use Rattle.mesh_run.specs.Files.{AreContents}
use Rattle.mesh_run.proofs.FileStatuses.{end_is_cause}
use Rattle.mesh_run.proofs.ToldFiles.{contents_are_small, contents_more}
use Rattle.mesh_run.proofs.reading.read_contents.Goals as goal

pub loop-name-preserved : goal.loop-name-preserved
loop-name-preserved g c =
    let i = c.loop-name.invariant in
    let e = c.in-Ok.ensures in
    record {
      same = e.contents ∙ i.same;
      later = omega (arith, i.later, e.later);
      count = omega (arith, i.count, length-append c.loop-name.contents.items (c.in-Ok.bytes ∷ []), ap length c.in_ok-push-in-Ok.ensures.items);
      contents = contents_more _ c.args.names.now c.loop-name.name-index c.name-item.result _ _ _ c.loop-name-test.true
          i.contents c.in_ok-push-in-Ok.ensures.items (record {
            tells = subst (λ (told : List ℕ → Option (List ℕ)). Tells
                (told (get_or c.args.names.now c.loop-name.name-index c.name-item.result)) c.in-Ok.bytes.items) i.same
                (subst (λ (name : List ℕ). Tells (g.S.Shelf.contents c.loop-name.shelf name) c.in-Ok.bytes.items)
                (c.as_str.ensures ∙ c.name-item.is) e.whole);
            small = e.most;
          });
    }

pub status_after-requires-clause-small : goal.status_after-requires-clause-small
status_after-requires-clause-small g c =
    subst (All (λ (bytes : Vec ℕ Global). length bytes.items ≤ 268435456)) (sym c.deref.ensures.value)
    (contents_are_small (g.S.Shelf.contents c.args.shelf.now) _ c.loop-name.contents.items
    c.loop-name.invariant.contents)

risen_in_all : (a b d : ℕ) → a ≤ b → HasRisen b d → HasRisen a d
risen_in_all a b d l r = omega (arith, l, r)

pub returns-in-Err-clause-cause : goal.returns-in-Err-clause-cause
returns-in-Err-clause-cause g c =
    let i = c.loop-name.invariant in
    let e = c.in-Err.ensures in
    let names = c.args.names.now in
    let told = g.S.Shelf.contents c.args.shelf.now in
    let shelf = shelf_call g.S.Shelf.contents g.S.Shelf.faults g.S.Shelf.fault_at g.S.Shelf.fault_kind c.args.shelf.now c.read_all.new.shelf in
    let seen = c.deref.result.now in
    let many : length seen ≡ c.loop-name.name-index = ap length c.deref.ensures.value ∙ i.count in
    let given = subst (λ (contents : List (Vec ℕ Global)). AreContents told (take (length seen) names) contents)
    (sym c.deref.ensures.value) (subst (λ (n : ℕ). AreContents told (take n names) c.loop-name.contents.items)
    (sym many) i.contents) in
    let number : length seen + 1 - 1 ≡ c.loop-name.name-index = omega (arith, many) in
    let there : c.loop-name.name-index < length names = c.loop-name-test.true in
    let name : c.as_str.result.now ≡ get_or names (length seen + 1 - 1) [] =
    c.as_str.ensures ∙ c.name-item.is ∙ get_or_default names c.loop-name.name-index c.name-item.result [] there
    ∙ ap (λ (n : ℕ). get_or names n []) (sym number) in
    end_is_cause names shelf (length seen + 1) c.in-Err.end c.last_fault-kind.result c.status_after.result
    (record { first = omega arith; last = omega (arith, many, there) }) c.last_fault-kind.ensures
    (c.status_after.ensures told given)
    (λ f. (
      risen_in_all (g.S.Shelf.faults c.args.shelf.now) (g.S.Shelf.faults c.loop-name.shelf)
          (g.S.Shelf.faults c.read_all.new.shelf) i.later (e.read_fault (ap Err f)),
      (let at = e.fault_at (ap Err f) in omega (arith, at, many)),
    ))
    (λ count f. subst (λ (name : List ℕ). TellsMore (told name) 268435456) name
    (subst (λ (told : List ℕ → Option (List ℕ)). TellsMore (told c.as_str.result.now) 268435456) i.same
    (e.told_longer count (ap Err f))))
