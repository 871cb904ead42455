use Rattle.std.proofs.Common.{◌≡◌, ◌∙◌, refl, subst, arith, ◌+◌, ◌<◌, ◌≤◌, to_z, of_z, to_z-of_z, length, get_or, inl, inr, ⊎_elim}
use Rattle.std.proofs.lemmas.Int.{ints}
use Rattle.std.proofs.lemmas.List.{take_all}
use Rattle.std.proofs.lemmas.Result.{err_from_is_err_and}
use mir.Syntax.{w32}
use Rattle.ember_algebra.specs.Size.{Small}
use Rattle.ember_algebra.proofs.Exact.{kept, ◌&◌, done, exact}
use Rattle.ember_slice.specs.Segments.{IsSliceText, IsFirstEndless}
use Rattle.ember_slice.specs.Texts.{HasSegments}
use Rattle.ember_slice.proofs.SliceTexts.{header_begins_text, one_more, face_taken, finished, first_endless}
use Rattle.ember_slice.proofs.text.slice_text.Goals as goal

pub loop-face-init : goal.loop-face-init
loop-face-init c =
    let e = c.from.ensures ∙ to_z-of_z c.ranges.at in
    let s : Small 2048 c.from.result = record { small = omega (arith, ints, e, c.requires.low, c.requires.high) } in
    record {
      done = header_begins_text _ _ _ _ c.new-text.ensures.items (exact (s & done) (kept 0) tt ∙ c.from.ensures)
          c.in_ok-put_line.ensures;
      number = refl;
      count = omega arith;
    }

pub loop-face-preserved : goal.loop-face-preserved
loop-face-preserved c =
    let e = c.items-face-items.ensures in let i = c.loop-face.face-index in let f = c.face-item.result in
    record {
      done = one_more c.loop-face.invariant.done c.in_ok-count.ensures.ok
          (face_taken c.args.faces.now i f (subst (λ fs. i < length fs) e c.loop-face-test.true)
          (subst (λ fs. f ≡ get_or fs i f) e c.face-item.is));
      number = omega (arith, c.loop-face.invariant.number);
      count = omega (arith, c.in_ok-count.ensures.one, c.loop-face.invariant.count);
    }

pub returns-clause-text : goal.returns-clause-text
returns-clause-text c =
    let m = c.loop-face.invariant in let fs = c.args.faces.now in
    let s : Small 4294967296 c.from-2.result = record { small = omega (arith, ints, c.from-2.ensures, m.count) } in
    let h = subst (λ l. HasSegments l (to_z w32 (of_z w32 c.args.at)) c.loop-face.count c.loop-face.text.items)
    (take_all c.loop-face.face-index fs (subst (λ l. length l ≤ c.loop-face.face-index) c.items-face-items.ensures
    c.loop-face-test.false)) m.done in
    subst (λ at. IsSliceText fs at c.put_line-2.new.out.items) (to_z-of_z c.ranges.at)
    (finished _ h (exact (s & done) (kept 0) tt ∙ c.from-2.ensures) c.in_ok-put_line-2.ensures)

pub returns-in_err-count-clause-endless : goal.returns-in_err-count-clause-endless
returns-in_err-count-clause-endless c =
    let e = c.items-face-items.ensures in let i = c.loop-face.face-index in let f = c.face-item.result in
    let m = c.loop-face.invariant in
    let p = err_from_is_err_and c.from_residual-in_err-count.result c.from_residual-in_err-count.ensures.1 in
    let same : i + 1 ≡ c.loop-face.number + 1 = omega (arith, m.number) in
    rw p.1 (⊎_elim (λ a. inl (p.2 ∙ a)) (λ t. inr (
      c.loop-face.number + 1,
      p.2 ∙ t.0,
      subst (λ at. IsFirstEndless c.args.faces.now at (c.loop-face.number + 1)) (to_z-of_z c.ranges.at)
          (subst (λ n. IsFirstEndless c.args.faces.now (to_z w32 (of_z w32 c.args.at)) n) same
          (first_endless i m.done (subst (λ fs. i < length fs) e c.loop-face-test.true)
          (subst (λ fs. f ≡ get_or fs i f) e c.face-item.is) t.1)),
    )) c.in_err-count.ensures.endless)
