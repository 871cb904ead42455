use Rattle.std.proofs.Common.{◌≡◌, ℕ, ◌+◌, ◌<◌, List, length, get_or, drop, ap, arith}
use Rattle.mesh_scene.specs.Scene.LooseEdges.{number_excess}
use Rattle.mesh_scene.proofs.Excesses.{excess_taken, excess_left, excess_end}
use Rattle.mesh_scene.proofs.scene.edges.excess.Goals.{then-next-back+then-back-next, else-next-back}
use Rattle.mesh_scene.proofs.scene.edges.excess.Goals.{else-next-back-via-then-next-back+else-back-next}
use Rattle.mesh_scene.proofs.scene.edges.excess.Goals.{else-next-back-via-else-next-back}
use Rattle.mesh_scene.proofs.scene.edges.excess.Goals as goal

pub loop-number-preserved : goal.loop-number-preserved
loop-number-preserved c =
    elim c.if-next-back.branch [
      | then-next-back+then-back-next w ↦ let e =
          excess_taken there back c.requires.there i c.loop-number.next c.loop-number-test.true after
          c.first_from-next.ensures.counts w.if-next-back.true w.if-back-next.true in
          let f = from_next w.next-is in
          record {
            next = omega (arith, w.next-is, w.if-next-back.true);
            found =
                omega (arith, w.found-is, c.loop-number.invariant.found);
            rest =
                omega (arith, w.found-is, e, f, c.loop-number.invariant.rest);
          }
      | else-next-back w ↦ let greater : after < length back → get_or there i 0 < get_or back after 0 =
          λ l. elim w.else-next-back.branch [
            | else-next-back-via-then-next-back+else-back-next w' ↦ omega (
              arith,
              c.first_from-next.ensures.reached l,
              w'.if-back-next.false,
            )
            | else-next-back-via-else-next-back w' ↦ absurd
                (omega (arith, l, w'.if-next-back.false))
          ] in
          let e = excess_left there back c.requires.there i c.loop-number.next c.loop-number-test.true after
          c.first_from-next.ensures.counts c.requires.back greater in
          let f = from_next w.next-is in
          record {
            next = omega (arith, w.next-is, c.first_from-next.ensures.bound);
            found =
                omega (arith, w.found-is, c.loop-number.invariant.found);
            rest =
                omega (arith, w.found-is, e, f, c.loop-number.invariant.rest);
          }
    ]
  where
    there : List ℕ
    there = c.args.there.now

    back : List ℕ
    back = c.args.back.now

    i : ℕ
    i = c.loop-number.number-index

    after : ℕ
    after = c.first_from-next.result

    from_next : {k : ℕ} → c.if-next-back.next ≡ k →
        number_excess (drop (i + 1) there) (drop c.if-next-back.next back) ≡ number_excess (drop (i + 1) there)
        (drop k back)
    from_next p = ap (λ (k : ℕ). number_excess (drop (i + 1) there) (drop k back)) p

pub returns : goal.returns
returns c =
    let e = excess_end c.args.there.now c.args.back.now c.loop-number.number-index c.loop-number.next (omega arith) in
    omega (arith, e, c.loop-number.invariant.rest)
