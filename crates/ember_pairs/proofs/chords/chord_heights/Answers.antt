use Rattle.std.proofs.Common.{◌≡◌, ◌∙◌, ap, ℤ, ◌+ℤ◌, ◌^◌, to_z, of_z}
use mir.Syntax.{w64, w128}
use Rattle.ember_algebra.specs.Size.{Small}
use Rattle.ember_algebra.proofs.Exact.{stored, narrow, kept, ◌⊞◌, ◌&◌, done, exact}
use Rattle.ember_width.specs.declared.heights.Heights.{Heights}
use Rattle.ember_pairs.specs.declared.chords.ChordHeights.{ChordHeights}
use Rattle.ember_pairs.specs.Chords.{end_height}
use Rattle.ember_pairs.proofs.chords.chord_heights.Goals as goal

abbrev made : ℤ → ℤ → ℤ → ChordHeights
made first second middle = record { first = first; second = second; middle = middle }

same : {a b c x y z : ℤ} → a ≡ x → b ≡ y → c ≡ z → made a b c ≡ made x y z
same ea eb ec = λ i. made (ea i) (eb i) (ec i)

-- a height as it is passed on
abbrev passed : ℤ → ℤ
passed z = to_z w64 (of_z w64 z)

end_of_passed : {a b c d : ℤ} → Small (2 ^ 40) a → Small (2 ^ 40) b → Small (2 ^ 40) c → Small (2 ^ 40) d →
    end_height (passed a) (passed b) (passed c) (passed d) ≡ end_height a b c d
end_of_passed sa sb sc sd =
    let ea = exact (sa & done) (narrow 0) tt in let eb = exact (sb & done) (narrow 0) tt in
    let ec = exact (sc & done) (narrow 0) tt in let ed = exact (sd & done) (narrow 0) tt in
    λ i. end_height (ea i) (eb i) (ec i) (ed i)

pub returns : goal.returns
returns c =
    let over = c.args.lone.now.over in let s = c.requires.lone in let from = c.turned-from.ensures in
    let q = c.end_height-first.ensures in let r = c.end_height-second.ensures in
    let first = q.value ∙ end_of_passed s.a s.b from.small.a from.small.b ∙ ap (λ (f : Heights). end_height over.a over.b f.a f.b) from.value in
    let second = r.value ∙ end_of_passed s.a s.c from.small.a from.small.c ∙ ap (λ (f : Heights). end_height over.a over.c f.a f.c) from.value in
    same (exact (q.small & done) (kept 0) tt ∙ first) (exact (r.small & done) (kept 0) tt ∙ second)
    (exact (q.small & r.small & done) (stored w128 (kept 0 ⊞ kept 1)) tt ∙ (λ i. first i +ℤ second i))
