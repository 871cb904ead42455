-- The squares of corners with their points, one corner more at a time.
use Rattle.std.proofs.Common.{◌≡◌, ◌≤◌, ◌<◌, ℕ, zero, suc, ◌+◌, List, [], ◌∷◌, ◌++◌, length, take, get_or, refl, sym, ap, ◌∙◌, arith}
use Rattle.std.proofs.lemmas.List.{take_all}
use Rattle.mesh_grid.specs.declared.snap.steps.GridStep.{GridStep}
use Rattle.mesh_grid.specs.declared.snap.offsets.Offset.{Offset}
use Rattle.mesh_write.specs.declared.stl.triangle.FloatPoint.{FloatPoint}
use Rattle.mesh_point.specs.declared.space_point.SpacePoint.{SpacePoint}
use Rattle.mesh_effect.specs.declared.rounding.tick.Tick.{Tick}
use Rattle.mesh_effect.specs.Rounding.Squares.{float_square, float_squares}

module _ (tick : Tick) (s : GridStep) (o : Offset) where
  one_more : (cs : List SpacePoint) (ps : List FloatPoint) (i : ℕ) (c : SpacePoint) (p : FloatPoint) → i < length cs →
      i < length ps → float_squares tick s o (take (suc i) cs) (take (suc i) ps) ≡ float_squares tick s o (take i cs)
      (take i ps) ++ float_square tick s o (get_or cs i c) (get_or ps i p) ∷ []
  one_more [] ps i c p l h = absurd (omega (arith, l))
  one_more (x ∷ xs) [] i c p l h = absurd (omega (arith, h))
  one_more (x ∷ xs) (y ∷ ys) zero c p l h = refl
  one_more (x ∷ xs) (y ∷ ys) (suc i) c p l h =
      ap (λ (ns : List ℕ). float_square tick s o x y ∷ ns) (one_more xs ys i c p (omega (arith, l)) (omega (arith, h)))

  pub squares_more : (cs : List SpacePoint) (ps : List FloatPoint) (i : ℕ) (c : SpacePoint) (p d : FloatPoint)
      (before after : List ℕ) (square : ℕ) → i < length cs → i < length ps → c ≡ get_or cs i c → p ≡ get_or ps i d →
      before ≡ float_squares tick s o (take i cs) (take i ps) → square ≡ float_square tick s o c p →
      after ≡ before ++ square ∷ [] → after ≡ float_squares tick s o (take (i + 1) cs) (take (i + 1) ps)
  squares_more cs ps i c p d before after square l h at_c at_p e is grown =
      let next : suc i ≡ i + 1 = omega arith in
      let here : square ≡ float_square tick s o (get_or cs i c) (get_or ps i d) = is ∙ (λ k. float_square tick s o (at_c k) (at_p k)) in
      grown
      ∙ (λ k. e k ++ here k ∷ [])
      ∙ sym (one_more cs ps i c d l h)
      ∙ ap (λ (n : ℕ). float_squares tick s o (take n cs) (take n ps)) next

  pub squares_all : (cs : List SpacePoint) (ps : List FloatPoint) (i : ℕ) (squares : List ℕ) → length ps ≡ length cs →
      length cs ≤ i → squares ≡ float_squares tick s o (take i cs) (take i ps) → squares ≡ float_squares tick s o cs ps
  squares_all cs ps i squares same l e =
      e ∙ (λ k. float_squares tick s o (take_all i cs l k) (take_all i ps (let m : length ps ≤ i = omega (arith, same, l) in m) k))
