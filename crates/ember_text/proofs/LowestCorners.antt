-- Each valid point has lowest terms.
use Rattle.std.proofs.Common.{◌≡◌, ℕ, ◌<◌, ℤ, pos, ◌*ℤ◌, ◌<ℤ◌, unsigned_abs, int_div, refl, arith}
use Rattle.std.specs.Int.{◌∣◌}
use mir.Syntax.{w128}
use mir.Val.{to_z, of_z}
use Rattle.ember_algebra.specs.Size.{Small}
use Rattle.ember_algebra.proofs.Size.{small_within}
use Rattle.ember_algebra.proofs.CommonDivisors.{HasGcd, gcd_within}
use Rattle.ember_model.specs.declared.point.Spot.{Spot}
use Rattle.ember_model.specs.Valid.{IsValidMeet}
use Rattle.ember_model.specs.FaceFiles.{IsWrittenCorner}
use Rattle.ember_point.specs.Points.{IsGreatestDivisor}
use Rattle.ember_point.proofs.Quotients.{IsQuotient, stored-quotient, quotient_valid, quotient_same, quotient_lowest, greatest_divisor}
use Rattle.ember_poly.proofs.MovedOutline.{SameWithWeights}

-- ---- the greatest common divisor
gcd_of : (a b : ℕ) → HasGcd a b
gcd_of a b = gcd_within b a b (omega arith)

record HasDivisor (u : Spot) : Type 0 where
  divisor : ℤ
  is : IsGreatestDivisor u divisor

divisor_of : (u : Spot) → IsValidMeet u → HasDivisor u
divisor_of u v =
    let first = gcd_of (unsigned_abs u.w) (unsigned_abs u.x) in
    let second = gcd_of first.divisor (unsigned_abs u.y) in
    let third = gcd_of second.divisor (unsigned_abs u.z) in
    record {
      divisor = pos third.divisor;
      is = greatest_divisor u v _ _ _ _ first.divisor second.divisor third.divisor
          refl refl refl refl first.is second.is third.is;
    }

-- ---- the point divided by it
divided : ℤ → ℤ → ℤ
divided x d = to_z w128 (of_z w128 (int_div (to_z w128 (of_z w128 x)) (to_z w128 (of_z w128 d))))

-- v is the point u in lowest terms
pub record IsInLowestTerms (u v : Spot) : Type 0 where
  pub same : SameWithWeights u v
  pub corner : IsWrittenCorner v

pub record HasLowestTerms (u : Spot) : Type 0 where
  pub lowest : Spot
  pub is : IsInLowestTerms u lowest

pub lowest_terms : (u : Spot) → IsValidMeet u → HasLowestTerms u
unfolding divided
lowest_terms u v =
    let d = (divisor_of u v).divisor in let g = (divisor_of u v).is in
    let lowest : Spot = record { x = divided u.x d; y = divided u.y d; z = divided u.z d; w = divided u.w d } in
    let q : IsQuotient u lowest d = record {
      x = stored-quotient u.x d _ v.x g.small g.positive g.x refl;
      y =
          stored-quotient u.y d _ v.y g.small g.positive g.y refl;
      z =
          stored-quotient u.z d _ v.z g.small g.positive g.z refl;
      w =
          stored-quotient u.w d _ (small_within (omega arith) v.w) g.small g.positive g.w refl;
    } in
    let valid : IsValidMeet lowest = quotient_valid v g.positive q in
    record {
      lowest = lowest;
      is = record {
        same =
            record { same = quotient_same {d = d} q; from = v.weight; to = valid.weight };
        corner =
            record { valid = valid; lowest = quotient_lowest g q };
      };
    }
