use Rattle.std.proofs.Common.{ℤ, subst}
use mir.Syntax.{w32}
use Rattle.ember_algebra.proofs.Exact.{input, stored, kept, ◌&◌, done, exact, bounded}
use Rattle.ember_model.proofs.Tuples.{same_spot}
use Rattle.ember_wide.specs.Whole.{value_of}
use Rattle.ember_width.specs.Broad.{IsPlace, most_floor, most_weight}
use Rattle.ember_width.proofs.Places.{kept_remainder, kept_coordinate, kept_weight}
use Rattle.ember_width.proofs.points.floor_point.Goals as goal

pub invariant_of-result : goal.invariant_of-result
invariant_of-result c =
    let x = subst (λ (w : ℤ). IsPlace c.in_ok-x.x.floor c.in_ok-x.x.rest (value_of c.args.x.now) w)
    (exact (c.requires.w & done) (kept 0) tt) c.in_ok-x.ensures.place in
    let y = subst (λ (w : ℤ). IsPlace c.in_ok-y.y.floor c.in_ok-y.y.rest (value_of c.args.y.now) w)
    (exact (c.requires.w & done) (kept 0) tt) c.in_ok-y.ensures.place in
    let z = subst (λ (w : ℤ). IsPlace c.in_ok-z.z.floor c.in_ok-z.z.rest (value_of c.args.z.now) w)
    (exact (c.requires.w & done) (kept 0) tt) c.in_ok-z.ensures.place in
    record {
      valid = record {
        floors = record {
          x = bounded (x.small & done) most_floor (stored w32 (input 0)) tt;
          y = bounded (y.small & done) most_floor (stored w32 (input 0)) tt;
          z = bounded (z.small & done) most_floor (stored w32 (input 0)) tt;
        };
        x = kept_remainder x.rest c.requires.w;
        y = kept_remainder y.rest c.requires.w;
        z = kept_remainder z.rest c.requires.w;
        w = bounded (c.requires.w & done) most_weight (kept 0) tt;
        weight = kept_weight c.requires.w c.requires.weight;
      };
    }

pub returns : goal.returns
returns c =
    let x = subst (λ (w : ℤ). IsPlace c.in_ok-x.x.floor c.in_ok-x.x.rest (value_of c.args.x.now) w)
    (exact (c.requires.w & done) (kept 0) tt) c.in_ok-x.ensures.place in
    let y = subst (λ (w : ℤ). IsPlace c.in_ok-y.y.floor c.in_ok-y.y.rest (value_of c.args.y.now) w)
    (exact (c.requires.w & done) (kept 0) tt) c.in_ok-y.ensures.place in
    let z = subst (λ (w : ℤ). IsPlace c.in_ok-z.z.floor c.in_ok-z.z.rest (value_of c.args.z.now) w)
    (exact (c.requires.w & done) (kept 0) tt) c.in_ok-z.ensures.place in
    same_spot (kept_coordinate x c.requires.w) (kept_coordinate y c.requires.w) (kept_coordinate z c.requires.w)
    (exact (c.requires.w & done) (kept 0) tt)
