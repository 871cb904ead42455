use mir.Syntax.{w32, w64}
use Rattle.std.proofs.Common.{refl}
use Rattle.ember_algebra.proofs.Exact.{Code, input, stored, narrow, ◌⊠◌, ◌⊟◌, ◌&◌, done, exact, no_overflow}
use Rattle.ember_model.proofs.Tuples.{same_plane}
use Rattle.ember_trace.proofs.vertices.slide.Goals as goal

-- d - a * at
abbrev code : Code
code = narrow 0 ⊟ stored w64 (narrow 1 ⊠ stored w64 (stored w32 (input 2)))

pub overflow_sub-result : goal.overflow_sub-result
overflow_sub-result c = no_overflow (c.requires.plane.d & c.requires.plane.a & c.requires.place & done) w64 code tt

pub overflow_sub-result-in-Y : goal.overflow_sub-result-in-Y
overflow_sub-result-in-Y c = no_overflow (c.requires.plane.d & c.requires.plane.b & c.requires.place & done) w64 code tt

pub overflow_sub-result-in-Z : goal.overflow_sub-result-in-Z
overflow_sub-result-in-Z c = no_overflow (c.requires.plane.d & c.requires.plane.c & c.requires.place & done) w64 code tt

pub returns-in-X : goal.returns-in-X
returns-in-X c =
    let p = c.requires.plane in
    rw c.in-X.is (same_plane refl (exact (p.b & done) (narrow 0) tt) (exact (p.c & done) (narrow 0) tt)
    (exact (p.d & p.a & c.requires.place & done) (stored w64 code) tt))

pub returns-in-Y : goal.returns-in-Y
returns-in-Y c =
    let p = c.requires.plane in
    rw c.in-Y.is (same_plane (exact (p.a & done) (narrow 0) tt) refl (exact (p.c & done) (narrow 0) tt)
    (exact (p.d & p.b & c.requires.place & done) (stored w64 code) tt))

pub returns-in-Z : goal.returns-in-Z
returns-in-Z c =
    let p = c.requires.plane in
    rw c.in-Z.is (same_plane (exact (p.a & done) (narrow 0) tt) (exact (p.b & done) (narrow 0) tt) refl
    (exact (p.d & p.c & c.requires.place & done) (stored w64 code) tt))
