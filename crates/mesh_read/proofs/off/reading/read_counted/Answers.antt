use Rattle.std.proofs.Common.{◌≡◌, ◌<◌, ◌+◌, ◌∷◌, ◌∙◌, sym, length, take, drop, true, arith}
use Rattle.std.specs.Prelude.{nat_le}
use Rattle.std.proofs.lemmas.Bool.{leb-true}
use Rattle.std.proofs.Math.Facts.{Fits-of_lt}
use Rattle.mesh_read.specs.Scan.Parts.{piece_of, words_in}
use Rattle.mesh_read.specs.Off.RowViews.{rows_in}
use Rattle.mesh_read.specs.Off.ReadOff.{counts_of, counted, whole, points_of, facets_of}
use Rattle.mesh_read.proofs.RowCounts.{few_rows, rows_fit, counts_read}
use Rattle.mesh_read.proofs.off.reading.read_counted.Goals as goal

pub overflow_cast-vertices : goal.overflow_cast-vertices
overflow_cast-vertices c = Fits-of_lt (rows_fit c.args.rows.number c.args.rows.rest.start c.in-Some.vertices
    c.in-Some.faces c.args.rows.rest.bytes.now c.args.rows.rest.within (sym c.are_rows.ensures ∙ c.if-not-are_rows.false))

pub returns-clause-ok : goal.returns-clause-ok
returns-clause-ok c =
    let few : length (rows_in c.args.rows) < 1000000000000000 =
    omega (
      arith,
      few_rows c.args.rows.number c.args.rows.rest.start c.args.rows.rest.bytes.now,
      c.args.rows.rest.within,
    ) in
    let enough : nat_le (c.in-Some.vertices + c.in-Some.faces) (length (rows_in c.args.rows)) ≡ true = sym c.are_rows.ensures ∙ c.if-not-are_rows.false in
    let same : counted (counts_of (piece_of c.args.first ∷ words_in c.args.others)) (rows_in c.args.rows) ≡ whole
    (points_of (take c.in-Some.vertices (rows_in c.args.rows)))
    (facets_of c.in-Some.vertices (take c.in-Some.faces (drop c.in-Some.vertices (rows_in c.args.rows)))) =
    counts_read 1000000000000000 c.in-Some.vertices c.in-Some.faces
    (counts_of (piece_of c.args.first ∷ words_in c.args.others)) (rows_in c.args.rows) c.in-Some.ensures.value
    (leb-true (c.in-Some.vertices + c.in-Some.faces) (length (rows_in c.args.rows)) enough) few in
    rw same c.read_lists.ensures.ok

pub returns-clause-fault : goal.returns-clause-fault
returns-clause-fault c =
    let few : length (rows_in c.args.rows) < 1000000000000000 =
    omega (
      arith,
      few_rows c.args.rows.number c.args.rows.rest.start c.args.rows.rest.bytes.now,
      c.args.rows.rest.within,
    ) in
    let enough : nat_le (c.in-Some.vertices + c.in-Some.faces) (length (rows_in c.args.rows)) ≡ true = sym c.are_rows.ensures ∙ c.if-not-are_rows.false in
    let same : counted (counts_of (piece_of c.args.first ∷ words_in c.args.others)) (rows_in c.args.rows) ≡ whole
    (points_of (take c.in-Some.vertices (rows_in c.args.rows)))
    (facets_of c.in-Some.vertices (take c.in-Some.faces (drop c.in-Some.vertices (rows_in c.args.rows)))) =
    counts_read 1000000000000000 c.in-Some.vertices c.in-Some.faces
    (counts_of (piece_of c.args.first ∷ words_in c.args.others)) (rows_in c.args.rows) c.in-Some.ensures.value
    (leb-true (c.in-Some.vertices + c.in-Some.faces) (length (rows_in c.args.rows)) enough) few in
    rw same c.read_lists.ensures.fault
