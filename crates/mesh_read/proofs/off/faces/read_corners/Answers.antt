use Rattle.std.proofs.Common.{◌≡◌, ◌<◌, length, [], arith}
use Rattle.mesh_read.specs.Scan.Parts.{words_in}
use Rattle.mesh_number.specs.Number.Naturals.{number_of}
use Rattle.mesh_read.specs.Off.ReadOff.{corners_of_size, indices}
use Rattle.mesh_read.proofs.Corners.{size_read}
use Rattle.mesh_read.proofs.RowCounts.{few_words_from}
use Rattle.mesh_read.proofs.off.faces.read_corners.Goals as goal

pub returns-clause-ok : goal.returns-clause-ok
returns-clause-ok c =
    let few : length (words_in c.args.row.others) < 1000000000000000 =
    omega (arith, few_words_from c.args.row.others.start c.args.row.others.bytes.now [], c.args.row.others.within) in
    let same : corners_of_size c.args.vertices (number_of c.args.row.first.bytes.now) (words_in c.args.row.others)
    ≡ indices c.args.vertices c.in-Some.size (words_in c.args.row.others) =
    size_read 1000000000000000 c.args.vertices c.in-Some.size (number_of c.args.row.first.bytes.now)
    (words_in c.args.row.others) c.in-Some.ensures (grind arith) few in
    rw same c.read_indices.ensures.ok

pub returns-clause-fault : goal.returns-clause-fault
returns-clause-fault c =
    let few : length (words_in c.args.row.others) < 1000000000000000 =
    omega (arith, few_words_from c.args.row.others.start c.args.row.others.bytes.now [], c.args.row.others.within) in
    let same : corners_of_size c.args.vertices (number_of c.args.row.first.bytes.now) (words_in c.args.row.others)
    ≡ indices c.args.vertices c.in-Some.size (words_in c.args.row.others) =
    size_read 1000000000000000 c.args.vertices c.in-Some.size (number_of c.args.row.first.bytes.now)
    (words_in c.args.row.others) c.in-Some.ensures (grind arith) few in
    rw same c.read_indices.ensures.fault
