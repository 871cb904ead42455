use Rattle.std.proofs.Common.{◌≡◌, rules, arith}
use Rattle.ember_io.specs.Shelves.{TellsMore}
use Rattle.ember_io.specs.Calls.{shelf_call}
use Rattle.ember_verdict.proofs.NoFiles.{long_is_no_file}
use Rattle.ember_verdict.proofs.reading.read_bytes.Goals as goal

pub returns-in-Err-TooLong-clause-no_file : goal.returns-in-Err-TooLong-clause-no_file
returns-in-Err-TooLong-clause-no_file g c =
    let a = c.args in
    let shelf = shelf_call g.S.Shelf.contents g.S.Shelf.faults g.S.Shelf.fault_at g.S.Shelf.fault_kind a.shelf.now c.read_all.new.shelf in
    let count : c.in-Err-TooLong.count ≡ 268435457 = first_of (search rules, grind arith) in
    let longer : TellsMore (g.S.Shelf.contents a.shelf.now a.name.now) 268435456 = first_of (search rules, grind arith) in
    long_is_no_file a.number _ a.name.now shelf count longer
