use Rattle.ember_io.specs.Calls.{shelf_call}
use Rattle.ember_verdict.specs.NoReplies.{IsNoFile}
use Rattle.ember_verdict.specs.Verdict.{after_file}
use Rattle.ember_verdict.proofs.NoFiles.{bytes_are_no_file}
use Rattle.ember_verdict.proofs.Verdicts.{passed_on}
use Rattle.ember_verdict.proofs.reading.read_file.Goals as goal

pub returns-in_err-bytes-clause-no_file : goal.returns-in_err-bytes-clause-no_file
returns-in_err-bytes-clause-no_file g c =
    let a = c.args in
    let shelf = shelf_call g.S.Shelf.contents g.S.Shelf.faults g.S.Shelf.fault_at g.S.Shelf.fault_kind a.shelf.now c.read_bytes.new.shelf in
    passed_on (IsNoFile (after_file a.places a.number) a.number a.name.now shelf) _ _ c.from_residual.ensures.1
    (bytes_are_no_file a.places a.number a.name.now shelf _ c.in_err-bytes.ensures.no_file)
