use Rattle.std.proofs.Common.{ℕ, List, subst}
use Rattle.mesh_info.specs.Page.ReadBack.{IsReadBack}
use Rattle.mesh_number.proofs.Appended.{on_ok_anyway}
use Rattle.mesh_run.proofs.files.put_page.Goals as goal

pub returns-clause-read_back : goal.returns-clause-read_back
returns-clause-read_back c =
    let shown = c.args.shown.now in
    on_ok_anyway c.put_named.result
    (subst (λ (bytes : List ℕ). IsReadBack shown c.args.numbers.now bytes) c.in_ok-bytes.ensures.page c.in_ok-bytes.ensures.read_back)
