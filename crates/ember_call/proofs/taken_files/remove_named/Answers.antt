use Rattle.ember_call.proofs.OwnNames.{removed}
use Rattle.ember_call.proofs.taken_files.remove_named.Goals as goal

pub returns-in-Some-clause-without : goal.returns-in-Some-clause-without
returns-in-Some-clause-without c =
    let found = rw c.deref.ensures.value at c.in-Some.ensures in
    rw c.remove.ensures.items (removed c.args.files.now.items c.in-Some.index c.args.name.now found.in_range found.named c.requires)
