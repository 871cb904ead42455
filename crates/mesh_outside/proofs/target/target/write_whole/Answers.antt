use Rattle.std.proofs.Common.{◌≡◌, ◌∙◌, sym}
use Rattle.std.specs.Bool.{⊤}
use Rattle.std.proofs.lemmas.Option.{MatchOption-at_some}
use Rattle.mesh_outside.proofs.HeldNames.{IsBeside-differs, Puts-twice, HoldsOld-discarded}
use Rattle.mesh_outside.proofs.target.target.write_whole.Goals as goal

pub returns-in_default-clause-old : goal.returns-in_default-clause-old
returns-in_default-clause-old g c =
    let n = c.in_ok-begin_beside.ensures.begun in
    let part = MatchOption-at_some ⊤ _ n.0 n.1 c.in_default.ensures.held in
    let left = Puts-twice _ _ _ n.0 _ _ n.4 part.1 in
    HoldsOld-discarded c.discard.result _ _ _ _ n.0 _ n.2 n.3 left
    (rw (c.in_default.ensures.begun ∙ n.1) at c.discard.ensures.removed) c.discard.ensures.held

pub write_and_keep-requires-clause-apart : goal.write_and_keep-requires-clause-apart
write_and_keep-requires-clause-apart g c = λ same.
    let n = c.in_ok-begin_beside.ensures.begun in
    let both = sym n.1 ∙ same in
    let is : n.0 ≡ c.args.name.now = cc in
    IsBeside-differs c.args.name.now n.0 n.2 is
