use Rattle.std.proofs.Common.{rules, sym, ◌∙◌}
use Rattle.mesh_outside.proofs.MapFiles.{Puts-extended, HoldsSame-extended}
use Rattle.mesh_outside.proofs.target.map_files.extend_file.Goals as goal

pub returns-then-is_err-clause-held : goal.returns-then-is_err-clause-held
returns-then-is_err-clause-held c =
    let new = c.extend_from_slice.new.self in
    let updates = (c.get_mut.follows.holds new).3 (search rules) in
    HoldsSame-extended c.extend_from_slice.result c.args.files.now (c.get_mut.follows.lender new) c.args.name.now c.args.bytes.now c.in-Some.file.now new
    c.in-Some.ensures.value updates c.extend_from_slice.ensures.items (sym c.is_err.ensures.value ∙ c.if-is_err.true)

pub returns-clause-bytes : goal.returns-clause-bytes
returns-clause-bytes c =
    let new = c.extend_from_slice.new.self in
    let updates = (c.get_mut.follows.holds new).3 (search rules) in
    Puts-extended c.extend_from_slice.result c.args.files.now (c.get_mut.follows.lender new) c.args.name.now c.args.bytes.now c.in-Some.file.now new
    c.in-Some.ensures.value updates c.extend_from_slice.ensures.items (sym c.is_err.ensures.value ∙ c.if-is_err.false)
