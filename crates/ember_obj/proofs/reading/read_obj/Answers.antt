use Rattle.std.proofs.Common.{◌≡◌, ◌∙◌, sym, subst, List, All}
use Rattle.ember_model.specs.Valid.{IsValidTri}
use Rattle.ember_model.specs.declared.tri.Tri.{Tri}
use Rattle.ember_obj.specs.Lines.{physical_lines}
use Rattle.ember_obj.specs.Table.{Table}
use Rattle.ember_obj.proofs.Soundness.{IsSound, sound_table}
use Rattle.ember_obj.proofs.reading.read_obj.Goals as goal

pub of-requires-3-clause-paired : goal.of-requires-3-clause-paired
of-requires-3-clause-paired c =
    let sound : IsSound c.args.mesh c.loop-line.table =
    sound_table c.args.places c.args.mesh c.loop-line.number c.args.bytes.now c.loop-line.table
    (physical_lines c.loop-line.rest.now) c.loop-line.invariant.same c.in_default.ensures.lines in
    let inside : IsSound c.args.mesh (record {
      vertices = c.table-2.inside.vertices.items;
      tris =
          c.table-2.inside.tris.items;
      lines = c.table-2.inside.lines.items;
    }) =
    subst (λ (t : Table). IsSound c.args.mesh t) (sym c.table-2.view_is) sound in
    rw (c.of.ensures, c.of-2.ensures) inside.paired

pub of-requires-3-clause-valid : goal.of-requires-3-clause-valid
of-requires-3-clause-valid c =
    let sound : IsSound c.args.mesh c.loop-line.table =
    sound_table c.args.places c.args.mesh c.loop-line.number c.args.bytes.now c.loop-line.table
    (physical_lines c.loop-line.rest.now) c.loop-line.invariant.same c.in_default.ensures.lines in
    let inside : IsSound c.args.mesh (record {
      vertices = c.table-2.inside.vertices.items;
      tris =
          c.table-2.inside.tris.items;
      lines = c.table-2.inside.lines.items;
    }) =
    subst (λ (t : Table). IsSound c.args.mesh t) (sym c.table-2.view_is) sound in
    subst (λ (ts : List Tri). All IsValidTri ts) (sym c.of.ensures) inside.tris

pub returns-clause-few : goal.returns-clause-few
returns-clause-few c =
    let sound : IsSound c.args.mesh c.loop-line.table =
    sound_table c.args.places c.args.mesh c.loop-line.number c.args.bytes.now c.loop-line.table
    (physical_lines c.loop-line.rest.now) c.loop-line.invariant.same c.in_default.ensures.lines in
    let inside : IsSound c.args.mesh (record {
      vertices = c.table-2.inside.vertices.items;
      tris =
          c.table-2.inside.tris.items;
      lines = c.table-2.inside.lines.items;
    }) =
    subst (λ (t : Table). IsSound c.args.mesh t) (sym c.table-2.view_is) sound in
    rw (c.of-3.ensures.tris, c.of.ensures) inside.few_tris

pub returns-clause-mesh : goal.returns-clause-mesh
returns-clause-mesh c =
    let sound : IsSound c.args.mesh c.loop-line.table =
    sound_table c.args.places c.args.mesh c.loop-line.number c.args.bytes.now c.loop-line.table
    (physical_lines c.loop-line.rest.now) c.loop-line.invariant.same c.in_default.ensures.lines in
    let inside : IsSound c.args.mesh (record {
      vertices = c.table-2.inside.vertices.items;
      tris =
          c.table-2.inside.tris.items;
      lines = c.table-2.inside.lines.items;
    }) =
    subst (λ (t : Table). IsSound c.args.mesh t) (sym c.table-2.view_is) sound in
    subst (λ (ts : List Tri). All (λ t. t.mesh ≡ c.args.mesh) ts) (sym (c.of-3.ensures.tris ∙ c.of.ensures)) inside.of_mesh
