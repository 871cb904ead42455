use Rattle.std.proofs.Common.{◌≡◌, [], List, map, sym, subst}
use Rattle.std.specs.List.{All, AllZip}
use Rattle.std.proofs.lemmas.List.Elements.{All-nil}
use Rattle.ember_width.specs.Broad.{IsBroadPlane}
use Rattle.mesh_solid.specs.declared.tables.plane_entry.PlaneEntry.{PlaneEntry}
use Rattle.mesh_solid.specs.Tables.Numberings.{plane_of}
use Rattle.mesh_solid.specs.Tables.Tables.{IsSegmentOf}
use Rattle.mesh_solid.proofs.tables.draft.TableBuilder.new.Goals as goal

pub returns-clause-draft : goal.returns-clause-draft
returns-clause-draft c =
    let p = c.new in let l = c.new-2 in let k = c.new-3 in
    let none : p.result.keys ≡ [] = p.ensures.empty in
    record {
      planes = p.ensures.unique;
      lines = l.ensures.unique;
      corners = k.ensures.unique;
      broad = subst (λ (es : List PlaneEntry). All IsBroadPlane (map plane_of es)) (sym none) (All-nil IsBroadPlane);
      segments = subst (AllZip (IsSegmentOf (map plane_of p.result.keys) l.result.keys k.result.keys) []) (sym c.new-4.ensures.items) tt;
    }
