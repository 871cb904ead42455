use Rattle.std.proofs.Common.{◌≡◌, ◌<◌, ◌≤◌, List, length, take_all, ◌+◌, sym, ap, subst, ◌∙◌, arith, get_or}
use Rattle.std.proofs.lemmas.List.{length-map, get_or-map}
use Rattle.ember_model.specs.declared.tri.Tri.{Tri}
use Rattle.ember_model.specs.Faces.{face_of, leg}
use Rattle.ember_model.specs.Meshes.{HasMesh}
use Rattle.ember_model.specs.Within.{IsTriWithin}
use Rattle.ember_law.specs.Counts.{with_more}
use Rattle.ember_law.proofs.FlatTriangles.{flat_leg}
use Rattle.ember_law.proofs.Tallies.{tally_more, tally_none}
use Rattle.ember_law.proofs.CountBounds.{all_within}
use Rattle.ember_box.specs.Boxes.{right_half, in_steps}
use Rattle.ember_box.specs.Near.{listed, tri_at, no_tri}
use Rattle.ember_box.specs.Reference.{reference_beside}
use Rattle.ember_box.proofs.InSteps.{above_in_steps}
use Rattle.ember_ref.specs.References.{counts_beside}
use Rattle.ember_ref.proofs.ShiftLaw.{shift_law_within}
use Rattle.ember_ref.proofs.shifting.shift_listed_on.Goals as goal

pub loop-i-init : goal.loop-i-init
loop-i-init g c =
    let f = g.W.Width.fine in let b = in_steps g.W.Width.scale c.args.c.now in
    record {
      value = sym (tally_none (λ h. leg h (reference_beside f (right_half b c.args.axis).lo) (reference_beside f b.lo)) c.args.v.now.counts);
      within = λ m h. all_within c.args.v.now.counts (omega arith) h;
    }

pub add_crossing-requires-clause-room : goal.add_crossing-requires-clause-room
add_crossing-requires-clause-room g c =
    let l = c.requires.few in let e = c.loop-i.auto.i-index-end in
    all_within c.loop-i.v.counts (omega arith) (c.loop-i.invariant.within 16515072 c.requires.room)

pub loop-i-preserved : goal.loop-i-preserved
loop-i-preserved g c =
    let n = g.W.Width.scale in let f = g.W.Width.fine in let b = in_steps n c.args.c.now in let k = c.args.axis in
    let p = reference_beside f (right_half b k).lo in let q = reference_beside f b.lo in
    let tris = c.args.tris.now in let list = c.args.list.now in let ts = listed tris list in let i = c.loop-i.i-index in
    let t = tri_at tris (get_or list i 0) in
    let l : i < length list = omega arith in
    let here : i < length ts = omega (arith, length-map list (λ j. tri_at tris j)) in
    let e : get_or ts i no_tri ≡ t = get_or-map (λ j. tri_at tris j) list i 0 no_tri l in
    let v : IsTriWithin g.W.Width.corner t = c.requires.within (get_or list i 0) no_tri (c.requires.places i 0 l) in
    let over = above_in_steps n c.args.c.now k c.requires.side in
    let m : HasMesh 64 t = c.requires.numbered (get_or list i 0) no_tri (c.requires.places i 0 l) in
    record {
      value = c.add_crossing.ensures.value g.W.Width.corner f b k v g.met.W.Width.tells_apart over c.segment_back-segment.ensures.back
          ∙ (λ j. with_more (c.loop-i.invariant.value j) (sym e j).mesh (leg (face_of (sym e j)) p q))
          ∙ sym (tally_more (λ h. leg h p q) (flat_leg p q) ts i no_tri here (subst (HasMesh 64) (sym e) m)
          c.args.v.now.counts);
      within = λ m h. all_within c.add_crossing.new.v.counts (omega arith) (c.add_crossing.ensures.within (m + i) (c.loop-i.invariant.within m h));
    }

pub returns-clause-value : goal.returns-clause-value
returns-clause-value g c =
    let ts = listed c.args.tris.now c.args.list.now in
    let n : length ts ≤ c.loop-i.i-index = omega (arith, c.loop-i-test.false, length-map c.args.list.now (λ j. tri_at c.args.tris.now j)) in
    c.loop-i.invariant.value ∙ ap (λ (ns : List Tri). counts_beside g.W.Width.fine ns (in_steps g.W.Width.scale c.args.c.now) c.args.axis c.args.v.now.counts) (take_all c.loop-i.i-index ts n)

pub returns-clause-within : goal.returns-clause-within
returns-clause-within g c = λ m h. let e = c.loop-i-test.false in let f = c.loop-i.auto.i-index-end in
    all_within c.loop-i.v.counts (omega arith) (c.loop-i.invariant.within m h)

pub returns-clause-law : goal.returns-clause-law
returns-clause-law g c = λ scene fit.
    let f = g.W.Width.fine in let b = in_steps g.W.Width.scale c.args.c.now in let k = c.args.axis in
    let old = c.args.v.now.counts in let ts = listed c.args.tris.now c.args.list.now in
    let n : length ts ≤ c.loop-i.i-index = omega (arith, c.loop-i-test.false, length-map c.args.list.now (λ j. tri_at c.args.tris.now j)) in
    shift_law_within g.W.Width.corner f scene ts b k old g.met.W.Width.tells_apart (above_in_steps g.W.Width.scale c.args.c.now k c.requires.side) fit
    ∙ sym (c.loop-i.invariant.value ∙ ap (λ (ns : List Tri). counts_beside f ns b k old)
    (take_all c.loop-i.i-index ts n))
