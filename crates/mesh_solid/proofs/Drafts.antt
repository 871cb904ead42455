-- Drafts of the edges before the rest
use Rattle.std.proofs.Common.{◌≡◌, ℕ, ◌+◌, ◌<◌, ◌≤◌, List, ◌∷◌, ◌++◌, length, drop, get_or, refl, sym, ap, subst, ◌∙◌, arith}
use Rattle.std.specs.Prelude.{Result, Ok, Err, IfErr, IsErrAnd}
use Rattle.std.specs.List.{Contains}
use Rattle.std.proofs.lemmas.List.{append-nil, length-append, at_drop_more, at_drop_all}
use Rattle.std.proofs.lemmas.List.Elements.{Contains-append_right}
use Rattle.std.proofs.lemmas.Slice.Zip.{AllZip-long}
use Rattle.ember_model.specs.declared.plane.Plane.{Plane}
use Rattle.ember_model.specs.declared.face.Face.{Face}
use Rattle.ember_model.specs.Valid.{IsValidPlane}
use Rattle.mesh_certificate.specs.Key.PlaneKeys.{IsPlaneKey}
use Rattle.mesh_solid.specs.declared.tables.face_edge.FaceEdge.{FaceEdge}
use Rattle.mesh_solid.specs.declared.tables.fault.TableFault.{TableFault}
use Rattle.mesh_solid.specs.declared.tables.fault.TableFault.TheVariants.{NoLine, NoCorner, TooMany, OutOfMemory}
use Rattle.mesh_solid.specs.declared.tables.draft.TableBuilder.{TableBuilder}
use Rattle.mesh_solid.specs.Tables.Edges.{first_or, last_or, edges_behind, edges_round, face_edges_of}
use Rattle.mesh_solid.specs.Tables.Tables.{IsPlaneOf, IsSegmentOf, IsEdgeFault, IsFault}
use Rattle.mesh_solid.specs.Tables.Drafts.{planes_in, IsDraft, IsDraftBefore}

-- what holds of the fault that was passed on
pub passed_on : {T : Type 0} (P : TableFault → Type 0) (r : Result T TableFault) (e : TableFault) → IsErrAnd r (λ f. f ≡ e) → P e → IfErr r P
passed_on P (Ok x) e i h = tt
passed_on P (Err f) e i h = subst P (sym i) h

-- ---- the edge that comes next
module _ (all rest : List FaceEdge) (edge : FaceEdge) (d : TableBuilder) where
  next_is_one : IsDraftBefore all (edge ∷ rest) d → Contains all edge
  next_is_one h =
      subst (λ (es : List FaceEdge). Contains es edge) h.split (Contains-append_right h.done (edge ∷ rest) edge (0, omega arith, refl))

  -- its fault is one of all edges
  pub next_fault : (e : TableFault) → IsDraftBefore all (edge ∷ rest) d → IsEdgeFault edge e → IsFault all e
  next_fault (NoLine n) h f = (edge, next_is_one h, f)
  next_fault (NoCorner n) h f = (edge, next_is_one h, f)
  next_fault TooMany h f = absurd f
  next_fault OutOfMemory h f = absurd f

  -- it is one too many if there are as many segments as are allowed
  pub one_too_many : IsDraftBefore all (edge ∷ rest) d → 2147483647 ≤ length d.segments.items → 2147483647 < length all
  one_too_many h many =
      let long = AllZip-long (IsSegmentOf (planes_in d) d.lines.keys d.corners.keys) h.done d.segments.items h.draft.segments in
      omega (arith, many, long, length-append h.done (edge ∷ rest), ap length h.split)

-- ---- one face
module _ (all more : List FaceEdge) (face : ℕ) (n : Plane) (d : TableBuilder) where
  -- its edges are those from its first one on
  pub round_begins : (xs : List Plane) (e : Plane) (es : List Plane) (before : Plane) → xs ≡ e ∷ es →
      before ≡ last_or e es → IsDraftBefore all (edges_round face n xs ++ more) d →
      IsDraftBefore all (edges_behind face n e before xs ++ more) d
  round_begins xs e es before x b h =
      subst (λ (p : Plane). IsDraftBefore all (edges_behind face n e p xs ++ more) d) (sym b)
      (subst (λ (ys : List Plane). IsDraftBefore all (edges_behind face n e (last_or e es) ys ++ more) d) (sym x)
      (subst (λ (ys : List Plane). IsDraftBefore all (edges_round face n ys ++ more) d) x h))

  -- a fault of the first one
  pub first_fault : (xs : List Plane) (e : Plane) (es : List Plane) (before : Plane) (t : TableFault) → xs ≡ e ∷ es →
      before ≡ last_or e es → IsEdgeFault (record {
        face = face;
        support = n;
        before = before;
        plane = e;
        after =
            first_or e es;
      }) t → IsDraftBefore all (edges_round face n xs ++ more) d → IsFault all t
  first_fault xs e es before t x b f h =
      let begun = subst (λ (ys : List Plane). IsDraftBefore all (edges_behind face n e before ys ++ more) d) x (round_begins xs e es before x b h) in
      next_fault all (edges_behind face n e e es ++ more) (record { face = face; support = n; before = before; plane = e; after = first_or e es }) d t begun f

  -- its plane is one of a face
  pub plane_is_used : (xs : List Plane) (e : Plane) (es : List Plane) (p : Plane) → xs ≡ e ∷ es → IsPlaneKey n p →
      (IsValidPlane n → IsValidPlane p) → IsDraftBefore all (edges_round face n xs ++ more) d → IsPlaneOf all p
  plane_is_used xs e es p x key valid h =
      let first : FaceEdge = record { face = face; support = n; before = last_or e es; plane = e; after = first_or e es } in
      let begun = subst (λ (ys : List Plane). IsDraftBefore all (edges_round face n ys ++ more) d) x h in
      record { edge = first; one = next_is_one all (edges_behind face n e e es ++ more) first d begun; is = key; valid = valid }

  -- the next one, with the plane of the one after it
  pub round_goes_on : (first before : Plane) (xs : List Plane) (e : Plane) (es : List Plane) (after : Plane) →
      xs ≡ e ∷ es → after ≡ first_or first es → IsDraftBefore all (edges_behind face n first before xs ++ more) d →
      IsDraftBefore all (record { face = face; support = n; before = before; plane = e; after = after }
      ∷ (edges_behind face n first e es ++ more)) d
  round_goes_on first before xs e es after x a h =
      subst (λ (p : Plane). IsDraftBefore all (record {
        face = face;
        support = n;
        before = before;
        plane = e;
        after =
            p;
      } ∷ (edges_behind face n first e es ++ more)) d) (sym a)
      (subst (λ (ys : List Plane). IsDraftBefore all (edges_behind face n first before ys ++ more) d) x h)

-- ---- all faces
module _ (all : List FaceEdge) (fs : List Face) (i : ℕ) (d : TableBuilder) where
  pub face_begins : (f : Face) (ps : List Plane) → i < length fs → f ≡ get_or fs i f → ps ≡ f.edges →
      IsDraftBefore all (face_edges_of i (drop i fs)) d →
      IsDraftBefore all (edges_round i f.support ps ++ face_edges_of (i + 1) (drop (i + 1) fs)) d
  face_begins f ps l e p h =
      subst (λ (qs : List Plane). IsDraftBefore all
      (edges_round i f.support qs ++ face_edges_of (i + 1) (drop (i + 1) fs)) d) (sym p)
      (subst (λ (g : Face). IsDraftBefore all (edges_round i g.support g.edges
      ++ face_edges_of (i + 1) (drop (i + 1) fs)) d) (sym e)
      (subst (λ (es : List FaceEdge). IsDraftBefore all es d) (at_drop_more (face_edges_of i) fs i f l) h))

  pub faces_end : length fs ≤ i → IsDraftBefore all (face_edges_of i (drop i fs)) d → IsDraft all d
  faces_end l h =
      subst (λ (es : List FaceEdge). IsDraft es d)
      (sym (append-nil h.done) ∙ ap (λ (es : List FaceEdge). h.done ++ es)
      (sym (at_drop_all (face_edges_of i) fs i l)) ∙ h.split) h.draft
