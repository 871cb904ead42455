-- Of the regions that hold a place just those of the first triangle there are owned; the faces of
-- all of them are hit where their triangles are.
use Rattle.std.proofs.Common.{◌≡◌, ℕ, ◌<◌, ◌≤◌, refl, ap, ◌∙◌, sym, subst, List, length, Bool, true, false, not, ◌&&◌, nat_lt, Some, slice_get, ⊎_elim, arith}
use Rattle.std.specs.List.{count_by}
use Rattle.std.proofs.lemmas.Bool.{cases_Bool, and_parts, and_from, lt-ltb, ltb-true, not-true}
use Rattle.std.proofs.lemmas.Option.{slice_get-get_or, get_or_from_slice_get}
use Rattle.ember_model.specs.declared.tri.Tri.{Tri}
use Rattle.ember_model.specs.declared.point.Spot.{Spot}
use Rattle.ember_model.specs.declared.face.Face.{Face}
use Rattle.ember_model.specs.Faces.{is_inside, is_flat, face_of}
use Rattle.ember_model.specs.Owners.{is_coplanar, IsOwner}
use Rattle.ember_model.proofs.SignTests.{clash}
use Rattle.ember_model.proofs.Hits.{inside_closed}
use Rattle.ember_box.specs.Boxes.{Cell}
use Rattle.ember_box.specs.Near.{near, tri_at, no_tri}
use Rattle.ember_box.specs.Sums.{number}
use Rattle.ember_box.specs.Regions.{IsRegions}
use Rattle.ember_trace.proofs.BoxedRegions.{region_inside}
use Rattle.ember_trace.proofs.CutRegions.{IsCutOut, region_cut}
use Rattle.ember_trace.proofs.FlatPlanes.{lies_flat, shared_face}
use Rattle.ember_trace.proofs.SharedPlanes.{on_plane}
use Rattle.ember_leaf.proofs.RegionOrder.{face_support}
use Rattle.ember_meaning.proofs.CountedPoints.{is_in_box, IsFairAt}
use Rattle.ember_meaning.proofs.Listed.{Entry, entry, IsEntries, has_inside, is_hit_at}
use Rattle.ember_meaning.proofs.Lines.{In}
use Rattle.ember_meaning.proofs.Leaf.{leaf_count}
use Rattle.ember_meaning.proofs.Members.{map_member_has_source, giver, member_splits_list, in_range, any_in, Passes, any_has_member, only_one}
use Rattle.ember_meaning.proofs.OneOwner.{count_in}

-- ---- where an entry comes from
pub record IsOf (scene : List Tri) (cs : List Cell) (e : Entry) : Type 0 where
  pub listed : In e.cell cs
  pub below : e.tri < length (near scene e.cell)
  pub faces : List Face
  pub are_regions : IsRegions e.cell (near scene e.cell) e.tri faces
  pub index : ℕ
  pub here : slice_get faces index ≡ Some e.face
  pub member : In e.face faces

-- an entry of the list is an entry of the scene
pub entry_of : (scene : List Tri) (cs : List Cell) (es : List Entry) (e : Entry) → IsEntries scene cs es → In e es → IsOf scene cs e
entry_of scene cs es e r i =
    let g = giver e r i in let k = giver e g.gives g.among in
    let s = map_member_has_source (entry g.from k.from) k.gives.faces e (subst (λ l. In e l) k.gives.is k.among) in
    let p = member_splits_list k.gives.faces s.at s.member in
    subst (IsOf scene cs) (sym s.is) (record {
      listed = g.member;
      below =
          in_range (length (near scene g.from)) k.from k.member;
      faces = k.gives.faces;
      are_regions =
          k.gives.are_regions;
      index = p.index;
      here = p.is;
      member = s.member;
    })

module _ (scene : List Tri) (cs : List Cell) (v : Spot) (e : Entry) (o : IsOf scene cs e) (has : is_inside e.face v ≡ true) where
  abbrev ns : List Tri
  ns = near scene e.cell

  abbrev t : Tri
  t = tri_at ns e.tri

  cut_out : IsCutOut ns t e.face
  cut_out = region_cut e.cell ns e.tri o.index o.faces e.face o.are_regions o.here

  pub inside_tri : is_inside (face_of t) v ≡ true
  inside_tri = region_inside e.cell ns e.tri o.index o.faces e.face o.are_regions o.here v has

  -- the leaf holds the place
  holds : IsFairAt scene v e.cell → is_in_box e.cell v ≡ true
  holds fair =
      by (is_in_box e.cell v) (is_inside (face_of t) v)
      (leaf_count e.cell ns e.tri v o.faces cut_out.normal (fair e.tri cut_out.normal) o.are_regions)
      (count_in (λ f. is_inside f v) o.faces e.face o.member has)
    where
      by : {n : ℕ} (a b : Bool) → n ≡ number (a && b) → 0 < n → a ≡ true
      by true b h l = refl
      by false b h l = absurd (omega (arith, h, l))

  hit_in : (j : ℕ) → j < length ns → is_flat (tri_at ns j) ≡ false → is_inside (face_of (tri_at ns j)) v ≡ true → has_inside ns j v ≡ true
  hit_in j l f i =
      and_from (nat_lt j (length ns)) (not (is_flat (tri_at ns j)) && is_inside (face_of (tri_at ns j)) v)
      (lt-ltb j (length ns) l) (and_from (not (is_flat (tri_at ns j))) (is_inside (face_of (tri_at ns j)) v)
      (ap not f) i)

  -- the first triangle's region is owned
  pub owned : IsFairAt scene v e.cell → ((j : ℕ) → j < e.tri → is_hit_at scene cs v j ≡ false) → IsOwner ns e.tri e.face
  owned fair least =
      record {
        first = λ j t' u l eu et c h. clash
            (any_in (λ d. is_in_box d v && has_inside (near scene d) j v) cs e.cell o.listed
            (and_from (is_in_box e.cell v) (has_inside ns j v) (holds fair)
            (there_too j u l eu (on_plane u t' c).normal_t (h.holds v has)))) (least j l);
      }
    where
      there_too : (j : ℕ) (u : Tri) → j < e.tri → slice_get ns j ≡ Some u → is_flat u ≡ false → is_inside (face_of u) v ≡ true → has_inside ns j v ≡ true
      there_too j u l eu f i =
          let s = get_or_from_slice_get ns j u no_tri eu in
          let n = o.below in
          hit_in j (omega (arith, l, n)) (ap is_flat s ∙ f) (ap (λ (w : Tri). is_inside (face_of w) v) s ∙ i)

  -- and no other's is
  pub first : count_by (λ c. is_in_box c v) cs ≤ 1 → IsFairAt scene v e.cell → IsOwner ns e.tri e.face → (j : ℕ) → j < e.tri → is_hit_at scene cs v j ≡ false
  first one fair own j l =
      ⊎_elim (λ h. absurd (taken (any_has_member (λ d. is_in_box d v && has_inside (near scene d) j v) cs h))) (λ h. h) (cases_Bool (is_hit_at scene cs v j))
    where
      shared : j < length ns → is_flat (tri_at ns j) ≡ false → is_inside (face_of (tri_at ns j)) v ≡ true → ⊥
      shared n nf i =
          let u = tri_at ns j in
          let c = ⊎_elim (λ h. h) (λ h. absurd (cut_out.misses j n nf h v has (inside_closed (face_of u) v i))) (cases_Bool (is_coplanar t u)) in
          let d = lies_flat u t (face_of u) v (face_support u) nf cut_out.normal i
          (record { holds = λ w g. shared_face t u w c (inside_closed (face_of u) w g) }) in
          own.first j t u l (slice_get-get_or ns j no_tri n) (slice_get-get_or ns e.tri no_tri o.below) d
          (record { holds = λ w g. cut_out.shares j n c v w has (inside_closed (face_of u) v i) g })

      at : (d : Cell) → d ≡ e.cell → has_inside (near scene d) j v ≡ true → ⊥
      at d s h =
          let g = subst (λ c. has_inside (near scene c) j v ≡ true) s h in
          let p = and_parts (nat_lt j (length ns)) (not (is_flat (tri_at ns j)) && is_inside (face_of (tri_at ns j)) v) g in
          let q = and_parts (not (is_flat (tri_at ns j))) (is_inside (face_of (tri_at ns j)) v) p.1 in
          shared (ltb-true j (length ns) p.0) (not-true (is_flat (tri_at ns j)) q.0) q.1

      taken : Passes (λ d. is_in_box d v && has_inside (near scene d) j v) cs → ⊥
      taken q =
          let p = and_parts (is_in_box q.at v) (has_inside (near scene q.at) j v) q.holds in
          at q.at (only_one (λ c. is_in_box c v) cs q.at e.cell one q.member o.listed p.0 (holds fair)) p.1
