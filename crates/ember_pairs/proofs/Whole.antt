-- The gathered pairs of all leaves are the meeting pairs of the scene.
use Rattle.std.proofs.Common.{◌≡◌, ⊎_elim, inl, inr, ℕ, zero, suc, ◌<◌, refl, sym, ap, ◌∙◌, subst, arith, Bool, true}
use Rattle.std.proofs.Common.{false, if◌then◌else◌, nat_lt, List, [], ◌∷◌, length, All}
use Rattle.std.specs.List.{AllByRecursion}
use Rattle.std.specs.List.Sorted.{IsStrictlySortedBy}
use Rattle.std.specs.Ordering.{MatchOrdering, ordering_then, nat_cmp}
use Rattle.std.specs.declared.cmp.Ordering.{Ordering}
use Rattle.std.specs.declared.cmp.Ordering.TheVariants.{Less, Equal, Greater}
use Rattle.std.specs.Cmp.{ranks}
use Rattle.std.proofs.lemmas.List.Elements.{All-get_or}
use Rattle.ember_algebra.specs.Relations.{Each, none, more}
use Rattle.ember_model.specs.declared.tri.Tri.{Tri}
use Rattle.ember_model.specs.declared.point.Spot.{Spot}
use Rattle.ember_model.specs.Valid.{IsValidTri}
use Rattle.ember_model.specs.Faces.{face_of}
use Rattle.ember_model.proofs.SignTests.{In}
use Rattle.ember_model.proofs.Hits.{inside_closed}
use Rattle.ember_box.specs.Boxes.{Cell, root, halvings_left, left_half, right_half}
use Rattle.ember_box.specs.Near.{is_near, tri_at, no_tri, near_indices, all_indices}
use Rattle.ember_box.specs.Halving.{halving_axis, is_leaf}
use Rattle.ember_job.specs.declared.job.Job.{Job}
use Rattle.ember_job.specs.Works.{Shape, halved, leafed, passed}
use Rattle.ember_job.specs.Visited.{below_shape, visited_within, if_leafed, leaves_among}
use Rattle.ember_job.proofs.Members.{in_append_left, in_append_right, in_append_out}
use Rattle.ember_pairs.specs.declared.pair.Pair.{Pair}
use Rattle.ember_pairs.specs.Pairs.{AreMeeting, AtPair, meeting, apart, pairs_of, AreMeetingPairs, ArePairs}
use Rattle.ember_pairs.specs.Works.{job_at, pairs_shape}
use Rattle.ember_pairs.specs.Gathering.{pair_order, together, AreGathered}
use Rattle.ember_pairs.specs.Whole.{AreItems, leaf_jobs}
use Rattle.ember_pairs.proofs.Members.{in_filter_out, in_from_contains, contains_from_in}
use Rattle.ember_pairs.proofs.Ascending.{Ascending, in_range_out, range_ascending, filter_ascending, pair_in, pair_out}
use Rattle.ember_pairs.proofs.Ascending.{Precedes, precedes_not, precedes_itself, Sorted, pairs_sorted}
use Rattle.ember_pairs.proofs.Leaves.{Share, listed_at, shared_leaf}

abbrev Meeting : List Tri → Pair → Type 0
Meeting ts p = AreMeeting (tri_at ts p.low) (tri_at ts p.high)

-- ---- members of a list of meeting pairs
record Listed (ts : List Tri) (all : List Pair) (p : Pair) : Type 0 where
  member : In p all
  meets : Meeting ts p

each_in : (ts : List Tri) (all ps : List Pair) (p : Pair) → Each (AtPair ts) all ps → In p ps → Listed ts all p
each_in ts all ps p none m = absurd m
each_in ts all ps p (more {x = q} (meeting a) e) (inl s) =
    record { member = inl s; meets = subst (λ (x : Pair). Meeting ts x) (sym s) a }
each_in ts all ps p (more {xs = xs} {zs = zs} (meeting a) e) (inr m) =
    let r = each_in ts xs zs p e m in record { member = inr r.member; meets = r.meets }
each_in ts all ps p (more {xs = xs} {zs = zs} (apart a) e) m =
    let r = each_in ts xs zs p e m in record { member = inr r.member; meets = r.meets }

each_has : (ts : List Tri) (all ps : List Pair) (p : Pair) → Each (AtPair ts) all ps → In p all → Meeting ts p → In p ps
each_has ts all ps p none m a = absurd m
each_has ts all ps p (more (meeting b) e) (inl s) a = inl s
each_has ts all ps p (more {xs = xs} {zs = zs} (meeting b) e) (inr m) a = inr (each_has ts xs zs p e m a)
each_has ts all ps p (more (apart b) e) (inl s) a = absurd (b (subst (λ (x : Pair). Meeting ts x) s a))
each_has ts all ps p (more {xs = xs} {zs = zs} (apart b) e) (inr m) a = each_has ts xs zs p e m a

-- a sorted list of just the meeting pairs is the list of them
each_of : (ts : List Tri) (all ps : List Pair) → Sorted all → Sorted ps → ((p : Pair) → In p ps → Listed ts all p) →
    ((p : Pair) → In p all → Meeting ts p → In p ps) → Each (AtPair ts) all ps
each_of ts [] [] s t f g = none
each_of ts [] (q ∷ qs) s t f g = absurd (f q (inl refl)).member
each_of ts (p ∷ all) [] s t f g =
    more (apart (λ a. g p (inl refl) a)) (each_of ts all [] s.1 tt (λ x m. absurd m) (λ x m a. g x (inr m) a))
each_of ts (p ∷ all) (q ∷ qs) s t f g =
    by (f q (inl refl)).member (λ xs. each_of ts all xs s.1)
  where
    by : In q (p ∷ all) → ((xs : List Pair) → Sorted xs → ((x : Pair) → In x xs → Listed ts all x) →
        ((x : Pair) → In x all → Meeting ts x → In x xs) → Each (AtPair ts) all xs) → Each (AtPair ts) (p ∷ all) (q ∷ qs)
    by (inl e) h =
        subst (λ (x : Pair). Each (AtPair ts) (p ∷ all) (x ∷ qs)) (sym e)
        (more (meeting (subst (λ (x : Pair). Meeting ts x) e (f q (inl refl)).meets))
        (h qs t.1 (λ x m. let r = f x (inr m) in
        record {
          member = ⊎_elim (λ d. absurd (precedes_itself q x (e ∙ sym d) (t.0 x m))) (λ n. n) r.member;
          meets =
              r.meets;
        }) (λ x m a. ⊎_elim (λ d. absurd (precedes_itself p x (sym (d ∙ e)) (s.0 x m))) (λ n. n)
        (g x (inr m) a))))
    by (inr n) h =
        let missing : In p (q ∷ qs) → ⊥ = λ m. ⊎_elim (λ d. precedes_itself p q d (s.0 q n)) (λ r. precedes_not p q (s.0 q n) (t.0 p r)) m in
        more (apart (λ a. missing (g p (inl refl) a)))
        (h (q ∷ qs) t (λ x m. let r = f x m in
        record {
          member = ⊎_elim (λ d. absurd (missing (subst (λ (y : Pair). In y (q ∷ qs)) d m))) (λ k. k) r.member;
          meets = r.meets;
        }) (λ x m a. g x (inr m) a))

-- ---- the order of the library
first_before : (p q : Pair) → pair_order p q ≡ Less → Precedes p q
first_before p q e =
    by (nat_cmp p.low q.low) (nat_cmp p.high q.high) (ranks p.low q.low) (ranks p.high q.high) e
  where
    by : (r s : Ordering) → MatchOrdering r (p.low < q.low) (p.low ≡ q.low) (q.low < p.low) →
        MatchOrdering s (p.high < q.high) (p.high ≡ q.high) (q.high < p.high) → ordering_then r s ≡ Less → Precedes p q
    by Less s m n e = inl m
    by Equal Less m n e = inr (m, n)
    by Equal Equal m n e = cc
    by Equal Greater m n e = cc
    by Greater s m n e = cc

all_out : (P : Pair → Type 0) (ps : List Pair) (q : Pair) → AllByRecursion P ps → In q ps → P q
all_out P [] q a m = absurd m
all_out P (p ∷ ps) q a (inl e) = subst P (sym e) a.0
all_out P (p ∷ ps) q a (inr m) = all_out P ps q a.1 m

sorted_from : (ps : List Pair) → IsStrictlySortedBy pair_order ps → Sorted ps
unfolding IsStrictlySortedBy
sorted_from [] s = tt
sorted_from (p ∷ ps) s =
    ((λ q m. first_before p q (all_out (λ x. pair_order p x ≡ Less) ps q s.0 m)), sorted_from ps s.1)

-- ---- leaves and their items
record ItemOf (ts : List Tri) (items : List (List Pair)) (job : Job) : Type 0 where
  item : List Pair
  member : In item items
  is : AreMeetingPairs ts job.list item

item_of : (ts : List Tri) (jobs : List Job) (items : List (List Pair)) (job : Job) → AreItems ts jobs items → In job jobs → ItemOf ts items job
item_of ts [] items job a m = absurd m
item_of ts (j ∷ jobs) [] job a m = absurd a
item_of ts (j ∷ jobs) (ps ∷ items) job a (inl e) =
    record { item = ps; member = inl refl; is = subst (λ (x : Job). AreMeetingPairs ts x.list ps) (sym e) a.0 }
item_of ts (j ∷ jobs) (ps ∷ items) job a (inr m) =
    let r = item_of ts jobs items job a.1 m in record { item = r.item; member = inr r.member; is = r.is }

record JobOf (ts : List Tri) (jobs : List Job) (ps : List Pair) : Type 0 where
  job : Job
  member : In job jobs
  is : AreMeetingPairs ts job.list ps

job_of : (ts : List Tri) (jobs : List Job) (items : List (List Pair)) (ps : List Pair) → AreItems ts jobs items → In ps items → JobOf ts jobs ps
job_of ts jobs [] ps a m = absurd m
job_of ts [] (qs ∷ items) ps a m = absurd a
job_of ts (j ∷ jobs) (qs ∷ items) ps a (inl e) =
    record { job = j; member = inl refl; is = subst (λ (x : List Pair). AreMeetingPairs ts j.list x) (sym e) a.0 }
job_of ts (j ∷ jobs) (qs ∷ items) ps a (inr m) =
    let r = job_of ts jobs items ps a.1 m in record { job = r.job; member = inr r.member; is = r.is }

record SomeItem (items : List (List Pair)) (p : Pair) : Type 0 where
  item : List Pair
  member : In item items
  has : In p item

some_item : (items : List (List Pair)) (p : Pair) → In p (together items) → SomeItem items p
some_item [] p m = absurd m
some_item (ps ∷ items) p m =
    ⊎_elim (λ l. record { item = ps; member = inl refl; has = l }) (λ r. let s = some_item items p r in
    record { item = s.item; member = inr s.member; has = s.has }) (in_append_out p ps (together items) m)

in_together : (items : List (List Pair)) (ps : List Pair) (p : Pair) → In ps items → In p ps → In p (together items)
in_together [] ps p m n = absurd m
in_together (qs ∷ items) ps p (inl e) n =
    in_append_left p qs (together items) (subst (λ (x : List Pair). In p x) e n)
in_together (qs ∷ items) ps p (inr m) n = in_append_right p qs (together items) (in_together items ps p m n)

-- each leaf is the job of a box
record AtBox (ts : List Tri) (job : Job) : Type 0 where
  cell : Cell
  is : job ≡ job_at ts cell

data Becomes (ts : List Tri) (c : Cell) : Type 0 where
  passes : pairs_shape ts (job_at ts c) ≡ passed → Becomes ts c
  ends : pairs_shape ts (job_at ts c) ≡ leafed → Becomes ts c
  splits : pairs_shape ts (job_at ts c) ≡ halved (job_at ts (left_half c (halving_axis ts c))) (job_at ts (right_half c (halving_axis ts c))) → Becomes ts c

becomes : (ts : List Tri) (c : Cell) → Becomes ts c
unfolding pairs_shape
becomes ts c = by (nat_lt (length (near_indices ts c (all_indices ts))) 2) (is_leaf ts c) refl refl
  where
    by : (few leaf : Bool) → nat_lt (length (near_indices ts c (all_indices ts))) 2 ≡ few → is_leaf ts c ≡ leaf → Becomes ts c
    by true leaf e d =
        passes (ap (λ b. if b then passed else (if is_leaf ts c then leafed else halved
        (job_at ts (left_half c (halving_axis ts c))) (job_at ts (right_half c (halving_axis ts c))))) e)
    by false true e d =
        ends (λ i. if e i then passed else (if d i then leafed else halved (job_at ts (left_half c (halving_axis ts c)))
        (job_at ts (right_half c (halving_axis ts c)))))
    by false false e d =
        splits (λ i. if e i then passed else (if d i then leafed else halved
        (job_at ts (left_half c (halving_axis ts c))) (job_at ts (right_half c (halving_axis ts c)))))

visited_at : (ts : List Tri) (n : ℕ) (c : Cell) (j : Job) → In j (visited_within (λ job. pairs_shape ts job) n (job_at ts c)) → AtBox ts j
visited_at ts zero c j (inl e) = record { cell = c; is = e }
visited_at ts zero c j (inr m) = absurd m
visited_at ts (suc n) c j m = by (becomes ts c) (λ d. visited_at ts n d j)
  where
    shape : Job → Shape
    shape job = pairs_shape ts job

    here : In j (job_at ts c ∷ []) → AtBox ts j
    here (inl e) = record { cell = c; is = e }
    here (inr k) = absurd k

    by : Becomes ts c → ((d : Cell) → In j (visited_within (λ job. pairs_shape ts job) n (job_at ts d)) → AtBox ts j) → AtBox ts j
    by (passes e) f =
        here (subst (λ (s : Shape). In j (below_shape (visited_within (λ job. pairs_shape ts job) n) (job_at ts c) s)) e m)
    by (ends e) f =
        here (subst (λ (s : Shape). In j (below_shape (visited_within (λ job. pairs_shape ts job) n) (job_at ts c) s)) e m)
    by (splits e) f =
        let low = left_half c (halving_axis ts c) in let high = right_half c (halving_axis ts c) in
        let r = subst (λ (s : Shape). In j (below_shape (visited_within (λ job. pairs_shape ts job) n) (job_at ts c) s)) e m in
        let first = visited_within (λ job. pairs_shape ts job) n (job_at ts low) in let second =
        visited_within (λ job. pairs_shape ts job) n (job_at ts high) in
        ⊎_elim (λ d. record { cell = c; is = d }) (λ k. ⊎_elim (λ a. f low a) (λ b. f high b) (in_append_out j first second k)) r

leaf_visited : (shape : Job → Shape) (jobs : List Job) (j : Job) → In j (leaves_among shape jobs) → In j jobs
leaf_visited shape [] j m = absurd m
leaf_visited shape (x ∷ jobs) j m =
    ⊎_elim (λ a. by (shape x) a) (λ b. inr (leaf_visited shape jobs j b)) (in_append_out j (if_leafed x (shape x)) (leaves_among shape jobs) m)
  where
    by : (s : Shape) → In j (if_leafed x s) → In j (x ∷ jobs)
    by (halved low high) a = absurd a
    by leafed (inl e) = inl e
    by leafed (inr k) = absurd k
    by passed a = absurd a

leaf_at : (ts : List Tri) (j : Job) → In j (leaf_jobs ts) → AtBox ts j
leaf_at ts j m =
    visited_at ts (halvings_left root) root j (leaf_visited (λ job. pairs_shape ts job)
    (visited_within (λ job. pairs_shape ts job) (halvings_left root) (job_at ts root)) j m)

-- ---- the law
near_ascending : (ts : List Tri) (c : Cell) → Ascending (near_indices ts c (all_indices ts))
near_ascending ts c =
    filter_ascending (λ i. is_near c (tri_at ts i)) (all_indices ts) (range_ascending 0 (length ts))

from_leaf : (ts : List Tri) (c : Cell) (p : Pair) → Listed ts (pairs_of (near_indices ts c (all_indices ts))) p → Listed ts (pairs_of (all_indices ts)) p
from_leaf ts c p l =
    let r = pair_out (near_indices ts c (all_indices ts)) p (near_ascending ts c) l.member in
    record {
      member = pair_in (all_indices ts) p.low p.high (range_ascending 0 (length ts))
          (in_filter_out (λ i. is_near c (tri_at ts i)) p.low (all_indices ts) r.low)
          (in_filter_out (λ i. is_near c (tri_at ts i)) p.high (all_indices ts) r.high) r.less;
      meets = l.meets;
    }

record SharePoint (ts : List Tri) (i j : ℕ) : Type 0 where
  at : Spot
  shares : Share ts i j at

share_point : (ts : List Tri) (i j : ℕ) → AreMeeting (tri_at ts i) (tri_at ts j) → SharePoint ts i j
share_point ts i j m =
    ⊎_elim (λ a. record {
      at = a.at;
      shares = record {
        one = m.one;
        other = m.other;
        in_one =
            inside_closed (face_of (tri_at ts i)) a.at a.inside;
        in_other = a.holds;
      };
    })
    (λ a. record {
      at = a.at;
      shares = record {
        one = m.one;
        other = m.other;
        in_one = a.holds;
        in_other =
            inside_closed (face_of (tri_at ts j)) a.at a.inside;
      };
    }) m.meet

found : (ts : List Tri) (items : List (List Pair)) (p : Pair) → All IsValidTri ts → AreItems ts (leaf_jobs ts) items →
    In p (pairs_of (all_indices ts)) → Meeting ts p → In p (together items)
found ts items p valid a m meets =
    let r = pair_out (all_indices ts) p (range_ascending 0 (length ts)) m in
    let l = in_range_out 0 (length ts) p.low r.low in let h = in_range_out 0 (length ts) p.high r.high in
    let low_in : p.low < length ts = omega (arith, l.1) in let high_in : p.high < length ts = omega (arith, h.1) in
    let s = share_point ts p.low p.high meets in
    let leaf = shared_leaf ts p.low p.high s.at r.less high_in (All-get_or IsValidTri ts p.low no_tri low_in valid) s.shares in
    let c = leaf.cell in
    let item = item_of ts (leaf_jobs ts) items (job_at ts c) a leaf.member in
    let listed = pair_in (near_indices ts c (all_indices ts)) p.low p.high (near_ascending ts c)
    (listed_at ts c p.low s.at low_in s.shares.one s.shares.in_one leaf.has)
    (listed_at ts c p.high s.at high_in s.shares.other s.shares.in_other leaf.has) r.less in
    in_together items item.item p item.member (each_has ts (pairs_of (near_indices ts c (all_indices ts))) item.item p item.is listed meets)

right_pairs : (ts : List Tri) (items : List (List Pair)) (p : Pair) → AreItems ts (leaf_jobs ts) items →
    In p (together items) → Listed ts (pairs_of (all_indices ts)) p
right_pairs ts items p a m =
    let s = some_item items p m in let j = job_of ts (leaf_jobs ts) items s.item a s.member in
    let b = leaf_at ts j.job j.member in
    from_leaf ts b.cell p (each_in ts (pairs_of (near_indices ts b.cell (all_indices ts))) s.item p
    (subst (λ (x : Job). AreMeetingPairs ts x.list s.item) b.is j.is) s.has)

-- the gathered pairs of all leaves are all pairs that meet
pub gathered_whole : (ts : List Tri) (items : List (List Pair)) (ps : List Pair) → All IsValidTri ts →
    AreItems ts (leaf_jobs ts) items → AreGathered items ps → ArePairs ts ps
gathered_whole ts items ps valid a g =
    each_of ts (pairs_of (all_indices ts)) ps (pairs_sorted (all_indices ts) (range_ascending 0 (length ts)))
    (sorted_from ps g.in_order) (λ p m. right_pairs ts items p a
    (in_from_contains (together items) p ((g.same p).0 (contains_from_in ps p m))))
    (λ p m meets. in_from_contains ps p ((g.same p).1
    (contains_from_in (together items) p (found ts items p valid a m meets))))
