-- The files of a scene, one after another.
use Rattle.std.proofs.Common.{◌≡◌, ◌≢◌, ℕ, ◌+◌, ◌-◌, ◌<◌, ◌≤◌, zero, suc, true, List, [], ◌∷◌, ◌++◌, length, map}
use Rattle.std.proofs.Common.{take, drop, get_or, All, Some, None, Result, Ok, Err, IfOk, IfErr, refl, sym, ap, subst}
use Rattle.std.proofs.Common.{arith, ◌∙◌, append_assoc, length-append}
use Rattle.std.proofs.lemmas.Bool.{le-leb}
use Rattle.std.proofs.lemmas.List.{take_more, append-nil, length-map, map-append}
use Rattle.std.proofs.lemmas.Grind.{flat_map-append}
use Rattle.std.specs.declared.option.Option.{Option}
use Rattle.ember_balance.specs.Loose.{loose_of}
use Rattle.ember_balance.specs.declared.loose.Loose.{Loose}
use Rattle.ember_mesh.specs.declared.states.Closed.{Closed}
use Rattle.ember_mesh.specs.Joined.{AreNumbered, triangles_of}
use Rattle.ember_model.specs.declared.scene.Scene.{Scene}
use Rattle.ember_model.specs.declared.tri.Tri.{Tri}
use Rattle.ember_verdict.specs.declared.status.Status.{Status}
use Rattle.ember_verdict.specs.declared.status.LimitKind.TheVariants.{Triangles}
use Rattle.ember_verdict.specs.declared.status.Status.TheVariants.{Done, Words, ReadFault, WriteFault, Limit}
use Rattle.ember_verdict.specs.Statuses.{IsRefusal, IsRefusalIfTold, is_refusal}
use Rattle.ember_io.specs.Calls.{ShelfCall}
use Rattle.ember_io.specs.Shelves.{IsFileIn}
use Rattle.ember_verdict.specs.Held.{AreContentsOf, MayHold, MayHoldOne}
use Rattle.ember_verdict.specs.Scenes.{HasParts}
use Rattle.ember_verdict.specs.NoReplies.{IsAfterFiles, IsNoFile, IsNoScene, with_others}
use Rattle.ember_verdict.specs.Verdict.{Contents, Verdict, Unknown, Refused, after_balance, after_file, after_files, after_mesh}
use Rattle.ember_verdict.specs.Verdict.{after_scene, after_total, first_told}
use Rattle.ember_verdict.proofs.HeldContents.{contents_count, contents_joined, held_one_then, held_one_told, held_then}
use Rattle.ember_verdict.proofs.HeldContents.{some_contents, told_or_empty}
use Rattle.ember_verdict.proofs.NoReplies.{after_no_reply, before_is_refusal, before_no_file, file_is_refusal, same_number}
use Rattle.ember_verdict.proofs.ToldVerdicts.{files_told}
use Rattle.ember_verdict.proofs.Verdicts.{IsSameIfTold, above, refusal_if_told, refusal_is, refusal_then, untold_then}

-- ---- one mesh
-- the file may have the contents that were read as a closed mesh
pub mesh_held : (places i : ℕ) (told : Option (List ℕ)) (tris : List Tri) →
    MayHoldOne told (λ content. (next : List Tri → Verdict) → after_file places i content next ≡ next tris) →
    loose_of tris ≡ None →
    MayHoldOne told (λ content. (next : List Tri → Verdict) → after_mesh places i content next ≡ next tris)
mesh_held places i told tris h closed =
    held_one_then told (λ content. (next : List Tri → Verdict) → after_file places i content next ≡ next tris)
    (λ content. (next : List Tri → Verdict) → after_mesh places i content next ≡ next tris)
    (λ content read next. read (λ tris. after_balance i (loose_of tris) (next tris))
    ∙ ap (λ (found : Option Loose). after_balance i found (next tris)) closed) h

-- ---- one mesh more
numbered_more : (m : ℕ) (parts : List Closed) (part : Closed) → AreNumbered m parts →
    All (λ t. t.mesh ≡ m + length parts) part.tris → AreNumbered m (parts ++ part ∷ [])
numbered_more m [] part h l = (subst (λ (n : ℕ). All (λ t. t.mesh ≡ n) part.tris) (omega arith) l, tt)
numbered_more m (p ∷ parts) part h l = (h.0, numbered_more (m + 1) parts part h.1 (subst (λ (n : ℕ). All (λ t. t.mesh ≡ n) part.tris) (omega arith) l))

-- what was read, with one file more
more_read : (told : List ℕ → Option (List ℕ)) (files : List (List ℕ)) (k : ℕ) (d : List ℕ) (more : Contents) →
    k < length files → map told (take (k + 1) files) ++ more ≡ map told (take k files) ++ told (get_or files k d) ∷ more
more_read told files k d more l =
    ap (λ (names : List (List ℕ)). map told names ++ more) (take_more files k d l)
    ∙ ap (λ (xs : Contents). xs ++ more) (map-append told (take k files) (get_or files k d ∷ []))
    ∙ append_assoc (map told (take k files)) (told (get_or files k d) ∷ []) more

-- contents that were read as meshes, with those of one mesh more
more_content : (places : ℕ) (read : Contents) (content : Option (List ℕ)) (parts : List Closed) (part : Closed) →
    HasParts places read parts → All (λ t. t.mesh ≡ length read + 1) part.tris →
    ((next : List Tri → Verdict) → after_mesh places (length read + 1) content next ≡ next part.tris) →
    HasParts places (read ++ content ∷ []) (parts ++ part ∷ [])
more_content places read content parts part h numbered pass =
    let n = length-append read (content ∷ []) in
    let all = flat_map-append (λ (part : Closed). part.tris) parts (part ∷ []) ∙ ap (λ (ts : List Tri). triangles_of parts ++ ts) (append-nil part.tris) in
    record {
      count = length-append parts (part ∷ []) ∙ ap (λ (n : ℕ). n + 1) h.count ∙ sym n;
      numbered = numbered_more 1 parts part h.numbered (subst (λ (n : ℕ). All (λ t. t.mesh ≡ n) part.tris) (omega (arith, h.count)) numbered);
      same = λ more next.
          ap (λ (contents : Contents). after_scene places contents next) (append_assoc read (content ∷ []) more)
          ∙ h.same (content ∷ more) next
          ∙ pass (λ mesh. after_files places (length read + 1 + 1) (triangles_of parts ++ mesh) more next)
          ∙ ap (λ (n : ℕ). after_files places (n + 1) (triangles_of parts ++ part.tris) more next) (sym n)
          ∙ ap (λ (tris : List Tri). after_files places (length (read ++ content ∷ []) + 1) tris more next) (sym all);
    }

-- ---- contents that the files may have
-- these files may have contents that were read as these meshes
abbrev pub HaveParts : ℕ → (List ℕ → Option (List ℕ)) → List (List ℕ) → List Closed → Type 0
HaveParts places told names parts = MayHold told names (λ contents. HasParts places contents parts)

held_count : (told : List ℕ → Option (List ℕ)) (names contents : List (List ℕ)) → AreContentsOf told names contents → length (map Some contents) ≡ length names
held_count told names contents are = length-map contents Some ∙ contents_count told names contents are

one_more_held : (places : ℕ) (told : List ℕ → Option (List ℕ)) (names : List (List ℕ)) (name : List ℕ)
    (parts : List Closed) (part : Closed) → HaveParts places told names parts →
    All (λ t. t.mesh ≡ length names + 1) part.tris →
    MayHoldOne (told name) (λ content. (next : List Tri → Verdict) →
    after_mesh places (length names + 1) content next ≡ next part.tris) →
    HaveParts places told (names ++ name ∷ []) (parts ++ part ∷ [])
one_more_held places told names name parts part h numbered one =
    let n = held_count told names h.0 h.1 in (
      h.0 ++ one.0 ∷ [],
      contents_joined told names (name ∷ []) h.0 (one.0 ∷ []) h.1 (one.1, tt),
      subst (λ (contents : Contents). HasParts places contents (parts ++ part ∷ [])) (sym (map-append Some h.0 (one.0 ∷ [])))
          (more_content places (map Some h.0) (Some one.0) parts part h.2 (subst (λ (n : ℕ). All (λ t. t.mesh ≡ n + 1) part.tris) (sym n) numbered)
          (subst (λ (n : ℕ). (next : List Tri → Verdict) → after_mesh places (n + 1) (Some one.0) next ≡ next part.tris) (sym n) one.2)),
    )

take_count : (files : List (List ℕ)) (k : ℕ) → k < length files → length (take k files) ≡ k
take_count files zero l = refl
take_count [] (suc k) l = absurd (omega (arith, l))
take_count (file ∷ files) (suc k) l = ap suc (take_count files k (omega (arith, l)))

-- one more file was read as a mesh
pub more_held_parts : (places : ℕ) (told now : List ℕ →
    Option (List ℕ)) (files : List (List ℕ)) (k number : ℕ) (d name : List ℕ) (parts all : List Closed) (part : Closed) →
    k < length files → HaveParts places told (take k files) parts → now ≡ told → number ≡ k + 1 →
    name ≡ get_or files k d → all ≡ parts ++ part ∷ [] → All (λ t. t.mesh ≡ number) part.tris →
    MayHoldOne (now name) (λ content. (next : List Tri → Verdict) →
    after_mesh places number content next ≡ next part.tris) →
    HaveParts places told (take (k + 1) files) all
more_held_parts places told now files k number d name parts all part l h t e n a numbered one =
    let at : number ≡ length (take k files) + 1 = e ∙ ap (λ (n : ℕ). n + 1) (sym (take_count files k l)) in
    subst (λ (all : List Closed). HaveParts places told (take (k + 1) files) all) (sym a)
    (subst (λ (names : List (List ℕ)). HaveParts places told names (parts ++ part ∷ [])) (sym (take_more files k d l))
    (one_more_held places told (take k files) (get_or files k d) parts part h (subst (λ (n : ℕ). All (λ t. t.mesh ≡ n) part.tris) at numbered)
    (subst (λ (n : ℕ). MayHoldOne (told (get_or files k d)) (λ content. (next : List Tri → Verdict) →
    after_mesh places n content next ≡ next part.tris)) at
    (subst (λ (c : Option (List ℕ)). MayHoldOne c (λ content. (next : List Tri → Verdict) →
    after_mesh places number content next ≡ next part.tris)) (λ i. t i (n i)) one))))

-- ---- a file that gives no mesh
-- by what the shelf tells, the files after these come after their meshes
parts_told : (places : ℕ) (told : List ℕ → Option (List ℕ)) (names : List (List ℕ)) (parts : List Closed)
    (more : Contents) (next : List Tri → Verdict) → HaveParts places told names parts →
    IsSameIfTold (after_scene places (map told names ++ more) next)
    (after_files places (length names + 1) (triangles_of parts) more next)
parts_told places told names parts more next h =
    let parted = h.2 in
    subst (λ (n : ℕ). IsSameIfTold (after_scene places (map told names ++ more) next)
    (after_files places (n + 1) (triangles_of parts) more next)) (held_count told names h.0 h.1)
    (subst (λ (v : Verdict). IsSameIfTold (after_scene places (map told names ++ more) next) v) (parted.same more next)
    (files_told places 1 [] told names h.0 more next h.1))

part_refused : (places : ℕ) (told : List ℕ → Option (List ℕ)) (files : List (List ℕ)) (k number : ℕ) (d name : List ℕ)
    (parts : List Closed) (status : Status) (more : Contents) (next : List Tri → Verdict) → k < length files →
    HaveParts places told (take k files) parts → number ≡ k + 1 → name ≡ get_or files k d →
    MayHoldOne (told name) (λ content. (next : List Tri → Verdict) →
    after_mesh places number content next ≡ Refused status) →
    IsRefusalIfTold status (after_scene places (map told (take k files) ++ told (get_or files k d) ∷ more) next)
part_refused places told files k number d name parts status more next l h e n one =
    let at : number ≡ length (take k files) + 1 = e ∙ ap (λ (n : ℕ). n + 1) (sym (take_count files k l)) in
    let rest = λ (mesh : List Tri). after_files places (length (take k files) + 1 + 1) (triangles_of parts ++ mesh) more next in
    let refused : IsRefusalIfTold status (after_mesh places number (told name) rest) =
    held_one_told (told name) (λ content. IsRefusalIfTold status (after_mesh places number content rest)) tt
    (held_one_then (told name) (λ content. (next : List Tri → Verdict) →
    after_mesh places number content next ≡ Refused status)
    (λ content. IsRefusalIfTold status (after_mesh places number content rest))
    (λ content refused. refusal_if_told status (after_mesh places number content rest)
    (refusal_is status (after_mesh places number content rest) (refused rest))) one) in
    refusal_then status _ _ (parts_told places told (take k files) parts (told (get_or files k d) ∷ more) next h)
    (subst (λ (i : ℕ). IsRefusalIfTold status (after_mesh places i (told (get_or files k d)) rest)) at
    (subst (λ (name : List ℕ). IsRefusalIfTold status (after_mesh places number (told name) rest)) n refused))

first_contents : (told : List ℕ → Option (List ℕ)) (files : List (List ℕ)) (k : ℕ) → k < length files →
    (more : Contents) × (first_told k (map told files) ≡ map told (take k files) ++ None ∷ more)
first_contents told [] k l = absurd (omega (arith, l))
first_contents told (file ∷ files) zero l = (first_told 0 (map told files), refl)
first_contents told (file ∷ files) (suc k) l =
    let r = first_contents told files k (omega (arith, l)) in (r.0, ap (λ (xs : Contents). told file ∷ xs) r.1)

part_unread : (places : ℕ) (told : List ℕ → Option (List ℕ)) (files : List (List ℕ)) (k i : ℕ) (parts : List Closed)
    (next : List Tri → Verdict) → k < length files → HaveParts places told (take k files) parts → i ≡ k + 1 →
    after_scene places (first_told (i - 1) (map told files)) next ≡ Unknown
part_unread places told files k i parts next l h e =
    let r = first_contents told files k l in
    let n : i - 1 ≡ k = omega (arith, e) in
    subst (λ (n : ℕ). after_scene places (first_told n (map told files)) next ≡ Unknown) (sym n)
    (subst (λ (contents : Contents). after_scene places contents next ≡ Unknown) (sym r.1)
    (untold_then _ _ (parts_told places told (take k files) parts (None ∷ r.0) next h) refl))

take_told : (told : List ℕ → Option (List ℕ)) (n : ℕ) (files : List (List ℕ)) → take n (map told files) ≡ map told (take n files)
take_told told zero [] = refl
take_told told zero (file ∷ files) = refl
take_told told (suc n) [] = refl
take_told told (suc n) (file ∷ files) = ap (λ (xs : Contents). told file ∷ xs) (take_told told n files)

this_file : (files : List (List ℕ)) (k i : ℕ) → k < length files → i ≡ k + 1 → IsFileIn files i
this_file files k i l e = record { first = omega (arith, e); last = omega (arith, e, l) }

-- the files up to this one, and others after them
with_part : (told : List ℕ → Option (List ℕ)) (files : List (List ℕ)) (k : ℕ) (d : List ℕ) (others : Contents) →
    k < length files → with_others (k + 1) (map told files) others ≡ map told (take k files) ++ told (get_or files k d)
    ∷ drop (k + 1) others
with_part told files k d others l =
    ap (λ (xs : Contents). xs ++ drop (k + 1) others) (take_told told (k + 1) files) ∙ more_read told files k d (drop (k + 1) others) l

-- the files after file k
files_after : (files : List (List ℕ)) (k : ℕ) (d : List ℕ) → k < length files → (rest : List (List ℕ)) × (files ≡ take k files ++ get_or files k d ∷ rest)
files_after [] k d l = absurd (omega (arith, l))
files_after (file ∷ files) zero d l = (files, refl)
files_after (file ∷ files) (suc k) d l =
    let r = files_after files k d (omega (arith, l)) in (r.0, ap (λ (xs : List (List ℕ)). file ∷ xs) r.1)

one_refused_held : (places : ℕ) (told : List ℕ →
    Option (List ℕ)) (names rest : List (List ℕ)) (name : List ℕ) (parts : List Closed) (status : Status)
    (next : List Tri → Verdict) → HaveParts places told names parts →
    MayHoldOne (told name) (λ content. (next : List Tri → Verdict) →
    after_mesh places (length names + 1) content next ≡ Refused status) →
    MayHold told (names ++ name ∷ rest) (λ contents. IsRefusal status (after_scene places contents next))
one_refused_held places told names rest name parts status next h one =
    let others = map (λ name. told_or_empty (told name)) rest in let parted = h.2 in let all = map Some (one.0 ∷ others) in (
      h.0 ++ one.0 ∷ others,
      contents_joined told names (name ∷ rest) h.0 (one.0 ∷ others) h.1 (one.1, some_contents told rest),
      subst (λ (contents : Contents). IsRefusal status (after_scene places contents next)) (sym (map-append Some h.0 (one.0 ∷ others)))
          (refusal_is status (after_scene places (map Some h.0 ++ all) next) (parted.same all next
          ∙ ap (λ (n : ℕ). after_files places (n + 1) (triangles_of parts) all next) (held_count told names h.0 h.1)
          ∙ one.2 (λ mesh. after_files places (length names + 1 + 1) (triangles_of parts ++ mesh) (map Some others) next))),
    )

part_refused_held : (places : ℕ) (told : List ℕ → Option (List ℕ)) (files : List (List ℕ)) (k number : ℕ)
    (d name : List ℕ) (parts : List Closed) (status : Status) (next : List Tri → Verdict) → k < length files →
    HaveParts places told (take k files) parts → number ≡ k + 1 → name ≡ get_or files k d →
    MayHoldOne (told name) (λ content. (next : List Tri → Verdict) →
    after_mesh places number content next ≡ Refused status) →
    MayHold told files (λ contents. IsRefusal status (after_scene places contents next))
part_refused_held places told files k number d name parts status next l h e n one =
    let at : number ≡ length (take k files) + 1 = e ∙ ap (λ (n : ℕ). n + 1) (sym (take_count files k l)) in
    let r = files_after files k d l in
    subst (λ (names : List (List ℕ)). MayHold told names (λ contents. IsRefusal status (after_scene places contents next))) (sym r.1)
    (one_refused_held places told (take k files) r.0 (get_or files k d) parts status next h
    (subst (λ (n : ℕ). MayHoldOne (told (get_or files k d)) (λ content. (next : List Tri → Verdict) →
    after_mesh places n content next ≡ Refused status)) at
    (subst (λ (name : List ℕ). MayHoldOne (told name) (λ content. (next : List Tri → Verdict) →
    after_mesh places number content next ≡ Refused status)) n one)))

-- only the contents before these files are told
told_before : (read more : Contents) → first_told (length read) (read ++ more) ≡ read ++ first_told 0 more
told_before [] more = refl
told_before (content ∷ read) more = ap (λ (all : Contents). content ∷ all) (told_before read more)

one_unread_held : (places : ℕ) (told : List ℕ → Option (List ℕ)) (names rest : List (List ℕ)) (name : List ℕ) (k : ℕ)
    (parts : List Closed) (next : List Tri → Verdict) → length names ≡ k → HaveParts places told names parts →
    MayHold told (names ++ name ∷ rest) (λ contents. after_scene places (first_told k contents) next ≡ Unknown)
one_unread_held places told names rest name k parts next count h =
    let others = map (λ name. told_or_empty (told name)) (name ∷ rest) in
    let parted = h.2 in
    let read = map Some h.0 in
    let first : length read ≡ k = held_count told names h.0 h.1 ∙ count in (
      h.0 ++ others,
      contents_joined told names (name ∷ rest) h.0 others h.1 (some_contents told (name ∷ rest)),
      ap (λ (contents : Contents). after_scene places (first_told k contents) next) (map-append Some h.0 others)
          ∙ ap (λ (n : ℕ). after_scene places (first_told n (read ++ map Some others)) next) (sym first)
          ∙ ap (λ (contents : Contents). after_scene places contents next) (told_before read (map Some others))
          ∙ parted.same (first_told 0 (map Some others)) next,
    )

part_unread_held : (places : ℕ) (told : List ℕ → Option (List ℕ)) (files : List (List ℕ)) (k i : ℕ) (d : List ℕ)
    (parts : List Closed) (next : List Tri → Verdict) → k < length files → HaveParts places told (take k files) parts →
    i ≡ k + 1 → MayHold told files (λ contents. after_scene places (first_told (i - 1) contents) next ≡ Unknown)
part_unread_held places told files k i d parts next l h e =
    let r = files_after files k d l in
    let n : i - 1 ≡ k = omega (arith, e) in
    subst (λ (n : ℕ). MayHold told files (λ contents. after_scene places (first_told n contents) next ≡ Unknown)) (sym n)
    (subst (λ (names : List (List ℕ)). MayHold told names (λ contents. after_scene places (first_told k contents) next ≡ Unknown))
    (sym r.1)
    (one_unread_held places told (take k files) r.0 (get_or files k d) k parts next (take_count files k l) h))

-- a file that can't be read as a mesh stops the scene
pub part_is_no_scene : (places : ℕ) (files : List (List ℕ)) (k number : ℕ) (d name : List ℕ) (parts : List Closed)
    (shelf : ShelfCall) (status : Status) → k < length files → HaveParts places shelf.told (take k files) parts →
    number ≡ k + 1 → name ≡ get_or files k d → IsNoFile (after_mesh places number) number name shelf status →
    IsNoScene places files shelf status
part_is_no_scene places files k number d name parts shelf status l h e n no_file next =
    let told = shelf.told in
    record {
      refused = λ r. part_refused_held places told files k number d name parts status next l h e n (no_file.refused r);
      before_files = λ b. absurd (before_no_file status number b (no_file.of_file (before_is_refusal status b)));
      in_file = λ i f others m.
          let is = file_is_refusal status i f in
          let at : i ≡ k + 1 = same_number i number (sym f ∙ no_file.of_file is) ∙ e in
          subst (λ (i : ℕ). IsRefusalIfTold status (after_scene places (with_others i (map told files) others) next)) (sym at)
          (subst (λ (contents : Contents). IsRefusalIfTold status (after_scene places contents next)) (sym (with_part told files k d others l))
          (part_refused places told files k number d name parts status (drop (k + 1) others) next l h e n (no_file.refused is)));
      one_of = λ i f. this_file files k i l (same_number i number (sym f ∙ no_file.of_file (file_is_refusal status i f)) ∙ e);
      read_fault = λ i f.
          let a = no_file.read_fault i f in
          (a.1, a.2, part_unread places told files k i parts next l h (a.0 ∙ e), this_file files k i l (a.0 ∙ e));
      nothing_before = λ i f. part_unread_held places told files k i d parts next l h ((no_file.read_fault i f).0 ∙ e);
      memory = no_file.memory;
      never = no_file.never;
    }

-- ---- all files
pub few_joined : (tris : List Tri) (next : List Tri → Verdict) → length tris ≤ 262144 → after_total tris next ≡ next tris
few_joined tris next l = rw (le-leb (length tris) 262144 l) refl

-- too many triangles are refused
pub many_refused : (tris : List Tri) (count : ℕ) (next : List Tri → Verdict) → count ≡ length tris → 262144 < count →
    after_total tris next ≡ Refused (Limit Triangles count)
many_refused tris count next e l = subst (λ (n : ℕ). after_total tris next ≡ Refused (Limit Triangles n))
    (sym e) (rw (above (length tris) 262144 (omega (arith, e, l))) refl)

-- after all files the verdict is that of all triangles
scene_total : (places : ℕ) (contents : Contents) (parts : List Closed) (next : List Tri → Verdict) →
    HasParts places contents parts → after_scene places contents next ≡ after_total (triangles_of parts) next
scene_total places contents parts next h =
    ap (λ (all : Contents). after_scene places all next) (sym (append-nil contents)) ∙ h.same [] next

-- the joined meshes are the scene of the files
pub joined_if : {E : Type 0} (places : ℕ) (told : List ℕ → Option (List ℕ)) (names : List (List ℕ))
    (parts : List Closed) (result : Result Scene E) → HaveParts places told names parts →
    IfOk result (λ scene. (next : List Tri → Verdict) → after_total (triangles_of parts) next ≡ next scene.tris) →
    IfOk result (λ scene. MayHold told names (λ contents. (next : List Tri → Verdict) →
    after_scene places contents next ≡ next scene.tris))
joined_if places told names parts (Ok scene) h e =
    held_then told names (λ contents. HasParts places contents parts) (λ contents. (next : List Tri → Verdict) →
    after_scene places contents next ≡ next scene.tris)
    (λ contents l p next. scene_total places contents parts next p ∙ e next) h
joined_if places told names parts (Err error) h e = tt

-- a refusal of the joined meshes is one of the files
pub no_scene_if : {A : Type 0} (places : ℕ) (names : List (List ℕ)) (shelf : ShelfCall) (parts : List Closed)
    (result : Result A Status) → HaveParts places shelf.told names parts →
    IfErr result (λ status. is_refusal status ≡ true → (next : List Tri → Verdict) →
    after_total (triangles_of parts) next ≡ Refused status) → IfErr result IsAfterFiles →
    ((i : ℕ) → result ≢ Err (ReadFault i)) → (result ≢ Err Done) × (result ≢ Err Words) × (result ≢ Err WriteFault) →
    IfErr result (IsNoScene places names shelf)
no_scene_if places names shelf parts (Ok value) h refused kind no_read_fault never = tt
no_scene_if places names shelf parts (Err status) h refused kind no_read_fault never = λ next.
    after_no_reply (λ contents. after_scene places contents next) names shelf status kind
    (λ r. held_then shelf.told names (λ contents. HasParts places contents parts)
    (λ contents. IsRefusal status (after_scene places contents next))
    (λ contents l p. refusal_is status (after_scene places contents next)
    (scene_total places contents parts next p ∙ refused r next)) h)
    (λ i f. no_read_fault i (ap Err f)) (λ f. never.0 (ap Err f), λ f. never.1 (ap Err f), λ f. never.2 (ap Err f))
