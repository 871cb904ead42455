-- The JSON of a scene, and what is found in it
use Rattle.std.proofs.Common.{◌≡◌, ℕ, ℤ, pos, negsuc, ◌<◌, ◌≤◌, ◌^◌, List, [], ◌∷◌, ◌++◌, Some, refl, sym, ap, ◌∙◌}
use Rattle.std.proofs.Common.{append-nil, map, subst, arith, decimal, IsUtf8}
use Rattle.std.specs.Prelude.{codes, All, option_and_then, option_map}
use Rattle.std.specs.Fmt.{signed_decimal}
use Rattle.std.proofs.lemmas.Bool.{lt-ltb}
use Rattle.std.proofs.lemmas.List.Elements.{All-head, All-tail}
use lib.Signed.{mag}
use Rattle.json.specs.Token.{Token, end_object}
use Rattle.json.specs.Lex.{tokens}
use Rattle.json.specs.Json as json
use Rattle.json.specs.Tree as tree
use Rattle.json.proofs.Printed.Trees.{value-json_tokens}
use Rattle.serde_json.specs.Data.{Num, unsigned, Data, number, string, array, object, Items, no_items, item, no_members, put}
use Rattle.serde_json.specs.Read.{of_json, of_items, number_of, read, max_depth}
use Rattle.serde_json.specs.Find.{as_i64, of_integer}
use Rattle.serde_json.proofs.Numbers.{number_of-decimal, number_of-negative}
use Rattle.mesh_grid.specs.declared.grid.grid.Grid.{Grid}
use Rattle.mesh_grid.specs.declared.moves.length.Length.{Length}
use Rattle.mesh_scene.specs.declared.scene.counts.Counts.{Counts}
use Rattle.mesh_grid.specs.declared.snap.offsets.Offset.{Offset}
use Rattle.mesh_grid.specs.declared.snap.steps.GridStep.{GridStep}
use Rattle.mesh_grid.specs.Snap.Steps.{IsStep}
use Rattle.mesh_scene.specs.SceneFile.Fractions.{fraction_text}
use Rattle.mesh_scene.specs.SceneFile.Scenes.{offset_of, step_text_in, offset_in, IsSceneOf}
use Rattle.mesh_scene.specs.SceneFile.Texts.{File, files_of, move_text, text_of, IsSceneText}
use Rattle.mesh_scene.specs.SceneFile.ReadBack.{IsShort, IsFile, IsSameGrid}
use Rattle.mesh_scene.proofs.ScenePieces.{file_pieces, files_pieces, grid_pieces, scene_pieces, text_tokens, text_utf8}

-- ---- the JSON
abbrev file_json : File → json.Json
file_json f = json.object
    (json.member (codes "file") (json.string f.0)
    (json.member (codes "triangles") (json.number (decimal f.1.0.triangles))
    (json.member (codes "vanished") (json.number (decimal f.1.0.vanished))
    (json.member (codes "without area") (json.number (decimal f.1.0.flat))
    (json.member (codes "greatest move") (json.string (move_text f.1.1))
    json.no_members)))))

abbrev files_json : List File → json.Items
files_json [] = json.no_items
files_json (f ∷ fs) = json.item (file_json f) (files_json fs)

abbrev scene_json : List ℕ → List ℕ → List ℕ → List ℕ → json.Items → json.Json
scene_json step x y z files = json.object
    (json.member (codes "step") (json.string step)
    (json.member (codes "offset") (json.array
    (json.item (json.number x) (json.item (json.number y) (json.item (json.number z) json.no_items))))
    (json.member (codes "files") (json.array files)
    json.no_members)))

files_tokens : (fs : List File) → tree.items_tokens (files_json fs) ++ end_object ∷ [] ≡ map (λ p. p.1) (files_pieces fs)
files_tokens [] = refl
files_tokens (f ∷ fs) = ap (λ (l : List Token). map (λ p. p.1) (file_pieces f) ++ l) (files_tokens fs)

scene_tokens : (step : GridStep) (o : Offset) (fs : List File)
    → tree.json_tokens (scene_json (fraction_text step) (signed_decimal o.x) (signed_decimal o.y) (signed_decimal o.z) (files_json fs))
    ≡ map (λ p. p.1) (scene_pieces step o fs)
scene_tokens step o fs = ap (λ (l : List Token). map (λ p. p.1) (grid_pieces step o) ++ l) (files_tokens fs)

files_shallow : (fs : List File) → tree.items_depth (files_json fs) ≤ 1
files_shallow [] = omega arith
files_shallow (f ∷ fs) = let rest = files_shallow fs in omega (arith, rest)

-- ---- its data
abbrev file_data : File → Data
file_data f = object
    (put (codes "greatest move") (string (move_text f.1.1))
    (put (codes "without area") (number (unsigned f.1.0.flat))
    (put (codes "vanished") (number (unsigned f.1.0.vanished))
    (put (codes "triangles") (number (unsigned f.1.0.triangles))
    (put (codes "file") (string f.0)
    no_members)))))

abbrev files_data : List File → Items
files_data [] = no_items
files_data (f ∷ fs) = item (file_data f) (files_data fs)

file_read : (f : File) → IsFile f → of_json (file_json f) ≡ Some (file_data f)
file_read f h =
    rw (number_of-decimal _ h.counts.triangles, number_of-decimal _ h.counts.vanished, number_of-decimal _ h.counts.flat) refl

files_read : (fs : List File) → All IsFile fs → of_items (files_json fs) ≡ Some (files_data fs)
files_read [] h = refl
files_read (f ∷ fs) h =
    rw (file_read f (All-head IsFile f fs h)) (ap (option_map (item (file_data f))) (files_read fs (All-tail IsFile f fs h)))

abbrev scene_data : List ℕ → Num → Num → Num → Items → Data
scene_data step x y z files = object
    (put (codes "files") (array files)
    (put (codes "offset") (array (item (number x) (item (number y) (item (number z) no_items))))
    (put (codes "step") (string step)
    no_members)))

scene_read : (step x y z : List ℕ) (l m n : Num) (js : json.Items) (ds : Items) → number_of x ≡ Some l →
    number_of y ≡ Some m → number_of z ≡ Some n → of_items js ≡ Some ds
    → of_json (scene_json step x y z js) ≡ Some (scene_data step l m n ds)
scene_read step x y z l m n js ds ex ey ez es = rw (ex, ey, ez, es) refl

-- a whole number of 64 bits
whole_read : (z : ℤ) → mag z < 2 ^ 63 → number_of (signed_decimal z) ≡ Some (of_integer z)
whole_read (pos n) h = number_of-decimal n (omega arith)
whole_read (negsuc n) h = number_of-negative n h

whole_there : (z : ℤ) → mag z < 2 ^ 63 → as_i64 (of_integer z) ≡ Some z
whole_there (pos n) h = rw (lt-ltb n (2 ^ 63) h) refl
whole_there (negsuc n) h = refl

offset_there : (x y z : ℤ) (l m n : Num) → as_i64 l ≡ Some x → as_i64 m ≡ Some y → as_i64 n ≡ Some z
    → offset_of (item (number l) (item (number m) (item (number n) no_items))) ≡ Some (record { x = x; y = y; z = z })
offset_there x y z l m n ex ey ez = rw (ex, ey, ez) refl

-- ---- the text is read
read_from : (j : json.Json) (d : Data) (text : List ℕ) → tokens text ≡ tree.json_tokens j → tree.depth j ≤ max_depth → of_json j ≡ Some d → read text ≡ Some d
read_from j d text same shallow is =
    ap (λ o. option_and_then of_json (option_and_then (λ p. json.if_last p.0 p.1) o))
    (ap (json.value max_depth) (same ∙ sym (append-nil (tree.json_tokens j))) ∙ value-json_tokens j max_depth [] shallow)
    ∙ is

pub record IsRead (step : GridStep) (o : Offset) (text : List ℕ) : Type 0 where
  pub value : Data
  pub json : read text ≡ Some value
  pub step_there : step_text_in value ≡ Some (fraction_text step)
  pub offset_there : offset_in value ≡ Some o

pub text_is_read : (step : GridStep) (o : Offset) (fs : List File) → IsStep step → IsShort o → All IsFile fs → IsRead step o (text_of step o fs)
text_is_read step o fs is short h =
    let files = files_shallow fs in
    let x = signed_decimal o.x in
    let y = signed_decimal o.y in
    let z = signed_decimal o.z in
    let l = of_integer o.x in
    let m = of_integer o.y in
    let n = of_integer o.z in
    record {
      value = scene_data (fraction_text step) l m n (files_data fs);
      json = read_from (scene_json (fraction_text step) x y z (files_json fs)) _ _
          (text_tokens step o fs is short h ∙ sym (scene_tokens step o fs))
          (omega (arith, files))
          (scene_read (fraction_text step) x y z l m n (files_json fs) (files_data fs)
          (whole_read o.x short.along_x.sfits) (whole_read o.y short.along_y.sfits) (whole_read o.z short.along_z.sfits) (files_read fs h));
      step_there = refl;
      offset_there = offset_there o.x o.y o.z l m n
          (whole_there o.x short.along_x.sfits) (whole_there o.y short.along_y.sfits) (whole_there o.z short.along_z.sfits);
    }

-- ---- it is the scene of its grid
pub text_is_scene : (g : Grid) (names : List (List ℕ)) (counts : List Counts) (moves : List Length) (text : List ℕ)
    → IsSceneText g names counts moves text → IsShort g.offset → All IsFile (files_of names counts moves) → (h : Grid) × IsSceneOf text h × IsSameGrid g h
text_is_scene g names counts moves text is short files =
    let step = is.is_lowest.step in
    let found = subst (IsRead is.lowest g.offset) (sym is.is_text) (text_is_read is.lowest g.offset (files_of names counts moves) step short files) in
    let utf8 = subst IsUtf8 (sym is.is_text) (text_utf8 is.lowest g.offset (files_of names counts moves) step short files) in (
      record { step = is.lowest; offset = g.offset },
      record {
        utf8 = utf8;
        value = found.value;
        json = found.json;
        grid = record {
          step = record { text = fraction_text is.lowest; is_member = found.step_there; is_text = record { step = step; spells = refl } };
          offset = found.offset_there;
        };
      },
      record { offset = refl; step = is.is_lowest.same },
    )
