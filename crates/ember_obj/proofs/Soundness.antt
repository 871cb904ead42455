-- What is read from lines is sound.
use Rattle.std.proofs.Common.{◌≡◌, ℕ, zero, suc, Bool, true, false, ◌<◌, ◌≤◌, ◌+◌, ◌-◌, ◌++◌, List, [], ◌∷◌, length}
use Rattle.std.proofs.Common.{length-append, refl, sym, ap, ◌∙◌, subst, arith, inl, inr, Option, None, Some, Result, Ok}
use Rattle.std.proofs.Common.{Err, All}
use Rattle.std.specs.Prelude.{if◌then◌else◌, ◌==◌, nat_le, nat_lt, reverse, replicate, slice_get, IfOk, ℤ, pos, neg_ℤ, unsigned_abs, drop}
use Rattle.std.specs.List.{list_all}
use Rattle.std.proofs.lemmas.Bool.{cases_Bool, leb-true, leb-false, ltb-false}
use Rattle.std.proofs.lemmas.List.{length-reverse, get_or-reverse, length-replicate}
use Rattle.std.proofs.lemmas.List.Elements.{All-nil, All-cons, All-head, All-tail, All-append, All-push}
use Rattle.ember_algebra.specs.Size.{Small}
use Rattle.ember_dec.specs.Digits.{number_from}
use Rattle.ember_dec.specs.Decimal.{coordinate_of, in_range, is_decimal, units, is_minus, before_point, behind_point, unsigned}
use Rattle.ember_dec.specs.declared.DecFault.{DecFault}
use Rattle.ember_dec.specs.declared.DecFault.TheVariants.{Malformed, Fraction, Range}
use Rattle.ember_model.specs.Valid.{IsValidCorner, IsValidTri}
use Rattle.ember_model.specs.declared.point.Corner.{Corner}
use Rattle.ember_model.specs.declared.tri.Tri.{Tri}
use Rattle.ember_obj.specs.declared.fault.ObjFault.{ObjFault}
use Rattle.ember_obj.specs.declared.fault.ObjFault.TheVariants.{Word, FewCorners, LongLine, TooMany}
use Rattle.ember_obj.specs.declared.reading.Keyword.{Keyword}
use Rattle.ember_obj.specs.declared.reading.Keyword.TheVariants.{Vertex, Face, Other}
use Rattle.ember_obj.specs.Scan.{before, fields_of, first_three}
use Rattle.ember_obj.specs.Lines.{Line, unmarked, joined_lines, lines_from}
use Rattle.ember_obj.specs.References.{is_slash, is_number, size_digits, nth_corner, named_or_fault, vertex_named, with_corner, corners_of, fan_round, fan}
use Rattle.ember_obj.specs.Table.{Table}
use Rattle.ember_obj.specs.ReadObj.{keyword_of, coordinate_at, corner_of, corner_in, with_vertex, with_tris, with_face}
use Rattle.ember_obj.specs.ReadObj.{after_keyword, after_fields, after_line, after_lines, table_of}

-- the limits hold, each triangle has a line, all corners are valid, and all triangles are of the mesh
pub record IsSound (mesh : ℕ) (table : Table) : Type 0 where
  pub few_vertices : length table.vertices ≤ 262144
  pub few_tris : length table.tris ≤ 262144
  pub paired : length table.tris ≡ length table.lines
  pub vertices : All IsValidCorner table.vertices
  pub tris : All IsValidTri table.tris
  pub of_mesh : All (λ t. t.mesh ≡ mesh) table.tris

-- the size of a number with a sign
size_signed : (minus : Bool) (n : ℕ) → unsigned_abs (if minus then neg_ℤ (pos n) else pos n) ≡ n
size_signed true zero = refl
size_signed true (suc n) = refl
size_signed false n = refl

small_in_range : (minus : Bool) (n : ℕ) → IfOk (in_range minus n) (Small 2047)
small_in_range minus n =
    elim (cases_Bool (nat_le n 2047)) [
      | inl h ↦ let e : in_range minus n ≡ Ok (if minus then neg_ℤ (pos n) else pos n) = rw h refl in
          subst (λ (r : Result ℤ DecFault). IfOk r (Small 2047)) (sym e)
          (record { small = omega (arith, size_signed minus n, leb-true n 2047 h) })
      | inr h ↦ let e : in_range minus n ≡ Err Range = rw h refl in subst (λ (r : Result ℤ DecFault). IfOk r (Small 2047)) (sym e) tt
    ]

small_coordinate : (places : ℕ) (text : List ℕ) → IfOk (coordinate_of places text) (Small 2047)
small_coordinate places text =
    let minus : Bool = is_minus text in
    let whole : List ℕ = before_point (unsigned text) in
    let fraction : List ℕ = behind_point (unsigned text) in
    let size : ℕ = units places whole fraction in
    elim (is_decimal whole fraction) as (λ d. IfOk
    (if d then (if list_all (λ b. b == 48) (drop places fraction) then in_range minus size else Err Fraction) else Err
    Malformed) (Small 2047)) [
      | true ↦ elim (list_all (λ b. b == 48) (drop places fraction)) as
          (λ z. IfOk (if z then in_range minus size else Err Fraction) (Small 2047))
          [ true ↦ small_in_range minus size | false ↦ tt ]
      | false ↦ tt
    ]

small_at : (places line : ℕ) (text : List ℕ) → IfOk (coordinate_at line (coordinate_of places text)) (Small 2047)
small_at places line text = elim (coordinate_of places text) as (λ r. IfOk r (Small 2047) →
    IfOk (coordinate_at line r) (Small 2047)) [ Ok x ↦ λ h. h | Err fault ↦ λ h. tt ] (small_coordinate places text)

valid_corner : (x y z : Result ℤ ObjFault) → IfOk x (Small 2047) → IfOk y (Small 2047) → IfOk z (Small 2047) → IfOk (corner_of x y z) IsValidCorner
valid_corner (Ok x) (Ok y) (Ok z) a b c = record { x = a; y = b; z = c }
valid_corner (Ok x) (Ok y) (Err fault) a b c = tt
valid_corner (Ok x) (Err fault) z a b c = tt
valid_corner (Err fault) y z a b c = tt

valid_corner_in : (places line : ℕ) (t : Option (List ℕ × List ℕ × List ℕ)) → IfOk (corner_in places line t) IsValidCorner
valid_corner_in places line None = tt
valid_corner_in places line (Some t) =
    valid_corner (coordinate_at line (coordinate_of places t.0)) (coordinate_at line (coordinate_of places t.1))
    (coordinate_at line (coordinate_of places t.2)) (small_at places line t.0) (small_at places line t.1)
    (small_at places line t.2)

all_reverse : (P : Corner → Type 0) (corners : List Corner) → All P corners → All P (reverse corners)
all_reverse P corners h = λ k d l.
    let within : k < length corners = omega (arith, length-reverse corners) in
    subst P (sym (get_or-reverse corners k d within)) (h (length corners - 1 - k) d (omega arith))

valid_got : (line : ℕ) (corners : List Corner) (i : ℕ) → All IsValidCorner corners → IfOk (named_or_fault line (slice_get corners i)) IsValidCorner
valid_got line [] i valid = tt
valid_got line (p ∷ ps) zero valid = All-head IsValidCorner p ps valid
valid_got line (p ∷ ps) (suc i) valid = valid_got line ps i (All-tail IsValidCorner p ps valid)

valid_counted : (line : ℕ) (corners : List Corner) (k : ℕ) → All IsValidCorner corners → IfOk (named_or_fault line (nth_corner corners k)) IsValidCorner
valid_counted line corners k valid =
    elim (k == 0) as (λ z. IfOk (named_or_fault line (if z then None else slice_get corners (k - 1))) IsValidCorner)
    [ true ↦ tt | false ↦ valid_got line corners (k - 1) valid ]

valid_either : (line : ℕ) (back : Bool) (vertices : List Corner) (k : ℕ) → All IsValidCorner vertices →
    IfOk (named_or_fault line (nth_corner (if back then reverse vertices else vertices) k)) IsValidCorner
valid_either line true vertices k valid = valid_counted line (reverse vertices) k (all_reverse IsValidCorner vertices valid)
valid_either line false vertices k valid = valid_counted line vertices k valid

valid_named : (line : ℕ) (vertices : List Corner) (reference : List ℕ) → All IsValidCorner vertices → IfOk (vertex_named line vertices reference) IsValidCorner
valid_named line vertices reference valid =
    let index : List ℕ = before is_slash reference in
    elim (is_number (size_digits index)) as (λ d. IfOk
    (if d then named_or_fault line (nth_corner (if is_minus index then reverse vertices else vertices)
    (number_from 0 (size_digits index))) else Err (Word line)) IsValidCorner) [
      | true ↦ valid_either line (is_minus index) vertices (number_from 0 (size_digits index)) valid
      | false ↦ tt
    ]

valid_with : (corner : Result Corner ObjFault) (rest : Result (List Corner) ObjFault) → IfOk corner IsValidCorner →
    IfOk rest (All IsValidCorner) → IfOk (with_corner corner rest) (All IsValidCorner)
valid_with (Err fault) rest v vs = tt
valid_with (Ok corner) (Err fault) v vs = tt
valid_with (Ok corner) (Ok corners) v vs = All-cons IsValidCorner corner corners v vs

valid_corners : (line : ℕ) (vertices : List Corner) (references : List (List ℕ)) → All IsValidCorner vertices →
    IfOk (corners_of line vertices references) (All IsValidCorner)
valid_corners line vertices [] valid = All-nil IsValidCorner
valid_corners line vertices (reference ∷ references) valid =
    valid_with (vertex_named line vertices reference) (corners_of line vertices references)
    (valid_named line vertices reference valid) (valid_corners line vertices references valid)

valid_fan_round : (mesh : ℕ) (first : Corner) (others : List Corner) → IsValidCorner first → All IsValidCorner others →
    All IsValidTri (fan_round mesh first others)
valid_fan_round mesh first [] v vs = All-nil IsValidTri
valid_fan_round mesh first (p ∷ []) v vs = All-nil IsValidTri
valid_fan_round mesh first (p ∷ q ∷ more) v vs =
    let rest : All IsValidCorner (q ∷ more) = All-tail IsValidCorner p (q ∷ more) vs in
    All-cons IsValidTri (record { a = first; b = p; c = q; mesh = mesh }) (fan_round mesh first (q ∷ more))
    (record { a = v; b = All-head IsValidCorner p (q ∷ more) vs; c = All-head IsValidCorner q more rest })
    (valid_fan_round mesh first (q ∷ more) v rest)

valid_fan : (mesh : ℕ) (corners : List Corner) → All IsValidCorner corners → All IsValidTri (fan mesh corners)
valid_fan mesh [] valid = All-nil IsValidTri
valid_fan mesh (first ∷ others) valid = valid_fan_round mesh first others (All-head IsValidCorner first others valid)
    (All-tail IsValidCorner first others valid)

mesh_fan_round : (mesh : ℕ) (first : Corner) (others : List Corner) → All (λ t. t.mesh ≡ mesh) (fan_round mesh first others)
mesh_fan_round mesh first [] = All-nil (λ t. t.mesh ≡ mesh)
mesh_fan_round mesh first (p ∷ []) = All-nil (λ t. t.mesh ≡ mesh)
mesh_fan_round mesh first (p ∷ q ∷ more) = All-cons (λ t. t.mesh ≡ mesh)
    (record { a = first; b = p; c = q; mesh = mesh }) (fan_round mesh first (q ∷ more)) refl
    (mesh_fan_round mesh first (q ∷ more))

mesh_fan : (mesh : ℕ) (corners : List Corner) → All (λ t. t.mesh ≡ mesh) (fan mesh corners)
mesh_fan mesh [] = All-nil (λ t. t.mesh ≡ mesh)
mesh_fan mesh (first ∷ others) = mesh_fan_round mesh first others

sound_vertex : (mesh line : ℕ) (table : Table) (corner : Result Corner ObjFault) → IsSound mesh table →
    IfOk corner IsValidCorner → IfOk (with_vertex line table corner) (IsSound mesh)
sound_vertex mesh line table (Err fault) sound valid = tt
sound_vertex mesh line table (Ok corner) sound valid =
    elim (cases_Bool (nat_le 262144 (length table.vertices))) [
      | inl h ↦ let e : with_vertex line table (Ok corner) ≡ Err (TooMany line) = rw h refl in
          subst (λ (r : Result Table ObjFault). IfOk r (IsSound mesh)) (sym e) tt
      | inr h ↦
          let e : with_vertex line table (Ok corner) ≡ Ok (record table { vertices = table.vertices ++ corner ∷ [] }) = rw h refl in
          subst (λ (r : Result Table ObjFault). IfOk r (IsSound mesh)) (sym e) (record {
            few_vertices = omega (arith, leb-false 262144 (length table.vertices) h, length-append table.vertices (corner ∷ []));
            few_tris = sound.few_tris;
            paired = sound.paired;
            vertices = All-push IsValidCorner table.vertices corner sound.vertices valid;
            tris = sound.tris;
            of_mesh = sound.of_mesh;
          })
    ]

sound_tris : (mesh line : ℕ) (table : Table) (tris : List Tri) → IsSound mesh table → All IsValidTri tris →
    All (λ t. t.mesh ≡ mesh) tris → IfOk (with_tris line table tris) (IsSound mesh)
sound_tris mesh line table tris sound valid same =
    elim (cases_Bool (nat_lt 262144 (length table.tris + length tris))) [
      | inl h ↦ let e : with_tris line table tris ≡ Err (TooMany line) = rw h refl in subst (λ (r : Result Table ObjFault). IfOk r (IsSound mesh)) (sym e) tt
      | inr h ↦
          let e : with_tris line table tris ≡ Ok
          (record table { tris = table.tris ++ tris; lines = table.lines ++ replicate (length tris) line }) =
          rw h refl in
          subst (λ (r : Result Table ObjFault). IfOk r (IsSound mesh)) (sym e) (record {
            few_vertices = sound.few_vertices;
            few_tris = omega (arith, ltb-false 262144 (length table.tris + length tris) h, length-append table.tris tris);
            paired = omega (
              arith,
              sound.paired,
              length-append table.tris tris,
              length-append table.lines (replicate (length tris) line),
              length-replicate (length tris) line,
            );
            vertices = sound.vertices;
            tris = All-append IsValidTri table.tris tris sound.tris valid;
            of_mesh = All-append (λ t. t.mesh ≡ mesh) table.tris tris sound.of_mesh same;
          })
    ]

sound_face : (mesh line : ℕ) (table : Table) (corners : Result (List Corner) ObjFault) → IsSound mesh table →
    IfOk corners (All IsValidCorner) → IfOk (with_face mesh line table corners) (IsSound mesh)
sound_face mesh line table (Err fault) sound valid = tt
sound_face mesh line table (Ok corners) sound valid =
    elim (nat_lt (length corners) 3) as (λ few. IfOk (if few then Err (FewCorners line) else with_tris line table (fan mesh corners)) (IsSound mesh)) [
      | true ↦ tt
      | false ↦ sound_tris mesh line table (fan mesh corners) sound (valid_fan mesh corners valid) (mesh_fan mesh corners)
    ]

sound_keyword : (places mesh line : ℕ) (table : Table) (keyword : Keyword) (fields : List (List ℕ)) →
    IsSound mesh table → IfOk (after_keyword places mesh line table keyword fields) (IsSound mesh)
sound_keyword places mesh line table Vertex fields sound =
    sound_vertex mesh line table (corner_in places line (first_three fields)) sound
    (valid_corner_in places line (first_three fields))
sound_keyword places mesh line table Face fields sound =
    sound_face mesh line table (corners_of line table.vertices fields) sound
    (valid_corners line table.vertices fields sound.vertices)
sound_keyword places mesh line table Other fields sound = sound

sound_fields : (places mesh line : ℕ) (table : Table) (fields : List (List ℕ)) → IsSound mesh table →
    IfOk (after_fields places mesh line table fields) (IsSound mesh)
sound_fields places mesh line table [] sound = sound
sound_fields places mesh line table (key ∷ fields) sound = sound_keyword places mesh line table (keyword_of key) fields sound

-- a table stays sound after a line
sound_line : (places mesh : ℕ) (table : Table) (line : Line) → IsSound mesh table → IfOk (after_line places mesh table line) (IsSound mesh)
sound_line places mesh table line sound =
    elim (nat_lt 65536 (length line.text)) as (λ long. IfOk
    (if long then Err (LongLine line.number) else after_fields places mesh line.number table (fields_of line.text))
    (IsSound mesh)) [
      | true ↦ tt
      | false ↦ sound_fields places mesh line.number table (fields_of line.text) sound
    ]

sound_lines : (places mesh : ℕ) (so_far : Result Table ObjFault) (lines : List Line) → IfOk so_far (IsSound mesh) →
    IfOk (after_lines places mesh so_far lines) (IsSound mesh)
sound_lines places mesh so_far [] sound = sound
sound_lines places mesh (Err fault) (line ∷ lines) sound = tt
sound_lines places mesh (Ok table) (line ∷ lines) sound =
    sound_lines places mesh (after_line places mesh table line) lines (sound_line places mesh table line sound)

-- the table of a file is sound once no line is left
pub sound_table : (places mesh number : ℕ) (bytes : List ℕ) (table : Table) (lines : List (List ℕ)) →
    table_of places mesh bytes ≡ after_lines places mesh (Ok table) (joined_lines number lines) → lines ≡ [] →
    IsSound mesh table
sound_table places mesh number bytes table lines same none =
    let is : table_of places mesh bytes ≡ Ok table = same ∙ ap (λ ls. after_lines places mesh (Ok table) (joined_lines number ls)) none in
    subst (λ (r : Result Table ObjFault). IfOk r (IsSound mesh)) is
    (sound_lines places mesh (Ok (record { vertices = []; tris = []; lines = [] })) (lines_from 1 (unmarked bytes)) (record {
      few_vertices = omega arith;
      few_tris = omega arith;
      paired = refl;
      vertices = All-nil IsValidCorner;
      tris = All-nil IsValidTri;
      of_mesh = All-nil (λ t. t.mesh ≡ mesh);
    }))
