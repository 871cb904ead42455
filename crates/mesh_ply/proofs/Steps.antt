-- What is read step by step
use Rattle.std.proofs.Common.{◌≡◌, ℕ, zero, suc, ◌<◌, ◌+◌, List, [], ◌∷◌, ◌++◌, sym, ap, ◌∙◌, arith, true, false, Option, None, Some, Result, Ok, Err}
use Rattle.std.specs.Prelude.{if◌then◌else◌}
use Rattle.mesh_read.specs.Scan.Parts.{Piece, words_of}
use Rattle.mesh_ply.specs.declared.declarations.ScalarType.{ScalarType}
use Rattle.mesh_ply.specs.declared.declarations.Entry.{Entry}
use Rattle.mesh_ply.specs.declared.place.RowPlace.{RowPlace}
use Rattle.mesh_ply.specs.declared.fault.PlyFault.{PlyFault}
use Rattle.mesh_ply.specs.declared.fault.PlyFault.TheVariants.{NotUnderstood}
use Rattle.mesh_ply.specs.Header.{Header, with_entry, is_end, behind_entry, entry_of, header_from}
use Rattle.mesh_ply.specs.Scalars.{Scalar}
use Rattle.mesh_ply.specs.Cursors.{Cursor}
use Rattle.mesh_ply.specs.Rows.{and_then, one_scalar, corner_of, corners_from}

-- the first line is read
header_step : (all : Result (Header × ℕ) PlyFault) (n : ℕ) (h : Header) (lines more : List Piece) (line : Piece)
    (e : Option Entry) → all ≡ header_from n h lines → lines ≡ line ∷ more → entry_of h.kind (words_of line) ≡ e →
    all ≡ behind_entry n h e (λ k. header_from (n + 1) k more)
header_step all n h lines more line e so_far is read = so_far ∙ ap (header_from n h) is ∙ ap (λ r. behind_entry n h r (λ k. header_from (n + 1) k more)) read

-- a line that doesn't end the header
pub header_more : (all : Result (Header × ℕ) PlyFault) (n : ℕ) (h new : Header) (lines more : List Piece) (line : Piece)
    (e : Entry) → all ≡ header_from n h lines → lines ≡ line ∷ more → Some e ≡ entry_of h.kind (words_of line) →
    is_end e ≡ false → new ≡ with_entry h e → all ≡ header_from (n + 1) new more
header_more all n h new lines more line e so_far is read goes_on same =
    header_step all n h lines more line (Some e) so_far is (sym read)
    ∙ ap (λ t. if t then Ok (h, n) else header_from (n + 1) (with_entry h e) more) goes_on
    ∙ ap (λ k. header_from (n + 1) k more) (sym same)

-- the last line of the header
pub header_ended : (all : Result (Header × ℕ) PlyFault) (n : ℕ) (h : Header) (lines more : List Piece) (line : Piece)
    (e : Entry) → all ≡ header_from n h lines → lines ≡ line ∷ more → Some e ≡ entry_of h.kind (words_of line) →
    is_end e ≡ true → all ≡ Ok (h, n)
header_ended all n h lines more line e so_far is read ends =
    header_step all n h lines more line (Some e) so_far is (sym read)
    ∙ ap (λ t. if t then Ok (h, n) else header_from (n + 1) (with_entry h e) more) ends

-- a line that isn't understood
pub header_fault : (all : Result (Header × ℕ) PlyFault) (n : ℕ) (h : Header) (lines more : List Piece) (line : Piece) →
    all ≡ header_from n h lines → lines ≡ line ∷ more → None ≡ entry_of h.kind (words_of line) →
    all ≡ Err (NotUnderstood n)
header_fault all n h lines more line so_far is read = header_step all n h lines more line None so_far is (sym read)

-- the first of two parts
pub first_read : {A B : Type 0} (r : Result A PlyFault) (a : A) (next : A → Result B PlyFault) → r ≡ Ok a → and_then r next ≡ next a
first_read r a next e = ap (λ q. and_then q next) e

-- a fault of the first step is that of both
pub first_fault : {A B : Type 0} (r : Result A PlyFault) (fault : PlyFault) (next : A → Result B PlyFault) → r ≡ Err fault → and_then r next ≡ Err fault
first_fault r fault next e = ap (λ q. and_then q next) e

-- a corner that is no vertex
pub corners_fault : (all : Result (List ℕ × Cursor) PlyFault) (place : RowPlace) (item : ScalarType) (left : ℕ)
    (corners : List ℕ) (c rest : Cursor) (s : Scalar) (fault : PlyFault) → 0 < left →
    all ≡ corners_from place item left corners c → one_scalar place item c ≡ Ok (s, rest) →
    corner_of place s ≡ Err fault → all ≡ Err fault
corners_fault all place item zero corners c rest s fault some so_far read is = absurd (omega arith)
corners_fault all place item (suc left) corners c rest s fault some so_far read is =
    so_far
    ∙ first_read (one_scalar place item c) (s, rest) (λ p. and_then (corner_of place p.0) (λ k. corners_from place item left (corners ++ k ∷ []) p.1)) read
    ∙ first_fault (corner_of place s) fault (λ k. corners_from place item left (corners ++ k ∷ []) rest) is
