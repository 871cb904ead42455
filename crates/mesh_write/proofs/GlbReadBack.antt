-- The chunks that a reader finds in the bytes.
use Rattle.std.proofs.Common.{◌≡◌, ℕ, ◌+◌, ◌*◌, List, [], ◌∷◌, ◌++◌, length, take, drop, codes, append_assoc}
use Rattle.std.proofs.Common.{append-nil, length-append, refl, sym, ap, subst, ◌∙◌, arith}
use Rattle.std.proofs.lemmas.List.{take_at, drop_at}
use Rattle.mesh_read.specs.Stl.Binary.{number_at}
use Rattle.mesh_write.specs.declared.stl.triangle.FloatTriangle.{FloatTriangle}
use Rattle.mesh_write.specs.Stl.Written.{number_bytes}
use Rattle.mesh_write.proofs.Positions.{number_behind, number_first, number_length}
use Rattle.mesh_write.specs.Glb.ReadBack.{chunk_size, chunk_type, chunk_bytes, chunk_end, HasChunks, IsReadBack}
use Rattle.mesh_write.specs.Glb.Written.{file_head, json_chunk, data_head, data_of, glb_size, glb_of, IsMeshGlb}
use Rattle.mesh_write.proofs.Points.{data_length, corners_read, normals_read}

-- ---- one chunk behind other bytes
module _ (bytes front kind text rest : List ℕ) (at : ℕ)
    (is : bytes ≡ front ++ (number_bytes (length text) ++ (kind ++ (text ++ rest)))) (four : length kind ≡ 4)
    (size : at ≡ length front) where
  size_read : chunk_size bytes at ≡ length text
  size_read =
      ap (λ (xs : List ℕ). number_at xs at) is
      ∙ number_behind front (number_bytes (length text) ++ (kind ++ (text ++ rest))) at 0 (omega (arith, size))
      ∙ number_first (length text) (kind ++ (text ++ rest))

  type_read : chunk_type bytes at ≡ number_at (kind ++ (text ++ rest)) 0
  type_read =
      let there : bytes ≡ (front ++ number_bytes (length text)) ++ (kind ++ (text ++ rest)) =
      is ∙ sym (append_assoc front (number_bytes (length text)) (kind ++ (text ++ rest))) in
      ap (λ (xs : List ℕ). number_at xs (at + 4)) there
      ∙ number_behind (front ++ number_bytes (length text)) (kind ++ (text ++ rest)) (at + 4) 0
      (omega (arith, length-append front (number_bytes (length text)), number_length (length text), size))

  text_read : chunk_bytes bytes at ≡ text
  text_read =
      let head = front ++ (number_bytes (length text) ++ kind) in
      let joined : front ++ (number_bytes (length text) ++ (kind ++ (text ++ rest))) ≡ head ++ (text ++ rest) = simp append_assoc in
      let there : bytes ≡ head ++ (text ++ rest) = is ∙ joined in
      let long : length head ≡ at + 8 = omega (
        arith,
        length-append front (number_bytes (length text) ++ kind),
        length-append (number_bytes (length text)) kind,
        number_length (length text),
        four,
        size,
      ) in
      let behind : drop (at + 8) bytes ≡ text ++ rest = ap (drop (at + 8)) there ∙ drop_at head (text ++ rest) (at + 8) long in
      let both : chunk_bytes bytes at ≡ take (length text) (text ++ rest) = λ i. take (size_read i) (behind i) in
      both ∙ take_at text rest (length text) refl

-- ---- the file
head_length : (n : ℕ) → length (file_head n) ≡ 12
unfolding file_head number_bytes
head_length n = refl

head_magic : (n : ℕ) (rest : List ℕ) → number_at (file_head n ++ rest) 0 ≡ 0x46546C67
unfolding file_head number_bytes
head_magic n rest = refl

head_version : (n : ℕ) (rest : List ℕ) → number_at (file_head n ++ rest) 4 ≡ 2
unfolding file_head number_bytes
head_version n rest = refl

head_size : (n : ℕ) (rest : List ℕ) → number_at (file_head n ++ rest) 8 ≡ n
unfolding file_head number_bytes
head_size n rest = number_first n []

-- ---- where chunks end
first_end : (s l a b : ℕ) → s ≡ l → a ≡ 12 → b ≡ 8 + l → 12 + 8 + s ≡ a + b
first_end s l a b e f g = omega (arith, e, f, g)

last_end : (e s l m k n : ℕ) → e ≡ 12 + 8 + l → s ≡ m → m ≡ 72 * k → n ≡ 28 + l + 72 * k → e + 8 + s ≡ n
last_end e s l m k n f g h i = omega (arith, f, g, h, i)

-- a chunk of JSON begins with 8 bytes
json_length : (json : List ℕ) → length (json_chunk json) ≡ 8 + length json
unfolding json_chunk
json_length json =
    omega (arith, length-append (number_bytes (length json)) (codes "JSON" ++ json), number_length (length json))

-- and the head of the other chunk has 8
data_head_length : (n : ℕ) → length (data_head n) ≡ 8
unfolding data_head number_bytes
data_head_length n = refl

module _ (json : List ℕ) (ts : List FloatTriangle) where
  total : length (glb_of json ts) ≡ glb_size json (length ts)
  total =
      let n = glb_size json (length ts) in
      let all = data_head (72 * length ts) ++ data_of ts in
      omega (
        arith,
        length-append (file_head n) (json_chunk json ++ all),
        length-append (json_chunk json) all,
        length-append (data_head (72 * length ts)) (data_of ts),
        head_length n,
        json_length json,
        data_head_length (72 * length ts),
        data_length ts,
      )

  json_there : glb_of json ts ≡ file_head (glb_size json (length ts))
      ++ (number_bytes (length json) ++ (codes "JSON" ++ (json ++ (data_head (72 * length ts) ++ data_of ts))))
  unfolding json_chunk
  json_there = simp append_assoc

  data_there : glb_of json ts ≡ (file_head (glb_size json (length ts)) ++ json_chunk json)
      ++ (number_bytes (length (data_of ts)) ++ ((codes "BIN" ++ 0 ∷ []) ++ (data_of ts ++ [])))
  unfolding data_head
  data_there =
      let head = file_head (glb_size json (length ts)) in
      let chunk = json_chunk json in
      let all = data_of ts in
      let sized : glb_of json ts ≡ head ++ (chunk ++ ((number_bytes (length all) ++ (codes "BIN" ++ 0 ∷ [])) ++ all)) =
      ap (λ (n : ℕ). head ++ (chunk ++ ((number_bytes n ++ (codes "BIN" ++ 0 ∷ [])) ++ all))) (sym (data_length ts))
      in
      sized
      ∙ sym (append_assoc head chunk ((number_bytes (length all) ++ (codes "BIN" ++ 0 ∷ [])) ++ all))
      ∙ ap (λ (xs : List ℕ). (head ++ chunk) ++ xs) (append_assoc (number_bytes (length all)) (codes "BIN" ++ 0 ∷ []) all)
      ∙ ap (λ (xs : List ℕ). (head ++ chunk) ++ (number_bytes (length all) ++ ((codes "BIN" ++ 0 ∷ []) ++ xs))) (sym (append-nil all))

  chunks : HasChunks (glb_of json ts) json (data_of ts)
  chunks =
      let bytes = glb_of json ts in
      let n = glb_size json (length ts) in
      let head = file_head n in
      let all = data_of ts in
      let kind = codes "BIN" ++ 0 ∷ [] in
      let behind = data_head (72 * length ts) ++ all in
      let rest = json_chunk json ++ behind in
      let first : 12 ≡ length head = sym (head_length n) in
      let json_size : chunk_size bytes 12 ≡ length json = size_read bytes head (codes "JSON") json behind 12 json_there refl first in
      let second : chunk_end bytes 12 ≡ length (head ++ json_chunk json) =
      first_end (chunk_size bytes 12) (length json) (length head) (length (json_chunk json)) json_size (head_length n)
      (json_length json) ∙ sym (length-append head (json_chunk json)) in
      let data_size : chunk_size bytes (chunk_end bytes 12) ≡ length all =
      size_read bytes (head ++ json_chunk json) kind all [] (chunk_end bytes 12) data_there refl second in
      record {
        magic = head_magic n rest;
        version = head_version n rest;
        size = head_size n rest ∙ sym total;
        json_type = type_read bytes head (codes "JSON") json behind 12 json_there refl first;
        json_is = text_read bytes head (codes "JSON") json behind 12 json_there refl first;
        numbers_type = type_read bytes (head ++ json_chunk json) kind all [] (chunk_end bytes 12) data_there refl second;
        numbers_are = text_read bytes (head ++ json_chunk json) kind all [] (chunk_end bytes 12) data_there refl second;
        end = last_end (chunk_end bytes 12) (chunk_size bytes (chunk_end bytes 12)) (length json) (length all)
            (length ts) (length bytes) (ap (λ (s : ℕ). 12 + 8 + s) json_size) data_size (data_length ts) total;
      }

-- a reader finds the triangles of a GLB
pub read_back : (ts : List FloatTriangle) (bytes : List ℕ) → IsMeshGlb ts bytes → IsReadBack ts bytes
read_back ts bytes is = record {
  json = is.json;
  numbers = data_of ts;
  chunks = subst (λ (xs : List ℕ). HasChunks xs is.json (data_of ts)) (sym is.is) (chunks is.json ts);
  corners = corners_read ts;
  normals = normals_read ts;
}
