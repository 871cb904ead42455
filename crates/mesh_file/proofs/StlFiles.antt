-- Files that are STL by their bytes, and those that are by their name alone
use Rattle.std.proofs.Common.{◌≡◌, ℕ, Bool, true, false, ◌⊎◌, inl, inr, List, refl, sym, ap, ◌∙◌, Result, Err}
use Rattle.std.specs.Prelude.{if◌then◌else◌}
use Rattle.mesh_read.specs.Surface.Surfaces.{Content}
use Rattle.mesh_read.specs.declared.stl.fault.StlFault.{StlFault}
use Rattle.mesh_read.specs.declared.stl.fault.StlFault.TheVariants as stl
use Rattle.mesh_read.specs.Stl.Ascii.{ascii_of}
use Rattle.mesh_read.specs.Stl.Binary.{binary_of}
use Rattle.mesh_read.specs.Stl.ReadStl.{is_binary, is_ascii, facets_said, read_stl_of, checked}
use Rattle.mesh_file.specs.declared.format.format.Format.{Format}
use Rattle.mesh_file.specs.declared.format.format.Format.TheVariants.{Ply, BinaryStl, AsciiStl, Off, Gltf, CutOffStl, Obj}
use Rattle.mesh_file.specs.Format.Formats.{is_ply, is_off_file, is_gltf_file, has_stl_name, format_said}
use Rattle.mesh_file.specs.File.Faults.{CutOff, is_empty_stl, of_stl}
use Rattle.mesh_file.specs.File.ReadFile.{or_nothing, with_faults, or_unread, reading_in, reading_of}

neither : (p b a o g s : Bool) (x y : Result Content StlFault) (n : ℕ) →
    (if p then Ply else (if b then BinaryStl else (if a then AsciiStl else (if o then Off else (if g then Gltf else (if s then CutOffStl else Obj)))))) ≡ CutOffStl →
    (if b then checked true x else (if a then checked false y else Err (stl.CutOff n))) ≡ Err (stl.CutOff n)
neither true b a o g s x y n e = cc
neither false true a o g s x y n e = cc
neither false false true o g s x y n e = cc
neither false false false o g s x y n e = refl

cut_off : (name bytes : List ℕ) → format_said name bytes ≡ CutOffStl →
    with_faults of_stl (or_nothing is_empty_stl (read_stl_of bytes)) ≡ Err (CutOff (facets_said bytes))
cut_off name bytes e =
    let refused : read_stl_of bytes ≡ Err (stl.CutOff (facets_said bytes)) =
    neither (is_ply bytes) (is_binary bytes) (is_ascii bytes) (is_off_file name bytes) (is_gltf_file name bytes) (has_stl_name name) (binary_of bytes)
    (ascii_of bytes) (facets_said bytes) e in
    ap (λ (r : Result Content StlFault). with_faults of_stl (or_nothing is_empty_stl r)) refused

-- the two kinds of STL have one reader
pub stl_files_have_one_reader : (name bytes : List ℕ) (format : Format) → format ≡ format_said name bytes →
    (format ≡ BinaryStl) ⊎ (format ≡ AsciiStl) →
    reading_of name bytes ≡ with_faults of_stl (or_nothing is_empty_stl (read_stl_of bytes))
stl_files_have_one_reader name bytes format said (inl binary) = ap (λ f. reading_in f bytes) (sym said ∙ binary)
stl_files_have_one_reader name bytes format said (inr ascii) = ap (λ f. reading_in f bytes) (sym said ∙ ascii)

-- a file that is STL by its name alone has the same, but may be of a format that isn't read
pub stl_names_have_its_reader : (name bytes : List ℕ) (format : Format) → format ≡ format_said name bytes →
    format ≡ CutOffStl → reading_of name bytes ≡ or_unread bytes (with_faults of_stl (or_nothing is_empty_stl (read_stl_of bytes)))
stl_names_have_its_reader name bytes format said named =
    ap (λ f. reading_in f bytes) (sym said ∙ named) ∙ ap (or_unread bytes) (sym (cut_off name bytes (sym said ∙ named)))
