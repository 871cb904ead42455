-- Files with the names of a request and bytes that a shelf tells
use Rattle.std.proofs.Common.{◌≡◌, ◌<◌, ◌≤◌, ◌+◌, ℕ, suc, refl, List, [], ◌∷◌, ◌++◌, Some, map, length, take, get_or, sym, ap, subst, ◌∙◌, arith}
use Rattle.std.proofs.lemmas.List.{length-map, length-take-le, take-map, get_or-take, take_all, take_more, map-append}
use Rattle.std.proofs.lemmas.List.Elements.{All-nil, All-cons, All-head, All-tail, All-map, All-take, AllZip-push}
use Rattle.std.proofs.lemmas.Option.{get_or_from_slice_get, slice_get-get_or, slice_get_within}
use Rattle.std.specs.declared.alloc.Global.{Global}
use Rattle.std.specs.declared.option.Option.{Option}
use Rattle.std.specs.Prelude.{Vec}
use Rattle.std.specs.List.{All, AllZip, slice_get}
use Rattle.mesh_boolean.specs.declared.files.InputFile.{InputFile}
use Rattle.mesh_boolean.specs.Files.{IsSmall, AreReadings}
use Rattle.ember_io.specs.Shelves.{Tells, AreBytes}
use Rattle.mesh_read.specs.declared.surface.surface.Surface.{Surface}
use Rattle.mesh_run.specs.Files.{AreContents, AreFiles, AreReadAs}

abbrev name_in : InputFile → List ℕ
name_in file = file.name.now

abbrev bytes_in : InputFile → List ℕ
bytes_in file = file.bytes.now

abbrev pub items_of : Vec ℕ Global → List ℕ
items_of bytes = bytes.items

abbrev IsTold : (List ℕ → Option (List ℕ)) → InputFile → Type 0
IsTold told file = Tells (told file.name.now) file.bytes.now

-- ---- files made of names and bytes
-- one name more
pub names_more : (files after : List InputFile) (names : List (List ℕ)) (i : ℕ) (d : List ℕ) (file : InputFile) →
    i < length names → map name_in files ≡ take i names → after ≡ files ++ file ∷ [] → file.name.now ≡ get_or names i d →
    map name_in after ≡ take (i + 1) names
names_more files after names i d file l p q e =
    ap (map name_in) q ∙ map-append name_in files (file ∷ []) ∙ (λ k. p k ++ e k ∷ []) ∙ sym (take_more names i d l)

-- the bytes of one file more
pub bytes_more : (files after : List InputFile) (contents : List (Vec ℕ Global)) (i : ℕ) (d : Vec ℕ Global)
    (file : InputFile) → i < length contents → map bytes_in files ≡ map items_of (take i contents) →
    after ≡ files ++ file ∷ [] → file.bytes.now ≡ (get_or contents i d).items →
    map bytes_in after ≡ map items_of (take (i + 1) contents)
bytes_more files after contents i d file l p q e =
    ap (map bytes_in) q ∙ map-append bytes_in files (file ∷ []) ∙ (λ k. p k ++ e k ∷ [])
    ∙ sym (ap (map items_of) (take_more contents i d l)
    ∙ map-append items_of (take i contents) (get_or contents i d ∷ []))

-- there are as many files as bytes
pub files_are_of_contents : (files : List InputFile) (contents : List (Vec ℕ Global)) →
    map bytes_in files ≡ map items_of contents → length files ≡ length contents
files_are_of_contents files contents b = sym (length-map files bytes_in) ∙ ap length b ∙ length-map contents items_of

abbrev IsShort : List ℕ → Type 0
IsShort bytes = length bytes ≤ 268435456

short_files : (files : List InputFile) → All IsShort (map bytes_in files) → All IsSmall files
short_files [] h = All-nil IsSmall
short_files (file ∷ files) h =
    All-cons IsSmall file files (All-head IsShort file.bytes.now (map bytes_in files) h)
    (short_files files (All-tail IsShort file.bytes.now (map bytes_in files) h))

-- files of small contents are small
pub files_are_small : (files : List InputFile) (contents : List (Vec ℕ Global)) →
    map bytes_in files ≡ map items_of contents → All (λ (bytes : Vec ℕ Global). length bytes.items ≤ 268435456) contents →
    All IsSmall files
files_are_small files contents b h = short_files files (subst (All IsShort) (sym b) (All-map IsShort items_of contents h))

-- the contents of one name more
pub contents_more : (told : List ℕ → Option (List ℕ)) (names : List (List ℕ)) (i : ℕ) (d : List ℕ)
    (before after : List (Vec ℕ Global)) (bytes : Vec ℕ Global) → i < length names →
    AreContents told (take i names) before → after ≡ before ++ bytes ∷ [] → AreBytes told (get_or names i d) bytes.items →
    AreContents told (take (i + 1) names) after
contents_more told names i d before after bytes l h q b =
    subst (λ (ns : List (List ℕ)). AllZip (AreBytes told) ns (map items_of after)) (sym (take_more names i d l))
    (subst (λ (bs : List (List ℕ)). AllZip (AreBytes told) (take i names ++ get_or names i d ∷ []) bs)
    (sym (ap (map items_of) q ∙ map-append items_of before (bytes ∷ [])))
    (AllZip-push (AreBytes told) (take i names) (map items_of before) (get_or names i d) bytes.items h b))

-- ---- files of a shelf
all_told : (told : List ℕ → Option (List ℕ)) (files : List InputFile) → AllZip (AreBytes told) (map name_in files) (map bytes_in files) → All (IsTold told) files
all_told told [] h = All-nil (IsTold told)
all_told told (file ∷ files) h = All-cons (IsTold told) file files h.0.tells (all_told told files h.1)

all_small : (told : List ℕ → Option (List ℕ)) (files : List InputFile) → AllZip (AreBytes told) (map name_in files) (map bytes_in files) → All IsSmall files
all_small told [] h = All-nil IsSmall
all_small told (file ∷ files) h = All-cons IsSmall file files h.0.small (all_small told files h.1)

-- files with these names and bytes are those of the shelf
pub files_are_told : (told : List ℕ → Option (List ℕ)) (names contents : List (List ℕ)) (files : List InputFile) →
    map name_in files ≡ names → map bytes_in files ≡ contents → AllZip (AreBytes told) names contents →
    AreFiles told names files
files_are_told told names contents files n b h =
    let named : AllZip (AreBytes told) (map name_in files) contents = subst (λ (ns : List (List ℕ)). AllZip (AreBytes told) ns contents) (sym n) h in
    let zipped : AllZip (AreBytes told) (map name_in files) (map bytes_in files) =
    subst (λ (bs : List (List ℕ)). AllZip (AreBytes told) (map name_in files) bs) (sym b) named in
    record { named = n; tells = all_told told files zipped; small = all_small told files zipped }

-- and if they are read, these are their surfaces
pub files_are_read : (told : List ℕ → Option (List ℕ)) (names contents : List (List ℕ)) (files : List InputFile)
    (surfaces : List Surface) → map name_in files ≡ names → map bytes_in files ≡ contents →
    AllZip (AreBytes told) names contents → AreReadings files surfaces → AreReadAs told names surfaces
files_are_read told names contents files surfaces n b h read =
    record { files = files; are_files = files_are_told told names contents files n b h; readings = read }

-- bytes that are told are small
pub contents_are_small : (told : List ℕ → Option (List ℕ)) (names : List (List ℕ)) (contents : List (Vec ℕ Global)) →
    AreContents told names contents → All (λ (bytes : Vec ℕ Global). length bytes.items ≤ 268435456) contents
contents_are_small told names [] h = All-nil (λ (bytes : Vec ℕ Global). length bytes.items ≤ 268435456)
contents_are_small told [] (bytes ∷ more) h = absurd h
contents_are_small told (name ∷ names) (bytes ∷ more) h =
    All-cons (λ (bytes : Vec ℕ Global). length bytes.items ≤ 268435456) bytes more h.0.small (contents_are_small told names more h.1)

-- ---- files up to one of them
-- there are as many files as names
pub files_are_as_many : (told : List ℕ → Option (List ℕ)) (names : List (List ℕ)) (files : List InputFile) →
    AreFiles told names files → length files ≡ length names
files_are_as_many told names files h = sym (length-map files name_in) ∙ ap length h.named

-- the first n files are those of the first n names
pub files_up_to : (told : List ℕ → Option (List ℕ)) (names : List (List ℕ)) (files : List InputFile) (n : ℕ) →
    AreFiles told names files → AreFiles told (take n names) (take n files)
files_up_to told names files n h = record {
  named = sym (take-map name_in n files) ∙ ap (λ (ns : List (List ℕ)). take n ns) h.named;
  tells = All-take (IsTold told) n files h.tells;
  small = All-take IsSmall n files h.small;
}

-- a file is among the files up to it
pub file_up_to : (files : List InputFile) (index : ℕ) (file : InputFile) → slice_get files index ≡ Some file →
    slice_get (take (index + 1) files) index ≡ Some file
file_up_to files index file found =
    let inside = slice_get_within files index file found in
    let long = length-take-le (index + 1) files (omega (arith, inside)) in
    let same : get_or (take (index + 1) files) index file ≡ file =
    get_or-take (index + 1) files index file (omega arith) ∙ get_or_from_slice_get files index file file found in
    slice_get-get_or (take (index + 1) files) index file (omega (arith, long)) ∙ ap (λ (f : InputFile). Some f) same

-- ---- contents of all files
-- there is one for each name
pub contents_are_as_many : (told : List ℕ → Option (List ℕ)) (names : List (List ℕ)) (contents : List (Vec ℕ Global)) →
    AreContents told names contents → length contents ≡ length names
contents_are_as_many told [] [] h = refl
contents_are_as_many told [] (bytes ∷ more) h = absurd h
contents_are_as_many told (name ∷ names) [] h = absurd h
contents_are_as_many told (name ∷ names) (bytes ∷ more) h = ap suc (contents_are_as_many told names more h.1)

-- as many names as contents are all names
pub all_names : (names : List (List ℕ)) (contents : List (Vec ℕ Global)) → length contents ≡ length names → take (length contents) names ≡ names
all_names names contents e = take_all (length contents) names (omega (arith, e))
