-- The line on standard error of words that are refused
use Rattle.std.specs.Prelude.{ℕ, ◌-◌, List, [], ◌++◌, length, codes, get_or, map, String, string_bytes}
use Rattle.std.specs.declared.alloc.Global.{Global}
use Rattle.mesh_placing.specs.declared.shapes.ShapeWordFault.{ShapeWordFault}
use Rattle.mesh_placing.specs.declared.shapes.ShapeWordFault.TheVariants as shape
use Rattle.mesh_words.specs.declared.faults.Refusal.{Refusal}
use Rattle.mesh_words.specs.declared.faults.Refusal.TheVariants as refusal
use Rattle.mesh_words.specs.declared.names.Setting.{Setting}
use Rattle.mesh_placing.specs.declared.files.PlaceFault.{PlaceFault}
use Rattle.mesh_refusal.specs.Placings.{place_text}
use Rattle.mesh_words.specs.Given.{input_given, output_given, step_given, value_given}
use Rattle.mesh_words.specs.Spelling.{option_of}

-- the word with this number, from 0
abbrev pub word_at : List (List ℕ) → ℕ → List ℕ
word_at words number = get_or words number []

-- `WORD: WHY`
abbrev pub word_text : List ℕ → List ℕ → List ℕ
word_text word why = word ++ (codes ": " ++ (why ++ codes "; see ember-mesh help"))

-- a command doesn't take the option
abbrev pub foreign_text : Setting → List ℕ → List ℕ
foreign_text option command =
    option_of option ++ (codes ": not an option of " ++ (command ++ codes "; see ember-mesh help"))

-- `OPTION VALUE`
abbrev pub value_text : Setting → List (List ℕ) → List ℕ
value_text option words = option_of option ++ (codes " " ++ value_given option words)

-- a value of `--place` says no placing
abbrev pub no_place_text : PlaceFault → List ℕ
no_place_text fault = codes "--place: " ++ (place_text fault ++ codes "; see ember-mesh help")

-- a name that begins as a shape says none
abbrev pub shape_text : ShapeWordFault → List ℕ
shape_text shape.NoBox = word_text (codes "box") (codes "not X,Y,Z,X,Y,Z with at most 12 decimal places")
shape_text shape.NoCylinder =
    word_text (codes "cylinder") (codes "not X,Y,Z,RADIUS,HEIGHT,SIDES with at most 12 decimal places")
shape_text shape.Flat = word_text (codes "box") (codes "no volume")
shape_text shape.Radius = word_text (codes "cylinder") (codes "the radius is not above 0")
shape_text shape.Height = word_text (codes "cylinder") (codes "the height is 0")
shape_text shape.Sides = word_text (codes "cylinder") (codes "not 3 to 4096 sides")

-- why words are refused; word 0 is the name of the command
abbrev pub refusal_text : List (List ℕ) → Refusal → List ℕ
refusal_text words refusal.NoCommand = codes "no command; see ember-mesh help"
refusal_text words refusal.UnknownCommand = word_text (word_at words 0) (codes "no such command")
refusal_text words (refusal.UnknownOption i) = word_text (word_at words i) (codes "unknown option")
refusal_text words refusal.NoValue = word_text (word_at words (length words - 1)) (codes "needs a value")
refusal_text words refusal.NoFiles = codes "no files; see ember-mesh help"
refusal_text words refusal.TooManyFiles = codes "more than 64 files; see ember-mesh help"
refusal_text words refusal.SecondInput = word_text (codes "-") (codes "standard input is read once")
refusal_text words (refusal.Shape fault) = shape_text fault
refusal_text words refusal.NoExpression = word_text (codes "--expr") (codes "is missing")
refusal_text words refusal.NeedlessExpression = word_text (codes "--expr") (codes "is for bool alone")
refusal_text words (refusal.NotFor s) = foreign_text s (word_at words 0)
refusal_text words (refusal.Twice s) = word_text (option_of s) (codes "is given twice")
refusal_text words (refusal.PageEnding s) = value_text s words ++ codes ": the name must end in .html or .htm"
refusal_text words (refusal.OverInput s i) =
    value_text s words ++
    (codes ": would write over the input " ++ (input_given i words ++ codes "; give another name"))
refusal_text words (refusal.OverOutput s) =
    value_text s words ++
    (codes ": would write the same file as -o " ++ (output_given words ++ codes "; give another name"))
refusal_text words refusal.NotOneDocument = codes "export takes one document; see ember-mesh help"
refusal_text words refusal.NoFolder = word_text (codes "-d") (codes "is missing")
refusal_text words refusal.NoOutput = word_text (codes "-o") (codes "is missing")
refusal_text words refusal.NoFormat = word_text (codes "--format") (codes "is missing")
refusal_text words refusal.NeedlessFormat = word_text (codes "--format") (codes "is for -o - alone")
refusal_text words refusal.UnknownFormat =
    word_text (codes "--format") (codes "not one of stl, obj, ply, off and glb")
refusal_text words refusal.OutputEnding =
    codes "-o " ++ (output_given words ++ codes ": the name must end in .stl, .obj, .ply, .off or .glb")
refusal_text words refusal.NotAStep = codes "--step " ++ (step_given words ++ codes ": not a number above 0")
refusal_text words refusal.Workers = word_text (codes "--workers") (codes "not a number from 1 to 64")
refusal_text words refusal.Digits = word_text (codes "--digits") (codes "not a number from 0 to 17")
refusal_text words (refusal.Place fault) = no_place_text fault
refusal_text words refusal.Turn = word_text (codes "--turn") (codes "not the number of a file")

-- the same of words as the program gets them
abbrev pub why_refused : List (String Global) → Refusal → List ℕ
why_refused words why = refusal_text (map string_bytes words) why
