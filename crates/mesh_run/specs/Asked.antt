-- What the words of a Boolean ask for, before any file is read
use Rattle.std.specs.Prelude.{◌≡◌, ◌≢◌, ⊤, ℕ, List, length, true, not, Ok, Err, is_some, replicate, pos}
use Rattle.std.specs.declared.option.Option.{Option}
use Rattle.mesh_boolean.specs.declared.wanted.FloatFormat.TheVariants as floats
use Rattle.mesh_boolean.specs.declared.wanted.MeshFormat.{MeshFormat}
use Rattle.mesh_boolean.specs.declared.wanted.MeshFormat.TheVariants.{Floats, Text}
use Rattle.mesh_boolean.specs.declared.wanted.WantedFile.{WantedFile}
use Rattle.ember_expr.specs.declared.fault.ExprFault.TheVariants as expr
use Rattle.ember_expr.specs.Formula.{Formula}
use Rattle.ember_expr.specs.Grammar.{expr_of}
use Rattle.ember_expr.specs.Truth.{truth}
use Rattle.mesh_grid.specs.declared.grid.choice.Wanted.{Wanted}
use Rattle.mesh_grid.specs.declared.grid.choice.Wanted.TheVariants.{Nice, Finest, Given}
use Rattle.ember_meaning.specs.Regions.Meaning.{IsFalseOutside}
use Rattle.mesh_write.specs.declared.text.format.TextFormat.TheVariants as texts
use Rattle.mesh_placing.specs.declared.files.Placing.{Placing}
use Rattle.mesh_placing.specs.Files.{ArePlacingsOf}
use Rattle.mesh_words.specs.declared.command.OutputFormat.{OutputFormat}
use Rattle.mesh_words.specs.declared.command.OutputFormat.TheVariants as output
use Rattle.mesh_words.specs.declared.command.Request.{Request}
use Rattle.mesh_words.specs.declared.command.WantedStep.{WantedStep}
use Rattle.mesh_words.specs.declared.command.WantedStep.TheVariants as step
use Rattle.mesh_grid.specs.declared.snap.steps.GridStep.{GridStep}
use Rattle.mesh_grid.specs.Snap.Decimals.{IsStepOf, IsLeastStepOf}
use Rattle.mesh_refusal.specs.declared.status.Status.{Status}
use Rattle.mesh_refusal.specs.declared.status.Status.TheVariants.{StepOfNoGrid, ExprRefused, Unbounded, OutOfMemory}

-- ---- steps
-- the step that is asked for
abbrev pub IsWanted : WantedStep → Wanted → Type 0
IsWanted step.Nice wanted = wanted ≡ Nice
IsWanted step.Finest wanted = wanted ≡ Finest
IsWanted (step.Decimal text) wanted = (s : GridStep) × IsLeastStepOf text s × (wanted ≡ Given s)

-- no grid has it
abbrev pub IsStepOfNoGrid : WantedStep → Type 0
IsStepOfNoGrid step.Nice = ⊥
IsStepOfNoGrid step.Finest = ⊥
IsStepOfNoGrid (step.Decimal text) = (s : GridStep) → IsStepOf text s → ⊥

-- ---- formats
-- the format that the output's name and `--digits` ask for
abbrev pub format_asked : OutputFormat → Option ℕ → MeshFormat
format_asked output.Stl digits = Floats floats.Stl
format_asked output.Glb digits = Floats floats.Glb
format_asked output.Obj digits = Text texts.Obj digits
format_asked output.Ply digits = Text texts.Ply digits
format_asked output.Off digits = Text texts.Off digits

-- ---- expressions
-- the text is an expression over so many meshes, false outside all of them
pub record IsExpression (text : List ℕ) (meshes : ℕ) (formula : Formula) : Type 0 where
  pub tree : expr_of text meshes ≡ Ok formula
  pub bounded : IsFalseOutside formula

-- it is true outside all of them
pub record IsUnbounded (text : List ℕ) (meshes : ℕ) : Type 0 where
  pub formula : Formula
  pub tree : expr_of text meshes ≡ Ok formula
  pub holds : truth (replicate 64 (pos 0)) formula ≡ true

-- why a text is no such expression
abbrev pub IsExpressionCause : List ℕ → ℕ → Status → Type 0
IsExpressionCause text meshes (ExprRefused fault) = (expr_of text meshes ≡ Err fault) × (fault ≢ expr.OutOfMemory)
IsExpressionCause text meshes Unbounded = IsUnbounded text meshes
IsExpressionCause text meshes OutOfMemory = ⊤
IsExpressionCause text meshes status = ⊥

-- ---- placings
-- the files are placed as the words say
abbrev pub AreAsked : Request → List (Option Placing) → Type 0
AreAsked request placings = ArePlacingsOf (length request.files) request.places request.turns placings

-- ---- requests
-- the files are placed as it is asked for, the file has the format that is asked for, on a grid as it is asked for; what
-- a page or a folder takes is wanted beside it if one is named, and what a report counts if there is one
pub record AsksFile (request : Request) (wanted : WantedFile) : Type 0 where
  pub placings : AreAsked request wanted.placings.now
  pub format : wanted.format ≡ format_asked request.format request.digits
  pub step : IsWanted request.step wanted.grid
  pub shows : wanted.shows ≡ is_some request.view
  pub keeps : wanted.keeps ≡ is_some request.keep
  pub counts : wanted.counts ≡ not request.quiet

-- and the expression of its files has this tree
pub record Asks (request : Request) (wanted : WantedFile) (formula : Formula) : Type 0 where
  pub file : AsksFile request wanted
  pub expression : IsExpression request.expression (length request.files) formula

-- why a request asks for nothing that can be computed: no file has to do with it
abbrev pub IsWordsCause : Request → Status → Type 0
IsWordsCause request StepOfNoGrid = IsStepOfNoGrid request.step
IsWordsCause request status =
    (wanted : WantedFile) × AsksFile request wanted × IsExpressionCause request.expression (length request.files) status
