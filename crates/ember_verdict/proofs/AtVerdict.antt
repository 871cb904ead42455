-- The verdict of `at`, step by step.
use Rattle.std.proofs.Common.{◌≡◌, ◌≢◌, ℕ, Bool, true, false, List, length, ℤ, Result, Ok, Err, IfOk, IfErr, Vec, Global, refl, sym, ap, subst, ◌∙◌}
use Rattle.std.specs.declared.option.Option.{Option}
use Rattle.std.specs.List.{list_all}
use Rattle.std.specs.Prelude.{if◌then◌else◌}
use Rattle.ember_expr.specs.Formula.{Formula}
use Rattle.ember_model.specs.declared.point.Axis.TheVariants.{X}
use Rattle.ember_model.specs.declared.point.Spot.{Spot}
use Rattle.ember_model.specs.declared.tri.Tri.{Tri}
use Rattle.ember_model.specs.ClearTest.{is_clear_of}
use Rattle.ember_model.specs.Meshes.{vector}
use Rattle.ember_verdict.specs.declared.status.Status.{Status}
use Rattle.ember_verdict.specs.declared.status.Status.TheVariants.{Done, Words, ReadFault, WriteFault, NotClear}
use Rattle.ember_verdict.specs.Outputs.{Counts, counts_text}
use Rattle.ember_io.specs.Calls.{ShelfCall}
use Rattle.ember_verdict.specs.Held.{MayHold}
use Rattle.ember_verdict.specs.NoReplies.{IsAfterFiles, IsNoReply}
use Rattle.ember_verdict.specs.Statuses.{IsRefusal, IsText, is_refusal}
use Rattle.ember_verdict.specs.Verdict.{Contents, Verdict, Refused, Writes, after_given, after_scene, at_verdict, counts_verdict}
use Rattle.ember_verdict.proofs.NoReplies.{after_no_reply}
use Rattle.ember_verdict.proofs.HeldContents.{held_then}

-- what the words ask for, over m meshes
abbrev at_for : Spot → Option (List ℕ) → ℕ → Contents → ℕ → Verdict
at_for point expr places contents m = after_given expr m (λ formula. after_scene places contents (counts_verdict point m formula))

-- an expression was given, or none
abbrev pub Given : Option (List ℕ) → ℕ → Option Formula → Type 0
Given expr m formula = (next : Option Formula → Verdict) → after_given expr m next ≡ next formula

-- these triangles were read
abbrev pub SceneRead : ℕ → Contents → List Tri → Type 0
SceneRead places contents tris = (next : List Tri → Verdict) → after_scene places contents next ≡ next tris

at_same : (point : Spot) (expr : Option (List ℕ)) (places m : ℕ) (contents : Contents) (formula : Option Formula)
    (tris : List Tri) → length contents ≡ m → Given expr m formula → SceneRead places contents tris →
    at_verdict point expr places contents ≡ counts_verdict point m formula tris
at_same point expr places m contents formula tris e given scene =
    ap (at_for point expr places contents) e
    ∙ given (λ formula. after_scene places contents (counts_verdict point m formula))
    ∙ scene (counts_verdict point m formula)

-- ---- at the point
pub clear_text : (point : Spot) (m : ℕ) (formula : Option Formula) (tris : List Tri) (counts : List ℤ) (bytes : List ℕ)
    → list_all (λ t. is_clear_of t point) tris ≡ true → counts ≡ vector X tris point →
    bytes ≡ counts_text m counts formula → IsText (counts_verdict point m formula tris) bytes
clear_text point m formula tris counts bytes clear e is =
    subst (λ (b : Bool). IsText (if b then Writes (Counts point m tris formula) else Refused NotClear) bytes)
    (sym clear) (is ∙ ap (λ (counts : List ℤ). counts_text m counts formula) e)

-- a point that isn't clear of some triangle is refused
pub unclear_refused : (point : Spot) (m : ℕ) (formula : Option Formula) (tris : List Tri) →
    list_all (λ t. is_clear_of t point) tris ≡ false → IsRefusal NotClear (counts_verdict point m formula tris)
unclear_refused point m formula tris clear =
    subst (λ (b : Bool). IsRefusal NotClear (if b then Writes (Counts point m tris formula) else Refused NotClear)) (sym clear) refl

-- the text for a scene is the output for contents that were read as it
pub text_if : {E : Type 0} (point : Spot) (expr : Option (List ℕ)) (places m : ℕ) (told : List ℕ →
    Option (List ℕ)) (names : List (List ℕ)) (formula : Option Formula) (tris : List Tri)
    (result : Result (Vec ℕ Global) E) → length names ≡ m → Given expr m formula →
    MayHold told names (λ contents. SceneRead places contents tris) →
    IfOk result (λ text. IsText (counts_verdict point m formula tris) text.items) →
    IfOk result (λ text. MayHold told names (λ contents. IsText (at_verdict point expr places contents) text.items))
text_if point expr places m told names formula tris (Ok text) e given scene is =
    held_then told names (λ contents. SceneRead places contents tris) (λ contents. IsText (at_verdict point expr places contents) text.items)
    (λ contents l s. subst (λ (v : Verdict). IsText v text.items)
    (sym (at_same point expr places m contents formula tris (l ∙ e) given s)) is) scene
text_if point expr places m told names formula tris (Err error) e given scene is = tt

-- a refusal for a scene is one for contents that were read as it
pub point_is_no_reply_if : {A : Type 0} (point : Spot) (expr : Option (List ℕ)) (places m : ℕ) (names : List (List ℕ))
    (shelf : ShelfCall) (formula : Option Formula) (tris : List Tri) (result : Result A Status) → length names ≡ m →
    Given expr m formula → MayHold shelf.told names (λ contents. SceneRead places contents tris) →
    IfErr result (λ status. is_refusal status ≡ true → IsRefusal status (counts_verdict point m formula tris)) →
    IfErr result IsAfterFiles → ((i : ℕ) → result ≢ Err (ReadFault i)) →
    (result ≢ Err Done) × (result ≢ Err Words) × (result ≢ Err WriteFault) →
    IfErr result (IsNoReply (at_verdict point expr places) names shelf)
point_is_no_reply_if point expr places m names shelf formula tris (Ok value) e given scene refused kind no_read_fault never = tt
point_is_no_reply_if point expr places m names shelf formula tris (Err status) e given scene refused kind no_read_fault never =
    after_no_reply (at_verdict point expr places) names shelf status kind
    (λ r. held_then shelf.told names (λ contents. SceneRead places contents tris)
    (λ contents. IsRefusal status (at_verdict point expr places contents))
    (λ contents l s. subst (λ (v : Verdict). IsRefusal status v)
    (sym (at_same point expr places m contents formula tris (l ∙ e) given s)) (refused r)) scene)
    (λ i f. no_read_fault i (ap Err f)) (λ f. never.0 (ap Err f), λ f. never.1 (ap Err f), λ f. never.2 (ap Err f))
