-- What is refused with no file known is refused with any.
use Rattle.std.proofs.Common.{◌≡◌, ℕ, Bool, true, false, List, [], ◌∷◌, length, Some, None, Result, Ok, Err, sym, ap, subst, arith}
use Rattle.std.specs.Prelude.{if◌then◌else◌, pos, replicate}
use Rattle.std.specs.declared.option.Option.{Option}
use Rattle.ember_expr.specs.declared.fault.ExprFault.{ExprFault}
use Rattle.ember_expr.specs.Formula.{Formula}
use Rattle.ember_expr.specs.Grammar.{expr_of}
use Rattle.ember_expr.specs.Truth.{truth}
use Rattle.ember_model.specs.declared.tri.Tri.{Tri}
use Rattle.ember_words.specs.declared.command.Command.{Command}
use Rattle.ember_words.specs.declared.command.Command.TheVariants as command
use Rattle.ember_verdict.specs.Outputs.{Lattice, SolidFaces, MeetingPairs}
use Rattle.ember_verdict.specs.Verdict.{Contents, Verdict, Unknown, Refused, Writes, Slices, after_bounded, after_expr}
use Rattle.ember_verdict.specs.Verdict.{after_given, after_parse, after_scene, after_bounded_expr, counts_verdict}
use Rattle.ember_verdict.specs.Verdict.{first_told, verdict_of}
use Rattle.ember_verdict.specs.declared.status.Status.{Status}
use Rattle.ember_verdict.specs.declared.status.Status.TheVariants.{Unbounded}
use Rattle.ember_verdict.proofs.NoReplies.{asks, length_told}

-- whether the verdict depends on no contents that aren't told
abbrev pub is_known : Verdict → Bool
is_known Unknown = false
is_known (Refused status) = true
is_known (Writes output) = true
is_known (Slices at bytes) = true

-- an unknown verdict is no refusal
pub unknown_refused : {refusal : Status} → Unknown ≡ Refused refusal → ⊥
unknown_refused e = let h : false ≡ true = ap (λ (v : Verdict). is_known v) e in absurd (cc)

scene_refused : (places : ℕ) (contents others : Contents) (next : List Tri → Verdict) (refusal : Status) →
    length others ≡ length contents → after_scene places (first_told 0 contents) next ≡ Refused refusal →
    after_scene places others next ≡ Refused refusal
scene_refused places [] [] next refusal l e = e
scene_refused places [] (other ∷ others) next refusal l e = absurd (omega (arith, l))
scene_refused places (told ∷ contents) others next refusal l e = absurd (unknown_refused e)

-- ---- what is asked of an expression first
abbrev KeepsRefusals : {T : Type 0} → ((T → Verdict) → Verdict) → Status → Type 0
KeepsRefusals {T = T} after refusal =
    (follow other : T → Verdict) → ((t : T) → follow t ≡ Refused refusal → other t ≡ Refused refusal) →
    after follow ≡ Refused refusal → after other ≡ Refused refusal

parse_keeps : (parsed : Result Formula ExprFault) (refusal : Status) → KeepsRefusals (after_parse parsed) refusal
parse_keeps (Err fault) refusal follow other h e = e
parse_keeps (Ok formula) refusal follow other h e = h formula e

given_keeps : (text : Option (List ℕ)) (meshes : ℕ) (refusal : Status) → KeepsRefusals (after_given text meshes) refusal
given_keeps None meshes refusal follow other h e = h None e
given_keeps (Some text) meshes refusal follow other h e =
    parse_keeps (expr_of text meshes) refusal (λ formula. follow (Some formula)) (λ formula. other (Some formula)) (λ formula. h (Some formula)) e

bounded_keeps : (bounds : Bool) (follow other : Verdict) (refusal : Status) →
    (follow ≡ Refused refusal → other ≡ Refused refusal) →
    (if bounds then Refused Unbounded else follow) ≡ Refused refusal →
    (if bounds then Refused Unbounded else other) ≡ Refused refusal
bounded_keeps true follow other refusal h e = e
bounded_keeps false follow other refusal h e = h e

solid_keeps : (text : List ℕ) (meshes : ℕ) (refusal : Status) → KeepsRefusals (after_bounded_expr text meshes) refusal
solid_keeps text meshes refusal follow other h e =
    parse_keeps (expr_of text meshes) refusal (λ formula. after_bounded formula (follow formula)) (λ formula. after_bounded formula (other formula))
    (λ formula. bounded_keeps (truth (replicate 64 (pos 0)) formula) (follow formula) (other formula) refusal (h formula)) e

asked_refused : {T : Type 0} (after : ℕ → (T → Verdict) → Verdict) (next : ℕ → T → List Tri →
    Verdict) (places : ℕ) (contents others : Contents) (refusal : Status) →
    ((meshes : ℕ) → KeepsRefusals (after meshes) refusal) → length others ≡ length contents →
    asks after next places (first_told 0 contents) ≡ Refused refusal → asks after next places others ≡ Refused refusal
asked_refused {T = T} after next places contents others refusal keeps l e =
    let n = length contents in
    let untold = first_told 0 contents in
    subst (λ (m : ℕ). after m (λ t. after_scene places others (next m t)) ≡ Refused refusal) (sym l)
    (keeps n (λ (t : T). after_scene places untold (next n t)) (λ (t : T). after_scene places others (next n t))
    (λ t. scene_refused places contents others (next n t) refusal l)
    (subst (λ (m : ℕ). after m (λ t. after_scene places untold (next m t)) ≡ Refused refusal) (length_told 0 contents) e))

-- ---- all commands
pub refused_with_any : (command : Option Command) (contents others : Contents) (refusal : Status) →
    length others ≡ length contents → verdict_of command (first_told 0 contents) ≡ Refused refusal →
    verdict_of command others ≡ Refused refusal
refused_with_any None contents others refusal l e = e
refused_with_any (Some (command.Faces places file)) [] others refusal l e = absurd (unknown_refused e)
refused_with_any (Some (command.Faces places file)) (told ∷ contents) others refusal l e = absurd (unknown_refused e)
refused_with_any (Some (command.At point expr places files)) contents others refusal l e =
    asked_refused (after_given expr) (counts_verdict point) places contents others refusal (λ meshes. given_keeps expr meshes refusal) l e
refused_with_any (Some (command.Boole expr workers places report files)) contents others refusal l e =
    asked_refused (after_bounded_expr expr) (λ m formula tris. Writes (SolidFaces tris formula)) places contents others
    refusal (λ meshes. solid_keeps expr meshes refusal) l e
refused_with_any (Some (command.Demo boxes workers)) contents others refusal l e = e
refused_with_any (Some (command.Voxels expr size workers places files)) contents others refusal l e =
    asked_refused (after_expr expr) (λ m formula tris. Writes (Lattice tris formula size)) places contents others
    refusal (λ meshes. parse_keeps (expr_of expr meshes) refusal) l e
refused_with_any (Some (command.Pairs workers places files)) contents others refusal l e =
    scene_refused places contents others (λ tris. Writes (MeetingPairs tris)) refusal l e
refused_with_any (Some (command.Slice at file)) [] others refusal l e = absurd (unknown_refused e)
refused_with_any (Some (command.Slice at file)) (told ∷ contents) others refusal l e = absurd (unknown_refused e)
