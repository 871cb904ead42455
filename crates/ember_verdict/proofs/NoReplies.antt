-- Why a command has no answer, step by step.
use Rattle.std.proofs.Common.{◌≡◌, ◌≢◌, ℕ, ◌-◌, zero, suc, Bool, true, false, List, [], ◌∷◌, length, map, Some, None}
use Rattle.std.proofs.Common.{Result, Ok, Err, IfErr, refl, sym, ap, subst, arith, ◌∙◌}
use Rattle.std.proofs.lemmas.List.{length-map}
use Rattle.std.specs.declared.option.Option.{Option}
use Rattle.ember_expr.specs.declared.fault.ExprFault.{ExprFault}
use Rattle.ember_expr.specs.declared.fault.ExprFault.TheVariants as expr
use Rattle.ember_model.specs.declared.tri.Tri.{Tri}
use Rattle.ember_obj.specs.declared.fault.ObjFault.{ObjFault}
use Rattle.ember_obj.specs.declared.fault.ObjFault.TheVariants as obj
use Rattle.ember_verdict.specs.Statuses.{IsRefusal, IsRefusalIfTold, hides_memory, is_before_files, is_refusal, refused_file}
use Rattle.ember_io.specs.Calls.{ShelfCall}
use Rattle.ember_verdict.specs.Held.{MayHold}
use Rattle.ember_verdict.specs.NoReplies.{IsAfterFiles, IsOfExpression, IsNoScene, IsNoReply, IsNoReplyToExpression, with_others}
use Rattle.ember_verdict.specs.Verdict.{Contents, Verdict, Unknown, Refused, after_scene, first_told}
use Rattle.ember_verdict.proofs.HeldContents.{held_always, held_then}
use Rattle.ember_verdict.specs.declared.status.LimitKind.TheVariants.{Triangles}
use Rattle.ember_verdict.specs.declared.status.Status.{Status}
use Rattle.ember_verdict.specs.declared.status.Status.TheVariants.{Done, Words, ReadFault, WriteFault, ObjRefused}
use Rattle.ember_verdict.specs.declared.status.Status.TheVariants.{MeshRefused, ExprRefused, Unbounded, Limit, NotClear}
use Rattle.ember_verdict.specs.declared.status.Status.TheVariants.{FaceRefused, OutOfMemory}

-- ---- kinds of statuses
pub before_is_refusal : (status : Status) → is_before_files status ≡ true → is_refusal status ≡ true
before_is_refusal Done e = absurd (cc)
before_is_refusal Words e = refl
before_is_refusal (ReadFault i) e = absurd (cc)
before_is_refusal WriteFault e = absurd (cc)
before_is_refusal (ObjRefused i fault) e = refl
before_is_refusal (MeshRefused i fault) e = refl
before_is_refusal (ExprRefused fault) e = refl
before_is_refusal Unbounded e = refl
before_is_refusal (Limit kind count) e = refl
before_is_refusal NotClear e = refl
before_is_refusal (FaceRefused fault) e = refl
before_is_refusal OutOfMemory e = absurd (cc)

abbrev is_some : {A : Type 0} → Option A → Bool
is_some None = false
is_some (Some x) = true

abbrev number_or : Option ℕ → ℕ → ℕ
number_or None n = n
number_or (Some i) n = i

-- None is not Some
pub none_some : {i : ℕ} → None ≡ Some i → ⊥
none_some e = let h : false ≡ true = ap (λ (o : Option ℕ). is_some o) e in absurd (cc)

-- two equal options of a number have the same number
pub same_number : (i j : ℕ) → Some i ≡ Some j → i ≡ j
same_number i j e = ap (λ (o : Option ℕ). number_or o i) e

-- a status that refuses a file is a refusal
pub file_is_refusal : (status : Status) (i : ℕ) → refused_file status ≡ Some i → is_refusal status ≡ true
file_is_refusal Done i e = absurd (none_some e)
file_is_refusal Words i e = refl
file_is_refusal (ReadFault j) i e = absurd (none_some e)
file_is_refusal WriteFault i e = absurd (none_some e)
file_is_refusal (ObjRefused j fault) i e = refl
file_is_refusal (MeshRefused j fault) i e = refl
file_is_refusal (ExprRefused fault) i e = refl
file_is_refusal Unbounded i e = refl
file_is_refusal (Limit kind count) i e = refl
file_is_refusal NotClear i e = refl
file_is_refusal (FaceRefused fault) i e = refl
file_is_refusal OutOfMemory i e = absurd (none_some e)

-- a refusal of the words or of the expression is of no file
pub before_no_file : (status : Status) (i : ℕ) → is_before_files status ≡ true → refused_file status ≡ Some i → ⊥
before_no_file Done i b e = none_some e
before_no_file Words i b e = none_some e
before_no_file (ReadFault j) i b e = none_some e
before_no_file WriteFault i b e = none_some e
before_no_file (ObjRefused j fault) i b e = absurd (cc)
before_no_file (MeshRefused j fault) i b e = absurd (cc)
before_no_file (ExprRefused fault) i b e = none_some e
before_no_file Unbounded i b e = none_some e
before_no_file (Limit kind count) i b e = absurd (cc)
before_no_file NotClear i b e = absurd (cc)
before_no_file (FaceRefused fault) i b e = absurd (cc)
before_no_file OutOfMemory i b e = none_some e

expression_no_file : (status : Status) (i : ℕ) → IsOfExpression status → refused_file status ≡ Some i → ⊥
expression_no_file Done i k e = absurd k
expression_no_file Words i k e = absurd k
expression_no_file (ReadFault j) i k e = absurd k
expression_no_file WriteFault i k e = absurd k
expression_no_file (ObjRefused j fault) i k e = absurd k
expression_no_file (MeshRefused j fault) i k e = absurd k
expression_no_file (ExprRefused fault) i k e = none_some e
expression_no_file Unbounded i k e = none_some e
expression_no_file (Limit kind count) i k e = absurd k
expression_no_file NotClear i k e = absurd k
expression_no_file (FaceRefused fault) i k e = absurd k
expression_no_file OutOfMemory i k e = none_some e

expression_memory : (status : Status) → IsOfExpression status → hides_memory status ≡ false
expression_memory Done k = absurd k
expression_memory Words k = absurd k
expression_memory (ReadFault j) k = absurd k
expression_memory WriteFault k = absurd k
expression_memory (ObjRefused j fault) k = absurd k
expression_memory (MeshRefused j fault) k = absurd k
expression_memory (ExprRefused fault) k = k
expression_memory Unbounded k = refl
expression_memory (Limit kind count) k = absurd k
expression_memory NotClear k = absurd k
expression_memory (FaceRefused fault) k = absurd k
expression_memory OutOfMemory k = refl

-- an OBJ fault other than out-of-memory doesn't hide out-of-memory
pub obj_tells : (i : ℕ) (fault : ObjFault) → fault ≢ obj.OutOfMemory → hides_memory (ObjRefused i fault) ≡ false
obj_tells i (obj.Word line) n = refl
obj_tells i (obj.Coordinate line fault) n = refl
obj_tells i (obj.Index line) n = refl
obj_tells i (obj.FewCorners line) n = refl
obj_tells i (obj.LongLine line) n = refl
obj_tells i (obj.TooMany line) n = refl
obj_tells i obj.OutOfMemory n = absurd (n refl)

-- nor does such a fault of an expression
pub expr_tells : (fault : ExprFault) → fault ≢ expr.OutOfMemory → hides_memory (ExprRefused fault) ≡ false
expr_tells (expr.Syntax place) n = refl
expr_tells (expr.Deep place) n = refl
expr_tells (expr.Number place) n = refl
expr_tells (expr.NoMesh m) n = refl
expr_tells expr.Long n = refl
expr_tells expr.OutOfMemory n = absurd (n refl)

-- too many triangles are refused after all files
pub triangles_after : (count : ℕ) → IsAfterFiles (Limit Triangles count)
triangles_after count = record { not_before = refl; no_file = refl; memory = refl }

-- and so is a point that isn't clear
pub unclear_after : IsAfterFiles NotClear
unclear_after = record { not_before = refl; no_file = refl; memory = refl }

-- out-of-memory counts as such a status
pub memory_after : (status : Status) → status ≡ OutOfMemory → IsAfterFiles status
memory_after status e = subst (λ (status : Status). IsAfterFiles status) (sym e) (record { not_before = refl; no_file = refl; memory = refl })

-- ---- out-of-memory
memory_is_no_reply_to_any : (verdict : Contents → Verdict) (names : List (List ℕ)) (shelf : ShelfCall) → IsNoReply verdict names shelf OutOfMemory
memory_is_no_reply_to_any verdict names shelf = record {
  refused = λ r. absurd (cc);
  before_files = λ b. absurd (cc);
  in_file = λ i e. absurd (none_some e);
  one_of = λ i e. absurd (none_some e);
  read_fault = λ i e. absurd (cc);
  nothing_before = λ i e. absurd (cc);
  memory = refl;
  never = (λ e. absurd (cc), λ e. absurd (cc), λ e. absurd (cc));
}

memory_is_no_reply : (verdict : Contents → Verdict) (names : List (List ℕ)) (shelf : ShelfCall) (status : Status) →
    status ≡ OutOfMemory → IsNoReply verdict names shelf status
memory_is_no_reply verdict names shelf status e =
    subst (λ (status : Status). IsNoReply verdict names shelf status) (sym e)
    (memory_is_no_reply_to_any verdict names shelf)

-- out-of-memory may stop a scene
pub memory_is_no_scene : {A : Type 0} (places : ℕ) (names : List (List ℕ)) (shelf : ShelfCall)
    (result : Result A Status) → IfErr result (λ status. status ≡ OutOfMemory) →
    IfErr result (IsNoScene places names shelf)
memory_is_no_scene places names shelf (Ok value) e = tt
memory_is_no_scene places names shelf (Err status) e = λ next. memory_is_no_reply (λ contents. after_scene places contents next) names shelf status e

-- out-of-memory may stop an expression
pub memory_is_no_reply_to_expression : (verdict : Verdict) (status : Status) → status ≡ OutOfMemory → IsNoReplyToExpression verdict status
memory_is_no_reply_to_expression verdict status e =
    subst (λ (status : Status). IsNoReplyToExpression verdict status) (sym e)
    (record { refused = λ r. absurd (cc); of_expression = tt })

-- ---- lengths
pub length_told : (n : ℕ) (contents : Contents) → length (first_told n contents) ≡ length contents
length_told n [] = refl
length_told zero (told ∷ more) = ap suc (length_told zero more)
length_told (suc n) (told ∷ more) = ap suc (length_told n more)

length_others : (n : ℕ) (contents others : Contents) → length others ≡ length contents → length (with_others n contents others) ≡ length contents
length_others zero [] [] e = refl
length_others zero [] (o ∷ others) e = e
length_others zero (c ∷ contents) [] e = e
length_others zero (c ∷ contents) (o ∷ others) e = e
length_others (suc n) [] [] e = refl
length_others (suc n) [] (o ∷ others) e = absurd (omega (arith, e))
length_others (suc n) (c ∷ contents) [] e = absurd (omega (arith, e))
length_others (suc n) (c ∷ contents) (o ∷ others) e = ap suc (length_others n contents others (omega (arith, e)))

-- ---- an expression and a scene: what the words ask for, over contents
abbrev pub asks : {T : Type 0} → (ℕ → (T → Verdict) → Verdict) → (ℕ → T → List Tri → Verdict) → ℕ → Contents → Verdict
asks after next places contents = after (length contents) (λ t. after_scene places contents (next (length contents) t))

expression_refuses : {T : Type 0} (after : ℕ → (T → Verdict) → Verdict) (next : ℕ → T → List Tri →
    Verdict) (places m : ℕ) (status : Status) → ((then : T → Verdict) → IsNoReplyToExpression (after m then) status) →
    is_refusal status ≡ true → (contents : Contents) → length contents ≡ m →
    asks after next places contents ≡ Refused status
expression_refuses after next places m status no_reply r contents e =
    subst (λ (n : ℕ). after n (λ t. after_scene places contents (next (length contents) t)) ≡ Refused status) (sym e)
    ((no_reply (λ t. after_scene places contents (next (length contents) t))).refused r)

-- a missing reply that rests on the expression is one of the command
pub expression_is_no_reply : {T : Type 0} (after : ℕ → (T → Verdict) → Verdict) (next : ℕ → T → List Tri →
    Verdict) (places m : ℕ) (names : List (List ℕ)) (shelf : ShelfCall) (status : Status) → length names ≡ m →
    ((then : T → Verdict) → IsNoReplyToExpression (after m then) status) →
    IsNoReply (asks after next places) names shelf status
expression_is_no_reply after next places m names shelf status count no_reply =
    let contents = map shelf.told names in
    let all = length-map names shelf.told ∙ count in
    let kind = (no_reply (λ t. Unknown)).of_expression in
    record {
      refused = λ r.
          held_always shelf.told names (λ contents. IsRefusal status (asks after next places contents))
          (λ contents l. subst (λ (v : Verdict). IsRefusal status v)
          (sym (expression_refuses after next places m status no_reply r contents (l ∙ count))) refl);
      before_files = λ b. expression_refuses after next places m status no_reply (before_is_refusal status b)
          (first_told 0 contents) (length_told 0 contents ∙ all);
      in_file = λ i e. absurd (expression_no_file status i kind e);
      one_of = λ i e. absurd (expression_no_file status i kind e);
      read_fault = λ i e. absurd (subst (λ (status : Status). IsOfExpression status) e kind);
      nothing_before = λ i e. absurd (subst (λ (status : Status). IsOfExpression status) e kind);
      memory = expression_memory status kind;
      never = (
        λ e. subst (λ (status : Status). IsOfExpression status) e kind,
        λ e. subst (λ (status : Status). IsOfExpression status) e kind,
        λ e. subst (λ (status : Status). IsOfExpression status) e kind,
      );
    }

scene_asked : {T : Type 0} (after : ℕ → (T → Verdict) → Verdict) (next : ℕ → T → List Tri →
    Verdict) (places m : ℕ) (t : T) → ((then : T → Verdict) → after m then ≡ then t) → (contents : Contents) →
    length contents ≡ m → asks after next places contents ≡ after_scene places contents (next m t)
scene_asked after next places m t given contents e =
    subst (λ (n : ℕ). after n (λ t. after_scene places contents (next n t)) ≡ after_scene places contents (next m t))
    (sym e) (given (λ t. after_scene places contents (next m t)))

-- a missing reply that rests on the files of the scene is one of the command
pub scene_is_no_reply : {T : Type 0} (after : ℕ → (T → Verdict) → Verdict) (next : ℕ → T → List Tri →
    Verdict) (places m : ℕ) (names : List (List ℕ)) (shelf : ShelfCall) (status : Status) (t : T) → length names ≡ m →
    ((then : T → Verdict) → after m then ≡ then t) → IsNoScene places names shelf status →
    IsNoReply (asks after next places) names shelf status
scene_is_no_reply after next places m names shelf status t count given no_reply =
    let contents = map shelf.told names in
    let all = length-map names shelf.told in
    let s = no_reply (next m t) in
    record {
      refused = λ r.
          held_then shelf.told names (λ contents. IsRefusal status (after_scene places contents (next m t)))
          (λ contents. IsRefusal status (asks after next places contents))
          (λ contents l h. subst (λ (v : Verdict). IsRefusal status v)
          (sym (scene_asked after next places m t given contents (l ∙ count))) h) (s.refused r);
      before_files = λ b. scene_asked after next places m t given (first_told 0 contents) (length_told 0 contents ∙ all ∙ count) ∙ s.before_files b;
      in_file = λ i e others l. subst (λ (v : Verdict). IsRefusalIfTold status v)
          (sym (scene_asked after next places m t given (with_others i contents others)
          (length_others i contents others (l ∙ sym all) ∙ all ∙ count))) (s.in_file i e others l);
      one_of = s.one_of;
      read_fault = λ i e. let f = s.read_fault i e in (
        f.0,
        f.1,
        scene_asked after next places m t given (first_told (i - 1) contents)
            (length_told (i - 1) contents ∙ all ∙ count) ∙ f.2,
        f.3,
      );
      nothing_before = λ i e.
          held_then shelf.told names (λ contents. after_scene places (first_told (i - 1) contents) (next m t) ≡ Unknown)
          (λ contents. asks after next places (first_told (i - 1) contents) ≡ Unknown)
          (λ contents l h. scene_asked after next places m t given (first_told (i - 1) contents)
          (length_told (i - 1) contents ∙ l ∙ count) ∙ h) (s.nothing_before i e);
      memory = s.memory;
      never = s.never;
    }

-- ---- statuses after all files
pub after_no_reply : (verdict : Contents → Verdict) (names : List (List ℕ)) (shelf : ShelfCall) (status : Status) →
    IsAfterFiles status →
    (is_refusal status ≡ true → MayHold shelf.told names (λ contents. IsRefusal status (verdict contents))) →
    ((i : ℕ) → status ≢ ReadFault i) → (status ≢ Done) × (status ≢ Words) × (status ≢ WriteFault) →
    IsNoReply verdict names shelf status
after_no_reply verdict names shelf status kind refused no_read_fault never = record {
  refused = refused;
  before_files = λ b. let h : true ≡ false = sym b ∙ kind.not_before in absurd (cc);
  in_file = λ i e. absurd (none_some (sym kind.no_file ∙ e));
  one_of = λ i e. absurd (none_some (sym kind.no_file ∙ e));
  read_fault = λ i e. absurd (no_read_fault i e);
  nothing_before = λ i e. absurd (no_read_fault i e);
  memory = kind.memory;
  never = never;
}
