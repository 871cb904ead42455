-- A fault stays the file's fault.
use Rattle.std.proofs.Common.{◌≡◌, ℕ, List, [], ◌∷◌, length, Ok, Err, refl, ◌∙◌, ap}
use Rattle.std.proofs.lemmas.Bool.{lt-ltb}
use Rattle.ember_obj.specs.declared.fault.ObjFault.{ObjFault}
use Rattle.ember_obj.specs.declared.fault.ObjFault.TheVariants.{LongLine}
use Rattle.ember_obj.specs.Lines.{Line, BeginsLong}
use Rattle.ember_obj.specs.Table.{Table}
use Rattle.ember_obj.specs.ReadObj.{after_lines}

-- a fault stays the fault after further lines
pub after_fault : (places mesh : ℕ) (fault : ObjFault) (lines : List Line) → after_lines places mesh (Err fault) lines ≡ Err fault
after_fault places mesh fault [] = refl
after_fault places mesh fault (line ∷ lines) = refl

-- lines, the first of them too long
pub long_line : (places mesh number : ℕ) (table : Table) (lines : List Line) → BeginsLong number lines →
    after_lines places mesh (Ok table) lines ≡ Err (LongLine number)
long_line places mesh number table [] long = absurd long
long_line places mesh number table (line ∷ lines) long =
    rw (lt-ltb 65536 (length line.text) long.1) (after_fault places mesh (LongLine line.number) lines ∙ ap (λ n. Err (LongLine n)) long.0)
