-- Corners and lines that are put in front of others.
use Rattle.std.proofs.Common.{◌≡◌, ℕ, true, ◌<◌, ◌-◌, List, [], ◌∷◌, ◌++◌, length, refl, sym, ap, append_assoc, length-append, arith, Result, Ok, Err}
use Rattle.std.proofs.lemmas.List.{append-nil}
use Rattle.ember_model.specs.declared.point.Corner.{Corner}
use Rattle.ember_obj.specs.declared.fault.ObjFault.{ObjFault}
use Rattle.ember_obj.specs.Lines.{Line, joined_to, BeginsLong, is_continued}
use Rattle.ember_obj.specs.References.{in_front, fan, fan_round}

-- putting one list in front, and then another, is putting both in front
pub in_front_twice : (xs ys : List Corner) (rest : Result (List Corner) ObjFault) → in_front xs (in_front ys rest) ≡ in_front (xs ++ ys) rest
in_front_twice xs ys (Err fault) = refl
in_front_twice xs ys (Ok more) = ap (λ zs. Ok zs) (sym (append_assoc xs ys more))

-- a text that is put before a joined line, and then another before it, are put together
pub joined_twice : (number next : ℕ) (xs ys : List ℕ) (lines : List Line) → joined_to number xs (joined_to next ys lines) ≡ joined_to number (xs ++ ys) lines
joined_twice number next xs ys [] = refl
joined_twice number next xs ys (line ∷ lines) = ap (λ zs. (record { number = number; text = zs }) ∷ lines) (sym (append_assoc xs ys line.text))

-- a joined line is as long as its beginning at least
pub begins_long : (number : ℕ) (text : List ℕ) (lines : List Line) → 65536 < length text → BeginsLong number (joined_to number text lines)
begins_long number text [] long = (refl, long)
begins_long number text (line ∷ lines) long = (refl, omega (arith, length-append text line.text))

-- corners in front of none
pub nothing_behind : (xs : List Corner) → in_front xs (Ok []) ≡ Ok xs
nothing_behind xs = ap (λ ys. Ok ys) (append-nil xs)

-- a face has two triangles fewer than corners
length_fan_round : (mesh : ℕ) (first : Corner) (others : List Corner) → length (fan_round mesh first others) ≡ length others - 1
length_fan_round mesh first [] = refl
length_fan_round mesh first (p ∷ []) = refl
length_fan_round mesh first (p ∷ q ∷ more) = omega (arith, length_fan_round mesh first (q ∷ more))

-- a fan has two triangles fewer than the face has corners
pub length_fan : (mesh : ℕ) (corners : List Corner) → length (fan mesh corners) ≡ length corners - 2
length_fan mesh [] = refl
length_fan mesh (first ∷ others) = omega (arith, length_fan_round mesh first others)

-- a physical line that is continued has a byte, the backslash
pub continued_has_byte : (line : List ℕ) → is_continued line ≡ true → 0 < length line
continued_has_byte [] h = cc
continued_has_byte (b ∷ bs) h = omega arith
