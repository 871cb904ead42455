-- A line of the program is one line.
use Rattle.std.proofs.Common.{◌≡◌, ℕ, Bool, true, false, if◌then◌else◌, List, [], ◌∷◌, ◌++◌, All, codes, refl, sym, append_assoc}
use Rattle.std.specs.Char.{is_ascii_control}
use Rattle.std.proofs.lemmas.List.Elements.{All-append, All-cons, All-nil}
use Rattle.mesh_texts.specs.Texts.{IsOneLine, line, visible, visible_byte}

-- a question mark is no control character, nor is a byte that is shown as it is
byte_is_visible : (byte : ℕ) (is_control : Bool) → is_ascii_control byte ≡ is_control →
    is_ascii_control (if is_control then 63 else byte) ≡ false
byte_is_visible byte true e = refl
byte_is_visible byte false e = e

text_is_visible : (text : List ℕ) → All (λ (byte : ℕ). is_ascii_control byte ≡ false) (visible text)
text_is_visible [] = All-nil (λ (byte : ℕ). is_ascii_control byte ≡ false)
text_is_visible (byte ∷ bytes) =
    All-cons (λ (byte : ℕ). is_ascii_control byte ≡ false) (visible_byte byte) (visible bytes)
    (byte_is_visible byte (is_ascii_control byte) refl) (text_is_visible bytes)

-- whatever its text is, a line has no control character but the line feed at its end
pub line_is_one : (text : List ℕ) → IsOneLine (line text)
line_is_one text =
    let head = codes "ember-mesh: " in
    record {
      said = head ++ visible text;
      is_said = sym (append_assoc head (visible text) (codes "\n"));
      is_visible =
          All-append (λ (byte : ℕ). is_ascii_control byte ≡ false) head (visible text) (text_is_visible head)
          (text_is_visible text);
    }
