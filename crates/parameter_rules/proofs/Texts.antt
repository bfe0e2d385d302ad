-- Tests of bytes, as the definitions have them.
use Rattle.std.specs.Prelude.{◌≡◌, ◌↔◌, IsTrue, ℕ, Bool, true, false, List, [], ◌∷◌}
use Rattle.std.specs.Str.{IsUtf8, is_utf8}
use Rattle.std.proofs.Common.{refl, sym}
use Rattle.std.proofs.lemmas.Str.{IsUtf8-from_is_utf8, is_utf8-from_IsUtf8}
use Rattle.language_model.specs.Composites.{is_empty}

pub utf8_as : (bytes : List ℕ) → IsUtf8 bytes → is_utf8 bytes ≡ true
utf8_as bytes h = is_utf8-from_IsUtf8 bytes h

pub no_utf8_as : (bytes : List ℕ) → (IsUtf8 bytes → ⊥) → is_utf8 bytes ≡ false
no_utf8_as bytes h = by (is_utf8 bytes) refl
  where
    by : (b : Bool) → is_utf8 bytes ≡ b → b ≡ false
    by true e = absurd (h (IsUtf8-from_is_utf8 bytes e))
    by false e = refl

pub empty_as : (bytes : List ℕ) (b : Bool) → (IsTrue b ↔ (bytes ≡ [])) → is_empty bytes ≡ b
empty_as [] true h = refl
empty_as [] false h = sym (h.1 refl)
empty_as (x ∷ xs) true h = absurd (let e = h.0 refl in cc)
empty_as (x ∷ xs) false h = refl
