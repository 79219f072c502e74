-- What a test for UTF-8 says.
use Rattle.std.proofs.Common.{◌≡◌, ℕ, List, Bool, true, false, refl}
use Rattle.std.specs.Str.{IsUtf8, is_utf8}
use Rattle.std.proofs.lemmas.Str.{IsUtf8-from_is_utf8}

failed : (b : Bool) → (b ≡ true → ⊥) → b ≡ false
failed true h = absurd (h refl)
failed false h = refl

pub not_utf8 : (bytes : List ℕ) → (IsUtf8 bytes → ⊥) → is_utf8 bytes ≡ false
not_utf8 bytes h = failed (is_utf8 bytes) (λ e. h (IsUtf8-from_is_utf8 bytes e))
