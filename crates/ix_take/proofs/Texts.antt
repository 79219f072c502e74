-- The texts of a string table and their numbers.
use Rattle.std.proofs.Common.{◌≡◌, ◌<◌, ◌+◌, ◌∙◌, ℕ, zero, suc, arith, List, [], ◌∷◌, ◌++◌, length}
use Rattle.std.proofs.Common.{take, slice_get, refl, ap}
use Rattle.std.specs.Prelude.{Some}
use Rattle.std.proofs.lemmas.List.{take_more}
use Rattle.std.proofs.lemmas.Option.{slice_get_within, get_or_from_slice_get}
use Rattle.ix_device_read.specs.Loose.{with_names, AreNumbersOf}
use Rattle.ix_frame.specs.Sound.{sound_text_in}
use Rattle.ix_frame.specs.Target.{Elements}
use Rattle.ix_message.specs.Shape.{Text}
use Rattle.ix_schema.specs.Said.{texts_said}
use Rattle.ix_strings.specs.Names.{with_name, KeepsNumbers}

-- Names with more texts.

pub with_names_on : (names xs ys : List Text)
    → with_names names (xs ++ ys) ≡ with_names (with_names names xs) ys
with_names_on names [] ys = refl
with_names_on names (x ∷ xs) ys = with_names_on (with_name names x) xs ys

pub numbers_keep : (old new : List Text) → KeepsNumbers old new → (ids : List ℕ) (ts : List Text)
    → AreNumbersOf old ids ts → AreNumbersOf new ids ts
numbers_keep old new keeps [] [] h = tt
numbers_keep old new keeps [] (t ∷ ts) h = absurd h
numbers_keep old new keeps (id ∷ ids) [] h = absurd h
numbers_keep old new keeps (id ∷ ids) (t ∷ ts) h =
    (keeps id t h.0, numbers_keep old new keeps ids ts h.1)

pub numbers_push : (names : List Text) (ids : List ℕ) (ts : List Text) (id : ℕ) (t : Text)
    → AreNumbersOf names ids ts → slice_get names id ≡ Some t
    → AreNumbersOf names (ids ++ id ∷ []) (ts ++ t ∷ [])
numbers_push names [] [] id t h at = (at, tt)
numbers_push names [] (u ∷ us) id t h at = absurd h
numbers_push names (i ∷ is) [] id t h at = absurd h
numbers_push names (i ∷ is) (u ∷ us) id t h at = (h.0, numbers_push names is us id t h.1 at)

-- one more text of a list
pub taken_more : (ts : List Text) (i : ℕ) (t : Text) → slice_get ts i ≡ Some t
    → take (i + 1) ts ≡ take i ts ++ t ∷ []
taken_more ts i t at = take_more ts i t (slice_get_within ts i t at)
    ∙ ap (λ (x : Text). take i ts ++ x ∷ []) (get_or_from_slice_get ts i t t at)

text_on : (count : ℕ) (l : Elements) (j i : ℕ) → i < count
    → slice_get (texts_said count l j) i ≡ Some (sound_text_in l (j + i))
unfolding texts_said
text_on zero l j i lt = absurd (omega arith)
text_on (suc count) l j zero lt = let e : j ≡ j + 0 = omega arith in
    ap (λ (n : ℕ). Some (sound_text_in l n)) e
text_on (suc count) l j (suc i) lt = let e : j + 1 + i ≡ j + suc i = omega arith in
    text_on count l (j + 1) i (omega arith) ∙ ap (λ (n : ℕ). Some (sound_text_in l n)) e

pub text_said_at : (count : ℕ) (l : Elements) (i : ℕ) → i < count
    → slice_get (texts_said count l 0) i ≡ Some (sound_text_in l i)
text_said_at count l i lt = let e : 0 + i ≡ i = omega arith in
    text_on count l 0 i lt ∙ ap (λ (n : ℕ). Some (sound_text_in l n)) e

pub texts_length : (count : ℕ) (l : Elements) (i : ℕ) → length (texts_said count l i) ≡ count
unfolding texts_said
texts_length zero l i = refl
texts_length (suc count) l i = ap suc (texts_length count l (i + 1))
