-- What is said in the lists of a struct, one after the other.
use Rattle.std.proofs.Common.{◌≡◌, ℕ, zero, suc, ◌+◌, ◌-◌, ◌<◌, ◌≤◌, [], ◌∷◌, length, slice_get, refl, ap, ◌∙◌, arith}
use Rattle.std.specs.Prelude.{Some}
use Rattle.ix_frame.specs.Objects.{element_of}
use Rattle.ix_frame.specs.Sound.{sound_elements, sound_text_in}
use Rattle.ix_frame.specs.Target.{Object, Elements}
use Rattle.ix_message.specs.Device.{tile_type, site_type_in_tile_type}
use Rattle.ix_device_read.specs.Sizes.{site_type_count}
use Rattle.ix_schema.specs.Said.{each_said, texts_said, said}

-- the i-th struct of a list, and those after it
pub said_next : {A : Type 0} (say : Object → A) (count : ℕ) (l : Elements) (i : ℕ) → i < count → each_said say (count - i) l i ≡ say (element_of l i) ∷ each_said say (count - (i + 1)) l (i + 1)
unfolding each_said
said_next say count l i lt = let k : count - i ≡ suc (count - (i + 1)) = omega arith in rw k refl

pub said_no_more : {A : Type 0} (say : Object → A) (count : ℕ) (l : Elements) (i : ℕ) → count ≤ i → each_said say (count - i) l i ≡ []
unfolding each_said
said_no_more say count l i le = let k : count - i ≡ 0 = omega arith in rw k refl

pub said_length : {A : Type 0} (say : Object → A) (count : ℕ) (l : Elements) (i : ℕ) → length (each_said say count l i) ≡ count
unfolding each_said
said_length say zero l i = refl
said_length say (suc count) l i = let rest : length (each_said say count l (i + 1)) ≡ count = said_length say count l (i + 1) in omega arith

-- the i-th text of a list, and those after it
pub text_next : (count : ℕ) (l : Elements) (i : ℕ) → i < count → texts_said (count - i) l i ≡ sound_text_in l i ∷ texts_said (count - (i + 1)) l (i + 1)
unfolding texts_said
text_next count l i lt = let k : count - i ≡ suc (count - (i + 1)) = omega arith in rw k refl

pub no_text : (count : ℕ) (l : Elements) (i : ℕ) → count ≤ i → texts_said (count - i) l i ≡ []
unfolding texts_said
no_text count l i le = let k : count - i ≡ 0 = omega arith in rw k refl

-- how many types the sites of a tile type have
pub types_of_sites : (o : Object) → site_type_count (said tile_type o) ≡ (sound_elements o 0).count
unfolding said
types_of_sites o = said_length (said site_type_in_tile_type) (sound_elements o 0).count (sound_elements o 0) 0

said_on : {A : Type 0} (say : Object → A) (count : ℕ) (l : Elements) (j i : ℕ) → i < count → slice_get (each_said say count l j) i ≡ Some (say (element_of l (j + i)))
unfolding each_said
said_on say zero l j i lt = absurd (omega arith)
said_on say (suc count) l j zero lt = let e : j ≡ j + 0 = omega arith in ap (λ (n : ℕ). Some (say (element_of l n))) e
said_on say (suc count) l j (suc i) lt = let e : j + 1 + i ≡ j + suc i = omega arith in said_on say count l (j + 1) i (omega arith) ∙ ap (λ (n : ℕ). Some (say (element_of l n))) e

text_on : (count : ℕ) (l : Elements) (j i : ℕ) → i < count → slice_get (texts_said count l j) i ≡ Some (sound_text_in l (j + i))
unfolding texts_said
text_on zero l j i lt = absurd (omega arith)
text_on (suc count) l j zero lt = let e : j ≡ j + 0 = omega arith in ap (λ (n : ℕ). Some (sound_text_in l n)) e
text_on (suc count) l j (suc i) lt = let e : j + 1 + i ≡ j + suc i = omega arith in text_on count l (j + 1) i (omega arith) ∙ ap (λ (n : ℕ). Some (sound_text_in l n)) e

-- what stands at a place of a list of structs, and of a list of texts
pub said_at : {A : Type 0} (say : Object → A) (count : ℕ) (l : Elements) (i : ℕ) → i < count → slice_get (each_said say count l 0) i ≡ Some (say (element_of l i))
said_at say count l i lt = let e : 0 + i ≡ i = omega arith in said_on say count l 0 i lt ∙ ap (λ (n : ℕ). Some (say (element_of l n))) e

pub text_said_at : (count : ℕ) (l : Elements) (i : ℕ) → i < count → slice_get (texts_said count l 0) i ≡ Some (sound_text_in l i)
text_said_at count l i lt = let e : 0 + i ≡ i = omega arith in text_on count l 0 i lt ∙ ap (λ (n : ℕ). Some (sound_text_in l n)) e

pub texts_length : (count : ℕ) (l : Elements) (i : ℕ) → length (texts_said count l i) ≡ count
unfolding texts_said
texts_length zero l i = refl
texts_length (suc count) l i = let rest : length (texts_said count l (i + 1)) ≡ count = texts_length count l (i + 1) in omega arith
