-- Adding texts to the names, one after the other.
use Rattle.std.proofs.Common.{◌≡◌, ◌≤◌, ◌<◌, ◌+◌, ◌⊎◌, inl, inr, ℕ, Bool, true, false, ◌||◌, List, [], ◌∷◌, ◌++◌, length, take, drop, slice_get, Contains, refl, sym, ap, subst, ◌∙◌, arith, length-append, add-one, drop-cons}
use Rattle.std.specs.Prelude.{Some, Result, Ok, Err, IfOk, OnOk, OnErr, IsErr}
use Rattle.std.specs.List.{AllByRecursion, flat_map, list_any}
use Rattle.std.specs.Str.{bytes_eq}
use Rattle.std.proofs.lemmas.Grind.{flat_map-append}
use Rattle.std.proofs.lemmas.List.{append-nil, take-append-drop, take_more, take_all}
use Rattle.std.proofs.lemmas.List.Folds.{list_any-append}
use Rattle.std.proofs.lemmas.List.Sums.{sum_by-append}
use Rattle.std.proofs.lemmas.Option.{slice_get-get_or, slice_get_within, get_or_from_slice_get}
use Rattle.ix_num.specs.declared.fault.FrameFault.{FrameFault}
use Rattle.ix_rec.specs.declared.fault.ReadFault.{ReadFault}
use Rattle.ix_rec.specs.declared.fault.ReadFault.TheVariants.{Frame as BadFrame, Index, Memory as NoMemory}
use Rattle.ix_message.specs.Shape.{Text, Struct, Value}
use Rattle.ix_message_read.specs.Tells.{Fails}
use Rattle.ix_device_read.specs.Adding.{texts_in, AddsExactly}
use Rattle.ix_strings.specs.Names.{has_name, with_name, KeepsNumbers}
use Rattle.ix_strings.proofs.TableLemmas.{IsFound-number_of, with_name-known, with_name-new, length-with_name, KeepsNumbers-with_name}
use Rattle.ix_device_read.specs.Premises.{IsKnown}
use Rattle.ix_device_read.specs.Loose.{loose_texts, paid_text, reach, with_names, HasRoom, Grows, Knows, Adds, AreNumbersOf}

either : (b : Bool) → (b ≡ true) ⊎ (b ≡ false)
either true = inl refl
either false = inr refl

or_true : (b : Bool) → (b || true) ≡ true
or_true true = refl
or_true false = refl

-- a name stays one beside another
has_name-push : (names : List Text) (t u : Text) → has_name names u ≡ true → has_name (names ++ t ∷ []) u ≡ true
has_name-push names t u h = list_any-append (bytes_eq u) names (t ∷ []) ∙ ap (λ (b : Bool). b || list_any (bytes_eq u) (t ∷ [])) h

empty_pushed : (names : List Text) → has_name (names ++ [] ∷ []) [] ≡ true
empty_pushed names = list_any-append (bytes_eq []) names ([] ∷ []) ∙ or_true (list_any (bytes_eq []) names)

reach_known : (names : List Text) → has_name names [] ≡ true → reach names ≡ length names
reach_known names h = ap (λ (ns : List Text). length ns) (with_name-known names [] h)

reach_new : (names : List Text) → has_name names [] ≡ false → reach names ≡ length names + 1
reach_new names h = ap (λ (ns : List Text). length ns) (with_name-new names [] h) ∙ length-append names ([] ∷ [])

pub reach_most : (names : List Text) → (length names ≤ reach names) × (reach names ≤ length names + 1)
reach_most names = length-with_name names []

reach-push : (names : List Text) (t : Text) → reach (names ++ t ∷ []) ≤ reach names + 1
reach-push names t =
    let long : length (names ++ t ∷ []) ≡ length names + 1 = length-append names (t ∷ []) in
    let most = reach_most (names ++ t ∷ []) in
    elim (either (has_name names [])) [
      | inl known ↦
          let a = reach_known names known in
          let b = reach_known (names ++ t ∷ []) (has_name-push names t [] known) in
          omega arith
      | inr unknown ↦ let a = reach_new names unknown in omega arith
    ]

reach-push_empty : (names : List Text) → has_name names [] ≡ false → reach (names ++ [] ∷ []) ≤ reach names
reach-push_empty names unknown =
    let long : length (names ++ [] ∷ []) ≡ length names + 1 = length-append names ([] ∷ []) in
    let a = reach_new names unknown in
    let b = reach_known (names ++ [] ∷ []) (empty_pushed names) in
    omega arith

reach-with_name : (names : List Text) (t : Text) → reach (with_name names t) ≤ reach names + paid_text t
reach-with_name names [] = elim (either (has_name names [])) [
  | inl known ↦ subst (λ (ns : List Text). reach ns ≤ reach names + 0) (sym (with_name-known names [] known)) (omega arith)
  | inr unknown ↦ let e = with_name-new names [] unknown in let h = reach-push_empty names unknown in subst (λ (ns : List Text). reach ns ≤ reach names + 0) (sym e) (omega arith)
]
reach-with_name names (b ∷ bs) = elim (either (has_name names (b ∷ bs))) [
  | inl known ↦ subst (λ (ns : List Text). reach ns ≤ reach names + 1) (sym (with_name-known names (b ∷ bs) known)) (omega arith)
  | inr unknown ↦ subst (λ (ns : List Text). reach ns ≤ reach names + 1) (sym (with_name-new names (b ∷ bs) unknown)) (reach-push names (b ∷ bs))
]

-- A text is known where it stands under a number.
pub known_at : (names : List Text) (id : ℕ) (t : Text) → slice_get names id ≡ Some t → IsKnown names t
known_at names id t at = (IsFound-number_of names t).found.1 (id, slice_get_within names id t at, get_or_from_slice_get names id t t at)

known_keeps : (old new : List Text) → KeepsNumbers old new → (t : Text) → IsKnown old t → IsKnown new t
known_keeps old new keeps t h =
    let there : Contains old t = (IsFound-number_of old t).found.0 h in
    known_at new there.0 t (keeps there.0 t (slice_get-get_or old there.0 t there.1 ∙ ap (λ x. Some x) there.2))

all_keep : (old new : List Text) → KeepsNumbers old new → (ts : List Text) → AllByRecursion (IsKnown old) ts → AllByRecursion (IsKnown new) ts
all_keep old new keeps [] h = tt
all_keep old new keeps (t ∷ ts) h = (known_keeps old new keeps t h.0, all_keep old new keeps ts h.1)

all-append : (names xs ys : List Text) → AllByRecursion (IsKnown names) xs → AllByRecursion (IsKnown names) ys → AllByRecursion (IsKnown names) (xs ++ ys)
all-append names [] ys h k = k
all-append names (x ∷ xs) ys h k = (h.0, all-append names xs ys h.1 k)

-- Growing by texts.

pub grows_same : (ts names : List Text) → Grows ts names names
grows_same ts names = record { keeps = λ id t at. at; most = omega arith }

pub grows_on : (xs ys old now new : List Text) → Grows xs old now → Grows ys now new → Grows (xs ++ ys) old new
grows_on xs ys old now new h k = record {
  keeps = λ id t at. k.keeps id t (h.keeps id t at);
  most = omega (arith, h.most, k.most, sum_by-append paid_text xs ys);
}

with_names-append : (names xs ys : List Text) → with_names names (xs ++ ys) ≡ with_names (with_names names xs) ys
with_names-append names [] ys = refl
with_names-append names (x ∷ xs) ys = with_names-append (with_name names x) xs ys

pub knows_on : (xs ys old now new : List Text) → Knows xs old now → Knows ys now new → Knows (xs ++ ys) old new
knows_on xs ys old now new h k = record {
  exact = k.exact ∙ ap (λ (names : List Text). with_names names ys) h.exact ∙ sym (with_names-append old xs ys);
  grows = grows_on xs ys old now new h.grows k.grows;
  known = all-append new xs ys (all_keep now new k.grows.keeps xs h.known) k.known;
}

-- the first of two lists was added, and the other can't be
pub grows_front : (xs ys old now : List Text) → Grows xs old now → Grows (xs ++ ys) old now
grows_front xs ys old now h = grows_on xs ys old now now h (grows_same ys now)

pub knows_text : (names : List Text) (t : Text) (id : ℕ) (new : List Text) → new ≡ with_name names t → slice_get new id ≡ Some t → Knows (t ∷ []) names new
knows_text names t id new is at = record {
  exact = is;
  grows = record {
    keeps = subst (KeepsNumbers names) (sym is) (KeepsNumbers-with_name names t);
    most = let h = reach-with_name names t in subst (λ (ns : List Text). reach ns ≤ reach names + (0 + paid_text t)) (sym is) (omega arith);
  };
  known = (known_at new id t at, tt);
}

-- a text was added, or memory was wanting and the names are as before
pub adds_by : {E : Type 0} (r : Result ℕ E) (t : Text) (names new : List Text) → OnOk r (new ≡ with_name names t) → IfOk r (λ id. slice_get new id ≡ Some t) → OnErr r (new ≡ names) → Adds r (t ∷ []) names new
adds_by (Ok id) t names new is at same = knows_text names t id new is at
adds_by (Err e) t names new is at same = subst (Grows (t ∷ []) names) (sym same) (grows_same (t ∷ []) names)

-- memory was wanting
pub adds_some : {A E : Type 0} (r : Result A E) (ts old new : List Text) → IsErr r → Grows ts old new → Adds r ts old new
adds_some (Ok x) ts old new err h = absurd (cc)
adds_some (Err e) ts old new err h = h

-- one list was added, and the last of the others perhaps
pub adds_on : {A E : Type 0} (r : Result A E) (xs ys old now new : List Text) → Knows xs old now → Adds r ys now new → Adds r (xs ++ ys) old new
adds_on (Ok x) xs ys old now new h k = knows_on xs ys old now new h k
adds_on (Err e) xs ys old now new h k = grows_on xs ys old now new h.grows k

pub adds_last : {A E : Type 0} (r : Result A E) (ts old new : List Text) → Adds r ts old new → Adds r (ts ++ []) old new
adds_last r ts old new h = subst (λ (us : List Text). Adds r us old new) (sym (append-nil ts)) h

-- Room for texts.

pub room_first : (xs ys names : List Text) → HasRoom (xs ++ ys) names → HasRoom xs names
room_first xs ys names room = omega (arith, sum_by-append paid_text xs ys)

pub room_rest : (xs ys old now : List Text) → HasRoom (xs ++ ys) old → Grows xs old now → HasRoom ys now
room_rest xs ys old now room h = omega (arith, h.most, sum_by-append paid_text xs ys)

-- one more item of a list was taken
pub taken_more : {A : Type 0} (vs : List A) (i : ℕ) (v : A) → slice_get vs i ≡ Some v → take (i + 1) vs ≡ take i vs ++ v ∷ []
taken_more {A} vs i v at = take_more vs i v (slice_get_within vs i v at) ∙ ap (λ (x : A). take i vs ++ x ∷ []) (get_or_from_slice_get vs i v v at)

-- Going through a list whose items have some texts each.
module _ {A : Type 0} (f : A → List Text) (vs : List A) (old : List Text) where
  cut_at : (i : ℕ) (v : A) → slice_get vs i ≡ Some v → vs ≡ take i vs ++ v ∷ drop (i + 1) vs
  cut_at i v at =
      let lt : i < length vs = slice_get_within vs i v at in
      sym (take-append-drop i vs) ∙ ap (λ (rest : List A). take i vs ++ rest) (drop-cons vs i v lt ∙ rw (get_or_from_slice_get vs i v v at, add-one) refl)

  texts_at_cut : (i : ℕ) (v : A) → slice_get vs i ≡ Some v → flat_map f vs ≡ flat_map f (take i vs) ++ (f v ++ flat_map f (drop (i + 1) vs))
  texts_at_cut i v at = ap (flat_map f) (cut_at i v at) ∙ flat_map-append f (take i vs) (v ∷ drop (i + 1) vs)

  pub item_room : (i : ℕ) (v : A) (now : List Text) → slice_get vs i ≡ Some v → HasRoom (flat_map f vs) old → Knows (flat_map f (take i vs)) old now → HasRoom (f v) now
  item_room i v now at room h =
      room_first (f v) (flat_map f (drop (i + 1) vs)) now (room_rest (flat_map f (take i vs)) (f v ++ flat_map f (drop (i + 1) vs)) old now (subst (λ (ts : List Text). HasRoom ts old) (texts_at_cut i v at) room) h.grows)

  pub item_added : (i : ℕ) (v : A) (now new : List Text) → slice_get vs i ≡ Some v → Knows (flat_map f (take i vs)) old now → Knows (f v) now new → Knows (flat_map f (take (i + 1) vs)) old new
  item_added i v now new at h k =
      subst (λ (ts : List Text). Knows ts old new) (sym (ap (flat_map f) (taken_more vs i v at) ∙ flat_map-append f (take i vs) (v ∷ []) ∙ ap (λ (ts : List Text). flat_map f (take i vs) ++ ts) (append-nil (f v)))) (knows_on (flat_map f (take i vs)) (f v) old now new h k)

  pub item_stops : (i : ℕ) (v : A) (now new : List Text) → slice_get vs i ≡ Some v → Knows (flat_map f (take i vs)) old now → Grows (f v) now new → Grows (flat_map f vs) old new
  item_stops i v now new at h k =
      subst (λ (ts : List Text). Grows ts old new) (sym (texts_at_cut i v at)) (grows_on (flat_map f (take i vs)) (f v ++ flat_map f (drop (i + 1) vs)) old now new h.grows (grows_front (f v) (flat_map f (drop (i + 1) vs)) now new k))

  -- the first items were added, and memory is wanting
  pub front_added : (i : ℕ) (now : List Text) → Knows (flat_map f (take i vs)) old now → Grows (flat_map f vs) old now
  front_added i now h =
      subst (λ (ts : List Text). Grows ts old now) (sym (ap (flat_map f) (sym (take-append-drop i vs)) ∙ flat_map-append f (take i vs) (drop i vs))) (grows_front (flat_map f (take i vs)) (flat_map f (drop i vs)) old now h.grows)

  pub all_added : (i : ℕ) (now : List Text) → length vs ≤ i → Knows (flat_map f (take i vs)) old now → Knows (flat_map f vs) old now
  all_added i now le h = subst (λ (xs : List A). Knows (flat_map f xs) old now) (take_all i vs le) h

-- texts one by one
pub ones : (ts : List Text) → flat_map (λ t. t ∷ []) ts ≡ ts
ones [] = refl
ones (t ∷ ts) = ap (λ (us : List Text). t ∷ us) (ones ts)

-- Numbers of texts stay as the names grow.
pub numbers_keep : (old new : List Text) → KeepsNumbers old new → (ids : List ℕ) (ts : List Text) → AreNumbersOf old ids ts → AreNumbersOf new ids ts
numbers_keep old new keeps [] [] h = tt
numbers_keep old new keeps [] (t ∷ ts) h = absurd h
numbers_keep old new keeps (id ∷ ids) [] h = absurd h
numbers_keep old new keeps (id ∷ ids) (t ∷ ts) h = (keeps id t h.0, numbers_keep old new keeps ids ts h.1)

pub numbers-push : (names : List Text) (ids : List ℕ) (ts : List Text) (id : ℕ) (t : Text) → AreNumbersOf names ids ts → slice_get names id ≡ Some t → AreNumbersOf names (ids ++ id ∷ []) (ts ++ t ∷ [])
numbers-push names [] [] id t h at = (at, tt)
numbers-push names [] (u ∷ us) id t h at = absurd h
numbers-push names (i ∷ is) [] id t h at = absurd h
numbers-push names (i ∷ is) (u ∷ us) id t h at = (h.0, numbers-push names is us id t h.1 at)

-- What a whole reading adds.

pub none_added : (X : Type 0) (s : Struct) (e : ReadFault) (given : Result (List Text × Value ℕ s) FrameFault) (names : List Text) → Fails e given → AddsExactly {X = X} (Err e) (texts_in s given) names names
unfolding texts_in AddsExactly
none_added X s NoMemory given names h = tt
none_added X s (BadFrame f) given names h = rw h refl
none_added X s (Index p) given names h = absurd h

pub all_texts_added : {X : Type 0} (r : Result X ReadFault) (s : Struct) (table : List Text) (v : Value ℕ s) (given : Result (List Text × Value ℕ s) FrameFault) (old new : List Text)
    → given ≡ Ok (table, v) → Knows (table ++ loose_texts s v) old new → AddsExactly r (texts_in s given) old new
unfolding texts_in AddsExactly
all_texts_added (Ok x) s table v given old new is h = rw is h.exact
all_texts_added (Err NoMemory) s table v given old new is h = tt
all_texts_added (Err (BadFrame f)) s table v given old new is h = rw is h.exact
all_texts_added (Err (Index p)) s table v given old new is h = rw is h.exact
