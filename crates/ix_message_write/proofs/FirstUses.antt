-- A string table that a name is added to.
use Rattle.std.proofs.Common.{◌≡◌, ◌≢◌, ◌<◌, ◌≤◌, ◌+◌, ◌^◌, ℕ, Bool, true, false, cond, List, [], ◌∷◌, ◌++◌, map, length, set, get_or, refl, sym, ap, subst, ◌∙◌, arith, eq-eqb, inl, inr, ◌⊎◌, length-append, get_or-set_same, get_or-set_other}
use Rattle.std.specs.Prelude.{Some}
use Rattle.std.specs.List.{All}
use Rattle.std.proofs.lemmas.Bool.{cases_eq}
use Rattle.std.proofs.lemmas.List.{length-map, length-set, map_push, length_push}
use Rattle.std.proofs.lemmas.Option.{slice_get-get_or}
use Rattle.std.proofs.lemmas.List.Elements.{All-push}
use Rattle.ix_strings.specs.Names.{AllDiffer}
use Rattle.ix_message.specs.Shape.{Text}
use Rattle.ix_message.specs.Names.{same_text, has_text, with_text, first_uses, place_in}
use Rattle.ix_message.proofs.NamesAgain.{same_text-true}
use Rattle.ix_message_write.specs.declared.string_table.Strings.{Strings}
use Rattle.ix_message_write.specs.Says.{HasNoted}
use Rattle.ix_message_write.specs.Table.{name_text, table_in, place_and_one, IsTableOf}

same_text-refl : (t : Text) → same_text t t ≡ true
same_text-refl [] = refl
same_text-refl (x ∷ xs) = rw (eq-eqb x x refl) (same_text-refl xs)

-- a table with one more text at its end
has_more : (ys : List Text) (x t : Text) → same_text x t ≡ false → has_text (ys ++ x ∷ []) t ≡ has_text ys t
has_more [] x t e = rw e refl
has_more (y ∷ ys) x t e = ap (cond (same_text y t) true) (has_more ys x t e)

place_more : (ys : List Text) (x t : Text) → has_text ys t ≡ true → place_in (ys ++ x ∷ []) t ≡ place_in ys t
unfolding place_in
place_more [] x t e = absurd cc
place_more (y ∷ ys) x t e = go (same_text y t) e (λ h. place_more ys x t h)
  where
    go : (b : Bool) → cond b true (has_text ys t) ≡ true → (has_text ys t ≡ true → place_in (ys ++ x ∷ []) t ≡ place_in ys t)
        → cond b 0 (place_in (ys ++ x ∷ []) t + 1) ≡ cond b 0 (place_in ys t + 1)
    go true h later = refl
    go false h later = ap (λ (n : ℕ). n + 1) (later h)

pub placed_more : (ys : List Text) (x t : Text) → same_text x t ≡ false → place_and_one (ys ++ x ∷ []) t ≡ place_and_one ys t
placed_more ys x t e = ap (λ (b : Bool). cond b (place_in (ys ++ x ∷ []) t + 1) 0) (has_more ys x t e) ∙ go (has_text ys t) refl
  where
    go : (b : Bool) → has_text ys t ≡ b → cond b (place_in (ys ++ x ∷ []) t + 1) 0 ≡ cond b (place_in ys t + 1) 0
    go true h = ap (λ (n : ℕ). n + 1) (place_more ys x t h)
    go false h = refl

-- the place of a text that a table lacks, and that it gets
pub place_none : (ys : List Text) (t : Text) → has_text ys t ≡ false → place_in ys t ≡ length ys
unfolding place_in
place_none [] t e = refl
place_none (y ∷ ys) t e = go (same_text y t) e (λ h. place_none ys t h)
  where
    go : (b : Bool) → cond b true (has_text ys t) ≡ false → (has_text ys t ≡ false → place_in ys t ≡ length ys) → cond b 0 (place_in ys t + 1) ≡ length (y ∷ ys)
    go true h later = absurd cc
    go false h later = omega (arith, later h)

pub has_last : (ys : List Text) (t : Text) → has_text (ys ++ t ∷ []) t ≡ true
has_last [] t = rw same_text-refl refl
has_last (y ∷ ys) t = go (same_text y t) (has_last ys t)
  where
    go : (b : Bool) → has_text (ys ++ t ∷ []) t ≡ true → cond b true (has_text (ys ++ t ∷ []) t) ≡ true
    go true later = refl
    go false later = later

place_last : (ys : List Text) (t : Text) → has_text ys t ≡ false → place_in (ys ++ t ∷ []) t ≡ length ys
unfolding place_in
place_last [] t e = rw same_text-refl refl
place_last (y ∷ ys) t e = go (same_text y t) e (λ h. place_last ys t h)
  where
    go : (b : Bool) → cond b true (has_text ys t) ≡ false → (has_text ys t ≡ false → place_in (ys ++ t ∷ []) t ≡ length ys) → cond b 0 (place_in (ys ++ t ∷ []) t + 1) ≡ length (y ∷ ys)
    go true h later = absurd cc
    go false h later = omega (arith, later h)

pub placed_last : (ys : List Text) (t : Text) → has_text ys t ≡ false → place_and_one (ys ++ t ∷ []) t ≡ length ys + 1
placed_last ys t e = ap (λ (b : Bool). cond b (place_in (ys ++ t ∷ []) t + 1) 0) (has_last ys t) ∙ ap (λ (n : ℕ). n + 1) (place_last ys t e)

-- whether a table has a text, by its place
pub has_by_place : (ys : List Text) (t : Text) → place_and_one ys t ≢ 0 → has_text ys t ≡ true
has_by_place ys t some = go (has_text ys t) refl
  where
    go : (b : Bool) → has_text ys t ≡ b → has_text ys t ≡ true
    go true e = e
    go false e = absurd (some (ap (λ (b : Bool). cond b (place_in ys t + 1) 0) e))

pub lacks_by_place : (ys : List Text) (t : Text) → place_and_one ys t ≡ 0 → has_text ys t ≡ false
lacks_by_place ys t none = go (has_text ys t) refl
  where
    go : (b : Bool) → has_text ys t ≡ b → has_text ys t ≡ false
    go false e = e
    go true e = absurd (let one : place_in ys t + 1 ≡ 0 = sym (ap (λ (b : Bool). cond b (place_in ys t + 1) 0) e) ∙ none in omega arith)

pub with_text_old : (ys : List Text) (t : Text) → has_text ys t ≡ true → first_uses ys (t ∷ []) ≡ ys
unfolding first_uses
with_text_old ys t e = ap (λ (b : Bool). cond b ys (ys ++ t ∷ [])) e

pub with_text_new : (ys : List Text) (t : Text) → has_text ys t ≡ false → first_uses ys (t ∷ []) ≡ ys ++ t ∷ []
unfolding first_uses
with_text_new ys t e = ap (λ (b : Bool). cond b ys (ys ++ t ∷ [])) e

-- names that aren't alike
pub other_text : (names : List Text) (i j : ℕ) → AllDiffer names → i < length names → j < length names → i ≢ j → same_text (name_text names i) (name_text names j) ≡ false
other_text names i j differ li lj ne = go (same_text (name_text names i) (name_text names j)) refl
  where
    go : (b : Bool) → same_text (name_text names i) (name_text names j) ≡ b → same_text (name_text names i) (name_text names j) ≡ false
    go false e = e
    go true e = absurd (ne (differ i j (name_text names i) (slice_get-get_or names i [] li) (slice_get-get_or names j [] lj ∙ ap Some (sym (same_text-true (name_text names i) (name_text names j) e)))))

-- first uses, list by list
pub first_uses-append : (before xs ys : List Text) → first_uses before (xs ++ ys) ≡ first_uses (first_uses before xs) ys
unfolding first_uses
first_uses-append before [] ys = refl
first_uses-append before (x ∷ xs) ys = first_uses-append (with_text before x) xs ys

longer : (before : List Text) (t : Text) → length before ≤ length (with_text before t)
longer before t = go (has_text before t)
  where
    go : (b : Bool) → length before ≤ length (cond b before (before ++ t ∷ []))
    go true = omega arith
    go false = omega (arith, length-append before (t ∷ []))

pub first_uses-longer : (before ts : List Text) → length before ≤ length (first_uses before ts)
unfolding first_uses
first_uses-longer before [] = omega arith
first_uses-longer before (t ∷ ts) = omega (arith, longer before t, first_uses-longer (with_text before t) ts)

-- ---- a name is noted

pub noted_before : (names : List Text) (s : Strings) (id : ℕ) → IsTableOf names s → id < length names → get_or s.places.items id 0 ≢ 0
    → HasNoted names s s (name_text names id ∷ [])
noted_before names s id table lt some =
    let table_now = table_in names s in
    let t = name_text names id in
    let placed : get_or s.places.items id 0 ≡ place_and_one table_now t = table.placed id lt in
    let has : has_text table_now t ≡ true = has_by_place table_now t (λ e. some (placed ∙ e)) in
    record { texts = sym (with_text_old table_now t has); table = table }

pub noted_full : (names : List Text) (s : Strings) (id : ℕ) → 2 ^ 27 ≤ length s.used.items → 2 ^ 27 ≤ length (first_uses (table_in names s) (name_text names id ∷ []))
noted_full names s id full =
    let table = table_in names s in
    omega (arith, first_uses-longer table (name_text names id ∷ []), length-map s.used.items (name_text names))

-- each name's place, once the name with this number has the last one
placed_at : (names now : List Text) (places : List ℕ) (id n k : ℕ) → AllDiffer names → id < length names → id < length places → k < length names → has_text now (name_text names id) ≡ false
    → n ≡ length now + 1 → get_or places k 0 ≡ place_and_one now (name_text names k) → (k ≡ id) ⊎ (k ≢ id)
    → get_or (set places id n) k 0 ≡ place_and_one (now ++ name_text names id ∷ []) (name_text names k)
placed_at names now places id n k differ lt there below lacks count before (inl e) =
    let t = name_text names id in
    let here : get_or (set places id n) id 0 ≡ n = get_or-set_same places id n 0 there in
    subst (λ (j : ℕ). get_or (set places id n) j 0 ≡ place_and_one (now ++ t ∷ []) (name_text names j)) (sym e) (here ∙ count ∙ sym (placed_last now t lacks))
placed_at names now places id n k differ lt there below lacks count before (inr ne) =
    let t = name_text names id in
    get_or-set_other places id k n 0 ne ∙ before ∙ sym (placed_more now t (name_text names k) (other_text names id k differ lt below (λ e. ne (sym e))))

pub noted_now : (names : List Text) (s s' : Strings) (id : ℕ) → IsTableOf names s → id < length names → get_or s.places.items id 0 ≡ 0 → length s.used.items < 2 ^ 27
    → s'.used.items ≡ s.used.items ++ id ∷ [] → s'.places.items ≡ set s.places.items id (length s'.used.items) → HasNoted names s s' (name_text names id ∷ [])
noted_now names s s' id table lt none few used places =
    let now = table_in names s in
    let t = name_text names id in
    let n = length s'.used.items in
    let lacks : has_text now t ≡ false = lacks_by_place now t (sym (table.placed id lt) ∙ none) in
    let after : table_in names s' ≡ now ++ t ∷ [] = ap (map (name_text names)) used ∙ map_push (name_text names) s.used.items id in
    let count : n ≡ length s.used.items + 1 = ap length used ∙ length_push s.used.items id in
    let count_now : length now ≡ length s.used.items = length-map s.used.items (name_text names) in
    let there : id < length s.places.items = omega (arith, table.long) in
    let all : (k : ℕ) → k < length names → get_or s'.places.items k 0 ≡ place_and_one (table_in names s') (name_text names k) = λ k below.
    ap (λ (ps : List ℕ). get_or ps k 0) places
    ∙ placed_at names now s.places.items id n k table.differ lt there below lacks (omega (arith, count, count_now)) (table.placed k below) (cases_eq k id)
    ∙ ap (λ (ts : List Text). place_and_one ts (name_text names k)) (sym after) in
    record {
      texts = after ∙ sym (with_text_new now t lacks);
      table = record {
        differ = table.differ;
        long = ap length places ∙ length-set s.places.items id n ∙ table.long;
        placed = all;
        used = subst (λ (us : List ℕ). All (λ (k : ℕ). k < length names) us) (sym used) (All-push (λ (k : ℕ). k < length names) s.used.items id table.used lt);
        few = omega (arith, count);
      };
    }
