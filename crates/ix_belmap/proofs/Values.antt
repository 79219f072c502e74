-- Values of keys, property by property.
use Rattle.std.proofs.Common.{◌≡◌, refl, ap, sym, ◌∙◌, ℕ, zero, suc, ◌+◌, List, [], ◌∷◌, ◌++◌, take}
use Rattle.std.proofs.Common.{drop, length, slice_get, Option, Some, None, option_map}
use Rattle.std.proofs.Common.{option_and_then, Bool, true, false, cond, nat_eq, take-append-drop}
use Rattle.std.proofs.Common.{arith}
use Rattle.std.specs.List.{find}
use Rattle.std.proofs.lemmas.Option.{none-some}
use Rattle.ix_first.specs.First.{or_later}
use Rattle.ix_rec.specs.declared.netlist.Entry.{Entry}
use Rattle.ix_rec.specs.declared.netlist.PropertyValue.{PropertyValue}
use Rattle.ix_belmap.specs.Pins.{value_of_key}
use Rattle.ix_belmap.proofs.Lists.{take_more}

push : (key : ℕ) (xs : List Entry) (x : Entry)
    → option_map (λ e. e.value) (find (λ e. nat_eq e.key key) (xs ++ x ∷ [])) ≡ or_later
    (option_map (λ e. e.value) (find (λ e. nat_eq e.key key) xs)) (nat_eq x.key key) x.value
push key [] x = by (nat_eq x.key key)
  where
    by : (b : Bool) → option_map (λ e. e.value) (cond b (Some x) None) ≡ or_later None b x.value
    by true = refl
    by false = refl
push key (y ∷ ys) x = by (nat_eq y.key key) (push key ys x)
  where
    by : (b : Bool) → option_map (λ e. e.value)
        (find (λ e. nat_eq e.key key) (ys ++ x ∷ [])) ≡ or_later
        (option_map (λ e. e.value) (find (λ e. nat_eq e.key key) ys)) (nat_eq x.key key) x.value
        → option_map (λ e. e.value) (cond b (Some y) (find (λ e. nat_eq e.key key) (ys ++ x ∷ [])))
        ≡ or_later (option_map (λ e. e.value)
        (cond b (Some y) (find (λ e. nat_eq e.key key) ys))) (nat_eq x.key key) x.value
    by true h = refl
    by false h = h

pub value_next : (properties : List Entry) (i : ℕ) (e : Entry) (found : Option PropertyValue)
    (key : ℕ) → slice_get properties i ≡ Some e → found ≡ value_of_key (take i properties) key
    → or_later found (nat_eq e.key key) e.value ≡ value_of_key (take (i + 1) properties) key
unfolding value_of_key
value_next properties i e found key at is =
    ap (λ f. or_later f (nat_eq e.key key) e.value) is
    ∙ sym (ap (λ l. option_map (λ e. e.value) (find (λ e. nat_eq e.key key) l))
    (take_more properties i e at) ∙ push key (take i properties) e)

pub value_start : (key : ℕ) → value_of_key [] key ≡ None
unfolding value_of_key
value_start key = refl

pub take_end : {A : Type 0} (xs : List A) (n : ℕ) → n ≡ length xs → take n xs ≡ xs
take_end [] zero h = refl
take_end [] (suc n) h = refl
take_end (x ∷ xs) zero h = absurd (omega arith)
take_end (x ∷ xs) (suc n) h = ap (λ l. x ∷ l) (take_end xs n (omega arith))

find_push : {A : Type 0} (p : A → Bool) (xs : List A) (x : A) → find p xs ≡ None
    → find p (xs ++ x ∷ []) ≡ cond (p x) (Some x) None
find_push p [] x h = refl
find_push p (y ∷ ys) x h = by (p y) h (find_push p ys x)
  where
    by : (b : Bool) → cond b (Some y) (find p ys) ≡ None
        → (find p ys ≡ None → find p (ys ++ x ∷ []) ≡ cond (p x) (Some x) None)
        → cond b (Some y) (find p (ys ++ x ∷ [])) ≡ cond (p x) (Some x) None
    by true g rest = absurd (none-some y (sym g))
    by false g rest = rest g

pub find_next : {A : Type 0} (p : A → Bool) (xs : List A) (i : ℕ) (x : A) → slice_get xs i ≡ Some x
    → find p (take i xs) ≡ None → p x ≡ false → find p (take (i + 1) xs) ≡ None
find_next p xs i x at before fails = ap (find p) (take_more xs i x at)
    ∙ find_push p (take i xs) x before ∙ ap (λ b. cond b (Some x) None) fails

find_on : {A : Type 0} (p : A → Bool) (xs ys : List A) (x : A) → find p xs ≡ Some x
    → find p (xs ++ ys) ≡ Some x
find_on p [] ys x h = absurd (none-some x h)
find_on p (y ∷ xs) ys x h = by (p y) h (find_on p xs ys x)
  where
    by : (b : Bool) → cond b (Some y) (find p xs) ≡ Some x
        → (find p xs ≡ Some x → find p (xs ++ ys) ≡ Some x)
        → cond b (Some y) (find p (xs ++ ys)) ≡ Some x
    by true g rest = g
    by false g rest = rest g

pub find_here : {A : Type 0} (p : A → Bool) (xs : List A) (i : ℕ) (x : A) → slice_get xs i ≡ Some x
    → find p (take i xs) ≡ None → p x ≡ true → find p xs ≡ Some x
find_here p xs i x at before passes =
    ap (find p) (sym (take-append-drop (i + 1) xs))
    ∙ find_on p (take (i + 1) xs) (drop (i + 1) xs) x
    (ap (find p) (take_more xs i x at) ∙ find_push p (take i xs) x before
    ∙ ap (λ b. cond b (Some x) None) passes)

pub same_values : (f g : ℕ → Option PropertyValue) (o : Option ℕ) → ((k : ℕ) → f k ≡ g k)
    → option_and_then f o ≡ option_and_then g o
same_values f g None h = refl
same_values f g (Some k) h = h k
