-- Finishing the structs of a list one after the other, as a loop does that has finished some and goes on with the rest.
use Rattle.std.proofs.Common.{◌≡◌, ℕ, ◌+◌, ◌<◌, ◌≤◌, List, [], ◌∷◌, ◌++◌, length, drop, slice_index, Result, Ok, Err, refl, sym, ap, ◌∙◌, append_assoc, add-one, drop-cons, arith}
use Rattle.std.proofs.lemmas.List.{append-nil, drop_all}
use Rattle.ix_frame.specs.Result.{◌>>=◌}
use Rattle.ix_device_read.specs.declared.stop.Stop.{Stop}
use Rattle.ix_device_read.specs.declared.stop.Stop.TheVariants.{OutOfList, Unnamed, Memory}
use Rattle.ix_device_read.specs.Finish.{Stopped, bad, unnamed, finish_each, each_alone}
use Rattle.ix_device_read.specs.Views.{Stops, kind_word, field_word}

-- what was finished before, and what is still finished
abbrev pub behind_front : {B : Type 0} → List B → Result (List B × List ℕ) Stopped → Result (List B × List ℕ) Stopped
behind_front front rest = rest >>= λ x. Ok (front ++ x.0, x.1)

regroup : {B : Type 0} (front : List B) (n : B) (rest : Result (List B × List ℕ) Stopped) → behind_front front (rest >>= λ x. Ok (n ∷ x.0, x.1)) ≡ behind_front (front ++ n ∷ []) rest
regroup {B} front n (Ok x) = ap (λ (ns : List B). Ok (ns, x.1)) (simp append_assoc)
regroup front n (Err f) = refl

-- one more was finished
pub one_more : {A B : Type 0} (finish : A → List ℕ → Result (B × List ℕ) Stopped) (front : List B) (x : A) (xs all : List A) (counts : List ℕ) (y : B) (after : List ℕ) (total : Result (List B × List ℕ) Stopped)
    → all ≡ x ∷ xs → finish x counts ≡ Ok (y, after) → behind_front front (finish_each finish all counts) ≡ total
    → behind_front (front ++ y ∷ []) (finish_each finish xs after) ≡ total
unfolding finish_each
one_more finish front x xs all counts y after total is h so_far =
    let one : behind_front front (finish_each finish all counts) ≡ behind_front (front ++ y ∷ []) (finish_each finish xs after) = rw (is, h) (regroup front y (finish_each finish xs after)) in
    sym one ∙ so_far

-- what stops one thing stops the whole
pub stops_on : {Y Z : Type 0} (e : Stop) (given : Result Y Stopped) (total : Result Z Stopped) → Stops e given → ((f : Stopped) → given ≡ Err f → total ≡ Err f) → Stops e total
stops_on Memory given total h on = tt
stops_on Unnamed given total h on = on unnamed h
stops_on (OutOfList kind field i) given total h on = on (bad (record { kind = kind_word kind; field = field_word kind field; index = i })) h

err_first : {X Y : Type 0} (f : Stopped) (given : Result X Stopped) (next : X → Result Y Stopped) → given ≡ Err f → given >>= next ≡ Err f
err_first f given next at = rw at refl

-- what stops a step stops the steps that begin with it
pub stops_first : {X Y : Type 0} (e : Stop) (given : Result X Stopped) (next : X → Result Y Stopped) → Stops e given → Stops e (given >>= next)
stops_first e given next h = stops_on e given (given >>= next) h (λ f at. err_first f given next at)

-- one can't be finished, so the list can't
each_stops : {A B : Type 0} (f : Stopped) (finish : A → List ℕ → Result (B × List ℕ) Stopped) (front : List B) (x : A) (xs all : List A) (counts : List ℕ) (total : Result (List B × List ℕ) Stopped)
    → all ≡ x ∷ xs → finish x counts ≡ Err f → behind_front front (finish_each finish all counts) ≡ total → total ≡ Err f
unfolding finish_each
each_stops f finish front x xs all counts total is h so_far =
    let one : behind_front front (finish_each finish all counts) ≡ Err f = rw (is, h) refl in
    sym so_far ∙ one

pub one_stops : {A B : Type 0} (e : Stop) (finish : A → List ℕ → Result (B × List ℕ) Stopped) (front : List B) (x : A) (xs all : List A) (counts : List ℕ) (total : Result (List B × List ℕ) Stopped)
    → all ≡ x ∷ xs → Stops e (finish x counts) → behind_front front (finish_each finish all counts) ≡ total → Stops e total
one_stops e finish front x xs all counts total is h so_far =
    stops_on e (finish x counts) total h (λ f at. each_stops f finish front x xs all counts total is at so_far)

-- all were finished
pub all_done : {A B : Type 0} (finish : A → List ℕ → Result (B × List ℕ) Stopped) (front : List B) (all : List A) (counts : List ℕ) (total : Result (List B × List ℕ) Stopped)
    → all ≡ [] → behind_front front (finish_each finish all counts) ≡ total → total ≡ Ok (front, counts)
unfolding finish_each
all_done {A} {B} finish front all counts total is so_far =
    let one : behind_front front (finish_each finish all counts) ≡ Ok (front, counts) = rw is (ap (λ (ns : List B). Ok (ns, counts)) (append-nil front)) in
    sym so_far ∙ one

-- what an iterator over a list has left
pub nothing_left : {A : Type 0} (all : List A) (n : ℕ) → n ≡ 0 → n ≡ length all → all ≡ []
nothing_left [] n none is = refl
nothing_left (x ∷ xs) n none is = absurd (omega (arith, none, is))

-- The same of the items of a list of numbers or texts.
abbrev pub behind_some : {B : Type 0} → List B → Result (List B) Stopped → Result (List B) Stopped
behind_some front rest = rest >>= λ x. Ok (front ++ x)

regroup_some : {B : Type 0} (front : List B) (n : B) (rest : Result (List B) Stopped) → behind_some front (rest >>= λ x. Ok (n ∷ x)) ≡ behind_some (front ++ n ∷ []) rest
regroup_some {B} front n (Ok x) = ap Ok (simp append_assoc)
regroup_some front n (Err f) = refl

-- the numbers from the i-th on
pub numbers_from : (xs : List ℕ) (i n : ℕ) → i < length xs → n ≡ slice_index xs i → drop i xs ≡ n ∷ drop (i + 1) xs
numbers_from xs i n lt at = drop-cons xs i 0 lt ∙ rw (at, add-one) refl

-- past the end there are none
pub no_items : {A : Type 0} (xs : List A) (i : ℕ) → length xs ≤ i → drop i xs ≡ []
no_items xs i le = drop_all i xs le

pub alone_more : {A B : Type 0} (ask : A → Result B Stopped) (front : List B) (x : A) (xs all : List A) (y : B) (total : Result (List B) Stopped)
    → all ≡ x ∷ xs → ask x ≡ Ok y → behind_some front (each_alone ask all) ≡ total → behind_some (front ++ y ∷ []) (each_alone ask xs) ≡ total
unfolding each_alone
alone_more ask front x xs all y total is h so_far =
    let one : behind_some front (each_alone ask all) ≡ behind_some (front ++ y ∷ []) (each_alone ask xs) = rw (is, h) (regroup_some front y (each_alone ask xs)) in
    sym one ∙ so_far

alone_fails : {A B : Type 0} (f : Stopped) (ask : A → Result B Stopped) (front : List B) (x : A) (xs all : List A) (total : Result (List B) Stopped)
    → all ≡ x ∷ xs → ask x ≡ Err f → behind_some front (each_alone ask all) ≡ total → total ≡ Err f
unfolding each_alone
alone_fails f ask front x xs all total is h so_far =
    let one : behind_some front (each_alone ask all) ≡ Err f = rw (is, h) refl in
    sym so_far ∙ one

pub alone_stops : {A B : Type 0} (e : Stop) (ask : A → Result B Stopped) (front : List B) (x : A) (xs all : List A) (total : Result (List B) Stopped)
    → all ≡ x ∷ xs → Stops e (ask x) → behind_some front (each_alone ask all) ≡ total → Stops e total
alone_stops e ask front x xs all total is h so_far =
    stops_on e (ask x) total h (λ f at. alone_fails f ask front x xs all total is at so_far)

pub alone_done : {A B : Type 0} (ask : A → Result B Stopped) (front : List B) (all : List A) (total : Result (List B) Stopped)
    → all ≡ [] → behind_some front (each_alone ask all) ≡ total → total ≡ Ok front
unfolding each_alone
alone_done ask front all total is so_far =
    let one : behind_some front (each_alone ask all) ≡ Ok front = rw is (ap Ok (append-nil front)) in
    sym so_far ∙ one
