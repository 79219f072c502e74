-- The first bad field among the steps of a reading, by one walk over them that keeps a count for each kind of struct,
-- as the code does.
use Rattle.std.proofs.Common.{◌≡◌, ℕ, List, [], ◌∷◌, ◌++◌, map, true, false, Option, Some, None, Result, Ok, refl}
use Rattle.std.specs.Prelude.{codes}
use Rattle.std.specs.List.{flat_map, AllByRecursion}
use Rattle.ix_frame.specs.Result.{◌>>=◌}
use Rattle.ix_message.specs.Indexes.{Step, Item, begun, asked as step_asked, option_steps}
use Rattle.ix_message.specs.Names.{option_with}
use Rattle.ix_message.specs.Records.{IfThere}
use Rattle.ix_device_read.specs.Finish.{Stopped, begin, place_of, device_kinds, field_at, finish_each, finish_option}
use Rattle.ix_device_read.specs.Sizes.{finished_as}

-- the first bad field among the steps
unfoldable pub first_from : List ℕ → List Step → Option Item
first_from counts [] = None
first_from counts (begun kind ∷ rest) = first_from (begin kind counts) rest
first_from counts (step_asked kind called true ∷ rest) = first_from counts rest
first_from counts (step_asked kind called false ∷ rest) = Some (field_at counts (place_of device_kinds kind) (codes kind) (codes called))

-- the counts once all of them are done
unfoldable pub counts_after : List ℕ → List Step → List ℕ
counts_after counts [] = counts
counts_after counts (begun kind ∷ rest) = counts_after (begin kind counts) rest
counts_after counts (step_asked kind called fit ∷ rest) = counts_after counts rest

abbrev pub or_else : Option Item → Option Item → Option Item
or_else None other = other
or_else (Some item) other = Some item

first-append : (counts : List ℕ) (xs ys : List Step) → first_from counts (xs ++ ys) ≡ or_else (first_from counts xs) (first_from (counts_after counts xs) ys)
unfolding first_from counts_after
first-append counts [] ys = refl
first-append counts (begun kind ∷ xs) ys = first-append (begin kind counts) xs ys
first-append counts (step_asked kind called true ∷ xs) ys = first-append counts xs ys
first-append counts (step_asked kind called false ∷ xs) ys = refl

counts-append : (counts : List ℕ) (xs ys : List Step) → counts_after counts (xs ++ ys) ≡ counts_after (counts_after counts xs) ys
unfolding counts_after
counts-append counts [] ys = refl
counts-append counts (begun kind ∷ xs) ys = counts-append (begin kind counts) xs ys
counts-append counts (step_asked kind called fit ∷ xs) ys = counts-append counts xs ys

-- ---- one step of finishing after another

pub made_of : {A B : Type 0} (o : Option Item) (x : A) (f : A → B) → (finished_as o x >>= λ y. Ok (f y)) ≡ finished_as o (f x)
made_of None x f = refl
made_of (Some item) x f = refl

joined : {A B C : Type 0} (one two : Option Item) (p : A) (q : B) (f : A → B → C) (a : Result A Stopped) (b : A → Result B Stopped)
    → a ≡ finished_as one p → b p ≡ finished_as two q → (a >>= λ x. b x >>= λ y. Ok (f x y)) ≡ finished_as (or_else one two) (f p q)
joined None two p q f a b h k = rw h (rw k (made_of two q (f p)))
joined (Some item) two p q f a b h k = rw h refl

-- Two parts of a struct, of which the first counts structs too, or only asks.
abbrev pub counted_then : {A R C : Type 0} → (A → R → C) → Result (A × List ℕ) Stopped → (List ℕ → Result (R × List ℕ) Stopped) → Result (C × List ℕ) Stopped
counted_then join a b = a >>= λ x. b x.1 >>= λ y. Ok (join x.0 y.0, y.1)

abbrev pub asked_then : {A R C : Type 0} → (A → R → C) → Result A Stopped → Result (R × List ℕ) Stopped → Result (C × List ℕ) Stopped
asked_then join a b = a >>= λ x. b >>= λ y. Ok (join x y.0, y.1)

pub and_rest : {A R C : Type 0} (counts : List ℕ) (xs ys : List Step) (p : A) (r : R) (join : A → R → C) (a : Result (A × List ℕ) Stopped) (b : List ℕ → Result (R × List ℕ) Stopped)
    → a ≡ finished_as (first_from counts xs) (p, counts_after counts xs)
    → b (counts_after counts xs) ≡ finished_as (first_from (counts_after counts xs) ys) (r, counts_after (counts_after counts xs) ys)
    → counted_then join a b ≡ finished_as (first_from counts (xs ++ ys)) (join p r, counts_after counts (xs ++ ys))
and_rest counts xs ys p r join a b h k =
    rw (first-append counts xs ys, counts-append counts xs ys)
    (joined (first_from counts xs) (first_from (counts_after counts xs) ys) (p, counts_after counts xs) (r, counts_after (counts_after counts xs) ys) (λ x y. (join x.0 y.0, y.1)) a (λ x. b x.1) h k)

pub asked_and_rest : {A R C : Type 0} (counts : List ℕ) (xs ys : List Step) (p : A) (r : R) (join : A → R → C) (a : Result A Stopped) (b : Result (R × List ℕ) Stopped)
    → counts_after counts xs ≡ counts
    → a ≡ finished_as (first_from counts xs) p
    → b ≡ finished_as (first_from counts ys) (r, counts_after counts ys)
    → asked_then join a b ≡ finished_as (first_from counts (xs ++ ys)) (join p r, counts_after counts (xs ++ ys))
asked_and_rest counts xs ys p r join a b same h k =
    rw (first-append counts xs ys, counts-append counts xs ys, same)
    (joined (first_from counts xs) (first_from counts ys) p (r, counts_after counts ys) (λ x y. (join x y.0, y.1)) a (λ x. b) h k)

-- ---- structs of a list, and one that may be missing

-- a struct's own steps
abbrev pub Finishes : {A B : Type 0} → (A → List ℕ → Result (B × List ℕ) Stopped) → (A → List Step) → (A → B) → A → Type 0
Finishes finish steps made x = (counts : List ℕ) → finish x counts ≡ finished_as (first_from counts (steps x)) (made x, counts_after counts (steps x))

pub each_finished : {A B : Type 0} (P : A → Type 0) (finish : A → List ℕ → Result (B × List ℕ) Stopped) (steps : A → List Step) (made : A → B)
    → ((x : A) → P x → Finishes finish steps made x) → (xs : List A) → AllByRecursion P xs → Finishes (finish_each finish) (flat_map steps) (map made) xs
unfolding finish_each first_from counts_after
each_finished P finish steps made one [] h counts = refl
each_finished P finish steps made one (x ∷ xs) h counts =
    and_rest counts (steps x) (flat_map steps xs) (made x) (map made xs) (λ y ys. y ∷ ys) (finish x counts) (finish_each finish xs) (one x h.0 counts) (each_finished P finish steps made one xs h.1 (counts_after counts (steps x)))

pub option_finished : {A B : Type 0} (P : A → Type 0) (finish : A → List ℕ → Result (B × List ℕ) Stopped) (steps : A → List Step) (made : A → B)
    → ((x : A) → P x → Finishes finish steps made x) → (o : Option A) → IfThere P o → Finishes (finish_option finish) (option_steps steps) (option_with made) o
unfolding finish_option first_from counts_after
option_finished P finish steps made one None h counts = refl
option_finished P finish steps made one (Some x) h counts =
    rw (one x h counts) (made_of (first_from counts (steps x)) (made x, counts_after counts (steps x)) (λ y. (Some y.0, y.1)))
