-- Files that are set and read one after another.
use Rattle.std.proofs.Common.{◌≡◌, refl, sym, ap, subst, ◌∙◌, ℕ, zero, suc, ◌+◌, ◌-◌, ◌^◌, ◌<◌, ◌≤◌}
use Rattle.std.proofs.Common.{◌⊎◌, inl, inr, min, List, [], ◌∷◌, ◌++◌, map, take, length, slice_get}
use Rattle.std.proofs.Common.{get_or, Option, Some, None, option_map, IsSome, arith}
use Rattle.std.specs.List.{AllByRecursion}
use Rattle.std.proofs.lemmas.Option.{none-some, slice_get_within, slice_get-map}
use Rattle.std.proofs.lemmas.Option.{slice_get-get_or, get_or_from_slice_get}
use Rattle.std.proofs.lemmas.List.{map-append, take_more, length-take-le}
use Rattle.ix_shelf.specs.Shelf.{Files, Counts, NoneFalls, Rose, IsAbsent, with_file}
use Rattle.ix_job.specs.declared.work.Content as code
use Rattle.ix_job.specs.Views.{content_seen}
use Rattle.ix_job.specs.Job.{Name, Content, content_of, with_files, AreContents}

-- the text at a place of a list of them
pub text_at : {A : Type 0} (f : A → Name) (names : List A) (i : ℕ) (d : A) → i < length names
    → slice_get (map f names) i ≡ Some (f (get_or names i d))
text_at f names i d h = slice_get-map f names i ∙ ap (option_map f) (slice_get-get_or names i d h)

pub take_next : {A : Type 0} (xs : List A) (i : ℕ) (x : A) → slice_get xs i ≡ Some x
    → take (i + 1) xs ≡ take i xs ++ x ∷ []
take_next xs i x h = take_more xs i x (slice_get_within xs i x h)
    ∙ ap (λ y. take i xs ++ y ∷ []) (get_or_from_slice_get xs i x x h)

pub length_take : {A : Type 0} (xs : List A) (i : ℕ) (x : A) → slice_get xs i ≡ Some x
    → length (take i xs) ≡ i
length_take xs i x h = let lt : i < length xs = slice_get_within xs i x h in
    length-take-le i xs (omega arith)

-- nothing is set
pub none_set : (names : List Name) (outputs : List (List ℕ)) (o : Option Files)
    → o ≡ option_map (with_files (take 0 names) (take 0 outputs)) o
none_set names outputs None = refl
none_set names outputs (Some files) = refl

-- one more is set, where as many names as outputs stand before it
set_last : (names : List Name) (outputs : List (List ℕ)) (name bytes : List ℕ) (files : Files)
    → length names ≡ length outputs
    → with_files (names ++ name ∷ []) (outputs ++ bytes ∷ []) files ≡ with_file name bytes
    (with_files names outputs files)
set_last [] [] name bytes files h = refl
set_last [] (b ∷ bs) name bytes files h = absurd (omega (arith, h))
set_last (n ∷ ns) [] name bytes files h = absurd (omega (arith, h))
set_last (n ∷ ns) (b ∷ bs) name bytes files h =
    set_last ns bs name bytes (with_file n b files) (omega (arith, h))

set_next : (names : List Name) (outputs : List (List ℕ)) (i : ℕ) (name bytes : List ℕ)
    (files : Files)
    → slice_get names i ≡ Some name → slice_get outputs i ≡ Some bytes
    → with_files (take (i + 1) names) (take (i + 1) outputs) files ≡ with_file name bytes
    (with_files (take i names) (take i outputs) files)
set_next names outputs i name bytes files n b =
    ap (λ (xs : List Name). with_files xs (take (i + 1) outputs) files) (take_next names i name n)
    ∙ ap (λ (ys : List (List ℕ)). with_files (take i names ++ name ∷ []) ys files)
    (take_next outputs i bytes b)
    ∙ set_last (take i names) (take i outputs) name bytes files
    (length_take names i name n ∙ sym (length_take outputs i bytes b))

-- the same where files may not be told
pub one_more_set : (names : List Name) (outputs : List (List ℕ)) (i : ℕ) (name bytes : List ℕ)
    (old now new : Option Files)
    → slice_get names i ≡ Some name → slice_get outputs i ≡ Some bytes
    → now ≡ option_map (with_files (take i names) (take i outputs)) old
    → new ≡ option_map (with_file name bytes) now
    → new ≡ option_map (with_files (take (i + 1) names) (take (i + 1) outputs)) old
one_more_set names outputs i name bytes None now new n b p q =
    q ∙ ap (option_map (with_file name bytes)) p
one_more_set names outputs i name bytes (Some files) now new n b p q =
    q ∙ ap (option_map (with_file name bytes)) p
    ∙ ap Some (sym (set_next names outputs i name bytes files n b))

-- all are set, where no name or no output is left
past_all : (names : List Name) (outputs : List (List ℕ)) (i : ℕ) (files : Files)
    → i ≡ min (length names) (length outputs)
    → with_files (take i names) (take i outputs) files ≡ with_files names outputs files
past_all [] outputs zero files h = refl
past_all [] outputs (suc i) files h = absurd (omega (arith, h))
past_all (n ∷ ns) [] zero files h = refl
past_all (n ∷ ns) [] (suc i) files h = absurd (omega (arith, h))
past_all (n ∷ ns) (b ∷ bs) zero files h = absurd (omega (arith, h))
past_all (n ∷ ns) (b ∷ bs) (suc i) files h =
    past_all ns bs i (with_file n b files) (omega (arith, h))

pub all_set : (names : List Name) (outputs : List (List ℕ)) (i : ℕ) (old now : Option Files)
    → i ≡ min (length names) (length outputs)
    → now ≡ option_map (with_files (take i names) (take i outputs)) old
    → now ≡ option_map (with_files names outputs) old
all_set names outputs i None now h p = p
all_set names outputs i (Some files) now h p = p ∙ ap Some (past_all names outputs i files h)

-- no content before the first
pub none_read : (names : List Name) (files : Files) → AreContents files (take 0 names) []
none_read names files = refl

-- one more content
pub one_more_read : (names : List Name) (i : ℕ) (name : Name) (contents : List Content)
    (bytes : List ℕ) (files : Files)
    → slice_get names i ≡ Some name → files name ≡ Some bytes
    → AreContents files (take i names) contents
    → AreContents files (take (i + 1) names) (contents ++ content_of bytes ∷ [])
one_more_read names i name contents bytes files n b h =
    ap (λ (xs : List Name). map (λ name. option_map content_of (files name)) xs)
    (take_next names i name n)
    ∙ map-append (λ (name : Name). option_map content_of (files name)) (take i names) (name ∷ [])
    ∙ ap (λ (xs : List (Option Content)). xs ++ option_map content_of (files name) ∷ []) h
    ∙ ap (λ (o : Option (List ℕ)). map (λ content. Some content) contents ++ option_map content_of o
    ∷ []) b
    ∙ sym (map-append (λ (content : Content). Some content) contents (content_of bytes ∷ []))

-- the same as the code has them
pub one_more_seen : (names : List Name) (i : ℕ) (name : Name) (contents new : List code.Content)
    (content : code.Content) (files : Files)
    → slice_get names i ≡ Some name → new ≡ contents ++ content ∷ []
    → (bytes : List ℕ) × (files name ≡ Some bytes) × (content_seen content ≡ content_of bytes)
    → AreContents files (take i names) (map content_seen contents)
    → AreContents files (take (i + 1) names) (map content_seen new)
one_more_seen names i name contents new content files n p is h =
    subst (AreContents files (take (i + 1) names))
    (sym (ap (map content_seen) p ∙ map-append content_seen contents (content ∷ [])
    ∙ ap (λ (c : Content). map content_seen contents ++ c ∷ []) is.2))
    (one_more_read names i name (map content_seen contents) is.0 files n is.1 h)

-- a cause that comes later is one of the whole
pub later_cause : (old now : Option Files) (a b c : ℕ) (name : Name) → now ≡ old → a ≤ b
    → Rose b c ⊎ IsAbsent now name → Rose a c ⊎ IsAbsent old name
later_cause old now a b c name e p (inl rose) =
    inl (let r : min (b + 1) (2 ^ 64 - 1) ≤ c = rose in omega (arith, p, r))
later_cause old now a b c name e p (inr absent) =
    inr (subst (λ (o : Option Files). IsAbsent o name) e absent)

is_there : (o : Option (List ℕ)) (c : Content) → option_map content_of o ≡ Some c → IsSome o
is_there None c e = absurd (none-some c e)
is_there (Some bytes) c e = refl

-- files of which the contents are known are there
pub all_there : (names : List Name) (contents : List Content) (files : Files)
    → AreContents files names contents → AllByRecursion (λ other. IsSome (files other)) names
all_there [] contents files h = tt
all_there (name ∷ names) [] files h = absurd
    (let e : option_map content_of (files name) ∷ map
    (λ other. option_map content_of (files other)) names ≡ [] = h in cc)
all_there (name ∷ names) (c ∷ cs) files h =
    let first : option_map content_of (files name) ≡ Some c = cc in
    let rest : AreContents files names cs = cc in
    (is_there (files name) c first, all_there names cs files rest)

-- counts that are as they were don't fall
pub same_counts : (before now : Counts) → now ≡ before → NoneFalls before now
same_counts before now e = λ name. let h : now name ≡ before name =
    ap (λ (counts : Counts). counts name) e in omega (arith, h)

-- nor do those that are as some that haven't fallen
pub still_counts : (before mid now : Counts) → NoneFalls before mid → now ≡ mid
    → NoneFalls before now
still_counts before mid now p e = subst (NoneFalls before) (sym e) p

pub falls_later : (before mid now : Counts) → mid ≡ before → NoneFalls mid now
    → NoneFalls before now
falls_later before mid now e p = subst (λ (counts : Counts). NoneFalls counts now) e p
