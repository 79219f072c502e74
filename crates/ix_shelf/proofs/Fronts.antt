-- What of a file was read so far, as a loop goes over its reads.
use Rattle.std.proofs.Common.{◌≡◌, ◌≤◌, ◌<◌, ◌+◌, ◌-◌, ℕ, List, [], ◌++◌, length, take, drop, Option, Some, None, refl, sym, ap, ◌∙◌, subst, arith}
use Rattle.std.proofs.Math.Seq.{take-add}
use Rattle.std.proofs.lemmas.List.{length-append, length-drop, length-take, take_all}
use Rattle.ix_shelf.specs.Shelf.{Files, ReadsFile, IsWholeFile, IsTooLarge}

-- the bytes begin the file, if there is one
abbrev pub IsFront : Option Files → (name bytes : List ℕ) → Type 0
IsFront None name bytes = Unit {0}
IsFront (Some files) name bytes = (file : List ℕ) → files name ≡ Some file → take (length bytes) file ≡ bytes

pub IsFront-none : (told : Option Files) (name : List ℕ) → IsFront told name []
IsFront-none None name = tt
IsFront-none (Some files) name = λ file e. refl

-- a read of n bytes found them
found : (file into : List ℕ) (at n : ℕ) → take n into ≡ take n (drop at file) → n ≤ length into → n ≤ length (drop at file)
found file into at n e h = omega (arith, ap length e, length-take n into, length-take n (drop at file))

one_file : (xs ys : List ℕ) (o : Option (List ℕ)) → o ≡ Some xs → o ≡ Some ys → xs ≡ ys
one_file xs ys o p q = cc

front_more : (file bytes into : List ℕ) (n : ℕ) → take (length bytes) file ≡ bytes → take n into ≡ take n (drop (length bytes) file) → n ≤ length into → take (length (bytes ++ take n into)) file ≡ bytes ++ take n into
front_more file bytes into n p q h =
    ap (λ (k : ℕ). take k file) (let e : length (bytes ++ take n into) ≡ length bytes + n = omega (arith, length-append bytes (take n into), length-take n into) in e)
    ∙ take-add (length bytes) n file
    ∙ ap (λ (xs : List ℕ). xs ++ take n (drop (length bytes) file)) p
    ∙ ap (λ (ys : List ℕ). bytes ++ ys) (sym q)

-- one more read
pub IsFront-more : (told : Option Files) (name bytes into : List ℕ) (at room n : ℕ) → at ≡ length bytes → IsFront told name bytes → ReadsFile told name at room into n → n ≤ length into → IsFront told name (bytes ++ take n into)
IsFront-more None name bytes into at room n a p q h = tt
IsFront-more (Some files) name bytes into at room n a p q h = λ file e.
    let s : file ≡ q.0 = one_file file q.0 (files name) e q.1 in
    front_more file bytes into n (p file e) (q.2 ∙ ap (λ (k : ℕ). take n (drop k q.0)) a ∙ ap (λ (xs : List ℕ). take n (drop (length bytes) xs)) (sym s)) h

whole : (file bytes : List ℕ) → take (length bytes) file ≡ bytes → length file ≤ length bytes → file ≡ bytes
whole file bytes p h = sym (take_all (length bytes) file h) ∙ p

-- the last read
pub IsFront-end : (told : Option Files) (name bytes into : List ℕ) (at room n : ℕ) → at ≡ length bytes → IsFront told name bytes → ReadsFile told name at room into n → n ≡ 0 → 0 < room → IsWholeFile told name bytes
IsFront-end None name bytes into at room n a p q z r = tt
IsFront-end (Some files) name bytes into at room n a p q z r =
    q.1 ∙ ap Some (whole q.0 bytes (p q.0 q.1) (omega (arith, q.3 z r)))

-- a read past the limit
pub IsTooLarge-read : (told : Option Files) (name into : List ℕ) (at room n most : ℕ) → ReadsFile told name at room into n → n ≤ length into → at ≤ most → most - at < n → IsTooLarge told name most
IsTooLarge-read None name into at room n most q h s m = tt
IsTooLarge-read (Some files) name into at room n most q h s m =
    (q.0, q.1, omega (arith, found q.0 into at n q.2 h, length-drop at q.0))

-- the vector after a read was added to it
pub read_more : (told : Option Files) (name bytes into new : List ℕ) (at room n : ℕ) → at ≡ length bytes → IsFront told name bytes → ReadsFile told name at room into n → n ≤ length into → new ≡ bytes ++ take n into → IsFront told name new
read_more told name bytes into new at room n a p q h e =
    subst (λ (xs : List ℕ). IsFront told name xs) (sym e) (IsFront-more told name bytes into at room n a p q h)
