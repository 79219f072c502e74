-- What is put or written so far, as a loop goes over its pieces.
use Rattle.std.proofs.Common.{◌≡◌, ◌≤◌, ◌<◌, ◌+◌, ◌-◌, ℕ, min, Bool, true, false, cond, eqb, ◌&&◌, not, List, [], ◌++◌, length, take, drop, Option, Some, None, option_map, unwrap_or, refl, sym, ap, ◌∙◌, arith}
use mathlib.Core.Path.{fun_ext}
use Rattle.std.specs.Str.{bytes_eq}
use Rattle.std.proofs.Math.Seq.{take-add}
use Rattle.std.proofs.lemmas.List.{append_assoc, length-drop, length-take, take_all, take_min, take-take}
use Rattle.std.proofs.lemmas.Bool.Decides.{nat_tests}
use Rattle.std.proofs.lemmas.Slice.Eq.{bytes_eq-Decides}
use Rattle.ix_shelf.specs.Shelf.{Files, Rose, with_file, after_append}
use Rattle.ix_shelf.specs.Sink.{with_bytes}

-- the front of what is left, as a slice from a place on
pub take-rest : (bytes : List ℕ) (at n : ℕ) → take n (take (length bytes - at) (drop at bytes)) ≡ take n (drop at bytes)
take-rest bytes at n = ap (λ (xs : List ℕ). take n xs) (take_all (length bytes - at) (drop at bytes) (omega (arith, length-drop at bytes)))

-- two puts, one after another
pub with_bytes-more : (bytes piece : List ℕ) (at n : ℕ) (old : Option (List ℕ)) → take n piece ≡ take n (drop at bytes) → with_bytes (take n piece) (with_bytes (take at bytes) old) ≡ with_bytes (take (at + n) bytes) old
with_bytes-more bytes piece at n None same = refl
with_bytes-more bytes piece at n (Some xs) same =
    ap Some (append_assoc xs (take at bytes) (take n piece) ∙ ap (λ (ys : List ℕ). xs ++ ys) (ap (λ (ys : List ℕ). take at bytes ++ ys) same ∙ sym (take-add at n bytes)))

-- a count that rose later rose altogether
pub Rose-later : (a b c : ℕ) → a ≤ b → Rose b c → Rose a c
Rose-later a b c p r = omega arith

pub bytes_eq-same : (name : List ℕ) → bytes_eq name name ≡ true
bytes_eq-same name = (bytes_eq-Decides name name).1 refl

cond-twice : {A : Type 0} (b : Bool) (x y z : A) → cond b x (cond b y z) ≡ cond b x z
cond-twice true x y z = refl
cond-twice false x y z = refl

-- a file that was set twice
pub with_file-twice : (name xs ys : List ℕ) (files : Files) → with_file name ys (with_file name xs files) ≡ with_file name ys files
with_file-twice name xs ys files = fun_ext (λ other. cond-twice (bytes_eq name other) (Some ys) (Some xs) (files other))

-- a file that was set is there
pub with_file-same : (name xs : List ℕ) (files : Files) → with_file name xs files name ≡ Some xs
with_file-same name xs files = ap (λ (b : Bool). cond b (Some xs) (files name)) (bytes_eq-same name)

not_zero : (n : ℕ) → 0 < n → eqb n 0 ≡ false
not_zero n h = grind (arith, nat_tests)

-- an append that took something
pub after_append-some : (name piece : List ℕ) (n : ℕ) (files : Files) → 0 < n → after_append name piece n files ≡ with_file name (unwrap_or (files name) [] ++ take n piece) files
after_append-some name piece n files h =
    ap (λ (b : Bool). cond (b && not (eqb (length piece) 0)) files (with_file name (unwrap_or (files name) [] ++ take n piece) files)) (not_zero n h)

-- two pieces, one after another
pub after_append-more : (name bytes piece : List ℕ) (at n : ℕ) (files : Files) → 0 < n → take n piece ≡ take n (drop at bytes) → after_append name piece n (with_file name (take at bytes) files) ≡ with_file name (take (at + n) bytes) files
after_append-more name bytes piece at n files some same =
    after_append-some name piece n (with_file name (take at bytes) files) some
    ∙ ap (λ (o : Option (List ℕ)). with_file name (unwrap_or o [] ++ take n piece) (with_file name (take at bytes) files)) (with_file-same name (take at bytes) files)
    ∙ with_file-twice name (take at bytes) (take at bytes ++ take n piece) files
    ∙ ap (λ (ys : List ℕ). with_file name ys files) (ap (λ (ys : List ℕ). take at bytes ++ ys) same ∙ sym (take-add at n bytes))

-- the same where files may not be told
pub written-more : (name bytes piece : List ℕ) (at n : ℕ) (old now new : Option Files) → 0 < n → take n piece ≡ take n (drop at bytes) → now ≡ option_map (with_file name (take at bytes)) old → new ≡ option_map (after_append name piece n) now → new ≡ option_map (with_file name (take (at + n) bytes)) old
written-more name bytes piece at n None now new some same p q = q ∙ ap (option_map (after_append name piece n)) p
written-more name bytes piece at n (Some files) now new some same p q =
    q ∙ ap (option_map (after_append name piece n)) p ∙ ap Some (after_append-more name bytes piece at n files some same)

-- a slice from a place on, no longer than what is left
pub take-cut : (bytes : List ℕ) (at m k : ℕ) → k ≡ min m (length bytes - at) → take (at + k - at) (drop at bytes) ≡ take m (drop at bytes)
take-cut bytes at m k h =
    ap (λ (j : ℕ). take j (drop at bytes)) (let e : at + k - at ≡ min m (length (drop at bytes)) = omega (arith, length-drop at bytes) in e)
    ∙ take_min m (drop at bytes)

-- the front of a piece is the front of what the piece was cut from
pub take-piece : (xs piece : List ℕ) (n m : ℕ) → piece ≡ take m xs → n ≤ length piece → take n piece ≡ take n xs
take-piece xs piece n m e h =
    ap (λ (ys : List ℕ). take n ys) e ∙ take-take n m xs (omega (arith, ap length e, length-take m xs))

-- what was taken of a piece is within the bytes
pub within-piece : (bytes piece : List ℕ) (at n m : ℕ) → piece ≡ take m (drop at bytes) → n ≤ length piece → at ≤ length bytes → at + n ≤ length bytes
within-piece bytes piece at n m e h p =
    omega (arith, ap length e, length-take m (drop at bytes), length-drop at bytes)
