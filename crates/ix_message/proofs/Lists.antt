-- Reading the elements of a list one after the other, as a loop does that has read some and goes on with the i-th.
use Rattle.std.proofs.Common.{◌≡◌, ℕ, suc, ◌-◌, ◌+◌, ◌≤◌, ◌<◌, List, [], ◌∷◌, ◌++◌, Ok, Err, refl, sym, ap, ◌∙◌, append_assoc, arith}
use Rattle.std.proofs.lemmas.List.{append-nil}
use Rattle.ix_num.specs.declared.fault.FrameFault.{FrameFault}
use Rattle.ix_frame.specs.Result.{◌>>=◌}
use Rattle.ix_frame.specs.Objects.{element_of}
use Rattle.ix_frame.specs.Target.{Object, Elements}
use Rattle.ix_message.specs.Reading.{Reads, each_from}

-- what was read before, and what is still read
abbrev pub with_front : {A : Type 0} → List A → Reads (List A) → Reads (List A)
with_front front read = read >>= λ x. Ok (front ++ x.0, x.1)

regroup : {A : Type 0} (front : List A) (n : A) (read : Reads (List A)) → with_front front (read >>= λ x. Ok (n ∷ x.0, x.1)) ≡ with_front (front ++ n ∷ []) read
regroup {A} front n (Ok x) = ap (λ (ns : List A). Ok (ns, x.1)) (simp append_assoc)
regroup front n (Err f) = refl

-- one more element was read
pub goes_on : {A : Type 0} (read : Object → ℕ → Reads A) (l : Elements) (front : List A) (count i budget : ℕ) (n : A) (after : ℕ) (total : Reads (List A)) → i < count
    → read (element_of l i) budget ≡ Ok (n, after) → with_front front (each_from read (count - i) l i budget) ≡ total
    → with_front (front ++ n ∷ []) (each_from read (count - (i + 1)) l (i + 1) after) ≡ total
unfolding each_from
goes_on read l front count i budget n after total lt h so_far =
    let k : count - i ≡ suc (count - (i + 1)) = omega arith in
    let one : with_front front (each_from read (count - i) l i budget) ≡ with_front (front ++ n ∷ []) (each_from read (count - (i + 1)) l (i + 1) after) = rw (k, h) (regroup front n (each_from read (count - (i + 1)) l (i + 1) after)) in
    sym one ∙ so_far

-- an element has a fault, so the list has it
pub stops : {A : Type 0} (f : FrameFault) (read : Object → ℕ → Reads A) (l : Elements) (front : List A) (count i budget : ℕ) (total : Reads (List A)) → i < count
    → read (element_of l i) budget ≡ Err f → with_front front (each_from read (count - i) l i budget) ≡ total → total ≡ Err f
unfolding each_from
stops f read l front count i budget total lt h so_far =
    let k : count - i ≡ suc (count - (i + 1)) = omega arith in
    let one : with_front front (each_from read (count - i) l i budget) ≡ Err f = rw (k, h) refl in
    sym so_far ∙ one

-- all elements were read
pub is_done : {A : Type 0} (read : Object → ℕ → Reads A) (l : Elements) (front : List A) (count i budget : ℕ) (total : Reads (List A)) → count ≤ i
    → with_front front (each_from read (count - i) l i budget) ≡ total → total ≡ Ok (front, budget)
unfolding each_from
is_done {A} read l front count i budget total le so_far =
    let k : count - i ≡ 0 = omega arith in
    let one : with_front front (each_from read (count - i) l i budget) ≡ Ok (front, budget) = rw k (ap (λ (ns : List A). Ok (ns, budget)) (append-nil front)) in
    sym so_far ∙ one
