-- Reading the texts of a list one after the other, as a loop does that has read some and goes on with the i-th.
use Rattle.std.proofs.Common.{◌≡◌, ℕ, suc, ◌-◌, ◌+◌, ◌≤◌, ◌<◌, List, [], ◌∷◌, ◌++◌, Ok, Err, refl, sym, ap, ◌∙◌, append_assoc, arith}
use Rattle.std.proofs.lemmas.List.{append-nil}
use Rattle.ix_num.specs.declared.fault.FrameFault.{FrameFault}
use Rattle.ix_frame.specs.Result.{◌>>=◌}
use Rattle.ix_frame.specs.Objects.{text_in}
use Rattle.ix_frame.specs.Target.{Elements}
use Rattle.ix_message.specs.Shape.{Text}
use Rattle.ix_message.specs.Reading.{Reads, texts_from}
use Rattle.ix_message.proofs.Lists.{with_front}

regroup : (front : List Text) (t : Text) (read : Reads (List Text)) → with_front front (read >>= λ x. Ok (t ∷ x.0, x.1)) ≡ with_front (front ++ t ∷ []) read
regroup front t (Ok x) = ap (λ (ts : List Text). Ok (ts, x.1)) (simp append_assoc)
regroup front t (Err f) = refl

-- one more text was read
pub text_goes_on : (l : Elements) (front : List Text) (count i budget : ℕ) (t : Text) (after : ℕ) (total : Reads (List Text)) → i < count
    → text_in l i budget ≡ Ok (t, after) → with_front front (texts_from (count - i) l i budget) ≡ total
    → with_front (front ++ t ∷ []) (texts_from (count - (i + 1)) l (i + 1) after) ≡ total
unfolding texts_from
text_goes_on l front count i budget t after total lt h so_far =
    let k : count - i ≡ suc (count - (i + 1)) = omega arith in
    let one : with_front front (texts_from (count - i) l i budget) ≡ with_front (front ++ t ∷ []) (texts_from (count - (i + 1)) l (i + 1) after) = rw (k, h) (regroup front t (texts_from (count - (i + 1)) l (i + 1) after)) in
    sym one ∙ so_far

-- a text has a fault, so the list has it
pub text_stops : (f : FrameFault) (l : Elements) (front : List Text) (count i budget : ℕ) (total : Reads (List Text)) → i < count
    → text_in l i budget ≡ Err f → with_front front (texts_from (count - i) l i budget) ≡ total → total ≡ Err f
unfolding texts_from
text_stops f l front count i budget total lt h so_far =
    let k : count - i ≡ suc (count - (i + 1)) = omega arith in
    let one : with_front front (texts_from (count - i) l i budget) ≡ Err f = rw (k, h) refl in
    sym so_far ∙ one

-- all texts were read
pub texts_done : (l : Elements) (front : List Text) (count i budget : ℕ) (total : Reads (List Text)) → count ≤ i
    → with_front front (texts_from (count - i) l i budget) ≡ total → total ≡ Ok (front, budget)
unfolding texts_from
texts_done l front count i budget total le so_far =
    let k : count - i ≡ 0 = omega arith in
    let one : with_front front (texts_from (count - i) l i budget) ≡ Ok (front, budget) = rw k (ap (λ (ts : List Text). Ok (ts, budget)) (append-nil front)) in
    sym so_far ∙ one
