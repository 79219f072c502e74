-- Lists of branches whose reading finds no fault, branch by branch.
use Rattle.std.proofs.Common.{◌≡◌, ◌≤◌, ◌<◌, ◌+◌, ◌-◌, ℕ, zero, suc, List, length, Result, Ok, Err}
use Rattle.std.proofs.Common.{refl, sym, ap, subst, arith}
use Rattle.std.specs.Prelude.{IfOk}
use Rattle.std.proofs.lemmas.List.{length-append}
use Rattle.ix_num.specs.declared.fault.FrameFault.{FrameFault}
use Rattle.ix_frame.specs.Objects.{elements_at, element_of}
use Rattle.ix_frame.specs.Result.{◌>>=◌}
use Rattle.ix_frame.specs.Sound.{found_or, sound_elements}
use Rattle.ix_frame.specs.Target.{Elements}
use Rattle.ix_message.specs.Phys.{segment}
use Rattle.ix_message.specs.Reading.{row_at, branches_from}
use Rattle.ix_message.specs.Shape.{Branches, ends, branch, preorder}
use Rattle.ix_phys_read.specs.Sound.{most_cost, AreSound}
use Rattle.ix_phys_read.proofs.Costs.{elements_at_left, branches_left, branches_in}
use Rattle.ix_phys_read.proofs.Found.{elements_sound}

-- What a step found that others went on with.
pub record Comes {A B E : Type 0} (r : Result A E) (f : A → Result B E) (y : B) : Type 0 where
  pub first : A
  pub is : r ≡ Ok first
  pub next : f first ≡ Ok y

pub comes : {A B E : Type 0} (r : Result A E) (f : A → Result B E) (y : B) → (r >>= f) ≡ Ok y
    → Comes r f y
comes (Ok x) f y h = record { first = x; is = refl; next = h }
comes (Err e) f y h = absurd cc

pub has_it : {A E : Type 0} (P : A → Type 0) (r : Result A E) (x : A) → r ≡ Ok x → IfOk r P → P x
has_it {A} {E} P r x is h = subst (λ (q : Result A E). IfOk q P) is h

abbrev tree_of : Result (Branches (List ℕ) × ℕ) FrameFault → Branches (List ℕ)
tree_of r = found_or ends r

-- the first branch of the rest of a list, and what is below and beside it
pub record Opened (l : Elements) (i : ℕ) (t : Branches (List ℕ)) : Type 0 where
  pub below : Branches (List ℕ)
  pub beside : Branches (List ℕ)
  pub is : t ≡ branch (row_at segment 0 (element_of l i)) below beside
  pub inner : AreSound (sound_elements (element_of l i) 0) 0 below
  pub after : AreSound l (i + 1) beside

pub opened : (l : Elements) (i : ℕ) (t : Branches (List ℕ)) → AreSound l i t → i < l.count
    → Opened l i t
unfolding branches_from
opened l i t h lt =
    let e : l.count - i ≡ suc (l.count - (i + 1)) = omega arith in
    go h.bound (omega (arith, h.enough, e)) (rw e at h.read)
  where
    go : (bound : ℕ) → suc (l.count - (i + 1)) + h.budget < bound
        → branches_from bound segment (suc (l.count - (i + 1))) l i h.budget ≡ Ok (t, h.left)
        → Opened l i t
    go zero enough read = absurd (omega arith)
    go (suc b) enough read =
        let k = l.count - (i + 1) in
        let o = element_of l i in
        let few = h.few in
        let one = comes (elements_at o 0 h.budget)
        (λ inner. branches_from b segment inner.0.count inner.0 0 inner.1 >>=
        λ below. branches_from b segment k l (i + 1) below.1 >>=
        λ beside. Ok (branch (row_at segment 0 o) below.0 beside.0, beside.1))
        (t, h.left) read in
        let inner = one.first in
        let paid : inner.0.count + inner.1 ≤ h.budget =
        has_it (λ x. x.0.count + x.1 ≤ h.budget) (elements_at o 0 h.budget) inner one.is
        (elements_at_left o 0 h.budget) in
        let same : inner.0 ≡ sound_elements o 0 =
        has_it (λ x. x.0 ≡ sound_elements o 0) (elements_at o 0 h.budget) inner one.is
        (elements_sound o 0 h.budget (omega arith)) in
        let two = comes (branches_from b segment inner.0.count inner.0 0 inner.1)
        (λ below. branches_from b segment k l (i + 1) below.1 >>=
        λ beside. Ok (branch (row_at segment 0 o) below.0 beside.0, beside.1))
        (t, h.left) one.next in
        let low = two.first in
        let less : low.1 ≤ inner.1 = (has_it _
        (branches_from b segment inner.0.count inner.0 0 inner.1) low two.is
        (branches_left b inner.0.count inner.0 0 inner.1)).1 in
        let three = comes (branches_from b segment k l (i + 1) low.1)
        (λ beside. Ok (branch (row_at segment 0 o) low.0 beside.0, beside.1))
        (t, h.left) two.next in
        let all : inner.0.count - 0 ≡ inner.0.count = omega arith in
        record {
          below = low.0;
          beside = three.first.0;
          is = sym (ap tree_of three.next);
          inner = subst (λ (e : Elements). AreSound e 0 low.0) same
              (record {
                bound = b;
                budget = inner.1;
                left = low.1;
                few = omega arith;
                enough =
                    omega arith;
                read = rw all two.is;
              });
          after = record {
            bound = b;
            budget = low.1;
            left = three.first.1;
            few =
                omega arith;
            enough = omega arith;
            read = three.is;
          };
        }

-- no branch is left
pub none_left : (l : Elements) (i : ℕ) (t : Branches (List ℕ)) → AreSound l i t → l.count ≤ i
    → t ≡ ends
unfolding branches_from
none_left l i t h le =
    let none : l.count - i ≡ 0 = omega arith in
    go h.bound (rw none at h.read)
  where
    go : (bound : ℕ) → branches_from bound segment 0 l i h.budget ≡ Ok (t, h.left) → t ≡ ends
    go zero read = sym (ap tree_of read)
    go (suc b) read = sym (ap tree_of read)

-- no list has more branches, at any depth, than a reading may cost
pub few_branches : (l : Elements) (i : ℕ) (t : Branches (List ℕ)) → AreSound l i t
    → length (preorder 0 t) ≤ most_cost
few_branches l i t h =
    let paid = (has_it _ (branches_from h.bound segment (l.count - i) l i h.budget)
    (t, h.left) h.read (branches_left h.bound (l.count - i) l i h.budget)).0 in
    let few = h.few in
    omega (arith, in_preorder 0 t)
  where
    in_preorder : (d : ℕ) (t : Branches (List ℕ)) → length (preorder d t) ≡ branches_in t
    in_preorder d ends = refl
    in_preorder d (branch x below beside) =
        omega (
          arith,
          length-append (preorder (d + 1) below) (preorder d beside),
          in_preorder (d + 1) below,
          in_preorder d beside,
        )
