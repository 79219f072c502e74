-- The branches of a net whose reading finds no fault.
use Rattle.std.proofs.Common.{◌≡◌, ◌≤◌, ◌+◌, ◌-◌, ◌∙◌, ℕ, List, Result, Ok, Err, ap, subst, arith}
use Rattle.ix_num.specs.declared.fault.FrameFault.{FrameFault}
use Rattle.ix_frame.specs.Objects.{elements_at}
use Rattle.ix_frame.specs.Result.{◌>>=◌}
use Rattle.ix_frame.specs.Sound.{endless, sound_elements}
use Rattle.ix_frame.specs.Target.{Object, Elements}
use Rattle.ix_message.specs.Phys.{segment, phys_net}
use Rattle.ix_message.specs.Reading.{Reads, branches_from, value_at, parts_at}
use Rattle.ix_message.specs.Shape.{Value, Branches}
use Rattle.ix_schema.specs.Said.{said, parts_said, branches_said}
use Rattle.ix_phys_read.specs.Sound.{most_cost, IsSound, AreSound}
use Rattle.ix_phys_read.proofs.Costs.{elements_at_left, branches_left}
use Rattle.ix_phys_read.proofs.Found.{elements_sound}
use Rattle.ix_phys_read.proofs.Opened.{comes, has_it}

pub record AreNetsTrees (o : Object) : Type 0 where
  pub sources : AreSound (sound_elements o 0) 0 (branches_said segment (sound_elements o 0) endless)
  pub stubs : AreSound (sound_elements o 1) 0 (branches_said segment (sound_elements o 1) endless)

abbrev Forest : Type 0
Forest = Branches (List ℕ)

abbrev Side : Type 0
Side = Forest × Unit {0}

abbrev value_of : Value ℕ phys_net → Result (Value ℕ phys_net × ℕ) FrameFault → Value ℕ phys_net
value_of v (Ok x) = x.0
value_of v (Err e) = v

abbrev side_of : (Forest × Side) × ℕ → Result ((Forest × Side) × ℕ) FrameFault → Forest × Side
side_of p (Ok x) = x.0
side_of p (Err e) = p.0

abbrev stub_of : Side × ℕ → Result (Side × ℕ) FrameFault → Side
stub_of p (Ok x) = x.0
stub_of p (Err e) = p.0

-- a list of branches behind a pointer, which was read
sound_at : (o : Object) (slot b : ℕ) (l : Elements × ℕ) (here : Forest × ℕ) (trees : Forest)
    → b ≤ most_cost → elements_at o slot b ≡ Ok l
    → branches_from (b + 1) segment l.0.count l.0 0 l.1 ≡ Ok here → here.0 ≡ trees
    → AreSound (sound_elements o slot) 0 trees × (here.1 ≤ b)
sound_at o slot b l here trees few found read is =
    let paid : l.0.count + l.1 ≤ b = has_it (λ x. x.0.count + x.1 ≤ b)
    (elements_at o slot b) l found (elements_at_left o slot b) in
    let same : l.0 ≡ sound_elements o slot =
    has_it (λ x. x.0 ≡ sound_elements o slot) (elements_at o slot b) l found
    (elements_sound o slot b (omega arith)) in
    let less : here.1 ≤ l.1 = (has_it _ (branches_from (b + 1) segment l.0.count l.0 0 l.1) here
    read (branches_left (b + 1) l.0.count l.0 0 l.1)).1 in
    let all : l.0.count - 0 ≡ l.0.count = omega arith in
    let one : AreSound l.0 0 here.0 = record {
      bound = b + 1;
      budget = l.1;
      left = here.1;
      few =
          omega arith;
      enough = omega arith;
      read = rw all read;
    } in (
      subst (λ (t : Forest). AreSound (sound_elements o slot) 0 t) is
          (subst (λ (e : Elements). AreSound e 0 here.0) same one),
      omega arith,
    )

stubs_at : Object → ℕ → Reads Side
stubs_at o b = elements_at o 1 b >>= λ l. branches_from (b + 1) segment l.0.count l.0 0 l.1 >>=
    λ here. Ok ((here.0, tt), here.1)

sources_at : Object → ℕ → Reads (Forest × Side)
sources_at o b = elements_at o 0 b >>= λ l. branches_from (b + 1) segment l.0.count l.0 0 l.1 >>=
    λ here. stubs_at o here.1 >>= λ rest. Ok ((here.0, rest.0), rest.1)

pub net_trees : (o : Object) → IsSound phys_net o → AreNetsTrees o
unfolding value_at parts_at said parts_said stubs_at sources_at
net_trees o h =
    let b = h.budget in
    let few = h.few in
    let row = (said phys_net o).0 in
    let whole = comes (sources_at o b) (λ parts. Ok ((row, parts.0), parts.1))
    (said phys_net o, h.left) h.read in
    let parts = whole.first in
    let parts_are : (row, parts.0) ≡ said phys_net o = ap (value_of (said phys_net o)) whole.next in
    let one = comes (elements_at o 0 b) (λ l. branches_from (b + 1) segment l.0.count l.0 0 l.1 >>=
    λ here. stubs_at o here.1 >>= λ rest. Ok ((here.0, rest.0), rest.1)) parts whole.is in
    let l = one.first in
    let two = comes (branches_from (b + 1) segment l.0.count l.0 0 l.1)
    (λ here. stubs_at o here.1 >>= λ rest. Ok ((here.0, rest.0), rest.1)) parts one.next in
    let here = two.first in
    let three = comes (stubs_at o here.1) (λ rest. Ok ((here.0, rest.0), rest.1)) parts two.next in
    let rest = three.first in
    let sides : (here.0, rest.0) ≡ parts.0 = ap (side_of parts) three.next in
    let four = comes (elements_at o 1 here.1)
    (λ l. branches_from (here.1 + 1) segment l.0.count l.0 0 l.1 >>=
    λ there. Ok ((there.0, tt), there.1)) rest three.is in
    let l2 = four.first in
    let five = comes (branches_from (here.1 + 1) segment l2.0.count l2.0 0 l2.1)
    (λ there. Ok ((there.0, tt), there.1)) rest four.next in
    let there = five.first in
    let stub : (there.0, tt) ≡ rest.0 = ap (stub_of rest) five.next in
    let first_is : here.0 ≡ branches_said segment (sound_elements o 0) endless =
    ap (λ (p : Forest × Side). p.0) sides ∙ ap (λ (v : Value ℕ phys_net). v.1.0) parts_are in
    let second_is : there.0 ≡ branches_said segment (sound_elements o 1) endless =
    ap (λ (p : Side). p.0) stub ∙ ap (λ (p : Forest × Side). p.1.0) sides
    ∙ ap (λ (v : Value ℕ phys_net). v.1.1.0) parts_are in
    let first = sound_at o 0 b l here (branches_said segment (sound_elements o 0) endless) few
    one.is two.is first_is in
    let second = sound_at o 1 here.1 l2 there (branches_said segment (sound_elements o 1) endless)
    (omega (arith, first.1)) four.is five.is second_is in
    record { sources = first.0; stubs = second.0 }
