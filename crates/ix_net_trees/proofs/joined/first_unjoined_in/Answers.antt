use Rattle.std.proofs.Common.{◌≡◌, ◌<◌, ◌≤◌, ◌-◌, ◌∙◌, ap, sym, subst, ℕ, List, length, arith}
use Rattle.std.proofs.Common.{slice_index_or, inl, inr}
use Rattle.std.specs.Prelude.{slice_get, Some, None}
use Rattle.std.proofs.lemmas.Bool.{cases_lt, false≢true}
use Rattle.std.proofs.lemmas.Option.{slice_get-get_or}
use Rattle.ix_legal.specs.Segments.{segments}
use Rattle.ix_legal.specs.Trees.{LeavesParent}
use Rattle.ix_ends.specs.declared.pair.Pair.{Pair}
use Rattle.ix_net_trees.proofs.Nets.{told_at}
use Rattle.ix_net_trees.proofs.Parents.{IsNext, knows_more, has_room, leaves, left, leaves_past}
use Rattle.ix_net_trees.proofs.joined.first_unjoined_in.Goals as goal

-- the ends of a segment
abbrev pair_at : List Pair → ℕ → Pair
pair_at row k = slice_index_or row k (record { from = 0; to = 0 })

pair_is : (row : List Pair) (k : ℕ) → k < length row → slice_get row k ≡ Some (pair_at row k)
pair_is row k few = slice_get-get_or row k (record { from = 0; to = 0 }) few

pub leaves_last-requires : goal.leaves_last-requires
leaves_last-requires c =
    let N : IsNext c.at-net.result.now c.row-row.result.now c.loop-k.k c.branch_at.result.now
    (pair_at c.row-row.result.now c.loop-k.k) = record {
      branch_is = c.branch_at.ensures;
      pair_is = pair_is c.row-row.result.now c.loop-k.k c.loop-k-test.true;
      sources = c.len-sources.ensures.preorder;
      stubs = c.len-stubs.ensures.preorder;
    } in
    subst (λ (l : List ℕ). c.branch_at.result.now.depth ≤ length l) (sym c.deref.ensures.value)
    (has_room c.at-net.result.now c.row-row.result.now c.loop-k.k c.branch_at.result.now
    (pair_at c.row-row.result.now c.loop-k.k) N c.loop-k.last.items c.loop-k.invariant.last)

pub keep_last-requires : goal.keep_last-requires
keep_last-requires c =
    let N : IsNext c.at-net.result.now c.row-row.result.now c.loop-k.k c.branch_at.result.now
    (pair_at c.row-row.result.now c.loop-k.k) = record {
      branch_is = c.branch_at.ensures;
      pair_is = pair_is c.row-row.result.now c.loop-k.k c.loop-k-test.true;
      sources = c.len-sources.ensures.preorder;
      stubs = c.len-stubs.ensures.preorder;
    } in
    has_room c.at-net.result.now c.row-row.result.now c.loop-k.k c.branch_at.result.now
    (pair_at c.row-row.result.now c.loop-k.k) N c.loop-k.last.items c.loop-k.invariant.last

pub returns-then-not-leaves_last : goal.returns-then-not-leaves_last
returns-then-not-leaves_last c =
    let N : IsNext c.at-net.result.now c.row-row.result.now c.loop-k.k c.branch_at.result.now
    (pair_at c.row-row.result.now c.loop-k.k) = record {
      branch_is = c.branch_at.ensures;
      pair_is = pair_is c.row-row.result.now c.loop-k.k c.loop-k-test.true;
      sources = c.len-sources.ensures.preorder;
      stubs = c.len-stubs.ensures.preorder;
    } in
    let row = c.requires.wired.ends.each c.args.n c.at-net.result.now c.row-row.result.now
    c.at-net.ensures c.row-row.ensures in
    told_at c.args.wiring.now.phys.now.nets c.args.n c.at-net.result.now
    (LeavesParent c.args.wiring.now.device.now) c.at-net.ensures (Some c.loop-k.k) (
      c.loop-k.invariant.kept,
      λ so. false≢true (sym c.if-not-leaves_last.true
          ∙ c.leaves_last.ensures.1 (λ lt.
          ap (λ (l : List ℕ). slice_index_or l (c.branch_at.result.now.depth - 1) 0)
          c.deref.ensures.value
          ∙ left c.at-net.result.now c.row-row.result.now c.loop-k.k c.branch_at.result.now
          (pair_at c.row-row.result.now c.loop-k.k) N c.loop-k.last.items c.loop-k.invariant.last
          c.args.wiring.now.device.now c.args.wiring.now.phys.now c.args.wiring.now.ends.now
          c.requires.wired.ends row so lt)),
    )

pub loop-k-preserved : goal.loop-k-preserved
loop-k-preserved c =
    let N : IsNext c.at-net.result.now c.row-row.result.now c.loop-k.k c.branch_at.result.now
    (pair_at c.row-row.result.now c.loop-k.k) = record {
      branch_is = c.branch_at.ensures;
      pair_is = pair_is c.row-row.result.now c.loop-k.k c.loop-k-test.true;
      sources = c.len-sources.ensures.preorder;
      stubs = c.len-stubs.ensures.preorder;
    } in
    let row = c.requires.wired.ends.each c.args.n c.at-net.result.now c.row-row.result.now
    c.at-net.ensures c.row-row.ensures in
    record {
      last = knows_more c.at-net.result.now c.row-row.result.now c.loop-k.k c.branch_at.result.now
          (pair_at c.row-row.result.now c.loop-k.k) N c.loop-k.last.items c.keep_last.new.last.items
          c.loop-k.invariant.last c.in_ok-keep_last.ensures.here c.in_ok-keep_last.ensures.above;
      kept = λ j lt. elim (cases_lt j c.loop-k.k) [
        | inl before ↦ c.loop-k.invariant.kept j before
        | inr here ↦ let same : c.loop-k.k ≡ j = omega (arith, lt, here) in
            subst (LeavesParent c.args.wiring.now.device.now c.at-net.result.now) same
            (leaves c.at-net.result.now c.row-row.result.now c.loop-k.k c.branch_at.result.now
            (pair_at c.row-row.result.now c.loop-k.k) N c.loop-k.last.items c.loop-k.invariant.last
            c.args.wiring.now.device.now c.args.wiring.now.phys.now c.args.wiring.now.ends.now
            c.requires.wired.ends row
            (λ some. ap (λ (l : List ℕ). slice_index_or l (c.branch_at.result.now.depth - 1) 0)
            (sym c.deref.ensures.value)
            ∙ c.leaves_last.ensures.0 c.if-not-leaves_last.false some))
      ];
    }

pub returns : goal.returns
returns c = told_at c.args.wiring.now.phys.now.nets c.args.n c.at-net.result.now
    (LeavesParent c.args.wiring.now.device.now) c.at-net.ensures None (λ k.
    elim (cases_lt k (length c.row-row.result.now)) [
      | inl lt ↦ c.loop-k.invariant.kept k
          (let test = c.loop-k-test.false in omega (arith, lt, test))
      | inr ge ↦
          let all : length c.row-row.result.now ≡ length (segments c.at-net.result.now) =
          (c.requires.wired.ends.each c.args.n c.at-net.result.now c.row-row.result.now
          c.at-net.ensures c.row-row.ensures).all in
          leaves_past c.args.wiring.now.device.now c.at-net.result.now k
          (λ few. omega (arith, ge, all, few))
    ])
