use Rattle.std.proofs.Common.{◌≡◌, ◌<◌, ◌∙◌, ap, sym, slice_get, get_or, Some}
use Rattle.std.proofs.Common.{List, ℕ, length}
use Rattle.std.proofs.lemmas.Option.{slice_get-get_or}
use Rattle.ix_rec.specs.declared.forest.Branch.{Branch}
use Rattle.ix_rec.specs.declared.phys.Segment.{Segment}
use Rattle.ix_ends.proofs.There.{ends_there}
use Rattle.ix_ends.proofs.Pairing.{none_added, one_more_added, stops_here}
use Rattle.ix_ends.proofs.pairs.Pairs.add_trees.Goals as goal

branch_at : (branches trees : List (Branch Segment)) (k : ℕ) (b : Branch Segment)
    → branches ≡ trees → k < length branches → slice_get trees k ≡ Some (get_or branches k b)
branch_at branches trees k b same lt =
    ap (λ (xs : List (Branch Segment)). slice_get xs k) (sym same)
    ∙ slice_get-get_or branches k b lt

pub loop-k-init : goal.loop-k-init
loop-k-init c = none_added c.args.device.now c.args.self.now c.requires.numbers

pub returns-in_default-clause-stopped : goal.returns-in_default-clause-stopped
returns-in_default-clause-stopped c =
    stops_here c.args.device.now c.args.trees.now c.loop-k.k
    (get_or c.as_slice-branches.result.now c.loop-k.k c.index-branches-k.result) c.args.self.now
    c.loop-k.self
    (branch_at c.as_slice-branches.result.now c.args.trees.now c.loop-k.k c.index-branches-k.result
    c.as_slice-branches.ensures.branches c.loop-k-test.true)
    (sym c.in_default.ensures) c.loop-k.invariant

pub add-requires-clause-from : goal.add-requires-clause-from
add-requires-clause-from c =
    (ends_there c.args.device.now
    (get_or c.as_slice-branches.result.now c.loop-k.k c.index-branches-k.result).item c.in-Some.from
    c.in-Some.to (sym c.in-Some.ensures)).0

pub add-requires-clause-to : goal.add-requires-clause-to
add-requires-clause-to c =
    (ends_there c.args.device.now
    (get_or c.as_slice-branches.result.now c.loop-k.k c.index-branches-k.result).item c.in-Some.from
    c.in-Some.to (sym c.in-Some.ensures)).1

pub loop-k-preserved : goal.loop-k-preserved
loop-k-preserved c =
    one_more_added c.args.device.now c.args.trees.now c.loop-k.k
    (get_or c.as_slice-branches.result.now c.loop-k.k c.index-branches-k.result) c.in-Some.from
    c.in-Some.to c.args.self.now c.loop-k.self c.add.new.self
    (branch_at c.as_slice-branches.result.now c.args.trees.now c.loop-k.k c.index-branches-k.result
    c.as_slice-branches.ensures.branches c.loop-k-test.true)
    (sym c.in-Some.ensures) c.loop-k.invariant c.in_ok-add.ensures
