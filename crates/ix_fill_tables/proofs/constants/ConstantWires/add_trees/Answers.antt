use Rattle.std.proofs.Common.{◌≡◌, ◌<◌, ◌∙◌, ap, sym, subst, slice_get, get_or, Some, List, ℕ}
use Rattle.std.proofs.Common.{length, arith}
use Rattle.std.proofs.lemmas.Option.{slice_get-get_or}
use Rattle.ix_rec.specs.declared.forest.Branch.{Branch}
use Rattle.ix_rec.specs.declared.phys.Segment.{Segment}
use Rattle.ix_fill_tables.specs.Holdings.{Adds, IsAmong}
use Rattle.ix_fill_tables.proofs.Wires.{adds_none, no_segment, next_segment}
use Rattle.ix_fill_tables.proofs.constants.ConstantWires.add_trees.Goals as goal

branch_at : (branches trees : List (Branch Segment)) (k : ℕ) (b : Branch Segment)
    → branches ≡ trees → k < length branches → slice_get trees k ≡ Some (get_or branches k b)
branch_at branches trees k b same lt =
    ap (λ (xs : List (Branch Segment)). slice_get xs k) (sym same)
    ∙ slice_get-get_or branches k b lt

pub loop-k-init : goal.loop-k-init
loop-k-init c = adds_none (IsAmong c.args.device.now c.args.trees.now 0 c.args.constant)
    c.args.self.now.holdings (no_segment c.args.device.now c.args.trees.now c.args.constant)

pub loop-k-preserved : goal.loop-k-preserved
loop-k-preserved c = next_segment c.args.device.now c.args.trees.now c.loop-k.k c.args.constant
    (get_or c.as_slice-branches.result.now c.loop-k.k c.index-branches-k.result)
    c.args.self.now.holdings c.loop-k.self.holdings c.add_segment.new.self.holdings
    (branch_at c.as_slice-branches.result.now c.args.trees.now c.loop-k.k c.index-branches-k.result
    c.as_slice-branches.ensures.branches c.loop-k-test.true) c.loop-k.invariant
    c.in_ok-add_segment.ensures

pub returns : goal.returns
returns c =
    let end : c.loop-k.k ≡ length c.args.trees.now =
    (let below = c.loop-k.auto.k-end in let past = c.loop-k-test.false in
    omega (arith, below, past)) ∙ ap length c.as_slice-branches.ensures.branches in
    subst (λ n. Adds (IsAmong c.args.device.now c.args.trees.now n c.args.constant)
    c.args.self.now.holdings c.loop-k.self.holdings) end c.loop-k.invariant
