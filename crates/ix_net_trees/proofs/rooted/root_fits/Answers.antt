use Rattle.std.proofs.Common.{◌≡◌, ◌≤◌, ◌∙◌, ap, sym, refl, ℕ, Bool, true, false, nat_lt, arith}
use Rattle.std.specs.Prelude.{length, Some, None, is_some, if◌then◌else◌, option_map}
use Rattle.std.proofs.lemmas.Bool.{ltb-true, lt-ltb}
use Rattle.ix_rec.specs.declared.forest.Branch.{Branch}
use Rattle.ix_rec.specs.declared.phys.Segment.{Segment}
use Rattle.ix_net_trees.proofs.NodeConstants.{from_node}
use Rattle.ix_net_trees.proofs.Roots.{of_stub}
use Rattle.ix_net_trees.proofs.rooted.root_fits.Goals as goal

-- a number below another is there
some_below : (b : Bool) (n : ℕ) → is_some (if b then Some n else None) ≡ b
some_below true n = refl
some_below false n = refl

pub returns-else-k-len : goal.returns-else-k-len
returns-else-k-len c =
    let numbers = c.requires.numbers c.branch_at-branch.result.now.item
    (ap (option_map (λ (b : Branch Segment). b.item)) c.branch_at-branch.ensures) in
    let from = from_node c.args.known.now.device.now c.args.known.now.phys.now
    c.args.known.now.ends.now c.requires.known.ends c.branch_at-branch.result.now.item c.args.pair
    numbers in
    let late : length c.args.net.now.sources ≤ c.args.k =
    let count = c.len.ensures.count in let past = c.if-k-len.false in omega (arith, count, past) in
    let fits = of_stub c.args.known.now.device.now c.args.known.now.phys.now c.args.net.now c.args.k
    c.branch_at-branch.result.now c.branch_at-branch.ensures c.if-branch-gt0.false late in
    let is : c.is_some.result ≡ nat_lt c.args.pair.from c.args.known.now.ends.now.nodes =
    c.is_some.ensures ∙ (ap is_some c.node.ensures
    ∙ some_below (nat_lt c.args.pair.from c.args.known.now.ends.now.nodes) c.args.pair.from) in (
      λ h. fits.0 (from.1 (ltb-true c.args.pair.from c.args.known.now.ends.now.nodes (sym is ∙ h))),
      λ h. is ∙ lt-ltb c.args.pair.from c.args.known.now.ends.now.nodes (from.0 (fits.1 h)),
    )
