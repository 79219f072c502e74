use Rattle.std.proofs.Common.{◌≡◌, ◌<◌, ◌∙◌, sym, ap, ◌-◌, Bool, ℕ, arith}
use Rattle.ix_occupy.specs.Loads.{holder_count, others_at}
use Rattle.ix_occupy.proofs.Views.{holders_read}
use Rattle.ix_occupy.proofs.occupancy.Occupancy.others.Goals as goal

pub overflow_sub-result : goal.overflow_sub-result
overflow_sub-result c =
    let read : holder_count c.args.self.now c.args.node ≡ c.index.result.now.holders =
    holders_read c.args.self.now c.self.inside.loads.items c.args.node c.get.result
    c.index.result.now c.self.view_is c.requires.inside c.get.ensures c.index.ensures in
    let held : 0 < holder_count c.args.self.now c.args.node = c.requires.held c.if-mine.true in
    omega arith

pub returns-then-mine : goal.returns-then-mine
returns-then-mine c =
    let read : holder_count c.args.self.now c.args.node ≡ c.index.result.now.holders =
    holders_read c.args.self.now c.self.inside.loads.items c.args.node c.get.result
    c.index.result.now c.self.view_is c.requires.inside c.get.ensures c.index.ensures in
    ap (λ (n : ℕ). n - 1) (sym read) ∙ ap (λ (b : Bool). others_at c.args.self.now c.args.node b)
    (sym c.if-mine.true)

pub returns-else-mine : goal.returns-else-mine
returns-else-mine c =
    let read : holder_count c.args.self.now c.args.node ≡ c.index.result.now.holders =
    holders_read c.args.self.now c.self.inside.loads.items c.args.node c.get.result
    c.index.result.now c.self.view_is c.requires.inside c.get.ensures c.index.ensures in
    sym read ∙ ap (λ (b : Bool). others_at c.args.self.now c.args.node b) (sym c.if-mine.false)
