use Rattle.std.proofs.Common.{◌≡◌, sym, ap, ℕ, ◌-◌, arith}
use Rattle.ix_occupy.specs.declared.loads.NodeLoad.{NodeLoad}
use Rattle.ix_occupy.specs.Loads.{holder_count}
use Rattle.ix_occupy.proofs.Views.{holders_read, kept_read}
use Rattle.ix_occupy.proofs.Keeping.{recounts}
use Rattle.ix_occupy.proofs.occupancy.Occupancy.release.Goals as goal

pub overflow_sub-load : goal.overflow_sub-load
overflow_sub-load c =
    let read : holder_count c.args.self.now c.args.node ≡ c.index-load.result.now.holders =
    holders_read c.args.self.now c.self.inside.loads.items c.args.node c.get-place.result
    c.index-load.result.now c.self.view_is c.requires.inside c.get-place.ensures
    c.index-load.ensures in
    omega (arith, c.requires.held)

pub returns : goal.returns
returns c =
    let read : holder_count c.args.self.now c.args.node ≡ c.index-load.result.now.holders =
    holders_read c.args.self.now c.self.inside.loads.items c.args.node c.get-place.result
    c.index-load.result.now c.self.view_is c.requires.inside c.get-place.ensures
    c.index-load.ensures in
    recounts c.args.self.now c.self.inside.loads.items c.args.node c.get-place.result _ _
    c.self.view_is c.requires.inside c.get-place.ensures
    (ap (λ (n : ℕ). n - 1) (sym read))
    (ap (λ (l : NodeLoad). l.hist) (kept_read c.args.self.now c.self.inside.loads.items c.args.node
    c.get-place.result c.index-load.result.now c.self.view_is c.requires.inside
    c.get-place.ensures c.index-load.ensures))
