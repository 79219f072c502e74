use Rattle.std.proofs.Common.{◌≡◌, ◌<◌, ◌∙◌, sym, ap, ℕ, ◌+◌, ◌^◌, length, rules, arith}
use Rattle.std.specs.Vec.{vec_capacity}
use Rattle.std.proofs.lemmas.Bool.{not-true}
use Rattle.ix_occupy.specs.declared.loads.NodeLoad.{NodeLoad}
use Rattle.ix_occupy.specs.Loads.{holder_count}
use Rattle.ix_occupy.proofs.Counting.{hit}
use Rattle.ix_occupy.proofs.Views.{holders_read, kept_read, length_seen}
use Rattle.ix_occupy.proofs.Keeping.{recounts, few_shared, room_for, byte_is}
use Rattle.ix_occupy.proofs.occupancy.Occupancy.claim.Goals as goal

pub overflow_add-load : goal.overflow_add-load
overflow_add-load c =
    let read : holder_count c.args.self.now c.args.node ≡ c.index-load.result.now.holders =
    holders_read c.args.self.now c.self.inside.loads.items c.args.node c.get-place.result
    c.index-load.result.now c.self.view_is c.requires.inside c.get-place.ensures
    c.index-load.ensures in
    let few : c.index-load.result.now.holders + 1 < 2 ^ 32 = omega (arith, c.requires.room) in
    search rules

pub overflow_add-self : goal.overflow_add-self
overflow_add-self c =
    let inside : c.args.node < length c.self.inside.loads.items =
    omega (
      arith,
      c.requires.inside,
      length_seen c.args.self.now c.self.inside.loads.items
          c.self.view_is,
    ) in
    let few : c.self.inside.shared + hit c.index-load.result.now.holders 1 < 2 ^ 32 =
    few_shared c.self.inside.loads.items c.self.inside.touched.items
    (vec_capacity c.self.inside.touched) c.self.inside.shared c.args.node
    c.index-load.result.now c.self.invariant inside
    (kept_read c.args.self.now c.self.inside.loads.items c.args.node c.get-place.result
    c.index-load.result.now c.self.view_is c.requires.inside c.get-place.ensures
    c.index-load.ensures) in
    let is : c.from.result ≡ hit c.index-load.result.now.holders 1 = c.from.ensures ∙ byte_is _ in
    let fits : c.self.inside.shared + c.from.result < 2 ^ 32 = omega arith in
    search rules

pub put_node-requires : goal.put_node-requires
put_node-requires c =
    let inside : c.args.node < length c.self.inside.loads.items =
    omega (
      arith,
      c.requires.inside,
      length_seen c.args.self.now c.self.inside.loads.items
          c.self.view_is,
    ) in
    let room : length c.self.inside.touched.items < vec_capacity c.self.inside.touched =
    room_for c.self.inside.loads.items c.self.inside.touched.items
    (vec_capacity c.self.inside.touched) c.self.inside.shared c.args.node
    c.index-load.result.now c.self.invariant inside
    (kept_read c.args.self.now c.self.inside.loads.items c.args.node c.get-place.result
    c.index-load.result.now c.self.view_is c.requires.inside c.get-place.ensures
    c.index-load.ensures)
    (not-true _ c.if-not-load.true) in
    omega (arith, c.self.inside.touched.ok.0)

pub returns-then-not-load : goal.returns-then-not-load
returns-then-not-load c =
    let read : holder_count c.args.self.now c.args.node ≡ c.index-load.result.now.holders =
    holders_read c.args.self.now c.self.inside.loads.items c.args.node c.get-place.result
    c.index-load.result.now c.self.view_is c.requires.inside c.get-place.ensures
    c.index-load.ensures in
    recounts c.args.self.now c.self.inside.loads.items c.args.node c.get-place.result _ _
    c.self.view_is c.requires.inside c.get-place.ensures
    (ap (λ (n : ℕ). n + 1) (sym read))
    (ap (λ (l : NodeLoad). l.hist) (kept_read c.args.self.now c.self.inside.loads.items c.args.node
    c.get-place.result c.index-load.result.now c.self.view_is c.requires.inside
    c.get-place.ensures c.index-load.ensures))

pub returns-else-not-load : goal.returns-else-not-load
returns-else-not-load c =
    let read : holder_count c.args.self.now c.args.node ≡ c.index-load.result.now.holders =
    holders_read c.args.self.now c.self.inside.loads.items c.args.node c.get-place.result
    c.index-load.result.now c.self.view_is c.requires.inside c.get-place.ensures
    c.index-load.ensures in
    recounts c.args.self.now c.self.inside.loads.items c.args.node c.get-place.result _ _
    c.self.view_is c.requires.inside c.get-place.ensures
    (ap (λ (n : ℕ). n + 1) (sym read))
    (ap (λ (l : NodeLoad). l.hist) (kept_read c.args.self.now c.self.inside.loads.items c.args.node
    c.get-place.result c.index-load.result.now c.self.view_is c.requires.inside
    c.get-place.ensures c.index-load.ensures))
