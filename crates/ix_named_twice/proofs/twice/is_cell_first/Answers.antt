use Rattle.std.proofs.Common.{◌≡◌, ◌<◌, ◌-◌, refl, sym, subst, List, length, slice_get, Some}
use Rattle.std.proofs.Common.{arith}
use Rattle.std.proofs.lemmas.Option.{slice_get_read, slice_get_within}
use Rattle.ix_hierarchy.specs.declared.instance.Instance.{Instance}
use Rattle.ix_hierarchy.specs.Lists.{AreInstances}
use Rattle.ix_instance_lists.specs.Listed.{HasNet}
use Rattle.ix_named_twice.proofs.Told.{earlier_by, leaf_first, leaf_there, port_first}
use Rattle.ix_named_twice.proofs.Told.{signal_below, signal_there}
use Rattle.ix_named_twice.proofs.twice.is_cell_first.Goals as goal

pub returns-then-cell-named : goal.returns-then-cell-named
returns-then-cell-named c = λ known design is are one other x y.
    port_first known design c.args.joined.now c.args.named.now is c.args.cell c.args.net one other
    c.if-cell-named.true x y

pub of_net-requires-clause-among : goal.of_net-requires-clause-among
of_net-requires-clause-among c =
    let given = c.requires.named in
    let joined = c.args.joined.now in
    let named = c.args.named.now in
    let nets = length joined.firsts.items in
    let number = c.index.result.now in
    let signals = named.signals.items in
    let is : slice_get signals c.args.net ≡ Some number =
    slice_get_read signals (length signals) c.args.net number refl
    (signal_there given.0 given.1 joined named c.args.net given.3 c.requires.net) c.index.ensures in (
      given.1,
      given.0.paths,
      nets,
      subst (λ (l : List Instance). AreInstances given.1 l given.0.paths nets)
          (sym c.deref.ensures.value) given.2.are_instances,
      signal_below given.0 given.1 joined named c.args.net number given.2 given.3 is,
    )

pub returns : goal.returns
returns c = λ known design is are one other x y.
    let joined = c.args.joined.now in
    let named = c.args.named.now in
    let nets = length joined.firsts.items in
    let number = c.index.result.now in
    let leaf = c.index-leaf.result.now in
    let place = c.args.cell - named.ports in
    let signals = named.signals.items in
    let leaves = named.leaves.items in
    let number_is : slice_get signals c.args.net ≡ Some number =
    slice_get_read signals (length signals) c.args.net number refl
    (signal_there known design joined named c.args.net is c.requires.net) c.index.ensures in
    let there = leaf_there known design joined named is c.args.cell one c.if-cell-named.false x in
    let within : place < length is.leaves = slice_get_within is.leaves place there.0 there.1 in
    let many : length leaves ≡ length is.leaves = is.are_leaves.many in
    let leaf_is : slice_get leaves place ≡ Some leaf =
    slice_get_read leaves (length leaves) place leaf refl (omega arith) c.index-leaf.ensures in
    let listed : AreInstances design c.deref.result.now known.paths nets =
    subst (λ (l : List Instance). AreInstances design l known.paths nets)
    (sym c.deref.ensures.value) are.are_instances in
    let has : HasNet design joined.instances.items c.of_net.result number =
    subst (λ (l : List Instance). HasNet design l c.of_net.result number) c.deref.ensures.value
    (c.of_net.ensures design known.paths nets listed
    (signal_below known design joined named c.args.net number are is number_is)) in
    earlier_by leaf c.of_net.result one other
    (leaf_first known design joined named is c.args.cell c.args.net number c.of_net.result leaf
    one other are c.if-cell-named.false leaf_is number_is has x y)
