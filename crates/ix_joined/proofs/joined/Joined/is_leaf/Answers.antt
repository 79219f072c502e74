use Rattle.std.proofs.Common.{◌≡◌, sym, subst, get_or, slice_get, Some, not, IsTrue, ◌↔◌, Bool}
use Rattle.std.proofs.lemmas.Option.{slice_get-get_or}
use Rattle.ix_rec.specs.declared.netlist.CellInstance.{CellInstance}
use Rattle.ix_hierarchy.specs.Hierarchy.{IsLeaf}
use Rattle.ix_hierarchy.specs.declared.instance.Instance.{Instance}
use Rattle.ix_joined.proofs.Leaves.{leaf_told}
use Rattle.ix_joined.proofs.joined.Joined.is_leaf.Goals as goal

pub returns : goal.returns
returns c = λ known design path are at.
    let all = c.args.self.now.instances.items in
    let one : Instance = get_or all c.args.instance
    record { number = 0; declaration = 0; parent = 0; place = 0; first_net = 0 } in
    let one_is : slice_get all c.args.instance ≡ Some one =
    slice_get-get_or all c.args.instance _ c.requires.there in
    let told = leaf_told known design c.args.self.now c.args.instance path c.kind.result
    (record {
      are = are;
      below = c.requires.below;
      path_is = at;
      one = one;
      one_is = one_is;
      kind_is = c.kind.ensures one one_is;
    }) in
    subst (λ (b : Bool). IsTrue (not b) ↔ ((inst : CellInstance) × IsLeaf design path inst))
    (sym c.has_inside.ensures) told
