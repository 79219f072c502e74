use Rattle.std.proofs.Common.{◌≡◌, sym, subst, get_or, slice_get, Some, IsTrue, ◌↔◌, Bool, ℕ}
use Rattle.std.proofs.lemmas.Option.{slice_get-get_or}
use Rattle.ix_rec.specs.declared.netlist.CellInstance.{CellInstance}
use Rattle.ix_hierarchy.specs.Pins.{IsPlainLeaf}
use Rattle.ix_hierarchy.specs.declared.instance.Instance.{Instance}
use Rattle.ix_joined.proofs.Leaves.{plain_told}
use Rattle.ix_joined.proofs.joined.Joined.is_cell.Goals as goal

pub returns : goal.returns
returns c = λ known design path are at.
    let all = c.args.self.now.instances.items in
    let one : Instance = get_or all c.args.instance
    record { number = 0; declaration = 0; parent = 0; place = 0; first_net = 0 } in
    let one_is : slice_get all c.args.instance ≡ Some one =
    slice_get-get_or all c.args.instance _ c.requires.there in
    let told = plain_told known design c.args.self.now c.args.instance path c.kind.result
    (record {
      are = are;
      below = c.requires.below;
      path_is = at;
      one = one;
      one_is = one_is;
      kind_is = c.kind.ensures one one_is;
    }) in
    subst (λ (b : Bool). IsTrue b ↔ ((inst : CellInstance) × (ty : ℕ)
    × IsPlainLeaf known.device design path inst ty)) (sym c.is_plain.ensures) told
