use Rattle.std.proofs.Common.{◌≡◌, ◌<◌, ap, sym, ◌∙◌, length, arith, slice_get, Some}
use Rattle.std.proofs.Common.{refl}
use Rattle.std.proofs.lemmas.Option.{slice_get_read, same_Some}
use Rattle.ix_hierarchy.specs.declared.instance.Instance.{Instance}
use Rattle.ix_joined.proofs.Occurring.{kind_there}
use Rattle.ix_joined.proofs.joined.Joined.kind.Goals as goal

pub index-requires-2 : goal.index-requires-2
index-requires-2 c =
    let all = c.args.self.now.instances.items in
    let there : c.args.instance < length all = c.requires.there in
    let is : slice_get all c.args.instance ≡ Some c.index.result.now =
    slice_get_read all (length all) c.args.instance c.index.result.now refl there c.index.ensures in
    let less : c.index.result.now.declaration < length c.args.self.now.kinds.items =
    kind_there c.requires.joined.0 c.requires.joined.1 c.args.self.now c.args.instance
    c.index.result.now c.requires.joined.2 is in
    omega (arith, c.args.self.now.kinds.ok.0)

pub returns : goal.returns
returns c = λ one at.
    let all = c.args.self.now.instances.items in
    let kinds = c.args.self.now.kinds.items in
    let there : c.args.instance < length all = c.requires.there in
    let is : slice_get all c.args.instance ≡ Some c.index.result.now =
    slice_get_read all (length all) c.args.instance c.index.result.now refl there c.index.ensures in
    let same : c.index.result.now ≡ one = same_Some c.index.result.now one (sym is ∙ at) in
    let less = kind_there c.requires.joined.0 c.requires.joined.1 c.args.self.now c.args.instance
    c.index.result.now c.requires.joined.2 is in
    ap (λ (o : Instance). slice_get kinds o.declaration) (sym same)
    ∙ slice_get_read kinds (length kinds) c.index.result.now.declaration c.index-2.result.now refl
    less c.index-2.ensures
