use Rattle.std.proofs.Common.{◌≡◌, ◌<◌, ◌+◌, ◌∙◌, ◌++◌, ◌∷◌, [], ap, sym, subst, List, ℕ, slice_get}
use Rattle.std.proofs.Common.{Some, length, get_or}
use Rattle.std.proofs.lemmas.Bool.{false≢true}
use Rattle.std.proofs.lemmas.Option.{slice_get-get_or}
use Rattle.ix_rec.specs.declared.flow.FlatCell.{FlatCell}
use Rattle.ix_hierarchy.specs.declared.instance.Instance.{Instance}
use Rattle.ix_hierarchy.specs.Hierarchy.{flat_name}
use Rattle.ix_hierarchy.specs.FlatDesign.{LeafCell}
use Rattle.ix_hierarchy.specs.Lists.{AreInstances}
use Rattle.ix_leaf_cells.specs.LeavesTo.{AreTo}
use Rattle.ix_leaf_cells.proofs.More.{path_of, same_type, to_more, to_none, type_named}
use Rattle.ix_leaf_cells.proofs.leaves.put_leaf.Goals as goal

pub returns-in_ok-push-2-clause-leaves : goal.returns-in_ok-push-2-clause-leaves
returns-in_ok-push-2-clause-leaves c = λ known texts are to.
    let design = c.args.rec.now in
    let joined = c.args.joined.now in
    let i = c.args.instance in
    let old = c.args.names.now in
    let new = c.add_name.new.names in
    let keeps = c.add_name.ensures.keeps in
    let grown = c.names_grow.ensures old new design keeps c.requires.fits in
    let path = path_of known design joined i are c.requires.there in
    let plain = (c.is_cell.ensures known design path.0 are path.1).0 c.if-is_cell.true in
    let leaf : LeafCell = record { path = path.0; inst = plain.0; ty = plain.1 } in
    let cell : FlatCell = record { name = c.in_ok-name.name; ty = c.type_of-ty.result } in
    let nets = length joined.firsts.items in
    let told = c.in_ok-text.ensures known.paths nets path.0
    (subst (λ (l : List Instance). AreInstances design l known.paths nets)
    (sym c.deref.ensures.value) are.are_instances) path.1 in
    let named : slice_get new c.in_ok-name.name ≡ Some (flat_name new design path.0 []) =
    c.in_ok-name.ensures.text ∙ ap Some (c.as_str.ensures.value ∙ told ∙ grown.flat path.0 []) in
    let ty : c.type_of-ty.result ≡ plain.1 =
    same_type known design joined i c.type_of-ty.result leaf are path.1 plain.2 c.type_of-ty.ensures
    in
    let small : c.type_of-ty.result < length new =
    type_named (length new) design joined i c.type_of-ty.result grown.fits c.type_of-ty.ensures in
    let typed : slice_get new c.type_of-ty.result ≡ Some (get_or new plain.1 []) =
    slice_get-get_or new c.type_of-ty.result [] small ∙ ap (λ n. Some (get_or new n [])) ty in
    let more = to_more known design joined old new texts i leaf cell c.args.leaves.now.items
    c.args.cells.now.items are keeps grown path.1 plain.2 named typed to in
    subst (λ (ls : List ℕ). AreTo known design new texts (i + 1) ls c.push.new.self.items)
    (sym c.in_ok-push-2.ensures.items)
    (subst (λ (cs : List FlatCell). AreTo known design new texts (i + 1)
    (c.args.leaves.now.items ++ i ∷ []) cs) (sym c.in_ok-push.ensures.items) more)

pub returns-else-is_cell-clause-leaves : goal.returns-else-is_cell-clause-leaves
returns-else-is_cell-clause-leaves c = λ known texts are to.
    let path = path_of known c.args.rec.now c.args.joined.now c.args.instance are c.requires.there in
    to_none known c.args.rec.now c.args.names.now texts c.args.instance path.0
    c.args.leaves.now.items c.args.cells.now.items path.1
    (λ plain. false≢true (sym c.if-is_cell.false
    ∙ (c.is_cell.ensures known c.args.rec.now path.0 are path.1).1 plain)) to
