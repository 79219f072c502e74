use Rattle.std.proofs.Common.{◌≡◌, ◌<◌, ◌∙◌, ap, sym, subst, List, length, arith, get_or, [], ◌∷◌}
use Rattle.std.proofs.Common.{string_bytes}
use Rattle.std.proofs.lemmas.Option.{slice_get_within}
use Rattle.std.proofs.lemmas.Result.{IfOk-weaker}
use Rattle.ix_hierarchy.specs.Hierarchy.{flat_name}
use Rattle.ix_hierarchy.specs.declared.instance.Instance.{Instance}
use Rattle.ix_hierarchy.specs.Lists.{AreInstances}
use Rattle.ix_hierarchy.specs.Nets.{net_text}
use Rattle.ix_instance_lists.specs.Listed.{HasNet}
use Rattle.ix_flat_names.proofs.NetFound.{path_of_net}
use Rattle.ix_flat_names.proofs.texts.net_text.Goals as goal

pub net_name-name-requires-clause-net : goal.net_name-name-requires-clause-net
net_name-name-requires-clause-net c =
    let known = c.requires.joined.0 in
    let design = c.args.rec.now in
    let joined = c.args.joined.now in
    let are = c.requires.joined.1 in
    let nets = length joined.firsts.items in
    subst (λ (l : List Instance). HasNet design l c.of_net-instance.result c.args.net)
    c.deref.ensures.value
    (c.of_net-instance.ensures design known.paths nets
    (subst (λ (l : List Instance). AreInstances design l known.paths nets)
    (sym c.deref.ensures.value) are.are_instances) c.requires.there)

pub text_in-requires-clause-there : goal.text_in-requires-clause-there
text_in-requires-clause-there c =
    let known = c.requires.joined.0 in
    let design = c.args.rec.now in
    let joined = c.args.joined.now in
    let are = c.requires.joined.1 in
    let nets = length joined.firsts.items in
    let has = c.of_net-instance.ensures design known.paths nets
    (subst (λ (l : List Instance). AreInstances design l known.paths nets)
    (sym c.deref.ensures.value) are.are_instances) c.requires.there in
    let there : c.of_net-instance.result < length c.deref.result.now =
    slice_get_within c.deref.result.now c.of_net-instance.result has.one has.one_is in
    let same : length c.deref.result.now ≡ length c.deref-2.result.now =
    ap length (c.deref.ensures.value ∙ sym c.deref-2.ensures.value) in
    omega arith

pub returns : goal.returns
returns c = λ known at cell of_net are number occurs.
    let names = c.args.names.now in
    let design = c.args.rec.now in
    let joined = c.args.joined.now in
    let nets = length joined.firsts.items in
    let has = subst (λ (l : List Instance). HasNet design l c.of_net-instance.result c.args.net)
    c.deref.ensures.value
    (c.of_net-instance.ensures design known.paths nets
    (subst (λ (l : List Instance). AreInstances design l known.paths nets)
    (sym c.deref.ensures.value) are.are_instances) c.requires.there) in
    let path_is = path_of_net known design joined c.of_net-instance.result c.args.net at are has number
    in
    let told = c.text_in.ensures known.paths nets at.path
    (subst (λ (l : List Instance). AreInstances design l known.paths nets)
    (sym c.deref-2.ensures.value) are.are_instances) path_is in
    let name : c.net_name-name.result ≡ of_net.name =
    c.net_name-name.ensures.name known at cell of_net are number occurs in
    IfOk-weaker c.text_in.result
    (λ text. string_bytes text ≡ flat_name names design at.path
    (get_or names c.net_name-name.result [] ∷ []))
    (λ text. string_bytes text ≡ net_text names design at.path of_net)
    (λ text e. e ∙ ap (λ n. flat_name names design at.path (get_or names n [] ∷ [])) name) told
