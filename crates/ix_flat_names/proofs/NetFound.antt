-- The instance of a net's number.
use Rattle.std.proofs.Common.{◌≡◌, ◌<◌, ap, sym, ◌∙◌, ℕ, [], slice_get, Some, arith}
use Rattle.std.proofs.Common.{length, get_or}
use Rattle.std.proofs.lemmas.Option.{slice_get_within, slice_get-get_or}
use Rattle.ix_rec.specs.declared.netlist.NetlistRec.{NetlistRec}
use Rattle.ix_hierarchy.specs.Hierarchy.{Path}
use Rattle.ix_hierarchy.specs.Nets.{Occurrence}
use Rattle.ix_hierarchy.specs.Lists.{IsNumber}
use Rattle.ix_instance_lists.specs.Listed.{HasNet}
use Rattle.ix_joined.specs.declared.joined.Joined.{Joined}
use Rattle.ix_joined.specs.Joining.{Known, IsJoined}

pub path_of_net : (known : Known) (design : NetlistRec) (joined : Joined) (instance net : ℕ)
    (at : Occurrence) → IsJoined known design joined
    → HasNet design joined.instances.items instance net
    → IsNumber design joined.instances.items known.paths at net
    → slice_get known.paths instance ≡ Some at.path
path_of_net known design joined instance net at are has number =
    let all = joined.instances.items in
    let there : instance < length all = slice_get_within all instance has.one has.one_is in
    let many : length known.paths ≡ length all = are.are_instances.many in
    let path : Path = get_or known.paths instance [] in
    let path_is : slice_get known.paths instance ≡ Some path =
    slice_get-get_or known.paths instance [] (omega arith) in
    let of = are.numbered.of instance net path has path_is in
    let same : at ≡ record { path = path; net = of.0 } =
    are.numbered.one at record { path = path; net = of.0 } net number of.4 in
    path_is ∙ ap (λ (o : Occurrence). Some o.path) (sym same)
