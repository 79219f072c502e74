use Rattle.std.proofs.Common.{◌≡◌, ◌<◌, ◌+◌, ◌-◌, ap, sym, subst, ◌∙◌, length, arith, slice_get, Some}
use Rattle.std.proofs.Common.{refl}
use Rattle.std.proofs.lemmas.Option.{slice_get_read, same_Some, slice_get_within}
use Rattle.ix_rec.specs.declared.netlist.Net.{Net}
use Rattle.ix_rec.specs.declared.netlist.Cell.{Cell}
use Rattle.ix_rec.specs.declared.netlist.NetlistRec.{NetlistRec}
use Rattle.ix_hierarchy.specs.declared.instance.Instance.{Instance}
use Rattle.ix_hierarchy.specs.declared.kind.Kind.{Kind}
use Rattle.ix_hierarchy.specs.Lists.{IsKind, first_cell}
use Rattle.ix_joined.specs.Joining.{Known, IsJoined}
use Rattle.ix_joined.proofs.Occurring.{cell_there, must_be_inside, net_named, net_there, same_net}
use Rattle.ix_joined.proofs.joined.Joined.net_name.Goals as goal

pub at-requires : goal.at-requires
at-requires c =
    let known = c.requires.joined.0 in
    let design : NetlistRec = c.args.rec.now in
    let net = net_there known design c.args.self.now c.args.instance c.args.occurrence
    c.requires.joined.1 c.requires.net in
    let one : Instance = c.requires.net.one in
    let kind = c.requires.joined.1.are_kinds.each one.declaration c.kind.result
    (c.kind.ensures one c.requires.net.one_is) in
    let first : first_cell design one.declaration ≡ Some c.in-Inside.cell =
    subst (λ (k : Kind). IsKind known.device design one.declaration k) c.in-Inside.is kind in
    slice_get_within design.cell_list c.in-Inside.cell net.cell
    (cell_there design one.declaration c.in-Inside.cell net.cell first net.inside_is)

pub at-requires-in-Inside : goal.at-requires-in-Inside
at-requires-in-Inside c =
    let known = c.requires.joined.0 in
    let design : NetlistRec = c.args.rec.now in
    let all = c.args.self.now.instances.items in
    let net = net_there known design c.args.self.now c.args.instance c.args.occurrence
    c.requires.joined.1 c.requires.net in
    let one : Instance = c.requires.net.one in
    let there : c.args.instance < length all =
    slice_get_within all c.args.instance one c.requires.net.one_is in
    let same : c.index.result.now ≡ one = same_Some c.index.result.now one
    (sym (slice_get_read all (length all) c.args.instance c.index.result.now refl there
    c.index.ensures) ∙ c.requires.net.one_is) in
    let kind = c.requires.joined.1.are_kinds.each one.declaration c.kind.result
    (c.kind.ensures one c.requires.net.one_is) in
    let first : first_cell design one.declaration ≡ Some c.in-Inside.cell =
    subst (λ (k : Kind). IsKind known.device design one.declaration k) c.in-Inside.is kind in
    let cells : c.at.result.now ≡ net.cell = same_Some c.at.result.now net.cell (sym c.at.ensures
    ∙ cell_there design one.declaration c.in-Inside.cell net.cell first net.inside_is) in
    let within : net.net < length c.at.result.now.nets =
    slice_get_within c.at.result.now.nets net.net net.of_net
    (ap (λ (x : Cell). slice_get x.nets net.net) cells ∙ net.net_is) in
    let number : c.args.occurrence ≡ one.first_net + net.net = net.number_is in
    let begins : c.index.result.now.first_net ≡ one.first_net =
    ap (λ (o : Instance). o.first_net) same in
    omega arith

-- the net that is read
is_read : (c : goal.After-result-1) (known : Known)
    (are : IsJoined known c.args.rec.now c.args.self.now)
    → (net_there known c.args.rec.now c.args.self.now c.args.instance c.args.occurrence are
    c.requires.net).of_net ≡ c.at-in-Inside.result.now
is_read c known are =
    let design : NetlistRec = c.args.rec.now in
    let all = c.args.self.now.instances.items in
    let net = net_there known design c.args.self.now c.args.instance c.args.occurrence are
    c.requires.net in
    let one : Instance = c.requires.net.one in
    let there : c.args.instance < length all =
    slice_get_within all c.args.instance one c.requires.net.one_is in
    let same : c.index.result.now ≡ one = same_Some c.index.result.now one
    (sym (slice_get_read all (length all) c.args.instance c.index.result.now refl there
    c.index.ensures) ∙ c.requires.net.one_is) in
    let kind = are.are_kinds.each one.declaration c.kind.result
    (c.kind.ensures one c.requires.net.one_is) in
    let first : first_cell design one.declaration ≡ Some c.in-Inside.cell =
    subst (λ (k : Kind). IsKind known.device design one.declaration k) c.in-Inside.is kind in
    let cells : c.at.result.now ≡ net.cell = same_Some c.at.result.now net.cell (sym c.at.ensures
    ∙ cell_there design one.declaration c.in-Inside.cell net.cell first net.inside_is) in
    let number : c.args.occurrence ≡ one.first_net + net.net = net.number_is in
    let begins : c.index.result.now.first_net ≡ one.first_net =
    ap (λ (o : Instance). o.first_net) same in
    let place : c.args.occurrence - c.index.result.now.first_net ≡ net.net = omega arith in
    same_Some net.of_net c.at-in-Inside.result.now (sym net.net_is
    ∙ ap (λ (x : Cell). slice_get x.nets net.net) (sym cells)
    ∙ ap (slice_get c.at.result.now.nets) (sym place) ∙ c.at-in-Inside.ensures)

pub returns-in-Inside-clause-named : goal.returns-in-Inside-clause-named
returns-in-Inside-clause-named c = λ known are.
    let design : NetlistRec = c.args.rec.now in
    let net = net_there known design c.args.self.now c.args.instance c.args.occurrence are
    c.requires.net in
    let one : Instance = c.requires.net.one in
    let kind = are.are_kinds.each one.declaration c.kind.result
    (c.kind.ensures one c.requires.net.one_is) in
    let first : first_cell design one.declaration ≡ Some c.in-Inside.cell =
    subst (λ (k : Kind). IsKind known.device design one.declaration k) c.in-Inside.is kind in
    subst (λ (n : Net). n.name < length known.names) (is_read c known are)
    (net_named (length known.names) design c.in-Inside.cell net.net net.cell net.of_net are.fits
    (cell_there design one.declaration c.in-Inside.cell net.cell first net.inside_is) net.net_is)

pub returns-in-Inside-clause-name : goal.returns-in-Inside-clause-name
returns-in-Inside-clause-name c = λ known at cell net are is occurs.
    let there = net_there known c.args.rec.now c.args.self.now c.args.instance c.args.occurrence are
    c.requires.net in
    ap (λ (n : Net). n.name) (sym (is_read c known are)
    ∙ same_net known c.args.rec.now c.args.self.now c.requires.net.one c.args.occurrence at cell net
    are there is occurs)

pub returns-in_default : goal.returns-in_default
returns-in_default c =
    let known = c.requires.joined.0 in
    let design : NetlistRec = c.args.rec.now in
    let net = net_there known design c.args.self.now c.args.instance c.args.occurrence
    c.requires.joined.1 c.requires.net in
    let one : Instance = c.requires.net.one in
    let kind = c.requires.joined.1.are_kinds.each one.declaration c.kind.result
    (c.kind.ensures one c.requires.net.one_is) in
    let inner = must_be_inside known.device design one.declaration c.kind.result net.cell kind
    net.inside_is in
    absurd (c.in_default.not-Inside inner.0 inner.1)
