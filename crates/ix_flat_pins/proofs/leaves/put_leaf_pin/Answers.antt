use Rattle.std.proofs.Common.{sym, subst, Bool}
use Rattle.std.specs.Prelude.{◌↔◌, IsTrue}
use Rattle.std.proofs.lemmas.Result.{on_ok_weaker}
use Rattle.ix_hierarchy.specs.Hierarchy.{Path}
use Rattle.ix_hierarchy.specs.Pins.{Pin, LeafPin, IsDriver, IsPlainLeaf}
use Rattle.ix_hierarchy.specs.Lists.{bit_in}
use Rattle.ix_flat_pins.specs.Items.{Adds, IsJust}
use Rattle.ix_flat_pins.proofs.Adding.{just_adds, net_low}
use Rattle.ix_flat_pins.proofs.RowPins.{plain_drives, same_path, same_pin}
use Rattle.ix_flat_pins.proofs.leaves.put_leaf_pin.Goals as goal

pub net_ref-requires-clause-state : goal.net_ref-requires-clause-state
net_ref-requires-clause-state c =
    let known = c.requires.0 in
    let parts = c.requires.1 in
    let ready = c.requires.2 in
    let place = c.requires.3 in
    let found = c.pin-pin.ensures known ready.listed.joined_is ready.listed.constants_are place in
    (net_low known c.args.rec.now c.args.joined.now c.args.constants.now c.args.states.now c.args.numbers.now parts _ c.pin-pin.result.net ready found.net_is).0

pub net_ref-requires-clause-number : goal.net_ref-requires-clause-number
net_ref-requires-clause-number c =
    let known = c.requires.0 in
    let parts = c.requires.1 in
    let ready = c.requires.2 in
    let place = c.requires.3 in
    let found = c.pin-pin.ensures known ready.listed.joined_is ready.listed.constants_are place in
    (net_low known c.args.rec.now c.args.joined.now c.args.constants.now c.args.states.now c.args.numbers.now parts _ c.pin-pin.result.net ready found.net_is).1

pub returns : goal.returns
returns c = on_ok_weaker c.put.result (λ new_is known parts inst ty ready at plain.
    let design = c.args.rec.now in
    let joined = c.args.joined.now in
    let found = c.pin-pin.ensures known ready.listed.joined_is ready.listed.constants_are at in
    let its : IsPlainLeaf known.device design found.at.path inst ty =
    subst (λ (p : Path). IsPlainLeaf known.device design p inst ty) (same_path known design joined c.args.instance c.args.place at found.at) plain in
    let drives = subst (λ (b : Bool). IsTrue b ↔ IsDriver known.names known.device design (LeafPin found.at.path (bit_in found.at.row)))
    (sym c.is_driver.ensures) (plain_drives known design found.at.path inst ty (bit_in found.at.row) c.pin-pin.result.role its found.role_is) in
    subst (λ (p : Pin). Adds known design parts (IsJust p c.args.cell) c.args.items.now.items c.put.new.items.items)
    (same_pin known design joined c.args.instance c.args.place found.at at)
    (just_adds known design joined c.args.constants.now c.args.states.now c.args.numbers.now parts
    (LeafPin found.at.path (bit_in found.at.row)) c.args.cell c.pin-pin.result.net c.pin-pin.result.name found.text c.is_driver.result
    c.net_ref.result c.args.items.now.items c.put.new.items.items ready found.net_is found.name_is found.written_is drives
    (λ state number s n. c.net_ref.ensures state number s n) new_is)) c.put.ensures
