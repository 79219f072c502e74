use Rattle.std.proofs.Common.{◌≡◌, ◌<◌, ◌+◌, ◌++◌, ◌∷◌, [], ap, sym, subst, ◌∙◌, arith}
use Rattle.std.proofs.Common.{List, slice_get, Some, take, length, unwrap_or, ℕ}
use Rattle.std.specs.Option.{option_map}
use Rattle.std.proofs.lemmas.List.{take_more, take_all, length-take-le}
use Rattle.std.proofs.lemmas.Option.{slice_get_within, get_or_from_slice_get}
use Rattle.ix_rec.specs.declared.netlist.CellDeclaration.{CellDeclaration}
use Rattle.ix_hierarchy.specs.Hierarchy.{ports_of}
use Rattle.ix_joined.specs.Joining.{bits_at, places_from}
use Rattle.ix_top_bits.specs.Given.{AreBitsOf}
use Rattle.ix_top_bits.proofs.Places.{are_places, places_more}
use Rattle.ix_top_bits.proofs.bits.top_bits.Goals as goal

pub loop-place-preserved : goal.loop-place-preserved
loop-place-preserved c = λ device all paths are.
    let design = c.args.rec.now in
    let firsts = c.args.firsts.now in
    let so_far = c.loop-place.invariant device all paths are in
    let ports : List ℕ = ports_of design design.top_inst.cell in
    let same : ports ≡ c.at-top.result.now.ports =
    ap (λ o. unwrap_or (option_map (λ (d : CellDeclaration). d.ports) o) []) c.at-top.ensures in
    let k = c.loop-place.place in
    let number = c.at.result.now in
    let which : slice_get ports k ≡ Some number =
    ap (λ (l : List ℕ). slice_get l k) same ∙ c.at.ensures in
    let lt : k < length ports = slice_get_within ports k number which in
    let long : length (take k ports) ≡ k = length-take-le k ports (omega arith) in
    let next : take (k + 1) ports ≡ take k ports ++ number ∷ [] = take_more ports k number lt
    ∙ ap (λ n. take k ports ++ n ∷ []) (get_or_from_slice_get ports k number number which) in
    let place : 0 + length (take k ports) ≡ k = omega arith in
    let more : places_from design 0 (take (k + 1) ports)
    ≡ places_from design 0 (take k ports) ++ bits_at k number (slice_get design.port_list number) =
    ap (places_from design 0) next ∙ places_more design 0 (take k ports) number
    ∙ ap (λ n. places_from design 0 (take k ports)
    ++ bits_at n number (slice_get design.port_list number)) place in
    subst (λ l. AreBitsOf design all paths firsts l c.put_port.new.bits.items) (sym more)
    (c.in_ok-put_port.ensures device all paths k (places_from design 0 (take k ports)) are which
    so_far)

pub returns : goal.returns
returns c = λ device all paths are.
    let design = c.args.rec.now in
    let so_far = c.loop-place.invariant device all paths are in
    let ports : List ℕ = ports_of design design.top_inst.cell in
    let same : ports ≡ c.at-top.result.now.ports =
    ap (λ o. unwrap_or (option_map (λ (d : CellDeclaration). d.ports) o) []) c.at-top.ensures in
    let long : length ports ≡ length c.at-top.result.now.ports = ap length same in
    let whole : take c.loop-place.place ports ≡ ports =
    take_all c.loop-place.place ports (omega arith) in
    let are_all = subst (λ (l : List ℕ). AreBitsOf design all paths c.args.firsts.now
    (places_from design 0 l) c.loop-place.bits.items) whole so_far in
    record { places = are_places design; many = are_all.many; each = are_all.each }
