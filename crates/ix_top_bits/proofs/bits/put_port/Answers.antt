use Rattle.std.proofs.Common.{◌≡◌, ◌<◌, ◌+◌, ◌++◌, ◌∷◌, [], ap, sym, subst, ◌∙◌, refl, arith, map}
use Rattle.std.proofs.Common.{append_assoc, slice_get}
use Rattle.std.specs.List.{range_with_len}
use Rattle.std.proofs.lemmas.List.FromFn.{map-range_with_len_more}
use Rattle.ix_hierarchy.specs.Hierarchy.{width}
use Rattle.ix_hierarchy.specs.Pins.{IsTopBit}
use Rattle.ix_joined.specs.Joining.{bits_at}
use Rattle.ix_joined.specs.declared.top_bit.TopBit.{TopBit}
use Rattle.ix_top_bits.specs.Given.{AreBitsOf}
use Rattle.ix_top_bits.proofs.Places.{placed}
use Rattle.ix_top_bits.proofs.Pushing.{one_more}
use Rattle.ix_top_bits.proofs.bits.put_port.Goals as goal

pub loop-index-preserved : goal.loop-index-preserved
loop-index-preserved c = λ device all paths place places are which before.
    let design = c.args.rec.now in
    let firsts = c.args.firsts.now in
    let f = placed place c.args.port c.at-one.result.now in
    let i = c.loop-index.index in
    let so_far = c.loop-index.invariant device all paths place places are which before in
    let bound : c.width-index-end.result ≡ width c.at-one.result.now =
    c.width-index-end.ensures.width in
    let lt : i < c.width-index-end.result = c.loop-index-test.true in
    let bit : IsTopBit design place i c.args.port c.at-one.result.now =
    record { which = which; port_is = c.at-one.ensures; within = omega arith } in
    let new : TopBit = record {
      port = c.args.port;
      index = i;
      dir = c.at-one.result.now.dir;
      net = c.top_net.result;
    } in
    let more = one_more design all paths firsts (places ++ map f (range_with_len 0 i))
    c.loop-index.bits.items (f i) new so_far
    (record {
      port_is = refl;
      index_is = refl;
      dir_is = refl;
      net_is = c.top_net.ensures device all paths place c.at-one.result.now are bit;
    }) in
    let again : (places ++ map f (range_with_len 0 i)) ++ f i ∷ []
    ≡ places ++ map f (range_with_len 0 (i + 1)) =
    append_assoc places (map f (range_with_len 0 i)) (f i ∷ []) ∙ ap (λ l. places ++ l)
    (sym (map-range_with_len_more f 0 i i (omega arith))) in
    subst (λ l. AreBitsOf design all paths firsts l c.push.new.self.items) again
    (subst (λ l. AreBitsOf design all paths firsts
    ((places ++ map f (range_with_len 0 i)) ++ f i ∷ []) l) (sym c.in_ok-push.ensures.items) more)

pub returns : goal.returns
returns c = λ device all paths place places are which before.
    let so_far = c.loop-index.invariant device all paths place places are which before in
    let design = c.args.rec.now in
    let f = placed place c.args.port c.at-one.result.now in
    let bound : c.width-index-end.result ≡ width c.at-one.result.now =
    c.width-index-end.ensures.width in
    let end : c.loop-index.index ≡ width c.at-one.result.now = omega arith in
    let all_of : map f (range_with_len 0 c.loop-index.index)
    ≡ bits_at place c.args.port (slice_get design.port_list c.args.port) =
    ap (λ n. map f (range_with_len 0 n)) end
    ∙ ap (bits_at place c.args.port) (sym c.at-one.ensures) in
    subst (λ l. AreBitsOf design all paths c.args.firsts.now (places ++ l) c.loop-index.bits.items)
    all_of so_far
