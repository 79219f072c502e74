use Rattle.std.proofs.Common.{◌≡◌, ◌≤◌, ◌<◌, ◌∙◌, length, ap, sym, append_assoc, arith}
use Rattle.std.proofs.lemmas.List.{append-nil, length-map}
use Rattle.ix_frame.specs.Objects.{element_of}
use Rattle.ix_frame.specs.Sound.{sound_elements}
use Rattle.ix_frame.specs.Target.{Elements, Object}
use Rattle.ix_frame.specs.Views.{elements_of}
use Rattle.ix_message.specs.Device.{tile_type}
use Rattle.ix_schema.specs.Said.{said, each_said}
use Rattle.ix_device_read.specs.Sizes.{site_type_count}
use Rattle.ix_device_read.proofs.Said.{said_length, said_next, said_no_more, types_of_sites}
use Rattle.ix_device_read.proofs.device.site_type_counts.Goals as goal

pub loop-i-preserved : goal.loop-i-preserved
loop-i-preserved c =
    let l = elements_of c.args.list in
    let i = c.loop-i.i in
    let lt : i < l.count = omega arith in
    let one : c.len-count.result ≡ site_type_count (said tile_type (element_of l i)) =
    c.len-count.ensures ∙ ap (λ (e : Elements). e.count) c.sound_list.ensures ∙ ap (λ (o : Object). (sound_elements o 0).count) c.at.ensures ∙ sym (types_of_sites (element_of l i)) in
    rw (c.in_ok-push.ensures.ok, one, append_assoc) (rw (said_next (said tile_type) l.count l i lt) at c.loop-i.invariant)

pub returns-clause-counts : goal.returns-clause-counts
returns-clause-counts c =
    let l = elements_of c.args.list in
    let le : l.count ≤ c.loop-i.i = omega arith in
    let none = said_no_more (said tile_type) l.count l c.loop-i.i le in
    sym (append-nil c.loop-i.counts) ∙ (rw none at c.loop-i.invariant)

pub returns-clause-few : goal.returns-clause-few
returns-clause-few c =
    let l = elements_of c.args.list in
    let le : l.count ≤ c.loop-i.i = omega arith in
    let none = said_no_more (said tile_type) l.count l c.loop-i.i le in
    let all = sym (append-nil c.loop-i.counts) ∙ (rw none at c.loop-i.invariant) in
    let many : length c.loop-i.counts ≡ c.len.result = ap length all ∙ length-map (each_said (said tile_type) l.count l 0) site_type_count ∙ said_length (said tile_type) l.count l 0 ∙ sym c.len.ensures in
    let few = c.len.type_inv in
    omega arith
