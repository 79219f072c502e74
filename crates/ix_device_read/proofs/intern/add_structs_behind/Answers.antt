use Rattle.std.proofs.Common.{subst, sym}
use Rattle.std.specs.List.{flat_map}
use Rattle.ix_frame.specs.Target.{Elements}
use Rattle.ix_schema.specs.Said.{said, each_said}
use Rattle.ix_device_read.specs.Loose.{loose_texts, HasRoom, Adds}
use Rattle.ix_device_read.proofs.intern.add_structs_behind.Goals as goal

pub add_list-requires : goal.add_list-requires
add_list-requires g c =
    let f = g.T.HasTexts.form in
    subst (λ (l : Elements). HasRoom (flat_map (loose_texts f) (each_said (said f) l.count l 0)) c.args.names.now) (sym c.sound_list.ensures) c.requires

pub returns : goal.returns
returns g c =
    let f = g.T.HasTexts.form in
    subst (λ (l : Elements). Adds c.add_list.result (flat_map (loose_texts f) (each_said (said f) l.count l 0)) c.args.names.now c.add_list.new.names) c.sound_list.ensures c.add_list.ensures
