use Rattle.std.proofs.Common.{◌≡◌, ◌++◌, ◌+◌, ◌-◌, ◌<◌, ◌≤◌, ◌∷◌, [], Ok, map, subst, arith}
use Rattle.std.proofs.lemmas.List.{map_push}
use Rattle.ix_frame.specs.Sound.{sound_text_in}
use Rattle.ix_frame.specs.Target.{Elements}
use Rattle.ix_frame.specs.Views.{text_elements}
use Rattle.ix_schema.specs.Said.{texts_said}
use Rattle.ix_device_read.specs.Finish.{known, each_alone}
use Rattle.ix_device_read.specs.Named.{limit_of}
use Rattle.ix_device_read.specs.Numbers.{name_text}
use Rattle.ix_device_read.specs.Views.{sizes_of, Stops}
use Rattle.ix_device_read.proofs.Each.{alone_more, alone_stops, alone_done}
use Rattle.ix_device_read.proofs.Naming.{all_push}
use Rattle.ix_device_read.proofs.Said.{text_next, no_text}
use Rattle.ix_device_read.proofs.at.At.texts.Goals as goal

pub returns-in-Err-clause-made : goal.returns-in-Err-clause-made
returns-in-Err-clause-made c =
    let l = text_elements c.sound_texts-list.result in
    let i = c.loop-i.i in
    let ask = known (sizes_of c.args.ctx.now c.args.self.now.scope) in
    let lt : i < l.count = omega arith in
    subst (λ (e : Elements). Stops c.in-Err.stop (each_alone ask (texts_said e.count e 0))) c.sound_texts-list.ensures (alone_stops c.in-Err.stop ask (map (name_text c.args.ctx.now.names.now) c.loop-i.found) (sound_text_in l i) (texts_said (l.count - (i + 1)) l (i + 1)) (texts_said (l.count - i) l i) (each_alone ask (texts_said l.count l 0)) (text_next l.count l i lt) (rw c.sound_at.ensures at c.in-Err.ensures.made) c.loop-i.invariant.is)

pub loop-i-preserved : goal.loop-i-preserved
loop-i-preserved c =
    let l = text_elements c.sound_texts-list.result in
    let i = c.loop-i.i in
    let ask = known (sizes_of c.args.ctx.now c.args.self.now.scope) in
    let lt : i < l.count = omega arith in
    let e : map (name_text c.args.ctx.now.names.now) c.push.new.self ≡ map (name_text c.args.ctx.now.names.now) c.loop-i.found ++ name_text c.args.ctx.now.names.now c.in-Ok.id ∷ [] = rw c.in_ok-push.ensures.ok (map_push (name_text c.args.ctx.now.names.now) c.loop-i.found c.in-Ok.id) in
    record {
      is = rw e (alone_more ask (map (name_text c.args.ctx.now.names.now) c.loop-i.found) (sound_text_in l i) (texts_said (l.count - (i + 1)) l (i + 1)) (texts_said (l.count - i) l i) (name_text c.args.ctx.now.names.now c.in-Ok.id) (each_alone ask (texts_said l.count l 0)) (text_next l.count l i lt) (rw c.sound_at.ensures at c.in-Ok.ensures.made) c.loop-i.invariant.is);
      named = rw c.in_ok-push.ensures.ok (all_push (λ id. id < limit_of c.args.ctx.now) c.loop-i.found c.in-Ok.id c.loop-i.invariant.named c.in-Ok.ensures.within);
    }

pub returns-clause-made : goal.returns-clause-made
returns-clause-made c =
    let l = text_elements c.sound_texts-list.result in
    let ask = known (sizes_of c.args.ctx.now c.args.self.now.scope) in
    let le : l.count ≤ c.loop-i.i = omega arith in
    subst (λ (e : Elements). each_alone ask (texts_said e.count e 0) ≡ Ok (map (name_text c.args.ctx.now.names.now) c.loop-i.found)) c.sound_texts-list.ensures (alone_done ask (map (name_text c.args.ctx.now.names.now) c.loop-i.found) (texts_said (l.count - c.loop-i.i) l c.loop-i.i) (each_alone ask (texts_said l.count l 0)) (no_text l.count l c.loop-i.i le) c.loop-i.invariant.is)
