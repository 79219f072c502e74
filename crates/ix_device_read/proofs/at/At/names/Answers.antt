use Rattle.std.proofs.Common.{◌≡◌, ◌++◌, ◌+◌, ◌<◌, ◌≤◌, ◌∷◌, [], List, ℕ, Ok, ap, map, drop, length, subst, arith}
use Rattle.std.proofs.lemmas.List.{map_push}
use Rattle.ix_frame.specs.Objects.{numbers_in}
use Rattle.ix_frame.specs.Views.{numbers_of}
use Rattle.ix_message.specs.Shape.{name}
use Rattle.ix_message.specs.Names.{the_text}
use Rattle.ix_device_read.specs.Finish.{asked_at, each_alone}
use Rattle.ix_device_read.specs.Named.{limit_of}
use Rattle.ix_device_read.specs.Numbers.{name_text}
use Rattle.ix_device_read.specs.Views.{sizes_of, kind_word, field_word, Stops}
use Rattle.ix_device_read.proofs.Each.{numbers_from, no_items, alone_more, alone_stops, alone_done}
use Rattle.ix_device_read.proofs.Naming.{all_push}
use Rattle.ix_device_read.proofs.at.At.names.Goals as goal

pub returns-in-Err-clause-made : goal.returns-in-Err-clause-made
returns-in-Err-clause-made c =
    let xs = numbers_of c.sound_numbers-list.result in
    let ask = asked_at (sizes_of c.args.ctx.now (c.args.self.now).scope) c.args.walk.now (c.args.self.now).kind (kind_word (c.args.self.now).kind) (field_word (c.args.self.now).kind c.args.field) name in
    let lt : c.loop-i.i < length xs = omega arith in
    subst (λ (ns : List ℕ). Stops c.in-Err.stop (each_alone ask ns)) (ap numbers_in c.sound_numbers-list.ensures) (alone_stops c.in-Err.stop ask (map (λ (id : ℕ). the_text (name_text c.args.ctx.now.names.now id)) c.loop-i.found) c.at.result (drop (c.loop-i.i + 1) xs) (drop c.loop-i.i xs) (each_alone ask xs) (numbers_from xs c.loop-i.i c.at.result lt c.at.ensures) c.in-Err.ensures.made c.loop-i.invariant.is)

pub loop-i-preserved : goal.loop-i-preserved
loop-i-preserved c =
    let xs = numbers_of c.sound_numbers-list.result in
    let ask = asked_at (sizes_of c.args.ctx.now (c.args.self.now).scope) c.args.walk.now (c.args.self.now).kind (kind_word (c.args.self.now).kind) (field_word (c.args.self.now).kind c.args.field) name in
    let lt : c.loop-i.i < length xs = omega arith in
    let e : map (λ (id : ℕ). the_text (name_text c.args.ctx.now.names.now id)) c.push.new.self ≡ map (λ (id : ℕ). the_text (name_text c.args.ctx.now.names.now id)) c.loop-i.found ++ (λ (id : ℕ). the_text (name_text c.args.ctx.now.names.now id)) c.in-Ok.id ∷ [] = rw c.in_ok-push.ensures.ok (map_push (λ (id : ℕ). the_text (name_text c.args.ctx.now.names.now id)) c.loop-i.found c.in-Ok.id) in
    record {
      is = rw e (alone_more ask (map (λ (id : ℕ). the_text (name_text c.args.ctx.now.names.now id)) c.loop-i.found) c.at.result (drop (c.loop-i.i + 1) xs) (drop c.loop-i.i xs) ((λ (id : ℕ). the_text (name_text c.args.ctx.now.names.now id)) c.in-Ok.id) (each_alone ask xs) (numbers_from xs c.loop-i.i c.at.result lt c.at.ensures) c.in-Ok.ensures.made c.loop-i.invariant.is);
      named = rw c.in_ok-push.ensures.ok (all_push (λ id. id < limit_of c.args.ctx.now) c.loop-i.found c.in-Ok.id c.loop-i.invariant.named c.in-Ok.ensures.within);
    }

pub returns-clause-made : goal.returns-clause-made
returns-clause-made c =
    let xs = numbers_of c.sound_numbers-list.result in
    let ask = asked_at (sizes_of c.args.ctx.now (c.args.self.now).scope) c.args.walk.now (c.args.self.now).kind (kind_word (c.args.self.now).kind) (field_word (c.args.self.now).kind c.args.field) name in
    let le : length xs ≤ c.loop-i.i = omega arith in
    subst (λ (ns : List ℕ). each_alone ask ns ≡ Ok (map (λ (id : ℕ). the_text (name_text c.args.ctx.now.names.now id)) c.loop-i.found)) (ap numbers_in c.sound_numbers-list.ensures) (alone_done ask (map (λ (id : ℕ). the_text (name_text c.args.ctx.now.names.now id)) c.loop-i.found) (drop c.loop-i.i xs) (each_alone ask xs) (no_items xs c.loop-i.i le) c.loop-i.invariant.is)
