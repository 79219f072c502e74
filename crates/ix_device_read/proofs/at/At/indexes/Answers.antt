use Rattle.std.proofs.Common.{◌≡◌, ◌++◌, ◌+◌, ◌<◌, ◌≤◌, ◌∷◌, [], List, ℕ, Ok, ap, map, drop, length, subst, arith}
use Rattle.std.proofs.lemmas.List.{map_push}
use Rattle.ix_frame.specs.Objects.{numbers_in}
use Rattle.ix_frame.specs.Views.{numbers_of}
use Rattle.ix_message.specs.Names.{the_number}
use Rattle.ix_device_read.specs.Finish.{below, each_alone}
use Rattle.ix_device_read.specs.Views.{kind_word, field_word, Stops}
use Rattle.ix_device_read.proofs.Each.{numbers_from, no_items, alone_more, alone_stops, alone_done}
use Rattle.ix_device_read.proofs.at.At.indexes.Goals as goal

pub returns-in-Err : goal.returns-in-Err
returns-in-Err c =
    let xs = numbers_of c.sound_numbers-list.result in
    let ask = below c.args.walk.now (c.args.self.now).kind (kind_word (c.args.self.now).kind) (field_word (c.args.self.now).kind c.args.field) c.args.limit in
    let lt : c.loop-i.i < length xs = omega arith in
    subst (λ (ns : List ℕ). Stops c.in-Err.stop (each_alone ask ns)) (ap numbers_in c.sound_numbers-list.ensures) (alone_stops c.in-Err.stop ask (map (the_number) c.loop-i.found) c.at.result (drop (c.loop-i.i + 1) xs) (drop c.loop-i.i xs) (each_alone ask xs) (numbers_from xs c.loop-i.i c.at.result lt c.at.ensures) c.in-Err.ensures c.loop-i.invariant)

pub loop-i-preserved : goal.loop-i-preserved
loop-i-preserved c =
    let xs = numbers_of c.sound_numbers-list.result in
    let ask = below c.args.walk.now (c.args.self.now).kind (kind_word (c.args.self.now).kind) (field_word (c.args.self.now).kind c.args.field) c.args.limit in
    let lt : c.loop-i.i < length xs = omega arith in
    let e : map (the_number) c.push.new.self ≡ map (the_number) c.loop-i.found ++ (the_number) c.in-Ok.n ∷ [] = rw c.in_ok-push.ensures.ok (map_push (the_number) c.loop-i.found c.in-Ok.n) in
    rw e (alone_more ask (map (the_number) c.loop-i.found) c.at.result (drop (c.loop-i.i + 1) xs) (drop c.loop-i.i xs) ((the_number) c.in-Ok.n) (each_alone ask xs) (numbers_from xs c.loop-i.i c.at.result lt c.at.ensures) c.in-Ok.ensures c.loop-i.invariant)

pub returns : goal.returns
returns c =
    let xs = numbers_of c.sound_numbers-list.result in
    let ask = below c.args.walk.now (c.args.self.now).kind (kind_word (c.args.self.now).kind) (field_word (c.args.self.now).kind c.args.field) c.args.limit in
    let le : length xs ≤ c.loop-i.i = omega arith in
    subst (λ (ns : List ℕ). each_alone ask ns ≡ Ok (map (the_number) c.loop-i.found)) (ap numbers_in c.sound_numbers-list.ensures) (alone_done ask (map (the_number) c.loop-i.found) (drop c.loop-i.i xs) (each_alone ask xs) (no_items xs c.loop-i.i le) c.loop-i.invariant)
