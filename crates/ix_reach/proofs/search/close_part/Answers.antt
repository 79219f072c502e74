use Rattle.std.proofs.Common.{rules, ◌≡◌, ◌≤◌, ◌<◌, ◌+◌, length, arith, refl, ap, ◌∙◌}
use Rattle.std.proofs.lemmas.Bool.Decides.{nat_tests}
use Rattle.ix_reach.proofs.Closing.{closing_none, closing_popped, popped_within}
use Rattle.ix_reach.proofs.Places.{length_push}
use Rattle.ix_reach.proofs.search.close_part.Goals as goal

pub loop-opened-init : goal.loop-opened-init
loop-opened-init c =
    let within : c.args.place < length c.args.opened.now.items = c.requires.within in
    record {
      most = omega arith;
      least = omega arith;
      is = closing_none _ _ _ refl;
      yes = grind (arith, nat_tests);
      no = grind (arith, nat_tests);
    }

pub index_mut-requires : goal.index_mut-requires
index_mut-requires c =
    let lt : c.in-Some.declaration < length c.loop-opened.marks.items =
    popped_within _ _ c.args.place c.pop.new.self.items c.in-Some.declaration
    c.loop-opened.invariant.is c.in-Some.ensures.items c.requires.marked in
    search rules

pub loop-opened-preserved-in-Some : goal.loop-opened-preserved-in-Some
loop-opened-preserved-in-Some c =
    let all : length c.loop-opened.opened.items ≡ length c.pop.new.self.items + 1 =
    ap length c.in-Some.ensures.items
    ∙ length_push c.pop.new.self.items c.in-Some.declaration in
    let most : length c.loop-opened.opened.items ≤ length c.args.opened.now.items =
    c.loop-opened.invariant.most in
    let test : c.args.place < c.len-in-loop-opened.result = c.loop-opened-test.true in
    let len : c.len-in-loop-opened.result ≡ length c.loop-opened.opened.items = search rules in
    record {
      most = omega arith;
      least = omega arith;
      is = closing_popped _ _ c.args.place c.pop.new.self.items c.push.new.self.items
          c.looped_with-least.result c.in-Some.declaration _ c.loop-opened.invariant.is
          c.in-Some.ensures.items c.in_ok-push.ensures.items c.looped_with-least.ensures
          c.requires.marked c.requires.differ c.loop-opened.invariant.yes
          c.loop-opened.invariant.no;
      yes = c.loop-opened.invariant.yes;
      no = c.loop-opened.invariant.no;
    }
