use Rattle.std.proofs.Common.{◌≡◌, ◌<◌, ◌≤◌, ◌+◌, ◌∷◌, ◌∙◌, [], List, length, refl, sym}
use Rattle.std.proofs.Common.{subst, arith, rules, ◌^◌}
use Rattle.ix_phys_read.specs.Open.{Puts}
use Rattle.std.proofs.lemmas.List.{length-append}
use Rattle.std.proofs.lemmas.List.Elements.{All-nil, All-push}
use Rattle.std.proofs.lemmas.Result.{err_from_is_err_and}
use Rattle.ix_frame.specs.Objects.{element_of}
use Rattle.ix_frame.specs.Sound.{endless}
use Rattle.ix_frame.specs.Views.{elements_of}
use Rattle.ix_message.specs.Indexes.{branch_steps, only_table}
use Rattle.ix_message.specs.Phys.{segment}
use Rattle.ix_message.specs.Reading.{row_at}
use Rattle.ix_message.specs.Shape.{preorder}
use Rattle.ix_phys_write.specs.Record.{IsSegmentNamed}
use Rattle.ix_schema.specs.Said.{branches_said}
use Rattle.ix_phys_read.specs.declared.branches.Open.{Open}
use Rattle.ix_take.specs.Views.{table_of, Stops}
use Rattle.ix_take.specs.Walked.{walked}
use Rattle.ix_phys_read.specs.Walked.{counted_structs}
use Rattle.ix_phys_read.proofs.Opened.{few_branches}
use Rattle.ix_phys_read.proofs.Stacks.{begins, put_kept, put_length, one_done, one_stops, goes_on}
use Rattle.ix_phys_read.proofs.Stacks.{depth_fits, depth_few, many, more, all_fit, all_made}
use Rattle.ix_phys_read.proofs.Stacks.{nothing_in}
use Rattle.ix_phys_read.proofs.Steps.{item_steps}
use Rattle.ix_take.specs.Going.{stops_on}
use Rattle.ix_phys_read.proofs.branches.take_branches.Goals as goal

pub loop-top-init : goal.loop-top-init
loop-top-init c =
    let names = c.args.ctx.now.names.now in
    let table = table_of c.args.ctx.now in
    let whole = branches_said segment (elements_of c.args.l) endless in
    let first : Open = record { list = c.args.l; next = 0; depth = 0 } in
    let put = subst (λ (xs : List Open). Puts first xs c.put.new.stack.items)
    c.new-stack.ensures.items c.in_ok-put.ensures in
    let all = begins names table (only_table (length table)) whole c.args.walk.now first refl refl
    c.requires in
    record {
      taken = rw c.new-found.ensures (put_kept names table (only_table (length table)) whole
          c.args.walk.now [] c.put.new.stack.items first [] c.args.walk.now put all);
      named = rw c.new-found.ensures (All-nil (IsSegmentNamed names));
      preorder = rw c.new-found.ensures tt;
    }

pub returns-in_err-segment-clause-made : goal.returns-in_err-segment-clause-made
unfolding item_steps
returns-in_err-segment-clause-made c =
    let names = c.args.ctx.now.names.now in
    let table = table_of c.args.ctx.now in
    let lists = only_table (length table) in
    let whole = branches_said segment (elements_of c.args.l) endless in
    let x = c.in-Some.top in
    let p = err_from_is_err_and c.from_residual-in_err-segment.result
    c.from_residual-in_err-segment.ensures.1 in
    let here : Stops counted_structs c.in_err-segment.field-0.0
    (walked counted_structs c.loop-top.walk
    (item_steps lists (x.depth, row_at segment 0 (element_of (elements_of x.list) x.next)))) =
    rw c.at-o.ensures at c.in_err-segment.ensures.made in
    rw (p.1, p.2) (stops_on counted_structs c.in_err-segment.field-0.0
    (walked counted_structs c.loop-top.walk
    (item_steps lists (x.depth, row_at segment 0 (element_of (elements_of x.list) x.next))))
    (walked counted_structs c.args.walk.now (branch_steps lists "RouteBranch" segment whole))
    here (λ bad fails.
    one_stops names table lists whole c.args.walk.now c.loop-top.stack.items c.pop.new.self.items x
    c.loop-top.found c.loop-top.walk bad c.in-Some.ensures.items
    (rw c.len.ensures at c.if-top-len.true) fails c.loop-top.invariant.taken))

pub push-requires : goal.push-requires
push-requires c =
    let table = table_of c.args.ctx.now in
    depth_fits c.args.ctx.now.names.now table (only_table (length table))
    (branches_said segment (elements_of c.args.l) endless) c.args.walk.now
    c.loop-top.stack.items c.pop.new.self.items c.in-Some.top c.loop-top.found c.loop-top.walk
    c.in-Some.ensures.items (rw c.len.ensures at c.if-top-len.true) c.loop-top.invariant.taken

pub overflow_add-top-then-top-len : goal.overflow_add-top-then-top-len
overflow_add-top-then-top-len c =
    let table = table_of c.args.ctx.now in
    let whole = branches_said segment (elements_of c.args.l) endless in
    let deep : c.in-Some.top.depth ≤ length c.loop-top.found =
    depth_few c.args.ctx.now.names.now table
    (only_table (length table)) whole c.args.walk.now c.loop-top.stack.items
    c.pop.new.self.items c.in-Some.top c.loop-top.found c.loop-top.walk c.in-Some.ensures.items
    (rw c.len.ensures at c.if-top-len.true) c.loop-top.invariant.taken in
    let all : length c.loop-top.found ≤ length (preorder 0 whole) =
    many c.args.ctx.now.names.now table
    (only_table (length table)) whole c.args.walk.now c.loop-top.stack.items c.loop-top.found
    c.loop-top.walk c.loop-top.invariant.taken in
    let most : length (preorder 0 whole) ≤ 2 ^ 28 + 64 =
    few_branches (elements_of c.args.l) 0 whole c.requires in
    let few : c.in-Some.top.depth + 1 < 2 ^ 32 = omega arith in search rules

pub loop-top-smaller-in-Continue-branch-5 : goal.loop-top-smaller-in-Continue-branch-5
loop-top-smaller-in-Continue-branch-5 c =
    let table = table_of c.args.ctx.now in
    let whole = branches_said segment (elements_of c.args.l) endless in
    let one : length c.loop-top.stack.items ≡ length c.pop.new.self.items + 1 =
    rw c.in-Some.ensures.items (length-append c.pop.new.self.items (c.in-Some.top ∷ [])) in
    let two = put_length _ c.pop.new.self.items c.put-then-top-len.new.stack.items
    c.in_ok-put-2.ensures in
    let three = put_length _ c.put-then-top-len.new.stack.items
    c.put-then-top-len-2.new.stack.items c.in_ok-put-3.ensures in
    let grown : length c.push.new.self ≡ length c.loop-top.found + 1 =
    rw c.in_ok-push.ensures.ok (length-append c.loop-top.found _) in
    let room : length c.loop-top.found + 1 ≤ length (preorder 0 whole) =
    more c.args.ctx.now.names.now table (only_table (length table)) whole c.args.walk.now
    c.loop-top.stack.items c.pop.new.self.items c.in-Some.top c.loop-top.found c.loop-top.walk
    c.in-Some.ensures.items (rw c.len.ensures at c.if-top-len.true)
    c.loop-top.invariant.taken in
    omega arith

pub loop-top-preserved-in-Continue-branch-5 : goal.loop-top-preserved-in-Continue-branch-5
unfolding item_steps
loop-top-preserved-in-Continue-branch-5 c =
    let names = c.args.ctx.now.names.now in
    let table = table_of c.args.ctx.now in
    let lists = only_table (length table) in
    let whole = branches_said segment (elements_of c.args.l) endless in
    let x = c.in-Some.top in
    let after : Open = record { list = x.list; next = x.next + 1; depth = x.depth } in
    let below : Open = record { list = c.sound_list.result; next = 0; depth = x.depth + 1 } in
    let made = rw c.at-o.ensures at c.in_ok-segment.ensures.made in
    record {
      taken = rw c.in_ok-push.ensures.ok (goes_on names table lists whole c.args.walk.now
          c.loop-top.stack.items c.pop.new.self.items c.put-then-top-len.new.stack.items
          c.put-then-top-len-2.new.stack.items x after below c.loop-top.found c.loop-top.walk
          c.take_segment.new.walk c.in_ok-segment.segment c.in-Some.ensures.items
          (rw c.len.ensures at c.if-top-len.true) refl
          (rw c.at-o.ensures at c.sound_list.ensures) refl refl c.in_ok-put-2.ensures
          c.in_ok-put-3.ensures made.0 made.1 c.loop-top.invariant.taken);
      named = rw c.in_ok-push.ensures.ok (All-push (IsSegmentNamed names) c.loop-top.found _
          c.loop-top.invariant.named (c.in_ok-segment.ensures.named x.depth));
      preorder = c.in_ok-push.ensures.preorder;
    }

pub loop-top-preserved : goal.loop-top-preserved
loop-top-preserved c =
    let table = table_of c.args.ctx.now in
    record {
      taken = one_done c.args.ctx.now.names.now table (only_table (length table))
          (branches_said segment (elements_of c.args.l) endless) c.args.walk.now
          c.loop-top.stack.items c.pop.new.self.items c.in-Some.top c.loop-top.found c.loop-top.walk
          c.in-Some.ensures.items (omega arith) c.loop-top.invariant.taken;
      named = c.loop-top.invariant.named;
      preorder = c.loop-top.invariant.preorder;
    }

pub returns-clause-made : goal.returns-clause-made
returns-clause-made c =
    let names = c.args.ctx.now.names.now in
    let table = table_of c.args.ctx.now in
    let lists = only_table (length table) in
    let whole = branches_said segment (elements_of c.args.l) endless in
    let none : length c.loop-top.stack.items ≡ 0 =
    sym c.loop-top.stack.ok.0 ∙ c.in_default.ensures.cases.0 in
    let empty = nothing_in c.loop-top.stack.items none in (
      all_made names table lists whole c.args.walk.now c.loop-top.stack.items c.loop-top.found
          c.loop-top.walk empty c.loop-top.invariant.taken,
      all_fit names table lists whole c.args.walk.now c.loop-top.stack.items c.loop-top.found
          c.loop-top.walk empty c.loop-top.invariant.taken,
    )
