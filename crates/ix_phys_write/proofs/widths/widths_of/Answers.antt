use Rattle.std.proofs.Common.{◌≡◌, ◌≢◌, ◌<◌, ◌≤◌, ◌+◌, ◌-◌, ◌∙◌, ℕ, length, drop, get_or, set, ap, arith, get_or-set_other}
use Rattle.std.proofs.lemmas.List.{get_or_read, length-set, length-drop}
use Rattle.ix_phys_write.proofs.Levels.{limit_at}
use Rattle.ix_phys_write.proofs.Counted.{counted_turn, width_le}
use Rattle.ix_phys_write.proofs.widths.widths_of.Goals as goal

pub index-requires : goal.index-requires
index-requires c =
    let bs = c.args.forest.now in
    let done = c.loop-done.done in
    let i = c.len-count.result - 1 - done in
    let b = c.at.result.now in
    let below = c.loop-done.below.items in
    let beside = c.loop-done.beside.items in
    let lt : done < length bs = omega (arith, c.len-count.ensures.count, c.loop-done-test.true) in
    let i_lt : i < length bs = omega (arith, c.len-count.ensures.count) in
    let deep : b.depth ≤ i = omega (arith, c.at.ensures.steps, limit_at bs i c.len-count.ensures.preorder (omega arith)) in
    let inside : b.depth + 1 < length bs + 2 = omega arith in
    let long : length beside ≡ length bs + 2 = c.loop-done.invariant.beside_long in
    omega (arith, inside, long)

pub index_mut-requires-in-loop-done : goal.index_mut-requires-in-loop-done
index_mut-requires-in-loop-done c =
    let bs = c.args.forest.now in
    let done = c.loop-done.done in
    let i = c.len-count.result - 1 - done in
    let b = c.at.result.now in
    let below = c.loop-done.below.items in
    let beside = c.loop-done.beside.items in
    let lt : done < length bs = omega (arith, c.len-count.ensures.count, c.loop-done-test.true) in
    let i_lt : i < length bs = omega (arith, c.len-count.ensures.count) in
    let deep : b.depth ≤ i = omega (arith, c.at.ensures.steps, limit_at bs i c.len-count.ensures.preorder (omega arith)) in
    let inside : b.depth + 1 < length bs + 2 = omega arith in
    let long : length beside ≡ length bs + 2 = c.loop-done.invariant.beside_long in
    omega (arith, inside, long)

pub index_mut-requires-in-loop-done-2 : goal.index_mut-requires-in-loop-done-2
index_mut-requires-in-loop-done-2 c =
    let bs = c.args.forest.now in
    let done = c.loop-done.done in
    let i = c.len-count.result - 1 - done in
    let b = c.at.result.now in
    let below = c.loop-done.below.items in
    let beside = c.loop-done.beside.items in
    let lt : done < length bs = omega (arith, c.len-count.ensures.count, c.loop-done-test.true) in
    let i_lt : i < length bs = omega (arith, c.len-count.ensures.count) in
    let deep : b.depth ≤ i = omega (arith, c.at.ensures.steps, limit_at bs i c.len-count.ensures.preorder (omega arith)) in
    let inside : b.depth + 1 < length bs + 2 = omega arith in
    let long : length beside ≡ length bs + 2 = c.loop-done.invariant.beside_long in
    omega (arith, inside, long)

pub overflow_add-index_mut : goal.overflow_add-index_mut
overflow_add-index_mut c =
    let bs = c.args.forest.now in
    let done = c.loop-done.done in
    let i = c.len-count.result - 1 - done in
    let b = c.at.result.now in
    let below = c.loop-done.below.items in
    let beside = c.loop-done.beside.items in
    let lt : done < length bs = omega (arith, c.len-count.ensures.count, c.loop-done-test.true) in
    let i_lt : i < length bs = omega (arith, c.len-count.ensures.count) in
    let deep : b.depth ≤ i = omega (arith, c.at.ensures.steps, limit_at bs i c.len-count.ensures.preorder (omega arith)) in
    let inside : b.depth + 1 < length bs + 2 = omega arith in
    let long : length beside ≡ length bs + 2 = c.loop-done.invariant.beside_long in
    let v = c.index_mut-in-loop-done-2.result.now in
    let there : b.depth < length (set beside (b.depth + 1) 0) = omega (arith, length-set beside (b.depth + 1) 0) in
    let other : b.depth ≢ b.depth + 1 = λ e. omega arith in
    let value : v ≡ get_or beside b.depth 0 = get_or_read (set beside (b.depth + 1) 0) b.depth v there c.index_mut-in-loop-done-2.ensures.value 0 ∙ get_or-set_other beside (b.depth + 1) b.depth 0 0 other in
    let small : v ≤ length bs = omega (arith, value, c.loop-done.invariant.beside_are b.depth (omega arith), width_le b.depth (drop (length bs - done) bs), length-drop (length bs - done) bs) in
    omega (arith, small, c.len-count.ensures.count)

pub loop-done-preserved : goal.loop-done-preserved
loop-done-preserved c =
    let bs = c.args.forest.now in
    let done = c.loop-done.done in
    let i = c.len-count.result - 1 - done in
    let b = c.at.result.now in
    let below = c.loop-done.below.items in
    let beside = c.loop-done.beside.items in
    let lt : done < length bs = omega (arith, c.len-count.ensures.count, c.loop-done-test.true) in
    let i_lt : i < length bs = omega (arith, c.len-count.ensures.count) in
    let deep : b.depth ≤ i = omega (arith, c.at.ensures.steps, limit_at bs i c.len-count.ensures.preorder (omega arith)) in
    let inside : b.depth + 1 < length bs + 2 = omega arith in
    let long : length beside ≡ length bs + 2 = c.loop-done.invariant.beside_long in
    let v = c.index_mut-in-loop-done-2.result.now in
    let there : b.depth < length (set beside (b.depth + 1) 0) = omega (arith, length-set beside (b.depth + 1) 0) in
    let other : b.depth ≢ b.depth + 1 = λ e. omega arith in
    let value : v ≡ get_or beside b.depth 0 = get_or_read (set beside (b.depth + 1) 0) b.depth v there c.index_mut-in-loop-done-2.ensures.value 0 ∙ get_or-set_other beside (b.depth + 1) b.depth 0 0 other in
    let read : c.index.result.now ≡ get_or beside (b.depth + 1) 0 = get_or_read beside (b.depth + 1) c.index.result.now (omega arith) c.index.ensures 0 in
    counted_turn bs done i b below beside _ _ c.len-count.ensures.preorder lt (omega (arith, c.len-count.ensures.count)) c.at.ensures.branch inside c.loop-done.invariant
    (ap (λ (n : ℕ). set below i n) read) (ap (λ (n : ℕ). set (set beside (b.depth + 1) 0) b.depth (n + 1)) value)
