use Rattle.std.proofs.Common.{◌≡◌, ◌<◌, ◌^◌, List, ℕ, ap, subst}
use Rattle.std.specs.List.{AllByRecursion}
use Rattle.ix_frame.specs.Objects.{numbers_in}
use Rattle.ix_frame.specs.Sound.{sound_list}
use Rattle.ix_frame.specs.Views.{elements_of, numbers_of, object_of}
use Rattle.ix_logic_read.specs.Pins.{ports_at}
use Rattle.ix_logic_read.proofs.Holding.{one_more_held}
use Rattle.ix_logic_read.proofs.pins.held_by.Goals as goal

pub loop-d-preserved : goal.loop-d-preserved
loop-d-preserved c =
    let l = elements_of c.args.decls in
    let there : numbers_of c.sound_numbers.result ≡ numbers_in
    (sound_list 4 (object_of c.at.result) 0) = ap numbers_in c.sound_numbers.ensures in
    let same : numbers_of c.sound_numbers.result ≡ ports_at l c.loop-d.d =
    rw c.at.ensures at there in
    let below = subst (λ (ns : List ℕ). AllByRecursion (λ p. p < 2 ^ 32) ns) same
    c.in-Ok.ensures.below in
    record {
      held = rw (c.in-Ok.ensures.adds, same)
          (one_more_held c.loop-d.d c.loop-d.held.items l below c.loop-d.invariant.held);
    }
