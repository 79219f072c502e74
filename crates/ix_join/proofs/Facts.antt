-- What the steps of joining need and give.
use Rattle.std.proofs.Common.{◌≡◌, ◌≤◌, ◌+◌, ◌^◌, ℕ, List, length, Option, inl, subst, sym, arith}
use Rattle.ix_message.specs.Shape.{Text}
use Rattle.ix_rec.specs.declared.device.DeviceRec.{DeviceRec}
use Rattle.ix_rec.specs.declared.netlist.NetlistRec.{NetlistRec}
use Rattle.ix_hierarchy.specs.declared.instance.Instance.{Instance}
use Rattle.ix_hierarchy.specs.declared.kind.Kind.{Kind}
use Rattle.ix_hierarchy.specs.Hierarchy.{Path}
use Rattle.ix_hierarchy.specs.Walk.{NetAt}
use Rattle.ix_hierarchy.specs.Lists.{AreInstances, AreFirsts}
use Rattle.ix_instance_lists.specs.Listed.{AreNumbered}
use Rattle.ix_bit_rows.specs.Table.{RowTable}
use Rattle.ix_inner_nets.specs.Inner.{AreInner}
use Rattle.ix_one_net.specs.Joinable.{AreJoinable}
use Rattle.ix_top_bits.specs.Given.{AreGiven}
use Rattle.ix_joined.specs.declared.joined.Joined.{Joined}
use Rattle.ix_joined.specs.Joining.{IsJoined}
use Rattle.ix_join.specs.Asked.{IsAsked}

pub joinable : (names : List Text) (device : DeviceRec) (design : NetlistRec) (kinds : List Kind)
    (own outer : RowTable) (written : List ℕ) (inner : List (Option ℕ)) (all : List Instance)
    (paths : List Path) (nets : ℕ) → IsAsked names device design kinds own outer written
    → AreInner design outer.rows inner → AreInstances design all paths nets
    → length all + nets ≤ 2 ^ 22 + 1
    → AreJoinable design device kinds outer inner all paths nets
joinable names device design kinds own outer written inner all paths nets h inners instances few =
    record {
      listed = record {
        names = length names;
        fits = h.fits;
        are_kinds = h.are_kinds;
        rows = h.outer_rows;
        instances = instances;
      };
      inner_nets = inners;
      one = λ path cell net inside on. h.keeps.0.0.1 (NetAt path net) (cell, inside, inl on);
      few = omega arith;
    }

-- the same for lists that are these
pub joinable_as : (names : List Text) (device : DeviceRec) (design : NetlistRec)
    (kinds same_kinds : List Kind) (own outer : RowTable) (written : List ℕ)
    (inner same_inner : List (Option ℕ)) (all same_all : List Instance) (paths : List Path)
    (nets : ℕ) → IsAsked names device design kinds own outer written
    → AreInner design outer.rows inner → AreInstances design all paths nets
    → length all + nets ≤ 2 ^ 22 + 1 → same_kinds ≡ kinds → same_inner ≡ inner → same_all ≡ all
    → AreJoinable design device same_kinds outer same_inner same_all paths nets
joinable_as names device design kinds same_kinds own outer written inner same_inner all same_all
    paths nets h inners instances few k i a =
    subst (λ x. AreJoinable design device x outer same_inner same_all paths nets) (sym k)
    (subst (λ x. AreJoinable design device kinds outer x same_all paths nets) (sym i)
    (subst (λ x. AreJoinable design device kinds outer inner x paths nets) (sym a)
    (joinable names device design kinds own outer written inner all paths nets h inners instances
    few)))

pub given_as : (names : List Text) (device : DeviceRec) (design : NetlistRec)
    (kinds same_kinds : List Kind) (own outer : RowTable) (written : List ℕ)
    (all same_all : List Instance) (paths : List Path) (nets : ℕ) (firsts same_firsts : List ℕ)
    → IsAsked names device design kinds own outer written → AreInstances design all paths nets
    → AreNumbered design all paths nets → length firsts ≡ nets
    → AreFirsts design same_all paths firsts → same_kinds ≡ kinds → same_all ≡ all
    → same_firsts ≡ firsts → AreGiven design device same_kinds own all paths same_firsts
given_as names device design kinds same_kinds own outer written all same_all paths nets firsts
    same_firsts h instances numbered many are k a f =
    subst (λ x. AreGiven design device x own all paths same_firsts) (sym k)
    (subst (λ x. AreGiven design device kinds own all paths x) (sym f) (record {
      names = length names;
      fits = h.fits;
      are_kinds = h.are_kinds;
      rows = h.own_rows;
      are_instances = subst (λ n. AreInstances design all paths n) (sym many) instances;
      numbered = subst (λ n. AreNumbered design all paths n) (sym many) numbered;
      are_firsts = subst (λ x. AreFirsts design x paths firsts) a are;
    }))

pub joined_as : (names : List Text) (device : DeviceRec) (design : NetlistRec) (joined : Joined)
    (own : RowTable) (same_all : List Instance) (paths : List Path) (nets : ℕ)
    → IsAsked names device design joined.kinds.items own joined.outer joined.written.items
    → AreInstances design joined.instances.items paths nets
    → AreNumbered design joined.instances.items paths nets
    → length joined.instances.items + nets ≤ 2 ^ 22 + 1
    → length joined.firsts.items ≡ nets → AreFirsts design same_all paths joined.firsts.items
    → same_all ≡ joined.instances.items
    → IsJoined record { names = names; device = device; paths = paths } design joined
joined_as names device design joined own same_all paths nets h instances numbered few many are a =
    record {
      fits = h.fits;
      differ = h.differ;
      keeps = h.keeps;
      are_kinds = h.are_kinds;
      rows = h.outer_rows;
      are_written = h.are_written;
      are_instances = subst (λ n. AreInstances design joined.instances.items paths n) (sym many)
          instances;
      numbered = subst (λ n. AreNumbered design joined.instances.items paths n) (sym many)
          numbered;
      few = subst (λ n. length joined.instances.items + n ≤ 2 ^ 22 + 1) (sym many) few;
      are_firsts = subst (λ x. AreFirsts design x paths joined.firsts.items) a are;
    }
