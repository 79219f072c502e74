use Rattle.std.proofs.Common.{◌≡◌, ◌<◌, ◌≤◌, ap, sym, subst, ◌∙◌, ℕ, List, slice_get, Some, refl, arith}
use Rattle.std.proofs.Common.{get_or, length, inl, inr}
use Rattle.std.proofs.lemmas.Bool.{cases_lt}
use Rattle.std.proofs.lemmas.Option.{slice_get-get_or}
use Rattle.ix_hierarchy.specs.declared.instance.Instance.{Instance}
use Rattle.ix_hierarchy.specs.declared.kind.Kind.{Kind}
use Rattle.ix_hierarchy.specs.declared.row.Row.{Row}
use Rattle.ix_pin_rows.specs.PinRows.{AreListed, ArePinRows}
use Rattle.ix_pins.proofs.Apart.{in_order}
use Rattle.ix_pins.proofs.Parents.{is_within, listed, on_row, row_on, row_of}
use Rattle.ix_pins.proofs.found.pins.Goals as goal

pub returns : goal.returns
returns c = λ known design path are at.
    let joined = c.args.joined.now in
    let i = c.args.instance in
    let w = is_within known design joined i path are c.requires.below at in
    let rows : ArePinRows joined.outer w.cell w.one.number c.rows_of-rows.result.start
    c.rows_of-rows.result.end =
    (c.rows_of-rows.ensures design known.device known.paths (length joined.firsts.items) w.one w.above
    w.cell
    (subst (λ (ks : List Kind). AreListed design known.device ks joined.outer c.deref-2.result.now
    known.paths (length joined.firsts.items)) (sym c.deref.ensures.value)
    (subst (λ (is : List Instance). AreListed design known.device joined.kinds.items joined.outer is
    known.paths (length joined.firsts.items)) (sym c.deref-2.ensures.value)
    (listed known design joined are)))
    (ap (λ (is : List Instance). slice_get is i) c.deref-2.ensures.value ∙ w.one_is)
    (ap (λ (is : List Instance). slice_get is w.one.parent) c.deref-2.ensures.value ∙ w.above_is)
    w.of_above).0 in
    let order = λ (j k : ℕ) (a b : Row) (from : c.rows_of-rows.result.start ≤ j) (less : j < k)
    (to : k < c.rows_of-rows.result.end) (x : slice_get joined.outer.rows j ≡ Some a)
    (y : slice_get joined.outer.rows k ≡ Some b).
    let p = rows.each j a from (omega arith) x in
    let q = rows.each k b (omega arith) to y in
    in_order known design joined i path a b are w p.1 q.1 p.0 q.0
    (rows.rise j k a b from less to x y) in
    record {
      some = rows.some;
      to = rows.to;
      each = λ k inst from to leaf.
          let none : Row = record { instance = 0; port = 0; index = 0; net = 0 } in
          let last : c.rows_of-rows.result.end ≤ length joined.outer.rows = rows.to in
          let row : Row = get_or joined.outer.rows k none in
          let row_is : slice_get joined.outer.rows k ≡ Some row =
          slice_get-get_or joined.outer.rows k none (omega arith) in
          let is = rows.each k row from to row_is in
          record {
            path = path;
            path_is = at;
            row = row;
            row_is = row_is;
            parent = w.parent;
            on = row_on known design joined i path inst row w leaf is.0 is.1;
          };
      all = λ bit occurrence on.
          let is = on_row known design joined i path bit occurrence w on in
          let there = rows.all (row_of w.one.number bit occurrence) refl is.1 in
          (there.0, row_of w.one.number bit occurrence, there.1, there.2, there.3, refl, refl);
      once = λ j k a b from_j to_j from_k to_k x y same.
          elim (cases_lt j k) [
            | inl less ↦ elim (order j k a b from_j less to_k x y) [
              | inl port ↦ let h : a.port ≡ b.port = ap (λ t. t.port) same in absurd (omega arith)
              | inr index ↦ let h : a.index ≡ b.index = ap (λ t. t.index) same in
                  let l : a.index < b.index = index.1 in absurd (omega arith)
            ]
            | inr more ↦ elim (cases_lt k j) [
              | inl less ↦ elim (order k j b a from_k less to_j y x) [
                | inl port ↦ let h : a.port ≡ b.port = ap (λ t. t.port) same in
                    absurd (omega arith)
                | inr index ↦ let h : a.index ≡ b.index = ap (λ t. t.index) same in
                    let l : b.index < a.index = index.1 in absurd (omega arith)
              ]
              | inr less ↦ omega arith
            ]
          ];
      rise = order;
    }
