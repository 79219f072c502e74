-- A net that is the second of a written name, and entries that repeat.
use Rattle.std.proofs.Common.{◌≡◌, ℕ, ◌-◌, ◌<◌, ◌≤◌, Bool, true, false, List, length, refl, sym, ap, ◌∙◌, subst, Some, arith, inl, inr, zero, suc, get_or}
use Rattle.std.specs.Prelude.{slice_get}
use Rattle.std.proofs.lemmas.Bool.{cases_lt}
use Rattle.std.proofs.lemmas.Option.{slice_get_within, slice_get-get_or}
use Rattle.ix_message.specs.Shape.{Text}
use Rattle.ix_rec.specs.declared.netlist.Cell.{Cell}
use Rattle.ix_rec.specs.declared.netlist.NetlistRec.{NetlistRec}
use Rattle.ix_rec.specs.declared.netlist.PortOwner.{PortOwner}
use Rattle.ix_rec.specs.declared.netlist.PortOwner.TheVariants.{ExtPort, Inst}
use Rattle.ix_hierarchy.specs.declared.row.Row.{Row}
use Rattle.ix_hierarchy.specs.Hierarchy.{written_bit}
use Rattle.ix_hierarchy.specs.Nets.{is_of, bit_of}
use Rattle.ix_hierarchy.specs.Broken.{IsMet, IsWrittenTwice, IsInstanceOf}
use Rattle.ix_hierarchy.specs.Lists.{IsOuterRow, AreWritten, bit_in}
use Rattle.ix_hierarchy.specs.Walk.{IsLess}
use Rattle.ix_strings.specs.Names.{AllDiffer}
use Rattle.ix_twice.specs.declared.entries.Entry.{Entry}
use Rattle.ix_twice.specs.Repeats.{is_same_bit}
use Rattle.ix_twice.specs.Entries.{AreEntries, IsEntry, IsEntryRepeat, entry_of, entry_key, is_same_name}
use Rattle.ix_twice.proofs.Meaning.{InRange, Rises, bit_from, bit_parts, goes, is_outer_row, named_outer, outer_owners, outer_row, previous_same, same_from_parts, same_parts}
use Rattle.ix_twice.proofs.Twins.{IsFirst, after, name_from, name_parts, none_less_itself, of_eq, owner_of, same_row, true_false, twins}

same_number : (m n : ℕ) → Some m ≡ Some n → m ≡ n
same_number m n e = cc

same_text : (m n : Text) → Some m ≡ Some n → m ≡ n
same_text m n e = cc

same_entry : (m n : Entry) → Some m ≡ Some n → m ≡ n
same_entry m n e = cc

-- entries of one name are next to each other
pub name_repeats : (entries : List Entry) (j k : ℕ) (a b : Entry)
    → ((m n : ℕ) (x y : Entry) → m < n → slice_get entries m ≡ Some x → slice_get entries n ≡ Some y
    → IsLess (entry_key x) (entry_key y))
    → j < k → slice_get entries j ≡ Some a → slice_get entries k ≡ Some b
    → a.instance ≡ b.instance → a.name ≡ b.name → IsEntryRepeat entries (length entries) b.net
name_repeats entries j k a b rise lt is_a is_b inst name =
    let within : k < length entries = slice_get_within entries k b is_b in
    let mid : Entry = get_or entries (k - 1) b in
    let is_mid : slice_get entries (k - 1) ≡ Some mid = slice_get-get_or entries (k - 1) b (omega arith) in
    let up = after mid b (rise (k - 1) k mid b (omega arith) is_mid is_b) in
    record {
      place = k;
      from = omega arith;
      to = within;
      repeat = record {
        entry = b;
        entry_is = is_b;
        other = mid;
        other_is = is_mid;
        same = elim (cases_lt j (k - 1)) [
          | inl less ↦
              let low = after a mid (rise j (k - 1) a mid less is_a is_mid) in
              let e : mid.instance ≡ b.instance = omega (arith, low.instance, up.instance) in
              name_from mid b e (omega (arith, low.name (omega arith), up.name e))
          | inr more ↦
              let at : j ≡ k - 1 = omega arith in
              let it : a ≡ mid = same_entry a mid (sym is_a ∙ ap (slice_get entries) at ∙ is_mid) in
              subst (λ (x : Entry). is_same_name x b ≡ true) it (name_from a b inst name)
        ];
        net_is = refl;
      };
    }

-- rows of entries that differ are of different bits
entries_apart : (rows : List Row) (s e : ℕ) (p q : ℕ) (a b : Row) (m n : ℕ) → Rises rows s e → e ≤ length rows
    → s ≤ p → p < e → s ≤ q → q < e → slice_get rows p ≡ Some a → slice_get rows q ≡ Some b
    → IsFirst rows s p a → IsFirst rows s q b → (p ≡ q → ⊥) → is_same_bit a b ≡ true → ⊥
entries_apart rows s e p q a b m n rise high from_p to_p from_q to_q is_a is_b first_a first_b ne same =
    elim (cases_lt p q) [
      | inl lt ↦
          let mid = previous_same rows s e p q a b rise from_p lt to_q high is_a is_b same in
          true_false (is_same_bit mid.0 b) mid.2 (first_b mid.0 (omega arith) mid.1)
      | inr ge ↦ elim (cases_lt q p) [
        | inl gt ↦
            let parts = same_parts a b same in
            let mid = previous_same rows s e q p b a rise from_q gt to_p high is_b is_a
            (same_from_parts b a (sym parts.0) (sym parts.1) (sym parts.2)) in
            true_false (is_same_bit mid.0 a) mid.2 (first_a mid.0 (omega arith) mid.1)
        | inr le ↦ ne (omega arith)
      ]
    ]

pub repeats_twins : (names : List Text) (design : NetlistRec) (its : Cell) (rows : List Row) (written : List ℕ)
    (s e net : ℕ) (entries : List Entry) → InRange (IsOuterRow its) rows s e
    → AreWritten names design rows written → AreEntries (IsEntry rows written s e) entries
    → IsEntryRepeat entries (length entries) net → IsWrittenTwice names design its net
repeats_twins names design its rows written s e net entries range is_written are r =
    let one = r.repeat.other in
    let two = r.repeat.entry in
    let x = are.each (r.place - 1) one r.repeat.other_is in
    let y = are.each r.place two r.repeat.entry_is in
    let a = x.at_place.row in
    let b = y.at_place.row in
    let less = are.rise (r.place - 1) r.place one two (omega (arith, r.from)) r.repeat.other_is r.repeat.entry_is in
    let order = after one two less in
    let p = name_parts one two r.repeat.same in
    let inst : a.instance ≡ b.instance =
    sym (ap (λ (z : Entry). z.instance) x.at_place.entry_is) ∙ p.0 ∙ ap (λ (z : Entry). z.instance) y.at_place.entry_is in
    let name : x.at_place.name ≡ y.at_place.name =
    sym (ap (λ (z : Entry). z.name) x.at_place.entry_is) ∙ p.1 ∙ ap (λ (z : Entry). z.name) y.at_place.entry_is in
    let net_a : one.net ≡ a.net = ap (λ (z : Entry). z.net) x.at_place.entry_is in
    let net_b : two.net ≡ b.net = ap (λ (z : Entry). z.net) y.at_place.entry_is in
    let first_a : IsFirst rows s x.place a = λ other lt is. x.at_place.first a other lt x.at_place.row_is is in
    let first_b : IsFirst rows s y.place b = λ other lt is. y.at_place.first b other lt y.at_place.row_is is in
    let ne : x.place ≡ y.place → ⊥ = λ same.
    let rows_same : a ≡ b = same_row a b (sym x.at_place.row_is ∙ ap (slice_get rows) same ∙ y.at_place.row_is) in
    let entries_same : one ≡ two = x.at_place.entry_is ∙ ap (λ (z : Row). entry_of z x.at_place.name) rows_same
    ∙ ap (entry_of b) name ∙ sym y.at_place.entry_is in
    none_less_itself (entry_key two) (subst (λ (z : Entry). IsLess (entry_key z) (entry_key two)) entries_same less) in
    let wa = is_written.each x.place a x.at_place.name x.at_place.row_is x.at_place.name_is in
    let wb = is_written.each y.place b y.at_place.name y.at_place.row_is y.at_place.name_is in
    let text : wb.0 ≡ wa.0 = same_text wb.0 wa.0 (sym wb.1 ∙ ap (slice_get names) (sym name) ∙ wa.1) in
    subst (λ (n : ℕ). IsWrittenTwice names design its n) (sym net_b ∙ r.repeat.net_is)
    (twins names design its rows s e x.place y.place a b range x.from x.to y.from y.to x.at_place.row_is y.at_place.row_is
    first_a first_b inst
    (entries_apart rows s e x.place y.place a b 0 0 range.rise range.high x.from x.to y.from y.to x.at_place.row_is y.at_place.row_is first_a first_b ne)
    (omega (arith, order.net p.0 p.1)) wa.0 wa.2 (wb.2 ∙ ap Some text))

-- the first row of a row's bit
pub record FirstOf (rows : List Row) (s k : ℕ) (row : Row) : Type 0 where
  pub place : ℕ
  pub from : s ≤ place
  pub to : place ≤ k
  pub it : Row
  pub it_is : slice_get rows place ≡ Some it
  pub same : is_same_bit it row ≡ true
  pub net : it.net ≤ row.net
  pub first : IsFirst rows s place it

same_through : (a b c : Row) → is_same_bit a b ≡ true → is_same_bit b c ≡ true → is_same_bit a c ≡ true
same_through a b c e f =
    let p = same_parts a b e in
    let q = same_parts b c f in
    same_from_parts a c (p.0 ∙ q.0) (p.1 ∙ q.1) (p.2 ∙ q.2)

further : (rows : List Row) (s k : ℕ) (row prev : Row) → slice_get rows (suc k) ≡ Some row → slice_get rows k ≡ Some prev
    → s ≤ k → prev.net ≤ row.net → (b : Bool) → is_same_bit prev row ≡ b
    → FirstOf rows s k prev → FirstOf rows s (suc k) row
further rows s k row prev is is_prev from le true same rest = record {
  place = rest.place;
  from = rest.from;
  to = omega (arith, rest.to);
  it = rest.it;
  it_is = rest.it_is;
  same = same_through rest.it prev row rest.same same;
  net = omega (arith, rest.net);
  first = rest.first;
}
further rows s k row prev is is_prev from le false same rest = record {
  place = suc k;
  from = omega arith;
  to = omega arith;
  it = row;
  it_is = is;
  same = same_from_parts row row refl refl refl;
  net = omega arith;
  first = λ other lt other_is. subst (λ (x : Row). is_same_bit x row ≡ false)
      (same_row prev other (sym is_prev ∙ ap (slice_get rows) (pred k) ∙ other_is)) same;
}
  where
    pred : (k : ℕ) → k ≡ suc k - 1
    pred k = omega arith

pub first_of : (rows : List Row) (s e k : ℕ) (row : Row) → Rises rows s e → e ≤ length rows → s ≤ k → k < e
    → slice_get rows k ≡ Some row → FirstOf rows s k row
first_of rows s e zero row rise high from to is = record {
  place = 0;
  from = from;
  to = omega arith;
  it = row;
  it_is = is;
  same = same_from_parts row row refl refl refl;
  net = omega arith;
  first = λ other lt other_is. absurd (omega arith);
}
first_of rows s e (suc k) row rise high from to is = elim (cases_lt s (suc k)) [
  | inl less ↦
      let prev : Row = get_or rows k row in
      let is_prev : slice_get rows k ≡ Some prev = slice_get-get_or rows k row (omega arith) in
      let rest = first_of rows s e k prev rise high (omega arith) (omega arith) is_prev in
      by_same prev is_prev (omega arith) (is_same_bit prev row) refl rest
  | inr ge ↦ record {
    place = suc k;
    from = from;
    to = omega arith;
    it = row;
    it_is = is;
    same = same_from_parts row row refl refl refl;
    net = omega arith;
    first = λ other lt other_is. absurd (omega arith);
  }
]
  where
    by_same : (prev : Row) → slice_get rows k ≡ Some prev → s ≤ k → (b : Bool) → is_same_bit prev row ≡ b
        → FirstOf rows s k prev → FirstOf rows s (suc k) row
    by_same prev is_prev low true same rest =
        let g = goes prev row (rise k (suc k) prev row low (omega arith) to is_prev is) in
        let p = same_parts prev row same in
        let le : prev.net ≤ row.net = omega (arith, g.net p.0 p.1 p.2) in
        further rows s k row prev is is_prev low le true same rest
    by_same prev is_prev low false same rest = record {
      place = suc k;
      from = omega arith;
      to = omega arith;
      it = row;
      it_is = is;
      same = same_from_parts row row refl refl refl;
      net = omega arith;
      first = λ other lt other_is. subst (λ (x : Row). is_same_bit x row ≡ false)
          (same_row prev other (sym is_prev ∙ ap (slice_get rows) (pred k) ∙ other_is)) same;
    }
      where
        pred : (k : ℕ) → k ≡ suc k - 1
        pred k = omega arith

instance_is : (o : PortOwner) → IsInstanceOf o → (i : ℕ) × (is_of i o ≡ true)
instance_is (Inst i) h = (i, of_eq i i refl)
instance_is ExtPort h = absurd h

false_of : (b : Bool) → (b ≡ true → ⊥) → b ≡ false
false_of true f = absurd (f refl)
false_of false f = refl

-- a bit that is met first at a net has its first row there
met_is_first : (its : Cell) (rows : List Row) (s e k i net : ℕ) (place : ℕ) (named : _) → InRange (IsOuterRow its) rows s e
    → s ≤ k → k < e → slice_get rows k ≡ Some (outer_row i named net) → is_of i named.owner ≡ true
    → IsMet its net place named → IsFirst rows s k (outer_row i named net)
met_is_first its rows s e k i net place named range from to is by met other lt other_is =
    let row = outer_row i named net in
    false_of (is_same_bit other row) (λ same.
    let p = same_parts other row same in
    let g = goes other row (range.rise (k - 1) k other row (omega arith) (omega arith) to other_is is) in
    let n = named_outer its other (range.each (k - 1) other (omega arith) (omega arith) other_is) in
    let q = bit_parts (bit_of n.named) (bit_in other) n.same in
    let by_i : is_of i n.named.owner ≡ true = subst (λ (m : ℕ). is_of m n.named.owner ≡ true) p.0 n.by in
    met other.net n.place n.named (inl (g.net p.0 p.1 p.2))
    (record { of_net = n.net; net_is = n.net_is; named_is = n.named_is })
    (outer_owners i n.named.owner named.owner by_i by)
    (bit_from (bit_of n.named) (bit_of named) (q.0 ∙ p.1) (q.1 ∙ p.2)))

pub twins_repeat : (names : List Text) (design : NetlistRec) (its : Cell) (rows : List Row) (written : List ℕ)
    (s e net : ℕ) (entries : List Entry) → AllDiffer names → InRange (IsOuterRow its) rows s e
    → AreWritten names design rows written → AreEntries (IsEntry rows written s e) entries
    → IsWrittenTwice names design its net → (m : ℕ) × IsEntryRepeat entries (length entries) m × (m ≤ net)
twins_repeat names design its rows written s e net entries differ range is_written are t =
    let o = instance_is t.named.owner t.of_instance in
    let i : ℕ = o.0 in
    let by_other : is_of i t.other.owner ≡ true = owner_of i t.other.owner t.named.owner t.owner o.1 in
    let a : Row = outer_row i t.named net in
    let b : Row = outer_row i t.other t.earlier in
    let at_a = range.all a (is_outer_row its i net t.place t.named t.here o.1) in
    let at_b = range.all b (is_outer_row its i t.earlier t.other_place t.other t.there by_other) in
    let first_a = met_is_first its rows s e at_a.0 i net t.place t.named range at_a.1 at_a.2 at_a.3 o.1 t.met in
    let f = first_of rows s e at_b.0 b range.rise range.high at_b.1 at_b.2 at_b.3 in
    let fp = same_parts f.it b f.same in
    let name_a : ℕ = get_or written at_a.0 0 in
    let name_f : ℕ = get_or written f.place 0 in
    let name_a_is : slice_get written at_a.0 ≡ Some name_a = slice_get-get_or written at_a.0 0 (omega (arith, at_a.2, range.high, is_written.many)) in
    let name_f_is : slice_get written f.place ≡ Some name_f = slice_get-get_or written f.place 0 (omega (arith, f.to, at_b.2, range.high, is_written.many)) in
    let wa = is_written.each at_a.0 a name_a at_a.3 name_a_is in
    let wf = is_written.each f.place f.it name_f f.it_is name_f_is in
    let bits : bit_in f.it ≡ bit_of t.other = λ j. record { port = fp.1 j; index = fp.2 j } in
    let text_a : wa.0 ≡ t.text = same_text wa.0 t.text (sym wa.2 ∙ t.text_is) in
    let text_f : wf.0 ≡ t.text = same_text wf.0 t.text (sym wf.2 ∙ ap (written_bit names design) bits ∙ t.other_text_is) in
    let names_same : name_a ≡ name_f = differ name_a name_f t.text (wa.1 ∙ ap Some text_a) (wf.1 ∙ ap Some text_f) in
    let ea : Entry = entry_of a name_a in
    let ef : Entry = entry_of f.it name_f in
    let pa = are.all ea (record {
      place = at_a.0;
      from = at_a.1;
      to = at_a.2;
      at_place = record {
        row = a;
        row_is = at_a.3;
        name = name_a;
        name_is = name_a_is;
        first = λ row other lt row_is other_is.
            subst (λ (x : Row). is_same_bit other x ≡ false) (same_row a row (sym at_a.3 ∙ row_is)) (first_a other lt other_is);
        entry_is = refl;
      };
    }) in
    let pf = are.all ef (record {
      place = f.place;
      from = f.from;
      to = omega (arith, f.to, at_b.2);
      at_place = record {
        row = f.it;
        row_is = f.it_is;
        name = name_f;
        name_is = name_f_is;
        first = λ row other lt row_is other_is.
            subst (λ (x : Row). is_same_bit other x ≡ false) (same_row f.it row (sym f.it_is ∙ row_is)) (f.first other lt other_is);
        entry_is = refl;
      };
    }) in
    let early : t.earlier ≤ net = elim t.before [ inl x ↦ omega arith | inr x ↦ omega (arith, x.0) ] in
    elim (cases_lt pf.0 pa.0) [
      | inl less ↦ (net, name_repeats entries pf.0 pa.0 ef ea are.rise less pf.1 pa.1 fp.0 (sym names_same), omega arith)
      | inr ge ↦ elim (cases_lt pa.0 pf.0) [
        | inl more ↦ (f.it.net, name_repeats entries pa.0 pf.0 ea ef are.rise more pa.1 pf.1 (sym fp.0) names_same, omega (arith, f.net))
        | inr le ↦
            let at : pa.0 ≡ pf.0 = omega arith in
            let it : ea ≡ ef = same_entry ea ef (sym pa.1 ∙ ap (slice_get entries) at ∙ pf.1) in
            absurd (t.apart (bit_from (bit_of t.other) (bit_of t.named)
            (sym fp.1 ∙ sym (ap (λ (z : Entry). z.port) it)) (sym fp.2 ∙ sym (ap (λ (z : Entry). z.index) it))))
      ]
    ]
