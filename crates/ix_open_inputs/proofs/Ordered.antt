-- Where inputs stand, in order.
use Rattle.std.proofs.Common.{◌≡◌, ◌⊎◌, ◌<◌, ◌≤◌, ◌+◌, ◌^◌, ◌∙◌, ap, sym, subst, ℕ, zero, suc}
use Rattle.std.proofs.Common.{List, []}
use Rattle.std.proofs.Common.{◌∷◌, ◌++◌, Bool, true, false, length, slice_get, slice_index_or}
use Rattle.std.proofs.Common.{Option, Some, None, inl, inr, true≢false, arith}
use Rattle.std.specs.Prelude.{nat_lt, nat_eq, ◌&&◌, ◌||◌}
use Rattle.std.proofs.lemmas.Bool.{cases_lt, lt-ltb, le-ltb, ltb-true, eqb-true, eq-eqb}
use Rattle.std.proofs.lemmas.Option.{same_Some, none-some, slice_get_within, slice_get-get_or}
use Rattle.std.proofs.lemmas.Option.{get_or_from_slice_get}
use Rattle.std.proofs.lemmas.List.{append_cancel_left, append_cancel_right}
use Rattle.std.proofs.lemmas.Fmt.{decimal_injective}
use Rattle.std.specs.Prelude.{codes}
use Rattle.std.specs.Fmt.{decimal}
use Rattle.std.specs.List.{AllByRecursion}
use Rattle.ix_message.specs.Shape.{Text}
use Rattle.ix_rec.specs.declared.netlist.NetlistRec.{NetlistRec}
use Rattle.ix_rec.specs.declared.netlist.Port.{Port}
use Rattle.ix_rec.specs.declared.netlist.PortKind.{PortKind}
use Rattle.ix_rec.specs.declared.netlist.PortKind.TheVariants.{Bit, Bus}
use Rattle.ix_hierarchy.specs.Hierarchy.{PortNumber, width, written, bits_of_kind, bit_text}
use Rattle.ix_open_inputs.specs.Spelling.{IsIndexIn}
use Rattle.ix_open_inputs.specs.Standings.{IsEarlier, IsFirstOpen, IsStanding, IsWrittenAt}
use Rattle.ix_open_inputs.specs.Standings.{StandsOpen}
use Rattle.ix_open_inputs.specs.Places.{is_earlier, IsBest, IsBestOf, IsBetter, IsFirstStanding}
use Rattle.ix_open_inputs.specs.declared.first.Best.{Best}
use Rattle.ix_open_inputs.specs.declared.first.Standing.{Standing}

left : (a b : Bool) → (a && b) ≡ true → a ≡ true
left true b h = λ i. true
left false b h = h

right : (a b : Bool) → (a && b) ≡ true → b ≡ true
right true b h = h
right false true h = λ i. true
right false false h = h

or_true : (a : Bool) → (a || true) ≡ true
or_true true = λ i. true
or_true false = λ i. true

-- no port before this place has a bit that is written so
abbrev pub NoneBefore : List Text → NetlistRec → List PortNumber → Text → ℕ → Type 0
NoneBefore names design ports text bound = (place index : ℕ) → place < bound
    → IsWrittenAt names design ports place index text → ⊥

-- no two bits of a port are written alike
bits_apart : (kind : PortKind) (first last : ℕ) (name : Text) (i j : ℕ)
    → i < bits_of_kind kind first last → j < bits_of_kind kind first last
    → bits_of_kind kind first last ≤ 2 ^ 32 → bit_text kind name i ≡ bit_text kind name j → i ≡ j
bits_apart Bit first last name i j a b few same = omega (arith, a, b)
bits_apart Bus first last name i j a b few same =
    decimal_injective i j (omega (arith, a, few)) (omega (arith, b, few))
    (append_cancel_left (name ++ codes "[") (decimal i) (decimal j)
    (append_cancel_right (name ++ codes "[" ++ decimal i) (name ++ codes "[" ++ decimal j)
    (codes "]") same))

pub written_apart : (names : List Text) (port : Port) (i j : ℕ) → i < width port
    → j < width port → width port ≤ 2 ^ 32 → written names port i ≡ written names port j → i ≡ j
written_apart names port i j = bits_apart port.kind port.bus_start port.bus_end
    (slice_index_or names port.name []) i j

same_number : (xs : List ℕ) (p a b : ℕ) → slice_get xs p ≡ Some a → slice_get xs p ≡ Some b → a ≡ b
same_number xs p a b x y = same_Some a b (sym x ∙ y)

-- the port at a place is one
same_port : (design : NetlistRec) (ports : List PortNumber) (p a b : ℕ) (x y : Port)
    → slice_get ports p ≡ Some a → slice_get ports p ≡ Some b
    → slice_get design.port_list a ≡ Some x → slice_get design.port_list b ≡ Some y → x ≡ y
same_port design ports p a b x y at too is other = same_Some x y (sym is
    ∙ ap (slice_get design.port_list) (same_number ports p a b at too) ∙ other)

-- one place more
pub none_before_next : (names : List Text) (design : NetlistRec) (ports : List PortNumber)
    (name n number : ℕ) (port : Port) → slice_get ports n ≡ Some number
    → slice_get design.port_list number ≡ Some port → IsIndexIn names port name None
    → NoneBefore names design ports (slice_index_or names name []) n
    → NoneBefore names design ports (slice_index_or names name []) (n + 1)
none_before_next names design ports name n number port at is none before place index lt w =
    by (cases_lt place n)
  where
    by : (place < n) ⊎ (n ≤ place) → ⊥
    by (inl less) = before place index less w
    by (inr le) = let here : place ≡ n = omega (arith, lt, le) in
        let same : w.port ≡ port = same_port design ports n w.number number w.port port
        (subst (λ p. slice_get ports p ≡ Some w.number) here w.which) at w.port_is is in
        none index (subst (λ p. index < width p) same w.within)
        (w.text_is ∙ ap (λ p. written names p index) same)

pub found_first : (names : List Text) (design : NetlistRec) (ports : List PortNumber)
    (input name n number index : ℕ) (port : Port) → slice_get ports n ≡ Some number
    → slice_get design.port_list number ≡ Some port → IsIndexIn names port name (Some index)
    → width port ≤ 2 ^ 32 → NoneBefore names design ports (slice_index_or names name []) n
    → IsFirstStanding names design ports input (slice_index_or names name [])
    (record { place = n; index = index })
found_first names design ports input name n number index port at is found few before = record {
  stands = inl here;
  first = λ place i. earliest place i;
}
  where
    here : IsWrittenAt names design ports n index (slice_index_or names name [])
    here = record {
      number = number;
      which = at;
      port = port;
      port_is = is;
      within = found.0;
      text_is = found.1;
    }

    earliest : (place i : ℕ)
        → IsStanding names design ports input (slice_index_or names name []) place i
        → IsEarlier place i n index → ⊥
    earliest place i (inl w) (inl less) = before place i less w
    earliest place i (inl w) (inr less) =
        let same : w.port ≡ port = same_port design ports n w.number number w.port port
        (subst (λ p. slice_get ports p ≡ Some w.number) less.0 w.which) at w.port_is is in
        let equal : i ≡ index = written_apart names port i index
        (subst (λ p. i < width p) same w.within) found.0 few
        (ap (λ p. written names p i) (sym same) ∙ sym w.text_is ∙ found.1) in
        omega (arith, less.1, equal)
    earliest place i (inr none) earlier = none.0 n index here

pub found_none : (names : List Text) (design : NetlistRec) (ports : List PortNumber)
    (input : ℕ) (text : Text) (n : ℕ) → length ports ≤ n → NoneBefore names design ports text n
    → IsFirstStanding names design ports input text
    (record { place = length ports; index = input })
found_none names design ports input text n end before = record {
  stands = inr (none, refl_place, refl_index);
  first = λ place i. earliest place i;
}
  where
    refl_place : length ports ≡ length ports
    refl_place = λ i. length ports

    refl_index : input ≡ input
    refl_index = λ i. input

    none : (p i : ℕ) → IsWrittenAt names design ports p i text → ⊥
    none p i w = before p i
        (omega (arith, end, slice_get_within ports p w.number w.which)) w

    earliest : (place i : ℕ) → IsStanding names design ports input text place i
        → IsEarlier place i (length ports) input → ⊥
    earliest place i (inl w) earlier = none place i w
    earliest place i (inr past) (inl less) = omega (arith, past.1, less)
    earliest place i (inr past) (inr less) = omega (arith, past.2, less.1)

-- who stands first of two is judged in numbers
pub between : (p i other_place other_index best_place best_index : ℕ)
    → (IsEarlier p i other_place other_index → ⊥) → IsEarlier p i best_place best_index
    → IsEarlier other_place other_index best_place best_index
between p i op oi bp bi not_earlier (inl less) = by (cases_lt p op) (cases_lt i oi)
  where
    by : (p < op) ⊎ (op ≤ p) → (i < oi) ⊎ (oi ≤ i) → IsEarlier op oi bp bi
    by (inl lt) c = absurd (not_earlier (inl lt))
    by (inr le) c = inl (omega (arith, le, less))
between p i op oi bp bi not_earlier (inr less) = by (cases_lt p op) (cases_lt op p) (cases_lt i oi)
  where
    by : (p < op) ⊎ (op ≤ p) → (op < p) ⊎ (p ≤ op) → (i < oi) ⊎ (oi ≤ i) → IsEarlier op oi bp bi
    by (inl lt) d c = absurd (not_earlier (inl lt))
    by (inr le) (inl lt) c = inl (omega (arith, lt, less.0))
    by (inr le) (inr eq) (inl lt) = let same : p ≡ op = omega (arith, le, eq) in
        absurd (not_earlier (inr (same, lt)))
    by (inr le) (inr eq) (inr ge) = inr (omega (arith, le, eq, less.0), omega (arith, ge, less.1))

pub earlier_still : (p i other_place other_index best_place best_index : ℕ)
    → IsEarlier p i other_place other_index
    → IsEarlier other_place other_index best_place best_index
    → IsEarlier p i best_place best_index
earlier_still p i op oi bp bi (inl a) (inl b) = inl (omega (arith, a, b))
earlier_still p i op oi bp bi (inl a) (inr b) = inl (omega (arith, a, b.0))
earlier_still p i op oi bp bi (inr a) (inl b) = inl (omega (arith, a.0, b))
earlier_still p i op oi bp bi (inr a) (inr b) =
    inr (omega (arith, a.0, b.0), omega (arith, a.1, b.1))

pub earlier_tells : (one other : Standing) → is_earlier one other ≡ true
    → IsEarlier one.place one.index other.place other.index
earlier_tells one other tells = by (cases_lt one.place other.place)
  where
    by : (one.place < other.place) ⊎ (other.place ≤ one.place)
        → IsEarlier one.place one.index other.place other.index
    by (inl lt) = inl lt
    by (inr le) = let rest : (nat_eq one.place other.place && nat_lt one.index other.index) ≡ true
        = ap (λ b. b || (nat_eq one.place other.place && nat_lt one.index other.index))
        (sym (le-ltb one.place other.place le)) ∙ tells in
        inr (
          eqb-true one.place other.place (left _ _ rest),
          ltb-true one.index other.index (right _ _ rest),
        )

pub earlier_is : (one other : Standing) → IsEarlier one.place one.index other.place other.index
    → is_earlier one other ≡ true
earlier_is one other (inl lt) = ap (λ b. b || (nat_eq one.place other.place
    && nat_lt one.index other.index)) (lt-ltb one.place other.place lt)
earlier_is one other (inr eq) =
    ap (λ b. nat_lt one.place other.place || (b && nat_lt one.index other.index))
    (eq-eqb one.place other.place eq.0)
    ∙ ap (λ b. nat_lt one.place other.place || b) (lt-ltb one.index other.index eq.1)
    ∙ or_true (nat_lt one.place other.place)

-- one input more, which isn't open
pub best_stays : (names : List Text) (design : NetlistRec) (ports : List PortNumber)
    (pins : List ℕ) (unjoined : List Bool) (n : ℕ) (best : Option Best)
    → slice_get unjoined n ≡ Some false → IsBest names design ports pins unjoined n best
    → IsBest names design ports pins unjoined (n + 1) best
best_stays names design ports pins unjoined n None unset none = λ input lt set.
    by input lt set (cases_lt input n)
  where
    by : (input : ℕ) → input < n + 1 → slice_get unjoined input ≡ Some true
        → (input < n) ⊎ (n ≤ input) → ⊥
    by input lt set (inl less) = none input less set
    by input lt set (inr le) = let here : input ≡ n = omega (arith, lt, le) in
        true≢false (same_Some true false (sym set ∙ ap (slice_get unjoined) here ∙ unset))
best_stays names design ports pins unjoined n (Some best) unset is = record {
  here = is.here;
  first = λ name place index other lt. by name place index other lt (cases_lt other.input n);
}
  where
    by : (name place index : ℕ)
        (other : StandsOpen names design ports pins unjoined name place index)
        → other.input < n + 1 → (other.input < n) ⊎ (n ≤ other.input)
        → IsEarlier place index best.at.place best.at.index → ⊥
    by name place index other lt (inl less) = is.first name place index other less
    by name place index other lt (inr le) = let here : other.input ≡ n = omega (arith, lt, le) in
        absurd (true≢false (same_Some true false
        (sym other.is_open ∙ ap (slice_get unjoined) here ∙ unset)))

-- one input more, which is
pub best_next : (names : List Text) (design : NetlistRec) (ports : List PortNumber)
    (pins : List ℕ) (unjoined : List Bool) (n name : ℕ) (at : Standing) (best : Option Best)
    (result : Best) → slice_get unjoined n ≡ Some true → slice_get pins n ≡ Some name
    → name < length names
    → IsFirstStanding names design ports n (slice_index_or names name []) at
    → IsBest names design ports pins unjoined n best
    → IsBetter best (record { at = at; name = name }) result
    → IsBest names design ports pins unjoined (n + 1) (Some result)
best_next names design ports pins unjoined n name at best result set pin inside stands is better =
    by best is better
  where
    mine : StandsOpen names design ports pins unjoined name at.place at.index
    mine = record {
      input = n;
      pin = pin;
      is_open = set;
      text = slice_index_or names name [];
      named = slice_get-get_or names name [] inside;
      stands = stands.stands;
    }

    -- another standing of the same input
    again : (other_name place index : ℕ)
        (other : StandsOpen names design ports pins unjoined other_name place index)
        → other.input ≡ n → IsEarlier place index at.place at.index → ⊥
    again other_name place index other here e =
        let same : other_name ≡ name = same_Some other_name name
        (sym other.pin ∙ ap (slice_get pins) here ∙ pin) in
        let text : other.text ≡ slice_index_or names name [] = sym (get_or_from_slice_get names name
        other.text [] (ap (slice_get names) (sym same) ∙ other.named)) in
        stands.first place index
        (subst (λ t. IsStanding names design ports n t place index) text
        (subst (λ k. IsStanding names design ports k other.text place index) here other.stands)) e

    alone : ((input : ℕ) → input < n → slice_get unjoined input ≡ Some true → ⊥)
        → (other_name place index : ℕ)
        (other : StandsOpen names design ports pins unjoined other_name place index)
        → other.input < n + 1 → (other.input < n) ⊎ (n ≤ other.input)
        → IsEarlier place index at.place at.index → ⊥
    alone none other_name place index other lt (inl less) e = none other.input less other.is_open
    alone none other_name place index other lt (inr le) e =
        again other_name place index other (omega (arith, lt, le)) e

    changed : (old : Best) → IsBestOf names design ports pins unjoined n old
        → IsEarlier at.place at.index old.at.place old.at.index → (other_name place index : ℕ)
        (other : StandsOpen names design ports pins unjoined other_name place index)
        → other.input < n + 1 → (other.input < n) ⊎ (n ≤ other.input)
        → IsEarlier place index at.place at.index → ⊥
    changed old was sooner other_name place index other lt (inl less) e =
        was.first other_name place index other less
        (earlier_still place index at.place at.index old.at.place old.at.index e sooner)
    changed old was sooner other_name place index other lt (inr le) e =
        again other_name place index other (omega (arith, lt, le)) e

    kept : (old : Best) → IsBestOf names design ports pins unjoined n old
        → (IsEarlier at.place at.index old.at.place old.at.index → ⊥)
        → (other_name place index : ℕ)
        (other : StandsOpen names design ports pins unjoined other_name place index)
        → other.input < n + 1 → (other.input < n) ⊎ (n ≤ other.input)
        → IsEarlier place index old.at.place old.at.index → ⊥
    kept old was later other_name place index other lt (inl less) e =
        was.first other_name place index other less e
    kept old was later other_name place index other lt (inr le) e =
        later (between place index at.place at.index old.at.place old.at.index
        (again other_name place index other (omega (arith, lt, le))) e)

    moved : (b : Best) → IsBestOf names design ports pins unjoined (n + 1) b → result ≡ b
        → IsBestOf names design ports pins unjoined (n + 1) result
    moved b h same = subst (IsBestOf names design ports pins unjoined (n + 1)) (sym same) h

    by : (best : Option Best) → IsBest names design ports pins unjoined n best
        → IsBetter best (record { at = at; name = name }) result
        → IsBestOf names design ports pins unjoined (n + 1) result
    by None none same = moved (record { at = at; name = name }) (record {
      here = mine;
      first = λ k p i other lt. alone none k p i other lt (cases_lt other.input n);
    }) same
    by (Some old) was (inl b) = moved (record { at = at; name = name }) (record {
      here = mine;
      first = λ k p i other lt. changed old was (earlier_tells at old.at b.1) k p i other lt
          (cases_lt other.input n);
    }) b.0
    by (Some old) was (inr b) = moved old (record {
      here = was.here;
      first = λ k p i other lt. kept old was (λ e. b.1 (earlier_is at old.at e)) k p i other lt
          (cases_lt other.input n);
    }) b.0

-- once all inputs were looked at
pub best_told : (names : List Text) (design : NetlistRec) (ports : List PortNumber)
    (pins : List ℕ) (unjoined : List Bool) (n : ℕ) (best : Best) → length pins ≤ n
    → IsBestOf names design ports pins unjoined n best
    → IsFirstOpen names design ports pins unjoined best.name
best_told names design ports pins unjoined n best all is = record {
  place = best.at.place;
  index = best.at.index;
  here = is.here;
  first = λ name place index other. is.first name place index other
      (omega (arith, all, slice_get_within pins other.input name other.pin));
}

-- what holds of all items holds of each
pub at_place : {A : Type 0} (P : A → Type 0) (xs : List A) (i : ℕ) (x : A)
    → AllByRecursion P xs → slice_get xs i ≡ Some x → P x
at_place P [] i x all h = absurd (none-some x h)
at_place P (y ∷ ys) zero x all h = subst P (same_Some y x h) all.0
at_place P (y ∷ ys) (suc i) x all h = at_place P ys i x all.1 h
