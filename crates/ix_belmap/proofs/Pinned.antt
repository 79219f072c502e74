-- The nets of port cells and the rows of nets, as far as a map of pins was walked.
use Rattle.std.proofs.Common.{◌≡◌, ◌≢◌, refl, ap, sym, subst, ◌∙◌, ℕ, zero, suc, ◌+◌, ◌-◌, ◌<◌, ◌≤◌}
use Rattle.std.proofs.Common.{List, []}
use Rattle.std.proofs.Common.{◌∷◌, ◌++◌, length, replicate, slice_get, Bool, true, false, cond, not}
use Rattle.std.proofs.Common.{◌&&◌, ◌||◌}
use Rattle.std.proofs.Common.{T, Vec, set, nat_eq, nat_lt, Option, Some, None, option_map}
use Rattle.std.proofs.Common.{append-nil, arith}
use Rattle.std.proofs.lemmas.Bool.{eqb-true, eqb-false, eq-eqb, ltb-true, ltb-false, le-ltb}
use Rattle.std.proofs.lemmas.List.{append_assoc, length-replicate, map-append}
use Rattle.std.proofs.lemmas.Option.{slice_get-map}
use Rattle.std.specs.Global.{Global}
use Rattle.std.proofs.lemmas.List.Elements.{filter_map-append}
use Rattle.std.proofs.lemmas.List.Folds.{list_any-append}
use Rattle.std.specs.FinMap.{entries, entries_sorted}
use Rattle.std.specs.FinMap.Entries.{is_sorted}
use Rattle.std.specs.List.{AllByRecursion, cons_option, filter, filter_map, list_any}
use Rattle.ix_num.specs.declared.resource.NetRef.{NetRef}
use Rattle.ix_num.specs.declared.resource.NetRef.TheVariants.{Gnd, Vcc, Signal}
use Rattle.ix_first.specs.First.{or_later}
use Rattle.ix_rec.specs.Maps.{pin_order}
use Rattle.ix_rec.specs.declared.flow.Flat.{Flat}
use Rattle.ix_flat.specs.Range.{IsCellOf, IsNetOf, NumbersFit}
use Rattle.ix_belmap.specs.Groups.{inner_cells, is_on, net_of_port, signal, signal_at, signals_of}
use Rattle.ix_belmap.specs.Marks.{AreRows, IsNetBelow, lists_of, with_cell, with_pin}
use Rattle.ix_belmap.proofs.Lists.{between, eq_not, set_here, set_other}
use Rattle.ix_belmap.proofs.Rows.{filter_alike, filter_none, row_grows}
use Rattle.ix_belmap.proofs.Sorted.{none_later}

abbrev pub Entry : Type 0
Entry = (ℕ × ℕ) × NetRef

-- the signal nets of a cell, as far as pins were walked
abbrev pub signals_in : List Entry → (cell : ℕ) → List ℕ
signals_in pins cell = filter_map (signal_at cell) pins

-- the same with one pin more
signals_push : (pins : List Entry) (pin : Entry) (cell : ℕ)
    → signals_in (pins ++ pin ∷ []) cell
    ≡ signals_in pins cell ++ cons_option (cond (nat_eq pin.0.0 cell) (signal pin.1) None) []
signals_push pins pin cell = filter_map-append (signal_at cell) pins (pin ∷ [])

-- the nets of port cells, while the pins from some on are still to come
pub record KnowsNets (flat : Flat) (nets : ℕ → Option (Option ℕ)) (rest : List Entry) : Type 0 where
  pub done : List Entry
  pub all : entries flat.pins ≡ done ++ rest
  pub told : (port : ℕ) → port < flat.ports → nets port ≡ Some (slice_get (signals_in done port) 0)

split : (all done rest now : List Entry) (pin : Entry) → all ≡ done ++ rest → rest ≡ pin ∷ now
    → all ≡ (done ++ pin ∷ []) ++ now
split all done rest now pin is step =
    is ∙ ap (λ l. done ++ l) step ∙ sym (append_assoc done (pin ∷ []) now)

first_of : (xs ys : List ℕ) (b : Bool) (net : ℕ) → ys ≡ cons_option (cond b (Some net) None) []
    → slice_get (xs ++ ys) 0 ≡ or_later (slice_get xs 0) b net
first_of [] ys true net is = ap (λ l. slice_get l 0) is
first_of [] ys false net is = ap (λ l. slice_get l 0) is
first_of (x ∷ xs) ys b net is = refl

pub nets_start : (flat : Flat) (nets : ℕ → Option (Option ℕ)) (rest : List Entry)
    → rest ≡ entries flat.pins → ((port : ℕ) → port < flat.ports → nets port ≡ Some None)
    → KnowsNets flat nets rest
nets_start flat nets rest is none = record { done = []; all = sym is; told = none }

pub nets_signal : (flat : Flat) (old new : ℕ → Option (Option ℕ)) (rest now : List Entry)
    (pin : Entry) (net : ℕ)
    → KnowsNets flat old rest → rest ≡ pin ∷ now → pin.1 ≡ Signal net
    → ((i : ℕ) → new i ≡ option_map (λ v. or_later v (nat_eq pin.0.0 i) net) (old i))
    → KnowsNets flat new now
nets_signal flat old new rest now pin net known step is put = record {
  done = known.done ++ pin ∷ [];
  all = split (entries flat.pins) known.done rest now pin known.all step;
  told = λ port lt. put port
      ∙ ap (option_map (λ v. or_later v (nat_eq pin.0.0 port) net)) (known.told port lt)
      ∙ ap Some (sym (ap (λ l. slice_get l 0) (signals_push known.done pin port)
      ∙ first_of (signals_in known.done port)
      (cons_option (cond (nat_eq pin.0.0 port) (signal pin.1) None) [])
      (nat_eq pin.0.0 port) net
      (ap (λ o. cons_option (cond (nat_eq pin.0.0 port) o None) []) (ap signal is))));
}

abbrev pub IsConstant : NetRef → Type 0
IsConstant net = (n : ℕ) → net ≡ Signal n → ⊥

no_signal : (net : NetRef) → IsConstant net → signal net ≡ None
no_signal Gnd h = refl
no_signal Vcc h = refl
no_signal (Signal n) h = absurd (h n refl)

nothing_more : (b : Bool) (o : Option ℕ) → o ≡ None → cons_option (cond b o None) [] ≡ []
nothing_more true o is = ap (λ p. cons_option p []) is
nothing_more false o is = refl

pub nets_constant : (flat : Flat) (old : ℕ → Option (Option ℕ)) (rest now : List Entry)
    (pin : Entry)
    → KnowsNets flat old rest → rest ≡ pin ∷ now → IsConstant pin.1 → KnowsNets flat old now
nets_constant flat old rest now pin known step constant = record {
  done = known.done ++ pin ∷ [];
  all = split (entries flat.pins) known.done rest now pin known.all step;
  told = λ port lt. known.told port lt
      ∙ ap (λ l. Some (slice_get l 0)) (sym (signals_push known.done pin port
      ∙ ap (λ l. signals_in known.done port ++ l)
      (nothing_more (nat_eq pin.0.0 port) (signal pin.1) (no_signal pin.1 constant))
      ∙ append-nil (signals_in known.done port)));
}

pub nets_end : (flat : Flat) (nets : ℕ → Option (Option ℕ)) (rest : List Entry)
    → KnowsNets flat nets rest
    → rest ≡ [] → (port : ℕ) → port < flat.ports → nets port ≡ Some (net_of_port flat port)
unfolding net_of_port signals_of
nets_end flat nets rest known is port lt =
    known.told port lt
    ∙ ap (λ l. Some (slice_get (signals_in l port) 0))
    (sym (known.all ∙ ap (λ l. known.done ++ l) is ∙ append-nil known.done))

-- whether a cell is on a net, as far as pins were walked
abbrev pub on_in : List Entry → (net cell : ℕ) → Bool
on_in pins net cell = list_any (nat_eq net) (signals_in pins cell)

-- the rows, while the pins from some on are still to come
pub record KnowsRows (flat : Flat) (rows : List (List ℕ)) (rest : List Entry) : Type 0 where
  pub done : List Entry
  pub all : entries flat.pins ≡ done ++ rest
  pub count : length rows ≡ length flat.nets
  pub each : (net : ℕ) → net < length flat.nets
      → slice_get rows net ≡ Some (filter (on_in done net) (inner_cells flat))

empty_at : (n i : ℕ) → i < n → slice_get {X = List ℕ} (replicate n []) i ≡ Some []
empty_at zero i lt = absurd (omega arith)
empty_at (suc n) zero lt = refl
empty_at (suc n) (suc i) lt = empty_at n i (omega arith)

pub rows_start : (flat : Flat) (rows : List (List ℕ)) (n : ℕ) (rest : List Entry)
    → rest ≡ entries flat.pins
    → n ≡ length flat.nets → rows ≡ replicate n [] → KnowsRows flat rows rest
rows_start flat rows n rest is as_many empty = record {
  done = [];
  all = sym is;
  count = ap length empty ∙ length-replicate n [] ∙ as_many;
  each = λ net lt. ap (λ l. slice_get l net) empty ∙ empty_at n net (omega arith)
      ∙ ap Some (sym (filter_none (on_in [] net) flat.ports (length flat.cells - flat.ports)
      (λ q le below. refl)));
}

or_false : (b : Bool) → (b || false) ≡ b
or_false true = refl
or_false false = refl

on_push : (pins : List Entry) (pin : Entry) (net cell : ℕ) (o : Option ℕ)
    → cond (nat_eq pin.0.0 cell) (signal pin.1) None ≡ o
    → on_in (pins ++ pin ∷ []) net cell ≡
    (on_in pins net cell || list_any (nat_eq net) (cons_option o []))
on_push pins pin net cell o is =
    ap (list_any (nat_eq net)) (signals_push pins pin cell)
    ∙ list_any-append (nat_eq net) (signals_in pins cell)
    (cons_option (cond (nat_eq pin.0.0 cell) (signal pin.1) None) [])
    ∙ ap (λ p. on_in pins net cell || list_any (nat_eq net) (cons_option p [])) is

-- a pin that isn't the cell's, or isn't on the net, changes nothing
on_same : (pins : List Entry) (pin : Entry) (net cell : ℕ)
    → cond (nat_eq pin.0.0 cell) (signal pin.1) None ≡ None
    → on_in (pins ++ pin ∷ []) net cell ≡ on_in pins net cell
on_same pins pin net cell is = on_push pins pin net cell None is ∙ or_false (on_in pins net cell)

cond_none : (b : Bool) (o : Option ℕ) → o ≡ None → cond b o None ≡ None
cond_none true o is = is
cond_none false o is = refl

module _ (flat : Flat) (done : List Entry) (pin : Entry) (rest : List Entry)
    (fits : NumbersFit flat) (all : entries flat.pins ≡ done ++ pin ∷ rest) (net : ℕ) where
  -- the row of the net before the pin, and with it
  abbrev pub row : List ℕ
  row = filter (on_in done net) (inner_cells flat)

  abbrev pub next : List ℕ
  next = filter (on_in (done ++ pin ∷ []) net) (inner_cells flat)

  same_row : ((q : ℕ) → flat.ports ≤ q → on_in (done ++ pin ∷ []) net q ≡ on_in done net q)
      → row ≡ next
  same_row same =
      filter_alike (on_in done net) (on_in (done ++ pin ∷ []) net) flat.ports
      (length flat.cells - flat.ports)
      (λ q le lt. sym (same q le))

  cell_fits : pin.0.0 < length flat.cells
  cell_fits =
      (between (λ entry. IsCellOf flat entry.0.0 × IsNetOf flat entry.1) done pin rest
      (subst (AllByRecursion (λ entry. IsCellOf flat entry.0.0 × IsNetOf flat entry.1)) all
      fits.pins)).0

  sorted : T (is_sorted pin_order (done ++ pin ∷ rest))
  sorted = subst (λ l. T (is_sorted pin_order l)) all (entries_sorted flat.pins)

  -- no cell past the pin's was met
  past : (q : ℕ) → pin.0.0 < q → on_in done net q ≡ false
  past q lt = ap (list_any (nat_eq net)) (none_later signal done pin rest q sorted lt)

  grows : pin.1 ≡ Signal net → flat.ports ≤ pin.0.0 → with_cell row pin.0.0 ≡ next
  grows is le =
      let ports = fits.ports in let cell = cell_fits in
      sym (row_grows (on_in done net) (on_in (done ++ pin ∷ []) net) flat.ports
      (length flat.cells - flat.ports) pin.0.0
      le (omega arith) past (λ q. here q (nat_eq pin.0.0 q) refl))
    where
      here : (q : ℕ) (b : Bool) → nat_eq pin.0.0 q ≡ b
          → on_in (done ++ pin ∷ []) net q ≡ (on_in done net q || nat_eq q pin.0.0)
      here q true e =
          on_push done pin net q (Some net) (ap (λ b. cond b (signal pin.1) None) e ∙ ap signal is)
          ∙ ap (λ b. on_in done net q || b)
          (or_false (nat_eq net net) ∙ eq-eqb net net refl
          ∙ sym (eq-eqb q pin.0.0 (sym (eqb-true pin.0.0 q e))))
      here q false e =
          on_same done pin net q (ap (λ b. cond b (signal pin.1) None) e)
          ∙ sym (ap (λ b. on_in done net q || b)
          (eq_not q pin.0.0 (λ k. eqb-false pin.0.0 q e (sym k)))
          ∙ or_false (on_in done net q))

  pub row_next : with_pin flat.ports pin.0.0 pin.1 net row ≡ next
  row_next = by pin.1 refl
    where
      constant : signal pin.1 ≡ None → row ≡ next
      constant none = same_row (λ q le. on_same done pin net q
          (cond_none (nat_eq pin.0.0 q) (signal pin.1) none))

      other : (m : ℕ) → pin.1 ≡ Signal m → nat_eq m net ≡ false → row ≡ next
      other m is apart = same_row (λ q le. at q (nat_eq pin.0.0 q) refl)
        where
          at : (q : ℕ) (b : Bool) → nat_eq pin.0.0 q ≡ b
              → on_in (done ++ pin ∷ []) net q ≡ on_in done net q
          at q true e =
              on_push done pin net q (Some m)
              (ap (λ b. cond b (signal pin.1) None) e ∙ ap signal is)
              ∙ ap (λ b. on_in done net q || b)
              (or_false (nat_eq net m) ∙ eq_not net m (λ k. eqb-false m net apart (sym k)))
              ∙ or_false (on_in done net q)
          at q false e = on_same done pin net q (ap (λ b. cond b (signal pin.1) None) e)

      port : pin.0.0 < flat.ports → row ≡ next
      port lt = same_row (λ q le. on_same done pin net q
          (ap (λ b. cond b (signal pin.1) None)
          (eq_not pin.0.0 q (let ne : pin.0.0 ≢ q = omega arith in ne))))

      by : (r : NetRef) → pin.1 ≡ r → with_pin flat.ports pin.0.0 r net row ≡ next
      by Gnd e = constant (ap signal e)
      by Vcc e = constant (ap signal e)
      by (Signal m) e = test (nat_eq m net) refl (nat_lt pin.0.0 flat.ports) refl
        where
          test : (a : Bool) → nat_eq m net ≡ a → (b : Bool) → nat_lt pin.0.0 flat.ports ≡ b
              → cond (a && not b) (with_cell row pin.0.0) row ≡ next
          test true h true g = port (ltb-true pin.0.0 flat.ports g)
          test true h false g = grows (e ∙ ap Signal (eqb-true m net h))
              (ltb-false pin.0.0 flat.ports g)
          test false h b g = other m e h

-- one pin more
pub rows_next : (flat : Flat) (old new : List (List ℕ)) (rest now : List Entry) (pin : Entry)
    → NumbersFit flat
    → KnowsRows flat old rest → rest ≡ pin ∷ now → length new ≡ length old
    → ((n : ℕ) → slice_get new n ≡ option_map (with_pin flat.ports pin.0.0 pin.1 n)
    (slice_get old n))
    → KnowsRows flat new now
rows_next flat old new rest now pin fits known step as_many put = record {
  done = known.done ++ pin ∷ [];
  all = split (entries flat.pins) known.done rest now pin known.all step;
  count = as_many ∙ known.count;
  each = λ net lt. put net ∙ ap (option_map (with_pin flat.ports pin.0.0 pin.1 net))
      (known.each net lt)
      ∙ ap Some (row_next flat known.done pin now fits
      (known.all ∙ ap (λ l. known.done ++ l) step) net);
}

pub rows_end : (flat : Flat) (rows : List (List ℕ)) (rest : List Entry) → KnowsRows flat rows rest
    → rest ≡ []
    → AreRows flat rows
unfolding is_on signals_of
rows_end flat rows rest known is = record {
  count = known.count;
  each = λ net lt. known.each net lt
      ∙ ap (λ l. Some (filter (on_in l net) (inner_cells flat)))
      (sym (known.all ∙ ap (λ l. known.done ++ l) is ∙ append-nil known.done));
}

-- the net of a pin has a row
net_below : (flat : Flat) (count : ℕ) (net : NetRef) → count ≡ length flat.nets → IsNetOf flat net
    → IsNetBelow count net
net_below flat count Gnd is h = tt
net_below flat count Vcc is h = tt
net_below flat count (Signal n) is h = omega arith

pub row_there : (flat : Flat) (rows : List (List ℕ)) (count : ℕ) (rest now : List Entry)
    (pin : Entry) → NumbersFit flat
    → KnowsRows flat rows rest → rest ≡ pin ∷ now → count ≡ length rows → IsNetBelow count pin.1
row_there flat rows count rest now pin fits known step is =
    net_below flat count pin.1 (is ∙ known.count)
    (between (λ entry. IsCellOf flat entry.0.0 × IsNetOf flat entry.1) known.done pin now
    (subst (AllByRecursion (λ entry. IsCellOf flat entry.0.0 × IsNetOf flat entry.1))
    (known.all ∙ ap (λ l. known.done ++ l) step) fits.pins)).1

pub replicate_more : {A : Type 0} (n : ℕ) (x : A) → replicate (n + 1) x ≡ replicate n x ++ x ∷ []
replicate_more n x = let e : n + 1 ≡ suc n = omega arith in ap (λ k. replicate k x) e ∙ by n
  where
    by : (k : ℕ) → replicate (suc k) x ≡ replicate k x ++ x ∷ []
    by zero = refl
    by (suc k) = ap (λ l. x ∷ l) (by k)

-- one row more
pub empty_more : (rows : List (Vec ℕ Global)) (n : ℕ) (row : Vec ℕ Global) → row.items ≡ []
    → lists_of rows ≡ replicate n [] → lists_of (rows ++ row ∷ []) ≡ replicate (n + 1) []
empty_more rows n row empty is =
    map-append (λ v. v.items) rows (row ∷ []) ∙ ap (λ l. l ++ row.items ∷ []) is
    ∙ ap (λ l. replicate n [] ++ l ∷ []) empty ∙ sym (replicate_more n [])

-- a row with a cell put into it
pub put_told : (rows : List (Vec ℕ Global)) (ports cell : ℕ) (ref : NetRef) (net i : ℕ)
    (old row : Vec ℕ Global)
    → ref ≡ Signal net → i ≡ net → i < length rows → ports ≤ cell → slice_get rows i ≡ Some old
    → row.items ≡ with_cell old.items cell
    → (n : ℕ) → slice_get (lists_of (set rows i row)) n
    ≡ option_map (with_pin ports cell ref n) (slice_get (lists_of rows) n)
put_told rows ports cell ref net i old row is place lt inner at put n =
    slice_get-map (λ v. v.items) (set rows i row) n ∙ by (nat_eq i n) refl
    ∙ sym (ap (option_map (with_pin ports cell ref n)) (slice_get-map (λ v. v.items) rows n))
  where
    passes : nat_lt cell ports ≡ false
    passes = le-ltb cell ports inner

    here : i ≡ n → with_cell old.items cell ≡ with_pin ports cell ref n old.items
    here e =
        sym (ap (λ r. with_pin ports cell r n old.items) is
        ∙ ap (λ b. cond (b && not (nat_lt cell ports)) (with_cell old.items cell) old.items)
        (eq-eqb net n (sym place ∙ e))
        ∙ ap (λ b. cond (not b) (with_cell old.items cell) old.items) passes)

    apart : nat_eq i n ≡ false → (o : Option (Vec ℕ Global))
        → option_map (λ v. v.items) o ≡ option_map (with_pin ports cell ref n)
        (option_map (λ v. v.items) o)
    apart e None = refl
    apart e (Some v) = ap Some (sym (ap (λ r. with_pin ports cell r n v.items) is
        ∙ ap (λ b. cond (b && not (nat_lt cell ports)) (with_cell v.items cell) v.items)
        (ap (λ k. nat_eq k n) (sym place) ∙ e)))

    by : (b : Bool) → nat_eq i n ≡ b
        → option_map (λ v. v.items) (slice_get (set rows i row) n)
        ≡ option_map (with_pin ports cell ref n) (option_map (λ v. v.items) (slice_get rows n))
    by true e = let is_n : i ≡ n = eqb-true i n e in
        ap (λ k. option_map (λ v. v.items) (slice_get (set rows i row) k)) (sym is_n)
        ∙ ap (option_map (λ v. v.items)) (set_here rows i row lt)
        ∙ ap Some (put ∙ here is_n)
        ∙ ap (λ o. option_map (with_pin ports cell ref n) (option_map (λ v. v.items) o))
        (sym at ∙ ap (slice_get rows) is_n)
    by false e =
        ap (option_map (λ v. v.items)) (set_other rows i n row (eqb-false i n e))
        ∙ apart e (slice_get rows n)
