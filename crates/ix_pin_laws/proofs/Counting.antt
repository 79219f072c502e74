-- Port cells are the bits with a type, in order.
use Rattle.std.proofs.Common.{◌≡◌, ◌<◌, ◌≤◌, ◌+◌, ap, refl, sym, ◌∙◌, ℕ, suc, List, [], ◌∷◌, ◌++◌}
use Rattle.std.proofs.Common.{map, slice_get, Option, Some, None, codes, arith, take, length, Bool}
use Rattle.std.proofs.Common.{true, false, is_some, inl, inr, cond}
use Rattle.std.specs.List.{count_by, flat_map, range_with_len, sum_by}
use Rattle.std.proofs.lemmas.List.{take-append-le, take_all}
use Rattle.std.proofs.Math.Seq.{take-append-add}
use Rattle.std.proofs.lemmas.List.Concat.{length-flat_map}
use Rattle.std.proofs.lemmas.List.FromFn.{length-map-range_with_len}
use Rattle.std.proofs.lemmas.List.Sums.{sum_by-append, sum_by-cons}
use Rattle.std.proofs.lemmas.Option.{none-some}
use Rattle.ix_message.specs.Shape.{Text}
use Rattle.ix_rec.specs.declared.netlist.NetlistRec.{NetlistRec}
use Rattle.ix_rec.specs.declared.netlist.Port.{Port}
use Rattle.ix_hierarchy.specs.Hierarchy.{PortNumber, ports_of, width, written}
use Rattle.ix_hierarchy.specs.FlatDesign.{cells_of_port, port_cells, port_cells_of}
use Rattle.ix_hierarchy.specs.FlatDesign.{port_type}
use Rattle.ix_joined.specs.Joining.{TopPlace, bits_at, places_from}
use Rattle.ix_pin_laws.specs.Laws.{ArePortCellsCounted, has_type}
use Rattle.ix_pin_laws.proofs.Items.{all_count, in_either, made_at, none_count, sum_same}

abbrev placed : (place : ℕ) → PortNumber → Port → (index : ℕ) → TopPlace
placed place number port index =
    record { place = place; index = index; number = number; dir = port.dir }

-- how many cells a port has
abbrev pub cells_in : NetlistRec → PortNumber → ℕ
cells_in design number = cells_of_port (slice_get design.port_list number)

abbrev typed_width : Bool → ℕ → ℕ
typed_width true n = n
typed_width false n = 0

port_count : (port : Port) → cells_of_port (Some port)
    ≡ typed_width (is_some (port_type port.dir)) (width port)
port_count port = by (is_some (port_type port.dir)) refl
  where
    by : (b : Bool) → is_some (port_type port.dir) ≡ b
        → cells_of_port (Some port) ≡ typed_width (is_some (port_type port.dir)) (width port)
    by true e = rw e refl
    by false e = rw e refl

-- the first bits of one port that has a type
bits_count : (place : ℕ) (number : PortNumber) (port : Port) (k : ℕ)
    → is_some (port_type port.dir) ≡ true → k ≤ width port
    → count_by has_type (take k (bits_at place number (Some port))) ≡ k
bits_count place number port k typed le =
    let long : length (bits_at place number (Some port)) ≡ width port =
    length-map-range_with_len (placed place number port) 0 (width port) in
    all_count has_type (bits_at place number (Some port)) (λ i at h.
    let is = made_at (placed place number port) (width port) i at h in
    ap has_type is.1 ∙ typed) k (omega arith)

-- all bits of one port
one_count : (place : ℕ) (number : PortNumber) (o : Option Port)
    → count_by has_type (bits_at place number o) ≡ cells_of_port o
one_count place number None = refl
one_count place number (Some port) = by (is_some (port_type port.dir)) refl
  where
    by : (b : Bool) → is_some (port_type port.dir) ≡ b
        → count_by has_type (bits_at place number (Some port)) ≡ cells_of_port (Some port)
    by true e =
        let long : length (bits_at place number (Some port)) ≡ width port =
        length-map-range_with_len (placed place number port) 0 (width port) in
        ap (count_by has_type) (sym (take_all (width port) (bits_at place number (Some port))
        (omega arith)))
        ∙ bits_count place number port (width port) e (omega arith)
        ∙ sym (port_count port ∙ ap (λ b. typed_width b (width port)) e)
    by false e = none_count has_type (bits_at place number (Some port)) (λ i at h.
        let is = made_at (placed place number port) (width port) i at h in
        ap has_type is.1 ∙ e)
        ∙ sym (port_count port ∙ ap (λ b. typed_width b (width port)) e)

-- all bits of ports from a place on
all_bits : (design : NetlistRec) (from : ℕ) (numbers : List PortNumber)
    → count_by has_type (places_from design from numbers) ≡ sum_by (cells_in design) numbers
all_bits design from [] = refl
all_bits design from (number ∷ numbers) =
    sum_by-append (λ at. cond (has_type at) 1 0)
    (bits_at from number (slice_get design.port_list number)) (places_from design (from + 1) numbers)
    ∙ ap (λ n. n + count_by has_type (places_from design (from + 1) numbers))
    (one_count from number (slice_get design.port_list number))
    ∙ ap (λ n. cells_in design number + n) (all_bits design (from + 1) numbers)
    ∙ sym (sum_by-cons (cells_in design) number numbers)

-- where a bit of ports from a place on stands
pub record IsCounted (design : NetlistRec) (from : ℕ) (numbers : List PortNumber) (k : ℕ)
    (at : TopPlace) : Type 0 where
  pub offset : ℕ
  pub place_is : at.place ≡ from + offset
  pub count_is : count_by has_type (take k (places_from design from numbers))
      ≡ sum_by (cells_in design) (take offset numbers) + at.index

in_port : (design : NetlistRec) (from : ℕ) (number : PortNumber) (numbers : List PortNumber)
    (k : ℕ) (at : TopPlace) (o : Option Port) → slice_get design.port_list number ≡ o
    → slice_get (bits_at from number o) k ≡ Some at → has_type at ≡ true
    → IsCounted design from (number ∷ numbers) k at
in_port design from number numbers k at None e h typed = absurd (none-some at h)
in_port design from number numbers k at (Some port) e h typed =
    let made = made_at (placed from number port) (width port) k at h in
    let rest = places_from design (from + 1) numbers in
    let long : length (bits_at from number (Some port)) ≡ width port =
    length-map-range_with_len (placed from number port) 0 (width port) in
    let less : k < width port = made.0 in
    let index : at.index ≡ k = ap (λ (t : TopPlace). t.index) made.1 in
    let place : at.place ≡ from = ap (λ (t : TopPlace). t.place) made.1 in
    let count : count_by has_type (take k (bits_at from number (Some port))) ≡ k =
    bits_count from number port k (sym (ap has_type made.1) ∙ typed) (omega arith) in
    record {
      offset = 0;
      place_is = omega arith;
      count_is = ap (λ p. count_by has_type (take k (bits_at from number p ++ rest))) e
          ∙ ap (count_by has_type)
          (take-append-le k (bits_at from number (Some port)) rest (omega arith))
          ∙ count ∙ sym index ∙ (let z : at.index ≡ 0 + at.index = omega arith in z);
    }

pub before : (design : NetlistRec) (from : ℕ) (numbers : List PortNumber) (k : ℕ) (at : TopPlace)
    → slice_get (places_from design from numbers) k ≡ Some at → has_type at ≡ true
    → IsCounted design from numbers k at
before design from [] k at h typed = absurd (none-some at h)
before design from (number ∷ numbers) k at h typed =
    elim (in_either (bits_at from number (slice_get design.port_list number))
    (places_from design (from + 1) numbers) k at h) [
      | inl first ↦ in_port design from number numbers k at (slice_get design.port_list number) refl
          first typed
      | inr second ↦
          let front = bits_at from number (slice_get design.port_list number) in
          let rest = places_from design (from + 1) numbers in
          let more = before design (from + 1) numbers second.0 at second.2 typed in
          let e : at.place ≡ from + 1 + more.offset = more.place_is in
          let split : take k (front ++ rest) ≡ front ++ take second.0 rest =
          ap (λ n. take n (front ++ rest)) second.1 ∙ take-append-add front rest second.0 in
          let a : count_by has_type (front ++ take second.0 rest)
          ≡ count_by has_type front + count_by has_type (take second.0 rest) =
          sum_by-append (λ t. cond (has_type t) 1 0) front (take second.0 rest) in
          let b : count_by has_type front ≡ cells_in design number =
          one_count from number (slice_get design.port_list number) in
          let c : count_by has_type (take second.0 rest)
          ≡ sum_by (cells_in design) (take more.offset numbers) + at.index = more.count_is in
          let d : sum_by (cells_in design) (number ∷ take more.offset numbers)
          ≡ cells_in design number + sum_by (cells_in design) (take more.offset numbers) =
          sum_by-cons (cells_in design) number (take more.offset numbers) in
          let all : count_by has_type (front ++ take second.0 rest)
          ≡ sum_by (cells_in design) (number ∷ take more.offset numbers) + at.index = omega arith in
          record {
            offset = suc more.offset;
            place_is = omega arith;
            count_is = ap (count_by has_type) split ∙ all;
          }
    ]

-- port cells, by the ports
abbrev cells_at : List Text → NetlistRec → PortNumber → List (Text × Text)
cells_at names design number = of (slice_get design.port_list number)
  where
    of : Option Port → List (Text × Text)
    of None = []
    of (Some port) = port_cells_of names port

cells_are : (names : List Text) (design : NetlistRec) → port_cells names design
    ≡ flat_map (cells_at names design) (ports_of design design.top_inst.cell)
cells_are names design = refl

abbrev typed : List Text → Port → Option Text → List (Text × Text)
typed names port None = []
typed names port (Some ty) =
    map (λ index. (codes "$port/" ++ written names port index, ty)) (range_with_len 0 (width port))

typed_is : (names : List Text) (port : Port) → port_cells_of names port
    ≡ typed names port (port_type port.dir)
typed_is names port = refl

typed_long : (names : List Text) (port : Port) (o : Option Text)
    → length (typed names port o) ≡ typed_width (is_some o) (width port)
typed_long names port None = refl
typed_long names port (Some ty) = length-map-range_with_len
    (λ index. (codes "$port/" ++ written names port index, ty)) 0 (width port)

port_long : (names : List Text) (design : NetlistRec) (number : PortNumber)
    → length (cells_at names design number) ≡ cells_in design number
port_long names design number = by (slice_get design.port_list number) refl
  where
    by : (o : Option Port) → slice_get design.port_list number ≡ o
        → length (cells_at names design number) ≡ cells_in design number
    by None e = rw e refl
    by (Some port) e =
        let is : length (port_cells_of names port) ≡ cells_of_port (Some port) =
        ap length (typed_is names port) ∙ typed_long names port (port_type port.dir)
        ∙ sym (port_count port) in rw e is

-- port cells are as many as their ports have
pub cells_sum : (names : List Text) (design : NetlistRec) → length (port_cells names design)
    ≡ sum_by (cells_in design) (ports_of design design.top_inst.cell)
cells_sum names design =
    let ports = ports_of design design.top_inst.cell in
    ap length (cells_are names design)
    ∙ length-flat_map (cells_at names design) ports
    ∙ sum_same (λ n. length (cells_at names design n)) (cells_in design) ports
    (port_long names design)

pub counted : (names : List Text) (design : NetlistRec) → ArePortCellsCounted names design
counted names design =
    let ports = ports_of design design.top_inst.cell in record {
      before = λ k at h has.
          let is = before design 0 ports k at h has in
          let e : at.place ≡ 0 + is.offset = is.place_is in
          let same : is.offset ≡ at.place = omega arith in
          is.count_is ∙ ap (λ n. sum_by (cells_in design) (take n ports) + at.index) same;
      all = cells_sum names design ∙ sym (all_bits design 0 ports);
    }
