-- The bits of the top's ports are those of the walk, in its order.
use Rattle.std.proofs.Common.{◌≡◌, ◌<◌, ◌+◌, ap, refl, sym, subst, ◌∙◌, ℕ, zero, suc, List}
use Rattle.std.proofs.Common.{[], ◌∷◌, ◌++◌, slice_get, Option, Some, None, arith, length, ◌⊎◌, inl, inr}
use Rattle.std.proofs.Common.{map, append-nil, append_assoc}
use Rattle.std.specs.List.{range_with_len}
use Rattle.std.proofs.lemmas.Option.{none-some, same_Some, slice_get_within, slice_get-get_or}
use Rattle.std.proofs.lemmas.List.FromFn.{get_or-map-range_with_len, length-map-range_with_len}
use Rattle.ix_rec.specs.declared.netlist.NetlistRec.{NetlistRec}
use Rattle.ix_rec.specs.declared.netlist.Port.{Port}
use Rattle.ix_hierarchy.specs.Hierarchy.{PortNumber, ports_of, width}
use Rattle.ix_joined.specs.Joining.{ArePlaces, TopPlace, bits_at, places_from, top_places}
use Rattle.ix_top_bits.proofs.Slices.{in_either, in_first, in_second}

abbrev pub placed : (place : ℕ) → PortNumber → Port → (index : ℕ) → TopPlace
placed place number port index =
    record { place = place; index = index; number = number; dir = port.dir }

-- an item of a list that a function gives
pub made_at : {A : Type 0} (f : ℕ → A) (n k : ℕ) (x : A)
    → slice_get (map f (range_with_len 0 n)) k ≡ Some x → (k < n) × (x ≡ f k)
made_at f n k x h =
    let long : length (map f (range_with_len 0 n)) ≡ n = length-map-range_with_len f 0 n in
    let lt : k < length (map f (range_with_len 0 n)) =
    slice_get_within (map f (range_with_len 0 n)) k x h in
    let less : k < n = omega arith in (
      less,
      same_Some x (f k) (sym h ∙ slice_get-get_or (map f (range_with_len 0 n)) k x lt
          ∙ ap Some (get_or-map-range_with_len f 0 n k k x less (omega arith))),
    )

pub made_there : {A : Type 0} (f : ℕ → A) (n k : ℕ) → k < n
    → slice_get (map f (range_with_len 0 n)) k ≡ Some (f k)
made_there f n k less =
    let long : length (map f (range_with_len 0 n)) ≡ n = length-map-range_with_len f 0 n in
    let lt : k < length (map f (range_with_len 0 n)) = omega arith in
    slice_get-get_or (map f (range_with_len 0 n)) k (f k) lt
    ∙ ap Some (get_or-map-range_with_len f 0 n k k (f k) less (omega arith))

-- what an item of the bits of one port is
pub of_port : (place : ℕ) (number : PortNumber) (o : Option Port) (k : ℕ) (at : TopPlace)
    → slice_get (bits_at place number o) k ≡ Some at
    → (port : Port) × (o ≡ Some port) × (k < width port) × (at ≡ placed place number port k)
of_port place number None k at h = absurd (none-some at h)
of_port place number (Some port) k at h =
    let made = made_at (placed place number port) (width port) k at h in
    (port, refl, made.0, made.1)

-- of ports from a place on
pub record IsFrom (design : NetlistRec) (from : ℕ) (numbers : List PortNumber) (at : TopPlace)
    : Type 0 where
  pub offset : ℕ
  pub place_is : at.place ≡ from + offset
  pub number_is : slice_get numbers offset ≡ Some at.number
  pub port : Port
  pub port_is : slice_get design.port_list at.number ≡ Some port
  pub within : at.index < width port
  pub dir_is : port.dir ≡ at.dir

pub is_from : (design : NetlistRec) (from : ℕ) (numbers : List PortNumber) (k : ℕ)
    (at : TopPlace) → slice_get (places_from design from numbers) k ≡ Some at
    → IsFrom design from numbers at
is_from design from [] k at h = absurd (none-some at h)
is_from design from (number ∷ numbers) k at h =
    elim (in_either (bits_at from number (slice_get design.port_list number))
    (places_from design (from + 1) numbers) k at h) [
      | inl first ↦
          let of = of_port from number (slice_get design.port_list number) k at first in
          let same : at ≡ placed from number of.0 k = of.3 in
          record {
            offset = 0;
            place_is = ap (λ (a : TopPlace). a.place) same ∙ (let e : from ≡ from + 0 = omega arith in e);
            number_is = ap Some (sym (ap (λ (a : TopPlace). a.number) same));
            port = of.0;
            port_is = ap (λ (a : TopPlace). slice_get design.port_list a.number) same ∙ of.1;
            within = subst (λ n. n < width of.0) (sym (ap (λ (a : TopPlace). a.index) same)) of.2;
            dir_is = sym (ap (λ (a : TopPlace). a.dir) same);
          }
      | inr rest ↦
          let more = is_from design (from + 1) numbers rest.0 at rest.2 in
          record {
            offset = suc more.offset;
            place_is = let e : at.place ≡ from + 1 + more.offset = more.place_is in omega arith;
            number_is = more.number_is;
            port = more.port;
            port_is = more.port_is;
            within = more.within;
            dir_is = more.dir_is;
          }
    ]

pub has_place : (design : NetlistRec) (from : ℕ) (numbers : List PortNumber) (offset : ℕ)
    (number : PortNumber) (port : Port) (index : ℕ) → slice_get numbers offset ≡ Some number
    → slice_get design.port_list number ≡ Some port → index < width port
    → (k : ℕ) × (slice_get (places_from design from numbers) k
    ≡ Some (placed (from + offset) number port index))
has_place design from [] offset number port index n p lt = absurd (none-some number n)
has_place design from (here ∷ numbers) zero number port index n p lt =
    let same : number ≡ here = sym (same_Some here number n) in
    let first : slice_get (bits_at from here (slice_get design.port_list here)) index
    ≡ Some (placed (from + 0) number port index) =
    ap (λ o. slice_get (bits_at from here o) index)
    (ap (slice_get design.port_list) (sym same) ∙ p)
    ∙ made_there (placed from here port) (width port) index lt
    ∙ ap (λ m. Some (placed from m port index)) (sym same)
    ∙ ap (λ m. Some (placed m number port index)) (let e : from ≡ from + 0 = omega arith in e) in (
      index,
      in_first (bits_at from here (slice_get design.port_list here))
          (places_from design (from + 1) numbers) index (placed (from + 0) number port index) first,
    )
has_place design from (here ∷ numbers) (suc offset) number port index n p lt =
    let more = has_place design (from + 1) numbers offset number port index n p lt in
    let e : from + 1 + offset ≡ from + suc offset = omega arith in
    let front = bits_at from here (slice_get design.port_list here) in (
      length front + more.0,
      in_second front (places_from design (from + 1) numbers) more.0 ∙ more.1
          ∙ ap (λ m. Some (placed m number port index)) e,
    )

-- the order
pub is_before : (design : NetlistRec) (from : ℕ) (numbers : List PortNumber) (j k : ℕ)
    (a b : TopPlace) → j < k → slice_get (places_from design from numbers) j ≡ Some a
    → slice_get (places_from design from numbers) k ≡ Some b
    → (a.place < b.place) ⊎ ((a.place ≡ b.place) × (a.index < b.index))
is_before design from [] j k a b lt x y = absurd (none-some a x)
is_before design from (number ∷ numbers) j k a b lt x y =
    let front = bits_at from number (slice_get design.port_list number) in
    let rest = places_from design (from + 1) numbers in
    elim (in_either front rest j a x) [
      | inl first ↦
          let of_a = of_port from number (slice_get design.port_list number) j a first in
          elim (in_either front rest k b y) [
            | inl second ↦
                let of_b = of_port from number (slice_get design.port_list number) k b second in
                let pa : a.place ≡ from = ap (λ (t : TopPlace). t.place) of_a.3 in
                let pb : b.place ≡ from = ap (λ (t : TopPlace). t.place) of_b.3 in
                let ia : a.index ≡ j = ap (λ (t : TopPlace). t.index) of_a.3 in
                let ib : b.index ≡ k = ap (λ (t : TopPlace). t.index) of_b.3 in
                let less : a.index < b.index = omega arith in
                inr (pa ∙ sym pb, less)
            | inr second ↦
                let later = is_from design (from + 1) numbers second.0 b second.2 in
                let pa : a.place ≡ from = ap (λ (t : TopPlace). t.place) of_a.3 in
                let pb : b.place ≡ from + 1 + later.offset = later.place_is in
                let less : a.place < b.place = omega arith in
                inl less
          ]
      | inr first ↦
          elim (in_either front rest k b y) [
            | inl second ↦
                let within : k < length front = slice_get_within front k b second in
                let behind : j ≡ length front + first.0 = first.1 in
                absurd (omega arith)
            | inr second ↦
                let ej : j ≡ length front + first.0 = first.1 in
                let ek : k ≡ length front + second.0 = second.1 in
                let less : first.0 < second.0 = omega arith in
                is_before design (from + 1) numbers first.0 second.0 a b less first.2 second.2
          ]
    ]

pub are_places : (design : NetlistRec) → ArePlaces design (top_places design)
are_places design =
    let ports = ports_of design design.top_inst.cell in
    record {
      each = λ k at h.
          let is = is_from design 0 ports k at h in
          let place : at.place ≡ is.offset = let e : at.place ≡ 0 + is.offset = is.place_is in
          omega arith in (
            is.port,
            record {
              which = ap (slice_get ports) place ∙ is.number_is;
              port_is = is.port_is;
              within = is.within;
            },
            is.dir_is,
          );
      all = λ place index number port is.
          let has = has_place design 0 ports place number port index is.which is.port_is is.within in (
            has.0,
            has.1 ∙ ap (λ m. Some (placed m number port index))
                (let e : 0 + place ≡ place = omega arith in e),
          );
      rise = λ j k a b lt x y. elim (is_before design 0 ports j k a b lt x y) [
        | inl less ↦ inr (refl, inl less)
        | inr same ↦ inr (refl, inr (same.0, inl same.1))
      ];
    }

-- ports with one more
pub places_more : (design : NetlistRec) (from : ℕ) (xs : List PortNumber) (number : PortNumber)
    → places_from design from (xs ++ number ∷ [])
    ≡ places_from design from xs ++ bits_at (from + length xs) number (slice_get design.port_list number)
places_more design from [] number =
    append-nil (bits_at from number (slice_get design.port_list number))
    ∙ ap (λ m. bits_at m number (slice_get design.port_list number))
    (let e : from ≡ from + 0 = omega arith in e)
places_more design from (x ∷ xs) number =
    let e : from + 1 + length xs ≡ from + suc (length xs) = omega arith in
    ap (λ l. bits_at from x (slice_get design.port_list x) ++ l)
    (places_more design (from + 1) xs number
    ∙ ap (λ m. places_from design (from + 1) xs ++ bits_at m number
    (slice_get design.port_list number)) e) ∙ simp append_assoc
