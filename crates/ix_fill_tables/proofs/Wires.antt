-- The wires that constants hold, step by step.
use Rattle.std.proofs.Common.{◌≡◌, ◌≢◌, ◌⊎◌, ◌+◌, ◌∙◌, refl, ap, sym, subst, ℕ, arith, inl, inr}
use Rattle.std.proofs.Common.{List, length, slice_get, Option, Some, None, option_map}
use Rattle.std.proofs.Common.{Result, Ok, Err, OnOk, option_and_then, Bool, true, false, ◌↔◌}
use Rattle.std.proofs.Common.{true≢false}
use Rattle.std.proofs.lemmas.Bool.{cases_lt, cases_eq, false≢true}
use Rattle.std.proofs.lemmas.Option.{none-some, same_Some, slice_get_within}
use Rattle.std.specs.FinMap.{get, empty, get-empty}
use Rattle.ix_num.specs.declared.resource.Constant.{Constant}
use Rattle.ix_num.specs.declared.resource.Constant.TheVariants as constants
use Rattle.ix_num.specs.declared.resource.NetRef.{NetRef}
use Rattle.ix_num.specs.declared.resource.NetRef.TheVariants as holders
use Rattle.ix_num.specs.declared.resource.Res.{Res}
use Rattle.ix_num.specs.declared.resource.Res.TheVariants.{Node, Wire}
use Rattle.ix_rec.specs.Maps.{pin_order}
use Rattle.ix_rec.specs.declared.device.DeviceRec.{DeviceRec}
use Rattle.ix_rec.specs.declared.forest.Branch.{Branch}
use Rattle.ix_rec.specs.declared.phys.NetType.{NetType}
use Rattle.ix_rec.specs.declared.phys.NetType.TheVariants as types
use Rattle.ix_rec.specs.declared.phys.PhysNet.{PhysNet}
use Rattle.ix_rec.specs.declared.phys.Segment.{Segment}
use Rattle.ix_graph.specs.Ends.{ends}
use Rattle.ix_lut.specs.declared.shape.Tie.{Tie}
use Rattle.ix_lut.specs.declared.shape.Tie.TheVariants as ties
use Rattle.ix_legal.specs.Segments.{segments, segment_at, in_end_of, IsEnd}
use Rattle.ix_legal.specs.Holders.{Holds, as_holder, constant_of_net}
use Rattle.ix_legal.specs.Holders.{net_of_constant}
use Rattle.ix_ends.proofs.Items.{mapped, chained, from_both, into_first, into_second}
use Rattle.ix_fill_tables.specs.declared.constants.Holding.{Holding}
use Rattle.ix_fill_tables.specs.declared.constants.Holding.TheVariants as holdings
use Rattle.ix_fill_tables.specs.Holdings.{Holdings, held_besides, is_of, Adds, IsOne}
use Rattle.ix_fill_tables.specs.Holdings.{IsEither, IsAmong, IsOfNet, IsOfNets, AreHoldings}
use Rattle.ix_fill_tables.specs.Holdings.{tie_of, TellsTie}

-- what follows where a call went well
pub on_ok : {A E P Q : Type 0} (r : Result A E) → (P → Q) → OnOk r P → OnOk r Q
on_ok (Ok x) f p = f p
on_ok (Err e) f p = tt

-- A constant besides.

still : (o : Option Holding) (one other : Constant) → is_of o other ≡ true
    → is_of (Some (held_besides o one)) other ≡ true
still None one other h = absurd (false≢true h)
still (Some holdings.Gnd) constants.Gnd other h = h
still (Some holdings.Gnd) constants.Vcc other h = refl
still (Some holdings.Vcc) constants.Gnd other h = refl
still (Some holdings.Vcc) constants.Vcc other h = h
still (Some holdings.Both) one other h = refl

now_of : (o : Option Holding) (one : Constant) → is_of (Some (held_besides o one)) one ≡ true
now_of None constants.Gnd = refl
now_of None constants.Vcc = refl
now_of (Some holdings.Gnd) constants.Gnd = refl
now_of (Some holdings.Gnd) constants.Vcc = refl
now_of (Some holdings.Vcc) constants.Gnd = refl
now_of (Some holdings.Vcc) constants.Vcc = refl
now_of (Some holdings.Both) one = refl

of_two : (o : Option Holding) (one other : Constant)
    → is_of (Some (held_besides o one)) other ≡ true → (is_of o other ≡ true) ⊎ (other ≡ one)
of_two None constants.Gnd constants.Gnd h = inr refl
of_two None constants.Gnd constants.Vcc h = absurd (false≢true h)
of_two None constants.Vcc constants.Gnd h = absurd (false≢true h)
of_two None constants.Vcc constants.Vcc h = inr refl
of_two (Some holdings.Gnd) constants.Gnd other h = inl h
of_two (Some holdings.Gnd) constants.Vcc constants.Gnd h = inl refl
of_two (Some holdings.Gnd) constants.Vcc constants.Vcc h = inr refl
of_two (Some holdings.Vcc) constants.Gnd constants.Gnd h = inr refl
of_two (Some holdings.Vcc) constants.Gnd constants.Vcc h = inl refl
of_two (Some holdings.Vcc) constants.Vcc other h = inl h
of_two (Some holdings.Both) one other h = inl refl

-- One key, or another.

pub key_cases : (site wire s w : ℕ)
    → ((site ≡ s) × (wire ≡ w)) ⊎ (◌≡◌ {A = ℕ × ℕ} (s, w) (site, wire) → ⊥)
key_cases site wire s w = elim (cases_eq site s) [
  | inl e ↦ elim (cases_eq wire w) [
    | inl f ↦ inl (e, f)
    | inr apart ↦ inr (λ p. apart (sym (ap (λ (x : ℕ × ℕ). x.1) p)))
  ]
  | inr apart ↦ inr (λ p. apart (sym (ap (λ (x : ℕ × ℕ). x.0) p)))
]

abbrev site_in : Res → ℕ
site_in (Wire site wire) = site
site_in (Node n) = 0

abbrev wire_in : Res → ℕ
wire_in (Wire site wire) = wire
wire_in (Node n) = 0

abbrev is_wire : Res → Bool
is_wire (Wire site wire) = true
is_wire (Node n) = false

-- Steps.

abbrev More : Type 1
More = Constant → ℕ → ℕ → Type 0

pub adds_none : (more : More) (m : Holdings)
    → ((constant : Constant) (site wire : ℕ) → more constant site wire → ⊥) → Adds more m m
adds_none more m none = record {
  only = λ c s w h. inl h;
  keeps = λ c s w h. h;
  adds = λ c s w h. absurd (none c s w h);
}

pub adds_both : (one other all : More) (a b d : Holdings)
    → ((constant : Constant) (site wire : ℕ) → all constant site wire
    → one constant site wire ⊎ other constant site wire)
    → ((constant : Constant) (site wire : ℕ) → one constant site wire → all constant site wire)
    → ((constant : Constant) (site wire : ℕ) → other constant site wire → all constant site wire)
    → Adds one a b → Adds other b d → Adds all a d
adds_both one other all a b d split first second p q = record {
  only = λ c s w h. elim (q.only c s w h) [
    | inl old ↦ elim (p.only c s w old) [
      | inl older ↦ inl older
      | inr new ↦ inr (first c s w new)
    ]
    | inr new ↦ inr (second c s w new)
  ];
  keeps = λ c s w h. q.keeps c s w (p.keeps c s w h);
  adds = λ c s w h. elim (split c s w h) [
    | inl is ↦ q.keeps c s w (p.adds c s w is)
    | inr is ↦ q.adds c s w is
  ];
}

pub adds_wire : (one : Constant) (site wire : ℕ) (before now : Holdings)
    → get now (site, wire) ≡ Some (held_besides (get before (site, wire)) one)
    → ((q : ℕ × ℕ) → q ≢ (site, wire) → get now q ≡ get before q)
    → Adds (IsOne one (Wire site wire)) before now
adds_wire one site wire before now here others = record {
  only = λ c s w h. elim (key_cases site wire s w) [
    | inl e ↦
        let at : is_of (Some (held_besides (get before (site, wire)) one)) c ≡ true =
        sym (ap (λ o. is_of o c) here)
        ∙ ap (λ n. is_of (get now (n, wire)) c) e.0
        ∙ ap (λ n. is_of (get now (s, n)) c) e.1 ∙ h in
        elim (of_two (get before (site, wire)) one c at) [
          | inl old ↦ inl (sym (ap (λ n. is_of (get before (n, wire)) c) e.0
              ∙ ap (λ n. is_of (get before (s, n)) c) e.1) ∙ old)
          | inr same ↦ inr (same, ap (λ n. Wire n wire) e.0 ∙ ap (λ n. Wire s n) e.1)
        ]
    | inr apart ↦ inl (sym (ap (λ o. is_of o c) (others (s, w) apart)) ∙ h)
  ];
  keeps = λ c s w h. elim (key_cases site wire s w) [
    | inl e ↦
        let old : is_of (get before (site, wire)) c ≡ true =
        ap (λ n. is_of (get before (n, wire)) c) e.0
        ∙ ap (λ n. is_of (get before (s, n)) c) e.1 ∙ h in
        sym (ap (λ n. is_of (get now (n, wire)) c) e.0
        ∙ ap (λ n. is_of (get now (s, n)) c) e.1)
        ∙ ap (λ o. is_of o c) here ∙ still (get before (site, wire)) one c old
    | inr apart ↦ ap (λ o. is_of o c) (others (s, w) apart) ∙ h
  ];
  adds = λ c s w h.
      let e : site ≡ s = ap site_in h.1 in
      let f : wire ≡ w = ap wire_in h.1 in
      sym (ap (λ n. is_of (get now (n, wire)) c) e
      ∙ ap (λ n. is_of (get now (s, n)) c) f)
      ∙ ap (λ o. is_of o c) here
      ∙ ap (is_of (Some (held_besides (get before (site, wire)) one))) h.0
      ∙ now_of (get before (site, wire)) one;
}

pub no_wire : (one : Constant) (n : ℕ) (constant : Constant) (site wire : ℕ)
    → IsOne one (Node n) constant site wire → ⊥
no_wire one n constant site wire h = false≢true (ap is_wire h.1)

-- a segment more
pub next_segment : (rec : DeviceRec) (branches : List (Branch Segment)) (k : ℕ) (one : Constant)
    (branch : Branch Segment) (a b d : Holdings) → slice_get branches k ≡ Some branch
    → Adds (IsAmong rec branches k one) a b → Adds (IsEither one (ends rec branch.item)) b d
    → Adds (IsAmong rec branches (k + 1) one) a d
next_segment rec branches k one branch a b d at p q =
    adds_both (IsAmong rec branches k one) (IsEither one (ends rec branch.item))
    (IsAmong rec branches (k + 1) one) a b d split first second p q
  where
    split : (c : Constant) (s w : ℕ) → IsAmong rec branches (k + 1) one c s w
        → IsAmong rec branches k one c s w ⊎ IsEither one (ends rec branch.item) c s w
    split c s w is = elim (cases_lt is.place k) [
      | inl less ↦ inl record {
        place = is.place;
        before = less;
        branch = is.branch;
        branch_is = is.branch_is;
        is_end = is.is_end;
      }
      | inr past ↦
          let bound = is.before in
          let here : is.place ≡ k = omega (arith, bound, past) in
          inr (subst (λ (x : Branch Segment). IsEither one (ends rec x.item) c s w)
          (same_Some is.branch branch
          (sym is.branch_is ∙ ap (slice_get branches) here ∙ at)) is.is_end)
    ]

    first : (c : Constant) (s w : ℕ) → IsAmong rec branches k one c s w
        → IsAmong rec branches (k + 1) one c s w
    first c s w is = let bound = is.before in record {
      place = is.place;
      before = omega (arith, bound);
      branch = is.branch;
      branch_is = is.branch_is;
      is_end = is.is_end;
    }

    second : (c : Constant) (s w : ℕ) → IsEither one (ends rec branch.item) c s w
        → IsAmong rec branches (k + 1) one c s w
    second c s w is = record {
      place = k;
      before = omega arith;
      branch = branch;
      branch_is = at;
      is_end = is;
    }

pub no_segment : (rec : DeviceRec) (branches : List (Branch Segment)) (one constant : Constant)
    (site wire : ℕ) → IsAmong rec branches 0 one constant site wire → ⊥
no_segment rec branches one constant site wire is = let bound = is.before in omega (arith, bound)

-- The ends of a net.

module _ (rec : DeviceRec) (net : PhysNet) (one : Constant) (c : Constant) (s w : ℕ) where
  as_end : (k : ℕ) (branch : Branch Segment) → slice_get (segments net) k ≡ Some branch
      → (o : Option (Res × Res)) → ends rec branch.item ≡ o → IsEither one o c s w
      → (c ≡ one) × IsEnd rec net k (Wire s w)
  as_end k branch at None is h = absurd h
  as_end k branch at (Some both) is (inl h) = (
    h.0,
    inl (ap (λ o. option_and_then (in_end_of rec)
        (option_map (λ (b : Branch Segment). b.item) o)) at
        ∙ ap (option_map (λ (e : Res × Res). e.0)) is ∙ ap Some h.1),
  )
  as_end k branch at (Some both) is (inr h) = (
    h.0,
    inr (ap (λ o. option_map
        (λ (e : Res × Res). e.1) (option_and_then (ends rec)
        (option_map (λ (b : Branch Segment). b.item) o))) at
        ∙ ap (option_map (λ (e : Res × Res). e.1)) is ∙ ap Some h.1),
  )

  of_segment : (k : ℕ) (segment : Segment) (both : Res × Res) → segment_at net k ≡ Some segment
      → ends rec segment ≡ Some both → IsOne one both.0 c s w ⊎ IsOne one both.1 c s w
      → (branch : Branch Segment) × (slice_get (segments net) k ≡ Some branch)
      × IsEither one (ends rec branch.item) c s w
  of_segment k segment both at is h =
      let branch = mapped (λ (b : Branch Segment). b.item) (slice_get (segments net) k) segment
      at in (
        branch.0,
        branch.1,
        subst (λ o. IsEither one o c s w) (sym (ap (ends rec) branch.2 ∙ is)) h,
      )

  from_end : c ≡ one → (k : ℕ) → IsEnd rec net k (Wire s w)
      → (branch : Branch Segment) × (slice_get (segments net) k ≡ Some branch)
      × IsEither one (ends rec branch.item) c s w
  from_end same k (inl h) =
      let segment = chained (in_end_of rec) (segment_at net k) (Wire s w) h in
      let both = mapped (λ (e : Res × Res). e.0) (ends rec segment.0) (Wire s w) segment.2 in
      of_segment k segment.0 both.0 segment.1 both.1 (inl (same, both.2))
  from_end same k (inr h) =
      let both = mapped (λ (e : Res × Res). e.1)
      (option_and_then (ends rec) (segment_at net k)) (Wire s w) h in
      let segment = chained (ends rec) (segment_at net k) both.0 both.1 in
      of_segment k segment.0 both.0 segment.1 segment.2 (inr (same, both.2))

-- What a net holds, by its sources and its stubs.
module _ (rec : DeviceRec) (net : PhysNet) (one : Constant)
    (its : constant_of_net net.ty ≡ Some one) where
  by_sources : (c : Constant) (s w : ℕ)
      → IsAmong rec net.sources (length net.sources) one c s w → IsOfNet rec net c s w
  by_sources c s w is =
      let end = as_end rec net one c s w is.place is.branch
      (into_first net.sources net.stubs is.place is.branch is.branch_is)
      (ends rec is.branch.item) refl is.is_end in
      record {
        constant_is = its ∙ ap Some (sym end.0);
        has_end = (is.place, end.1);
      }

  by_stubs : (c : Constant) (s w : ℕ)
      → IsAmong rec net.stubs (length net.stubs) one c s w → IsOfNet rec net c s w
  by_stubs c s w is =
      let end = as_end rec net one c s w (length net.sources + is.place) is.branch
      (into_second net.sources net.stubs (length net.sources + is.place) is.place is.branch refl
      is.branch_is) (ends rec is.branch.item) refl is.is_end in
      record {
        constant_is = its ∙ ap Some (sym end.0);
        has_end = (length net.sources + is.place, end.1);
      }

  by_either : (c : Constant) (s w : ℕ) → IsOfNet rec net c s w
      → IsAmong rec net.sources (length net.sources) one c s w
      ⊎ IsAmong rec net.stubs (length net.stubs) one c s w
  by_either c s w is =
      let branch = from_end rec net one c s w
      (same_Some c one (sym is.constant_is ∙ its)) is.has_end.0 is.has_end.1 in
      elim (from_both net.sources net.stubs is.has_end.0 branch.0 branch.1) [
        | inl first ↦ inl record {
          place = is.has_end.0;
          before = slice_get_within net.sources is.has_end.0 branch.0 first;
          branch = branch.0;
          branch_is = first;
          is_end = branch.2;
        }
        | inr second ↦ inr record {
          place = second.0;
          before = slice_get_within net.stubs second.0 branch.0 second.2;
          branch = branch.0;
          branch_is = second.2;
          is_end = branch.2;
        }
      ]

  pub adds_net : (a b d : Holdings) → Adds (IsAmong rec net.sources (length net.sources) one) a b
      → Adds (IsAmong rec net.stubs (length net.stubs) one) b d → Adds (IsOfNet rec net) a d
  adds_net a b d p q = adds_both (IsAmong rec net.sources (length net.sources) one)
      (IsAmong rec net.stubs (length net.stubs) one) (IsOfNet rec net) a b d by_either by_sources
      by_stubs p q

pub no_constant : (rec : DeviceRec) (net : PhysNet) → constant_of_net net.ty ≡ None
    → (c : Constant) (s w : ℕ) → IsOfNet rec net c s w → ⊥
no_constant rec net none c s w is = none-some c (sym none ∙ is.constant_is)

-- a net more
pub next_net : (rec : DeviceRec) (nets : List PhysNet) (n : ℕ) (net : PhysNet) (a b d : Holdings)
    → slice_get nets n ≡ Some net → Adds (IsOfNets rec nets n) a b → Adds (IsOfNet rec net) b d
    → Adds (IsOfNets rec nets (n + 1)) a d
next_net rec nets n net a b d at p q =
    adds_both (IsOfNets rec nets n) (IsOfNet rec net) (IsOfNets rec nets (n + 1)) a b d split
    first second p q
  where
    split : (c : Constant) (s w : ℕ) → IsOfNets rec nets (n + 1) c s w
        → IsOfNets rec nets n c s w ⊎ IsOfNet rec net c s w
    split c s w is = elim (cases_lt is.number n) [
      | inl less ↦ inl record {
        number = is.number;
        before = less;
        net = is.net;
        net_is = is.net_is;
        is_of_net = is.is_of_net;
      }
      | inr past ↦
          let bound = is.before in
          let here : is.number ≡ n = omega (arith, bound, past) in
          inr (subst (λ (x : PhysNet). IsOfNet rec x c s w)
          (same_Some is.net net (sym is.net_is ∙ ap (slice_get nets) here ∙ at)) is.is_of_net)
    ]

    first : (c : Constant) (s w : ℕ) → IsOfNets rec nets n c s w
        → IsOfNets rec nets (n + 1) c s w
    first c s w is = let bound = is.before in record {
      number = is.number;
      before = omega (arith, bound);
      net = is.net;
      net_is = is.net_is;
      is_of_net = is.is_of_net;
    }

    second : (c : Constant) (s w : ℕ) → IsOfNet rec net c s w
        → IsOfNets rec nets (n + 1) c s w
    second c s w is = record {
      number = n;
      before = omega arith;
      net = net;
      net_is = at;
      is_of_net = is;
    }

pub no_net : (rec : DeviceRec) (nets : List PhysNet) (c : Constant) (s w : ℕ)
    → IsOfNets rec nets 0 c s w → ⊥
no_net rec nets c s w is = let bound = is.before in omega (arith, bound)

-- All nets.

abbrev is_signal : NetRef → Bool
is_signal (holders.Signal n) = true
is_signal holder = false

abbrev holds_gnd : NetRef → Bool
holds_gnd holders.Gnd = true
holds_gnd holder = false

as_its_holder : (nets : List PhysNet) (n : ℕ) (ty : NetType) (c : Constant)
    → constant_of_net ty ≡ Some c → as_holder nets n ty ≡ net_of_constant c
as_its_holder nets n types.Signal c e = absurd (none-some c e)
as_its_holder nets n types.Gnd c e = ap net_of_constant (same_Some constants.Gnd c e)
as_its_holder nets n types.Vcc c e = ap net_of_constant (same_Some constants.Vcc c e)

of_holder : (nets : List PhysNet) (n : ℕ) (ty : NetType) (c : Constant)
    → as_holder nets n ty ≡ net_of_constant c → constant_of_net ty ≡ Some c
of_holder nets n types.Signal constants.Gnd e = absurd (true≢false (ap is_signal e))
of_holder nets n types.Signal constants.Vcc e = absurd (true≢false (ap is_signal e))
of_holder nets n types.Gnd constants.Gnd e = refl
of_holder nets n types.Gnd constants.Vcc e = absurd (true≢false (ap holds_gnd e))
of_holder nets n types.Vcc constants.Gnd e = absurd (false≢true (ap holds_gnd e))
of_holder nets n types.Vcc constants.Vcc e = refl

pub are_holdings : (rec : DeviceRec) (nets : List PhysNet) (before now : Holdings)
    → before ≡ empty → Adds (IsOfNets rec nets (length nets)) before now
    → AreHoldings rec nets now
are_holdings rec nets before now none added c s w = (
  λ h. elim (added.only c s w h) [
    | inl old ↦ absurd (false≢true (sym (ap (λ (m : Holdings). is_of (get m (s, w)) c) none
        ∙ ap (λ o. is_of o c) (get-empty pin_order (s, w))) ∙ old))
    | inr is ↦ inl record {
      number = is.number;
      net = is.net;
      net_is = is.net_is;
      holder_is = as_its_holder nets is.number is.net.ty c is.is_of_net.constant_is;
      has_end = is.is_of_net.has_end;
    }
  ],
  λ holds. elim holds [
    | inl has ↦ added.adds c s w record {
      number = has.number;
      before = slice_get_within nets has.number has.net has.net_is;
      net = has.net;
      net_is = has.net_is;
      is_of_net = record {
        constant_is = of_holder nets has.number has.net.ty c has.holder_is;
        has_end = has.has_end;
      };
    }
    | inr node ↦ absurd (none-some (net_of_constant c) node)
  ],
)

-- What holds a wire.

abbrev is_gnd : Tie → Bool
is_gnd ties.Gnd = true
is_gnd tie = false

abbrev is_vcc : Tie → Bool
is_vcc ties.Vcc = true
is_vcc tie = false

by_holding : (rec : DeviceRec) (nets : List PhysNet) (r : Res) (o : Option Holding)
    → ((is_of o constants.Gnd ≡ true) ↔ Holds rec nets r holders.Gnd)
    → ((is_of o constants.Vcc ≡ true) ↔ Holds rec nets r holders.Vcc)
    → TellsTie rec nets r (tie_of o)
by_holding rec nets r None g v = record {
  gnd = (λ e. absurd (false≢true (ap is_gnd e)), λ h. absurd (false≢true (g.1 h)));
  vcc = (λ e. absurd (false≢true (ap is_vcc e)), λ h. absurd (false≢true (v.1 h)));
}
by_holding rec nets r (Some holdings.Gnd) g v = record {
  gnd = (λ e. g.0 refl, λ h. refl);
  vcc = (λ e. absurd (false≢true (ap is_vcc e)), λ h. absurd (false≢true (v.1 h)));
}
by_holding rec nets r (Some holdings.Vcc) g v = record {
  gnd = (λ e. absurd (false≢true (ap is_gnd e)), λ h. absurd (false≢true (g.1 h)));
  vcc = (λ e. v.0 refl, λ h. refl);
}
by_holding rec nets r (Some holdings.Both) g v = λ tie is.
    true≢false (ap is_gnd (sym (is.gnd.1 (g.0 refl)) ∙ is.vcc.1 (v.0 refl)))

pub tells_tie : (holdings : Holdings) (s w : ℕ) (rec : DeviceRec) (nets : List PhysNet)
    → AreHoldings rec nets holdings → TellsTie rec nets (Wire s w) (tie_of (get holdings (s, w)))
tells_tie holdings s w rec nets are = by_holding rec nets (Wire s w) (get holdings (s, w))
    (are constants.Gnd s w) (are constants.Vcc s w)
