-- The texts of a netlist and their numbers.
use Rattle.std.proofs.Common.{◌≡◌, ◌<◌, ◌+◌, ℕ, zero, suc, List, [], ◌∷◌, ◌++◌, map, length, refl}
use Rattle.std.proofs.Common.{ap}
use Rattle.std.specs.Prelude.{Result, Ok, Err}
use Rattle.std.specs.List.{All, flat_map}
use Rattle.std.proofs.lemmas.List.Elements.{All-nil, All-cons}
use Rattle.std.proofs.lemmas.Option.{slice_get_within, get_or_from_slice_get}
use Rattle.ix_device_read.specs.Adding.{texts_in, AddsExactly}
use Rattle.ix_device_read.specs.Loose.{loose_texts, loose_parts, with_names, AreNumbersOf}
use Rattle.ix_frame.specs.Sound.{sound_text}
use Rattle.ix_frame.specs.Target.{Object, Elements}
use Rattle.ix_message.specs.Netlist.{entry, cell_instance, cell_declaration, port_instance, net}
use Rattle.ix_message.specs.Netlist.{cell, port, netlist}
use Rattle.ix_message.specs.Shape.{Text, Value}
use Rattle.ix_message_read.specs.Tells.{Fails}
use Rattle.ix_message_write.specs.Table.{name_text}
use Rattle.ix_num.specs.declared.fault.FrameFault.{FrameFault}
use Rattle.ix_rec.specs.declared.fault.ReadFault.{ReadFault}
use Rattle.ix_rec.specs.declared.fault.ReadFault.TheVariants.{Frame, Index, Memory}
use Rattle.ix_rec.specs.declared.netlist.NetlistRec.{NetlistRec}
use Rattle.ix_schema.specs.Said.{said, texts_said}
use Rattle.ix_strings.specs.Names.{with_name, KeepsNumbers}

-- Names with more texts.

pub with_names_on : (names xs ys : List Text)
    → with_names names (xs ++ ys) ≡ with_names (with_names names xs) ys
with_names_on names [] ys = refl
with_names_on names (x ∷ xs) ys = with_names_on (with_name names x) xs ys

pub numbers_keep : (old new : List Text) → KeepsNumbers old new → (ids : List ℕ) (ts : List Text)
    → AreNumbersOf old ids ts → AreNumbersOf new ids ts
numbers_keep old new keeps [] [] h = tt
numbers_keep old new keeps [] (t ∷ ts) h = absurd h
numbers_keep old new keeps (id ∷ ids) [] h = absurd h
numbers_keep old new keeps (id ∷ ids) (t ∷ ts) h =
    (keeps id t h.0, numbers_keep old new keeps ids ts h.1)

pub texts_length : (count : ℕ) (l : Elements) (i : ℕ) → length (texts_said count l i) ≡ count
unfolding texts_said
texts_length zero l i = refl
texts_length (suc count) l i = ap suc (texts_length count l (i + 1))

-- What numbers of texts say.

pub texts_again : (names : List Text) (ids : List ℕ) (ts : List Text) → AreNumbersOf names ids ts
    → map (name_text names) ids ≡ ts
texts_again names [] [] h = refl
texts_again names [] (t ∷ ts) h = absurd h
texts_again names (id ∷ ids) [] h = absurd h
texts_again names (id ∷ ids) (t ∷ ts) h =
    rw (get_or_from_slice_get names id t [] h.0)
    (ap (λ (us : List Text). t ∷ us) (texts_again names ids ts h.1))

pub are_names : (names : List Text) (ids : List ℕ) (ts : List Text) → AreNumbersOf names ids ts
    → All (λ id. id < length names) ids
are_names names [] ts h = All-nil (λ id. id < length names)
are_names names (id ∷ ids) [] h = absurd h
are_names names (id ∷ ids) (t ∷ ts) h = All-cons (λ id. id < length names) id ids
    (slice_get_within names id t h.0) (are_names names ids ts h.1)

-- The one text behind a pointer of its own is the netlist's name.

none_in : {A : Type 0} (f : A → List Text) → ((x : A) → f x ≡ []) → (xs : List A)
    → flat_map f xs ≡ []
none_in f none [] = refl
none_in f none (x ∷ xs) = rw (none x) (none_in f none xs)

no_entries : (vs : List (Value ℕ entry)) → flat_map (loose_texts entry) vs ≡ []
unfolding loose_texts loose_parts
no_entries vs = none_in (loose_texts entry) (λ v. refl) vs

of_instance : (v : Value ℕ cell_instance) → loose_texts cell_instance v ≡ []
unfolding loose_texts loose_parts
of_instance v = rw (no_entries v.1.0) refl

of_port : (v : Value ℕ port) → loose_texts port v ≡ []
unfolding loose_texts loose_parts
of_port v = rw (no_entries v.1.0) refl

of_declaration : (v : Value ℕ cell_declaration) → loose_texts cell_declaration v ≡ []
unfolding loose_texts loose_parts
of_declaration v = refl

of_net : (v : Value ℕ net) → loose_texts net v ≡ []
unfolding loose_texts loose_parts
of_net v = rw (none_in (loose_texts port_instance) (λ p. refl) v.1.0) refl

of_cell : (v : Value ℕ cell) → loose_texts cell v ≡ []
unfolding loose_texts loose_parts
of_cell v = rw (none_in (loose_texts net) of_net v.1.1.0) refl

of_netlist : (v : Value ℕ netlist) → loose_texts netlist v ≡ v.1.0 ∷ []
unfolding loose_texts loose_parts
of_netlist v = rw (
  no_entries v.1.1.0,
  of_instance v.1.1.1.0,
  none_in (loose_texts cell_declaration) of_declaration v.1.1.1.1.0,
  none_in (loose_texts port) of_port v.1.1.1.1.1.0,
  none_in (loose_texts cell_instance) of_instance v.1.1.1.1.1.1.0,
  none_in (loose_texts cell) of_cell v.1.1.1.1.1.1.1.0,
) refl

pub loose_name : (o : Object) → loose_texts netlist (said netlist o) ≡ sound_text o 0 ∷ []
unfolding said
loose_name o = of_netlist (said netlist o)

-- What a whole reading adds.

pub none_added : (e : ReadFault) (given : Result (List Text × Value ℕ netlist) FrameFault)
    (names : List Text) → Fails e given → AddsExactly {X = NetlistRec} (Err e)
    (texts_in netlist given) names names
unfolding texts_in AddsExactly
none_added Memory given names h = tt
none_added (Frame f) given names h = rw h refl
none_added (Index p) given names h = absurd h

pub all_added : (r : Result NetlistRec ReadFault) (table : List Text) (v : Value ℕ netlist)
    (given : Result (List Text × Value ℕ netlist) FrameFault) (old new : List Text)
    → given ≡ Ok (table, v) → new ≡ with_names old (table ++ loose_texts netlist v)
    → AddsExactly r (texts_in netlist given) old new
unfolding texts_in AddsExactly
all_added (Ok x) table v given old new is h = rw is h
all_added (Err Memory) table v given old new is h = tt
all_added (Err (Frame f)) table v given old new is h = rw is h
all_added (Err (Index p)) table v given old new is h = rw is h
