-- Properties that are added one after another.
use Rattle.std.proofs.Common.{◌≡◌, ◌<◌, ◌≤◌, ◌+◌, ◌*◌, ◌∙◌, refl, ap, sym, subst, ℕ, zero, suc}
use Rattle.std.proofs.Common.{arith, inl, inr, List, [], ◌∷◌, ◌++◌, length, slice_get, Some}
use Rattle.std.proofs.Common.{Bool, true, false, option_and_then, if◌then◌else◌}
use Rattle.std.proofs.lemmas.List.{append_assoc, append-nil, length-append}
use Rattle.std.proofs.lemmas.Option.{none-some, same_Some, slice_get_within}
use Rattle.ix_message.specs.Shape.{Text}
use Rattle.ix_strings.specs.Names.{KeepsNumbers}
use Rattle.ix_rec.specs.declared.phys.Property.{Property}
use Rattle.ix_rec.specs.declared.phys.SiteInstance.{SiteInstance}
use Rattle.ix_legal.specs.TableKeys.{table_bits}
use Rattle.ix_device.proofs.NumberedLemmas.{there_is}
use Rattle.ix_ends.proofs.Items.{chained, from_both, into_second}
use Rattle.ix_fill_tables.specs.Bits.{clashes}
use Rattle.ix_fill_tables.specs.Completed.{Filling}
use Rattle.ix_fill_tables.specs.Filled.{TellsTable, TellsIt, fillings_of, AreAdded}
use Rattle.ix_fill_tables.specs.Filled.{IsAdded, AddsTable, HasSite, HaveSites}
use Rattle.ix_fill_tables.specs.declared.forcing.ForcedBits.{ForcedBits}

abbrev pub Entry : Type 0
Entry = (ℕ × ℕ) × ForcedBits

abbrev pub filling_of : Entry → Filling
filling_of e = record { instance = e.0.0; element = e.0.1; bits = e.1.ones }

-- Names are kept.

table_kept : (old new : List Text) → KeepsNumbers old new → (site element bits : ℕ)
    (property : Property) → TellsTable old site element bits property
    → TellsTable new site element bits property
table_kept old new keeps site element bits property tells =
    let value = chained table_bits (slice_get old property.value) bits tells.value_is in
    record {
      site_text = tells.site_text;
      site_is = keeps site tells.site_text tells.site_is;
      key_is = keeps property.key _ tells.key_is;
      value_is = ap (option_and_then table_bits) (keeps property.value value.0 value.1) ∙ value.2;
    }

it_kept : (old new : List Text) → KeepsNumbers old new → (instances : List SiteInstance)
    (f : Filling) (property : Property) → TellsIt old instances f property
    → TellsIt new instances f property
it_kept old new keeps instances f property tells = record {
  instance = tells.instance;
  instance_is = tells.instance_is;
  tells = table_kept old new keeps tells.instance.site f.element f.bits property tells.tells;
}

pub all_kept : (old new : List Text) → KeepsNumbers old new → (instances : List SiteInstance)
    (before : List Property) (fillings : List Filling) (after : List Property)
    → AreAdded old instances before fillings after → AreAdded new instances before fillings after
all_kept old new keeps instances before fillings after are = record {
  added = are.added;
  behind = are.behind;
  all = are.all;
  each = λ k f property f_is property_is.
      it_kept old new keeps instances f property (are.each k f property f_is property_is);
}

-- One more.

fillings_more : (es : List Entry) (e : Entry)
    → fillings_of (es ++ e ∷ []) ≡ fillings_of es ++ fillings_of (e ∷ [])
fillings_more [] e = refl
fillings_more (x ∷ es) e = by (clashes x.1) (fillings_more es e)
  where
    by : (b : Bool) → fillings_of (es ++ e ∷ []) ≡ fillings_of es ++ fillings_of (e ∷ [])
        → (if b then fillings_of (es ++ e ∷ []) else (filling_of x ∷ fillings_of (es ++ e ∷ [])))
        ≡ (if b then fillings_of es else (filling_of x ∷ fillings_of es)) ++ fillings_of (e ∷ [])
    by true rest = rest
    by false rest = ap (λ l. filling_of x ∷ l) rest

pub none_added : (names : List Text) (instances : List SiteInstance) (before : List Property)
    → AreAdded names instances before [] before
none_added names instances before = record {
  added = [];
  behind = sym (append-nil before);
  all = refl;
  each = λ k f property f_is property_is. absurd (none-some f f_is);
}

one_item : {A : Type 0} (x y : A) (j : ℕ) → slice_get (x ∷ []) j ≡ Some y → (j ≡ 0) × (x ≡ y)
one_item x y zero h = (refl, same_Some x y h)
one_item x y (suc j) h = absurd (none-some y h)

one_added : (names : List Text) (instances : List SiteInstance) (before : List Property)
    (fillings : List Filling) (f : Filling) (now after : List Property)
    → AreAdded names instances before fillings now → IsAdded names instances f now after
    → AreAdded names instances before (fillings ++ f ∷ []) after
one_added names instances before fillings f now after are more =
    let all = are.all in
    record {
      added = are.added ++ more.property ∷ [];
      behind = more.behind ∙ ap (λ l. l ++ more.property ∷ []) are.behind
          ∙ append_assoc before are.added (more.property ∷ []);
      all = length-append are.added (more.property ∷ [])
          ∙ ap (λ n. n + 1) all ∙ sym (length-append fillings (f ∷ []));
      each = λ k g property g_is property_is.
          elim (from_both fillings (f ∷ []) k g g_is) [
            | inl first ↦ elim (from_both are.added (more.property ∷ []) k property property_is) [
              | inl also ↦ are.each k g property first also
              | inr past ↦
                  let below = slice_get_within fillings k g first in
                  let place : k ≡ length are.added + past.0 = past.1 in
                  absurd (omega (arith, below, place, all))
            ]
            | inr second ↦ elim (from_both are.added (more.property ∷ []) k property property_is) [
              | inl early ↦
                  let below = slice_get_within are.added k property early in
                  let place : k ≡ length fillings + second.0 = second.1 in
                  absurd (omega (arith, below, place, all))
              | inr past ↦
                  let g_same = one_item f g second.0 second.2 in
                  let property_same = one_item more.property property past.0 past.2 in
                  subst (λ p. TellsIt names instances g p) property_same.1
                  (subst (λ h. TellsIt names instances h more.property) g_same.1 more.tells)
            ]
          ];
    }

-- What is added by the entries that were walked over, and what the walk still gives.
pub record IsAdding (old : List Text) (instances : List SiteInstance) (before : List Property)
    (es rest : List Entry) (names : List Text) (after : List Property) : Type 0 where
  pub done : List Entry
  pub all : es ≡ done ++ rest
  pub added : AreAdded names instances before (fillings_of done) after
  pub keeps : KeepsNumbers old names
  pub most : length names ≤ length old + 2 * length done

pub adding_start : (old : List Text) (instances : List SiteInstance) (before : List Property)
    (es rest : List Entry) → rest ≡ es → IsAdding old instances before es rest old before
adding_start old instances before es rest is = record {
  done = [];
  all = sym is;
  added = none_added old instances before;
  keeps = λ id text h. h;
  most = omega arith;
}

module _ (old : List Text) (instances : List SiteInstance) (before : List Property)
    (es rest now_rest : List Entry) (e : Entry) (names : List Text) (now : List Property)
    (step : rest ≡ e ∷ now_rest) (is : IsAdding old instances before es rest names now) where
  stands : slice_get es (length is.done) ≡ Some e
  stands = ap (λ (l : List Entry). slice_get l (length is.done))
      (is.all ∙ ap (λ l. is.done ++ l) step)
      ∙ into_second is.done (e ∷ now_rest) (length is.done) 0 e (omega arith) refl

  few : length is.done + 1 ≤ length es
  few =
      let all : length es ≡ length is.done + length (e ∷ now_rest) =
      ap length (is.all ∙ ap (λ l. is.done ++ l) step) ∙ length-append is.done (e ∷ now_rest) in
      omega (arith, all)

  pub next_site : HaveSites old instances es → HasSite names instances e.0.0
  next_site sites =
      let its = sites (length is.done) e stands in
      record {
        instance = its.instance;
        instance_is = its.instance_is;
        named = kept its.named;
      }
    where
      kept : {site : ℕ} → site < length old → site < length names
      kept {site} below =
          let text = there_is old site below in
          slice_get_within names site text.0 (is.keeps site text.0 text.1)

  pub next_room : (most : ℕ) → length old + 2 * length es < most → length names + 2 < most + 1
  next_room most room =
      let so_far = is.most in let more = few in omega (arith, room, so_far, more)

  pub next_added : (new_names : List Text) (after : List Property)
      → KeepsNumbers names new_names → length new_names ≤ length names + 2
      → AddsTable new_names instances e.0.0 e.0.1 e.1 now after
      → IsAdding old instances before es now_rest new_names after
  next_added new_names after keeps most adds = record {
    done = is.done ++ e ∷ [];
    all = is.all ∙ ap (λ l. is.done ++ l) step ∙ sym (append_assoc is.done (e ∷ []) now_rest);
    added = subst (λ (l : List Filling). AreAdded new_names instances before l after)
        (sym (fillings_more is.done e)) (grown adds);
    keeps = λ id text h. keeps id text (is.keeps id text h);
    most =
        let so_far = is.most in
        let long = length-append is.done (e ∷ []) in
        omega (arith, so_far, most, long);
  }
    where
      kept : AreAdded new_names instances before (fillings_of is.done) now
      kept = all_kept names new_names keeps instances before (fillings_of is.done) now is.added

      grown : AddsTable new_names instances e.0.0 e.0.1 e.1 now after
          → AreAdded new_names instances before (fillings_of is.done ++ fillings_of (e ∷ [])) after
      grown (inl none) = subst (λ (b : Bool). AreAdded new_names instances before
          (fillings_of is.done ++ (if b then [] else (filling_of e ∷ []))) after) (sym none.0)
          (subst (AreAdded new_names instances before (fillings_of is.done ++ []))
          (sym none.1) (subst (λ (l : List Filling). AreAdded new_names instances before l now)
          (sym (append-nil (fillings_of is.done))) kept))
      grown (inr one) = subst (λ (b : Bool). AreAdded new_names instances before
          (fillings_of is.done ++ (if b then [] else (filling_of e ∷ []))) after) (sym one.0)
          (one_added new_names instances before (fillings_of is.done) (filling_of e) now after
          kept one.1)

pub adding_most : (old : List Text) (instances : List SiteInstance) (before : List Property)
    (es rest : List Entry) (names : List Text) (now : List Property)
    → IsAdding old instances before es rest names now
    → length names ≤ length old + 2 * length es
adding_most old instances before es rest names now is =
    let all : length es ≡ length is.done + length rest =
    ap length is.all ∙ length-append is.done rest in
    let so_far = is.most in omega (arith, all, so_far)

pub adding_end : (old : List Text) (instances : List SiteInstance) (before : List Property)
    (es rest : List Entry) (names : List Text) (now : List Property) → rest ≡ []
    → IsAdding old instances before es rest names now
    → AreAdded names instances before (fillings_of es) now
adding_end old instances before es rest names now end is =
    subst (λ (l : List Entry). AreAdded names instances before (fillings_of l) now)
    (sym (is.all ∙ ap (λ l. is.done ++ l) end ∙ append-nil is.done)) is.added
