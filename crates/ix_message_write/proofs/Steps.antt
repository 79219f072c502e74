-- One step after another: names noted, pointers put.
use Rattle.std.proofs.Common.{◌≡◌, ◌≤◌, ◌+◌, ◌*◌, ◌/◌, ◌++◌, ◌∙◌, [], ◌∷◌, ℕ, List, Bool, true, false, length, ap, sym, refl, arith, length-append, inl, inr}
use Rattle.std.specs.Prelude.{Err, ◌&&◌}
use Rattle.ix_message.specs.Shape.{Text}
use Rattle.ix_message.specs.Names.{first_uses}
use Rattle.ix_message.specs.Layout.{Laid, Section, objects, all_fit}
use Rattle.ix_capw.specs.Growth.{written, IsSegment}
use Rattle.ix_capw.specs.declared.builder.BuildFault.{BuildFault}
use Rattle.ix_capw.specs.declared.builder.BuildFault.TheVariants.{TooLong, Memory}
use Rattle.ix_message_write.specs.declared.string_table.Strings.{Strings}
use Rattle.ix_message_write.specs.Table.{table_in}
use Rattle.ix_message_write.specs.Growth.{with_objects, NoRoom}
use Rattle.ix_message_write.specs.Says.{Notes, HasNoted, Puts, HasPut, Writes, HasWritten}
use Rattle.ix_message_write.proofs.FirstUses.{first_uses-append, first_uses-longer}
use Rattle.ix_message_write.proofs.Laid.{length-with_object, length-written}

-- ---- names

pub noted_then : (names : List Text) (a b c : Strings) (us vs : List Text) → HasNoted names a b us → HasNoted names b c vs → HasNoted names a c (us ++ vs)
noted_then names a b c us vs one two = record {
  texts = two.texts ∙ ap (λ (t : List Text). first_uses t vs) one.texts ∙ sym (first_uses-append (table_in names a) us vs);
  table = two.table;
}

pub noted_stop : (names : List Text) (a b c : Strings) (us vs : List Text) (f : BuildFault) → HasNoted names a b us → Notes {X = Unit {0}} names b c vs (Err f) → Notes {X = Unit {0}} names a c (us ++ vs) (Err f)
noted_stop names a b c us vs TooLong one many =
    let whole : first_uses (table_in names a) (us ++ vs) ≡ first_uses (table_in names b) vs = first_uses-append (table_in names a) us vs ∙ sym (ap (λ (t : List Text). first_uses t vs) one.texts) in
    omega (arith, ap length whole)
noted_stop names a b c us vs Memory one many = tt

pub noted_first : (names : List Text) (a b : Strings) (us vs : List Text) (f : BuildFault) → Notes {X = Unit {0}} names a b us (Err f) → Notes {X = Unit {0}} names a b (us ++ vs) (Err f)
noted_first names a b us vs TooLong many = omega (arith, ap length (first_uses-append (table_in names a) us vs), first_uses-longer (first_uses (table_in names a) us) vs)
noted_first names a b us vs Memory many = tt

-- ---- pointers

-- so many pointers are put, one after another
pub record HasPutAll (word : ℕ) (xs : List Laid) (before after : List ℕ) : Type 0 where
  pub made : after ≡ with_objects word xs before
  pub fits : all_fit xs ≡ true
  pub segment : IsSegment after

abbrev pub Refused : BuildFault → List Laid → List ℕ → Type 0
Refused TooLong xs segment = NoRoom xs segment
Refused Memory xs segment = Unit {0}

pub put_none : (word : ℕ) (S : List ℕ) → IsSegment S → HasPutAll word [] S S
put_none word S segment = record { made = refl; fits = refl; segment = segment }

pub put_then : (word : ℕ) (x : Laid) (xs : List Laid) (S S1 S2 : List ℕ) → HasPut word x S S1 → HasPutAll (word + 1) xs S1 S2 → HasPutAll word (x ∷ xs) S S2
put_then word x xs S S1 S2 one others = record {
  made = others.made ∙ ap (with_objects (word + 1) xs) one.made;
  fits = ap (λ (b : Bool). b && all_fit xs) one.fits ∙ others.fits;
  segment = others.segment;
}

pub refused_first : (word : ℕ) (x : Laid) (xs : List Laid) (S S1 : List ℕ) (f : BuildFault) → Puts {X = Unit {0}} word x S S1 (Err f) → Refused f (x ∷ xs) S
refused_first word x xs S S1 TooLong (inl many) = inl (omega (arith, length-append x.object [], length-append x.object (objects xs)))
refused_first word x xs S S1 TooLong (inr unfit) = inr (go x.fits unfit (all_fit xs))
  where
    go : (b : Bool) → (b && true) ≡ false → (c : Bool) → (b && c) ≡ false
    go true e c = absurd cc
    go false e c = refl
refused_first word x xs S S1 Memory h = tt

pub refused_then : (word : ℕ) (x : Laid) (xs : List Laid) (S S1 : List ℕ) (f : BuildFault) → 8 * (word + 1) ≤ length S → HasPut word x S S1 → Refused f xs S1 → Refused f (x ∷ xs) S
refused_then word x xs S S1 TooLong inside one (inl many) = inl (omega (arith, ap length one.made, length-with_object word x S inside, length-append x.object (objects xs)))
refused_then word x xs S S1 TooLong inside one (inr unfit) = inr (go x.fits (all_fit xs) unfit)
  where
    go : (b c : Bool) → c ≡ false → (b && c) ≡ false
    go true c e = e
    go false c e = refl
refused_then word x xs S S1 Memory inside one h = tt

-- how long a segment is with one object more
pub put_long : (word : ℕ) (x : Laid) (S S1 : List ℕ) → 8 * (word + 1) ≤ length S → HasPut word x S S1 → length S1 ≡ length S + length x.object
put_long word x S S1 inside one = ap length one.made ∙ length-with_object word x S inside

-- a struct is written: its row, and then its pointers
pub struct_written : (p words : ℕ) (e : Section) (S S1 S2 : List ℕ) → length e.data_bytes ≡ 8 * words → S1 ≡ written (8 * p) (8 * words) e.data_bytes S → HasPutAll (p + words) e.behind S1 S2 → HasWritten p e S S2
struct_written p words e S S1 S2 long row others =
    let same : S1 ≡ written (8 * p) (length e.data_bytes) e.data_bytes S = row ∙ ap (λ (k : ℕ). written (8 * p) k e.data_bytes S) (sym long) in
    let word : p + words ≡ p + length e.data_bytes / 8 = omega (arith, long) in
    record {
      made = others.made ∙ ap (λ (k : ℕ). with_objects k e.behind S1) word ∙ ap (with_objects (p + length e.data_bytes / 8) e.behind) same;
      fits = others.fits;
      segment = others.segment;
    }

pub struct_refused : (p words : ℕ) (e : Section) (S S1 after : List ℕ) (f : BuildFault) → length e.data_bytes ≡ 8 * words → 8 * (p + words) ≤ length S → S1 ≡ written (8 * p) (8 * words) e.data_bytes S
    → Refused f e.behind S1 → Writes {X = Unit {0}} p e S after (Err f)
struct_refused p words e S S1 after TooLong long inside row (inl many) = inl (omega (arith, ap length row, length-written (8 * p) (8 * words) e.data_bytes S long (omega arith)))
struct_refused p words e S S1 after TooLong long inside row (inr unfit) = inr unfit
struct_refused p words e S S1 after Memory long inside row h = tt
