-- The BELs of a site type, and the sites of one, one by one.
use Rattle.std.proofs.Common.{◌≡◌, ◌≢◌, refl, ap, sym, subst, ◌∙◌, IfSome, ℕ, zero, suc, ◌+◌, ◌*◌}
use Rattle.std.proofs.Common.{◌<◌, ◌≤◌, ◌^◌, List, [], ◌∷◌, length, get_or, replicate, set}
use Rattle.std.proofs.Common.{slice_get, Option, Some, None, is_some, option_map, option_and_then}
use Rattle.std.proofs.Common.{unwrap_or, Bool, true, false, cond, not, nat_eq, nat_lt, arith}
use Rattle.std.proofs.lemmas.Bool.{eqb-true, eqb-false, lt-ltb}
use Rattle.std.proofs.Math.Nat.{mul-le-mul_left}
use Rattle.std.proofs.lemmas.List.{get_or-set_same, get_or-set_other}
use Rattle.std.proofs.lemmas.Option.{none-some}
use Rattle.ix_rec.specs.Ranges.{IndexesFit}
use Rattle.ix_rec.specs.declared.device.DeviceRec.{DeviceRec}
use Rattle.ix_rec.specs.declared.device.SiteType.{SiteType}
use Rattle.ix_device.specs.Admission.{pins_in}
use Rattle.ix_device.specs.Lookups.{in_type, sites_of, type_of_site}
use Rattle.ix_device.proofs.Inside.{type_is_there}
use Rattle.ix_belmap.specs.Counts.{admits, bels_at, bels_in_type, bels_of_device}
use Rattle.ix_belmap.specs.Groups.{is_home}
use Rattle.ix_belmap.specs.Sites.{count_below, is_of_type, sites_of_type, sum_below}
use Rattle.ix_belmap.proofs.Counting.{count_next}
use Rattle.ix_belmap.proofs.Sums.{is_count, is_sum, of_first, one_more_type, no_type, all_types}
use Rattle.ix_belmap.proofs.Sums.{sum_most, first_most}

-- a BEL of a site type admits a cell type
abbrev pub takes_in : DeviceRec → (ty t bel : ℕ) → Bool
takes_in rec ty t bel = is_some (in_type (pins_in rec ty bel) rec t)

count_same : (p q : ℕ → Bool) (n : ℕ) → ((k : ℕ) → p k ≡ q k) → count_below p n ≡ count_below q n
unfolding count_below
count_same p q zero h = refl
count_same p q (suc n) h = ap (λ c. c + cond (p n) 1 0) (count_same p q n h)
    ∙ ap (λ b. count_below q n + cond b 1 0) (h n)

pub count_start : (p : ℕ → Bool) → count_below p 0 ≡ 0
unfolding count_below
count_start p = refl

pub count_most : (p : ℕ → Bool) (n : ℕ) → count_below p n ≤ n
unfolding count_below
count_most p zero = omega arith
count_most p (suc n) = by (p n) (count_most p n)
  where
    by : (b : Bool) → count_below p n ≤ n → count_below p n + cond b 1 0 ≤ suc n
    by true h = omega arith
    by false h = omega arith

-- all BELs were counted
pub all_counted : (rec : DeviceRec) (ty t : ℕ) (u : SiteType) (n : ℕ)
    → slice_get rec.site_type_list t ≡ Some u → n ≡ length u.bels
    → count_below (takes_in rec ty t) n ≡ bels_in_type rec ty u
unfolding bels_in_type
all_counted rec ty t u n at is = count_same (takes_in rec ty t) (admits rec ty u) n
    (λ b. ap (λ o. is_some (option_and_then (pins_in rec ty b) o)) at)
    ∙ ap (count_below (admits rec ty u)) is
    ∙ is_count (admits rec ty u) (length u.bels)

-- how many BELs of the site type of this number admit the cell type
abbrev pub bels_of : DeviceRec → (ty t : ℕ) → ℕ
bels_of rec ty t = unwrap_or (option_map (bels_in_type rec ty) (slice_get rec.site_type_list t)) 0

-- the sum over sites, as far as site types were looked at
abbrev pub bels_so_far : DeviceRec → (ty count : ℕ) → ℕ
bels_so_far rec ty count = sum_below (λ s. of_first (bels_of rec ty) count (type_of_site rec s))
    (length (sites_of rec))

pub bels_start : (rec : DeviceRec) (ty : ℕ) → bels_so_far rec ty 0 ≡ 0
bels_start rec ty = no_type (bels_of rec ty) (type_of_site rec) (length (sites_of rec))

pub bels_next : (rec : DeviceRec) (ty k : ℕ)
    → bels_so_far rec ty (k + 1) ≡ bels_so_far rec ty k + bels_of rec ty k * sites_of_type rec k
unfolding sites_of_type
bels_next rec ty k = one_more_type (bels_of rec ty) (type_of_site rec) k (length (sites_of rec))

sum_alike : (f g : ℕ → ℕ) (n : ℕ) → ((k : ℕ) → f k ≡ g k) → sum_below f n ≡ sum_below g n
unfolding sum_below
sum_alike f g zero h = refl
sum_alike f g (suc n) h = let a = sum_alike f g n h in let b = h n in cc

pub bels_end : (rec : DeviceRec) (ty : ℕ) → IndexesFit rec
    → bels_so_far rec ty (length rec.site_type_list) ≡ bels_of_device rec ty
unfolding bels_of_device bels_at
bels_end rec ty fits =
    all_types (bels_of rec ty) (type_of_site rec) (length rec.site_type_list)
    (length (sites_of rec)) (λ s t lt e. type_is_there rec fits s t e)
    ∙ sum_alike (λ s. unwrap_or (option_map (bels_of rec ty) (type_of_site rec s)) 0)
    (bels_at rec ty) (length (sites_of rec)) (λ s. by (type_of_site rec s))
    ∙ is_sum (bels_at rec ty) (length (sites_of rec))
  where
    by : (o : Option ℕ) → unwrap_or (option_map (bels_of rec ty) o) 0 ≡ unwrap_or
        (option_map (bels_in_type rec ty) (option_and_then (λ t. slice_get rec.site_type_list t) o))
        0
    by None = refl
    by (Some t) = refl

-- the sum is no more than the sites times the most of a site type
pub bels_most : (rec : DeviceRec) (ty k : ℕ) → ((t : ℕ) → t < k → bels_of rec ty t ≤ 2 ^ 32)
    → bels_so_far rec ty k ≤ length (sites_of rec) * 2 ^ 32
bels_most rec ty k small = sum_most (λ s. of_first (bels_of rec ty) k (type_of_site rec s)) (2 ^ 32)
    (length (sites_of rec)) (λ s. first_most (bels_of rec ty) (2 ^ 32) k (type_of_site rec s) small)

-- whether a site is of a type, its type being told
pub of_type_told : (rec : DeviceRec) (t site r : ℕ) → type_of_site rec site ≡ Some r
    → is_of_type rec t site ≡ nat_eq t r
of_type_told rec t site r h = ap (λ o. unwrap_or (option_map (nat_eq t) o) false) h

pub sites_most : (rec : DeviceRec) (t : ℕ) → sites_of_type rec t ≤ length (sites_of rec)
unfolding sites_of_type
sites_most rec t = count_most (is_of_type rec t) (length (sites_of rec))

pub within : {A : Type 0} (xs : List A) (k : ℕ) → k < length xs → slice_get xs k ≡ None → ⊥
within [] k h e = omega arith
within (x ∷ xs) zero h e = none-some x (sym e)
within (x ∷ xs) (suc k) h e = within xs k (omega arith) e

pub get_or_past_default : (xs : List ℕ) (i d e : ℕ) → i < length xs → get_or xs i d ≡ get_or xs i e
get_or_past_default [] i d e h = absurd (omega arith)
get_or_past_default (x ∷ xs) zero d e h = refl
get_or_past_default (x ∷ xs) (suc i) d e h = get_or_past_default xs i d e (omega arith)

-- the site type is there, and so many of its BELs admit the cell type
pub told_bels : (rec : DeviceRec) (ty t n k : ℕ)
    → IfSome (slice_get rec.site_type_list t) (λ seen. n ≡ bels_in_type rec ty seen)
    → t < length rec.site_type_list → t ≡ k → bels_of rec ty k ≡ n
told_bels rec ty t n k told lt same = ap (bels_of rec ty) (sym same)
    ∙ by (slice_get rec.site_type_list t) refl told
  where
    by : (o : Option SiteType) → slice_get rec.site_type_list t ≡ o
        → IfSome o (λ seen. n ≡ bels_in_type rec ty seen)
        → unwrap_or (option_map (bels_in_type rec ty) o) 0 ≡ n
    by None e h = absurd (within rec.site_type_list t lt e)
    by (Some u) e h = sym h

pub next_sum : (rec : DeviceRec) (ty k count bels s : ℕ) → count ≡ bels_so_far rec ty k
    → bels_of rec ty k ≡ bels → s ≡ sites_of_type rec k
    → count + bels * s ≡ bels_so_far rec ty (k + 1)
next_sum rec ty k count bels s a b d =
    ap (λ x. x + bels * s) a ∙ ap (λ x. bels_so_far rec ty k + bels * x) d
    ∙ ap (λ x. bels_so_far rec ty k + x * sites_of_type rec k) (sym b)
    ∙ sym (bels_next rec ty k)

pub skip_sum : (rec : DeviceRec) (ty k count bels : ℕ) → count ≡ bels_so_far rec ty k
    → bels_of rec ty k ≡ bels → bels ≤ 0 → count ≡ bels_so_far rec ty (k + 1)
skip_sum rec ty k count bels a b le =
    let none : bels ≡ 0 = omega arith in
    a ∙ add_none (bels_so_far rec ty k) (sites_of_type rec k)
    ∙ ap (λ x. bels_so_far rec ty k + x * sites_of_type rec k) (sym (b ∙ none))
    ∙ sym (bels_next rec ty k)
  where
    add_none : (x y : ℕ) → x ≡ x + 0 * y
    add_none x y = omega arith

pub small_next : (rec : DeviceRec) (ty k bels : ℕ) → ((t : ℕ) → t < k → bels_of rec ty t ≤ 2 ^ 32)
    → bels_of rec ty k ≡ bels → bels ≤ 2 ^ 32 → (t : ℕ) → t < k + 1 → bels_of rec ty t ≤ 2 ^ 32
small_next rec ty k bels before is le t lt = by (nat_eq t k) refl
  where
    by : (b : Bool) → nat_eq t k ≡ b → bels_of rec ty t ≤ 2 ^ 32
    by true e = let same = ap (bels_of rec ty) (eqb-true t k e) in omega arith
    by false e = let ne : t ≢ k = eqb-false t k e in before t (omega arith)

-- a product of two such counts fits 64 bits
pub product_fits : (a b : ℕ) → a ≤ 4294967296 → b < 4294967296 → a * b < 18446744073709551616
product_fits a b h g = let m = mul-le-mul_left b h in omega arith

-- the sites of each type, with one site more
pub counted_next : (counts : List ℕ) (size r old n : ℕ) (p : ℕ → ℕ → Bool) → length counts ≡ size
    → r < size → ((t : ℕ) → t < size → get_or counts t 0 ≡ count_below (p t) n)
    → old ≡ get_or counts r old → ((t : ℕ) → p t n ≡ nat_eq t r) → (t : ℕ) → t < size
    → get_or (set counts r (old + 1)) t 0 ≡ count_below (p t) (n + 1)
counted_next counts size r old n p long lt before is told t within =
    by (nat_eq t r) refl ∙ sym (count_next (p t) n
    ∙ ap (λ b. count_below (p t) n + cond b 1 0) (told t))
  where
    add_none : (x : ℕ) → x ≡ x + 0
    add_none x = omega arith

    was : old ≡ get_or counts r 0
    was = is ∙ get_or_past_default counts r old 0 (omega arith)

    by : (b : Bool) → nat_eq t r ≡ b → get_or (set counts r (old + 1)) t 0 ≡ count_below
        (p t) n + cond (nat_eq t r) 1 0
    by true e =
        let same : t ≡ r = eqb-true t r e in
        ap (λ x. get_or (set counts r (old + 1)) x 0) same
        ∙ get_or-set_same counts r (old + 1) 0 (omega arith)
        ∙ ap (λ x. x + 1) (was ∙ ap (λ x. get_or counts x 0) (sym same) ∙ before t within)
        ∙ ap (λ b. count_below (p t) n + cond b 1 0) (sym e)
    by false e =
        let ne : t ≢ r = eqb-false t r e in
        get_or-set_other counts r t (old + 1) 0 ne ∙ before t within
        ∙ add_none (count_below (p t) n) ∙ ap (λ b. count_below (p t) n + cond b 1 0) (sym e)

pub zeros : (n t : ℕ) → get_or {A = ℕ} (replicate n 0) t 0 ≡ 0
zeros zero t = refl
zeros (suc n) zero = refl
zeros (suc n) (suc t) = zeros n t

-- whether a site type has a BEL that admits the cell type
pub home_told : (rec : DeviceRec) (ty t place n : ℕ)
    → IfSome (slice_get rec.site_type_list t) (λ seen. n ≡ bels_in_type rec ty seen) → t ≡ place
    → IfSome (slice_get rec.site_type_list place) (λ seen. nat_lt 0 n ≡ is_home rec ty seen)
home_told rec ty t place n told same = subst
    (λ k. IfSome (slice_get rec.site_type_list k) (λ seen. nat_lt 0 n ≡ is_home rec ty seen)) same
    (by (slice_get rec.site_type_list t) told)
  where
    some : (m : ℕ) → nat_lt 0 m ≡ not (nat_eq m 0)
    some zero = refl
    some (suc m) = lt-ltb 0 (suc m) (omega arith) ∙ sym (ap not (no_zero (nat_eq (suc m) 0) refl))
      where
        no_zero : (b : Bool) → nat_eq (suc m) 0 ≡ b → b ≡ false
        no_zero false e = refl
        no_zero true e = let is : suc m ≡ 0 = eqb-true (suc m) 0 e in absurd (omega arith)

    by : (o : Option SiteType) → IfSome o (λ seen. n ≡ bels_in_type rec ty seen)
        → IfSome o (λ seen. nat_lt 0 n ≡ is_home rec ty seen)
    by None h = tt
    by (Some u) h = some n ∙ ap (λ m. not (nat_eq m 0)) h
