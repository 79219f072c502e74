-- Lists of indexes that are asked, and what stops them.
use Prim.Native.String.{String}
use Rattle.std.proofs.Common.{◌≡◌, ℕ, ◌-◌, List, [], ◌∷◌, map, Bool, true, false, Ok, Err, refl}
use Rattle.std.proofs.Common.{sym, ◌∙◌, subst}
use Rattle.std.specs.Prelude.{codes, nat_lt, slice_index, ◌&&◌}
use Rattle.std.specs.List.{list_all}
use Rattle.ix_device_read.specs.Finish.{place_of, field_at}
use Rattle.ix_message.specs.Indexes.{Step, asked}
use Rattle.ix_message.specs.Shape.{Struct}
use Rattle.ix_take.specs.Views.{AskedEach, Stops, kind_word, field_word}
use Rattle.ix_take.specs.Walked.{kinds_of, walked}
use Rattle.ix_take.specs.declared.stop.Stop.{Stop}
use Rattle.ix_take.specs.declared.stop.Stop.TheVariants.{OutOfList, Memory}

-- the steps that ask each number of a list
abbrev pub ask_each : String → String → ℕ → List ℕ → List Step
ask_each kind field many ns = map (λ n. asked kind field (nat_lt n many)) ns

pub each_fits : (ss : List Struct) (counts : List ℕ) (kind field : String) (many : ℕ) (ns : List ℕ)
    → list_all (λ n. nat_lt n many) ns ≡ true
    → walked ss counts (ask_each kind field many ns) ≡ Ok counts
unfolding walked
each_fits ss counts kind field many [] h = refl
each_fits ss counts kind field many (n ∷ ns) h =
    go (nat_lt n many) (each_fits ss counts kind field many ns) h
  where
    go : (b : Bool) → (list_all (λ n. nat_lt n many) ns ≡ true
        → walked ss counts (ask_each kind field many ns) ≡ Ok counts)
        → (b && list_all (λ n. nat_lt n many) ns) ≡ true
        → walked ss counts (asked kind field b ∷ ask_each kind field many ns) ≡ Ok counts
    go true rest h = rest h
    go false rest h = absurd cc

pub one_unfit : (ss : List Struct) (counts : List ℕ) (kind field : String) (many : ℕ) (ns : List ℕ)
    → list_all (λ n. nat_lt n many) ns ≡ false
    → walked ss counts (ask_each kind field many ns) ≡ Err
    (field_at counts (place_of (kinds_of ss) kind) (codes kind) (codes field))
unfolding walked
one_unfit ss counts kind field many [] h = absurd cc
one_unfit ss counts kind field many (n ∷ ns) h =
    go (nat_lt n many) (one_unfit ss counts kind field many ns) h
  where
    go : (b : Bool) → (list_all (λ n. nat_lt n many) ns ≡ false
        → walked ss counts (ask_each kind field many ns) ≡ Err
        (field_at counts (place_of (kinds_of ss) kind) (codes kind) (codes field)))
        → (b && list_all (λ n. nat_lt n many) ns) ≡ false
        → walked ss counts (asked kind field b ∷ ask_each kind field many ns) ≡ Err
        (field_at counts (place_of (kinds_of ss) kind) (codes kind) (codes field))
    go true rest h = rest h
    go false rest h = refl

pub each_stops : (ss : List Struct) (counts : List ℕ) (kind field : String) (k f many : ℕ)
    (ns : List ℕ) (e : Stop)
    → AskedEach (Err e) ns many (OutOfList k f (slice_index counts k - 1))
    → place_of (kinds_of ss) kind ≡ k → kind_word ss k ≡ codes kind
    → field_word ss k f ≡ codes field
    → Stops ss e (walked ss counts (ask_each kind field many ns))
each_stops ss counts kind field k f many ns Memory h p w x = tt
each_stops ss counts kind field k f many ns (OutOfList a b i) h p w x =
    subst (λ (e : Stop). Stops ss e (walked ss counts (ask_each kind field many ns))) (sym h.0)
    (one_unfit ss counts kind field many ns h.1 ∙ rw (p, w, x) refl)
