-- What contracts see of an occupancy, by what is kept.
use Rattle.std.proofs.Common.{◌≡◌, ◌<◌, ◌≤◌, refl, ap, sym, ◌∙◌, ℕ, zero, suc, nat_le, List, []}
use Rattle.std.proofs.Common.{◌∷◌, length, get_or, map, ◌⊎◌, inl, inr, arith}
use Rattle.std.specs.List.{count_by}
use Rattle.std.proofs.lemmas.Bool.{cases_lt}
use Rattle.std.proofs.lemmas.List.{length-map, get_or_read, get_or_past}
use Rattle.ix_occupy.specs.declared.loads.NodeLoad.{NodeLoad}
use Rattle.ix_occupy.specs.Loads.{Load, holder_count, hist_at, shared_count}
use Rattle.ix_occupy.specs.Kept.{load_of, kept_at, blank}
use Rattle.ix_occupy.proofs.Counting.{count_map}

pub holder_count-view : (loads : List NodeLoad) (node : ℕ)
    → holder_count (map load_of loads) node ≡ (kept_at loads node).holders
unfolding holder_count
holder_count-view [] node = refl
holder_count-view (x ∷ xs) zero = refl
holder_count-view (x ∷ xs) (suc n) = holder_count-view xs n

pub hist_at-view : (loads : List NodeLoad) (node : ℕ)
    → hist_at (map load_of loads) node ≡ (kept_at loads node).hist
unfolding hist_at
hist_at-view [] node = refl
hist_at-view (x ∷ xs) zero = refl
hist_at-view (x ∷ xs) (suc n) = hist_at-view xs n

pub shared_count-view : (loads : List NodeLoad)
    → shared_count (map load_of loads) ≡ count_by (λ load. nat_le 2 load.holders) loads
unfolding shared_count
shared_count-view loads = count_map (λ load. nat_le 2 load.holders) load_of loads

-- the same where a value is the view of what is kept
pub holders_seen : (view : List Load) (loads : List NodeLoad) (node : ℕ) → map load_of loads ≡ view
    → holder_count view node ≡ (kept_at loads node).holders
holders_seen view loads node e = ap (λ v. holder_count v node) (sym e)
    ∙ holder_count-view loads node

pub hist_seen : (view : List Load) (loads : List NodeLoad) (node : ℕ) → map load_of loads ≡ view
    → hist_at view node ≡ (kept_at loads node).hist
hist_seen view loads node e = ap (λ v. hist_at v node) (sym e) ∙ hist_at-view loads node

pub shared_seen : (view : List Load) (loads : List NodeLoad) → map load_of loads ≡ view
    → shared_count view ≡ count_by (λ load. nat_le 2 load.holders) loads
shared_seen view loads e = ap shared_count (sym e) ∙ shared_count-view loads

pub length_seen : (view : List Load) (loads : List NodeLoad) → map load_of loads ≡ view
    → length view ≡ length loads
length_seen view loads e = ap length (sym e) ∙ length-map loads load_of

-- what was read of a node
pub holders_read : (view : List Load) (loads : List NodeLoad) (node place : ℕ) (load : NodeLoad)
    → map load_of loads ≡ view
    → node < length view → place ≡ node → load ≡ get_or loads place load
    → holder_count view node ≡ load.holders
holders_read view loads node place load e inside at is =
    let in_loads : place < length loads = omega (arith, length_seen view loads e) in
    let read : load ≡ kept_at loads place = get_or_read loads place load in_loads is blank in
    holders_seen view loads node e ∙ ap (λ (n : ℕ). (kept_at loads n).holders) (sym at)
    ∙ ap (λ (l : NodeLoad). l.holders) (sym read)

pub hist_read : (view : List Load) (loads : List NodeLoad) (node place : ℕ) (load : NodeLoad)
    → map load_of loads ≡ view
    → node < length view → place ≡ node → load ≡ get_or loads place load
    → hist_at view node ≡ load.hist
hist_read view loads node place load e inside at is =
    let in_loads : place < length loads = omega (arith, length_seen view loads e) in
    let read : load ≡ kept_at loads place = get_or_read loads place load in_loads is blank in
    hist_seen view loads node e ∙ ap (λ (n : ℕ). (kept_at loads n).hist) (sym at)
    ∙ ap (λ (l : NodeLoad). l.hist) (sym read)

-- what is kept of nodes of which nothing was kept yet
pub blank_kept : (loads : List NodeLoad) → ((k : ℕ) → k < length loads → kept_at loads k ≡ blank)
    → (node : ℕ) → kept_at loads node ≡ blank
blank_kept loads each node = by (cases_lt node (length loads))
  where
    by : (node < length loads) ⊎ (length loads ≤ node) → kept_at loads node ≡ blank
    by (inl inside) = each node inside
    by (inr past) = get_or_past loads node blank past

pub kept_read : (view : List Load) (loads : List NodeLoad) (node place : ℕ) (load : NodeLoad)
    → map load_of loads ≡ view
    → node < length view → place ≡ node → load ≡ get_or loads place load → load ≡ kept_at loads node
kept_read view loads node place load e inside at is =
    let in_loads : place < length loads = omega (arith, length_seen view loads e) in
    get_or_read loads place load in_loads is blank ∙ ap (λ (n : ℕ). kept_at loads n) at
