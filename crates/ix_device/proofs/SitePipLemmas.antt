-- Where site PIPs lead, BEL by BEL and PIP by PIP.
use Rattle.std.proofs.Common.{◌≡◌, refl, ap, sym, ◌∙◌, ℕ, ◌+◌, Bool, true, false, ◌||◌, nat_eq, List, take, slice_get, Option, Some, None, option_map, option_and_then, unwrap_or}
use Rattle.std.specs.List.{list_any}
use Rattle.ix_rec.specs.declared.device.SiteType.{SiteType}
use Rattle.ix_rec.specs.declared.device.Bel.{Bel}
use Rattle.ix_rec.specs.declared.device.SitePip.{SitePip}
use Rattle.ix_first.specs.First.{or_later}
use Rattle.ix_device.specs.Lookups.{bel_in}
use Rattle.ix_device.specs.SitePips.{inverts_at, is_for_routing, is_routing_bel, first_from}
use Rattle.ix_device.proofs.FirstPlaces.{one_more_found}
use Rattle.ix_device.proofs.OptionLemmas.{find-place}
use Rattle.ix_device.proofs.Walks.{any_next}

-- a mark made twice is made where one of the tests passes
marked : (x y : Bool) → or_later {V = Unit {0}} (or_later None x tt) y tt ≡ or_later None (x || y) tt
marked true y = refl
marked false y = refl

-- one more BEL was marked
pub one_more_mark : (pin : ℕ) (bels : List Bel) (i : ℕ) (b : Bel) (now new : Option (Option (Unit {0}))) → slice_get bels i ≡ Some b
    → now ≡ Some (or_later None (list_any (inverts_at pin) (take i bels)) tt) → new ≡ option_map (λ v. or_later v (inverts_at pin b) tt) now
    → new ≡ Some (or_later None (list_any (inverts_at pin) (take (i + 1) bels)) tt)
one_more_mark pin bels i b now new at before step =
    step ∙ ap (option_map (λ v. or_later v (inverts_at pin b) tt)) before ∙ ap Some (marked (list_any (inverts_at pin) (take i bels)) (inverts_at pin b)) ∙ ap (λ t. Some (or_later None t tt)) (sym (any_next (inverts_at pin) bels i b at))

-- one more site PIP was put
pub one_more_pip : (pin : ℕ) (pips : List SitePip) (i : ℕ) (p : SitePip) (now new : Option (Option ℕ)) → slice_get pips i ≡ Some p
    → now ≡ Some (first_from pin (take i pips)) → new ≡ option_map (λ v. or_later v (nat_eq p.inpin pin) p.outpin) now
    → new ≡ Some (first_from pin (take (i + 1) pips))
one_more_pip pin pips i p now new at before step =
    step ∙ ap (option_map (λ v. or_later v (nat_eq p.inpin pin) p.outpin)) before ∙ ap Some (one_more_found (λ q. nat_eq q.inpin pin) (λ q. q.outpin) pips i p at)

-- whether the BEL of a name is for routing, by the BEL's number
routing_told : (t : SiteType) (name : ℕ) (found : Option ℕ) → found ≡ bel_in name t → unwrap_or (option_map (λ b. is_for_routing b.category) (option_and_then (slice_get t.bels) found)) false ≡ is_routing_bel t name
routing_told t name found e = ap (λ o. unwrap_or (option_map (λ b. is_for_routing b.category) o) false) (ap (option_and_then (slice_get t.bels)) e ∙ sym (find-place (λ b. nat_eq b.name name) t.bels))

-- the BEL that was found
pub routing_bel : (t : SiteType) (name bel : ℕ) (b : Bel) → Some bel ≡ bel_in name t → slice_get t.bels bel ≡ Some b → is_for_routing b.category ≡ is_routing_bel t name
routing_bel t name bel b e at = ap (λ o. unwrap_or (option_map (λ b. is_for_routing b.category) o) false) (sym at) ∙ routing_told t name (Some bel) e

-- no BEL has the name
pub no_routing_bel : (t : SiteType) (name : ℕ) → None ≡ bel_in name t → false ≡ is_routing_bel t name
no_routing_bel t name e = routing_told t name None e
