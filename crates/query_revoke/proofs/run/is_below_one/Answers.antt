use Rattle.std.proofs.Common.{◌≡◌, ℕ, ◌&&◌, Bool, true, false, nat_le, nat_lt, List, map, filter, Option, None, Some, option_map, sym, ap, ◌∙◌, subst, rules}
use Rattle.std.specs.List.{slice_get}
use Rattle.std.proofs.lemmas.Bool.{le-leb}
use Rattle.slot_core.specs.declared.derivations.Derivation.{Derivation}
use Rattle.slot_core.specs.Places.{address_of}
use Rattle.slot_core.specs.Calls.{derivation_view}
use Rattle.cap_core.specs.declared.profile.ProfileName.{ProfileName}
use Rattle.query_revoke.specs.declared.keyed.Keyed.{Keyed}
use Rattle.query_revoke.specs.Keyed.{AreKeyed, is_keyed_by}
use Rattle.query_revoke.specs.Runs.{EntryBelow, AreOnce, part, is_below_one_of}
use Rattle.query_revoke.proofs.Found.{addresses_seen}
use Rattle.query_revoke.proofs.Keys.{place_of, no_place}
use Rattle.query_revoke.proofs.Parts.{any_within, none_within}
use Rattle.query_revoke.proofs.run.is_below_one.Goals as goal

-- the parent's place tells
placed : (p : ProfileName) (ds : List Derivation) (places : List Keyed) (d : Derivation) (start end n : ℕ) (o : Option ℕ) → AreKeyed (map (λ (d : Derivation). address_of p d.slot) ds) places →
    option_map (address_of p) d.parent ≡ Some n → o ≡ option_map (λ (k : Keyed). k.place) (slice_get (filter (is_keyed_by n) places) 0) →
    AreOnce (map (λ (d : Derivation). address_of p d.slot) ds) → (place : ℕ) → o ≡ Some place →
    (nat_le start place && nat_lt place end) ≡ is_below_one_of (part start end (map (derivation_view p) ds)) (derivation_view p d)
placed p ds places d start end n o keyed parent is once place at =
    let here : slice_get (map (λ (d : Derivation). address_of p d.slot) ds) place ≡ Some n = place_of (map (λ (d : Derivation). address_of p d.slot) ds) places n place keyed (sym is ∙ at) in
    let seen = addresses_seen p ds in
    sym (ap (λ (q : Option ℕ). is_below_one_of (part start end (map (derivation_view p) ds)) ((derivation_view p d).0, q)) parent
    ∙ any_within (λ (x : EntryBelow). x.0.slot) (map (derivation_view p) ds) start end n place (ap (λ (l : List ℕ). slice_get l place) (sym seen) ∙ here) (subst AreOnce seen once))

unplaced : (p : ProfileName) (ds : List Derivation) (places : List Keyed) (d : Derivation) (start end n : ℕ) (o : Option ℕ) → AreKeyed (map (λ (d : Derivation). address_of p d.slot) ds) places →
    option_map (address_of p) d.parent ≡ Some n → o ≡ option_map (λ (k : Keyed). k.place) (slice_get (filter (is_keyed_by n) places) 0) → o ≡ None →
    false ≡ is_below_one_of (part start end (map (derivation_view p) ds)) (derivation_view p d)
unplaced p ds places d start end n o keyed parent is at =
    sym (ap (λ (q : Option ℕ). is_below_one_of (part start end (map (derivation_view p) ds)) ((derivation_view p d).0, q)) parent
    ∙ none_within (λ (x : EntryBelow). x.0.slot) (map (derivation_view p) ds) start end n
    (λ i e. no_place (map (λ (d : Derivation). address_of p d.slot) ds) places n keyed (sym is ∙ at) i (ap (λ (l : List ℕ). slice_get l i) (addresses_seen p ds) ∙ e)))

pub returns-then-start-place : goal.returns-then-start-place
returns-then-start-place g c = λ once.
    let p = g.P.Profile.profile in
    let low : nat_le c.args.start c.in-Some-place_at.place ≡ true = le-leb c.args.start c.in-Some-place_at.place c.if-start-place.true in
    sym (ap (λ (b : Bool). b && nat_lt c.in-Some-place_at.place c.args.end) low)
    ∙ placed p c.args.list.now c.args.places.now c.args.derivation.now c.args.start c.args.end c.address.result c.place_at.result c.requires.places
    (ap (option_map (address_of p)) c.in-Some.is ∙ ap Some (sym c.address.ensures)) c.place_at.ensures once c.in-Some-place_at.place c.in-Some-place_at.is

pub returns-else-start-place : goal.returns-else-start-place
returns-else-start-place g c = λ once.
    let p = g.P.Profile.profile in
    let place = c.in-Some-place_at.place in
    let low : nat_le c.args.start place ≡ false = search rules in
    low ∙ sym (ap (λ (b : Bool). b && nat_lt place c.args.end) low)
    ∙ placed p c.args.list.now c.args.places.now c.args.derivation.now c.args.start c.args.end c.address.result c.place_at.result c.requires.places
    (ap (option_map (address_of p)) c.in-Some.is ∙ ap Some (sym c.address.ensures)) c.place_at.ensures once place c.in-Some-place_at.is

pub returns-in-None : goal.returns-in-None
returns-in-None g c = λ once.
    let p = g.P.Profile.profile in
    unplaced p c.args.list.now c.args.places.now c.args.derivation.now c.args.start c.args.end c.address.result c.place_at.result c.requires.places
    (ap (option_map (address_of p)) c.in-Some.is ∙ ap Some (sym c.address.ensures)) c.place_at.ensures c.in-None.is
