use Rattle.std.proofs.Common.{◌≡◌, length, map, arith, refl, sym, ◌∙◌}
use Rattle.std.proofs.lemmas.List.{length-map}
use Rattle.std.proofs.lemmas.Option.{slice_get_within}
use Rattle.slot_core.specs.declared.derivations.Derivation.{Derivation}
use Rattle.slot_core.specs.Places.{address_of}
use Rattle.query_revoke.specs.Objects.{object_number}
use Rattle.query_revoke.specs.Runs.{AreOnce}
use Rattle.query_revoke.proofs.Keys.{place_of, ascending_at}
use Rattle.query_revoke.proofs.Found.{found, revoked, once_told}
use Rattle.query_revoke.proofs.revoked.revoked_alone.Goals as goal

pub run_end-end-requires-clause-start : goal.run_end-end-requires-clause-start
run_end-end-requires-clause-start g c =
    let p = g.P.Profile.profile in
    let list = c.args.list.now in
    let here = place_of (map (λ (d : Derivation). address_of p d.slot) list) c.args.places.now c.args.slot c.in-Some.place c.requires.addresses
    (sym c.place_at.ensures ∙ c.in-Some.is) in
    let m : length (map (λ (d : Derivation). address_of p d.slot) list) ≡ length list = rw length-map refl in
    let within = slice_get_within (map (λ (d : Derivation). address_of p d.slot) list) c.in-Some.place c.args.slot here in
    omega (arith, m, within)

pub ends_slots-requires-clause-ascending : goal.ends_slots-requires-clause-ascending
ends_slots-requires-clause-ascending g c =
    (ascending_at (map (λ (d : Derivation). object_number d.cap) c.args.list.now) c.args.objects.now c.requires.named.numbers)

pub named_within-requires-clause-ascending : goal.named_within-requires-clause-ascending
named_within-requires-clause-ascending g c =
    (ascending_at (map (λ (d : Derivation). object_number d.cap) c.args.list.now) c.args.objects.now c.requires.named.numbers)

pub returns : goal.returns
returns g c f told =
    let p = g.P.Profile.profile in
    let list = c.args.list.now in
    let here = place_of (map (λ (d : Derivation). address_of p d.slot) list) c.args.places.now c.args.slot c.in-Some.place c.requires.addresses
    (sym c.place_at.ensures ∙ c.in-Some.is) in
    let once : AreOnce (map (λ (d : Derivation). address_of p d.slot) list) = once_told p list f told in
    let run = c.run_end-end.ensures.run once in
    let high = c.run_end-end.ensures.high in
    let stay = sym c.ends_slots.ensures ∙ c.if-ends_slots.false in
    let ended = c.in_ok-ended.ensures in
    revoked p list f c.args.objects.now c.args.slot c.in-Some.place c.run_end-end.result _ (found p list f c.args.slot c.in-Some.place c.run_end-end.result told once here run)
    c.requires.named.small c.requires.named.numbers high refl stay ended
