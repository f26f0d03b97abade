use Rattle.std.proofs.Common.{rules, refl, sym}
use Rattle.std.proofs.lemmas.Option.{get_or_from_slice_get}
use Rattle.cap_core.specs.declared.capability.Cap.TheVariants.{Null}
use Rattle.query_reach.specs.declared.filled.FullSlot.{FullSlot}
use Rattle.query_reach.proofs.Listed.{root_null}
use Rattle.query_reach.proofs.Sending.{no_endpoint, held_there}
use Rattle.query_reach.proofs.endpoints.endpoint_word.Goals as goal

pub returns-in_err-place : goal.returns-in_err-place
returns-in_err-place c f are =
    let null = root_null f c.args.reached.now.slot c.args.filled.now are c.in_err-place.ensures.none in
    rw null (search rules)

pub returns-in-Endpoint : goal.returns-in-Endpoint
returns-in-Endpoint c f are =
    let none : FullSlot = record { address = 0; cap = Null } in
    let at = c.in_ok-place.ensures.some in
    let held = held_there f c.args.filled.now c.in_ok-place.place c.args.reached.now.slot at.0 none are at.1.0 at.1.1 (get_or_from_slice_get c.args.filled.now c.in_ok-place.place at.0 none at.1.0) in
    rw (held, c.in-Endpoint.is) refl

pub returns-in_default : goal.returns-in_default
returns-in_default c f are =
    let none : FullSlot = record { address = 0; cap = Null } in
    let at = c.in_ok-place.ensures.some in
    let held = held_there f c.args.filled.now c.in_ok-place.place c.args.reached.now.slot at.0 none are at.1.0 at.1.1 (get_or_from_slice_get c.args.filled.now c.in_ok-place.place at.0 none at.1.0) in
    rw held (sym (no_endpoint c.args.thread c.args.shared c.args.reached.now.word _ c.in_default.not-Endpoint))
