-- The names of the endpoints' slots, and behind them those of the regions'.
use Rattle.std.proofs.Common.{◌≡◌, ℕ, List, ◌+◌, ◌++◌, codes, length, string_bytes, ap, ap₂, ◌∙◌, arith}
use Rattle.command_new.specs.Slots.{endpoint_slot, untyped_slot}
use Rattle.command_new.specs.Text.{slots_text, objects_text}
use Rattle.command_new.proofs.Appended.{both}
use Rattle.command_new.proofs.text.add_objects.Goals as goal

pub returns : goal.returns
unfolding objects_text
returns g c =
    let plan = c.args.plan.now in
    let first : 2 + c.threads-endpoints.result ≡ endpoint_slot plan 0 = omega arith in
    let later : 2 + c.threads-endpoints.result + c.endpoints-2.result ≡ untyped_slot plan 0 = omega arith in
    let endpoints : slots_text (codes "ep") (2 + c.threads-endpoints.result) c.endpoints.result ≡ slots_text (codes "ep") (endpoint_slot plan 0) plan.endpoints =
    ap₂ (slots_text (codes "ep")) first c.endpoints.ensures in
    let untypeds : slots_text (codes "untyped") (2 + c.threads-endpoints.result + c.endpoints-2.result) (length c.untypeds.result.now) ≡
    slots_text (codes "untyped") (untyped_slot plan 0) (length plan.untypeds) =
    ap₂ (slots_text (codes "untyped")) later (ap length c.untypeds.ensures) in
    both (string_bytes c.args.out.now) _ _ _ _ c.in_ok-writeln.ensures.bytes
    (both (string_bytes c.writeln.new.self) (slots_text (codes "ep") (endpoint_slot plan 0) plan.endpoints)
    (slots_text (codes "untyped") (untyped_slot plan 0) (length plan.untypeds)) _ _
    (c.in_ok-add_slots.ensures ∙ ap (λ (l : List ℕ). string_bytes c.writeln.new.self ++ l) endpoints)
    (c.in_ok-add_slots-2.ensures ∙ ap (λ (l : List ℕ). string_bytes c.add_slots.new.out ++ l) untypeds))
