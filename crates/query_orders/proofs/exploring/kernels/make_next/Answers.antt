use Rattle.std.proofs.Common.{◌≡◌, List, ℕ, None, ap, ◌∙◌}
use Rattle.query_orders.specs.World.{next_client_call}
use Rattle.query_orders.specs.Nodes.{own_calls}
use Rattle.query_orders.proofs.Exploration.Replays.{call_made, none_left}
use Rattle.query_orders.proofs.exploring.kernels.make_next.Goals as goal

pub returns-in-Some : goal.returns-in-Some
returns-in-Some g c w r at is =
    let p = g.P.Profile.profile in
    let own = own_calls c.args.calls.now in
    let made = c.args.made.now.items in
    call_made p own w c.args.client c.in-Some.call c.step.result c.step.new.self made c.count.new.made.items c.next_call.result is
    (c.next_call.ensures.call ∙ ap (λ (l : List ℕ). next_client_call own l c.args.client) c.as_slice.ensures.value) c.in-Some.is
    (c.step.ensures.stands w.kernel r at) c.count.ensures

pub returns-in_default : goal.returns-in_default
returns-in_default g c w r at is =
    let p = g.P.Profile.profile in
    let own = own_calls c.args.calls.now in
    let made = c.args.made.now.items in
    let none : c.next_call.result ≡ None = cc in
    none_left p own w c.args.client c.args.at.now made c.next_call.result at is
    (c.next_call.ensures.call ∙ ap (λ (l : List ℕ). next_client_call own l c.args.client) c.as_slice.ensures.value) none
