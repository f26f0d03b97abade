use Rattle.std.proofs.Common.{ℕ, Bool, [], cond, take, ap, ◌∙◌}
use Rattle.std.specs.Prelude.{unwrap_or}
use Rattle.std.specs.Global.{Vec}
use Rattle.std.specs.List.{slice_get}
use Rattle.kernel_abstract.specs.declared.call.Call.{Call}
use Rattle.query_orders.specs.World.{next_place}
use Rattle.query_orders.specs.Groups.{is_client_in, calls_left_in}
use Rattle.query_orders.specs.Nodes.{own_calls}
use Rattle.query_orders.proofs.Grouped.Lists.{mapped_more}
use Rattle.query_orders.proofs.groups.alone.alone.Goals as goal

pub loop-client-preserved : goal.loop-client-preserved
loop-client-preserved c =
    let made = c.args.made.now in
    let own = λ (client : ℕ). unwrap_or (slice_get (own_calls c.args.calls.now) client) [] in
    let k = c.loop-client.client in
    ap own_calls c.in_ok-push.ensures.items
    ∙ mapped_more (λ (v : Vec Call). v.items) (λ client. calls_left_in made (is_client_in c.args.groups.now c.args.group) client (own client)) c.loop-client.lone.items k c.in_ok-kept_calls.field-0
    c.loop-client.invariant (c.in_ok-kept_calls.ensures ∙ ap (λ (b : Bool). cond b (own k) (take (next_place made k) (own k))) c.is_in_group-is_in.ensures)
