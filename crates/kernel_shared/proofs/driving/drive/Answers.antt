use Rattle.std.proofs.Common.{rules, ◌≡◌, Vec, Global, length}
use Rattle.kernel_abstract.specs.declared.call.Call.{Call}
use Rattle.kernel_shared.specs.ClientStates.{ClientState}
use Rattle.kernel_shared.specs.Driving.{IsDriven, IsThreadResult, IsFinish}
use Rattle.kernel_shared.specs.declared.driving.ThreadResult.{ThreadResult}
use Rattle.kernel_shared.specs.declared.driving.Driven.{Driven}
use Rattle.kernel_shared.proofs.Drives.{ok_map, through, finished_run}
use Rattle.kernel_shared.proofs.driving.drive.Goals as goal

pub returns-clause-each : goal.returns-clause-each
returns-clause-each g c =
    let limit = g.N.Naming.limit in
    let len : length c.in_ok-all.all.items ≡ length c.args.clients.items = search rules in
    ok_map _ _ c.finish_all.result c.finish_all.ensures.each
    (λ v each.
    through
    (λ (x : ClientState) (y : Vec Call Global) (r : ThreadResult g.row.N.Denot g.row.T.Denot). IsThreadResult g.G.Gate.ends limit x y.items r.client r.made r.end)
    (λ (r : ThreadResult g.row.N.Denot g.row.T.Denot) (d : Driven g.row.N.Denot g.row.T.Denot). IsFinish g.G.Gate.ends limit r.client r.made r.end d.client d.made d.stopped)
    (λ (x : ClientState) (y : Vec Call Global) (d : Driven g.row.N.Denot g.row.T.Denot). IsDriven g.G.Gate.ends limit x y.items d.client d.made d.stopped)
    c.args.clients.items c.args.lists.now c.in_ok-all.all.items v.items len c.in_ok-all.ensures.1.1 each
    (λ x y r d ran fin. finished_run g.G.Gate.ends limit x y.items r.client d.client r.made d.made r.end d.stopped ran fin))
