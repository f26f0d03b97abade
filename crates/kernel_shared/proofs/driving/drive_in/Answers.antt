use Rattle.std.proofs.Common.{rules, ◌≡◌, Vec, Global, subst}
use Rattle.kernel_abstract.specs.declared.call.Call.{Call}
use Rattle.kernel_shared.specs.ClientStates.{ClientState}
use Rattle.kernel_shared.specs.Driving.{IsThreadResult}
use Rattle.kernel_shared.specs.declared.driving.Owed.{Owed}
use Rattle.kernel_shared.proofs.Threes.{kept_three}
use Rattle.kernel_shared.proofs.driving.drive_in.Goals as goal

pub returns-in-Ok-clause-each : goal.returns-in-Ok-clause-each
returns-in-Ok-clause-each g c =
    kept_three _ (λ (x : ClientState) (y : Vec Call Global) (p : Owed g.row.N.Denot g.row.T.Denot g.row.G.Denot). (p.client.value ≡ x) × (p.calls.value ≡ y)) _ _ _ _ _ _ (search rules) (search rules) c.in-Ok.ensures.each c.in_ok-handles.ensures.each
    (λ x y p r have kept.
    subst (λ (t : ClientState). IsThreadResult g.G.Gate.ends g.N.Naming.limit t y.items r.client r.made r.end) have.0 (subst (λ (v : Vec Call Global). IsThreadResult g.G.Gate.ends g.N.Naming.limit p.client.value v.items r.client r.made r.end) have.1 kept))
