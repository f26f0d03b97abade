use Rattle.std.proofs.Common.{◌<◌, length, rules, Some, sym, ap, ◌∙◌}
use Rattle.setup_format.specs.declared.setup.Caller.{Caller}
use Rattle.setup_format.proofs.Grammar.Beside.{client_seen, place_seen}
use Rattle.setup_format.proofs.setup.SetupCalls.client_of.Goals as goal

pub index-requires : goal.index-requires
index-requires c =
    let within : c.args.i < length c.self.inside.callers.items = place_seen c.self.inside.calls.items c.self.inside.callers.items c.args.i c.args.self.now c.self.invariant c.self.view_is c.requires in
    search rules

pub returns : goal.returns
returns c =
    let calls = c.self.inside.calls.items in
    let callers = c.self.inside.callers.items in
    rw (← c.self.view_is)
    (client_seen calls callers c.args.i c.index.result.now c.self.invariant (place_seen calls callers c.args.i c.args.self.now c.self.invariant c.self.view_is c.requires)
    ∙ ap (λ (k : Caller). Some k.client) (sym c.index.ensures))
