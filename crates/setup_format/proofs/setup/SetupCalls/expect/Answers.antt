use Rattle.std.proofs.Common.{◌<◌, length, rules, Some, option_map, string_bytes, sym, ap, ◌∙◌}
use Rattle.setup_format.specs.declared.setup.Caller.{Caller}
use Rattle.setup_format.proofs.Grammar.Beside.{expect_seen, place_seen}
use Rattle.setup_format.proofs.setup.SetupCalls.expect.Goals as goal

pub index-requires : goal.index-requires
index-requires c =
    let within : c.args.i < length c.self.inside.callers.items = place_seen c.self.inside.calls.items c.self.inside.callers.items c.args.i c.args.self.now c.self.invariant c.self.view_is c.requires in
    search rules

pub returns-in-None : goal.returns-in-None
returns-in-None c =
    let calls = c.self.inside.calls.items in
    let callers = c.self.inside.callers.items in
    rw (← c.self.view_is)
    (expect_seen calls callers c.args.i c.index.result.now c.self.invariant (place_seen calls callers c.args.i c.args.self.now c.self.invariant c.self.view_is c.requires)
    ∙ ap (λ (k : Caller). Some (option_map string_bytes k.expect)) (sym c.index.ensures)
    ∙ ap (λ o. Some (option_map string_bytes o)) c.in-None.is)

pub returns-in-Some : goal.returns-in-Some
returns-in-Some c =
    let calls = c.self.inside.calls.items in
    let callers = c.self.inside.callers.items in
    rw (← c.self.view_is, c.as_str.ensures.value)
    (expect_seen calls callers c.args.i c.index.result.now c.self.invariant (place_seen calls callers c.args.i c.args.self.now c.self.invariant c.self.view_is c.requires)
    ∙ ap (λ (k : Caller). Some (option_map string_bytes k.expect)) (sym c.index.ensures)
    ∙ ap (λ o. Some (option_map string_bytes o)) c.in-Some.is)
