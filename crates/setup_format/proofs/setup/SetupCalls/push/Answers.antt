use Rattle.std.proofs.Common.{◌≡◌, [], ◌∷◌, ◌++◌, ap, ◌∙◌}
use Rattle.setup_format.proofs.Grammar.Beside.{call_views-push}
use Rattle.setup_format.proofs.setup.SetupCalls.push.Goals as goal

pub returns : goal.returns
returns c =
    let call = c.args.call in
    let caller = c.args.caller in
    let calls : c.push_reserved.new.self.items ≡ c.self.inside.calls.items ++ call ∷ [] =
    c.push_reserved.ensures.items ∙ ap (λ l. l ++ call ∷ []) c.reserve.ensures.items in
    let callers : c.push_reserved-2.new.self.items ≡ c.self.inside.callers.items ++ caller ∷ [] =
    c.push_reserved-2.ensures.items ∙ ap (λ l. l ++ caller ∷ []) c.reserve-2.ensures.items in
    rw (calls, callers, ← c.self.view_is) (call_views-push c.self.inside.calls.items c.self.inside.callers.items call caller c.self.invariant)
