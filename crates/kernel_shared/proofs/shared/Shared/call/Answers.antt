use Rattle.std.proofs.Common.{rules, ◌≡◌, ◌++◌, List, Some, None, ap, sym, ◌∙◌, subst}
use Rattle.kernel_shared.specs.declared.entry.Entry.{Entry}
use Rattle.kernel_shared.specs.ClientStates.{ClientState, lost, holds_not, client_calls_made, lost_calls}
use Rattle.kernel_shared.proofs.Answered.{not_held, unmade, finished}
use Rattle.kernel_shared.proofs.shared.Shared.call.Goals as goal

pub returns-in-Some-clause-told : goal.returns-in-Some-clause-told
returns-in-Some-clause-told g c =
    let e = c.in-Some.ensures in (e.some.0, e.some.1, not_held g.N.Naming.profile g.N.Naming.opening _ _ _ e.lawful e.just)

pub returns-in-Err-clause-unmade : goal.returns-in-Err-clause-unmade
returns-in-Err-clause-unmade g c none =
    let e = c.write-written.ensures in
    unmade g.N.Naming.profile g.N.Naming.opening _ _ e.later c.assert_lawful-2.ensures.lawful c.assert_lawful.ensures.done e.same.0 e.same.1 none

pub returns-in-Some-reply-clause-answered : goal.returns-in-Some-reply-clause-answered
returns-in-Some-reply-clause-answered g c =
    let e = c.write-written.ensures in
    let none : c.args.client.now.stray ≡ None = search rules in
    (finished g.N.Naming.profile g.N.Naming.opening c.args.client.now c.write-written.new.client c.confirm-reply.new.self _ _ e.later e.same.0 e.same.1 c.in_default-written.ensures.ok.1 none c.assert_lawful.ensures.done c.in-Some-reply.ensures.some c.assert_lawful-3.ensures.lawful).0

pub returns-in-Some-reply-clause-made : goal.returns-in-Some-reply-clause-made
returns-in-Some-reply-clause-made g c =
    let e = c.write-written.ensures in
    let none : c.args.client.now.stray ≡ None = search rules in
    (finished g.N.Naming.profile g.N.Naming.opening c.args.client.now c.write-written.new.client c.confirm-reply.new.self _ _ e.later e.same.0 e.same.1 c.in_default-written.ensures.ok.1 none c.assert_lawful.ensures.done c.in-Some-reply.ensures.some c.assert_lawful-3.ensures.lawful).1

pub returns-in-None-clause-told : goal.returns-in-None-clause-told
returns-in-None-clause-told g c =
    let w = c.write-written.new.client in
    let s : c.confirm-reply.new.self ≡ w = c.in-None.ensures.none in
    let f : c.front.result ≡ w.front = c.front.ensures.front ∙ ap (λ (t : ClientState). t.front) s in
    let k = c.in_default-written.ensures.ok in
    let n : holds_not w.id w.done w.front = not_held g.N.Naming.profile g.N.Naming.opening w.id w.done w.front c.assert_lawful-2.ensures.lawful k.1 in (
      c.args.call,
      ap (λ (t : ClientState). t.stray) s ∙ (k.0 ∙ ap (λ h. Some (lost c.args.call h)) (sym f)),
      subst (λ (t : ClientState). holds_not t.id t.done c.front.result) (sym s) (subst (λ (h : List Entry). holds_not w.id w.done h) (sym f) n),
    )

pub returns-in-None-clause-unmade : goal.returns-in-None-clause-unmade
returns-in-None-clause-unmade g c none =
    let e = c.write-written.ensures in
    let w = c.write-written.new.client in
    let s : c.confirm-reply.new.self ≡ w = c.in-None.ensures.none in
    let u = unmade g.N.Naming.profile g.N.Naming.opening c.args.client.now w e.later c.assert_lawful-2.ensures.lawful c.assert_lawful.ensures.done e.same.0 e.same.1 none in
    subst (λ (t : ClientState). client_calls_made t ≡ client_calls_made c.args.client.now ++ lost_calls t.stray) (sym s) u
