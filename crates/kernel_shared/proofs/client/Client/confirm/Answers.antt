use Rattle.std.proofs.Common.{rules, ◌≡◌, Some, slice_get, ◌∙◌, ap, sym}
use Rattle.left_right.specs.Sides.{view}
use Rattle.kernel_shared.specs.Laws.{Lawful, client_entry}
use Rattle.kernel_shared.specs.Readers.{seen_of}
use Rattle.kernel_shared.specs.ClientStates.{ClientState}
use Rattle.kernel_shared.proofs.Keeping.{turns, starts_refl, starts_by}
use Rattle.kernel_shared.proofs.Clients.{client_finds, found_state}
use Rattle.kernel_shared.proofs.client.Client.confirm.Goals as goal

pub enter_as-requires : goal.enter_as-requires
enter_as-requires g c x views h at = turns _ _ views _ _ (starts_refl _) h at

pub invariant_of-self-in-Ok : goal.invariant_of-self-in-Ok
invariant_of-self-in-Ok g c =
    let i = c.self.inside in
    let sees = (rw c.in-Ok.is at c.enter_as.ensures).1 in
    let was : seen_of i.reader ≡ view c.in-Some.reader.place = ap seen_of (sym c.take.ensures.value ∙ c.in-Some.is) in
    let s = starts_by _ (view c.leave.result.place) _ (seen_of i.reader) c.leave.ensures.1 was sees.later in
    let is : view c.leave.result.place ≡ g.T.Absorb.state c.in-Ok.reading.part.value = c.leave.ensures.1 ∙ sees.is in
    let law : ∥ Lawful g.N.Naming.profile g.N.Naming.opening (view c.leave.result.place) ∥₁ = search rules in
    let at : slice_get (view c.leave.result.place) i.seen ≡ Some (client_entry i.id i.done c.args.call c.in-Some-reply.reply) = search rules in
    client_finds g.N.Naming.profile g.N.Naming.opening i.id i.done i.share.parts i.share.amount i.seen i.stray (seen_of i.reader) (view c.leave.result.place) c.args.call c.in-Some-reply.reply c.self.invariant s law _ (ap (λ (t : ClientState). t.stray) c.self.view_is ∙ c.requires) at

pub returns-in-Some-reply-clause-some : goal.returns-in-Some-reply-clause-some
returns-in-Some-reply-clause-some g c =
    let i = c.self.inside in
    let sees = (rw c.in-Ok.is at c.enter_as.ensures).1 in
    let was : seen_of i.reader ≡ view c.in-Some.reader.place = ap seen_of (sym c.take.ensures.value ∙ c.in-Some.is) in
    let s = starts_by _ (view c.leave.result.place) _ (seen_of i.reader) c.leave.ensures.1 was sees.later in
    let is : view c.leave.result.place ≡ g.T.Absorb.state c.in-Ok.reading.part.value = c.leave.ensures.1 ∙ sees.is in
    let at : slice_get (view c.leave.result.place) i.seen ≡ Some (client_entry i.id i.done c.args.call c.in-Some-reply.reply) = search rules in
    found_state i.id i.done i.seen i.stray (seen_of i.reader) (view c.leave.result.place) c.args.call c.in-Some-reply.reply c.args.self.now c.self.view_is s c.self.invariant.within at
