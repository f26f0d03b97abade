use Rattle.std.proofs.Common.{rules, ◌≡◌, ◌∙◌, ap, sym}
use Rattle.left_right.specs.Sides.{view}
use Rattle.kernel_shared.specs.Laws.{Lawful}
use Rattle.kernel_shared.specs.Readers.{seen_of}
use Rattle.kernel_shared.specs.ClientStates.{ClientState}
use Rattle.kernel_shared.proofs.Keeping.{turns, starts_refl, starts_by}
use Rattle.kernel_shared.proofs.Clients.{client_same, same_state, begins_other}
use Rattle.kernel_shared.proofs.client.Client.begins.Goals as goal

pub enter_as-requires : goal.enter_as-requires
enter_as-requires g c x views h at = turns _ _ views _ _ (starts_refl _) h at

pub invariant_of-self-in-Ok : goal.invariant_of-self-in-Ok
invariant_of-self-in-Ok g c =
    let i = c.self.inside in
    let sees = (rw c.in-Ok.is at c.enter_as.ensures).1 in
    let was : seen_of i.reader ≡ view c.in-Some.reader.place = ap seen_of (sym c.take.ensures.value ∙ c.in-Some.is) in
    let s = starts_by _ (view c.leave.result.place) _ (seen_of i.reader) c.leave.ensures.1 was sees.later in
    let is : view c.leave.result.place ≡ g.T.Absorb.state c.in-Ok.reading.part.value = c.leave.ensures.1 ∙ sees.is in
    let law : ∥ Lawful g.N.Naming.profile g.N.Naming.opening (view c.leave.result.place) ∥₁ = search rules in
    client_same g.N.Naming.profile g.N.Naming.opening i.id i.done i.share.parts i.share.amount i.seen i.stray (seen_of i.reader) (view c.leave.result.place) c.self.invariant s law

pub returns-in-Ok-clause-begins : goal.returns-in-Ok-clause-begins
returns-in-Ok-clause-begins g c so =
    let i = c.self.inside in
    let sees = (rw c.in-Ok.is at c.enter_as.ensures).1 in
    let was : seen_of i.reader ≡ view c.in-Some.reader.place = ap seen_of (sym c.take.ensures.value ∙ c.in-Some.is) in
    let s = starts_by _ (g.T.Absorb.state c.get-in-Ok.result.now) _ (seen_of i.reader) (ap g.T.Absorb.state c.get-in-Ok.ensures ∙ sym sees.is) was sees.later in
    begins_other i.seen (seen_of i.reader) (g.T.Absorb.state c.get-in-Ok.result.now) (g.T.Absorb.state c.args.book.now) c.args.self.now.front (ap (λ (t : ClientState). t.front) c.self.view_is) s c.self.invariant.within (c.alike-same.ensures so)

pub returns-in-Ok-clause-same : goal.returns-in-Ok-clause-same
returns-in-Ok-clause-same g c =
    let i = c.self.inside in
    let sees = (rw c.in-Ok.is at c.enter_as.ensures).1 in
    let was : seen_of i.reader ≡ view c.in-Some.reader.place = ap seen_of (sym c.take.ensures.value ∙ c.in-Some.is) in
    let s = starts_by _ (view c.leave.result.place) _ (seen_of i.reader) c.leave.ensures.1 was sees.later in
    same_state i.id i.done i.seen i.stray (seen_of i.reader) (view c.leave.result.place) c.args.self.now c.self.view_is s c.self.invariant.within c.self.invariant.fits
