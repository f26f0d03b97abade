use Rattle.std.proofs.Common.{rules, ◌≡◌, List, sym, subst}
use Rattle.cap_core.specs.declared.profile.ProfileName.{ProfileName}
use Rattle.kernel_forest.specs.Entries.{cap_at}
use Rattle.kernel_abstract.specs.Shown.{Shown, state_at, inbox_at}
use Rattle.kernel_shared.specs.declared.entry.Entry.{Entry}
use Rattle.kernel_shared.specs.declared.query.Query.{Query}
use Rattle.kernel_shared.specs.declared.query.Query.TheVariants as q
use Rattle.kernel_shared.specs.declared.query.Answer.TheVariants as a
use Rattle.kernel_shared.specs.Answers.{IsAnswer}
use Rattle.kernel_abstract.specs.Waiting.{thread_waiting}
use Rattle.kernel_shared.proofs.Shows.{read_is, state_set, inbox_set, cap_set, thread_set}
use Rattle.kernel_shared.proofs.book_copy.BookCopyHistoryCopy.answer.Goals as goal

pub returns-in-State : goal.returns-in-State
returns-in-State g c =
    let b = c.self.inside.book in
    let answer = a.State c.thread_state.result in
    let t : c.thread_state.result ≡ state_at b.kernel c.in-State.tcb = search rules in
    subst (λ (u : Query). IsAnswer g.N.Naming.profile g.N.Naming.opening c.args.self.now u answer) (sym c.in-State.is)
    (subst (λ (p : ProfileName). IsAnswer p g.N.Naming.opening c.args.self.now (q.State c.in-State.tcb) answer) (sym c.self.invariant.1)
    (subst (λ (h : List Entry). IsAnswer g.P.Profile.profile g.N.Naming.opening h (q.State c.in-State.tcb) answer) c.self.view_is
    (read_is state_set (λ (v : Shown). state_at v c.in-State.tcb) _ _ b.kernel _ _ b.stands t)))

pub returns-in-InboxOf : goal.returns-in-InboxOf
returns-in-InboxOf g c =
    let b = c.self.inside.book in
    let answer = a.InboxOf c.inbox.result in
    let t : c.inbox.result ≡ inbox_at b.kernel c.in-InboxOf.tcb = search rules in
    subst (λ (u : Query). IsAnswer g.N.Naming.profile g.N.Naming.opening c.args.self.now u answer) (sym c.in-InboxOf.is)
    (subst (λ (p : ProfileName). IsAnswer p g.N.Naming.opening c.args.self.now (q.InboxOf c.in-InboxOf.tcb) answer) (sym c.self.invariant.1)
    (subst (λ (h : List Entry). IsAnswer g.P.Profile.profile g.N.Naming.opening h (q.InboxOf c.in-InboxOf.tcb) answer) c.self.view_is
    (read_is inbox_set (λ (v : Shown). inbox_at v c.in-InboxOf.tcb) _ _ b.kernel _ _ b.stands t)))

pub returns-in-CapAt : goal.returns-in-CapAt
returns-in-CapAt g c =
    let b = c.self.inside.book in
    let answer = a.CapAt c.cap_at.result in
    let t : c.cap_at.result ≡ cap_at b.kernel.derivations c.in-CapAt.slot = search rules in
    subst (λ (u : Query). IsAnswer g.N.Naming.profile g.N.Naming.opening c.args.self.now u answer) (sym c.in-CapAt.is)
    (subst (λ (p : ProfileName). IsAnswer p g.N.Naming.opening c.args.self.now (q.CapAt c.in-CapAt.slot) answer) (sym c.self.invariant.1)
    (subst (λ (h : List Entry). IsAnswer g.P.Profile.profile g.N.Naming.opening h (q.CapAt c.in-CapAt.slot) answer) c.self.view_is
    (read_is cap_set (λ (v : Shown). cap_at v.derivations c.in-CapAt.slot) _ _ b.kernel _ _ b.stands t)))

pub returns-in-WaitingAt : goal.returns-in-WaitingAt
returns-in-WaitingAt g c =
    let b = c.self.inside.book in
    let query = q.WaitingAt c.in-WaitingAt.endpoint c.in-WaitingAt.place in
    let answer = a.WaitingAt c.waiting.result in
    let t : c.waiting.result ≡ thread_waiting b.kernel c.in-WaitingAt.endpoint c.in-WaitingAt.place = search rules in
    subst (λ (u : Query). IsAnswer g.N.Naming.profile g.N.Naming.opening c.args.self.now u answer) (sym c.in-WaitingAt.is)
    (subst (λ (p : ProfileName). IsAnswer p g.N.Naming.opening c.args.self.now query answer) (sym c.self.invariant.1)
    (subst (λ (h : List Entry). IsAnswer g.P.Profile.profile g.N.Naming.opening h query answer) c.self.view_is
    (read_is thread_set (λ (v : Shown). thread_waiting v c.in-WaitingAt.endpoint c.in-WaitingAt.place) _ _ b.kernel _ _ b.stands t)))
