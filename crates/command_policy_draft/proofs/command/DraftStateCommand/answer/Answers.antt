-- The policy trusts the live threads that the words name, in the state that the kernel shows.
use Rattle.std.proofs.Common.{◌≡◌, ℕ, List, [], ap, subst, ◌∙◌}
use Rattle.std.specs.Prelude.{IfOk}
use Rattle.kernel_abstract.specs.Shown.{Shown}
use Rattle.setup_report.specs.State.{threads}
use Rattle.setup_values.specs.Names.{names_view}
use Rattle.setup_report.specs.declared.meanings.meant.ObjectKind.TheVariants.{Thread}
use Rattle.command_parts.specs.Threads.{objects_named, trusted_by}
use Rattle.query_parts.proofs.Results.{where_ok}
use Rattle.command_policy_draft.specs.Drafts.{IsDraftOf, IsDraftText, live_of, silent_of, messages_of}
use Rattle.command_policy_draft.proofs.command.DraftStateCommand.answer.Goals as goal

pub returns : goal.returns
returns g c =
    let p = g.P.Profile.profile in
    let setup = c.args.behind.now.setup.now in
    let made = c.args.behind.now.made in
    let after = c.args.self.now.after in
    let v = c.args.kernel.now in
    let trust = trusted_by c.args.self.now.trust in
    let names = names_view c.args.behind.now.names.now in
    let without = objects_named Thread p names setup.plan v trust.without in
    let named = objects_named Thread p names setup.plan v trust.messages in
    let now : c.as_slice-live.result.now ≡ threads p v = c.as_slice-live.ensures.value ∙ (c.in_ok-live.ensures ∙ c.in_ok-rows.ensures.threads) in
    let silent : c.in_ok-silent.silent.items ≡ silent_of trust p names setup v =
    c.in_ok-silent.ensures
    ∙ (ap (λ (some : List ℕ). live_of some c.as_slice-live.result.now []) (c.as_slice.ensures.value ∙ c.in_ok-without.ensures)
    ∙ ap (λ (live : List ℕ). live_of without live []) now) in
    let messages : c.in_ok-messages-2.messages.items ≡ messages_of trust p names setup v =
    c.in_ok-messages-2.ensures
    ∙ (ap (λ (some : List ℕ). live_of some c.as_slice-live.result.now c.as_slice-3.result.now) (c.as_slice-2.ensures.value ∙ c.in_ok-messages.ensures)
    ∙ (ap (λ (live : List ℕ). live_of named live c.as_slice-3.result.now) now
    ∙ ap (λ (others : List ℕ). live_of named (threads p v) others) (c.as_slice-3.ensures.value ∙ silent))) in
    subst (λ (s : Shown). IfOk c.answer_by.result (λ answer. IsDraftOf trust after p names setup made s answer.text.items answer.verdict)) c.requires.shows
    (where_ok _ _
    (λ answer told.
    subst (λ (ts : List ℕ). IsDraftText p names setup after made ts (messages_of trust p names setup v) answer.text.items answer.verdict)
    (c.as_slice-7.ensures.value ∙ silent)
    (subst (λ (ts : List ℕ). IsDraftText p names setup after made c.as_slice-7.result.now ts answer.text.items answer.verdict)
    (c.as_slice-8.ensures.value ∙ messages) told))
    c.answer_by.result c.answer_by.ensures)
