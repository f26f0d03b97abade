-- What is answered of the kernel is answered of the state that it shows.
use Rattle.std.proofs.Common.{◌≡◌, ℕ, subst, ◌∙◌}
use Rattle.std.specs.Prelude.{IfOk}
use Rattle.kernel_abstract.specs.Shown.{Shown}
use Rattle.kernel_abstract.specs.State.{shown}
use Rattle.setup_values.specs.Names.{names_view}
use Rattle.setup_report.specs.Behind.{state_behind, refused_behind}
use Rattle.setup_report.specs.Naming.{Texts, naming_view, texts_of}
use Rattle.command_parts.specs.Threads.{trusted_by}
use Rattle.command_parts.specs.Told.{IsEverOf}
use Rattle.command_parts.proofs.command.EverStateCommand.answer.Goals as goal

pub returns : goal.returns
returns g c =
    let p = g.P.Profile.profile in
    let setup = c.args.behind.now.setup.now in
    let made = c.args.behind.now.made in
    let asked = trusted_by c.args.self.now.trust in
    let v = shown (state_behind p setup made) in
    let refused = refused_behind p setup made in
    let named = c.args.self.now.names in
    let names = names_view c.args.behind.now.names.now in
    let texts : naming_view c.in_ok-naming.naming ≡ texts_of named p names setup.plan v =
    c.in_ok-naming.ensures ∙ (λ i. texts_of named p names (c.plan.ensures.plan i) (c.requires.shows i)) in
    subst (λ (t : Texts). IfOk c.answer_of.result (λ answer. IsEverOf asked t p names setup made refused v answer.text.items answer.verdict)) texts
    (subst (λ (n : ℕ). IfOk c.answer_of.result (λ answer. IsEverOf asked (naming_view c.in_ok-naming.naming) p names setup made n v answer.text.items answer.verdict)) c.requires.refused
    (subst (λ (s : Shown). IfOk c.answer_of.result (λ answer. IsEverOf asked (naming_view c.in_ok-naming.naming) p names setup made c.args.behind.now.refused s answer.text.items answer.verdict)) c.requires.shows
    c.answer_of.ensures))
