use Rattle.std.proofs.Common.{◌≡◌, ◌++◌, inl, inr, string_bytes, sym, ap, subst, ◌∙◌, append-nil}
use Rattle.kernel_abstract.specs.declared.call.Reply.{Reply}
use Rattle.setup_report.specs.Naming.{naming_view}
use Rattle.command_trace.specs.Told.{told_lines}
use Rattle.command_trace.specs.Views.{FollowsReply}
use Rattle.command_trace.proofs.Views.{nothing_differs}
use Rattle.command_trace.proofs.Kept.{same_forest}
use Rattle.command_trace.proofs.lines.told.tell_call.Goals as goal

pub tell_messages-requires : goal.tell_messages-requires
tell_messages-requires g c =
    let w = c.args.kernel.now in
    let follows = λ (r : Reply). FollowsReply r c.requires.0 w in (
      c.requires.0,
      c.requires.1,
      same_forest c.requires.0 w (elim c.in-Waiting.is [
        | inl is ↦ subst follows is c.requires.2
        | inr x ↦ subst follows x.5 c.requires.2
      ]),
    )

pub returns-in-Dropped-clause-text : goal.returns-in-Dropped-clause-text
returns-in-Dropped-clause-text g c = λ v told after.
    let texts = naming_view c.args.naming.now in
    let p = g.P.Profile.profile in
    let w = c.args.kernel.now in
    let follows = λ (r : Reply). FollowsReply r v w in
    let same : w ≡ v = elim c.in-Dropped.is [
      | inl is ↦ subst follows is after
      | inr x ↦ elim x [
        | inl is ↦ subst follows is after
        | inr y ↦ subst follows y.1 after
      ]
    ] in
    sym (ap (λ l. string_bytes c.args.out.now ++ l) (nothing_differs (told_lines texts p v) (told_lines texts p w) (ap (told_lines texts p) (sym same))) ∙ append-nil (string_bytes c.args.out.now))
