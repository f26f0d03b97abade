use Rattle.std.proofs.Common.{◌≡◌, ◌++◌, string_bytes, refl, sym, ap, subst, ◌∙◌, append-nil}
use Rattle.kernel_abstract.specs.Decode.{checked_call}
use Rattle.kernel_abstract.specs.Shown.{Shown}
use Rattle.kernel_abstract.specs.State.{shown}
use Rattle.setup_report.specs.Naming.{naming_view}
use Rattle.command_trace.specs.Foreseen.{IsForeseen, IsKept}
use Rattle.command_trace.specs.Told.{told_lines}
use Rattle.command_trace.proofs.Derives.{derived_step, refused_stays}
use Rattle.command_trace.proofs.Steps.{follows}
use Rattle.command_trace.proofs.Views.{nothing_differs}
use Rattle.command_trace.proofs.lines.foreseen.tell_made.Goals as goal

pub add_derived-requires : goal.add_derived-requires
add_derived-requires g c =
    let texts = naming_view c.args.naming.now in
    let p = g.P.Profile.profile in
    let A = c.requires.0 in
    let call = c.requires.1 in
    let made = c.requires.2 in
    let seen = subst (IsForeseen texts p (shown A) (checked_call p (shown A) call)) c.in-Derived.is made.foreseen in
    (shown A, derived_step p A call c.args.reply c.args.kernel.now made.reached made.steps c.in-Derived.new.placement seen.derives c.in-Derived.new refl seen.live seen.original seen.next)

pub tell_call-requires : goal.tell_call-requires
tell_call-requires g c =
    let texts = naming_view c.args.naming.now in
    let p = g.P.Profile.profile in
    let A = c.requires.0 in
    let call = c.requires.1 in
    let made = c.requires.2 in
    (shown A, subst (IsForeseen texts p (shown A) (checked_call p (shown A) call)) c.in-Any.is made.foreseen, follows p A call c.args.reply (shown A) c.args.kernel.now refl made.steps)

pub returns-in-Refused-clause-text : goal.returns-in-Refused-clause-text
returns-in-Refused-clause-text g c = λ A call made.
    let texts = naming_view c.args.naming.now in
    let p = g.P.Profile.profile in
    let w = c.args.kernel.now in
    let out = string_bytes c.args.out.now in
    let seen = subst (IsForeseen texts p (shown A) (checked_call p (shown A) call)) c.in-Refused.is made.foreseen in
    let same : w ≡ shown A = refused_stays p A call c.args.reply w made.reached made.steps seen.0.0 seen.0.1 in
    sym (ap (λ l. out ++ l) (nothing_differs (told_lines texts p (shown A)) (told_lines texts p w) (ap (told_lines texts p) (sym same))) ∙ append-nil out)

pub returns-in-Refused-clause-told : goal.returns-in-Refused-clause-told
returns-in-Refused-clause-told g c =
    let texts = naming_view c.args.naming.now in
    let p = g.P.Profile.profile in
    let A = c.requires.0 in
    let call = c.requires.1 in
    let made = c.requires.2 in
    let w = c.args.kernel.now in
    let seen = subst (IsForeseen texts p (shown A) (checked_call p (shown A) call)) c.in-Refused.is made.foreseen in
    let same : w ≡ shown A = refused_stays p A call c.args.reply w made.reached made.steps seen.0.0 seen.0.1 in
    subst (λ (u : Shown). IsKept texts p u c.in-Refused.told) (sym same) seen.1

pub returns-in_ok-add_derived-in-Derived-clause-text : goal.returns-in_ok-add_derived-in-Derived-clause-text
returns-in_ok-add_derived-in-Derived-clause-text g c = λ A call made.
    let texts = naming_view c.args.naming.now in
    let p = g.P.Profile.profile in
    let seen = subst (IsForeseen texts p (shown A) (checked_call p (shown A) call)) c.in-Derived.is made.foreseen in
    c.in_ok-add_derived-in-Derived.ensures (shown A)
    (derived_step p A call c.args.reply c.args.kernel.now made.reached made.steps c.in-Derived.new.placement seen.derives c.in-Derived.new refl seen.live seen.original seen.next)

pub returns-in_ok-told-in-Any-clause-text : goal.returns-in_ok-told-in-Any-clause-text
returns-in_ok-told-in-Any-clause-text g c = λ A call made.
    let texts = naming_view c.args.naming.now in
    let p = g.P.Profile.profile in
    c.in_ok-told-in-Any.ensures.text (shown A) (subst (IsForeseen texts p (shown A) (checked_call p (shown A) call)) c.in-Any.is made.foreseen)
    (follows p A call c.args.reply (shown A) c.args.kernel.now refl made.steps)
