use Rattle.std.proofs.Common.{rules, ◌≡◌, ℕ, List, ◌-◌, drop, length, ap, ap₂, subst, sym, ◌∙◌}
use Rattle.std.proofs.lemmas.List.{length-map}
use Rattle.kernel_abstract.specs.Reached.{IsReached}
use Rattle.kernel_abstract.specs.State.{State, shown}
use Rattle.kernel_abstract.specs.Boot.{boot}
use Rattle.kernel_abstract.proofs.Reached.Runs.{reached_after}
use Rattle.setup_format.specs.Views.{CallView}
use Rattle.kernel_abstract.specs.Shown.{Shown}
use Rattle.kernel_shared.specs.declared.entry.Entry.{Entry}
use Rattle.setup_values.specs.Names.{names_view}
use Rattle.setup_report.specs.Naming.{naming_view, report_texts}
use Rattle.setup_read.specs.SharedReport.{shared_report_told}
use Rattle.command_check.specs.Notes.{noted}
use Rattle.command_check.specs.Program.{verdict_on}
use Rattle.setup_report.proofs.Runs.{boot_reached}
use Rattle.command_threads.specs.Private.Begun.{IsSharedFrom, calls_in, state_begun}
use Rattle.command_threads.specs.SharedRuns.{count_first, first_calls, unmet_in}
use Rattle.command_threads.proofs.Reports.{book_shows}
use Rattle.command_threads.proofs.Wholes.{shared_run_is, state_is, whole_is}
use Rattle.command_threads.proofs.threads.report_on.Goals as goal

pub returns-clause-told : goal.returns-clause-told
returns-clause-told g c =
    let p = g.P.Profile.profile in
    let ends = g.G.Gate.ends in
    let setup = c.args.read.now.setup in
    let by_name = c.args.by_name in
    let names = names_view c.args.read.now.names.items in
    let first = c.args.first in
    let replies = c.args.begun.replies in
    let b = c.in_ok-book.book in
    let later = b.history.items in
    let history = c.in-Ok.history in
    let h = history.items in
    let start = state_begun p setup first in
    let calls = ap length c.calls.ensures ∙ length-map setup.calls (λ (v : CallView). v.call) in
    let counted : length h ≡ history.len = search rules in
    let long : length replies.items ≡ replies.len = search rules in
    let made : c.len.result ≡ count_first first setup = c.len.ensures ∙ c.requires.many in
    let whole = whole_is setup first replies.items c.as_slice.result.now later c.as_slice-later.result.now h c.as_slice.ensures.value c.as_slice-later.ensures.value (long ∙ c.requires.many) c.in-Ok.ensures in
    let from : IsSharedFrom ends p start (drop (count_first first setup) setup.calls) (setup.limit - count_first first setup) later =
    subst (λ n. IsSharedFrom ends p start (drop n setup.calls) (setup.limit - count_first first setup) later) made
    (subst (λ n. IsSharedFrom ends p start (drop c.len.result setup.calls) n later) c.requires.limit
    (subst (λ (A : State). IsSharedFrom ends p A (drop c.len.result setup.calls) g.N.Naming.limit later) c.requires.start c.in_ok-book.ensures.run)) in
    let reached : IsReached p start = reached_after p (boot p setup.plan) (calls_in (first_calls first setup)) (boot_reached p setup.plan c.requires.plan) in
    let text : Shown → List ℕ = λ v. shared_report_told (report_texts by_name p names setup.plan v) p (length setup.calls) h v in
    let texts : naming_view c.in-Ok-in_report.naming ≡ report_texts by_name p names setup.plan b.kernel =
    c.in-Ok-in_report.ensures ∙ (λ i. report_texts by_name p (names_view (c.as_slice-names.ensures.value i)) (c.plan.ensures.plan i) b.kernel) in
    let told : shared_report_told (naming_view c.in-Ok-in_report.naming) p (length setup.calls) c.as_slice-2.result.now b.kernel ≡ text b.kernel =
    λ i. shared_report_told (texts i) p (length setup.calls) (c.as_slice-2.ensures.value i) b.kernel in
    let shows = book_shows p start g.N.Naming.opening b.kernel later text reached c.requires.opening b.stands in
    let state = ap (λ (A : State). text (shown A)) (state_is first setup replies.items later h whole p) in
    let l = c.len-2.ensures in (
      h,
      shared_run_is first setup replies.items later h whole ends p c.requires.begun.answered from,
      (
        ap (λ v. v.items) c.with_unmet.ensures.text ∙ (c.in-Ok-history_report.ensures ∙ (told ∙ (shows ∙ state))),
        c.with_unmet.ensures.verdict ∙ c.verdict_on-verdict.ensures ∙ ap₂ verdict_on (l ∙ sym counted) calls,
      ),
      ap (λ v. noted v.items) c.with_unmet.ensures.unmet ∙ (c.in-Ok-unmet_calls.ensures ∙ ap (unmet_in setup) c.as_slice-3.ensures.value),
    )

pub returns-clause-made : goal.returns-clause-made
returns-clause-made g c = let t = returns-clause-told g c in (t.0, t.1, t.2)
