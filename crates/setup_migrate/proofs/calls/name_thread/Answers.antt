use Rattle.std.proofs.Common.{◌≡◌, codes, sym, ap, ◌∙◌}
use Rattle.toml.specs.Data.{string}
use Rattle.toml.specs.View.{view, members_view}
use Rattle.toml.specs.declared.value.Value.{String}
use Rattle.toml.proofs.Views.{view-String}
use Rattle.setup_migrate.specs.Migration.{named_thread, thread_or}
use Rattle.setup_migrate.proofs.Parts.{view_changed, view_unchanged}
use Rattle.setup_migrate.proofs.calls.name_thread.Goals as goal

pub returns-in_ok-format : goal.returns-in_ok-format
returns-in_ok-format g c =
    let p = g.P.Profile.profile in
    let plan = c.args.plan.now in
    let thread = c.in-Some.thread.now in
    let text = c.in_ok-format.field-0 in
    let named : view (String text) ≡ named_thread p plan (view thread) =
    view-String text ∙ (ap string c.in_ok-format.ensures.ok ∙ ap (thread_or (view thread)) (sym c.in-Some-boot_thread.is ∙ c.boot_thread.ensures)) in
    ap members_view (c.get_mut.follows.holds (String text)).0 ∙ view_changed (codes "thread") (named_thread p plan) c.args.call.now.entries thread (String text) (sym c.in-Some.ensures.value) named

pub returns-in_default-boot_thread : goal.returns-in_default-boot_thread
returns-in_default-boot_thread g c =
    let p = g.P.Profile.profile in
    let plan = c.args.plan.now in
    let thread = c.in-Some.thread.now in
    ap members_view (c.get_mut.follows.holds thread).0
    ∙ view_changed (codes "thread") (named_thread p plan) c.args.call.now.entries thread thread (sym c.in-Some.ensures.value) (ap (thread_or (view thread)) (sym c.in_default-boot_thread.is ∙ c.boot_thread.ensures))

pub returns-in_default : goal.returns-in_default
returns-in_default g c =
    ap (λ m. members_view m.entries) (c.get_mut.follows.holds-at-none) ∙ view_unchanged (codes "thread") (named_thread g.P.Profile.profile c.args.plan.now) c.args.call.now.entries (sym c.in_default.ensures.value)
