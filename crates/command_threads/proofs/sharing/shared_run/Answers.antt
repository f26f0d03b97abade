use Rattle.std.proofs.Common.{rules, arith, ◌≡◌, ◌<◌, ◌≤◌, All, drop, length, slice_get, ap, sym, ◌∙◌}
use Rattle.std.proofs.lemmas.List.Elements.{All-drop}
use Rattle.setup_format.specs.Views.{CallView}
use Rattle.kernel_shared.specs.declared.driving.Driven.{Driven}
use Rattle.command_threads.proofs.Reports.{ok_both, run_settled}
use Rattle.command_threads.proofs.sharing.shared_run.Goals as goal

pub start-requires-clause-begins : goal.start-requires-clause-begins
start-requires-clause-begins g c = ∣ record { reached = c.requires.reached; shows = c.requires.shows } ∣₁

pub returns-in-Ok-drive-clause-run : goal.returns-in-Ok-drive-clause-run
returns-in-Ok-drive-clause-run g c =
    let setup = c.args.setup.now in
    let olds = c.in-Ok-start.started.1.items in
    let lists = c.as_slice.result.now in
    let all = c.in-Ok-drive.all.items in
    let calls = drop c.args.made setup.calls in
    let a : length lists ≡ length olds = search rules in
    let b : length all ≡ length olds = search rules in
    let limit = g.N.Naming.limit in
    let n : length olds ≡ setup.clients = search rules in
    let few : All (λ (v : CallView). v.client < setup.clients) calls = All-drop (λ (v : CallView). v.client < setup.clients) c.args.made setup.calls c.clients.ensures.bounds.each_client in
    ok_both _ _ _ c.settle_after.result c.settle_after.ensures.settled c.settle_after.ensures.finished
    (λ book settled finished.
    let counted : length book.history.items ≡ book.history.len = search rules in
    let bound : book.history.len ≤ book.limit = book.short in
    let limited : book.limit ≡ limit = book.limited in
    let short : length book.history.items ≤ limit = omega arith in
    run_settled g.G.Gate.ends g.P.Profile.profile g.N.Naming.start calls g.N.Naming.opening limit setup.clients (λ (d : Driven _ _). d.client) (λ (d : Driven _ _). d.made) (λ (d : Driven _ _). d.stopped) olds lists all book.history.items
    c.requires.reached c.requires.shows few n a b
    c.in-Ok-start.ensures.each
    (λ i l at. c.in-Ok.ensures.each i l (ap (λ ls. slice_get ls i) (sym c.as_slice.ensures.value) ∙ at))
    c.in-Ok-drive.ensures.each
    finished
    book.lawful short settled)
