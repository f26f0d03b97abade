-- The proof of `each_meant`: the goals that a search leaves open.
use Rattle.std.proofs.Common.{◌++◌, [], ◌∙◌, ap, List, ℕ, Bor}
use Rattle.std.specs.List.{cons_option}
use Rattle.setup_values.specs.Names.{names_view}
use Rattle.setup_report.specs.Meant.{object_meant}
use Rattle.setup_report.proofs.Seen.{more_meant}
use Rattle.setup_report.proofs.meanings.meant.each_meant.Goals as goal

pub loop-word-preserved : goal.loop-word-preserved
loop-word-preserved g c =
    let meant = object_meant c.args.kind g.P.Profile.profile (names_view c.args.names.now) c.args.setup.now.plan c.args.kernel.now in
    more_meant (λ (w : Bor (List ℕ)). meant w.now) c.args.words.now c.loop-word.word-index _ c.loop-word.objects.items c.add_meant.new.objects.items
    c.loop-word-test.true c.loop-word.invariant
    (c.in_ok-add_meant.ensures
    ∙ ap (λ o. c.loop-word.objects.items ++ cons_option o []) (c.object_meant-object.ensures ∙ ap meant c.as_bytes.ensures.value))
