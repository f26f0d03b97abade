use Rattle.std.proofs.Common.{◌++◌, string_bytes, ap, ◌∙◌}
use Rattle.setup_report.specs.Naming.{naming_view}
use Rattle.command_trace.proofs.Kept.{first_changes, nothing_apart}
use Rattle.command_trace.proofs.Ends.{on_both}
use Rattle.command_trace.proofs.lines.told.tell.Goals as goal

pub tell_anew-requires : goal.tell_anew-requires
tell_anew-requires g c =
    record {
      old = nothing_apart (naming_view c.args.naming.now) g.P.Profile.profile c.nothing.result (c.nothing.ensures (naming_view c.args.naming.now) g.P.Profile.profile);
      list = c.in_ok-slots.ensures.list;
      apart = c.in_ok-slots.ensures.apart;
    }

pub returns-clause-text : goal.returns-clause-text
returns-clause-text g c =
    let texts = naming_view c.args.naming.now in
    let p = g.P.Profile.profile in
    on_both _ _ _
    (λ told is shows. is ∙ ap (λ t. string_bytes c.args.out.now ++ t) (first_changes texts p c.args.kernel.now c.nothing.result told (c.nothing.ensures texts p) shows))
    c.tell_anew.result c.tell_anew.ensures.text c.tell_anew.ensures.told
