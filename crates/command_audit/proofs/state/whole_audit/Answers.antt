use Rattle.std.proofs.Common.{◌≡◌, ◌++◌, map, filter, not, All, None, string_bytes, ap, sym, subst, ◌∙◌}
use Rattle.std.specs.List.{flat_map}
use Rattle.kernel_forest.specs.Forest.{Forest}
use Rattle.kernel_forest.specs.Entries.{Entry}
use Rattle.slot_core.specs.Calls.{derivation_view}
use Rattle.kernel_abstract.specs.Shown.{Shown}
use Rattle.kernel_abstract.specs.State.{shown}
use Rattle.query_reach.specs.FullSlots.{AreFullSlots}
use Rattle.setup_values.specs.Names.{names_view}
use Rattle.setup_report.specs.Naming.{naming_view}
use Rattle.setup_report.specs.State.{Derived, is_in, threads, endpoints, slot_of, slot_rows}
use Rattle.command_audit.specs.Text.{audit_head_line}
use Rattle.command_audit.specs.Threads.{AreSlotsOf, opening, slots_lines}
use Rattle.command_audit.specs.Channels.{endpoint_words_of, channel_lines}
use Rattle.command_audit.specs.Revokes.{is_revoke_told, revoke_lines_of, rows_told}
use Rattle.setup_report.proofs.Runs.{derivations_shown}
use Rattle.setup_report.proofs.Joined.{flat_seen}
use Rattle.command_audit.proofs.Joined.{joined_five}
use Rattle.command_audit.proofs.Seen.{filter_seen}
use Rattle.command_audit.proofs.state.whole_audit.Goals as goal

pub returns : goal.returns
returns g c = λ A reached shows.
    let p = g.P.Profile.profile in
    let names = names_view c.args.heading.names.now in
    let texts = naming_view c.args.heading.naming.now in
    let trusted = c.args.heading.trusted.now in
    let setup = c.args.heading.setup.now in
    let made = c.args.heading.made in
    let v = c.args.kernel.now in
    let list = c.in_ok-list.list.items in
    let forest : v.derivations ≡ (shown A).derivations = ap (λ (w : Shown). w.derivations) shows in
    let own : v.derivations ≡ A.derivations = forest ∙ derivations_shown A in
    let filled : AreFullSlots v.derivations c.as_slice.result.now = subst (AreFullSlots v.derivations) (sym c.as_slice.ensures.value) c.in_ok-filled.ensures.slots in
    let again : AreFullSlots v.derivations c.as_slice-3.result.now = subst (AreFullSlots v.derivations) (sym c.as_slice-3.ensures.value) c.in_ok-filled.ensures.slots in
    let words : c.as_slice-8.result.now ≡ flat_map (endpoint_words_of A.derivations list) list =
    c.as_slice-8.ensures.value ∙ (c.in_ok-words.ensures v.derivations again ∙ (λ i. flat_map (endpoint_words_of (own i) (c.as_slice-4.ensures.value i)) (c.as_slice-4.ensures.value i))) in
    let ends : c.in_ok-rows.rows.endpoints.keys ≡ endpoints p (shown A) = c.in_ok-rows.ensures.endpoints ∙ ap (endpoints p) shows in
    let all : map (derivation_view p) c.as_slice-6.result.now ≡ slot_rows (shown A) =
    ap (map (derivation_view p)) c.as_slice-6.ensures.value ∙ (c.in_ok-rows.ensures.slots ∙ ap slot_rows shows) in
    let rows : map (derivation_view p) c.as_slice-10.result.now ≡ rows_told trusted list (slot_rows (shown A)) =
    ap (map (derivation_view p)) (c.as_slice-10.ensures.value ∙ c.in_ok-told.ensures)
    ∙ filter_seen (derivation_view p) (λ (d : Derived). is_revoke_told trusted c.as_slice-5.result.now (slot_of d)) c.as_slice-6.result.now
    ∙ (λ i. rows_told trusted (c.as_slice-5.ensures.value i) (all i)) in
    record {
      list = list;
      slots = record {
        threads = c.in_ok-list.ensures.threads
            ∙ (c.as_slice-2.ensures.value
            ∙ (c.in_ok-threads.ensures ∙ ap (filter (λ thread. not (is_in thread trusted))) (c.in_ok-rows.ensures.threads ∙ ap (threads p) shows)));
        slots = subst (λ (f : Forest Entry). All (AreSlotsOf p f) list) forest (c.in_ok-list.ensures.slots v.derivations filled);
      };
      is = (λ i. (c.into_bytes.ensures.value i).items)
          ∙ (joined_five (string_bytes c.add_head.new.out) (string_bytes c.add_opening.new.out) (string_bytes c.add_threads.new.out) (string_bytes c.add_channels.new.out) (string_bytes c.add_revokes.new.out)
          _ _ _ _ _
          (c.in_ok-add_head.ensures ∙ ap (λ l. l ++ audit_head_line texts setup made None) c.new-out.ensures.bytes)
          c.in_ok-add_opening.ensures
          c.in_ok-add_threads.ensures
          c.in_ok-add_channels.ensures
          (c.in_ok-add_revokes.ensures A reached shows ∙ ap (λ l. string_bytes c.add_channels.new.out ++ l) (flat_seen (revoke_lines_of p texts A) (derivation_view p) c.as_slice-10.result.now))
          ∙ (λ i. audit_head_line texts setup made None
          ++ (opening names texts trusted
          ++ (flat_map (slots_lines texts (shows i) (c.as_slice-7.ensures.value i)) (c.as_slice-7.ensures.value i)
          ++ (channel_lines texts (words i) (ends i)
          ++ flat_map (revoke_lines_of p texts A) (rows i))))));
    }
