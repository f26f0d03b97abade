use Rattle.std.proofs.Common.{◌++◌, ◌∷◌, [], All, map, ap, subst, sym, ◌∙◌}
use Rattle.std.proofs.lemmas.List.{map-append, take_more}
use Rattle.std.proofs.lemmas.List.Elements.{All-append, All-cons, All-nil}
use Rattle.command_audit.specs.declared.threads.ThreadSlots.{ThreadSlots}
use Rattle.command_audit.specs.Threads.{AreSlotsOf}
use Rattle.command_audit.proofs.threads.thread_slots.Goals as goal

pub loop-thread-preserved : goal.loop-thread-preserved
loop-thread-preserved g c =
    let p = g.P.Profile.profile in
    let slots = c.in_ok-slots.slots in
    record {
      threads = ap (map (λ (t : ThreadSlots). t.thread)) c.in_ok-push.ensures.items
          ∙ (map-append (λ (t : ThreadSlots). t.thread) c.loop-thread.list.items (slots ∷ [])
          ∙ ((λ i. c.loop-thread.invariant.threads i ++ c.in_ok-slots.ensures.thread i ∷ [])
          ∙ sym (take_more c.args.threads.now c.loop-thread.thread-index _ c.loop-thread-test.true)));
      slots = λ f full. subst (All (AreSlotsOf p f)) (sym c.in_ok-push.ensures.items)
          (All-append (AreSlotsOf p f) c.loop-thread.list.items (slots ∷ []) (c.loop-thread.invariant.slots f full)
          (All-cons (AreSlotsOf p f) slots [] (c.in_ok-slots.ensures.slots f full) (All-nil (AreSlotsOf p f))));
    }
