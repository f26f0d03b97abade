-- The root slot, or a slot that is found in the list, becomes empty.
use Rattle.std.proofs.Common.{◌≡◌, true, List, subst, sym, ◌∙◌}
use Rattle.std.specs.List.{list_any}
use Rattle.kernel_delete.proofs.Members.{true_left, true_right}
use Rattle.query_reach.specs.declared.reached.Reached.{Reached}
use Rattle.command_how_witness.specs.Witness.{asking_of}
use Rattle.command_how_witness.specs.Private.{is_emptied}
use Rattle.command_how_witness.proofs.Listed.{takes_by}
use Rattle.command_how_witness.proofs.shown.are_taken.Goals as goal
use Rattle.command_how_witness.proofs.shown.are_taken.Goals.{then-is_emptied, else-is_emptied}

pub returns : goal.returns
returns g c = λ is.
    let q = asking_of c.args.asked.now in
    let f = c.args.before.now.derivations in
    let h = c.args.after.now.derivations in
    let items = c.in_ok-list.list.items in
    let root = is_emptied f h q.to in
    let others = list_any (λ (r : Reached). is_emptied f h r.slot) items in
    takes_by g.P.Profile.profile q f items h c.in_ok-list.ensures
    (elim c.if-is_emptied.branch [
      | then-is_emptied w ↦ true_left root others (sym c.is_emptied.ensures ∙ w.if-is_emptied.true)
      | else-is_emptied w ↦
          true_right root others
          (subst (λ (l : List Reached). list_any (λ (r : Reached). is_emptied f h r.slot) l ≡ true) w.as_slice.ensures.value
          (sym w.is_one_emptied.ensures ∙ sym w.result-is ∙ is))
    ])
