-- What is found in the list is reached by the word.
use Rattle.std.proofs.Common.{◌≡◌, true, List, subst, sym, ◌∙◌}
use Rattle.std.specs.List.{list_any}
use Rattle.query_reach.specs.declared.reached.Reached.{Reached}
use Rattle.command_how_witness.specs.Witness.{asking_of}
use Rattle.command_how_witness.specs.Private.{is_held}
use Rattle.command_how_witness.proofs.Listed.{holds_by}
use Rattle.command_how_witness.proofs.shown.holds.Goals as goal

pub returns : goal.returns
returns g c = λ is.
    let q = asking_of c.args.asked.now in
    let f = c.args.kernel.now.derivations in
    holds_by g.P.Profile.profile q f c.in_ok-list.list.items c.args.word c.in_ok-list.ensures
    (subst (λ (l : List Reached). list_any (is_held f c.args.word q.to) l ≡ true) c.as_slice.ensures.value (sym c.is_one_held.ensures ∙ is))
