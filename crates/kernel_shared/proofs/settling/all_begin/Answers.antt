use Rattle.std.proofs.Common.{rules, ◌≤◌, length, slice_set, arith, ap, sym, ◌∙◌, get_or}
use Rattle.std.proofs.lemmas.Option.{slice_get_within}
use Rattle.std.proofs.lemmas.List.{set-get_or}
use Rattle.kernel_shared.specs.Fronts.{StartsWith}
use Rattle.kernel_shared.specs.ClientStates.{ClientState}
use Rattle.kernel_shared.proofs.Clients.{begin_more}
use Rattle.kernel_shared.proofs.settling.all_begin.Goals as goal

pub loop-place-preserved : goal.loop-place-preserved
loop-place-preserved g c =
    let items = c.loop-place.clients.items in
    let k = c.loop-place.place in
    let w : ClientState = c.index_mut.result.now in
    let whole = c.loop-place.invariant.same in
    let starts : StartsWith (g.T.Absorb.state c.args.book.now) w.front = search rules in
    record {
      same = ap (λ t. slice_set items k t) (c.begins.ensures.same ∙ c.index_mut.ensures.value) ∙ (set-get_or items k w ∙ whole);
      begin = begin_more _ c.args.clients.now.items k w (ap (λ l. get_or l k w) (sym whole) ∙ sym c.index_mut.ensures.value) starts c.loop-place.invariant.begin;
    }

pub returns-clause-begin : goal.returns-clause-begin
returns-clause-begin g c so i t at =
    let lt = slice_get_within c.args.clients.now.items i t at in
    let all : length c.args.clients.now.items ≤ c.loop-place.place = search rules in
    c.loop-place.invariant.begin i t (omega arith) at
