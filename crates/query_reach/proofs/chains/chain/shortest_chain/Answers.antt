-- The proof of `shortest_chain`: the goals that a search leaves open.
use Rattle.std.proofs.Common.{◌≡◌, ◌==◌, not, true, List, length, map, subst, sym, ◌∙◌, Vec, Global}
use Rattle.std.specs.List.{filter}
use Rattle.std.proofs.lemmas.List.{length-map}
use Rattle.std.proofs.lemmas.Result.{IfOk-weaker}
use Rattle.kernel_forest.specs.Forest.{Forest}
use Rattle.kernel_forest.specs.Entries.{Entry}
use Rattle.query_reach.specs.declared.filled.FullSlot.{FullSlot}
use Rattle.query_reach.specs.FullSlots.{AreFullSlots}
use Rattle.query_reach.specs.declared.chains.chain.Target.{Target}
use Rattle.query_reach.specs.Chain.{IsShortest}
use Rattle.query_reach.specs.Private.Layers.{IsLaid, IsFirstLayer, HasNoneSought, is_sought_at, IsRunFrom}
use Rattle.query_reach.proofs.Laid.{stepped}
use Rattle.query_reach.proofs.Walked.{none_found, found}
use Rattle.query_reach.proofs.chains.chain.shortest_chain.Goals as goal

pub returns-in-None : goal.returns-in-None
returns-in-None g c =
    let p = g.P.Profile.profile in
    let root = c.args.root in
    let target = c.args.target.now in
    let shows : Vec FullSlot Global → List FullSlot = λ v. v.items in
    let here : List FullSlot = filter (λ (s : FullSlot). s.address == root) c.args.filled.now in
    let elsewhere : List FullSlot = filter (λ (s : FullSlot). not (s.address == root)) c.args.filled.now in
    let xs = c.as_slice.result.now in
    let laid : IsLaid p here elsewhere (map shows xs) =
    subst (λ (l : List (Vec FullSlot Global)). IsLaid p here elsewhere (map shows l)) (sym c.as_slice.ensures.value) c.in_ok-layers.ensures in
    let none : HasNoneSought p target (map shows xs) (length (map shows xs)) =
    subst (HasNoneSought p target (map shows xs)) (sym (length-map xs shows)) c.in-None.ensures.none in
    λ f are. subst (IsShortest p f target root) (sym c.new.ensures.items) (none_found p f root target c.args.filled.now are (map shows xs) laid none)

pub chain_to-requires-clause-stepped : goal.chain_to-requires-clause-stepped
chain_to-requires-clause-stepped g c =
    let p = g.P.Profile.profile in
    let root = c.args.root in
    let shows : Vec FullSlot Global → List FullSlot = λ v. v.items in
    let here : List FullSlot = filter (λ (s : FullSlot). s.address == root) c.args.filled.now in
    let elsewhere : List FullSlot = filter (λ (s : FullSlot). not (s.address == root)) c.args.filled.now in
    let xs = c.as_slice-in-Some.result.now in
    let laid : IsLaid p here elsewhere (map shows xs) =
    subst (λ (l : List (Vec FullSlot Global)). IsLaid p here elsewhere (map shows l)) (sym c.as_slice-in-Some.ensures.value) c.in_ok-layers.ensures in
    stepped p (map shows xs) here elsewhere laid

pub returns : goal.returns
returns g c =
    let p = g.P.Profile.profile in
    let root = c.args.root in
    let target = c.args.target.now in
    let place = c.in-Some.found in
    let shows : Vec FullSlot Global → List FullSlot = λ v. v.items in
    let here : List FullSlot = filter (λ (s : FullSlot). s.address == root) c.args.filled.now in
    let elsewhere : List FullSlot = filter (λ (s : FullSlot). not (s.address == root)) c.args.filled.now in
    let xs = c.as_slice-in-Some.result.now in
    let laid : IsLaid p here elsewhere (map shows xs) =
    subst (λ (l : List (Vec FullSlot Global)). IsLaid p here elsewhere (map shows l)) (sym c.as_slice-in-Some.ensures.value) c.in_ok-layers.ensures in
    let first : IsFirstLayer p target (map shows xs) place.depth place.slot =
    subst (λ (l : List (Vec FullSlot Global)). IsFirstLayer p target (map shows l) place.depth place.slot)
    (c.as_slice.ensures.value ∙ sym c.as_slice-in-Some.ensures.value) c.in-Some.ensures.some in
    IfOk-weaker c.chain_to.result
    (λ chain. (t : Target) → is_sought_at p t place.slot ≡ true → IsRunFrom p t (map shows xs) 0 place.depth chain.items)
    (λ chain. (f : Forest Entry) → AreFullSlots f c.args.filled.now → IsShortest p f target root chain.items)
    (λ chain run f are. found p f root target c.args.filled.now are (map shows xs) laid place.depth place.slot first chain.items (run target first.sought))
    c.chain_to.ensures
