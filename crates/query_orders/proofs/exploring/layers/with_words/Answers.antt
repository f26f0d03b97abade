use Rattle.std.proofs.Common.{◌≡◌, ℕ, List, [], ◌∷◌, ◌++◌, refl, ap, ◌∙◌}
use Rattle.query_orders.specs.declared.answer.WaitingCall.{WaitingCall}
use Rattle.query_orders.specs.Words.{listed}
use Rattle.query_orders.specs.Nodes.{wait_words}
use Rattle.query_orders.specs.Private.Shared.{slots_told}
use Rattle.query_orders.proofs.Exploration.Slots.{told_is}
use Rattle.query_orders.proofs.Exploration.Tables.{way_node}
use Rattle.query_orders.proofs.exploring.layers.with_words.Goals as goal

pub returns-clause-node : goal.returns-clause-node
returns-clause-node g c own w r shared way at =
    let p = g.P.Profile.profile in
    let n = c.args.node in
    let v = c.args.at.now in
    let words = c.in_ok-node.field-0 in
    let all = λ (made : List ℕ) (waits : List WaitingCall) (told : List ℕ). listed (λ (k : ℕ). k ∷ []) made ++ (listed wait_words waits ++ told) in
    let told = slots_told p c.args.shared.now v in
    way_node p own w n (record { order = n.order; made = n.made; waits = n.waits; words = words; weight = n.weight }) v way at refl refl refl
    (c.in_ok-node.ensures
    ∙ ap (λ (l : List ℕ). all l c.as_slice-waits.result.now told) c.as_slice.ensures.value
    ∙ ap (λ (l : List WaitingCall). all n.made.items l told) c.as_slice-waits.ensures.value
    ∙ ap (all n.made.items n.waits.items) (told_is p own w c.args.shared.now n.order v r shared at))
