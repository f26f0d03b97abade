use Rattle.std.proofs.Common.{◌≡◌, ℕ, List, [], ◌∷◌, ◌++◌, ap, subst, ◌∙◌, append_assoc}
use Rattle.std.specs.Prelude.{IfOk}
use Rattle.query_orders.specs.Words.{listed}
use Rattle.query_orders.specs.Nodes.{wait_words}
use Rattle.query_orders.specs.Private.Shared.{slots_told}
use Rattle.query_orders.proofs.exploring.words.state_words.Goals as goal

pub returns : goal.returns
returns g c =
    let made = listed (λ (n : ℕ). n ∷ []) c.args.made.now in
    let waits = listed wait_words c.args.waits.now in
    let told = slots_told g.P.Profile.profile c.args.shared.now c.args.kernel.now in
    let room : c.as_slice.result.now ≡ made ++ (waits ++ told) =
    c.as_slice.ensures.value ∙ c.in_ok-add_shown.ensures
    ∙ ap (λ (l : List ℕ). l ++ told) (c.in_ok-add_waits.ensures ∙ ap (λ (l : List ℕ). l ++ waits) (c.in_ok-add_made.ensures ∙ ap (λ (l : List ℕ). l ++ made) c.clear.ensures.items))
    ∙ append_assoc made waits told in
    subst (λ (l : List ℕ). IfOk c.from_slice.result (λ words. words.items ≡ l)) room c.from_slice.ensures.items
