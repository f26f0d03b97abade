-- A client's own calls among the first calls of a set-up.
use Rattle.std.proofs.Common.{◌≡◌, ℕ, zero, suc, ◌+◌, ◌<◌, ◌==◌, true, false, cond, Bool, List, [], ◌∷◌, ◌++◌, drop, filter, length, take, map, get_or, slice_get, option_map, Some, refl, ap, sym, ◌∙◌, arith, eq-eqb, ne_eqb}
use Rattle.std.proofs.lemmas.List.{append-nil, length-map, map-append}
use Rattle.std.proofs.lemmas.List.Elements.{filter_more}
use Rattle.std.proofs.lemmas.Option.{slice_get-map, get_or_from_slice_get}
use Rattle.kernel_abstract.specs.declared.call.Call.{Call}
use Rattle.setup_format.specs.Views.{CallView}
use Rattle.command_threads.specs.SharedRuns.{client_calls}
use Rattle.command_threads.proofs.Histories.{some_there}

map_cond : {A B : Type 0} (f : A → B) (b : Bool) (x : A) → map f (cond b (x ∷ []) []) ≡ cond b (f x ∷ []) []
map_cond f true x = refl
map_cond f false x = refl

more : (client : ℕ) (calls : List CallView) (i : ℕ) (v : CallView) → i < length calls → slice_get calls i ≡ Some v → client_calls client (take (i + 1) calls) ≡ client_calls client (take i calls) ++ cond (v.client == client) (v.call ∷ []) []
more client calls i v lt at =
    let p = λ (c : CallView). c.client == client in
    let e : get_or calls i v ≡ v = get_or_from_slice_get calls i v v at in
    ap (map (λ (c : CallView). c.call)) (filter_more p calls i v lt ∙ ap (λ (c : CallView). filter p (take i calls) ++ cond (c.client == client) (c ∷ []) []) e)
    ∙ (map-append (λ (c : CallView). c.call) (filter p (take i calls)) (cond (p v) (v ∷ []) [])
    ∙ ap (λ l. client_calls client (take i calls) ++ l) (map_cond (λ (c : CallView). c.call) (p v) v))

some_is : {A : Type 0} (x y : A) → Some x ≡ Some y → x ≡ y
some_is x y e = cc

-- one call more: it is the client's, or it is another's
pub own_more : (client : ℕ) (calls : List CallView) (items : List Call) (i : ℕ) (d : Call) (who : ℕ) → items ≡ map (λ (c : CallView). c.call) calls → i < length items → option_map (λ (c : CallView). c.client) (slice_get calls i) ≡ Some who
    → client_calls client (take (i + 1) calls) ≡ client_calls client (take i calls) ++ cond (who == client) (get_or items i d ∷ []) []
own_more client calls items i d who is lt from =
    let n = length-map calls (λ (c : CallView). c.call) in
    let m = ap length is in
    let within : i < length calls = omega arith in
    let v = some_there calls i within in
    let named : (v.0).client ≡ who = some_is _ _ (sym (ap (option_map (λ (c : CallView). c.client)) v.1) ∙ from) in
    let listed : slice_get items i ≡ Some (v.0).call = ap (λ l. slice_get l i) is ∙ (slice_get-map (λ (c : CallView). c.call) calls i ∙ ap (option_map (λ (c : CallView). c.call)) v.1) in
    let call : get_or items i d ≡ (v.0).call = get_or_from_slice_get items i (v.0).call d listed in
    more client calls i v.0 within v.1 ∙ (ap (λ k. client_calls client (take i calls) ++ cond (k == client) ((v.0).call ∷ []) []) named ∙ ap (λ (c : Call). client_calls client (take i calls) ++ cond (who == client) (c ∷ []) []) (sym call))

-- the loop's step, where the call is the client's
pub own_pushed : (client : ℕ) (calls : List CallView) (items own own' : List Call) (i : ℕ) (d : Call) (who : ℕ) → items ≡ map (λ (c : CallView). c.call) calls → i < length items → option_map (λ (c : CallView). c.client) (slice_get calls i) ≡ Some who
    → own ≡ client_calls client (take i calls) → who ≡ client → own' ≡ own ++ get_or items i d ∷ [] → own' ≡ client_calls client (take (i + 1) calls)
own_pushed client calls items own own' i d who is lt from so same pushed =
    let t : (who == client) ≡ true = eq-eqb who client same in
    pushed ∙ (ap (λ l. l ++ get_or items i d ∷ []) so ∙ sym (own_more client calls items i d who is lt from ∙ ap (λ b. client_calls client (take i calls) ++ cond b (get_or items i d ∷ []) []) t))

-- and where it is another's
pub own_kept : (client : ℕ) (calls : List CallView) (items own : List Call) (i : ℕ) (who : ℕ) → items ≡ map (λ (c : CallView). c.call) calls → i < length items → option_map (λ (c : CallView). c.client) (slice_get calls i) ≡ Some who
    → own ≡ client_calls client (take i calls) → (who ≡ client → ⊥) → own ≡ client_calls client (take (i + 1) calls)
own_kept client calls items own i who is lt from so other =
    let n = length-map calls (λ (c : CallView). c.call) in
    let m = ap length is in
    let within : i < length calls = omega arith in
    let v = some_there calls i within in
    let named : (v.0).client ≡ who = some_is _ _ (sym (ap (option_map (λ (c : CallView). c.client)) v.1) ∙ from) in
    let t : ((v.0).client == client) ≡ false = ap (λ k. k == client) named ∙ ne_eqb who client other in
    so ∙ sym (more client calls i v.0 within v.1 ∙ (ap (λ b. client_calls client (take i calls) ++ cond b ((v.0).call ∷ []) []) t ∙ append-nil (client_calls client (take i calls))))

-- what stands at a place behind so many
pub slice_get-drop : {X : Type 0} (n : ℕ) (xs : List X) (i : ℕ) → slice_get (drop n xs) i ≡ slice_get xs (n + i)
slice_get-drop zero xs i = ap (slice_get xs) (let e : i ≡ 0 + i = omega arith in e)
slice_get-drop (suc n) [] i = refl
slice_get-drop (suc n) (x ∷ xs) i = slice_get-drop n xs i ∙ ap (slice_get (x ∷ xs)) (let e : suc (n + i) ≡ suc n + i = omega arith in e)
