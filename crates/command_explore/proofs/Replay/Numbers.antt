-- The calls with the numbers of an order are those that the order makes.
use Rattle.std.proofs.Common.{◌≡◌, ◌≢◌, ◌==◌, ◌⊎◌, ◌+◌, ◌<◌, ◌≤◌, ℕ, zero, suc, Bool, true, false, cond, List, [], ◌∷◌, ◌++◌, map, filter, length, Option, None, Some, option_map, option_and_then, slice_get, unwrap_or, refl, ap, sym, subst, ◌∙◌, add-one, append_assoc, append-nil, length-append, inl, inr, arith}
use Rattle.std.specs.List.{count_by, range_with_len}
use Rattle.std.proofs.lemmas.List.{map-append, length-map}
use Rattle.std.proofs.lemmas.List.Concat.{flat_map-cons}
use Rattle.std.proofs.lemmas.List.FromFn.{map-range_with_len_more}
use Rattle.std.proofs.lemmas.List.Elements.{filter-append}
use Rattle.std.proofs.lemmas.List.Sums.{length-filter}
use Rattle.std.proofs.lemmas.Option.{slice_get-map, slice_get_past, slice_get_cases, none-some}
use Rattle.std.proofs.lemmas.Bool.Decides.{eqb_tells}
use Rattle.cap_core.specs.declared.profile.ProfileName.{ProfileName}
use Rattle.kernel_abstract.specs.declared.call.Call.{Call}
use Rattle.kernel_abstract.specs.declared.call.Reply.{Reply}
use Rattle.kernel_abstract.specs.State.{State}
use Rattle.kernel_abstract.specs.Step.{step}
use Rattle.setup_format.specs.Views.{CallView, SetupView}
use Rattle.query_orders.specs.World.{World, start, call_of_client_at, next_client_call}
use Rattle.query_orders.specs.Orders.{numbers_below}
use Rattle.query_orders.specs.Laws.{made_by, calls_of_orders}
use Rattle.command_explore.specs.Clients.{calls_of_client, calls_of_each}
use Rattle.command_explore.specs.Numbers.{client_numbers, client_numbers_of, call_number_at, order_numbers, view_numbered}
use Rattle.command_explore.specs.Replays.{view_where, chosen_views, called}
use Rattle.command_explore.proofs.Replay.Runs.{of_client, get_front, get_last, one_reply, after_last, behind, answers, made_of, made_past}
use Rattle.command_explore.proofs.Replay.Waits.{of_client-last}

-- ---- the numbers below one

length-below : (n : ℕ) → length (numbers_below n) ≡ n
length-below zero = refl
length-below (suc n) = let a = length-append (numbers_below n) (n ∷ []) in let i = length-below n in omega (arith, a, i)

get-below : (n i : ℕ) → i < n → slice_get (numbers_below n) i ≡ Some i
get-below zero i lt = absurd (omega (arith, lt))
get-below (suc n) i lt = elim (eqb_tells i n) as (λ _. slice_get (numbers_below n ++ n ∷ []) i ≡ Some i) [
  | inl same ↦ (let e = same.1 in let long = length-below n in get_last (numbers_below n) n i (omega (arith, e, long)) ∙ ap (λ m. Some m) (sym e))
  | inr other ↦ (let ne : i ≢ n = other.1 in get_front (numbers_below n) (n ∷ []) i i (get-below n i (omega (arith, lt, ne))))
]

get-below_past : (n i : ℕ) → n ≤ i → slice_get (numbers_below n) i ≡ None
get-below_past n i le = let long = length-below n in slice_get_past (numbers_below n) i (omega (arith, le, long))

-- what each number below one gives, from 0 on
mapped-range : {X : Type 0} (f : ℕ → X) (n : ℕ) → map f (range_with_len 0 n) ≡ map f (numbers_below n)
mapped-range f zero = refl
mapped-range f (suc n) =
    ap (λ k. map f (range_with_len 0 k)) (sym (add-one n))
    ∙ (map-range_with_len_more f 0 n n (omega arith)
    ∙ (ap (λ l. l ++ f n ∷ []) (mapped-range f n)
    ∙ sym (map-append f (numbers_below n) (n ∷ []))))

-- what each client has
pub get-mapped : {X : Type 0} (f : ℕ → X) (n i : ℕ) → i < n → slice_get (map f (numbers_below n)) i ≡ Some (f i)
get-mapped f n i lt = slice_get-map f (numbers_below n) i ∙ ap (option_map f) (get-below n i lt)

pub get-mapped_past : {X : Type 0} (f : ℕ → X) (n i : ℕ) → n ≤ i → slice_get (map f (numbers_below n)) i ≡ None
get-mapped_past f n i le = slice_get-map f (numbers_below n) i ∙ ap (option_map f) (get-below_past n i le)

pub length-mapped : {X : Type 0} (f : ℕ → X) (n : ℕ) → length (map f (numbers_below n)) ≡ n
length-mapped f n = length-map (numbers_below n) f ∙ length-below n

-- ---- a client's number at a place, and its call there

-- the number is that of the client's call, or there is none
abbrev IsNumberOf : ℕ → ℕ → List CallView → Option ℕ → Option Call → Type 0
IsNumberOf client first calls None call = call ≡ None
IsNumberOf client first calls (Some m) call = (j : ℕ) × (view : CallView) × (m ≡ first + j) × (slice_get calls j ≡ Some view) × (view.client ≡ client) × (call ≡ Some view.call)

later : (client first : ℕ) (v : CallView) (vs : List CallView) (o : Option ℕ) (call : Option Call) → IsNumberOf client (first + 1) vs o call → IsNumberOf client first (v ∷ vs) o call
later client first v vs None call h = h
later client first v vs (Some m) call h = (suc h.0, h.1, (let e = h.2 in omega (arith, e)), h.3, h.4, h.5)

module _ (client first : ℕ) (v : CallView) (vs : List CallView) (rest : (k : ℕ) → IsNumberOf client (first + 1) vs (slice_get (client_numbers client (first + 1) vs) k) (slice_get (calls_of_client vs client) k)) where
  abbrev Goal : Bool → ℕ → Type 0
  Goal b k =
      IsNumberOf client first (v ∷ vs) (slice_get (cond b (first ∷ client_numbers client (first + 1) vs) (client_numbers client (first + 1) vs)) k)
      (slice_get (map (λ (c : CallView). c.call) (cond b (v ∷ filter (λ (c : CallView). c.client == client) vs) (filter (λ (c : CallView). c.client == client) vs))) k)

  here : (k : ℕ) → v.client ≡ client → Goal true k
  here zero same = (zero, v, omega arith, refl, same, refl)
  here (suc k) same = later client first v vs _ _ (rest k)

  one_number : (k : ℕ) → Goal (v.client == client) k
  one_number k = elim (eqb_tells v.client client) [
    | inl same ↦ subst (λ b. Goal b k) (sym same.0) (here k same.1)
    | inr other ↦ subst (λ b. Goal b k) (sym other.0) (later client first v vs _ _ (rest k))
  ]

number_of : (client first : ℕ) (calls : List CallView) (k : ℕ) → IsNumberOf client first calls (slice_get (client_numbers client first calls) k) (slice_get (calls_of_client calls client) k)
number_of client first [] k = refl
number_of client first (v ∷ vs) k = one_number client first v vs (number_of client (first + 1) vs) k

-- ---- the call with a client's number

view_called : (keeps : Bool) (view : CallView) → called (view_where keeps (Some view)) ≡ (view.client, view.call) ∷ []
view_called true view = refl
view_called false view = refl

module _ (kept : ℕ) (setup : SetupView) where
  abbrev chosen : ℕ → List CallView
  chosen number = view_where (number == kept) (view_numbered setup.calls number)

  -- a number and a call as they are in the lists of all clients
  numbered_call : (client : ℕ) (o : Option ℕ) (call : Option Call) → IsNumberOf client 1 setup.calls o call → called (chosen (unwrap_or o 0)) ≡ made_by client call
  numbered_call client None call h = ap (made_by client) (sym h)
  numbered_call client (Some m) call h =
      let e : m ≡ suc h.0 = (let is = h.2 in omega (arith, is)) in
      ap (λ n. called (chosen n)) e
      ∙ (ap (λ (o : Option CallView). called (view_where (suc h.0 == kept) o)) h.3
      ∙ (view_called (suc h.0 == kept) h.1
      ∙ (ap (λ c. (c, (h.1).call) ∷ []) h.4 ∙ ap (made_by client) (sym h.5))))

  own_range : (client : ℕ) → slice_get (client_numbers_of setup) client ≡ slice_get (map (λ c. client_numbers c 1 setup.calls) (numbers_below setup.clients)) client
  own_range client = ap (λ (l : List (List ℕ)). slice_get l client) (mapped-range (λ c. client_numbers c 1 setup.calls) setup.clients)

  pub one_called : (client place : ℕ) → called (chosen (call_number_at (client_numbers_of setup) client place)) ≡ made_by client (call_of_client_at (calls_of_each setup) client place)
  one_called client place = elim (eqb_or client setup.clients) [
    | inl lt ↦
        ap (λ (o : Option (List ℕ)). called (chosen (unwrap_or (option_and_then (λ (own : List ℕ). slice_get own place) o) 0))) (own_range client ∙ get-mapped (λ c. client_numbers c 1 setup.calls) setup.clients client lt)
        ∙ (numbered_call client _ _ (number_of client 1 setup.calls place)
        ∙ ap (λ (o : Option (List Call)). made_by client (option_and_then (λ (calls : List Call). slice_get calls place) o)) (sym (get-mapped (calls_of_client setup.calls) setup.clients client lt)))
    | inr le ↦
        ap (λ (o : Option (List ℕ)). called (chosen (unwrap_or (option_and_then (λ (own : List ℕ). slice_get own place) o) 0))) (own_range client ∙ get-mapped_past (λ c. client_numbers c 1 setup.calls) setup.clients client le)
        ∙ ap (λ (o : Option (List Call)). made_by client (option_and_then (λ (calls : List Call). slice_get calls place) o)) (sym (get-mapped_past (calls_of_client setup.calls) setup.clients client le))
  ]
    where
      eqb_or : (i n : ℕ) → (i < n) ⊎ (n ≤ i)
      eqb_or i zero = inr (omega arith)
      eqb_or zero (suc n) = inl (omega arith)
      eqb_or (suc i) (suc n) = elim (eqb_or i n) as (λ _. (suc i < suc n) ⊎ (suc n ≤ suc i)) [ inl lt ↦ inl (omega (arith, lt)) | inr le ↦ inr (omega (arith, le)) ]

-- ---- how often a client is in an order, and how many of its calls are made

-- it is as often in it as calls of it are made, or none of it is left
abbrev IsCounted : List (List Call) → ℕ → ℕ → ℕ → Type 0
IsCounted own client made count = (made ≡ count) ⊎ ((call_of_client_at own client made ≡ None) × (made ≤ count))

count-last : (client c : ℕ) (order : List ℕ) → count_by (λ i. i == client) (order ++ c ∷ []) ≡ count_by (λ i. i == client) order + cond (c == client) 1 0
count-last client c order =
    let a = length-filter (λ i. i == client) (order ++ c ∷ []) in
    let b = length-filter (λ i. i == client) order in
    let d : length (filter (λ i. i == client) (order ++ c ∷ [])) ≡ length (filter (λ i. i == client) order) + length (cond (c == client) (c ∷ []) []) =
    ap length (filter-append (λ i. i == client) order (c ∷ [])) ∙ length-append (filter (λ i. i == client) order) (cond (c == client) (c ∷ []) []) in
    let e : length (cond (c == client) (c ∷ []) []) ≡ cond (c == client) 1 0 = elim (c == client) as (λ b. length (cond b (c ∷ []) []) ≡ cond b 1 0) [ true ↦ refl | false ↦ refl ] in
    omega (arith, a, b, d, e)

past_all : (own : List (List Call)) (client made count : ℕ) → call_of_client_at own client made ≡ None → made ≤ count → call_of_client_at own client count ≡ None
past_all own client made count none le = by (slice_get own client) none
  where
    by : (o : Option (List Call)) → option_and_then (λ (calls : List Call). slice_get calls made) o ≡ None → option_and_then (λ (calls : List Call). slice_get calls count) o ≡ None
    by None h = refl
    by (Some calls) h = elim ((slice_get_cases calls made).1) as (λ _. slice_get calls count ≡ None) [
      | inl found ↦ absurd (none-some found.0 (sym h ∙ found.2))
      | inr past ↦ (let long = past.0 in slice_get_past calls count (omega (arith, long, le)))
    ]

module _ (p : ProfileName) (own : List (List Call)) (A : State) where
  abbrev made_by_now : List ℕ → ℕ → ℕ
  made_by_now order client = length (of_client client (answers p own A order))

  made-last : (order : List ℕ) (c client : ℕ) → made_by_now (order ++ c ∷ []) client
      ≡ made_by_now order client + length (of_client client (one_reply p own (behind p own A order).kernel c (next_client_call own (behind p own A order).made c)))
  made-last order c client = ap length (of_client-last p own A order c client) ∙ length-append (of_client client (answers p own A order)) _

  next_is : (order : List ℕ) (client : ℕ) → client < length own → next_client_call own (behind p own A order).made client ≡ call_of_client_at own client (made_by_now order client)
  next_is order client lt = ap (λ (o : Option ℕ). option_and_then (call_of_client_at own client) o) (made_of p own A order client lt)

  replied_length : (order : List ℕ) (c client : ℕ) (o : Option Call) → (c == client) ≡ false → length (of_client client (one_reply p own (behind p own A order).kernel c o)) ≡ 0
  replied_length order c client None apart = refl
  replied_length order c client (Some call) apart = ap (λ b. length (map (λ (x : ℕ × Reply). x.1) (cond b ((c, (step p (behind p own A order).kernel call).reply) ∷ []) []))) apart

  one_counted : (order : List ℕ) (c client : ℕ) → client < length own → (o : Option Call) → next_client_call own (behind p own A order).made c ≡ o → IsCounted own client (made_by_now order client) (count_by (λ i. i == client) order)
      → IsCounted own client (made_by_now order client + length (of_client client (one_reply p own (behind p own A order).kernel c o))) (count_by (λ i. i == client) order + cond (c == client) 1 0)
  one_counted order c client lt o e h = elim (eqb_tells c client) [
    | inl same ↦ mine o e same.0 same.1
    | inr other ↦
        let none = replied_length order c client o other.0 in
        let zero_more : cond {A = ℕ} (c == client) 1 0 ≡ 0 = ap (λ b. cond b 1 0) other.0 in
        counted_as own client _ _ _ _ (omega (arith, none)) (omega (arith, zero_more)) h
  ]
    where
      counted_as : (own : List (List Call)) (client made count made' count' : ℕ) → made ≡ made' → count ≡ count' → IsCounted own client made count → IsCounted own client made' count'
      counted_as own client made count made' count' e f h = subst (λ m. IsCounted own client m count') e (subst (λ n. IsCounted own client made n) f h)

      mine : (o : Option Call) → next_client_call own (behind p own A order).made c ≡ o → (c == client) ≡ true → c ≡ client
          → IsCounted own client (made_by_now order client + length (of_client client (one_reply p own (behind p own A order).kernel c o))) (count_by (λ i. i == client) order + cond (c == client) 1 0)
      mine None e is same =
          let one : cond {A = ℕ} (c == client) 1 0 ≡ 1 = ap (λ b. cond b 1 0) is in
          let none : call_of_client_at own client (made_by_now order client) ≡ None = sym (next_is order client lt) ∙ (ap (next_client_call own (behind p own A order).made) (sym same) ∙ e) in
          let zero_more : made_by_now order client ≡ made_by_now order client + 0 = omega arith in
          inr (ap (call_of_client_at own client) (sym zero_more) ∙ none, elim h [ inl eq ↦ omega (arith, eq) | inr past ↦ (let le = past.1 in omega (arith, le)) ])
      mine (Some call) e is same =
          let one : cond {A = ℕ} (c == client) 1 0 ≡ 1 = ap (λ b. cond b 1 0) is in
          let more : length (of_client client (one_reply p own (behind p own A order).kernel c (Some call))) ≡ 1 =
          ap (λ b. length (map (λ (x : ℕ × Reply). x.1) (cond b ((c, (step p (behind p own A order).kernel call).reply) ∷ []) []))) is in
          elim h [
            | inl eq ↦ inl (omega (arith, eq, one, more))
            | inr past ↦ absurd (none-some call (sym past.0 ∙ (sym (next_is order client lt) ∙ (ap (next_client_call own (behind p own A order).made) (sym same) ∙ e))))
          ]

  counted_from : (done rest : List ℕ) (client : ℕ) → client < length own → IsCounted own client (made_by_now done client) (count_by (λ i. i == client) done)
      → IsCounted own client (made_by_now (done ++ rest) client) (count_by (λ i. i == client) (done ++ rest))
  counted_from done [] client lt h = subst (λ l. IsCounted own client (made_by_now l client) (count_by (λ i. i == client) l)) (sym (append-nil done)) h
  counted_from done (c ∷ rest) client lt h =
      let one : IsCounted own client (made_by_now (done ++ c ∷ []) client) (count_by (λ i. i == client) (done ++ c ∷ [])) =
      subst (λ m. IsCounted own client m (count_by (λ i. i == client) (done ++ c ∷ []))) (sym (made-last done c client))
      (subst (λ n. IsCounted own client (made_by_now done client + length (of_client client (one_reply p own (behind p own A done).kernel c (next_client_call own (behind p own A done).made c)))) n) (sym (count-last client c done)) (one_counted done c client lt (next_client_call own (behind p own A done).made c) refl h)) in
      subst (λ l. IsCounted own client (made_by_now l client) (count_by (λ i. i == client) l)) (append_assoc done (c ∷ []) rest) (counted_from (done ++ c ∷ []) rest client lt one)

  -- the next call of a client is the one behind as many as the order has of it
  pub next_counted : (order : List ℕ) (client : ℕ) → next_client_call own (behind p own A order).made client ≡ call_of_client_at own client (count_by (λ i. i == client) order)
  next_counted order client = elim ((slice_get_cases own client).1) as (λ _. next_client_call own (behind p own A order).made client ≡ call_of_client_at own client (count_by (λ i. i == client) order)) [
    | inl found ↦
        (let lt = found.1 in
        next_is order client lt ∙ elim (counted_from [] order client lt (inl refl)) as (λ _. call_of_client_at own client (made_by_now order client) ≡ call_of_client_at own client (count_by (λ i. i == client) order)) [
          | inl eq ↦ ap (call_of_client_at own client) eq
          | inr past ↦ past.0 ∙ sym (past_all own client _ _ past.0 past.1)
        ])
    | inr none ↦
        ap (λ (o : Option ℕ). option_and_then (call_of_client_at own client) o) (made_past p own A order client none.0)
        ∙ sym (ap (λ (o : Option (List Call)). option_and_then (λ (calls : List Call). slice_get calls (count_by (λ i. i == client) order)) o) none.1)
  ]

-- ---- the calls with the numbers of an order

called-append : (us vs : List CallView) → called (us ++ vs) ≡ called us ++ called vs
called-append us vs = map-append (λ (c : CallView). (c.client, c.call)) us vs

module _ (kept : ℕ) (p : ProfileName) (setup : SetupView) (A : State) where
  abbrev own : List (List Call)
  own = calls_of_each setup

  called_from : (done rest : List ℕ) → called (chosen_views kept setup.calls (order_numbers (client_numbers_of setup) done rest)) ≡ calls_of_orders p own (behind p own A done) rest
  called_from done [] = refl
  called_from done (c ∷ rest) =
      let number = call_number_at (client_numbers_of setup) c (count_by (λ i. i == c) done) in
      let later = order_numbers (client_numbers_of setup) (done ++ c ∷ []) rest in
      ap called (flat_map-cons (λ n. view_where (n == kept) (view_numbered setup.calls n)) number later)
      ∙ (called-append (view_where (number == kept) (view_numbered setup.calls number)) (chosen_views kept setup.calls later)
      ∙ (ap (λ l. l ++ called (chosen_views kept setup.calls later)) (one_called kept setup c (count_by (λ i. i == c) done) ∙ ap (made_by c) (sym (next_counted p own A done c)))
      ∙ ap (λ l. made_by c (next_client_call own (behind p own A done).made c) ++ l) (called_from (done ++ c ∷ []) rest ∙ ap (λ (w : World). calls_of_orders p own w rest) (after_last p own _ done c))))

  pub numbers_make_calls : (order : List ℕ) → called (chosen_views kept setup.calls (order_numbers (client_numbers_of setup) [] order)) ≡ calls_of_orders p own (start own A) order
  numbers_make_calls order = called_from [] order
