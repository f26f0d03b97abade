-- The history of the first calls of a set-up, and of the clients' run behind them, is a shared run of the set-up.
use Rattle.std.proofs.Common.{◌≡◌, ℕ, ◌+◌, ◌-◌, ◌==◌, Bool, true, false, List, [], ◌∷◌, ◌++◌, drop, filter, length, map, take, refl, ap, ap₂, sym, ◌∙◌, subst, arith, append_assoc, length-append}
use Rattle.std.proofs.lemmas.List.{length-drop, length-map, length-take-le, map-append, take-append-drop}
use Rattle.std.proofs.lemmas.List.Elements.{filter-append}
use Rattle.cap_core.specs.declared.profile.ProfileName.{ProfileName}
use Rattle.kernel_abstract.specs.declared.call.Call.{Call}
use Rattle.kernel_abstract.specs.declared.call.Reply.{Reply}
use Rattle.kernel_abstract.specs.Boot.{boot}
use Rattle.kernel_abstract.specs.Step.{replies_of, state_after}
use Rattle.kernel_abstract.proofs.Reached.Runs.{replies_of-append, state_after-append}
use Rattle.kernel_shared.specs.declared.entry.Entry.{Entry}
use Rattle.kernel_shared.specs.Laws.{entry_calls, replies_in}
use Rattle.setup_format.specs.Views.{CallView, SetupView}
use Rattle.command_threads.specs.Private.Begun.{IsSharedFrom, IsWhole, calls_in, state_begun}
use Rattle.command_threads.specs.SharedRuns.{IsBeginning, IsSharedRun, calls_by, client_calls, count_first, first_calls, history_state}
use Rattle.command_threads.proofs.Histories.{or_map}

-- ---- a client's own calls, of calls with their clients

own : ℕ → List (ℕ × Call) → List Call
own client pairs = map (λ (p : ℕ × Call). p.1) (filter (λ (p : ℕ × Call). p.0 == client) pairs)

module _ {X : Type 0} (f : X → ℕ) (g : X → Call) where
  pairs : List X → List (ℕ × Call)
  pairs xs = map (λ x. (f x, g x)) xs

  own_step : (client : ℕ) (x : X) (xs : List X) (b : Bool) → (f x == client) ≡ b → own client (pairs xs) ≡ map g (filter (λ x. f x == client) xs)
      → own client (pairs (x ∷ xs)) ≡ map g (filter (λ x. f x == client) (x ∷ xs))
  unfolding own pairs
  own_step client x xs true e so = rw e (ap (λ (l : List Call). g x ∷ l) so)
  own_step client x xs false e so = rw e so

  own_is : (client : ℕ) (xs : List X) → own client (pairs xs) ≡ map g (filter (λ x. f x == client) xs)
  unfolding own pairs
  own_is client [] = refl
  own_is client (x ∷ xs) = own_step client x xs (f x == client) refl (own_is client xs)

  second_is : (xs : List X) → map (λ (p : ℕ × Call). p.1) (pairs xs) ≡ map g xs
  unfolding pairs
  second_is [] = refl
  second_is (x ∷ xs) = ap (λ (l : List Call). g x ∷ l) (second_is xs)

-- the same calls by the same clients: the same ones of each client, the same in all, and as many
module _ {X Y : Type 0} (f : X → ℕ) (g : X → Call) (f' : Y → ℕ) (g' : Y → Call) (xs : List X) (ys : List Y) (same : map {B = ℕ × Call} (λ x. (f x, g x)) xs ≡ map {B = ℕ × Call} (λ y. (f' y, g' y)) ys) where
  same_own : (client : ℕ) → map g (filter (λ x. f x == client) xs) ≡ map g' (filter (λ y. f' y == client) ys)
  unfolding pairs
  same_own client = sym (own_is f g client xs) ∙ (ap (own client) same ∙ own_is f' g' client ys)

  same_calls : map g xs ≡ map g' ys
  unfolding pairs
  same_calls = sym (second_is f g xs) ∙ (ap (map (λ (p : ℕ × Call). p.1)) same ∙ second_is f' g' ys)

  same_length : length xs ≡ length ys
  same_length =
      let one : X → ℕ × Call = λ x. (f x, g x) in
      let two : Y → ℕ × Call = λ y. (f' y, g' y) in
      sym (length-map xs one) ∙ (ap length same ∙ length-map ys two)

by_append : (client : ℕ) (a b : List Entry) → calls_by client (a ++ b) ≡ calls_by client a ++ calls_by client b
by_append client a b =
    let p : Entry → Bool = λ (e : Entry). e.client == client in
    ap entry_calls (filter-append p a b) ∙ map-append (λ (e : Entry). e.call) (filter p a) (filter p b)

client_append : (client : ℕ) (a b : List CallView) → client_calls client (a ++ b) ≡ client_calls client a ++ client_calls client b
client_append client a b =
    let p : CallView → Bool = λ (c : CallView). c.client == client in
    ap calls_in (filter-append p a b) ∙ map-append (λ (c : CallView). c.call) (filter p a) (filter p b)

-- ---- the whole

-- what is known of the slices that are handed in
pub whole_is : (setup : SetupView) (first : ℕ) (replies given : List Reply) (later seen h : List Entry) → given ≡ replies → seen ≡ later → length replies ≡ count_first first setup
    → IsWhole (take (length given) setup.calls) given seen h → IsWhole (first_calls first setup) replies later h
whole_is setup first replies given later seen h same shows many w =
    subst (λ (n : ℕ). IsWhole (take n setup.calls) replies later h) many
    (subst (λ (r : List Reply). IsWhole (take (length r) setup.calls) r later h) same
    (subst (λ (l : List Entry). IsWhole (take (length given) setup.calls) given l h) shows w))

module _ (first : ℕ) (setup : SetupView) (replies : List Reply) (later h : List Entry) (w : IsWhole (first_calls first setup) replies later h) where
  firsts : List CallView
  firsts = first_calls first setup

  rest : List CallView
  rest = drop (count_first first setup) setup.calls

  before_is : (client : ℕ) → calls_by client w.before ≡ client_calls client firsts
  unfolding firsts
  before_is client =
      same_own (λ (e : Entry). e.client) (λ (e : Entry). e.call) (λ (c : CallView). c.client) (λ (c : CallView). c.call) w.before firsts w.first.calls_are client

  behind_is : (client : ℕ) → calls_by client w.then.behind ≡ calls_by client later
  behind_is client =
      same_own (λ (e : Entry). e.client) (λ (e : Entry). e.call) (λ (e : Entry). e.client) (λ (e : Entry). e.call) w.then.behind later w.then.same.same client

  -- the calls of a client, and those of all
  joined : (client : ℕ) → calls_by client h ≡ client_calls client firsts ++ calls_by client later
  joined client =
      ap (calls_by client) w.then.is
      ∙ (by_append client w.before w.then.behind ∙ ap₂ (λ (a b : List Call). a ++ b) (before_is client) (behind_is client))

  split : (client : ℕ) → client_calls client setup.calls ≡ client_calls client firsts ++ client_calls client rest
  unfolding firsts rest
  split client =
      ap (client_calls client) (sym (take-append-drop (count_first first setup) setup.calls))
      ∙ client_append client (first_calls first setup) (drop (count_first first setup) setup.calls)

  pub calls_are : entry_calls h ≡ calls_in (first_calls first setup) ++ entry_calls later
  calls_are =
      ap entry_calls w.then.is
      ∙ (map-append (λ (e : Entry). e.call) w.before w.then.behind
      ∙ ap₂ (λ (a b : List Call). a ++ b)
      (same_calls (λ (e : Entry). e.client) (λ (e : Entry). e.call) (λ (c : CallView). c.client) (λ (c : CallView). c.call) w.before (first_calls first setup) w.first.calls_are)
      (same_calls (λ (e : Entry). e.client) (λ (e : Entry). e.call) (λ (e : Entry). e.client) (λ (e : Entry). e.call) w.then.behind later w.then.same.same))

  pub state_is : (p : ProfileName) → state_after p (state_begun p setup first) (entry_calls later) ≡ history_state p setup h
  state_is p =
      sym (state_after-append p (boot p setup.plan) (calls_in (first_calls first setup)) (entry_calls later))
      ∙ ap (state_after p (boot p setup.plan)) (sym calls_are)

  long : length h ≡ count_first first setup + length later
  long =
      let a = ap length w.then.is ∙ length-append w.before w.then.behind in
      let b = same_length (λ (e : Entry). e.client) (λ (e : Entry). e.call) (λ (c : CallView). c.client) (λ (c : CallView). c.call) w.before (first_calls first setup) w.first.calls_are in
      let d = same_length (λ (e : Entry). e.client) (λ (e : Entry). e.call) (λ (e : Entry). e.client) (λ (e : Entry). e.call) w.then.behind later w.then.same.same in
      let n = length-take-le (count_first first setup) setup.calls (omega arith) in
      omega arith

  module _ (ends : ℕ → ℕ → Type 0) (p : ProfileName) (answered : replies ≡ replies_of p (boot p setup.plan) (calls_in (first_calls first setup)))
      (run : IsSharedFrom ends p (state_begun p setup first) (drop (count_first first setup) setup.calls) (setup.limit - count_first first setup) later) where
    replies_are : replies_in h ≡ replies_of p (boot p setup.plan) (entry_calls h)
    replies_are =
        ap replies_in w.then.is
        ∙ (map-append (λ (e : Entry). e.reply) w.before w.then.behind
        ∙ (ap₂ (λ (a b : List Reply). a ++ b) (w.first.replies_are ∙ answered) (w.then.same.replies ∙ run.replies)
        ∙ (sym (replies_of-append p (boot p setup.plan) (calls_in (first_calls first setup)) (entry_calls later))
        ∙ ap (replies_of p (boot p setup.plan)) (sym calls_are))))

    beginnings_are : (client : ℕ) → IsBeginning (calls_by client h) (client_calls client setup.calls)
    unfolding rest
    beginnings_are client =
        let b = run.beginnings client in
        let one = client_calls client firsts in
        let two = calls_by client later in (
          b.0,
          split client ∙ (ap (λ (l : List Call). one ++ l) b.1 ∙ (sym (append_assoc one two b.0) ∙ ap (λ (l : List Call). l ++ b.0) (sym (joined client)))),
        )

    all_made : (client : ℕ) → calls_by client later ≡ client_calls client (drop (count_first first setup) setup.calls) → calls_by client h ≡ client_calls client setup.calls
    unfolding rest
    all_made client all = joined client ∙ (ap (λ (l : List Call). client_calls client firsts ++ l) all ∙ sym (split client))

    pub shared_run_is : IsSharedRun ends first p setup h
    shared_run_is =
        let n = long in
        let m = length-drop (count_first first setup) setup.calls in record {
          before = w.before;
          behind = w.then.behind;
          is = w.then.is;
          first_made = w.first.calls_are;
          replies = replies_are;
          numbered = w.numbered;
          within = let s = run.within in omega arith;
          beginnings = beginnings_are;
          unless_full = λ room client.
              or_map (all_made client) (λ (e : ends client (length (calls_by client later))). subst (λ (l : List Call). ends client (length l)) (sym (behind_is client)) e)
              (run.unless_full (omega arith) client);
          whole = λ same client. all_made client (run.whole (omega arith) client);
        }
