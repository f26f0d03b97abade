-- What the clients of a settled history made stands in it.
use Rattle.std.proofs.Common.{◌≡◌, ℕ, zero, suc, ◌+◌, ◌<◌, ◌≤◌, ◌==◌, nat_lt, Bool, true, false, List, [], ◌∷◌, ◌++◌, All, filter, length, take, map, get_or, slice_get, option_map, Option, Some, None, refl, ap, sym, ◌∙◌, subst, arith, length-append}
use Rattle.std.proofs.lemmas.Bool.Decides.{nat_tests}
use Rattle.std.proofs.lemmas.List.{append-nil, take_all, length-map, length-take-le}
use Rattle.std.proofs.lemmas.Option.{slice_get-get_or, slice_get_within, slice_get-map, get_or_from_slice_get}
use Rattle.std.specs.List.{sum_by}
use mathlib.Core.Logic.{◌⊎◌, inl, inr}
use Rattle.kernel_abstract.specs.declared.call.Call.{Call}
use Rattle.kernel_shared.specs.declared.entry.Entry.{Entry}
use Rattle.kernel_shared.specs.Laws.{entry_calls}
use Rattle.kernel_shared.specs.ClientStates.{ClientState, client_state, is_earlier_entry, client_calls_made, lost_calls, newly_lost, made}
use Rattle.kernel_shared.specs.declared.driving.Stop.{Stop}
use Rattle.kernel_shared.specs.declared.driving.Stop.TheVariants.{Gate, Fault}
use Rattle.kernel_shared.specs.declared.fault.SharedFault.TheVariants.{Full, Stray, NameTaken, Memory, NoEntry}
use Rattle.kernel_shared.specs.Driving.{EachThree, IsClientRun, IsDriven}
use Rattle.setup_format.specs.Views.{CallView}
use Rattle.command_threads.specs.SharedRuns.{client_calls, calls_by, IsBeginning}
use Rattle.command_threads.specs.Private.Settled.{AreSettled, IsFinished}
use Rattle.kernel_lists.specs.Shares.{total, HasMade}
use Rattle.kernel_lists.proofs.Counting.{total-sum_by}
use Rattle.kernel_lists.proofs.Shares.{each_begins, carry_all, carry_whole, counts_whole, no_more}

-- The client's own entries in what it saw, below the number of calls that were answered, carry the first of its calls. All
-- were answered where what it saw has fewer entries than the limit, or the gate may end it before the next.
pub record IsMade (ends : ℕ → ℕ → Type 0) (calls : List CallView) (limit i : ℕ) (t : ClientState) : Type 0 where
  pub id : t.id ≡ i
  pub carry : entry_calls (filter (is_earlier_entry t.id t.done) t.front) ≡ take t.done (client_calls i calls)
  pub within : t.done ≤ length (client_calls i calls)
  pub finished : length t.front < limit → (t.done ≡ length (client_calls i calls)) ⊎ ends i t.done

pub or_map : {A B C D : Type 0} → (A → C) → (B → D) → A ⊎ B → C ⊎ D
or_map f g (inl a) = inl (f a)
or_map f g (inr b) = inr (g b)

-- where a client finished and saw fewer entries than the limit, all of its calls were answered, or the gate ended it
all_answered : {N T : Type 0} (ends : ℕ → ℕ → Type 0) (limit : ℕ) (old : ClientState) (own : List Call) (new : ClientState) (n : ℕ) (stopped : Option (Stop N T)) → IsDriven ends limit old own new n stopped → IsFinished stopped → length new.front < limit → (n ≡ length own) ⊎ ends new.id new.done
all_answered ends limit old own new n None driven finished room = inl (driven.ended.0 refl)
all_answered ends limit old own new n (Some (Fault Full)) driven finished room = absurd (let full : length new.front ≡ limit = driven.told.0 in omega arith)
all_answered ends limit old own new n (Some Gate) driven finished room = inr driven.told
all_answered ends limit old own new n (Some (Fault (Stray front))) driven finished room = absurd finished
all_answered ends limit old own new n (Some (Fault (NameTaken front))) driven finished room = absurd finished
all_answered ends limit old own new n (Some (Fault Memory)) driven finished room = absurd finished
all_answered ends limit old own new n (Some (Fault NoEntry)) driven finished room = absurd finished

-- a client that had seen nothing, after its run
pub made_by : {N T : Type 0} (ends : ℕ → ℕ → Type 0) (calls : List CallView) (limit i : ℕ) (old : ClientState) (own : List Call) (new : ClientState) (n : ℕ) (stopped : Option (Stop N T))
    → old ≡ client_state i 0 [] None → own ≡ client_calls i calls → new.stray ≡ None → IsDriven ends limit old own new n stopped → IsFinished stopped → IsMade ends calls limit i new
made_by ends calls limit i old own new n stopped is list whole driven finished =
    let first : IsClientRun (client_state i 0 [] None) own new n = subst (λ (t : ClientState). IsClientRun t own new n) is driven.run in
    let done : new.done ≡ n = let d = first.done in omega arith in
    let lost : length (newly_lost None new.stray) ≡ 0 = ap (λ (s : _). length (newly_lost None s)) whole in
    let many : n + length (newly_lost None new.stray) ≡ new.done = omega arith in
    let grown : client_calls_made new ≡ take new.done own = first.grown ∙ ap (λ k. take k own) many in
    let kept : client_calls_made new ≡ entry_calls (filter (is_earlier_entry new.id new.done) new.front) =
    ap (λ (s : _). entry_calls (filter (is_earlier_entry new.id new.done) new.front) ++ lost_calls s) whole ∙ append-nil (entry_calls (filter (is_earlier_entry new.id new.done) new.front)) in
    record {
      id = first.id;
      carry = sym kept ∙ grown ∙ ap (take new.done) list;
      within = subst (λ l. new.done ≤ length l) list (let w = first.within in omega arith);
      finished = λ room. or_map (λ (all : n ≡ length own). done ∙ (all ∙ ap length list)) (λ (e : ends new.id new.done). subst (λ k. ends k new.done) first.id e) (all_answered ends limit old own new n stopped driven finished room);
    }

none_pass : {X : Type 0} (p : X → Bool) (xs : List X) → All (λ x. p x ≡ false) xs → filter p xs ≡ []
none_pass p [] all = refl
none_pass p (x ∷ xs) all = rw (all 0 x (omega arith)) (none_pass p xs (λ k d lt. all (suc k) d (omega arith)))

-- where each call's client is below a number, no other client has calls
none_beyond : (calls : List CallView) (n i : ℕ) → n ≤ i → All (λ (c : CallView). c.client < n) calls → client_calls i calls ≡ []
none_beyond calls n i le all =
    ap (map (λ (c : CallView). c.call)) (none_pass (λ (c : CallView). c.client == i) calls (λ k d lt. let below = all k d lt in grind (arith, nat_tests)))

module _ (ends : ℕ → ℕ → Type 0) (calls : List CallView) (limit : ℕ) (h : List Entry) (clients : List ClientState) (settled : AreSettled h clients) (each : (i : ℕ) (t : ClientState) → slice_get clients i ≡ Some t → IsMade ends calls limit i t) where
  client : ℕ → ClientState
  client i = get_or clients i (client_state 0 0 [] None)

  done : ℕ → ℕ
  done i = made (client i)

  has_made : (i : ℕ) → i < length clients → HasMade (λ (e : Entry). e.client) (λ (e : Entry). e.call) h i (done i) (client_calls i calls)
  unfolding done client
  has_made i lt =
      let d : ClientState = client_state 0 0 [] None in
      let t : ClientState = get_or clients i d in
      let at : slice_get clients i ≡ Some t = slice_get-get_or clients i d lt in
      let is = each i t at in
      let s = settled.fronts i t at in
      let whole : t.stray ≡ None = settled.whole i d lt in
      let many : made t ≡ t.done = ap (λ (l : _). t.done + length (lost_calls l)) whole ∙ (let z : t.done + 0 ≡ t.done = omega arith in z) in
      record {
        front = t.front;
        rest = s.rest;
        passes = λ e. nat_lt e.number t.done;
        begins = s.is;
        carry = subst (λ k. entry_calls (filter (is_earlier_entry k t.done) t.front) ≡ take (made t) (client_calls i calls)) is.id (is.carry ∙ ap (λ k. take k (client_calls i calls)) (sym many));
        within = let w = is.within in omega arith;
      }

  sums : length h ≤ total (length clients) done
  unfolding done client
  sums =
      let e = total-sum_by made clients (client_state 0 0 [] None) (length clients) (omega arith) in
      let a : sum_by made (take (length clients) clients) ≡ sum_by made clients = ap (sum_by made) (take_all (length clients) clients (omega arith)) in
      let s = settled.entries in
      omega arith

  pub beginnings : (i : ℕ) → IsBeginning (calls_by i h) (client_calls i calls)
  beginnings i = each_begins (λ (e : Entry). e.client) (λ (e : Entry). e.call) h (length clients) done (λ i. client_calls i calls) has_made sums i

  -- what a client made is all of its calls, or the gate may end it then, where the history has fewer entries than the limit
  all_done : length h < limit → (i : ℕ) → i < length clients → (length (client_calls i calls) ≤ done i) ⊎ ends i (done i)
  unfolding done client
  all_done room i lt =
      let d : ClientState = client_state 0 0 [] None in
      let t : ClientState = get_or clients i d in
      let at : slice_get clients i ≡ Some t = slice_get-get_or clients i d lt in
      let s = settled.fronts i t at in
      let long = ap length s.is ∙ length-append t.front s.rest in
      let many : made t ≡ t.done = ap (λ (l : _). t.done + length (lost_calls l)) (settled.whole i d lt) ∙ (let z : t.done + 0 ≡ t.done = omega arith in z) in
      or_map (λ (all : t.done ≡ length (client_calls i calls)). (let le : length (client_calls i calls) ≤ made t = omega arith in le)) (λ (e : ends i t.done). subst (ends i) (sym many) e) ((each i t at).finished (omega arith))

  -- as many of a client's calls stand in the history as it made
  stand : (i : ℕ) → i < length clients → calls_by i h ≡ take (done i) (client_calls i calls)
  stand i lt = carry_all (λ (e : Entry). e.client) (λ (e : Entry). e.call) h (length clients) done (λ i. client_calls i calls) has_made sums i lt

  counted : (i : ℕ) → i < length clients → length (calls_by i h) ≡ done i
  counted i lt = let w = (has_made i lt).within in ap length (stand i lt) ∙ length-take-le (done i) (client_calls i calls) w

  pub unless_full : All (λ (c : CallView). c.client < length clients) calls → length h < limit → (i : ℕ) → (calls_by i h ≡ client_calls i calls) ⊎ ends i (length (calls_by i h))
  unless_full bounded room i =
      elim (nat_lt i (length clients)) as (λ t. nat_lt i (length clients) ≡ t → (calls_by i h ≡ client_calls i calls) ⊎ ends i (length (calls_by i h))) [
        | true ↦ λ e. (let lt : i < length clients = grind (arith, nat_tests) in
            or_map (λ (all : length (client_calls i calls) ≤ done i). stand i lt ∙ take_all (done i) (client_calls i calls) all)
            (λ (e : ends i (done i)). subst (ends i) (sym (counted i lt)) e) (all_done room i lt))
        | false ↦ λ e. (let le : length clients ≤ i = grind (arith, nat_tests) in
            inl (ap (map (λ (e : Entry). e.call)) (no_more (λ (e : Entry). e.client) (λ (e : Entry). e.call) h (length clients) done (λ i. client_calls i calls) has_made sums i le)
            ∙ sym (none_beyond calls (length clients) i le bounded)))
      ] refl

  pub whole : length h ≡ length calls → (i : ℕ) → calls_by i h ≡ client_calls i calls
  whole same i =
      carry_whole (λ (e : Entry). e.client) (λ (e : Entry). e.call) (λ (c : CallView). c.client) (λ (c : CallView). c.call) h calls (length clients)
      (counts_whole (λ (e : Entry). e.client) (λ (e : Entry). e.call) h (length clients) done (λ i. client_calls i calls) has_made sums) same beginnings i

pub some_there : {C : Type 0} (zs : List C) (i : ℕ) → i < length zs → (z : C) × (slice_get zs i ≡ Some z)
some_there [] i lt = absurd (omega arith)
some_there (z ∷ zs) zero lt = (z, refl)
some_there (z ∷ zs) (suc i) lt = some_there zs i (omega arith)

some_same : {A : Type 0} (x y : A) → Some x ≡ Some y → x ≡ y
some_same x y e = cc

all_at : {A : Type 0} (P : A → Type 0) (xs : List A) (i : ℕ) (x : A) → All P xs → slice_get xs i ≡ Some x → P x
all_at P xs i x all at = subst P (get_or_from_slice_get xs i x x at) (all i x (slice_get_within xs i x at))

-- what each client made, by what is known of it before and after its run
pub each_made : {N T D L : Type 0} (ends : ℕ → ℕ → Type 0) (calls : List CallView) (limit : ℕ) (client : D → ClientState) (many : D → ℕ) (stopped : D → Option (Stop N T)) (own : L → List Call) (olds : List ClientState) (lists : List L) (driven : List D)
    → length lists ≡ length olds → length driven ≡ length olds
    → ((i : ℕ) (t : ClientState) → slice_get olds i ≡ Some t → t ≡ client_state i 0 [] None)
    → ((i : ℕ) (l : L) → slice_get lists i ≡ Some l → own l ≡ client_calls i calls)
    → EachThree olds lists driven (λ t l d. IsDriven ends limit t (own l) (client d) (many d) (stopped d))
    → All (λ (t : ClientState). t.stray ≡ None) (map client driven)
    → All (λ d. IsFinished (stopped d)) driven
    → (i : ℕ) (t : ClientState) → slice_get (map client driven) i ≡ Some t → IsMade ends calls limit i t
each_made ends calls limit client many stopped own olds lists driven a b first listed ran stray finished i t at =
    let lt : i < length driven = let w = slice_get_within (map client driven) i t at in let l = length-map driven client in omega arith in
    let old = some_there olds i (omega arith) in
    let l = some_there lists i (omega arith) in
    let d = some_there driven i lt in
    let same : client d.0 ≡ t = some_same (client d.0) t (sym (slice_get-map client driven i ∙ ap (option_map client) d.1) ∙ at) in
    let run = ran i old.0 l.0 d.0 old.1 l.1 d.1 in
    made_by ends calls limit i old.0 (own l.0) t (many d.0) (stopped d.0) (first i old.0 old.1) (listed i l.0 l.1) (all_at (λ (t : ClientState). t.stray ≡ None) (map client driven) i t stray at)
    (subst (λ (t : ClientState). IsDriven ends limit old.0 (own l.0) t (many d.0) (stopped d.0)) same run)
    (all_at (λ d. IsFinished (stopped d)) driven i d.0 finished d.1)
