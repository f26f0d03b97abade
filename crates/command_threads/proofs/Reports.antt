-- What a settled book shows, and that its history is a run of the clients from the state of its opening.
use Rattle.std.proofs.Common.{◌≡◌, ℕ, ◌<◌, ◌≤◌, List, [], All, Vec, Global, Option, Result, Ok, Err, IfOk, IsOk, length, map, slice_get, Some, None, refl, ap, sym, ◌∙◌, subst}
use Rattle.std.proofs.lemmas.List.{length-map}
use Rattle.std.proofs.Props.{props}
use mathlib.Core.Logic.{∥∥₁_elim}
use Rattle.cap_core.specs.declared.profile.ProfileName.{ProfileName}
use Rattle.kernel_abstract.specs.declared.call.Call.{Call}
use Rattle.kernel_abstract.specs.declared.call.Reply.{Reply}
use Rattle.kernel_abstract.specs.Reached.{IsReached}
use Rattle.kernel_abstract.specs.Shown.{Shown}
use Rattle.kernel_abstract.specs.State.{State, shown}
use Rattle.kernel_abstract.specs.Step.{replies_of, state_after}
use Rattle.kernel_shared.specs.declared.entry.Entry.{Entry}
use Rattle.kernel_shared.specs.declared.driving.Stop.{Stop}
use Rattle.kernel_shared.specs.Driving.{EachThree, IsDriven}
use Rattle.kernel_shared.specs.Laws.{Lawful, StandsAfter, entry_calls, replies_in}
use Rattle.kernel_shared.specs.ClientStates.{ClientState, client_state}
use Rattle.setup_format.specs.Faults.{Fault}
use Rattle.setup_format.specs.Laws.{setup_in}
use Rattle.setup_format.specs.Setups.{read_of_bytes, setup_of_bytes}
use Rattle.setup_format.specs.Views.{CallView, ReadView, SetupView}
use Rattle.setup_format.proofs.Grammar.Reads.{reads_its_setup}
use Rattle.command_threads.specs.Private.Begun.{IsSharedFrom}
use Rattle.command_threads.specs.Private.Settled.{AreSettled, IsFinished}
use Rattle.command_threads.specs.SharedRuns.{client_calls}
use Rattle.command_threads.proofs.Histories.{IsMade, beginnings, each_made, unless_full, whole}

-- ---- the kernel of a book

text_set : (x y : List ℕ) → IsProp (x ≡ y)
text_set x y = hlevel props

-- a text of the kernel of a book is that of the state after the book's calls
pub book_shows : (p : ProfileName) (A : State) (o k : Shown) (later : List Entry) (text : Shown → List ℕ) → IsReached p A → o ≡ shown A → ∥ StandsAfter p o later k ∥₁
    → text k ≡ text (shown (state_after p A (entry_calls later)))
book_shows p A o k later text reached is b =
    ∥∥₁_elim b (text_set (text k) (text (shown (state_after p A (entry_calls later)))))
    (λ s. ap text (s.stands A reached is))

-- ---- the history of a book

replies_set : (x y : List Reply) → IsProp (x ≡ y)
replies_set x y = hlevel props

answered : (p : ProfileName) (A : State) (o : Shown) (h : List Entry) → IsReached p A → o ≡ shown A → ∥ Lawful p o h ∥₁ → replies_in h ≡ replies_of p A (entry_calls h)
answered p A o h reached is b =
    ∥∥₁_elim b (replies_set (replies_in h) (replies_of p A (entry_calls h)))
    (λ l. l.answered A reached is)

-- ---- the whole

run_is : (ends : ℕ → ℕ → Type 0) (p : ProfileName) (A : State) (calls : List CallView) (o : Shown) (limit : ℕ) (h : List Entry) (clients : List ClientState)
    → IsReached p A → o ≡ shown A
    → All (λ (c : CallView). c.client < length clients) calls
    → ∥ Lawful p o h ∥₁ → length h ≤ limit → AreSettled h clients
    → ((i : ℕ) (t : ClientState) → slice_get clients i ≡ Some t → IsMade ends calls limit i t) → IsSharedFrom ends p A calls limit h
run_is ends p A calls o limit h clients reached is few law short settled each = record {
  replies = answered p A o h reached is law;
  within = short;
  beginnings = beginnings ends calls limit h clients settled each;
  unless_full = λ room. unless_full ends calls limit h clients settled each few room;
  whole = whole ends calls limit h clients settled each;
}

-- a history that was settled with the clients of a drive
pub run_settled : {N T D : Type 0} (ends : ℕ → ℕ → Type 0) (p : ProfileName) (A : State) (calls : List CallView) (o : Shown) (limit many_clients : ℕ) (client : D → ClientState) (many : D → ℕ) (stopped : D → Option (Stop N T)) (olds : List ClientState) (lists : List (Vec Call Global)) (driven : List D) (h : List Entry)
    → IsReached p A → o ≡ shown A
    → All (λ (c : CallView). c.client < many_clients) calls → length olds ≡ many_clients → length lists ≡ length olds → length driven ≡ length olds
    → ((i : ℕ) (t : ClientState) → slice_get olds i ≡ Some t → t ≡ client_state i 0 [] None)
    → ((i : ℕ) (l : Vec Call Global) → slice_get lists i ≡ Some l → l.items ≡ client_calls i calls)
    → EachThree olds lists driven (λ t l d. IsDriven ends limit t l.items (client d) (many d) (stopped d))
    → All (λ d. IsFinished (stopped d)) driven
    → ∥ Lawful p o h ∥₁ → length h ≤ limit → AreSettled h (map client driven) → IsSharedFrom ends p A calls limit h
run_settled ends p A calls o limit many_clients client many stopped olds lists driven h reached is within n a b first listed ran finished law short settled =
    let few : length (map client driven) ≡ many_clients = length-map driven client ∙ (b ∙ n) in
    run_is ends p A calls o limit h (map client driven) reached is
    (subst (λ k. All (λ (c : CallView). c.client < k) calls) (sym few) within)
    law short settled
    (each_made ends calls limit client many stopped (λ (l : Vec Call Global). l.items) olds lists driven a b first listed ran settled.whole finished)

pub ok_both : {A F : Type 0} (P Q R : A → Type 0) (r : Result A F) → IfOk r P → IfOk r Q → ((v : A) → P v → Q v → R v) → IfOk r R
ok_both P Q R (Ok v) p q f = f v p q
ok_both P Q R (Err e) p q f = tt

-- ---- bytes that were read are those of a set-up

pub accepted_is : (bytes : List ℕ) (read : ReadView) → read_of_bytes bytes ≡ Ok read → IsOk (setup_of_bytes bytes)
accepted_is bytes read is =
    subst (λ (r : Result SetupView Fault). IsOk r) (reads_its_setup bytes) (subst (λ (r : Result ReadView Fault). IsOk (setup_in r)) (sym is) refl)
