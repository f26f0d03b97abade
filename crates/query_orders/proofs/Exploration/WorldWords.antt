-- The words of a world tell how many calls are made, which wait, and what is shown.
use Rattle.std.proofs.Common.{◌≡◌, ℕ, true, List, [], ◌∷◌, ◌++◌, ap, ◌∙◌}
use Rattle.std.specs.Prelude.{nat_eq}
use Rattle.std.specs.Cmp.Lexicographic.{pointwise}
use Rattle.std.proofs.lemmas.Slice.Eq.{bytes_eq-Decides}
use Rattle.cap_core.specs.declared.profile.ProfileName.{ProfileName}
use Rattle.kernel_abstract.specs.Shown.{Shown}
use Rattle.kernel_abstract.specs.State.{shown}
use Rattle.kernel_abstract.specs.Reached.{IsReached}
use Rattle.query_orders.specs.Words.{listed, shown_words}
use Rattle.query_orders.proofs.KernelWords.Codes.{listed_tells}
use Rattle.query_orders.proofs.KernelWords.Telling.{tells}
use Rattle.query_orders.specs.declared.answer.WaitingCall.{WaitingCall}
use Rattle.query_orders.specs.World.{World}
use Rattle.query_orders.specs.Nodes.{wait_words, state_words, world_words}

abbrev first : List ℕ → ℕ
first [] = 0
first (n ∷ ns) = n

abbrev rest : List ℕ → List ℕ
rest [] = []
rest (n ∷ ns) = ns

number_tells : (m n : ℕ) (us vs : List ℕ) → (m ∷ []) ++ us ≡ (n ∷ []) ++ vs → (m ≡ n) × ((us ≡ vs) × Unit {0})
number_tells m n us vs h = (ap first h, (ap rest h, tt))

wait_is : (a b : WaitingCall) → a.thread ≡ b.thread → a.client ≡ b.client → a.place ≡ b.place → a ≡ b
wait_is a b p q r =
    ap (λ x. let m : WaitingCall = record { thread = x; client = a.client; place = a.place } in m) p
    ∙ ap (λ x. let m : WaitingCall = record { thread = b.thread; client = x; place = a.place } in m) q
    ∙ ap (λ x. let m : WaitingCall = record { thread = b.thread; client = b.client; place = x } in m) r

wait_tells : (a b : WaitingCall) (us vs : List ℕ) → wait_words a ++ us ≡ wait_words b ++ vs → (a ≡ b) × ((us ≡ vs) × Unit {0})
wait_tells a b us vs h =
    (wait_is a b (ap first h) (ap (λ l. first (rest l)) h) (ap (λ l. first (rest (rest l))) h), (ap (λ l. rest (rest (rest l))) h, tt))

-- worlds that nothing that is kept tells apart
pub record Alike (v w : World) : Type 0 where
  pub made : v.made ≡ w.made
  pub waits : v.waits ≡ w.waits
  pub shows : shown v.kernel ≡ shown w.kernel

pub words_same : (p : ProfileName) (v w : World) → IsReached p v.kernel → IsReached p w.kernel → pointwise nat_eq (world_words v) (world_words w) ≡ true → Alike v w
words_same p v w r s h =
    let e : world_words v ≡ world_words w = (bytes_eq-Decides (world_words v) (world_words w)).0 h in
    let a = listed_tells (λ n. n ∷ []) (λ n. n ∷ []) (λ _. Unit {0}) number_tells v.made w.made (listed wait_words v.waits ++ shown_words (shown v.kernel)) (listed wait_words w.waits ++ shown_words (shown w.kernel)) e in
    let b = listed_tells wait_words wait_words (λ _. Unit {0}) wait_tells v.waits w.waits (shown_words (shown v.kernel)) (shown_words (shown w.kernel)) a.1.0 in
    record { made = a.0; waits = b.0; shows = tells p v.kernel w.kernel r s b.1.0 }

pub same_words : (v w : World) → Alike v w → pointwise nat_eq (world_words v) (world_words w) ≡ true
same_words v w a =
    (bytes_eq-Decides (world_words v) (world_words w)).1
    (ap (λ (l : List ℕ). state_words l v.waits (shown v.kernel)) a.made
    ∙ ap (λ (l : List WaitingCall). state_words w.made l (shown v.kernel)) a.waits
    ∙ ap (λ (x : Shown). state_words w.made w.waits x) a.shows)
