-- Words tell what they spell, and where it ends.
use Rattle.std.proofs.Common.{◌≡◌, ℕ, zero, suc, Bool, true, false, List, [], ◌∷◌, ◌++◌, length, Option, Some, None, refl, ap, sym, ◌∙◌, append_assoc, arith}
use Rattle.std.specs.List.{AllByRecursion as Each}
use Rattle.cap_core.specs.declared.capability.Cap.{Cap}
use Rattle.cap_core.specs.declared.capability.Cap.TheVariants.{Null, Untyped, Endpoint, CNode, Tcb}
use Rattle.cap_core.specs.declared.capability.Badge.{Badge}
use Rattle.cap_core.specs.declared.message.Message.{Message}
use Rattle.kernel_forest.specs.Entries.{Entry}
use Rattle.ipc_core.specs.declared.waiter.Waiter.{Waiter}
use Rattle.ipc_core.specs.declared.waiter.Waiter.TheVariants.{Sender, Receiver}
use Rattle.kernel_abstract.specs.declared.call.ThreadState.{ThreadState}
use Rattle.kernel_abstract.specs.declared.call.ThreadState.TheVariants.{Ready, Inactive, Sending, Receiving}
use Rattle.kernel_abstract.specs.declared.call.Inbox.{Inbox}
use Rattle.kernel_abstract.specs.Shown.{Shown, state_at, inbox_at, waiting_at}
use Rattle.query_orders.specs.Words.{listed, bit, parent_words, cap_words, message_words, thread_state_words, inbox_words, waiter_words, object_words, slot_words}

-- the first word, and the others
abbrev first : List ℕ → ℕ
first [] = 0
first (n ∷ ns) = n

abbrev rest : List ℕ → List ℕ
rest [] = []
rest (n ∷ ns) = ns

clash : ◌≡◌ {A = ℕ} 0 1 → ⊥
clash h = omega (arith, h)

none_longer : (n : ℕ) → ◌≡◌ {A = ℕ} 0 (suc n) → ⊥
none_longer n h = omega (arith, h)

-- lists, where what is words_of of one element tells it, and more
pub listed_tells : {X : Type 0} (c d : X → List ℕ) (P : X → Type 0) → ((x y : X) (us vs : List ℕ) → c x ++ us ≡ d y ++ vs → (x ≡ y) × ((us ≡ vs) × P x)) →
    (xs ys : List X) (us vs : List ℕ) → listed c xs ++ us ≡ listed d ys ++ vs → (xs ≡ ys) × ((us ≡ vs) × Each P xs)
listed_tells c d P tells [] [] us vs h = (refl, (ap rest h, tt))
listed_tells c d P tells [] (y ∷ ys) us vs h = absurd (clash (ap first h))
listed_tells c d P tells (x ∷ xs) [] us vs h = absurd (clash (sym (ap first h)))
listed_tells c d P tells (x ∷ xs) (y ∷ ys) us vs h =
    let r = tells x y (listed c xs ++ us) (listed d ys ++ vs) (sym (append_assoc (c x) (listed c xs) us) ∙ ap rest h ∙ append_assoc (d y) (listed d ys) vs) in
    let s = listed_tells c d P tells xs ys us vs r.1.0 in
    (ap (λ z. z ∷ xs) r.0 ∙ ap (λ l. y ∷ l) s.0, (s.1.0, (r.1.1, s.1.1)))

-- words of a length that is told
words_tell : (ms ns us vs : List ℕ) → length ms ≡ length ns → ms ++ us ≡ ns ++ vs → (ms ≡ ns) × (us ≡ vs)
words_tell [] [] us vs l h = (refl, h)
words_tell [] (n ∷ ns) us vs l h = absurd (none_longer (length ns) l)
words_tell (m ∷ ms) [] us vs l h = absurd (none_longer (length ms) (sym l))
words_tell (m ∷ ms) (n ∷ ns) us vs l h =
    let r = words_tell ms ns us vs (omega (arith, l)) (ap rest h) in
    (ap (λ z. z ∷ ms) (ap first h) ∙ ap (λ k. n ∷ k) r.0, r.1)

abbrev bit_of : ℕ → Bool
bit_of zero = false
bit_of (suc n) = true

bit_read : (b : Bool) → bit_of (bit b) ≡ b
bit_read true = refl
bit_read false = refl

bit_tells : (a b : Bool) → bit a ≡ bit b → a ≡ b
bit_tells a b h = sym (bit_read a) ∙ ap bit_of h ∙ bit_read b

-- a parent
abbrev read_parent : List ℕ → Option ℕ × List ℕ
read_parent (zero ∷ s ∷ us) = (None, us)
read_parent (suc n ∷ s ∷ us) = (Some s, us)
read_parent other = (None, other)

parent_read : (o : Option ℕ) (us : List ℕ) → read_parent (parent_words o ++ us) ≡ (o, us)
parent_read None us = refl
parent_read (Some s) us = refl

pub parent_tells : (a b : Option ℕ) (us vs : List ℕ) → parent_words a ++ us ≡ parent_words b ++ vs → (a ≡ b) × (us ≡ vs)
parent_tells a b us vs h =
    let p = sym (parent_read a us) ∙ ap read_parent h ∙ parent_read b vs in
    (ap (λ (x : Option ℕ × List ℕ). x.0) p, ap (λ (x : Option ℕ × List ℕ). x.1) p)

-- a capability
abbrev cap_with : ℕ → ℕ → ℕ → ℕ → ℕ → Cap
cap_with zero a b c d = Null
cap_with (suc zero) a b c d = Untyped a b c
cap_with (suc (suc zero)) a b c d = Endpoint a (record { 0 = b }) (record { 0 = c })
cap_with (suc (suc (suc zero))) a b c d = CNode a b (record { value = c; size = d })
cap_with other a b c d = Tcb a

abbrev read_cap : List ℕ → Cap × List ℕ
read_cap (k ∷ a ∷ b ∷ c ∷ d ∷ us) = (cap_with k a b c d, us)
read_cap other = (Null, other)

cap_read : (x : Cap) (us : List ℕ) → read_cap (cap_words x ++ us) ≡ (x, us)
cap_read Null us = refl
cap_read (Untyped base bits free) us = refl
cap_read (Endpoint base badge rights) us = refl
cap_read (CNode base radix guard) us = refl
cap_read (Tcb base) us = refl

pub cap_tells : (a b : Cap) (us vs : List ℕ) → cap_words a ++ us ≡ cap_words b ++ vs → (a ≡ b) × (us ≡ vs)
cap_tells a b us vs h =
    let p = sym (cap_read a us) ∙ ap read_cap h ∙ cap_read b vs in
    (ap (λ (x : Cap × List ℕ). x.0) p, ap (λ (x : Cap × List ℕ). x.1) p)

-- a state
abbrev state_with : ℕ → ℕ → Option ThreadState
state_with zero e = None
state_with (suc zero) e = Some Ready
state_with (suc (suc zero)) e = Some Inactive
state_with (suc (suc (suc zero))) e = Some (Sending e)
state_with other e = Some (Receiving e)

abbrev read_state : List ℕ → Option ThreadState × List ℕ
read_state (k ∷ e ∷ us) = (state_with k e, us)
read_state other = (None, other)

state_read : (x : Option ThreadState) (us : List ℕ) → read_state (thread_state_words x ++ us) ≡ (x, us)
state_read None us = refl
state_read (Some Ready) us = refl
state_read (Some Inactive) us = refl
state_read (Some (Sending e)) us = refl
state_read (Some (Receiving e)) us = refl

pub state_tells : (a b : Option ThreadState) (us vs : List ℕ) → thread_state_words a ++ us ≡ thread_state_words b ++ vs → (a ≡ b) × (us ≡ vs)
state_tells a b us vs h =
    let p = sym (state_read a us) ∙ ap read_state h ∙ state_read b vs in
    (ap (λ (x : Option ThreadState × List ℕ). x.0) p, ap (λ (x : Option ThreadState × List ℕ). x.1) p)

-- a message
message_is : (a b : Message) → a.label ≡ b.label → a.words ≡ b.words → a.count ≡ b.count → a ≡ b
message_is a b p q r =
    ap (λ x. let m : Message = record { label = x; words = a.words; count = a.count } in m) p
    ∙ ap (λ x. let m : Message = record { label = b.label; words = x; count = a.count } in m) q
    ∙ ap (λ x. let m : Message = record { label = b.label; words = b.words; count = x } in m) r

pub message_tells : (a b : Message) (us vs : List ℕ) → message_words a ++ us ≡ message_words b ++ vs → (a ≡ b) × (us ≡ vs)
message_tells a b us vs h =
    let r = words_tell a.words b.words us vs (ap (λ l. first (rest (rest l))) h) (ap (λ l. rest (rest (rest l))) h) in
    (message_is a b (ap first h) r.0 (ap (λ l. first (rest l)) h), r.1)

badge_is : (a b : Badge) → a.0 ≡ b.0 → a ≡ b
badge_is a b p = ap (λ x. let m : Badge = record { 0 = x } in m) p

inbox_is : (a b : Inbox) → a.badge ≡ b.badge → a.message ≡ b.message → a ≡ b
inbox_is a b p q =
    ap (λ x. let m : Inbox = record { badge = x; message = a.message } in m) p
    ∙ ap (λ x. let m : Inbox = record { badge = b.badge; message = x } in m) q

pub inbox_tells : (a b : Option Inbox) (us vs : List ℕ) → inbox_words a ++ us ≡ inbox_words b ++ vs → (a ≡ b) × (us ≡ vs)
inbox_tells None None us vs h = (refl, ap rest h)
inbox_tells None (Some y) us vs h = absurd (clash (ap first h))
inbox_tells (Some x) None us vs h = absurd (clash (sym (ap first h)))
inbox_tells (Some x) (Some y) us vs h =
    let r = message_tells x.message y.message us vs (ap (λ l. rest (rest l)) h) in
    (ap (λ (z : Inbox). Some z) (inbox_is x y (badge_is x.badge y.badge (ap (λ l. first (rest l)) h)) r.0), r.1)

-- who waits
pub waiter_tells : (a b : Waiter) (us vs : List ℕ) → waiter_words a ++ us ≡ waiter_words b ++ vs → (a ≡ b) × (us ≡ vs)
waiter_tells (Receiver t) (Receiver s) us vs h = (ap (λ n. Receiver n) (ap (λ l. first (rest l)) h), ap (λ l. rest (rest l)) h)
waiter_tells (Receiver t) (Sender s b m) us vs h = absurd (clash (ap first h))
waiter_tells (Sender t a k) (Receiver s) us vs h = absurd (clash (sym (ap first h)))
waiter_tells (Sender t a k) (Sender s b m) us vs h =
    let r = message_tells k m us vs (ap (λ l. rest (rest (rest l))) h) in (
      ap (λ n. Sender n a k) (ap (λ l. first (rest l)) h)
          ∙ ap (λ c. Sender s c k) (badge_is a b (ap (λ l. first (rest (rest l))) h))
          ∙ ap (λ c. Sender s b c) r.0,
      r.1,
    )

-- the object that a capability names does the same in both
abbrev pub Alike : Shown → Shown → Cap → Type 0
Alike v w Null = Unit {0}
Alike v w (Untyped base bits free) = Unit {0}
Alike v w (Endpoint base badge rights) = waiting_at v base ≡ waiting_at w base
Alike v w (CNode base radix guard) = Unit {0}
Alike v w (Tcb base) = (state_at v base ≡ state_at w base) × (inbox_at v base ≡ inbox_at w base)

object_tells : (v w : Shown) (x : Cap) (us vs : List ℕ) → object_words v x ++ us ≡ object_words w x ++ vs → (us ≡ vs) × Alike v w x
object_tells v w Null us vs h = (h, tt)
object_tells v w (Untyped base bits free) us vs h = (h, tt)
object_tells v w (CNode base radix guard) us vs h = (h, tt)
object_tells v w (Endpoint base badge rights) us vs h =
    let r = listed_tells waiter_words waiter_words (λ x. Unit {0}) (λ x y ks ls e. let t = waiter_tells x y ks ls e in (t.0, (t.1, tt))) (waiting_at v base) (waiting_at w base) us vs h in
    (r.1.0, r.0)
object_tells v w (Tcb base) us vs h =
    let s = state_tells (state_at v base) (state_at w base) (inbox_words (inbox_at v base) ++ us) (inbox_words (inbox_at w base) ++ vs)
    (sym (append_assoc (thread_state_words (state_at v base)) (inbox_words (inbox_at v base)) us) ∙ h ∙ append_assoc (thread_state_words (state_at w base)) (inbox_words (inbox_at w base)) vs) in
    let r = inbox_tells (inbox_at v base) (inbox_at w base) us vs s.1 in
    (r.1, (s.0, r.0))

entry_is : (x y : Entry × Option ℕ) → x.0.slot ≡ y.0.slot → x.0.cap ≡ y.0.cap → x.0.original ≡ y.0.original → x.1 ≡ y.1 → x ≡ y
entry_is x y p q r s =
    ap (λ n. let e : Entry = record { slot = n; cap = x.0.cap; original = x.0.original } in (e, x.1)) p
    ∙ ap (λ c. let e : Entry = record { slot = y.0.slot; cap = c; original = x.0.original } in (e, x.1)) q
    ∙ ap (λ b. let e : Entry = record { slot = y.0.slot; cap = y.0.cap; original = b } in (e, x.1)) r
    ∙ ap (λ o. (y.0, o)) s

pub slot_tells : (v w : Shown) (x y : Entry × Option ℕ) (us vs : List ℕ) → slot_words v x ++ us ≡ slot_words w y ++ vs → (x ≡ y) × ((us ≡ vs) × Alike v w x.0.cap)
slot_tells v w x y us vs h =
    let cx = cap_words x.0.cap in
    let cy = cap_words y.0.cap in
    let ox = object_words v x.0.cap in
    let oy = object_words w y.0.cap in
    let p = parent_tells x.1 y.1 ((cx ++ ox) ++ us) ((cy ++ oy) ++ vs)
    (sym (append_assoc (parent_words x.1) (cx ++ ox) us) ∙ ap (λ l. rest (rest l)) h ∙ append_assoc (parent_words y.1) (cy ++ oy) vs) in
    let c = cap_tells x.0.cap y.0.cap (ox ++ us) (oy ++ vs) (sym (append_assoc cx ox us) ∙ p.1 ∙ append_assoc cy oy vs) in
    let o = object_tells v w x.0.cap us vs (c.1 ∙ ap (λ z. object_words w z ++ vs) (sym c.0)) in
    (entry_is x y (ap first h) c.0 (bit_tells x.0.original y.0.original (ap (λ l. first (rest l)) h)) p.0, o)
