-- The words of threads that lead to endpoints, and the channels between them.
use Rattle.std.proofs.Common.{◌≡◌, ℕ, zero, suc, ◌+◌, ◌<◌, ◌≤◌, refl, sym, ap, ◌∙◌, arith, Bool, false, cond, List, [], ◌∷◌, ◌++◌, length, take, get_or, map, filter, ◌==◌, Option, Some, None}
use Rattle.std.specs.List.{slice_get, cons_option, flat_map}
use Rattle.std.proofs.lemmas.List.{take_more, append-nil}
use Rattle.std.proofs.lemmas.List.Elements.{filter_map-append, filter-append}
use Rattle.cap_core.specs.declared.capability.Cap.{Cap}
use Rattle.cap_core.specs.declared.capability.Cap.TheVariants.{Null, Untyped, Endpoint, CNode, Tcb}
use Rattle.cap_core.specs.declared.capability.Badge.{Badge}
use Rattle.cap_core.specs.declared.rights.Rights.{Rights}
use Rattle.kernel_forest.specs.Forest.{Forest}
use Rattle.kernel_forest.specs.Entries.{Entry, cap_at}
use Rattle.query_reach.specs.declared.endpoints.EndpointWord.{EndpointWord}
use Rattle.query_reach.specs.declared.filled.FullSlot.{FullSlot}
use Rattle.query_reach.specs.declared.reached.Reached.{Reached}
use Rattle.query_reach.specs.FullSlots.{AreFullSlots}
use Rattle.query_reach.specs.declared.senders.Channel.{Channel}
use Rattle.query_reach.specs.Endpoints.{endpoint_word, endpoint_words}
use Rattle.query_reach.specs.Channels.{sends_by_word, is_between_two, other_words, channel, channels_of, channels}

pub no_endpoint : (thread : ℕ) (shared : Bool) (word : ℕ) (cap : Cap) → ((base : ℕ) (badge : Badge) (rights : Rights) → cap ≡ Endpoint base badge rights → ⊥) → endpoint_word thread shared word cap ≡ None
no_endpoint thread shared word Null none = refl
no_endpoint thread shared word (Untyped base bits free) none = refl
no_endpoint thread shared word (Endpoint base badge rights) none = absurd (none base badge rights refl)
no_endpoint thread shared word (CNode base radix guard) none = refl
no_endpoint thread shared word (Tcb base) none = refl

-- the capability at a place
pub held_there : (f : Forest Entry) (filled : List FullSlot) (place slot : ℕ) (u d : FullSlot) → AreFullSlots f filled → slice_get filled place ≡ Some u → u.address ≡ slot →
    get_or filled place d ≡ u → cap_at f slot ≡ (get_or filled place d).cap
held_there f filled place slot u d are holds at got = rw got (rw (← at) (sym (are.holds place u holds)))

words_more : (f : Forest Entry) (thread : ℕ) (shared : Bool) (list : List Reached) (i : ℕ) (d : Reached) → i < length list →
    endpoint_words f thread shared (take (i + 1) list)
    ≡ endpoint_words f thread shared (take i list) ++ cons_option (endpoint_word thread shared (get_or list i d).word (cap_at f (get_or list i d).slot)) []
words_more f thread shared list i d h =
    ap (endpoint_words f thread shared) (take_more list i d h)
    ∙ filter_map-append (λ (r : Reached). endpoint_word thread shared r.word (cap_at f r.slot)) (take i list) (get_or list i d ∷ [])

pub words_some : (f : Forest Entry) (thread : ℕ) (shared : Bool) (list : List Reached) (i : ℕ) (d : Reached) (found : EndpointWord) (out : List EndpointWord) → i < length list →
    out ≡ endpoint_words f thread shared (take i list) → Some found ≡ endpoint_word thread shared (get_or list i d).word (cap_at f (get_or list i d).slot) →
    out ++ found ∷ [] ≡ endpoint_words f thread shared (take (i + 1) list)
words_some f thread shared list i d found out h e e' =
    ap (λ (l : List EndpointWord). l ++ found ∷ []) e
    ∙ (ap (λ (o : Option EndpointWord). endpoint_words f thread shared (take i list) ++ cons_option o []) e' ∙ sym (words_more f thread shared list i d h))

pub words_none : (f : Forest Entry) (thread : ℕ) (shared : Bool) (list : List Reached) (i : ℕ) (d : Reached) (out : List EndpointWord) → i < length list →
    out ≡ endpoint_words f thread shared (take i list) → None ≡ endpoint_word thread shared (get_or list i d).word (cap_at f (get_or list i d).slot) →
    out ≡ endpoint_words f thread shared (take (i + 1) list)
words_none f thread shared list i d out h e e' =
    e ∙ (sym (append-nil (endpoint_words f thread shared (take i list)))
    ∙ (ap (λ (o : Option EndpointWord). endpoint_words f thread shared (take i list) ++ cons_option o []) e' ∙ sym (words_more f thread shared list i d h)))

-- one receiver more
others_more : (u : EndpointWord) (list : List EndpointWord) (i : ℕ) (d : EndpointWord) → i < length list →
    other_words u (take (i + 1) list) ≡ other_words u (take i list) ++ cond (is_between_two u (get_or list i d)) (get_or list i d ∷ []) []
others_more u list i d h =
    ap (other_words u) (take_more list i d h) ∙ filter-append (is_between_two u) (take i list) (get_or list i d ∷ [])

others_same : (u : EndpointWord) (list : List EndpointWord) (i : ℕ) (d : EndpointWord) → i < length list → is_between_two u (get_or list i d) ≡ false →
    other_words u (take (i + 1) list) ≡ other_words u (take i list)
others_same u list i d h e =
    others_more u list i d h
    ∙ (ap (λ (b : Bool). other_words u (take i list) ++ cond b (get_or list i d ∷ []) []) e ∙ append-nil (other_words u (take i list)))

-- what was added so far
pub record IsAdded (u : EndpointWord) (old : List Channel) (receivers : List EndpointWord) (count : ℕ) (out : List Channel) (alone : Bool) : Type 0 where
  pub added : out ≡ old ++ map (λ (w : EndpointWord). channel u (Some w)) (other_words u (take count receivers))
  pub alone_is : alone ≡ (length (other_words u (take count receivers)) == 0)

pub all_of : {X : Type 0} (list : List X) (n : ℕ) → length list ≤ n → take n list ≡ list
all_of [] zero h = refl
all_of [] (suc n) h = refl
all_of (x ∷ list) zero h = absurd (omega arith)
all_of (x ∷ list) (suc n) h = ap (λ (l : List _). x ∷ l) (all_of list n (omega arith))

pub senders_all : (words : List EndpointWord) (n : ℕ) (out : List Channel) → length words ≤ n → out ≡ flat_map (channels_of words) (filter sends_by_word (take n words)) → out ≡ channels words
senders_all words n out h e = e ∙ ap (λ (l : List EndpointWord). flat_map (channels_of words) (filter sends_by_word l)) (all_of words n h)
