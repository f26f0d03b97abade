-- A way ends at an object's capability behind its root where the lookup finds it, and nowhere else; a CNode's apart.
use Rattle.std.proofs.Common.{◌≡◌, ◌-◌, ℕ, zero, suc, Bool, true, false, cond, not, ◌==◌, ◌&&◌, List, [], ◌∷◌, ◌++◌, length, length-append, Option, None, Some, Result, Ok, Err, refl, ap, sym, ◌∙◌, arith}
use Rattle.std.specs.List.{slice_get}
use Rattle.cap_core.specs.declared.profile.ProfileName.{ProfileName}
use Rattle.cap_core.specs.declared.capability.Cap.{Cap}
use Rattle.cap_core.specs.declared.capability.Cap.TheVariants.{Null, Untyped, Endpoint, CNode, Tcb}
use Rattle.cap_core.specs.Numbers.{word_bits}
use Rattle.kernel_forest.specs.Forest.{Forest}
use Rattle.kernel_forest.specs.Entries.{Entry, cap_at}
use Rattle.cspace_core.specs.Bits.{low_bits}
use Rattle.cspace_core.specs.Resolution.{Choice, Found, is_cnode}
use Rattle.kernel_abstract.specs.declared.reason.Held.{Held}
use Rattle.kernel_abstract.specs.declared.reason.Miss.{Miss}
use Rattle.kernel_abstract.specs.declared.reason.Reason.{Reason}
use Rattle.kernel_abstract.specs.declared.reason.Word.TheVariants.{Invoked}
use Rattle.kernel_abstract.specs.Reasons.{held_at}
use Rattle.kernel_abstract.specs.Shown.{tcb_base, endpoint_base}
use Rattle.kernel_abstract.specs.Lookups.{chosen, walked_on, walked_within, walked, reached, slot_by_word}
use Rattle.kernel_checks.specs.Paths.{path_on, path_within, path}
use Rattle.kernel_checks.proofs.Endings.{way_ends}
use Rattle.query_orders.specs.Groups.{held_at_end, endpoint_found, thread_found}
use Rattle.query_orders.specs.Private.Ways.{base_held, base_last, base_behind}

no_endpoint_at_cnode : (c : Cap) → is_cnode c ≡ true → endpoint_base c ≡ None
no_endpoint_at_cnode Null h = refl
no_endpoint_at_cnode (Untyped base n free) h = refl
no_endpoint_at_cnode (Endpoint base badge rights) h = cc
no_endpoint_at_cnode (CNode base radix guard) h = refl
no_endpoint_at_cnode (Tcb base) h = refl

no_thread_at_cnode : (c : Cap) → is_cnode c ≡ true → tcb_base c ≡ None
no_thread_at_cnode Null h = refl
no_thread_at_cnode (Untyped base n free) h = refl
no_thread_at_cnode (Endpoint base badge rights) h = refl
no_thread_at_cnode (CNode base radix guard) h = refl
no_thread_at_cnode (Tcb base) h = cc

both : (s t : Bool) → (s && t) ≡ true → s ≡ true
both true t h = refl
both false t h = cc

module _ (base_of : Cap → Option ℕ) (none_at_cnode : (c : Cap) → is_cnode c ≡ true → base_of c ≡ None) where
  -- a slot in front that holds no such object's capability changes nothing
  in_front : (h : Held) (way : List Held) → base_of h.cap ≡ None → base_last base_of (h ∷ way) ≡ base_last base_of way
  in_front h [] none = none
  in_front h (k ∷ way) none =
      let longer : suc (suc (length way)) - 1 ≡ suc (length way) = omega arith in
      let same : suc (length way) - 1 ≡ length way = omega arith in
      ap (λ n. base_held base_of (slice_get (h ∷ k ∷ way) n)) longer ∙ ap (λ n. base_held base_of (slice_get (k ∷ way) n)) (sym same)

  module _ (p : ProfileName) (cap_in : ℕ → Cap) where
    found_by : Result Found Miss → Option ℕ
    found_by (Ok found) = base_of (cap_in found.slot)
    found_by (Err miss) = None

    abbrev EndsAlike : List Held → Result Found Miss → Type 0
    EndsAlike way r = base_last base_of way ≡ found_by r

    on : (most : ℕ) → ((slot : ℕ) (bits : List ℕ) → is_cnode (cap_in slot) ≡ true → EndsAlike (path_within p cap_in most slot bits) (walked_within p cap_in most slot bits)) →
        (m : Result Choice Miss) → EndsAlike (path_on cap_in (path_within p cap_in most) m) (walked_on cap_in (walked_within p cap_in most) m)
    unfolding found_by
    on most there (Err miss) = refl
    on most there (Ok c) =
        elim (is_cnode (cap_in c.slot) && not (length c.left == 0)) as (λ b.
        (is_cnode (cap_in c.slot) && not (length c.left == 0)) ≡ b → EndsAlike (cond b (path_within p cap_in most c.slot c.left) (held_at cap_in c.slot ∷ [])) (cond b (walked_within p cap_in most c.slot c.left) (Ok (record { slot = c.slot; left = length c.left })))) [
          | true ↦ λ e. there c.slot c.left (both (is_cnode (cap_in c.slot)) (not (length c.left == 0)) e)
          | false ↦ λ e. refl
        ] refl

    within : (most : ℕ) (slot : ℕ) (bits : List ℕ) → is_cnode (cap_in slot) ≡ true → EndsAlike (path_within p cap_in most slot bits) (walked_within p cap_in most slot bits)
    unfolding path_within walked_within found_by
    within zero slot bits node = none_at_cnode (cap_in slot) node
    within (suc most) slot bits node =
        in_front (held_at cap_in slot) (path_on cap_in (path_within p cap_in most) (chosen p slot (cap_in slot) bits)) (none_at_cnode (cap_in slot) node)
        ∙ on most (λ at left node. within most at left node) (chosen p slot (cap_in slot) bits)

    behind : (slot : ℕ) (bits : List ℕ) → base_behind base_of (path p cap_in slot bits) ≡ found_by (walked p cap_in slot bits)
    unfolding path walked path_within walked_within
    behind slot bits = on (length bits) (λ at left node. within (length bits) at left node) (chosen p slot (cap_in slot) bits)

  -- the object in the slot that was found
  abbrev base_found : Forest Entry → Result ℕ Reason → Option ℕ
  base_found f (Ok slot) = base_of (cap_at f slot)
  base_found f (Err reason) = None

  reached_alike : (p : ProfileName) (f : Forest Entry) (from : Held) (r : Result Found Miss) → found_by p (cap_at f) r ≡ base_found f (reached Invoked from r)
  unfolding found_by
  reached_alike p f from (Ok found) = refl
  reached_alike p f from (Err miss) = refl

  by_way : (p : ProfileName) (f : Forest Entry) (thread word : ℕ) → base_behind base_of (path p (cap_at f) thread (low_bits (word_bits p) word)) ≡ base_found f (slot_by_word p f Invoked thread word)
  by_way p f thread word =
      behind p (cap_at f) thread (low_bits (word_bits p) word)
      ∙ reached_alike p f (held_at (cap_at f) thread) (walked p (cap_at f) thread (low_bits (word_bits p) word))

endpoint_there : (f : Forest Entry) (found : Result ℕ Reason) → base_found endpoint_base no_endpoint_at_cnode f found ≡ endpoint_found f found
endpoint_there f (Ok slot) = refl
endpoint_there f (Err reason) = refl

thread_there : (f : Forest Entry) (found : Result ℕ Reason) → base_found tcb_base no_thread_at_cnode f found ≡ thread_found f found
thread_there f (Ok slot) = refl
thread_there f (Err reason) = refl

pub endpoint_by_way : (p : ProfileName) (f : Forest Entry) (thread word : ℕ) → base_behind endpoint_base (path p (cap_at f) thread (low_bits (word_bits p) word)) ≡ endpoint_found f (slot_by_word p f Invoked thread word)
endpoint_by_way p f thread word = by_way endpoint_base no_endpoint_at_cnode p f thread word ∙ endpoint_there f (slot_by_word p f Invoked thread word)

pub thread_by_way : (p : ProfileName) (f : Forest Entry) (thread word : ℕ) → base_behind tcb_base (path p (cap_at f) thread (low_bits (word_bits p) word)) ≡ thread_found f (slot_by_word p f Invoked thread word)
thread_by_way p f thread word = by_way tcb_base no_thread_at_cnode p f thread word ∙ thread_there f (slot_by_word p f Invoked thread word)

-- ---- where a way ends

last_of : {X : Type 0} (before : List X) (x : X) → slice_get (before ++ x ∷ []) (length before) ≡ Some x
last_of [] x = refl
last_of (y ∷ before) x = last_of before x

pub way_last : (p : ProfileName) (f : Forest Entry) (slot address bits : ℕ) →
    slice_get (path p (cap_at f) slot (low_bits bits address)) (length (path p (cap_at f) slot (low_bits bits address)) - 1) ≡ Some (held_at_end p f slot address bits)
way_last p f slot address bits =
    let ends = way_ends p (cap_at f) slot (low_bits bits address) in
    let last : Held = held_at_end p f slot address bits in
    let place : length (ends.0 ++ last ∷ []) - 1 ≡ length ends.0 = omega (arith, length-append ends.0 (last ∷ [])) in
    ap (λ (way : List Held). slice_get way (length way - 1)) ends.1 ∙ ap (λ n. slice_get (ends.0 ++ last ∷ []) n) place ∙ last_of ends.0 last
