-- The texts of reasons have no line feed, where the names of the call's table, and what is told of objects and slots, have none.
use Rattle.std.proofs.Common.{◌≡◌, ℕ, zero, suc, ◌-◌, ◌^◌, ◌==◌, ◌&&◌, nat_lt, Bool, true, false, not, cond, List, [], ◌∷◌, ◌++◌, length, take, Option, None, Some, refl}
use Rattle.std.specs.Prelude.{codes}
use Rattle.std.specs.Fmt.{decimal}
use Rattle.std.specs.List.{list_all}
use Rattle.cap_core.specs.declared.capability.Cap.{Cap}
use Rattle.cap_core.specs.declared.capability.Cap.TheVariants.{Null, Untyped, Endpoint, CNode, Tcb}
use Rattle.cap_core.specs.declared.capability.Guard.{Guard}
use Rattle.cap_core.specs.declared.capability.Kind.{Kind}
use Rattle.cap_core.specs.declared.capability.Kind.TheVariants as kind
use Rattle.kernel_abstract.specs.declared.call.Op.{Op}
use Rattle.kernel_abstract.specs.declared.call.Op.TheVariants.{NbSend, CapMutate}
use Rattle.kernel_abstract.specs.declared.call.ThreadState.{ThreadState}
use Rattle.kernel_abstract.specs.declared.call.ThreadState.TheVariants.{Ready, Inactive, Sending, Receiving}
use Rattle.kernel_abstract.specs.declared.reason.Held.{Held}
use Rattle.kernel_abstract.specs.declared.reason.Miss.{Miss}
use Rattle.kernel_abstract.specs.declared.reason.Miss.TheVariants.{NoRoot, OtherGuard, TooFewBits, BitsLeft}
use Rattle.kernel_abstract.specs.declared.reason.Right.{Right}
use Rattle.kernel_abstract.specs.declared.reason.Right.TheVariants.{Write, Read}
use Rattle.kernel_abstract.specs.declared.reason.Reason.{Reason}
use Rattle.kernel_abstract.specs.declared.reason.Reason.TheVariants.{NoKind, NoSize, TooLarge, TooSmall, NoNode, NoOffset, NoCount, FewSlots, SomeFull, NoRoom}
use Rattle.kernel_abstract.specs.declared.reason.Word.{Word}
use Rattle.kernel_abstract.specs.declared.reason.Word.TheVariants.{Invoked}
use Rattle.setup_report.specs.declared.objects.Object.{Object}
use Rattle.setup_report.specs.Naming.{Texts}
use Rattle.setup_report.specs.Text.{cap_text, rights_text, threads_text}
use Rattle.setup_report_laws.specs.Laws.{IsOneLine}
use Rattle.setup_report_laws.proofs.OneLine.{both_lines, number_line, number_and, capability_line}
use Rattle.command_why.specs.Limits.{threads_told}
use Rattle.command_why.specs.Keys.{key_words, word_of}
use Rattle.command_why.specs.Names.{name_at}
use Rattle.command_why.specs.Words.{word_key, depth_key}
use Rattle.command_why.specs.Text.{name_text, key_value_text, content_text, slot_and_content, verb, an_op, kind_text, object_text, guard_of, radix_of, power_text, last_text}
use Rattle.command_why.specs.Asked.{AskedView, key_said, word_said, depth_said, data_said, asked_thread_name, led_said}
use Rattle.command_why.specs.Facts.{right_words, badge_text, long_text, guard_text}
use Rattle.command_why.specs.Lookups.{by_text, held_slots_text, lookup_text, guard_lookup_text as found_guard_text, miss_text, would_text, hint_text}
use Rattle.command_why.specs.Reasons.{asked_thread_text, more_text, does_text}
use Rattle.command_why.specs.Retypes.{region_bits, used_text, number_text, room_text, retyped_text}
use Rattle.command_why.specs.Laws.{AreOneLineNames, AreOneLineTexts}

-- ---- keys, operations and kinds

pub key_line : (word : Word) → IsOneLine (word_key word)
key_line Invoked = refl
key_line word = refl

pub depth_key_line : (word : Word) → IsOneLine (depth_key word)
depth_key_line Invoked = refl
depth_key_line word = refl

verb_line : (word : Word) → IsOneLine (verb word)
verb_line Invoked = refl
verb_line word = refl

pub would_line : (word : Word) → IsOneLine (would_text word)
would_line Invoked = refl
would_line word = refl

op_line : (op : Op) → IsOneLine (an_op op)
op_line (NbSend cap message) = refl
op_line op = refl

-- an operation, and a text behind it
pub op_and : (op : Op) (rest : List ℕ) → IsOneLine rest → IsOneLine (an_op op ++ rest)
op_and op rest h = both_lines (an_op op) rest (op_line op) h

pub kind_line : (k : Kind) → IsOneLine (kind_text k)
kind_line kind.Untyped = refl
kind_line k = refl

object_line : (k : Kind) → IsOneLine (object_text k)
object_line kind.Untyped = refl
object_line k = refl

pub right_line : (right : Right) → IsOneLine (right_words right)
right_line Write = refl
right_line Read = refl

pub badge_line : (op : Op) → IsOneLine (badge_text op)
badge_line (CapMutate cap index depth src_root src_index src_depth word) = refl
badge_line op = refl

-- ---- numbers

power_line : (bits : ℕ) → IsOneLine (power_text bits)
unfolding power_text
power_line bits =
    elim (nat_lt bits 64) as (λ b. IsOneLine (cond b (decimal (2 ^ bits)) (codes "2^" ++ decimal bits))) [
      | true ↦ number_line (2 ^ bits)
      | false ↦ number_line bits
    ]

last_line : (bits : ℕ) → IsOneLine (last_text bits)
unfolding last_text
last_line bits =
    elim (nat_lt bits 64) as (λ b. IsOneLine (cond b (decimal (2 ^ bits - 1)) (codes "2^" ++ (decimal bits ++ codes " - 1")))) [
      | true ↦ number_line (2 ^ bits - 1)
      | false ↦ number_and bits (codes " - 1") refl
    ]

more_line : (many : ℕ) → IsOneLine (more_text many)
more_line many =
    elim (nat_lt threads_told many) as (λ b. IsOneLine (cond b (codes " and " ++ (decimal (many - threads_told) ++ codes " more")) (codes ""))) [
      | true ↦ number_and (many - threads_told) (codes " more") refl
      | false ↦ refl
    ]

-- ---- objects and slots

second : (a b : Bool) → (a && b) ≡ true → b ≡ true
second true b h = h
second false b h = absurd cc

-- the second of two texts
behind_line : (text more : List ℕ) → IsOneLine (text ++ more) → IsOneLine more
behind_line [] more h = h
behind_line (byte ∷ text) more h = behind_line text more (second (not (byte == 10)) (list_all (λ b. not (b == 10)) (text ++ more)) h)

by_line : (count : ℕ) → IsOneLine (by_text count)
by_line zero = refl
by_line (suc zero) = refl
by_line (suc (suc count)) = refl

module _ (texts : Texts) (told : AreOneLineTexts texts) where
  pub does_line : (state : ThreadState) → IsOneLine (does_text texts state)
  does_line Ready = refl
  does_line Inactive = refl
  does_line (Sending endpoint) = told.0 (Object.Endpoint endpoint)
  does_line (Receiving endpoint) = told.0 (Object.Endpoint endpoint)

  threads_line : (list : List ℕ) → IsOneLine (threads_text texts list)
  threads_line [] = refl
  threads_line (thread ∷ list) = both_lines (texts.object (Object.Thread thread)) (threads_text texts list) (told.0 (Object.Thread thread)) (threads_line list)

  pub live_threads_line : (count : ℕ) (list : List ℕ) → IsOneLine (codes "live threads:" ++ (threads_text texts (take count list) ++ more_text (length list)))
  live_threads_line count list = both_lines (threads_text texts (take count list)) (more_text (length list)) (threads_line (take count list)) (more_line (length list))

  -- what is told of a capability behind its object is told alike by addresses
  cap_line : (cap : Cap) → IsOneLine (cap_text texts cap)
  cap_line Null = refl
  cap_line (Untyped base bits free) =
      let rest = codes " bits " ++ (decimal bits ++ (codes " free " ++ decimal free)) in
      both_lines (texts.object (Object.Region base bits)) rest (told.0 (Object.Region base bits)) (behind_line (decimal base) rest (capability_line (Untyped base bits free)))
  cap_line (Endpoint base badge rights) =
      let rest = codes " badge " ++ (decimal badge.0 ++ (codes " rights " ++ rights_text rights)) in
      both_lines (texts.object (Object.Endpoint base)) rest (told.0 (Object.Endpoint base)) (behind_line (decimal base) rest (capability_line (Endpoint base badge rights)))
  cap_line (CNode base radix guard) =
      let rest = codes " radix " ++ (decimal radix ++ (codes " guard " ++ (decimal guard.value ++ (codes " size " ++ decimal guard.size)))) in
      both_lines (texts.object (Object.CNode base)) rest (told.0 (Object.CNode base)) (behind_line (decimal base) rest (capability_line (CNode base radix guard)))
  cap_line (Tcb base) = told.0 (Object.Thread base)

  pub content_line : (cap : Cap) → IsOneLine (content_text texts cap)
  content_line Null = refl
  content_line cap = cap_line cap

  pub slot_line : (held : Held) → IsOneLine (slot_and_content texts held)
  unfolding slot_and_content
  slot_line held = both_lines (texts.slot held.slot) (codes ": " ++ content_text texts held.cap) (told.1 held.slot) (content_line held.cap)

  slots_line : (slots : List Held) → IsOneLine (held_slots_text texts slots)
  slots_line [] = refl
  slots_line (held ∷ slots) = both_lines (texts.slot held.slot) (held_slots_text texts slots) (told.1 held.slot) (slots_line slots)

  pub way_line : (between : List Held) (last : Held) → IsOneLine (lookup_text texts between last)
  unfolding lookup_text
  way_line between last =
      both_lines (by_text (length between)) (held_slots_text texts between ++ (codes " to " ++ slot_and_content texts last)) (by_line (length between))
      (both_lines (held_slots_text texts between) (codes " to " ++ slot_and_content texts last) (slots_line between) (slot_line last))

  pub hint_line : (key : List ℕ) (number : ℕ) (would : List ℕ) (slot : ℕ) → IsOneLine key → IsOneLine would → IsOneLine (hint_text texts key number would slot)
  unfolding hint_text
  hint_line key number would slot h k =
      both_lines key (codes " " ++ (decimal number ++ (would ++ texts.slot slot))) h
      (number_and number (would ++ texts.slot slot) (both_lines would (texts.slot slot) k (told.1 slot)))

-- ---- why a lookup ends

found_guard_line : (guard : Guard) (left read : ℕ) → IsOneLine (found_guard_text guard left read)
unfolding found_guard_text
found_guard_line guard left read =
    let short = codes "its guard has size " ++ (decimal guard.size ++ (codes "; bits left: " ++ decimal left)) in
    let said = codes " bits left read " ++ decimal read in
    let next = codes "; the next " ++ (decimal guard.size ++ (codes " of the " ++ (decimal left ++ said))) in
    let other = codes "its guard is " ++ (decimal guard.value ++ (codes " of size " ++ (decimal guard.size ++ next))) in
    elim (nat_lt left guard.size) as (λ b. IsOneLine (cond b short other)) [
      | true ↦ number_and guard.size (codes "; bits left: " ++ decimal left) (number_line left)
      | false ↦ number_and guard.value (codes " of size " ++ (decimal guard.size ++ next))
          (number_and guard.size next (number_and guard.size (codes " of the " ++ (decimal left ++ said)) (number_and left said (number_line read))))
    ]

pub miss_line : (miss : Miss) → IsOneLine (miss_text miss)
miss_line NoRoot = refl
miss_line (OtherGuard node left read) = found_guard_line (guard_of node.cap) left read
miss_line (TooFewBits node left) = number_and (radix_of node.cap) (codes "; bits left behind the guard: " ++ decimal left) (number_line left)
miss_line (BitsLeft found left) = number_line left

-- ---- retypes

pub used_line : (untyped : Held) (has_children : Bool) (start : ℕ) → IsOneLine (used_text untyped has_children start)
unfolding used_text
used_line untyped true start =
    let bytes = power_text (region_bits untyped.cap) in
    number_and start (codes " of its " ++ (bytes ++ codes " bytes count as used")) (both_lines bytes (codes " bytes count as used") (power_line (region_bits untyped.cap)) refl)
used_line untyped false start =
    both_lines (power_text (region_bits untyped.cap)) (codes " bytes count as unused") (power_line (region_bits untyped.cap)) refl

room_line : (bits room : ℕ) → IsOneLine (room_text bits room)
unfolding room_text
room_line bits room = both_lines (power_text bits) (codes " bytes it has room for " ++ decimal room) (power_line bits) (number_line room)

-- ---- what speaks of the call

module _ (texts : Texts) (a : AskedView) (told : AreOneLineTexts texts) (names : AreOneLineNames a) where
  name_line : (name : Option (List ℕ)) → ((text : List ℕ) → name ≡ Some text → IsOneLine text) → IsOneLine (name_text name)
  name_line None h = refl
  name_line (Some text) h = h text refl

  said_line : (key : List ℕ) → IsOneLine key → IsOneLine (key_said a key)
  unfolding key_said key_value_text
  said_line key h =
      let word = word_of (key_words a.call.op) key in
      let name = name_text (name_at a.table key) in
      both_lines key (codes " " ++ (decimal word ++ name)) h (number_and word name (name_line (name_at a.table key) (names key)))

  -- a key of the call, and a text behind it
  pub said_and : (key rest : List ℕ) → IsOneLine key → IsOneLine rest → IsOneLine (key_said a key ++ rest)
  said_and key rest h k = both_lines (key_said a key) rest (said_line key h) k

  pub word_and : (word : Word) (rest : List ℕ) → IsOneLine rest → IsOneLine (word_said a word ++ rest)
  unfolding word_said
  word_and word rest h = said_and (word_key word) rest (key_line word) h

  pub depth_and : (word : Word) (rest : List ℕ) → IsOneLine rest → IsOneLine (depth_said a word ++ rest)
  unfolding depth_said
  depth_and word rest h = said_and (depth_key word) rest (depth_key_line word) h

  spelt_line : (by_name : Bool) → IsOneLine (cond by_name (codes "") (name_text (name_at a.table (codes "thread"))))
  spelt_line true = refl
  spelt_line false = name_line (name_at a.table (codes "thread")) (names (codes "thread"))

  pub thread_line : IsOneLine (asked_thread_text texts a)
  unfolding asked_thread_text asked_thread_name
  thread_line =
      let thread = Object.Thread a.call.thread in
      both_lines (texts.object thread) (cond texts.by_name (codes "") (name_text (name_at a.table (codes "thread")))) (told.0 thread) (spelt_line texts.by_name)

  pub thread_and : (rest : List ℕ) → IsOneLine rest → IsOneLine (asked_thread_text texts a ++ rest)
  thread_and rest h = both_lines (asked_thread_text texts a) rest thread_line h

  pub led_line : (word : Word) (held : Held) → IsOneLine (led_said texts a word held)
  unfolding led_said
  led_line word held =
      word_and word (codes " " ++ (verb word ++ (codes " " ++ slot_and_content texts held)))
      (both_lines (verb word) (codes " " ++ slot_and_content texts held) (verb_line word) (slot_line texts told held))

  pub whole_start_line : (word : Word) (from : Held) → IsOneLine (word_said a word ++ (codes " is looked up from the thread's root " ++ slot_and_content texts from))
  whole_start_line word from = word_and word (codes " is looked up from the thread's root " ++ slot_and_content texts from) (slot_line texts told from)

  pub index_start_line : (word : Word) (from : Held) → IsOneLine (word_said a word ++ (codes " " ++ (depth_said a word ++ (codes " is looked up from " ++ slot_and_content texts from))))
  index_start_line word from =
      word_and word (codes " " ++ (depth_said a word ++ (codes " is looked up from " ++ slot_and_content texts from)))
      (depth_and word (codes " is looked up from " ++ slot_and_content texts from) (slot_line texts told from))

  pub guard_line : (size radix most : ℕ) → IsOneLine (guard_text a size radix most)
  unfolding guard_text long_text data_said
  guard_line size radix most =
      let behind = codes " bits, which with radix " ++ (decimal radix ++ (codes " is more than " ++ decimal most)) in
      said_and (codes "word") (codes " is a guard of " ++ (decimal size ++ behind)) refl
      (number_and size behind (number_and radix (codes " is more than " ++ decimal most) (number_line most)))

  pub number_text_line : (reason : Reason) → IsOneLine (number_text a reason)
  unfolding number_text
  number_text_line NoKind = said_and (codes "kind") (codes " is none of 0 (untyped), 1 (thread control block), 2 (endpoint) and 4 (CNode)") refl refl
  number_text_line (NoSize below) = said_and (codes "size_bits") (codes " is not below " ++ decimal below) refl (number_line below)
  number_text_line (TooLarge k bits most) =
      let bytes = codes " bytes; an object has at most 2^" ++ decimal most in
      let said = key_said a (codes "size_bits") ++ (codes " has 2^" ++ (decimal bits ++ bytes)) in
      both_lines (object_text k) (codes " with " ++ said) (object_line k)
      (said_and (codes "size_bits") (codes " has 2^" ++ (decimal bits ++ bytes)) refl (number_and bits bytes (number_line most)))
  number_text_line (TooSmall k least) =
      said_and (codes "size_bits") (codes " is below " ++ (decimal least ++ (codes ", the least of " ++ object_text k))) refl
      (number_and least (codes ", the least of " ++ object_text k) (object_line k))
  number_text_line (NoCount most) = said_and (codes "count") (codes " is not from 1 to " ++ decimal most) refl (number_line most)
  number_text_line reason = refl

  pub objects_line : (reason : Reason) → IsOneLine (retyped_text texts a reason)
  unfolding retyped_text
  objects_line (NoNode word found) = refl
  objects_line (NoOffset word node) =
      let said = key_said a (codes "offset") ++ codes " is past them" in
      both_lines (last_text (radix_of node.cap)) (codes ", and " ++ said) (last_line (radix_of node.cap)) (said_and (codes "offset") (codes " is past them") refl refl)
  objects_line (FewSlots word node) =
      let offset = key_said a (codes "offset") ++ codes " on is past them" in
      let said = key_said a (codes "count") ++ (codes " from " ++ offset) in
      both_lines (last_text (radix_of node.cap)) (codes ", and " ++ said) (last_line (radix_of node.cap))
      (said_and (codes "count") (codes " from " ++ offset) refl (said_and (codes "offset") (codes " on is past them") refl refl))
  objects_line (SomeFull word node number full) =
      let content = codes " and is full: " ++ content_text texts full.cap in
      number_and number (codes " stands at " ++ (texts.slot full.slot ++ content))
      (both_lines (texts.slot full.slot) content (told.1 full.slot) (content_line texts told full.cap))
  objects_line (NoRoom untyped has_children start bits room) =
      let said = key_said a (codes "count") ++ codes " is more" in
      both_lines (room_text bits room) (codes ", and " ++ said) (room_line bits room) (said_and (codes "count") (codes " is more") refl refl)
  objects_line reason = refl
