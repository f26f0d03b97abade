-- Threads that can name just the same, by the same words: the first of them is told in full, and stands for the others.
use Rattle.std.specs.Prelude.{◌≡◌, ℕ, not, ◌==◌, ◌&&◌, cond, Bool, false, List, length, Option, Some, None}
use Rattle.std.specs.List.{Contains, find, list_any}
use Rattle.std.specs.Cmp.Lexicographic.{pointwise}
use Rattle.query_reach.specs.declared.held.Held.{Held}
use Rattle.query_reach.specs.declared.reached.Reached.{Reached}
use Rattle.command_audit.specs.declared.threads.ThreadSlots.{ThreadSlots}

-- the same word leads to the same slot; the same word, depth and index name the same slot
abbrev pub same_reached : Reached → Reached → Bool
same_reached r s = (r.word == s.word) && (r.slot == s.slot)

abbrev pub same_held : Held → Held → Bool
same_held h k = (h.word == k.word) && ((h.depth == k.depth) && ((h.index == k.index) && (h.slot == k.slot)))

-- a thread can name something, and another one just the same
abbrev pub name_alike : ThreadSlots → ThreadSlots → Bool
name_alike t u =
    not (length t.reached.items == 0)
    && (pointwise same_reached t.reached.items u.reached.items && pointwise same_held t.held.items u.held.items)

-- the first thread that can name what a thread can, where that is another one: the thread is told as that one
abbrev pub other_than : ℕ → Option ThreadSlots → Option ℕ
other_than thread None = None
other_than thread (Some first) = cond (first.thread == thread) None (Some first.thread)

abbrev pub told_as : List ThreadSlots → ThreadSlots → Option ℕ
told_as list t = other_than t.thread (find (name_alike t) list)

-- another thread can name what a thread can
abbrev pub is_shared : List ThreadSlots → ThreadSlots → Bool
is_shared list t = list_any (λ (u : ThreadSlots). not (u.thread == t.thread) && name_alike t u) list

-- ---- what that comes to

-- two threads can name the same, by the same words
pub record NameTheSame (t u : ThreadSlots) : Type 0 where
  pub reached : t.reached.items ≡ u.reached.items
  pub held : t.held.items ≡ u.held.items

-- if a thread is shown as another one, that one is listed, and both can name the same
abbrev pub IsToldRight : List ThreadSlots → ThreadSlots → ℕ → Type 0
IsToldRight list t first = told_as list t ≡ Some first → (u : ThreadSlots) × (Contains list u × ((u.thread ≡ first) × NameTheSame t u))

-- of threads that can name the same, and something, only one is not shown as another one
abbrev pub IsToldOnce : List ThreadSlots → ThreadSlots → ThreadSlots → Type 0
IsToldOnce list t u =
    Contains list t → told_as list t ≡ None → told_as list u ≡ None → NameTheSame t u → (length t.reached.items == 0) ≡ false → t.thread ≡ u.thread
