-- Lookups that begin at an empty slot.
use Rattle.std.proofs.Common.{◌≡◌, ℕ, zero, suc, ◌+◌, ◌/◌, ◌%◌, ◌^◌, refl, sym, ap, ◌∙◌, Bool, true, false, cond, ◌==◌, nat_lt, List, [], ◌∷◌, Option, None, Result, Ok, Err}
use Rattle.cap_core.specs.declared.profile.ProfileName.{ProfileName}
use Rattle.cap_core.specs.declared.capability.Cap.{Cap}
use Rattle.cap_core.specs.declared.capability.Cap.TheVariants.{Null}
use Rattle.cap_core.specs.Numbers.{word_bits, slot_size}
use Rattle.kernel_forest.specs.Forest.{Forest}
use Rattle.kernel_forest.specs.Entries.{Entry, cap_at}
use Rattle.cspace_core.specs.Bits.{low_bits}
use Rattle.kernel_abstract.specs.declared.reason.Miss.TheVariants.{NoRoot}
use Rattle.kernel_abstract.specs.declared.reason.Reason.{Reason}
use Rattle.kernel_abstract.specs.declared.reason.Word.TheVariants.{Invoked, Index}
use Rattle.kernel_abstract.specs.Lookups.{walked_within, walked, slot_by_word, slot_by_index}
use Rattle.kernel_checks.specs.Paths.{path_within, path}
use Rattle.kernel_checks.specs.Hints.{found_slot, depth_or, depth_from, where_same, number_hint, word_hint, hint_or, index_hint}

pub path_nowhere : (p : ProfileName) (cap_in : ℕ → Cap) (slot : ℕ) (bits : List ℕ) → cap_in slot ≡ Null →
    record { slot = slot; cap = Null } ∷ [] ≡ path p cap_in slot bits
unfolding path path_within
path_nowhere p cap_in slot bits h = rw h refl

walked_nowhere : (p : ProfileName) (cap_in : ℕ → Cap) (slot : ℕ) (bits : List ℕ) → cap_in slot ≡ Null → walked p cap_in slot bits ≡ Err NoRoot
unfolding walked walked_within
walked_nowhere p cap_in slot bits h = rw h refl

index_nowhere : (p : ProfileName) (cap_in : ℕ → Cap) (root index depth : ℕ) → cap_in root ≡ Null → found_slot (slot_by_index p cap_in Index root index depth) ≡ None
index_nowhere p cap_in root index depth h = rw h refl

either_none : (t : Bool) (o : Option ℕ) → o ≡ None → cond t o None ≡ None
either_none true o h = h
either_none false o h = refl

no_depth : (p : ProfileName) (cap_in : ℕ → Cap) (root index depth count : ℕ) → cap_in root ≡ Null → depth_from p cap_in root index depth count ≡ None
unfolding depth_from
no_depth p cap_in root index depth zero h = refl
no_depth p cap_in root index depth (suc count) h =
    ap (λ o. depth_or depth o (depth_from p cap_in root index (depth + 1) count))
    (either_none (nat_lt index (2 ^ depth)) (found_slot (slot_by_index p cap_in Index root index depth)) (index_nowhere p cap_in root index depth h))
    ∙ no_depth p cap_in root index (depth + 1) count h

no_number : (p : ProfileName) (word : ℕ) (found : Result ℕ Reason) → found_slot found ≡ None → number_hint p word found ≡ None
no_number p word (Ok slot) h = cc
no_number p word (Err reason) h = either (word % slot_size p == 0)
  where
    either : (t : Bool) → cond t (where_same word (word / slot_size p) (Err reason)) None ≡ None
    either true = refl
    either false = refl

pub index_hint_nowhere : (p : ProfileName) (cap_in : ℕ → Cap) (root index depth : ℕ) → cap_in root ≡ Null → None ≡ index_hint p cap_in root index depth
index_hint_nowhere p cap_in root index depth h =
    let number : number_hint p index (slot_by_index p cap_in Index root (index / slot_size p) depth) ≡ None =
    no_number p index (slot_by_index p cap_in Index root (index / slot_size p) depth) (index_nowhere p cap_in root (index / slot_size p) depth h) in
    sym (ap (λ o. hint_or o (number_hint p index (slot_by_index p cap_in Index root (index / slot_size p) depth))) (no_depth p cap_in root index 1 (word_bits p) h) ∙ number)

word_nowhere : (p : ProfileName) (f : Forest Entry) (root n : ℕ) → cap_at f root ≡ Null → found_slot (slot_by_word p f Invoked root n) ≡ None
word_nowhere p f root n h = rw (walked_nowhere p (cap_at f) root (low_bits (word_bits p) n) h) refl

pub word_hint_nowhere : (p : ProfileName) (f : Forest Entry) (root word : ℕ) → cap_at f root ≡ Null → None ≡ word_hint p f root word
word_hint_nowhere p f root word h =
    sym (no_number p word (slot_by_word p f Invoked root (word / slot_size p)) (word_nowhere p f root (word / slot_size p) h))
