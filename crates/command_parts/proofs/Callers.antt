-- The control blocks of the live threads that are not trusted have words for addresses.
use Rattle.std.proofs.Common.{◌≡◌, ℕ, Bool, true, false, not, cond, ◌&&◌, List, [], ◌∷◌, filter, map, refl, sym, ap, subst, ◌∙◌}
use Rattle.std.specs.List.{list_all, filter_map, AllByRecursion as Each}
use Rattle.cap_core.specs.declared.profile.ProfileName.{ProfileName}
use Rattle.cap_core.specs.declared.capability.Cap.{Cap}
use Rattle.kernel_forest.specs.Entries.{Entry, derivations_of}
use Rattle.kernel_abstract.specs.Memory.{IsInMemory}
use Rattle.kernel_abstract.specs.Shown.{Shown, tcb_base, threads_of}
use Rattle.query_parts.specs.Order.{is_addressed}
use Rattle.query_parts.proofs.Addressed.{live_addressed}
use Rattle.query_parts.proofs.Bounded.{entries_told}
use Rattle.setup_report.specs.declared.live.NamedObject.{NamedObject}
use Rattle.setup_report.specs.State.{Derived, is_in, named, threads}
use Rattle.setup_report.proofs.Addresses.Named.{filter_map_viewed}
use Rattle.setup_report.proofs.Addresses.Rising.{all_rising}
use Rattle.command_parts.specs.Threads.{callers}

each_of : (test : ℕ → Bool) (ts : List ℕ) → list_all test ts ≡ true → Each (λ t. test t ≡ true) ts
each_of test [] h = tt
each_of test (t ∷ ts) h = by (test t) refl h (each_of test ts)
  where
    by : (b : Bool) → test t ≡ b → (b && list_all test ts) ≡ true → (list_all test ts ≡ true → Each (λ t. test t ≡ true) ts) → Each (λ t. test t ≡ true) (t ∷ ts)
    by true is h rest = (is, rest h)
    by false is h rest = cc

all_left : (test keep : ℕ → Bool) (ts : List ℕ) → Each (λ t. test t ≡ true) ts → list_all test (filter keep ts) ≡ true
all_left test keep [] each = refl
all_left test keep (t ∷ ts) each = by (keep t) (all_left test keep ts each.1)
  where
    by : (b : Bool) → list_all test (filter keep ts) ≡ true → list_all test (cond b (t ∷ filter keep ts) (filter keep ts)) ≡ true
    by true rest = ap (λ b. b && list_all test (filter keep ts)) each.0 ∙ rest
    by false rest = rest

caps_told : (l : List Derived) → map (λ (d : Derived). d.0.cap) l ≡ map (λ (e : Entry). e.cap) (map (λ (d : Derived). d.0) l)
caps_told [] = refl
caps_told (d ∷ l) = ap (λ (r : List Cap). d.0.cap ∷ r) (caps_told l)

-- the threads that full slots name are those that are live
named_live : (p : ProfileName) (v : Shown) → named p NamedObject.Thread (derivations_of v.derivations) ≡ threads_of v.derivations
named_live p v =
    sym (filter_map_viewed tcb_base (λ (d : Derived). d.0.cap) (derivations_of v.derivations))
    ∙ ap (filter_map tcb_base) (caps_told (derivations_of v.derivations) ∙ ap (map (λ (e : Entry). e.cap)) (entries_told v.derivations))

pub callers_addressed : (p : ProfileName) (memory : ℕ) (v : Shown) (without : List ℕ) → IsInMemory p memory v →
    list_all (is_addressed p) (callers p v without) ≡ true
callers_addressed p memory v without within =
    all_left (is_addressed p) (λ t. not (is_in t without)) (threads p v)
    (all_rising (λ t. is_addressed p t ≡ true) (named p NamedObject.Thread (derivations_of v.derivations))
    (subst (Each (λ t. is_addressed p t ≡ true)) (sym (named_live p v))
    (each_of (is_addressed p) (threads_of v.derivations) (live_addressed p memory v within))))
