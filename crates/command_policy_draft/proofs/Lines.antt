-- The lines of what breaks a policy.
use Rattle.std.proofs.Common.{◌≡◌, true, ◌<◌, ℕ, List, String, length, map, get_or, refl, sym, subst, ◌∙◌, string_bytes}
use Rattle.std.specs.declared.alloc.Global.{Global}
use Rattle.std.specs.List.{Contains}
use Rattle.std.specs.Str.{bytes_eq}
use Rattle.std.proofs.lemmas.List.{get_or-map, length-map}
use Rattle.std.proofs.lemmas.Slice.Eq.{bytes_eq-Decides}
use Rattle.command_policy_breaches.specs.declared.held.Home.{Home}
use Rattle.setup_policy.specs.declared.policy.Labels.{Labels}
use Rattle.command_policy_breaches.specs.declared.held.Layout.{Layout}
use Rattle.setup_policy.specs.declared.policy.Policy.{Policy}
use Rattle.command_policy_text.specs.Kinds.{thread_breaches}
use Rattle.command_policy_text.specs.Told.{line_told}
use Rattle.command_policy.specs.declared.judging.Judged.{Judged}
use Rattle.command_policy_draft.specs.Drafts.{thread_lines}

-- what is told of the pieces of what is judged is told of it
pub threads_told : (j : Judged) (c : Policy) (l : Layout) (n : Labels) (hs : List Home) → c ≡ j.policy → l ≡ j.layout → n ≡ j.labels → hs ≡ j.homes.items →
    map (line_told c l n hs) (thread_breaches c l) ≡ thread_lines j
threads_told j c l n hs policy layout labels homes =
    subst (λ (c' : Policy). map (line_told c' l n hs) (thread_breaches c' l) ≡ thread_lines j) (sym policy)
    (subst (λ (l' : Layout). map (line_told j.policy l' n hs) (thread_breaches j.policy l') ≡ thread_lines j) (sym layout)
    (subst (λ (n' : Labels). map (line_told j.policy j.layout n' hs) (thread_breaches j.policy j.layout) ≡ thread_lines j) (sym labels)
    (subst (λ (hs' : List Home). map (line_told j.policy j.layout j.labels hs') (thread_breaches j.policy j.layout) ≡ thread_lines j) (sym homes) refl)))

-- a text that has the bytes of one of some is one of them by its bytes
pub found_by : (some : List (String Global)) (line : String Global) (k : ℕ) → k < length some → bytes_eq (string_bytes (get_or some k line)) (string_bytes line) ≡ true
    → Contains (map string_bytes some) (string_bytes line)
found_by some line k within same = (
  k,
  simp length-map within,
  get_or-map (string_bytes {Z = Global}) some k line (string_bytes line) within
      ∙ (bytes_eq-Decides (string_bytes (get_or some k line)) (string_bytes line)).0 same,
)
