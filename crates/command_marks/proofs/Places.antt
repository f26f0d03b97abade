-- A set-up that is another one differs in what is booted, or there is a first call that differs.
use Rattle.std.proofs.Common.{◌≡◌, ℕ, suc, ◌+◌, ◌==◌, ◌&&◌, not, find, List, [], ◌∷◌, ◌++◌, map, codes, slice_get, Bool, true, false, cond, Option, Some, None, option_map, sym, refl, ap, ◌∙◌, arith}
use Rattle.std.specs.Prelude.{◌≢◌}
use Rattle.std.specs.Cmp.Lexicographic.{pointwise}
use Rattle.toml.specs.Data.{Members}
use Rattle.kernel_abstract.specs.declared.call.Call.{Call}
use Rattle.kernel_abstract.specs.contracts.call.CallPartialEq.TheImpl as call_eq
use Rattle.cap_core.specs.contracts.profile.ProfileNamePartialEq.TheImpl as profile_eq
use Rattle.setup_format.specs.Views.{CallView, ReadView, SetupView}
use Rattle.command_marks.specs.Against.{same_calls, same_region}
use Rattle.command_marks.specs.Differences.{boot_key, call_differs, call_key, first_call, place_by, same_front}
use Rattle.command_marks.specs.Laws.{HasPlaceWhereItDiffers}

-- ---- what is booted

-- where no key tells of it, the calls differ
calls_left : (p m r t e u calls : Bool) (k1 k2 k3 k4 k5 k6 : List ℕ)
    → option_map (λ part. part.0) (find {X = List ℕ × Bool} (λ part. not part.1) ((k1, p) ∷ (k2, m) ∷ (k3, r) ∷ (k4, t) ∷ (k5, e) ∷ (k6, u) ∷ [])) ≡ None
    → p && ((m && (r && (t && (e && u)))) && calls) ≡ false → calls ≡ false
calls_left true true true true true true calls k1 k2 k3 k4 k5 k6 none other = other
calls_left true true true true true false calls k1 k2 k3 k4 k5 k6 none other = absurd cc
calls_left true true true true false u calls k1 k2 k3 k4 k5 k6 none other = absurd cc
calls_left true true true false e u calls k1 k2 k3 k4 k5 k6 none other = absurd cc
calls_left true true false t e u calls k1 k2 k3 k4 k5 k6 none other = absurd cc
calls_left true false r t e u calls k1 k2 k3 k4 k5 k6 none other = absurd cc
calls_left false m r t e u calls k1 k2 k3 k4 k5 k6 none other = absurd cc

-- ---- the calls

suc_is : (n : ℕ) → 1 + n ≡ suc n
suc_is n = omega arith

-- a call at the front, the same in both or not
one_more : (same : Bool) (x y : Call) (xs ys : List Call) (rest : Bool) (n : ℕ)
    → (rest ≡ false → slice_get xs n ≡ None → slice_get ys n ≡ None → ⊥)
    → same && rest ≡ false → slice_get (x ∷ xs) (cond same (1 + n) 0) ≡ None → slice_get (y ∷ ys) (cond same (1 + n) 0) ≡ None → ⊥
one_more true x y xs ys rest n further other a b =
    further other (sym (ap (slice_get (x ∷ xs)) (suc_is n)) ∙ a) (sym (ap (slice_get (y ∷ ys)) (suc_is n)) ∙ b)
one_more false x y xs ys rest n further other a b = absurd cc

-- where the calls differ, one of the two has a call behind those that are the same
not_both_end : (a b : List Call) → same_calls a b ≡ false → slice_get a (same_front a b) ≡ None → slice_get b (same_front a b) ≡ None → ⊥
not_both_end [] [] other x y = absurd cc
not_both_end [] (c ∷ cs) other x y = absurd cc
not_both_end (c ∷ cs) [] other x y = absurd cc
not_both_end (c ∷ cs) (d ∷ ds) other x y =
    one_more (call_eq.ghosts.eq c d) c d cs ds (same_calls cs ds) (same_front cs ds) (not_both_end cs ds) other x y

-- ---- the text

key_is_told : (number : ℕ) (key : Option (List ℕ)) → call_key number key ≢ codes "differs"
key_is_told number (Some key) e = absurd cc
key_is_told number None e = absurd cc

call_is_told : (asked given : Members) (i : ℕ) (call other : Option Call) → (call ≡ None → other ≡ None → ⊥) → call_differs asked given i call other ≢ codes "differs"
call_is_told asked given i (Some call) (Some other) one e = key_is_told (i + 1) _ e
call_is_told asked given i (Some call) None one e = absurd cc
call_is_told asked given i None (Some other) one e = absurd cc
call_is_told asked given i None None one e = one refl refl

place_is_told : (key : Option (List ℕ)) (calls : List ℕ) → (key ≡ None → calls ≢ codes "differs") → place_by key calls ≢ codes "differs"
place_is_told (Some key) calls told e = absurd cc
place_is_told None calls told e = told refl e

pub has_place : HasPlaceWhereItDiffers
has_place exercise read other =
    let e : SetupView = exercise.setup in
    let s : SetupView = read.setup in
    let a : List Call = map (λ (c : CallView). c.call) e.calls in
    let b : List Call = map (λ (c : CallView). c.call) s.calls in
    place_is_told (boot_key e s) (first_call exercise.table read.table a b)
    (λ none. call_is_told exercise.table read.table (same_front a b) (slice_get a (same_front a b)) (slice_get b (same_front a b))
    (not_both_end a b (calls_left (profile_eq.ghosts.eq e.profile s.profile) (e.plan.memory_bits == s.plan.memory_bits) (e.plan.root_radix == s.plan.root_radix)
    (e.plan.threads == s.plan.threads) (e.plan.endpoints == s.plan.endpoints) (pointwise same_region e.plan.untypeds s.plan.untypeds) (same_calls a b)
    (codes "profile") (codes "memory_bits") (codes "root_radix") (codes "threads") (codes "endpoints") (codes "untyped") none other)))
