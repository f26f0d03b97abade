-- The capabilities whose objects end.
use Rattle.std.proofs.Common.{◌≡◌, ℕ, ◌+◌, ◌<◌, Bool, true, false, not, cond, ◌||◌, ◌==◌, List, [], ◌∷◌, ◌++◌, map, filter, take, length, get_or, Option, Some, None, option_map, refl, sym, ap, ◌∙◌, append-nil}
use Rattle.std.specs.List.{list_any}
use Rattle.std.proofs.lemmas.List.{take_more, map-append}
use Rattle.cap_core.specs.declared.profile.ProfileName.{ProfileName}
use Rattle.cap_core.specs.declared.capability.Cap.{Cap}
use Rattle.cap_core.specs.declared.capability.Cap.TheVariants.{Null, Untyped, Endpoint, CNode, Tcb}
use Rattle.kernel_forest.specs.Forest.{Forest, none, tree, preorder, parented}
use Rattle.kernel_forest.specs.Entries.{Entry, cap_in, cap_at, slot_of, derivations_of}
use Rattle.kernel_forest.specs.Derivation.{names_same}
use Rattle.slot_core.specs.declared.derivations.Derivation.{Derivation}
use Rattle.slot_core.specs.Calls.{derivation_view}
use Rattle.setup_report.specs.State.{Derived}
use Rattle.command_audit.specs.Ends.{is_object_named, ended_capabilities, where_ended}
use Rattle.command_audit.proofs.Seen.{any_seen}

-- ---- of one slot more

filter_append : {A : Type 0} (p : A → Bool) (xs ys : List A) → filter p (xs ++ ys) ≡ filter p xs ++ filter p ys
filter_append p [] ys = refl
filter_append p (x ∷ xs) ys =
    elim (p x) as (λ b. cond b (x ∷ filter p (xs ++ ys)) (filter p (xs ++ ys)) ≡ cond b (x ∷ filter p xs) (filter p xs) ++ filter p ys) [
      | true ↦ ap (λ l. x ∷ l) (filter_append p xs ys)
      | false ↦ filter_append p xs ys
    ]

ended_append : (a b new : List Derived) → ended_capabilities (a ++ b) new ≡ ended_capabilities a new ++ ended_capabilities b new
ended_append a b new =
    ap (filter (λ cap. not (is_object_named cap new))) (map-append (λ (d : Derived). d.0.cap) a b)
    ∙ filter_append (λ cap. not (is_object_named cap new)) (map (λ (d : Derived). d.0.cap) a) (map (λ (d : Derived). d.0.cap) b)

pub ended_more : (p : ProfileName) (xs : List Derivation) (i : ℕ) (d : Derivation) (new : List Derived) → i < length xs →
    ended_capabilities (map (derivation_view p) (take (i + 1) xs)) new
    ≡ ended_capabilities (map (derivation_view p) (take i xs)) new ++ where_ended (get_or xs i d).cap new
ended_more p xs i d new within =
    ap (λ l. ended_capabilities (map (derivation_view p) l) new) (take_more xs i d within)
    ∙ ap (λ l. ended_capabilities l new) (map-append (derivation_view p) (take i xs) (get_or xs i d ∷ []))
    ∙ ended_append (map (derivation_view p) (take i xs)) (derivation_view p (get_or xs i d) ∷ []) new

-- ---- what a slot names is named

abbrev names : Cap → Entry → Bool
names cap e = names_same e.cap cap

null_names : (cap : Cap) → names_same Null cap ≡ true → ⊥
null_names Null h = cc
null_names (Untyped base bits free) h = cc
null_names (Endpoint base badge rights) h = cc
null_names (CNode base radix guard) h = cc
null_names (Tcb base) h = cc

or_left : (a b : Bool) → a ≡ true → (a || b) ≡ true
or_left a b h = ap (λ (c : Bool). c || b) h

or_right : (a b : Bool) → b ≡ true → (a || b) ≡ true
or_right true b h = refl
or_right false b h = h

named_in : (slot : ℕ) (cap : Cap) (es : List Entry) → names_same (cap_in slot es) cap ≡ true → list_any (names cap) es ≡ true
named_in slot cap [] h = absurd (null_names cap h)
named_in slot cap (e ∷ es) h =
    elim (e.slot == slot) as (λ b. names_same (cond b e.cap (cap_in slot es)) cap ≡ true → list_any (names cap) (e ∷ es) ≡ true) [
      | true ↦ λ here. or_left (names cap e) (list_any (names cap) es) here
      | false ↦ λ there. or_right (names cap e) (list_any (names cap) es) (named_in slot cap es there)
    ] h

-- what stands in a forest, without what it stands below
parented_all : (above : Option Entry) (f : Forest Entry) → map (λ (e : Entry × Option Entry). e.0) (parented above f) ≡ preorder f
parented_all above none = refl
parented_all above (tree a under others) =
    ap (λ (l : List Entry). a ∷ l)
    (map-append (λ (e : Entry × Option Entry). e.0) (parented (Some a) under) (parented above others)
    ∙ (ap (λ (l : List Entry). l ++ map (λ (e : Entry × Option Entry). e.0) (parented above others)) (parented_all (Some a) under)
    ∙ ap (λ (l : List Entry). preorder under ++ l) (parented_all above others)))

pub named_entries : (cap : Cap) (f : Forest Entry) → is_object_named cap (derivations_of f) ≡ list_any (names cap) (preorder f)
named_entries cap f =
    any_seen (λ (e : Entry × Option Entry). (e.0, option_map slot_of e.1)) (λ (d : Derived). names_same d.0.cap cap) (parented None f)
    ∙ sym (any_seen (λ (e : Entry × Option Entry). e.0) (names cap) (parented None f))
    ∙ ap (list_any (names cap)) (parented_all None f)

-- a slot names an object: then it is named
pub slot_names : (f : Forest Entry) (slot : ℕ) (cap : Cap) → names_same (cap_at f slot) cap ≡ true → is_object_named cap (derivations_of f) ≡ true
slot_names f slot cap h = named_entries cap f ∙ named_in slot cap (preorder f) h

-- ---- whether a capability is one whose object ends

pub stays : (cap : Cap) (new : List Derived) (l : List Cap) → is_object_named cap new ≡ true → l ≡ l ++ where_ended cap new
stays cap new l h = sym (ap (λ (b : Bool). l ++ cond (not b) (cap ∷ []) []) h ∙ append-nil l)

pub ends : (cap : Cap) (new : List Derived) → is_object_named cap new ≡ false → cap ∷ [] ≡ where_ended cap new
ends cap new h = sym (ap (λ (b : Bool). cond (not b) (cap ∷ []) []) h)

-- as the full slots are kept
pub named_seen : (p : ProfileName) (cap : Cap) (list : List Derivation) → is_object_named cap (map (derivation_view p) list) ≡ list_any (λ d. names_same d.cap cap) list
named_seen p cap list = any_seen (derivation_view p) (λ (d : Derived). names_same d.0.cap cap) list
