-- The objects that a retype makes were not live.
use Rattle.std.proofs.Common.{◌≡◌, ℕ, ◌≤◌, Bool, true, false, ◌==◌, ◌||◌, eqb, List, [], ◌∷◌, map, Option, None, Some, All, refl, sym, ap, ◌∙◌, inl, inr, eq-eqb}
use Rattle.std.specs.List.{AllByRecursion, Contains, IsDistinct, list_any, filter_map, cons_option}
use Rattle.std.proofs.lemmas.Bool.{false≢true, or_parts}
use Rattle.std.proofs.lemmas.Bool.Decides.{eqb_tells}
use Rattle.cap_core.specs.declared.profile.ProfileName.{ProfileName}
use Rattle.cap_core.specs.declared.capability.Cap.{Cap}
use Rattle.cap_core.specs.declared.capability.Cap.TheVariants.{Null, Untyped, Endpoint, CNode, Tcb}
use Rattle.cap_core.specs.Objects.{same_object, base_of, end_of, IsLawful}
use Rattle.kernel_forest.specs.Forest.{Forest, preorder, descendants}
use Rattle.kernel_forest.specs.Entries.{Entry, is_at, caps, slots, cap_at}
use Rattle.kernel_forest.specs.Disjoint.{IsDisjoint}
use Rattle.kernel_forest.specs.Derivation.{freed, is_named}
use Rattle.kernel_forest.proofs.Slots.Freed.{named-freed}
use Rattle.kernel_abstract.specs.declared.invocation.NewObjects.{NewObjects}
use Rattle.kernel_abstract.specs.Regions.{AreRegions}
use Rattle.kernel_abstract.specs.Retyping.{new_caps, new_bases}
use Rattle.kernel_abstract.specs.Shown.{tcb_base, endpoint_base, threads_of, endpoints_of}
use Rattle.kernel_abstract.specs.Private.Invocations.{IsRetype}
use Rattle.kernel_abstract.proofs.Retype.PutInOrder.{IsNew, CanMake, unnamed_new}
use Rattle.kernel_abstract.proofs.Retype.RetypedForest.{can_make}

-- capabilities of one kind with one base name one object
abbrev IsKind : (Cap → Option ℕ) → Type 0
IsKind kind_base = (a c : Cap) (b : ℕ) → kind_base a ≡ Some b → kind_base c ≡ Some b → same_object a c ≡ true

endpoint_kind : IsKind endpoint_base
endpoint_kind (Endpoint i badge rights) (Endpoint j badge' rights') b h k = let e : i ≡ b = cc in let d : j ≡ b = cc in eq-eqb i j (e ∙ sym d)
endpoint_kind (Endpoint i badge rights) Null b h k = cc
endpoint_kind (Endpoint i badge rights) (Untyped base bits free) b h k = cc
endpoint_kind (Endpoint i badge rights) (CNode base radix guard) b h k = cc
endpoint_kind (Endpoint i badge rights) (Tcb base) b h k = cc
endpoint_kind Null c b h k = cc
endpoint_kind (Untyped base bits free) c b h k = cc
endpoint_kind (CNode base radix guard) c b h k = cc
endpoint_kind (Tcb base) c b h k = cc

tcb_kind : IsKind tcb_base
tcb_kind (Tcb i) (Tcb j) b h k = let e : i ≡ b = cc in let d : j ≡ b = cc in eq-eqb i j (e ∙ sym d)
tcb_kind (Tcb i) Null b h k = cc
tcb_kind (Tcb i) (Untyped base bits free) b h k = cc
tcb_kind (Tcb i) (CNode base radix guard) b h k = cc
tcb_kind (Tcb i) (Endpoint base badge rights) b h k = cc
tcb_kind Null c b h k = cc
tcb_kind (Untyped base bits free) c b h k = cc
tcb_kind (CNode base radix guard) c b h k = cc
tcb_kind (Endpoint base badge rights) c b h k = cc

module _ (kind_base : Cap → Option ℕ) (kind : IsKind kind_base) where
  -- an object that no entry names is not among those that the entries name
  unnamed_dead : (b : ℕ) (c : Cap) → kind_base c ≡ Some b → (es : List Entry) → list_any (λ (e : Entry). same_object e.cap c) es ≡ false
      → list_any (λ k. b == k) (filter_map kind_base (map (λ (e : Entry). e.cap) es)) ≡ false
  unnamed_dead b c is [] h = refl
  unnamed_dead b c is (x ∷ es) h = by_base (unnamed_dead b c is es (or_parts (same_object x.cap c) _ h).1) (kind_base x.cap) refl
    where
      by_base : list_any (λ k. b == k) (filter_map kind_base (map (λ (e : Entry). e.cap) es)) ≡ false → (o : Option ℕ) → kind_base x.cap ≡ o → list_any (λ k. b == k) (cons_option o (filter_map kind_base (map (λ (e : Entry). e.cap) es))) ≡ false
      by_base rest None e = rest
      by_base rest (Some n) e = elim (eqb_tells b n) [
        | inl w ↦ absurd (false≢true (sym (or_parts (same_object x.cap c) _ h).0 ∙ kind x.cap c b (e ∙ ap Some (sym w.1)) is))
        | inr w ↦ ap (λ (t : Bool). t || list_any (λ k. b == k) (filter_map kind_base (map (λ (y : Entry). y.cap) es))) w.0 ∙ rest
      ]

  -- nor is any of several
  all_dead : (b : ℕ) (f : Forest Entry) (puts : List (ℕ × Cap)) → AllByRecursion (λ (put : ℕ × Cap). is_named put.1 f ≡ false) puts
      → list_any (λ k. b == k) (filter_map kind_base (map (λ (put : ℕ × Cap). put.1) puts)) ≡ true → list_any (λ k. b == k) (filter_map kind_base (caps f)) ≡ false
  all_dead b f [] h there = cc
  all_dead b f (put ∷ puts) h there = by_base (all_dead b f puts h.1) (kind_base put.1) refl there
    where
      by_base : (list_any (λ k. b == k) (filter_map kind_base (map (λ (x : ℕ × Cap). x.1) puts)) ≡ true → list_any (λ k. b == k) (filter_map kind_base (caps f)) ≡ false) →
          (o : Option ℕ) → kind_base put.1 ≡ o → list_any (λ k. b == k) (cons_option o (filter_map kind_base (map (λ (x : ℕ × Cap). x.1) puts))) ≡ true → list_any (λ k. b == k) (filter_map kind_base (caps f)) ≡ false
      by_base rest None e t = rest t
      by_base rest (Some n) e t = elim (eqb_tells b n) [
        | inl w ↦ unnamed_dead b put.1 (e ∙ ap Some (sym w.1)) (preorder f) h.0
        | inr w ↦ rest (sym (ap (λ (s : Bool). s || list_any (λ k. b == k) (filter_map kind_base (map (λ (x : ℕ × Cap). x.1) puts))) w.0) ∙ t)
      ]

-- no entry names what can be made
none_named : (p : ProfileName) (memory untyped : ℕ) (all puts : List (ℕ × Cap)) (f : Forest Entry) → CanMake p memory untyped all f → AllByRecursion (IsNew p memory (cap_at f untyped) f) puts
    → ((c : Entry) → Contains (descendants (is_at untyped) f) c → AllByRecursion (λ (put : ℕ × Cap). end_of p c.cap ≤ base_of put.1) puts) → AllByRecursion (λ (put : ℕ × Cap). is_named put.1 f ≡ false) puts
none_named p memory untyped all [] f can new ends = tt
none_named p memory untyped all (put ∷ puts) f can new ends = (
  unnamed_new p untyped put.1 f can.regions can.disjoint can.distinct can.untyped_is new.0.within (λ c m. (ends c m).0),
  none_named p memory untyped all puts f can new.1 (λ c m. (ends c m).1),
)

module _ (p : ProfileName) (f : Forest Entry) (new : NewObjects) (is : IsRetype p f new) (memory : ℕ) (regions : AreRegions p f) (disjoint : IsDisjoint p f) (distinct : IsDistinct eqb (slots f)) (lawful : All (IsLawful p memory) (caps f)) where
  unnamed : AllByRecursion (λ (put : ℕ × Cap). is_named put.1 f ≡ false) (new_caps p new)
  unnamed = in_forest (new_caps p new) (none_named p memory new.untyped (new_caps p new) (new_caps p new) (freed new.untyped new.placed.free f) can can.new can.ends)
    where
      can : CanMake p memory new.untyped (new_caps p new) (freed new.untyped new.placed.free f)
      can = can_make p f new is memory regions disjoint distinct lawful

      in_forest : (puts : List (ℕ × Cap)) → AllByRecursion (λ (put : ℕ × Cap). is_named put.1 (freed new.untyped new.placed.free f) ≡ false) puts → AllByRecursion (λ (put : ℕ × Cap). is_named put.1 f ≡ false) puts
      in_forest [] h = tt
      in_forest (put ∷ puts) h = (sym (named-freed put.1 new.untyped new.placed.free f) ∙ h.0, in_forest puts h.1)

  pub endpoints_were_not : (b : ℕ) → list_any (λ k. b == k) (new_bases endpoint_base p new) ≡ true → list_any (λ k. b == k) (endpoints_of f) ≡ false
  endpoints_were_not b made = all_dead endpoint_base endpoint_kind b f (new_caps p new) unnamed made

  pub threads_were_not : (b : ℕ) → list_any (λ k. b == k) (new_bases tcb_base p new) ≡ true → list_any (λ k. b == k) (threads_of f) ≡ false
  threads_were_not b made = all_dead tcb_base tcb_kind b f (new_caps p new) unnamed made
