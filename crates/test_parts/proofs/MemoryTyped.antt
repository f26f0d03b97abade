-- Each step by which the tests' forest is made keeps it disjoint, and each of its capabilities is lawful.
use Rattle.std.proofs.Common.{ap, sym, subst, ◌∙◌, ◌≡◌, ℕ, true, false, refl}
use Rattle.std.specs.List.{AllByRecursion as Each, Contains}
use Rattle.cap_core.specs.declared.profile.ProfileName.{ProfileName}
use Rattle.cap_core.specs.declared.profile.ProfileName.TheVariants.{Wide, Narrow}
use Rattle.cap_core.specs.declared.capability.Cap.{Cap}
use Rattle.cap_core.specs.Objects.{is_null, is_untyped, same_object, contains, are_apart}
use Rattle.kernel_forest.specs.Forest.{Forest, none, preorder}
use Rattle.kernel_forest.specs.Entries.{Entry, cap_at, is_full}
use Rattle.kernel_forest.specs.Derivation.{derived, rooted}
use Rattle.kernel_forest.specs.Disjoint.{IsDisjoint}
use Rattle.test_parts.specs.Memory.{root_cnode, endpoint, node, in_root, with_root, with_endpoint, with_node, with_guarded, with_copy, with_itself}
use Rattle.kernel_forest.proofs.Trees.Forests.{each-contained}
use Rattle.kernel_forest.proofs.Slots.Edits.{each-rooted, each-derived}
use Rattle.kernel_forest.proofs.Disjoint.Disjointness.{disjoint-none, disjoint-rooted, disjoint-derived}

-- disjoint, and no untyped region in it
pub record IsTyped (p : ProfileName) (f : Forest Entry) : Type 0 where
  pub disjoint : IsDisjoint p f
  pub typed : Each (λ (e : Entry). is_untyped e.cap ≡ false) (preorder f)

typed_rooted : (p : ProfileName) (slot : ℕ) (cap : Cap) (f : Forest Entry) → IsTyped p f → is_null cap ≡ false → is_untyped cap ≡ false
    → Each (λ (e : Entry). are_apart p e.cap cap ≡ true) (preorder f) → IsTyped p (rooted slot cap f)
typed_rooted p slot cap f h some typed apart = record {
  disjoint = disjoint-rooted p slot cap f h.disjoint some (λ e m. each-contained (λ (e : Entry). are_apart p e.cap cap ≡ true) (preorder f) e apart m);
  typed = each-rooted (λ (e : Entry). is_untyped e.cap ≡ false) slot cap f h.typed typed;
}

typed_derived : (p : ProfileName) (source slot : ℕ) (cap : Cap) (f : Forest Entry) → IsTyped p f → is_full source f ≡ true → is_full slot f ≡ false
    → same_object (cap_at f source) cap ≡ true → is_untyped cap ≡ false → IsTyped p (derived source slot cap f)
typed_derived p source slot cap f h full empty same typed = record {
  disjoint = disjoint-derived p source slot cap f h.disjoint full empty same outside;
  typed = each-derived (λ (e : Entry). is_untyped e.cap ≡ false) source slot cap f h.typed typed;
}
  where
    outside : (u : Entry) → Contains (preorder f) u → is_untyped u.cap ≡ true → contains p u.cap cap ≡ false
    outside u m t = absurd (let n : is_untyped u.cap ≡ false = each-contained (λ (e : Entry). is_untyped e.cap ≡ false) (preorder f) u h.typed m in cc)

pub root_typed : (p : ProfileName) → IsTyped p (with_root p)
root_typed p = typed_rooted p (in_root p 1) (root_cnode p) none (record { disjoint = disjoint-none p; typed = tt }) refl refl tt

pub endpoint_typed : (p : ProfileName) → IsTyped p (with_endpoint p)
endpoint_typed Wide = typed_rooted Wide 128 endpoint (with_root Wide) (root_typed Wide) refl refl (refl, tt)
endpoint_typed Narrow = typed_rooted Narrow 64 endpoint (with_root Narrow) (root_typed Narrow) refl refl (refl, tt)

pub node_typed : (p : ProfileName) → IsTyped p (with_node p)
node_typed Wide = typed_rooted Wide 256 (node 0 0) (with_endpoint Wide) (endpoint_typed Wide) refl refl (refl, (refl, tt))
node_typed Narrow = typed_rooted Narrow 128 (node 0 0) (with_endpoint Narrow) (endpoint_typed Narrow) refl refl (refl, (refl, tt))

pub guarded_typed : (p : ProfileName) → IsTyped p (with_guarded p)
guarded_typed Wide = typed_derived Wide 256 288 (node 5 3) (with_node Wide) (node_typed Wide) refl refl refl refl
guarded_typed Narrow = typed_derived Narrow 128 144 (node 5 3) (with_node Narrow) (node_typed Narrow) refl refl refl refl

pub copy_typed : (p : ProfileName) → IsTyped p (with_copy p)
copy_typed Wide = typed_derived Wide 128 16480 endpoint (with_guarded Wide) (guarded_typed Wide) refl refl refl refl
copy_typed Narrow = typed_derived Narrow 64 16432 endpoint (with_guarded Narrow) (guarded_typed Narrow) refl refl refl refl

pub itself_typed : (p : ProfileName) → IsTyped p (with_itself p)
itself_typed Wide = typed_derived Wide 256 16384 (node 0 0) (with_copy Wide) (copy_typed Wide) refl refl refl refl
itself_typed Narrow = typed_derived Narrow 128 16384 (node 0 0) (with_copy Narrow) (copy_typed Narrow) refl refl refl refl

-- the same at equal slots, capabilities and forests
pub disjoint_same : (p : ProfileName) (a b s t : ℕ) (cap new : Cap) (f h : Forest Entry) → a ≡ b → s ≡ t → cap ≡ new → f ≡ h → IsDisjoint p (derived b t new h) → IsDisjoint p (derived a s cap f)
disjoint_same p a b s t cap new f h e d c k there =
    let Q : Forest Entry → Type 0 = IsDisjoint p in
    let same : derived a s cap f ≡ derived b t new h = ap (λ i. derived i s cap f) e ∙ ap (λ i. derived b i cap f) d ∙ ap (λ i. derived b t i f) c ∙ ap (derived b t new) k in
    subst Q (sym same) there
