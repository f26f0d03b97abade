-- Capabilities name one object where their numbers are one.
use Rattle.std.proofs.Common.{◌≡◌, ◌≢◌, ℕ, ◌^◌, ◌<◌, Bool, false, ◌==◌, ◌&&◌, sym, ap, ◌∙◌, arith, eq-eqb}
use Rattle.std.proofs.lemmas.Bool.{ne_eqb, cases_eq}
use Rattle.std.proofs.Common.{inl, inr}
use Rattle.cap_core.specs.declared.capability.Cap.{Cap}
use Rattle.cap_core.specs.declared.capability.Cap.TheVariants.{Null, Untyped, Endpoint, CNode, Tcb}
use Rattle.cap_core.specs.Objects.{is_null}
use Rattle.kernel_forest.specs.Derivation.{names_same}
use Rattle.query_revoke.specs.Objects.{size_in, key_of_object, object_number}

record Same (a k s b l t : ℕ) : Type 0 where
  base : a ≡ b
  kind : k ≡ l
  size : s ≡ t

parts : (a k s b l t : ℕ) → k < 8 → l < 8 → s < 2 ^ 32 → t < 2 ^ 32 → key_of_object a k s ≡ key_of_object b l t → Same a k s b l t
parts a k s b l t k8 l8 s32 t32 e = record { base = omega arith; kind = omega arith; size = omega arith }

other_kind : (a k s b l t : ℕ) → k < 8 → l < 8 → s < 2 ^ 32 → t < 2 ^ 32 → k ≢ l → false ≡ (key_of_object a k s == key_of_object b l t)
other_kind a k s b l t k8 l8 s32 t32 ne = sym (ne_eqb (key_of_object a k s) (key_of_object b l t) (λ e. ne (parts a k s b l t k8 l8 s32 t32 e).kind))

one_kind : (a b k : ℕ) → k < 8 → (a == b) ≡ (key_of_object a k 0 == key_of_object b k 0)
one_kind a b k k8 = elim (cases_eq a b) [
  | inl e ↦ eq-eqb a b e ∙ sym (eq-eqb (key_of_object a k 0) (key_of_object b k 0) (ap (λ (n : ℕ). key_of_object n k 0) e))
  | inr ne ↦ ne_eqb a b ne ∙ sym (ne_eqb (key_of_object a k 0) (key_of_object b k 0) (λ e. ne (parts a k 0 b k 0 k8 k8 (omega arith) (omega arith) e).base))
]

sized : (a b k s t : ℕ) → k < 8 → s < 2 ^ 32 → t < 2 ^ 32 → (a == b && s == t) ≡ (key_of_object a k s == key_of_object b k t)
sized a b k s t k8 s32 t32 = elim (cases_eq a b) [
  | inr ne ↦ ap (λ (c : Bool). c && s == t) (ne_eqb a b ne) ∙ sym (ne_eqb (key_of_object a k s) (key_of_object b k t) (λ e. ne (parts a k s b k t k8 k8 s32 t32 e).base))
  | inl e ↦ ap (λ (c : Bool). c && s == t) (eq-eqb a b e) ∙ elim (cases_eq s t) [
    | inl f ↦ eq-eqb s t f ∙ sym (eq-eqb (key_of_object a k s) (key_of_object b k t) (ap (λ (n : ℕ). key_of_object n k s) e ∙ ap (key_of_object b k) f))
    | inr ne ↦ ne_eqb s t ne ∙ sym (ne_eqb (key_of_object a k s) (key_of_object b k t) (λ e'. ne (parts a k s b k t k8 k8 s32 t32 e').size))
  ]
]

pub one_number : (a b : Cap) → is_null b ≡ false → size_in a < 2 ^ 32 → size_in b < 2 ^ 32 → names_same a b ≡ (object_number a == object_number b)
one_number a Null n h k = cc
one_number Null (Untyped c t g) n h k = other_kind 0 0 0 c 1 t (omega arith) (omega arith) (omega arith) k (omega arith)
one_number Null (Endpoint c d r) n h k = other_kind 0 0 0 c 2 0 (omega arith) (omega arith) (omega arith) (omega arith) (omega arith)
one_number Null (CNode c t g) n h k = other_kind 0 0 0 c 3 t (omega arith) (omega arith) (omega arith) k (omega arith)
one_number Null (Tcb c) n h k = other_kind 0 0 0 c 4 0 (omega arith) (omega arith) (omega arith) (omega arith) (omega arith)
one_number (Untyped b s f) (Untyped c t g) n h k = sized b c 1 s t (omega arith) h k
one_number (Untyped b s f) (Endpoint c d r) n h k = other_kind b 1 s c 2 0 (omega arith) (omega arith) h (omega arith) (omega arith)
one_number (Untyped b s f) (CNode c t g) n h k = other_kind b 1 s c 3 t (omega arith) (omega arith) h k (omega arith)
one_number (Untyped b s f) (Tcb c) n h k = other_kind b 1 s c 4 0 (omega arith) (omega arith) h (omega arith) (omega arith)
one_number (Endpoint b d r) (Untyped c t g) n h k = other_kind b 2 0 c 1 t (omega arith) (omega arith) (omega arith) k (omega arith)
one_number (Endpoint b d r) (Endpoint c d' r') n h k = one_kind b c 2 (omega arith)
one_number (Endpoint b d r) (CNode c t g) n h k = other_kind b 2 0 c 3 t (omega arith) (omega arith) (omega arith) k (omega arith)
one_number (Endpoint b d r) (Tcb c) n h k = other_kind b 2 0 c 4 0 (omega arith) (omega arith) (omega arith) (omega arith) (omega arith)
one_number (CNode b s f) (Untyped c t g) n h k = other_kind b 3 s c 1 t (omega arith) (omega arith) h k (omega arith)
one_number (CNode b s f) (Endpoint c d r) n h k = other_kind b 3 s c 2 0 (omega arith) (omega arith) h (omega arith) (omega arith)
one_number (CNode b s f) (CNode c t g) n h k = sized b c 3 s t (omega arith) h k
one_number (CNode b s f) (Tcb c) n h k = other_kind b 3 s c 4 0 (omega arith) (omega arith) h (omega arith) (omega arith)
one_number (Tcb b) (Untyped c t g) n h k = other_kind b 4 0 c 1 t (omega arith) (omega arith) (omega arith) k (omega arith)
one_number (Tcb b) (Endpoint c d r) n h k = other_kind b 4 0 c 2 0 (omega arith) (omega arith) (omega arith) (omega arith) (omega arith)
one_number (Tcb b) (CNode c t g) n h k = other_kind b 4 0 c 3 t (omega arith) (omega arith) (omega arith) k (omega arith)
one_number (Tcb b) (Tcb c) n h k = one_kind b c 4 (omega arith)
