-- Two capabilities of one object, or of one untyped region: what is disjoint from one is disjoint from the other.
use Rattle.std.proofs.Common.{◌≡◌, ℕ, true, ◌==◌, refl, sym, ◌∙◌}
use Rattle.std.proofs.lemmas.Bool.{and_parts, eqb-true}
use Rattle.cap_core.specs.declared.profile.ProfileName.{ProfileName}
use Rattle.cap_core.specs.declared.capability.Cap.{Cap}
use Rattle.cap_core.specs.declared.capability.Cap.TheVariants.{Null, Untyped, Endpoint, CNode, Tcb}
use Rattle.cap_core.specs.Objects.{is_untyped, base_of, bits_of, same_object, contains}
use Rattle.kernel_forest.specs.Derivation.{names_same, with_free}
use Rattle.kernel_forest.specs.Disjoint.{are_disjoint}
use Rattle.kernel_forest.proofs.Disjoint.Disjointness.{AreSame, are_same, are_disjoint-swap}

pub record IsAlike (p : ProfileName) (a b : Cap) : Type 0 where
  pub base : base_of a ≡ base_of b
  pub bits : bits_of p a ≡ bits_of p b
  pub untyped : is_untyped a ≡ is_untyped b
  pub names : (c : Cap) → same_object a c ≡ same_object b c

pub alike_self : (p : ProfileName) (a : Cap) → IsAlike p a a
alike_self p a = record { base = refl; bits = refl; untyped = refl; names = λ c. refl }

pub alike_same : (p : ProfileName) (a b : Cap) → same_object a b ≡ true → IsAlike p a b
alike_same p a b h =
    let s : AreSame p a b = are_same p a b h in
    record { base = s.base; bits = s.bits; untyped = s.first ∙ sym s.second; names = s.names }

pub alike_named : (p : ProfileName) (a b : Cap) → names_same a b ≡ true → IsAlike p a b
alike_named p (Untyped i bits free) (Untyped j bits' free') h =
    let both = and_parts (i == j) (bits == bits') h in
    record { base = eqb-true i j both.0; bits = eqb-true bits bits' both.1; untyped = refl; names = λ c. refl }
alike_named p Null b h = alike_same p Null b h
alike_named p (Endpoint i badge rights) b h = alike_same p (Endpoint i badge rights) b h
alike_named p (CNode i radix guard) b h = alike_same p (CNode i radix guard) b h
alike_named p (Tcb i) b h = alike_same p (Tcb i) b h
alike_named p (Untyped i bits free) Null h = alike_same p (Untyped i bits free) Null h
alike_named p (Untyped i bits free) (Endpoint j badge rights) h = alike_same p (Untyped i bits free) (Endpoint j badge rights) h
alike_named p (Untyped i bits free) (CNode j radix guard) h = alike_same p (Untyped i bits free) (CNode j radix guard) h
alike_named p (Untyped i bits free) (Tcb j) h = alike_same p (Untyped i bits free) (Tcb j) h

-- the free index is no part of an object's range
pub alike_freed : (p : ProfileName) (free : ℕ) (a : Cap) → IsAlike p a (with_free free a)
alike_freed p free Null = alike_self p Null
alike_freed p free (Untyped i bits former) = record { base = refl; bits = refl; untyped = refl; names = λ c. refl }
alike_freed p free (Endpoint i badge rights) = alike_self p (Endpoint i badge rights)
alike_freed p free (CNode i radix guard) = alike_self p (CNode i radix guard)
alike_freed p free (Tcb i) = alike_self p (Tcb i)

pub contains-alike_first : (p : ProfileName) (a b c : Cap) → IsAlike p a b → contains p a c ≡ contains p b c
contains-alike_first p a b c s = rw (s.base, s.bits) refl

pub contains-alike_second : (p : ProfileName) (a b c : Cap) → IsAlike p a b → contains p c a ≡ contains p c b
contains-alike_second p a b c s = rw (s.base, s.bits) refl

pub disjoint-alike_first : (p : ProfileName) (a b c : Cap) → IsAlike p a b → are_disjoint p a c ≡ are_disjoint p b c
disjoint-alike_first p a b c s = rw (s.names c, s.base, s.bits, s.untyped) refl

pub disjoint-alike : (p : ProfileName) (a a' b b' : Cap) → IsAlike p a a' → IsAlike p b b' → are_disjoint p a b ≡ are_disjoint p a' b'
disjoint-alike p a a' b b' s t =
    disjoint-alike_first p a a' b s ∙ are_disjoint-swap p a' b ∙ disjoint-alike_first p b b' a' t ∙ are_disjoint-swap p b' a'

pub contains-alike : (p : ProfileName) (a a' b b' : Cap) → IsAlike p a a' → IsAlike p b b' → contains p a b ≡ contains p a' b'
contains-alike p a a' b b' s t = contains-alike_first p a a' b s ∙ contains-alike_second p b b' a' t
