-- Regions: what two names of one object share, and that lying in a region is transitive.
use Rattle.std.proofs.Common.{◌≡◌, ℕ, ◌+◌, ◌^◌, true, false, not, ◌&&◌, ◌==◌, nat_le, refl, sym, ◌∙◌, arith}
use Rattle.std.proofs.lemmas.Bool.{and_parts, and_from}
use Rattle.std.proofs.lemmas.Bool.Decides.{nat_tests}
use Rattle.cap_core.specs.declared.profile.ProfileName.{ProfileName}
use Rattle.cap_core.specs.declared.profile.ProfileName.TheVariants.{Wide}
use Rattle.cap_core.specs.declared.capability.Cap.{Cap}
use Rattle.cap_core.specs.declared.capability.Cap.TheVariants.{Null, Untyped, Endpoint, CNode, Tcb}
use Rattle.cap_core.specs.Objects.{is_null, is_untyped, badge_of, base_of, bits_of, same_object, contains, in_region}
use Rattle.kernel_forest.specs.Derivation.{names_same}
use Rattle.kernel_forest.proofs.Disjoint.Disjointness.{same_object-swap, same_number}
use Rattle.kernel_forest.proofs.Disjoint.Alike.{IsAlike, alike_same, alike_named}

-- two capabilities of one object or of one untyped region
pub record NamesOne (p : ProfileName) (a b : Cap) : Type 0 where
  pub null : is_null a ≡ is_null b
  pub untyped : is_untyped a ≡ is_untyped b
  pub of : (c : Cap) → in_region p c a ≡ in_region p c b
  pub by : (c : Cap) → in_region p a c ≡ in_region p b c
  pub same : (c : Cap) → same_object a c ≡ same_object b c

-- what is no untyped one has its own object for its region
pub region_same : (p : ProfileName) (a c : Cap) → is_untyped a ≡ false → in_region p a c ≡ same_object a c
region_same p Null c h = refl
region_same p (Untyped i bits free) c h = absurd (let n : true ≡ false = h in cc)
region_same p (Endpoint i badge rights) c h = refl
region_same p (CNode i radix guard) c h = refl
region_same p (Tcb i) c h = refl

pub same_not_null : (a b : Cap) → same_object a b ≡ true → (is_null a ≡ false) × (is_null b ≡ false)
same_not_null (Endpoint i badge rights) (Endpoint j badge' rights') h = (refl, refl)
same_not_null (CNode i radix guard) (CNode j radix' guard') h = (refl, refl)
same_not_null (Tcb i) (Tcb j) h = (refl, refl)
same_not_null a b h = absurd (let n : false ≡ true = h in cc)

pub one_alike : (p : ProfileName) (a b : Cap) → is_null a ≡ is_null b → IsAlike p a b → NamesOne p a b
one_alike p a b n s = record { null = n; untyped = s.untyped; of = of; by = by a b s; same = s.names }
  where
    named : (c : Cap) → same_object c a ≡ same_object c b
    named c = same_object-swap c a ∙ s.names c ∙ same_object-swap b c

    of : (c : Cap) → in_region p c a ≡ in_region p c b
    of Null = refl
    of (Untyped k bits free) = rw (n, s.base, s.bits)
    of (Endpoint k badge rights) = named (Endpoint k badge rights)
    of (CNode k radix guard) = named (CNode k radix guard)
    of (Tcb k) = named (Tcb k)

    typed : (x y : Cap) → IsAlike p x y → is_untyped x ≡ false → (c : Cap) → in_region p x c ≡ in_region p y c
    typed x y t u c = region_same p x c u ∙ t.names c ∙ sym (region_same p y c (sym t.untyped ∙ u))

    by : (x y : Cap) → IsAlike p x y → (c : Cap) → in_region p x c ≡ in_region p y c
    by (Untyped i bits free) (Untyped j bits' free') t c = rw (t.base, t.bits)
    by (Untyped i bits free) Null t c = absurd (let no' : true ≡ false = t.untyped in cc)
    by (Untyped i bits free) (Endpoint j badge rights) t c = absurd (let no' : true ≡ false = t.untyped in cc)
    by (Untyped i bits free) (CNode j radix guard) t c = absurd (let no' : true ≡ false = t.untyped in cc)
    by (Untyped i bits free) (Tcb j) t c = absurd (let no' : true ≡ false = t.untyped in cc)
    by Null y t c = typed Null y t refl c
    by (Endpoint i badge rights) y t c = typed (Endpoint i badge rights) y t refl c
    by (CNode i radix guard) y t c = typed (CNode i radix guard) y t refl c
    by (Tcb i) y t c = typed (Tcb i) y t refl c

pub same_one : (p : ProfileName) (a b : Cap) → same_object a b ≡ true → NamesOne p a b
same_one p a b h = let n = same_not_null a b h in one_alike p a b (n.0 ∙ sym n.1) (alike_same p a b h)

named_null : (a b : Cap) → names_same a b ≡ true → is_null a ≡ is_null b
named_null (Untyped i bits free) (Untyped j bits' free') h = refl
named_null (Untyped i bits free) Null h = absurd (let n : false ≡ true = h in cc)
named_null (Untyped i bits free) (Endpoint j badge rights) h = refl
named_null (Untyped i bits free) (CNode j radix guard) h = refl
named_null (Untyped i bits free) (Tcb j) h = refl
named_null Null b h = absurd (let n : false ≡ true = h in cc)
named_null (Endpoint i badge rights) b h = let n = same_not_null (Endpoint i badge rights) b h in n.0 ∙ sym n.1
named_null (CNode i radix guard) b h = let n = same_not_null (CNode i radix guard) b h in n.0 ∙ sym n.1
named_null (Tcb i) b h = let n = same_not_null (Tcb i) b h in n.0 ∙ sym n.1

pub names_one : (p : ProfileName) (a b : Cap) → names_same a b ≡ true → NamesOne p a b
names_one p a b h = one_alike p a b (named_null a b h) (alike_named p a b h)

-- what an untyped one contains that contains another
contains-transitive : (i m j n k o : ℕ) → (nat_le i j && nat_le (j + n) (i + m)) ≡ true → (nat_le j k && nat_le (k + o) (j + n)) ≡ true → (nat_le i k && nat_le (k + o) (i + m)) ≡ true
contains-transitive i m j n k o h g = grind (arith, nat_tests)

pub region-transitive : (p : ProfileName) (a b c : Cap) → in_region p a b ≡ true → in_region p b c ≡ true → in_region p a c ≡ true
region-transitive p (Untyped i bits free) (Untyped j bits' free') c h k =
    let q = and_parts (not (is_null c)) (contains p (Untyped j bits' free') c) k in
    and_from (not (is_null c)) (contains p (Untyped i bits free) c) q.0
    (contains-transitive i (2 ^ bits) j (2 ^ bits') (base_of c) (2 ^ bits_of p c) h q.1)
region-transitive p (Untyped i bits free) Null c h k = absurd (let n : false ≡ true = h in cc)
region-transitive p (Untyped i bits free) (Endpoint j badge rights) c h k = sym ((same_one p (Endpoint j badge rights) c k).of (Untyped i bits free)) ∙ h
region-transitive p (Untyped i bits free) (CNode j radix guard) c h k = sym ((same_one p (CNode j radix guard) c k).of (Untyped i bits free)) ∙ h
region-transitive p (Untyped i bits free) (Tcb j) c h k = sym ((same_one p (Tcb j) c k).of (Untyped i bits free)) ∙ h
region-transitive p Null b c h k = absurd (let n : false ≡ true = h in cc)
region-transitive p (Endpoint i badge rights) b c h k = (same_one p (Endpoint i badge rights) b h).by c ∙ k
region-transitive p (CNode i radix guard) b c h k = (same_one p (CNode i radix guard) b h).by c ∙ k
region-transitive p (Tcb i) b c h k = (same_one p (Tcb i) b h).by c ∙ k

not_less : (n : ℕ) → nat_le n n ≡ true
not_less n = grind (arith, nat_tests)

pub region-self : (p : ProfileName) (a : Cap) → is_null a ≡ false → in_region p a a ≡ true
region-self p Null h = absurd (let n : true ≡ false = h in cc)
region-self p (Untyped i bits free) h = rw (not_less i, not_less (i + 2 ^ bits))
region-self p (Endpoint i badge rights) h = same_number i
region-self p (CNode i radix guard) h = and_from (i == i) (radix == radix) (same_number i) (same_number radix)
region-self p (Tcb i) h = same_number i

pub untyped-badge : (a : Cap) → is_untyped a ≡ true → badge_of a ≡ 0
untyped-badge (Untyped i bits free) h = refl
untyped-badge Null h = absurd (let n : false ≡ true = h in cc)
untyped-badge (Endpoint i badge rights) h = absurd (let n : false ≡ true = h in cc)
untyped-badge (CNode i radix guard) h = absurd (let n : false ≡ true = h in cc)
untyped-badge (Tcb i) h = absurd (let n : false ≡ true = h in cc)

pub same-through : (a b c : Cap) → same_object a b ≡ true → same_object b c ≡ true → same_object a c ≡ true
same-through a b c h k = (same_one Wide a b h).same c ∙ k

pub named_typed : (a b : Cap) → same_object a b ≡ true → is_untyped a ≡ false
named_typed (Endpoint i badge rights) b h = refl
named_typed (CNode i radix guard) b h = refl
named_typed (Tcb i) b h = refl
named_typed Null b h = refl
named_typed (Untyped i bits free) b h = absurd (let n : false ≡ true = h in cc)
