-- The test of the marked list, whether one is parent of another, is transitive.
use Rattle.std.proofs.Common.{◌≡◌, ◌≢◌, ℕ, Bool, true, false, not, ◌&&◌, ◌||◌, ◌==◌, refl, sym, ◌∙◌, arith}
use Rattle.std.proofs.lemmas.Bool.{and_parts, and_from}
use Rattle.std.proofs.lemmas.Bool.Decides.{nat_tests}
use Rattle.cap_core.specs.declared.profile.ProfileName.{ProfileName}
use Rattle.cap_core.specs.Objects.{badge_of, in_region}
use Rattle.kernel_forest.specs.Marked.{Marked, badge_fits, is_parent}
use Rattle.kernel_forest.proofs.Trees.Nested.{IsTransitive}
use Rattle.kernel_forest.proofs.Disjoint.InRegion.{region-transitive}

pub record BadgeFits (a b : Marked) : Type 0 where
  pub badge : badge_of a.cap ≢ 0 → badge_of b.cap ≡ badge_of a.cap
  pub first : badge_of a.cap ≢ 0 → b.first_badged ≡ false

fits_badge : (i j : ℕ) (b : Bool) → ((i == 0) || ((j == i) && not b)) ≡ true → i ≢ 0 → j ≡ i
fits_badge i j b h n = grind (arith, nat_tests)

fits_first : (i j : ℕ) (b : Bool) → ((i == 0) || ((j == i) && not b)) ≡ true → i ≢ 0 → b ≡ false
fits_first i j b h n = grind (arith, nat_tests)

fits_from : (i j : ℕ) (b : Bool) → (i ≢ 0 → j ≡ i) → (i ≢ 0 → b ≡ false) → ((i == 0) || ((j == i) && not b)) ≡ true
fits_from i j b h k = grind (arith, nat_tests, h, k)

pub badge_fits_is : (a b : Marked) → badge_fits a b ≡ true → BadgeFits a b
badge_fits_is a b h = record {
  badge = fits_badge (badge_of a.cap) (badge_of b.cap) b.first_badged h;
  first = fits_first (badge_of a.cap) (badge_of b.cap) b.first_badged h;
}

pub badge_fits_from : (a b : Marked) → BadgeFits a b → badge_fits a b ≡ true
badge_fits_from a b h = fits_from (badge_of a.cap) (badge_of b.cap) b.first_badged h.badge h.first

pub parent_parts : (p : ProfileName) (a b : Marked) → is_parent p a b ≡ true → (a.revocable ≡ true) × (in_region p a.cap b.cap ≡ true) × (badge_fits a b ≡ true)
parent_parts p a b h =
    let q : (a.revocable ≡ true) × ((in_region p a.cap b.cap && badge_fits a b) ≡ true) = and_parts a.revocable (in_region p a.cap b.cap && badge_fits a b) h in
    let r : (in_region p a.cap b.cap ≡ true) × (badge_fits a b ≡ true) = and_parts (in_region p a.cap b.cap) (badge_fits a b) q.1 in
    (q.0, r.0, r.1)

pub parent_from : (p : ProfileName) (a b : Marked) → a.revocable ≡ true → in_region p a.cap b.cap ≡ true → badge_fits a b ≡ true → is_parent p a b ≡ true
parent_from p a b r c f = and_from a.revocable (in_region p a.cap b.cap && badge_fits a b) r (and_from (in_region p a.cap b.cap) (badge_fits a b) c f)

pub parent-transitive : (p : ProfileName) → IsTransitive (is_parent p)
parent-transitive p a b c h k =
    let q : (a.revocable ≡ true) × (in_region p a.cap b.cap ≡ true) × (badge_fits a b ≡ true) = parent_parts p a b h in
    let r : (b.revocable ≡ true) × (in_region p b.cap c.cap ≡ true) × (badge_fits b c ≡ true) = parent_parts p b c k in
    let d : BadgeFits a b = badge_fits_is a b q.2 in
    let e : BadgeFits b c = badge_fits_is b c r.2 in
    parent_from p a c q.0 (region-transitive p a.cap b.cap c.cap q.1 r.1)
    (badge_fits_from a c (record {
      badge = λ z. e.badge (λ y. z (sym (d.badge z) ∙ y)) ∙ d.badge z;
      first = λ z. e.first (λ y. z (sym (d.badge z) ∙ y));
    }))

-- where a's region does not have b, a is not its parent
pub parent_outside : (p : ProfileName) (a b : Marked) → in_region p a.cap b.cap ≡ false → is_parent p a b ≡ false
parent_outside p a b h =
    (elim (is_parent p a b) as (λ c. is_parent p a b ≡ c → c ≡ false) [
      | true ↦ λ e. absurd (let y : in_region p a.cap b.cap ≡ true = (parent_parts p a b e).1 in cc)
      | false ↦ λ e. refl
    ]) refl

pub not_revocable : (p : ProfileName) (a b : Marked) → a.revocable ≡ false → is_parent p a b ≡ false
not_revocable p a b e = rw e
