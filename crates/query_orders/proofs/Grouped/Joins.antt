-- Joining groups.
use Rattle.std.proofs.Common.{◌≡◌, ◌≤◌, ◌<◌, ◌+◌, ◌==◌, ℕ, Bool, true, false, cond, List, map, length, inl, inr, refl, ap, sym, subst, ◌∙◌, arith}
use Rattle.std.proofs.lemmas.List.{length-map}
use Rattle.std.proofs.lemmas.Bool.Decides.{eqb_tells}
use Rattle.query_orders.specs.Groups.{group_of_client}
use Rattle.query_orders.specs.Private.Grouping.{regrouped, AreGrouped}
use Rattle.query_orders.proofs.Grouped.Lists.{group_mapped}

at_from : (from to group : ℕ) → (group == from) ≡ true → regrouped from to group ≡ to
at_from from to group e = ap (λ b. cond b to group) e

at_other : (from to group : ℕ) → (group == from) ≡ false → regrouped from to group ≡ group
at_other from to group e = ap (λ b. cond b to group) e

-- by a property of what a group becomes
becomes : (P : ℕ → Type 0) (from to group : ℕ) → (group ≡ from → P to) → P group → P (regrouped from to group)
becomes P from to group there here = elim (eqb_tells group from) as (λ _. P (regrouped from to group)) [
  | inl same ↦ subst P (sym (at_from from to group same.0)) (there same.1)
  | inr other ↦ subst P (sym (at_other from to group other.0)) here
]

pub to_stays : (from to : ℕ) → regrouped from to to ≡ to
to_stays from to = becomes (λ n. n ≡ to) from to to (λ e. refl) refl

pub from_goes : (from to : ℕ) → regrouped from to from ≡ to
from_goes from to = elim (eqb_tells from from) as (λ _. regrouped from to from ≡ to) [
  | inl same ↦ at_from from to from same.0
  | inr other ↦ absurd (other.1 refl)
]

module _ (together : ℕ → ℕ → Bool) (groups : List ℕ) (from to : ℕ) where
  abbrev new : List ℕ
  new = map (regrouped from to) groups

  abbrev Respects : (ℕ → ℕ) → Type 0
  Respects other = (x y : ℕ) → x < length groups → y < length groups → together x y ≡ true → other x ≡ other y

  moved : (client : ℕ) → client < length groups → group_of_client new client ≡ regrouped from to (group_of_client groups client)
  moved client lt = group_mapped (regrouped from to) groups client lt

  as_long : length new ≡ length groups
  as_long = length-map groups (regrouped from to)

  was : (client : ℕ) → client < length new → client < length groups
  was client lt = omega (arith, as_long, lt)

  -- a group that has become another stays that
  settled : (x : ℕ) → group_of_client groups x ≡ x → group_of_client groups to ≡ to → regrouped from to (group_of_client groups (regrouped from to x)) ≡ regrouped from to x
  settled x h k = elim (eqb_tells x from) as (λ _. regrouped from to (group_of_client groups (regrouped from to x)) ≡ regrouped from to x) [
    | inl same ↦ (let is = at_from from to x same.0 in ap (λ n. regrouped from to (group_of_client groups n)) is ∙ ap (regrouped from to) k ∙ to_stays from to ∙ sym is)
    | inr other ↦ (let is = at_other from to x other.0 in ap (λ n. regrouped from to (group_of_client groups n)) is ∙ ap (regrouped from to) h)
  ]

  first_of : to ≤ from → group_of_client groups to ≡ to → (client : ℕ) → client < length groups → (group_of_client groups client ≤ client) × (group_of_client groups (group_of_client groups client) ≡ group_of_client groups client) →
      (group_of_client new client ≤ client) × (group_of_client new (group_of_client new client) ≡ group_of_client new client)
  first_of less root client lt h =
      let x = group_of_client groups client in
      let low : regrouped from to x ≤ client = becomes (λ n. n ≤ client) from to x (λ e. omega (arith, less, e, h.0)) h.0 in
      let there : regrouped from to x < length groups = omega (arith, low, lt) in (
        subst (λ n. n ≤ client) (sym (moved client lt)) low,
        ap (λ n. group_of_client new n) (moved client lt) ∙ moved (regrouped from to x) there ∙ settled x h.1 root ∙ sym (moved client lt),
      )

  finest_of : (other : ℕ → ℕ) → other from ≡ other to → (client : ℕ) → client < length groups → other client ≡ other (group_of_client groups client) → other client ≡ other (group_of_client new client)
  finest_of other same client lt h =
      let x = group_of_client groups client in
      h ∙ becomes (λ n. other x ≡ other n) from to x (λ e. ap other e ∙ same) refl ∙ ap other (sym (moved client lt))

  kept : (x y : ℕ) → x < length groups → y < length groups → group_of_client groups x ≡ group_of_client groups y → group_of_client new x ≡ group_of_client new y
  kept x y hx hy h = moved x hx ∙ ap (regrouped from to) h ∙ sym (moved y hy)

  -- two groups become one
  pub joined : (a b : ℕ) → a < length groups → b < length groups → to ≤ from → group_of_client groups to ≡ to → ((other : ℕ → ℕ) → Respects other → other from ≡ other to) →
      regrouped from to (group_of_client groups a) ≡ regrouped from to (group_of_client groups b) → AreGrouped together a b groups → AreGrouped together a (b + 1) new
  joined a b ha hb less root same one g = record {
    first = λ client lt. first_of less root client (was client lt) (g.first client (was client lt));
    finest = λ other respects client lt.
        (let h : Respects other = λ x y hx hy t. respects x y (omega (arith, as_long, hx)) (omega (arith, as_long, hy)) t in
        finest_of other (same other h) client (was client lt) (g.finest other h client (was client lt)));
    before = λ x y lx hx hy t. kept x y (was x hx) (was y hy) (g.before x y lx (was x hx) (was y hy) t);
    here = λ y ly hx hy t. elim (eqb_tells y b) as (λ _. group_of_client new a ≡ group_of_client new y) [
      | inl e ↦ subst (λ n. group_of_client new a ≡ group_of_client new n) (sym e.1) (moved a ha ∙ one ∙ sym (moved b hb))
      | inr n ↦ (let ne = n.1 in kept a y ha (was y hy) (g.here y (omega arith) ha (was y hy) t))
    ];
  }

module _ (together : ℕ → ℕ → Bool) (groups : List ℕ) (a b : ℕ) where
  abbrev one : ℕ
  one = group_of_client groups a

  abbrev other : ℕ
  other = group_of_client groups b

  -- both clients' groups are the same to all that respects what is together
  same_to : a < length groups → b < length groups → together a b ≡ true → AreGrouped together a b groups → (f : ℕ → ℕ) → Respects together groups 0 0 f → f one ≡ f other
  same_to ha hb t g f h = sym (g.finest f h a ha) ∙ h a b ha hb t ∙ g.finest f h b hb

  pub join_up : a < length groups → b < length groups → together a b ≡ true → one ≤ other → AreGrouped together a b groups → AreGrouped together a (b + 1) (map (regrouped other one) groups)
  join_up ha hb t le g =
      joined together groups other one a b ha hb le (g.first a ha).1 (λ f h. sym (same_to ha hb t g f h)) (to_stays other one ∙ sym (from_goes other one)) g

  pub join_down : a < length groups → b < length groups → together a b ≡ true → other ≤ one → AreGrouped together a b groups → AreGrouped together a (b + 1) (map (regrouped one other) groups)
  join_down ha hb t le g =
      joined together groups one other a b ha hb le (g.first b hb).1 (λ f h. same_to ha hb t g f h) (from_goes one other ∙ sym (to_stays one other)) g

  -- clients that are not together
  pub passed : together a b ≡ false → AreGrouped together a b groups → AreGrouped together a (b + 1) groups
  passed none g = record {
    first = g.first;
    finest = g.finest;
    before = g.before;
    here = λ y ly ha hy t. elim (eqb_tells y b) as (λ _. group_of_client groups a ≡ group_of_client groups y) [
      | inl e ↦ absurd (let was : together a b ≡ true = subst (λ n. together a n ≡ true) e.1 t in let no : true ≡ false = sym was ∙ none in cc)
      | inr n ↦ (let ne = n.1 in g.here y (omega arith) ha hy t)
    ];
  }

  -- all others were looked at
  pub next_client : length groups ≤ b → AreGrouped together a b groups → AreGrouped together (a + 1) 0 groups
  next_client all g = record {
    first = g.first;
    finest = g.finest;
    before = λ x y lx hx hy t. elim (eqb_tells x a) as (λ _. group_of_client groups x ≡ group_of_client groups y) [
      | inl e ↦ subst (λ n. group_of_client groups n ≡ group_of_client groups y) (sym e.1)
          (g.here y (omega (arith, all, hy)) (subst (λ n. n < length groups) e.1 hx) hy (subst (λ n. together n y ≡ true) e.1 t))
      | inr n ↦ (let ne = n.1 in g.before x y (omega arith) hx hy t)
    ];
    here = λ y ly ha hy t. absurd (omega (arith, ly));
  }
