-- What the tests by a flow exclude, whatever calls are made.
use Rattle.std.proofs.Common.{◌≡◌, ℕ, ◌≤◌, ◌⊎◌, inl, inr, Bool, true, false, cond, not, ◌==◌, ◌&&◌, ◌||◌, nat_le, List, [], ◌∷◌, Option, Some, None, option_map, refl, sym, ap, subst, ◌∙◌, arith, eq-eqb, bit_and}
use Rattle.std.specs.List.{list_any, list_all, filter_map, cons_option}
use Rattle.std.proofs.lemmas.Bool.{false≢true, eqb-true, le-leb}
use Rattle.std.proofs.lemmas.Bool.Decides.{nat_tests}
use Rattle.std.proofs.lemmas.List.Folds.{list_any-append}
use Rattle.std.proofs.lemmas.Nat.{pow_pos, and_comm}
use Rattle.cap_core.specs.declared.profile.ProfileName.{ProfileName}
use Rattle.cap_core.specs.declared.capability.Badge.{Badge}
use Rattle.cap_core.specs.declared.capability.Cap.TheVariants.{Endpoint}
use Rattle.cap_core.specs.declared.rights.Rights.{Rights}
use Rattle.cap_core.specs.Objects.{bits_of}
use Rattle.kernel_delete.specs.Members.{In}
use Rattle.kernel_delete.proofs.Members.{both_true, true_left, true_right, any_of, all_in, tells}
use Rattle.query_parts.proofs.Lists.{and_true}
use Rattle.query_parts.specs.Listed.{last_in}
use Rattle.kernel_abstract.specs.Decode.{has_right}
use Rattle.query_flow.specs.declared.listed.Standing.{Standing}
use Rattle.query_flow.specs.declared.listed.Standing.TheVariants as standing
use Rattle.query_flow.specs.declared.listed.MayStand.{MayStand}
use Rattle.query_flow.specs.declared.listed.Caller.{Caller}
use Rattle.query_flow.specs.declared.listed.Flows.{Flows}
use Rattle.query_flow.specs.declared.excluded.Spot.{Spot}
use Rattle.query_flow.specs.Flow.{Flow}
use Rattle.query_flow.specs.Laws.{MayUseByFlow}
use Rattle.query_flow.specs.Listed.{is_among, within, last_le, stands_for_cap, caller_of, caller_names, caller_nodes, fits_badge, flow_of_lists}
use Rattle.query_flow.specs.Excluded.{is_number_listed}
use Rattle.query_flow.specs.Apart.{names_by, sets_named, nodes_by, nodes_in, one_at, from_to, spot_of, spot_in, and_spot, is_spot_apart, are_spots_apart}
use Rattle.query_flow.proofs.Made.{few_fit}
use Rattle.query_flow.proofs.Settled.{stands_by, within_range, last_is}

-- ---- lists of numbers

swapped : (a b : ℕ) → (a == b) ≡ (b == a)
swapped a b = by (tells (a == b)) (tells (b == a))
  where
    by : ((a == b) ≡ true) ⊎ ((a == b) ≡ false) → ((b == a) ≡ true) ⊎ ((b == a) ≡ false) → (a == b) ≡ (b == a)
    by (inl h) k = h ∙ sym (eq-eqb b a (sym (eqb-true a b h)))
    by (inr h) (inr k) = h ∙ sym k
    by (inr h) (inl k) = absurd (false≢true (sym h ∙ eq-eqb a b (sym (eqb-true b a k))))

pub listed_among : (numbers : List ℕ) (n : ℕ) → is_number_listed numbers n ≡ is_among numbers n
listed_among [] n = refl
listed_among (k ∷ numbers) n =
    ap (λ (b : Bool). b || is_number_listed numbers n) (swapped n k) ∙ ap (λ (b : Bool). (k == n) || b) (listed_among numbers n)

-- ---- spots

abbrev pub lies_at : ℕ → Spot → Bool
lies_at e spot = nat_le spot.first e && nat_le e spot.last

le_self : (n : ℕ) → nat_le n n ≡ true
le_self n = le-leb n n (omega arith)

pub at_one : (e : ℕ) → lies_at e (one_at e) ≡ true
at_one e = and_true (nat_le e e) (nat_le e e) (le_self e) (le_self e)

-- what is in two spots keeps them from being apart
not_apart : (e : ℕ) (a b : Spot) → lies_at e a ≡ true → lies_at e b ≡ true → is_spot_apart a b ≡ true → ⊥
not_apart e a b h k apart =
    let x = both_true (nat_le a.first e) (nat_le e a.last) h in
    let y = both_true (nat_le b.first e) (nat_le e b.last) k in
    let none : is_spot_apart a b ≡ false = grind (arith, nat_tests, x.0, x.1, y.0, y.1) in
    false≢true (sym none ∙ apart)

pub none_both : (e : ℕ) (some others : List Spot) → are_spots_apart some others ≡ true → list_any (lies_at e) some ≡ true → list_any (lies_at e) others ≡ true → ⊥
none_both e some others apart h k =
    let a = any_of (lies_at e) some h in
    let b = any_of (lies_at e) others k in
    not_apart e a.0 b.0 a.1.1 b.1.1
    (all_in (is_spot_apart a.0) others b.0 (all_in (λ (x : Spot). list_all (is_spot_apart x) others) some a.0 apart a.1.0) b.1.0)

any_of_given : {X Y : Type 0} (g : X → Option Y) (f : Y → Bool) (x : X) (y : Y) → g x ≡ Some y → f y ≡ true → (xs : List X) → In x xs →
    list_any f (filter_map g xs) ≡ true
any_of_given g f x y gives passes [] there = absurd there
any_of_given {X} {Y} g f x y gives passes (z ∷ xs) there = elim there [
  | inl same ↦ subst (λ (o : Option Y). list_any f (cons_option o (filter_map g xs)) ≡ true) (sym gives ∙ ap g same)
      (true_left (f y) (list_any f (filter_map g xs)) passes)
  | inr rest ↦ passed (g z) (any_of_given g f x y gives passes xs rest)
]
  where
    passed : (o : Option Y) → list_any f (filter_map g xs) ≡ true → list_any f (cons_option o (filter_map g xs)) ≡ true
    passed None h = h
    passed (Some w) h = true_right (f w) (list_any f (filter_map g xs)) h

pub spot_among : (e : ℕ) (spots : List Spot) (o : Option Spot) → list_any (lies_at e) spots ≡ true → list_any (lies_at e) (and_spot spots o) ≡ true
spot_among e spots None h = h
spot_among e spots (Some spot) h = list_any-append (lies_at e) spots (spot ∷ []) ∙ true_left (list_any (lies_at e) spots) (list_any (lies_at e) (spot ∷ [])) h

pub spot_last : (e : ℕ) (spots : List Spot) (o : Option Spot) → o ≡ Some (one_at e) → list_any (lies_at e) (and_spot spots o) ≡ true
spot_last e spots o h =
    subst (λ (x : Option Spot). list_any (lies_at e) (and_spot spots x) ≡ true) (sym h)
    (list_any-append (lies_at e) spots (one_at e ∷ [])
    ∙ true_right (list_any (lies_at e) spots) (list_any (lies_at e) (one_at e ∷ [])) (true_left (lies_at e (one_at e)) false (at_one e)))

within_last : (base bits other few : ℕ) → within base bits other few ≡ true → (a : ℕ) × (last_in base bits ≡ Some a)
within_last base bits other few h = by (last_in other few) (last_in base bits) refl h
  where
    by : (a b : Option ℕ) → last_in base bits ≡ b → nat_le base other && last_le a b ≡ true → (x : ℕ) × (last_in base bits ≡ Some x)
    by None b e h = absurd (false≢true (both_true (nat_le base other) _ h).1)
    by (Some a) None e h = absurd (false≢true (both_true (nat_le base other) _ h).1)
    by (Some a) (Some b) e h = (b, e)

-- ---- what stands for an endpoint's capability with a right lies in a spot

right_kept : (right : ℕ) (few most : Rights) → bit_and few.0 most.0 == few.0 ≡ true → has_right right few ≡ true → has_right right most ≡ true
right_kept right few most among has =
    let in_few : bit_and right few.0 ≡ right = and_comm right few.0 ∙ eqb-true (bit_and few.0 right) right has in
    let in_most : bit_and right most.0 ≡ right = few_fit right few.0 most.0 in_few (eqb-true (bit_and few.0 most.0) few.0 among) in
    eq-eqb (bit_and most.0 right) right (and_comm most.0 right ∙ in_most)

record IsSpotted (o : Option Spot) (e : ℕ) : Type 0 where
  spot : Spot
  is : o ≡ Some spot
  at : lies_at e spot ≡ true

cond_some : {X : Type 0} (b : Bool) (x : X) → b ≡ true → cond b (Some x) None ≡ Some x
cond_some true x h = refl
cond_some false x h = absurd (false≢true h)

not_among : (b : Bool) → b ≡ false → not b ≡ true
not_among false h = refl
not_among true h = absurd (false≢true (sym h))

module _ (p : ProfileName) (right : ℕ) (by : List ℕ) (e : ℕ) (badge : Badge) (rights : Rights) (has : has_right right rights ≡ true) (other : is_among by e ≡ false) where
  spotted : (what : Standing) → stands_for_cap p what (Endpoint e badge rights) ≡ true → IsSpotted (spot_of right by what) e
  spotted (standing.Endpoint base most top) c =
      let x = both_true (base == e) _ c in
      let y = both_true (fits_badge most badge) (bit_and rights.0 top.0 == rights.0) x.1 in
      let same = eqb-true base e x.0 in
      let passes : has_right right top && not (is_among by base) ≡ true =
      and_true (has_right right top) (not (is_among by base)) (right_kept right rights top y.1 has)
      (not_among (is_among by base) (ap (is_among by) same ∙ other)) in
      record {
        spot = one_at base;
        is = cond_some (has_right right top && not (is_among by base)) (one_at base) passes;
        at = subst (λ n. lies_at n (one_at base) ≡ true) same (at_one base);
      }
  spotted (standing.Region base bits) c =
      let few = bits_of p (Endpoint e badge rights) in
      let end = within_last base bits e few c in
      let inside = within_range base bits e few e (last_in e few) (last_in base bits) refl refl c (omega arith) (omega (arith, pow_pos few)) in
      let last = last_is base bits end.0 end.1 in
      let low : nat_le base e ≡ true = le-leb base e inside.0 in
      let bound : e ≤ end.0 = let most = inside.1 in omega (arith, most, last, pow_pos bits) in
      let high : nat_le e end.0 ≡ true = le-leb e end.0 bound in
      record {
        spot = from_to base end.0;
        is = ap (option_map (from_to base)) end.1;
        at = and_true (nat_le base e) (nat_le e end.0) low high;
      }
  spotted (standing.Untyped base bits) c = absurd (false≢true c)
  spotted (standing.Node base radix takes) c = absurd (false≢true c)
  spotted (standing.Thread base) c = absurd (false≢true c)

  spotted_in : (names : List ℕ) (s : MayStand) → is_among names s.set ≡ true → stands_for_cap p s.what (Endpoint e badge rights) ≡ true → IsSpotted (spot_in right by names s) e
  spotted_in names s named c =
      let spot = spotted s.what c in
      record { spot = spot.spot; is = ap (λ (b : Bool). cond b (spot_of right by s.what) None) named ∙ spot.is; at = spot.at }

  spotted_among : (names : List ℕ) (all : List MayStand) (s : MayStand) → In s all → is_among names s.set ≡ true → stands_for_cap p s.what (Endpoint e badge rights) ≡ true →
      list_any (lies_at e) (filter_map (spot_in right by names) all) ≡ true
  spotted_among names all s there named c =
      let spot = spotted_in names s named c in
      any_of_given (spot_in right by names) (lies_at e) s spot.spot spot.is spot.at all there

-- ---- what a thread's words may lead to

named_by : (o : Option Caller) (set : ℕ) → caller_names o set ≡ is_among (names_by o) set
named_by None set = refl
named_by (Some k) set = refl

noded_by : (o : Option Caller) (set : ℕ) → caller_nodes o set ≡ is_among (nodes_by o) set
noded_by None set = refl
noded_by (Some k) set = refl

module _ (p : ProfileName) (flows : Flows) where
  abbrev pub its : Flow
  its = flow_of_lists p flows

  pub named_in : (thread set : ℕ) → its.names (its.set_of thread) set ≡ true → is_among (sets_named flows thread) set ≡ true
  named_in thread set h = sym (named_by (caller_of flows.callers.items (its.set_of thread)) set) ∙ h

  pub noded_in : (thread set : ℕ) → its.nodes (its.set_of thread) set ≡ true → is_among (nodes_in flows thread) set ≡ true
  noded_in thread set h = sym (noded_by (caller_of flows.callers.items (its.set_of thread)) set) ∙ h

  pub used_spot : (right : ℕ) (by : List ℕ) (thread e : ℕ) (badge : Badge) → is_among by e ≡ false → MayUseByFlow its right (its.set_of thread) e badge →
      list_any (lies_at e) (filter_map (spot_in right by (sets_named flows thread)) flows.standing.items) ≡ true
  used_spot right by thread e badge other (set, (named, (rights, (may, has)))) =
      let s = stands_by p flows.memory.items flows.standing.items flows.callers.items flows.trusted.items set (Endpoint e badge rights) refl may in
      spotted_among p right by e badge rights has other (sets_named flows thread) flows.standing.items s.0 s.1.0
      (subst (λ n. is_among (sets_named flows thread) n ≡ true) (sym s.1.1.0) (named_in thread set named)) s.1.1.1
