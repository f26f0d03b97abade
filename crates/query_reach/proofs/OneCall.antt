-- What one call of a thread names is in its lists.
use Rattle.std.proofs.Common.{◌≡◌, ℕ, zero, suc, ◌%◌, ◌^◌, ◌<◌, ◌⊎◌, inl, inr, refl, ap, ◌∙◌, arith, Bool, true, false, List, [], ◌∷◌, get_or, length, Ok}
use Rattle.std.specs.List.{Contains}
use Rattle.std.proofs.lemmas.Bool.{cases_eq}
use Rattle.std.proofs.lemmas.Nat.{mod_below, pow_pos}
use Rattle.cap_core.specs.declared.profile.ProfileName.{ProfileName}
use Rattle.cap_core.specs.Numbers.{word_bits}
use Rattle.kernel_forest.specs.Forest.{Forest}
use Rattle.kernel_forest.specs.Entries.{Entry, cap_at}
use Rattle.cspace_core.specs.Resolution.{is_cnode}
use Rattle.cspace_core.specs.Target.{target_slot}
use Rattle.query_reach.specs.declared.held.Held.{Held}
use Rattle.query_reach.specs.declared.reached.Reached.{Reached}
use Rattle.query_reach.specs.Reaching.{Reaches}
use Rattle.query_reach.specs.Holding.{Names, IsUnreached}
use Rattle.query_reach.specs.OneCall.{by_word, by_index, AreAllThatAreNamed}
use Rattle.query_reach.proofs.Refused.{leads-mod}
use Rattle.query_reach.proofs.Searched.{node_is_full}

-- a slot is in a list, or it is not
listed : (list : List Reached) (slot : ℕ) →
    ((r : Reached) × (Contains list r × (r.slot ≡ slot))) ⊎ ((r : Reached) → Contains list r → r.slot ≡ slot → ⊥)
listed [] slot = inr (λ r c same. let within = c.1 in omega arith)
listed (x ∷ list) slot = elim (cases_eq x.slot slot) [
  | inl here ↦ inl (x, ((0, omega arith, refl), here))
  | inr other ↦ elim (listed list slot) [
    | inl there ↦ inl (there.0, ((suc there.1.0.0, (let within = there.1.0.1 in omega arith), there.1.0.2), there.1.1))
    | inr none ↦ inr (λ r c same. not_in r c.0 c.1 c.2 same other none)
  ]
]
  where
    not_in : (r : Reached) (k : ℕ) → k < length (x ∷ list) → get_or (x ∷ list) k r ≡ r → r.slot ≡ slot → (x.slot ≡ slot → ⊥) →
        ((r : Reached) → Contains list r → r.slot ≡ slot → ⊥) → ⊥
    not_in r zero within is same other none = (let e : x ≡ r = is in other (ap (λ (y : Reached). y.slot) e ∙ same))
    not_in r (suc k) within is same other none = none r (k, omega arith, is) same

-- an index is looked up from a CNode's capability alone
root_is_node : (p : ProfileName) (f : Forest Entry) (holder index depth slot : ℕ) → target_slot p (cap_at f) (cap_at f holder) index depth ≡ Ok slot → is_cnode (cap_at f holder) ≡ true
root_is_node p f holder index depth slot e = by_node (is_cnode (cap_at f holder)) refl
  where
    by_node : (t : Bool) → is_cnode (cap_at f holder) ≡ t → is_cnode (cap_at f holder) ≡ true
    by_node true n = n
    by_node false n = (let none = rw n at e in cc)

pub all_are_named : (p : ProfileName) (f : Forest Entry) (thread : ℕ) (reached : List Reached) (held : List Held) → AreAllThatAreNamed p f thread reached held
all_are_named p f thread reached held reach hold op slot full (by_word word c led) =
    let w = reach.whole (word % 2 ^ word_bits p) slot (mod_below word (2 ^ word_bits p) (pow_pos (word_bits p)))
    (record { leads = leads-mod p f thread word ∙ led; full = full }) in
    inl (w.0, (w.1.0, w.1.1))
all_are_named p f thread reached held reach hold op slot full (by_index i holder c led named) =
    let low : i.root % 2 ^ word_bits p < 2 ^ word_bits p = mod_below i.root (2 ^ word_bits p) (pow_pos (word_bits p)) in
    let reaches : Reaches p f thread (i.root % 2 ^ word_bits p) holder =
    record { leads = leads-mod p f thread i.root ∙ led; full = node_is_full f holder (root_is_node p f holder i.index i.depth slot named) } in
    let names : Names p f thread (i.root % 2 ^ word_bits p) i.depth i.index slot = record { holder = holder; reaches = reaches; named = named; full = full } in
    elim (listed reached slot) [
      | inl there ↦ inl there
      | inr none ↦ (let unreached : IsUnreached p f thread slot = λ word low' r. (let w = reach.whole word slot low' r in none w.0 w.1.0 w.1.1) in
          let h = hold.whole (i.root % 2 ^ word_bits p) i.depth i.index slot low names unreached in
          inr (h.0, (h.1.0, h.1.1)))
    ]
