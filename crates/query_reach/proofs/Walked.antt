-- A chain through layers, and why no chain is shorter.
use Rattle.std.proofs.Common.{◌≡◌, ◌≤◌, ◌<◌, ◌==◌, ◌⊎◌, inl, inr, ℕ, suc, ◌+◌, true, not, List, [], ◌∷◌, length, sym, ap, ◌∙◌, subst, arith, eqb-true}
use Rattle.std.specs.List.{filter}
use Rattle.std.proofs.lemmas.Bool.{cases_lt, false≢true, eq-eqb}
use Rattle.cap_core.specs.declared.profile.ProfileName.{ProfileName}
use Rattle.cap_core.specs.declared.capability.Cap.{Cap}
use Rattle.kernel_forest.specs.Forest.{Forest}
use Rattle.kernel_forest.specs.Entries.{Entry, cap_at}
use Rattle.query_reach.specs.declared.filled.FullSlot.{FullSlot}
use Rattle.query_reach.specs.declared.chains.chain.Target.{Target}
use Rattle.query_reach.specs.FullSlots.{AreFullSlots}
use Rattle.query_reach.specs.Chain.{IsFullSlot, LeadsOn, IsChain, IsShortest}
use Rattle.kernel_delete.specs.Members.{In}
use Rattle.query_reach.specs.Private.Layers.{IsLaid, layer_at, is_sought_at, is_sought_in, HasNoneSought, IsFirstLayer, IsInLayers, IsLayerRun, IsRunFrom}
use Rattle.kernel_delete.proofs.Members.{any_in, tells}
use Rattle.query_reach.proofs.Filtered.{in_filter, of_filter, get_in, in_get}
use Rattle.query_reach.proofs.Laid.{UpTo, up_to_at, layer_within, in_first, one_more, laid_first, laid_in}

same_slot : (s t : FullSlot) → s.address ≡ t.address → s.cap ≡ t.cap → s ≡ t
same_slot s t e h =
    ap (λ (n : ℕ). record { address = n; cap = s.cap }) e ∙ ap (λ (c : Cap). record { address = t.address; cap = c }) h

-- the slots of a list are the full slots of a forest
module _ (f : Forest Entry) (filled : List FullSlot) (are : AreFullSlots f filled) where
  pub listed : (s : FullSlot) → In s filled → IsFullSlot f s
  listed s i = let r = in_get filled s i in record { full = are.full r.0 s r.1; holds = are.holds r.0 s r.1 }

  pub in_listed : (s : FullSlot) → IsFullSlot f s → In s filled
  in_listed s is =
      let r = are.all s.address is.full in
      let same : r.1.0 ≡ s = same_slot r.1.0 s r.1.1.1 (are.holds r.0 r.1.0 r.1.1.0 ∙ (ap (cap_at f) r.1.1.1 ∙ sym is.holds)) in
      subst (λ (u : FullSlot). In u filled) same (get_in filled r.0 r.1.0 r.1.1.0)

module _ (p : ProfileName) (f : Forest Entry) (target : Target) where
  full_head : (s : FullSlot) (more : List FullSlot) → LeadsOn p f target s more → IsFullSlot f s
  full_head s [] on = on.0
  full_head s (t ∷ more) on = on.0

  -- a chain from a slot of the first layers ends in a layer that is no more layers behind than the chain has slots
  walked : (layer rest : List FullSlot) (ls : List (List FullSlot)) → IsLaid p layer rest ls →
      ((t : FullSlot) → IsFullSlot f t → In t layer ⊎ In t rest) → (n k : ℕ) (s : FullSlot) (more : List FullSlot) → n ≡ k + length more →
      UpTo k ls s → LeadsOn p f target s more → (t : FullSlot) × (UpTo n ls t × (is_sought_at p target t ≡ true))
  walked layer rest ls laid all n k s [] e up on = (s, (subst (λ (m : ℕ). UpTo m ls s) (omega (arith, e)) up, on.1))
  walked layer rest ls laid all n k s (t ∷ more) e up on =
      walked layer rest ls laid all n (suc k) t more (omega (arith, e))
      (one_more p ls layer rest k s t laid up on.1.0 (all t (full_head t more on.1.1))) on.1.1

module _ (p : ProfileName) (f : Forest Entry) (root : ℕ) (target : Target) (filled : List FullSlot) (are : AreFullSlots f filled) (ls : List (List FullSlot))
    (laid : IsLaid p (filter (λ (s : FullSlot). s.address == root) filled) (filter (λ (s : FullSlot). not (s.address == root)) filled) ls) where
  parted : (t : FullSlot) → In t filled →
      In t (filter (λ (s : FullSlot). s.address == root) filled) ⊎ In t (filter (λ (s : FullSlot). not (s.address == root)) filled)
  parted t i = elim (tells (t.address == root)) [
    | inl here ↦ inl (in_filter (λ (s : FullSlot). s.address == root) filled t i here)
    | inr other ↦ inr (in_filter (λ (s : FullSlot). not (s.address == root)) filled t i (ap not other))
  ]

  -- a chain shows a layer, no later than the chain is long, in which some slot is sought
  shown : (chain : List FullSlot) → IsChain p f target root chain →
      (j : ℕ) × ((suc j ≤ length chain) × ((j < length ls) × (is_sought_in p target (layer_at ls j) ≡ true)))
  shown [] is = absurd is
  shown (s ∷ more) is =
      let here = in_filter (λ (u : FullSlot). u.address == root) filled s (in_listed f filled are s (full_head p f target s more is.1)) (eq-eqb s.address root is.0) in
      let up = in_first p (filter (λ (u : FullSlot). u.address == root) filled) (filter (λ (u : FullSlot). not (u.address == root)) filled) ls s laid here in
      let end = walked p f target (filter (λ (u : FullSlot). u.address == root) filled) (filter (λ (u : FullSlot). not (u.address == root)) filled) ls laid
      (λ t full. parted t (in_listed f filled are t full)) (length more) 0 s more (omega arith) up is.1 in
      let at = up_to_at (length more) ls end.0 end.1.0 in (
        at.0,
        (
          omega (arith, at.1.0),
          (
            layer_within ls at.0 end.0 at.1.1,
            any_in (is_sought_at p target) (layer_at ls at.0) end.0 at.1.1 end.1.1,
          ),
        ),
      )

  pub none_found : HasNoneSought p target ls (length ls) → IsShortest p f target root []
  none_found none other is =
      let at = shown other is in
      false≢true (sym (none at.0 at.1.1.0) ∙ at.1.1.1)

  run_full : (s : FullSlot) → IsInLayers ls s → IsFullSlot f s
  run_full s i = elim (laid_in p ls (filter (λ (u : FullSlot). u.address == root) filled) (filter (λ (u : FullSlot). not (u.address == root)) filled) laid i.0 s i.1) [
    | inl here ↦ listed f filled are s (of_filter (λ (u : FullSlot). u.address == root) filled s here).0
    | inr there ↦ listed f filled are s (of_filter (λ (u : FullSlot). not (u.address == root)) filled s there).0
  ]

  run_leads : (s : FullSlot) (more : List FullSlot) → IsLayerRun p target ls s more → LeadsOn p f target s more
  run_leads s [] run = (run_full s run.0, run.1)
  run_leads s (t ∷ more) run = (run_full s run.0, (run.1.0, run_leads t more run.1.1))

  pub found : (depth : ℕ) (end : FullSlot) → IsFirstLayer p target ls depth end → (chain : List FullSlot) → IsRunFrom p target ls 0 depth chain →
      IsShortest p f target root chain
  found depth end is [] run = absurd run
  found depth end is (s ∷ more) run = (
    (
      eqb-true s.address root (of_filter (λ (u : FullSlot). u.address == root) filled s
          (laid_first p (filter (λ (u : FullSlot). u.address == root) filled) (filter (λ (u : FullSlot). not (u.address == root)) filled) ls s laid run.0)).1,
      run_leads s more run.1.1,
    ),
    λ other chain.
        let at = shown other chain in
        elim (cases_lt at.0 depth) [
          | inl before ↦ absurd (false≢true (sym (is.none at.0 before) ∙ at.1.1.1))
          | inr after ↦ omega (arith, after, at.1.0, run.1.0)
        ],
  )
