-- The full slots that a slot leads to, in layers: in each those to which some slot of the layer before leads, and that are in none of the layers before.
use Rattle.std.specs.Prelude.{◌≡◌, ◌<◌, ℕ, suc, ◌+◌, Bool, true, false, not, List, [], ◌∷◌, length, reverse, unwrap_or, slice_get}
use Rattle.std.specs.List.{filter, list_any}
use Rattle.kernel_delete.specs.Members.{In}
use Rattle.cap_core.specs.declared.profile.ProfileName.{ProfileName}
use Rattle.query_reach.specs.declared.filled.FullSlot.{FullSlot}
use Rattle.query_reach.specs.declared.chains.chain.Target.{Target}
use Rattle.query_reach.specs.Chain.{gives, is_sought}

abbrev pub leads_to_layer : ProfileName → FullSlot → FullSlot → Bool
leads_to_layer p s t = gives p s.cap t.address

-- some slot of a layer leads to a slot
abbrev pub is_next : ProfileName → List FullSlot → FullSlot → Bool
is_next p layer t = list_any (λ s. leads_to_layer p s t) layer

abbrev pub next_layer : ProfileName → List FullSlot → List FullSlot → List FullSlot
next_layer p layer rest = filter (is_next p layer) rest

abbrev pub others_of : ProfileName → List FullSlot → List FullSlot → List FullSlot
others_of p layer rest = filter (λ t. not (is_next p layer t)) rest

-- the layers from one on, if the rest is in none before
abbrev pub IsLaid : ProfileName → List FullSlot → List FullSlot → List (List FullSlot) → Type 0
IsLaid p layer rest [] = layer ≡ []
IsLaid p layer rest (l ∷ ls) = (l ≡ layer) × IsLaid p (next_layer p layer rest) (others_of p layer rest) ls

abbrev pub layer_at : List (List FullSlot) → ℕ → List FullSlot
layer_at layers k = unwrap_or (slice_get layers k) []

abbrev pub is_sought_at : ProfileName → Target → FullSlot → Bool
is_sought_at p target s = is_sought p target s.cap

abbrev pub is_sought_in : ProfileName → Target → List FullSlot → Bool
is_sought_in p target layer = list_any (is_sought_at p target) layer

-- no slot of the first layers is sought
abbrev pub HasNoneSought : ProfileName → Target → List (List FullSlot) → ℕ → Type 0
HasNoneSought p target layers count = (k : ℕ) → k < count → is_sought_in p target (layer_at layers k) ≡ false

-- a slot that is sought, in the first layer that has such a slot
pub record IsFirstLayer (p : ProfileName) (target : Target) (layers : List (List FullSlot)) (depth : ℕ) (end : FullSlot) : Type 0 where
  pub within : depth < length layers
  pub in_layer : In end (layer_at layers depth)
  pub sought : is_sought_at p target end ≡ true
  pub none : HasNoneSought p target layers depth

-- to each slot of a layer some slot of the layer before leads
abbrev pub AreStepped : ProfileName → List (List FullSlot) → Type 0
AreStepped p layers = (k : ℕ) (t : FullSlot) → In t (layer_at layers (suc k)) → is_next p (layer_at layers k) t ≡ true

-- a slot of some layer
abbrev pub IsInLayers : List (List FullSlot) → FullSlot → Type 0
IsInLayers layers s = (k : ℕ) × In s (layer_at layers k)

-- each slot leads to the next, and the last one is sought; all are of the layers
abbrev pub IsLayerRun : ProfileName → Target → List (List FullSlot) → FullSlot → List FullSlot → Type 0
IsLayerRun p target layers s [] = IsInLayers layers s × (is_sought_at p target s ≡ true)
IsLayerRun p target layers s (t ∷ more) = IsInLayers layers s × ((leads_to_layer p s t ≡ true) × IsLayerRun p target layers t more)

-- a run of so many slots, from a slot of a layer on
abbrev pub IsRunFrom : ProfileName → Target → List (List FullSlot) → ℕ → ℕ → List FullSlot → Type 0
IsRunFrom p target layers k count [] = ⊥
IsRunFrom p target layers k count (s ∷ more) =
    In s (layer_at layers k) × ((length more ≡ count) × IsLayerRun p target layers s more)

-- the way back from the end, k layers long: turned round it is a run from the head on
pub record IsBack (p : ProfileName) (layers : List (List FullSlot)) (depth : ℕ) (end : FullSlot) (k : ℕ) (head : FullSlot) (back : List FullSlot) : Type 0 where
  pub at : ℕ
  pub place : at + k ≡ depth
  pub in_layer : In head (layer_at layers at)
  pub more : List FullSlot
  pub turned : reverse back ≡ head ∷ more
  pub count : length more ≡ k
  pub run : (target : Target) → is_sought_at p target end ≡ true → IsLayerRun p target layers head more
