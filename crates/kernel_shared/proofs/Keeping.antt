-- Steps that keep the rule: each view stays a beginning of the log.
use Rattle.std.proofs.Common.{◌≡◌, ◌≢◌, ℕ, List, [], ◌∷◌, ◌++◌, set, refl, ap, sym, ◌∙◌, subst, ⊎_elim, append_assoc, length, take, ◌≤◌, arith, length-append}
use Rattle.std.proofs.lemmas.List.{append-nil, take-append-le}
use mathlib.Core.Option.{some}
use lib.ListN.{get_elem?}
use Rattle.kernel_shared.proofs.Seats.{at_set, at_snoc}
use Rattle.kernel_shared.specs.declared.entry.Entry.{Entry}
use Rattle.kernel_shared.specs.Fronts.{StartsWith, Keeps, Sees}

pub starts_refl : (log : List Entry) → StartsWith log log
starts_refl log = record { rest = []; is = sym (append-nil log) }

pub starts_nil : (log : List Entry) → StartsWith log []
starts_nil log = record { rest = log; is = refl }

pub starts_snoc : (log : List Entry) (e : Entry) → StartsWith (log ++ e ∷ []) log
starts_snoc log e = record { rest = e ∷ []; is = refl }

pub starts_trans : (c b a : List Entry) → StartsWith c b → StartsWith b a → StartsWith c a
starts_trans c b a s t = record { rest = t.rest ++ s.rest; is = s.is ∙ (ap (λ l. l ++ s.rest) t.is ∙ append_assoc a t.rest s.rest) }

-- what was within the first stays
pub take_same : (log' log : List Entry) (n : ℕ) → StartsWith log' log → n ≤ length log → take n log' ≡ take n log
take_same log' log n s le = ap (take n) s.is ∙ take-append-le n log s.rest le

pub longer : (log' log : List Entry) → StartsWith log' log → length log ≤ length log'
longer log' log s = let a = ap length s.is in let b = length-append log s.rest in omega arith

pub keeps_set : (log log' : List Entry) (views : List (List Entry)) (seat : ℕ) (w : List Entry) → StartsWith log' log → Keeps log views → StartsWith log' w → Keeps log' (set views seat w)
keeps_set log log' views seat w s h k j u e =
    ⊎_elim (λ (t : (j ≡ seat) × (w ≡ u)). subst (λ (z : List Entry). StartsWith log' z) t.1 k) (λ (t : (j ≢ seat) × (get_elem? views j ≡ some u)). starts_trans log' log u s (h j u t.1)) (at_set views seat j w u e)

pub keeps_snoc : (log : List Entry) (views : List (List Entry)) (w : List Entry) → Keeps log views → StartsWith log w → Keeps log (views ++ w ∷ [])
keeps_snoc log views w h k j u e = ⊎_elim (h j u) (λ (same : w ≡ u). subst (λ (z : List Entry). StartsWith log z) same k) (at_snoc views w u j e)

-- a look, or a publish
pub turns : (log log' : List Entry) (views : List (List Entry)) (seat : ℕ) (v : List Entry) → StartsWith log' log → Keeps log views → get_elem? views seat ≡ some v
    → (w : List Entry) × Keeps log' (set views seat w) × Sees v log' w
turns log log' views seat v s h at = (log', keeps_set log log' views seat log' s h (starts_refl log'), record { later = starts_trans log' log v s (h seat v at); is = refl })

pub starts_by : (a a' b b' : List Entry) → a' ≡ a → b' ≡ b → StartsWith a b → StartsWith a' b'
starts_by a a' b b' p q s = subst (λ (l : List Entry). StartsWith l b') (sym p) (subst (λ (l : List Entry). StartsWith a l) (sym q) s)
