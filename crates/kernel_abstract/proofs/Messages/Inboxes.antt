-- What a delivery does to the inboxes.
use Rattle.std.proofs.Common.{◌≡◌, ◌≢◌, ℕ, suc, ◌<◌, ◌≤◌, Bool, true, false, cond, ◌==◌, ◌||◌, List, [], ◌∷◌, Option, None, Some, refl, sym, ap, subst, ◌∙◌, arith, inl, inr, ◌⊎◌}
use Rattle.std.specs.List.{list_any, filter_map, cons_option, AllByRecursion}
use Rattle.std.proofs.lemmas.Bool.{cases_lt}
use Rattle.std.proofs.lemmas.Bool.Decides.{eqb_tells, leb_tells}
use Rattle.ipc_core.specs.Records.{ReceiveRecord, SendRecord}
use Rattle.kernel_abstract.specs.State.{completion, last_completed, later}

abbrev pub Pair : Type 0
Pair = SendRecord × ReceiveRecord

-- a later pair wins
later_wins : (p q : Pair) → completion p < completion q → later p (Some q) ≡ Some q
later_wins p q lt = elim (leb_tells (suc (completion p)) (completion q)) [
  | inl w ↦ ap (λ (b : Bool). cond b (Some q) (Some p)) w.0
  | inr w ↦ absurd (omega arith)
]

later_keeps : (p q : Pair) → completion q ≤ completion p → later p (Some q) ≡ Some p
later_keeps p q le = elim (leb_tells (suc (completion p)) (completion q)) [
  | inl w ↦ absurd (omega arith)
  | inr w ↦ ap (λ (b : Bool). cond b (Some q) (Some p)) w.0
]

-- no pair is completed after n
abbrev pub UpTo : ℕ → List Pair → Type 0
UpTo n [] = Unit {0}
UpTo n (p ∷ ps) = (completion p ≤ n) × UpTo n ps

last_up_to : (n : ℕ) (ps : List Pair) → UpTo n ps → (last_completed ps ≡ None) ⊎ ((q : Pair) × (last_completed ps ≡ Some q) × (completion q ≤ n))
last_up_to n [] h = inl refl
last_up_to n (p ∷ ps) h = elim (last_up_to n ps h.1) [
  | inl none ↦ inr (p, ap (later p) none, h.0)
  | inr w ↦ elim (cases_lt (completion p) (completion w.0)) [
    | inl lt ↦ inr (w.0, ap (later p) w.1 ∙ later_wins p w.0 lt, w.2)
    | inr le ↦ inr (p, ap (later p) w.1 ∙ later_keeps p w.0 le, h.0)
  ]
]

-- receives, of which those with the number n are now paired as p
module _ (g g' : ReceiveRecord → Option Pair) (n : ℕ) (p : Pair) (others : (x : ReceiveRecord) → x.number ≢ n → g' x ≡ g x) where
  -- each of these receives with the number is paired as p
  abbrev pub Here : List ReceiveRecord → Type 0
  Here receives = AllByRecursion (λ (x : ReceiveRecord). x.number ≡ n → g' x ≡ Some p) receives

  -- none of these receives has the number
  pub untouched : (xs : List ReceiveRecord) → list_any (λ (x : ReceiveRecord). x.number == n) xs ≡ false → filter_map g' xs ≡ filter_map g xs
  untouched [] h = refl
  untouched (x ∷ xs) h = elim (eqb_tells x.number n) [
    | inl w ↦ absurd (let e : (true || list_any (λ (y : ReceiveRecord). y.number == n) xs) ≡ false = sym (ap (λ (b : Bool). b || list_any (λ (y : ReceiveRecord). y.number == n) xs) w.0) ∙ h in cc)
    | inr w ↦ λ i. cons_option (others x w.1 i) (untouched xs (sym (ap (λ (b : Bool). b || list_any (λ (y : ReceiveRecord). y.number == n) xs) w.0) ∙ h) i)
  ]

  still_up_to : (xs : List ReceiveRecord) (m : ℕ) → Here xs → UpTo m (filter_map g xs) → m ≤ completion p → UpTo (completion p) (filter_map g' xs)
  still_up_to [] m here h le = tt
  still_up_to (x ∷ xs) m here h le = elim (eqb_tells x.number n) [
    | inl w ↦ subst (λ (o : Option Pair). UpTo (completion p) (cons_option o (filter_map g' xs))) (sym (here.0 w.1)) (omega arith, still_up_to xs m here.1 (tail (g x) (filter_map g xs) h) le)
    | inr w ↦ subst (λ (o : Option Pair). UpTo (completion p) (cons_option o (filter_map g' xs))) (sym (others x w.1)) (more (g x) (filter_map g xs) h (still_up_to xs m here.1 (tail (g x) (filter_map g xs) h) le))
  ]
    where
      tail : (o : Option Pair) (ps : List Pair) → UpTo m (cons_option o ps) → UpTo m ps
      tail None ps u = u
      tail (Some q) ps u = u.1

      more : (o : Option Pair) (ps : List Pair) → UpTo m (cons_option o ps) → UpTo (completion p) (filter_map g' xs) → UpTo (completion p) (cons_option o (filter_map g' xs))
      more None ps u v = v
      more (Some q) ps u v = (omega (arith, u.0), v)

  -- one of these receives has the number: its pair is the last
  pub now_last : (xs : List ReceiveRecord) (m : ℕ) → Here xs → UpTo m (filter_map g xs) → m < completion p → list_any (λ (x : ReceiveRecord). x.number == n) xs ≡ true → last_completed (filter_map g' xs) ≡ Some p
  now_last [] m here h lt there = cc
  now_last (x ∷ xs) m here h lt there = elim (eqb_tells x.number n) [
    | inl w ↦ ap (λ (o : Option Pair). last_completed (cons_option o (filter_map g' xs))) (here.0 w.1)
        ∙ elim (last_up_to (completion p) (filter_map g' xs) (still_up_to xs m here.1 (tail (g x) (filter_map g xs) h) (omega arith))) [
          | inl none ↦ ap (later p) none
          | inr q ↦ ap (later p) q.1 ∙ later_keeps p q.0 q.2
        ]
    | inr w ↦
        let rest = now_last xs m here.1 (tail (g x) (filter_map g xs) h) lt (sym (ap (λ (b : Bool). b || list_any (λ (y : ReceiveRecord). y.number == n) xs) w.0) ∙ there) in
        ap (λ (o : Option Pair). last_completed (cons_option o (filter_map g' xs))) (others x w.1) ∙ step_over (g x) (filter_map g xs) (filter_map g' xs) h rest
  ]
    where
      tail : (o : Option Pair) (ps : List Pair) → UpTo m (cons_option o ps) → UpTo m ps
      tail None ps u = u
      tail (Some q) ps u = u.1

      step_over : (o : Option Pair) (ps ps' : List Pair) → UpTo m (cons_option o ps) → last_completed ps' ≡ Some p → last_completed (cons_option o ps') ≡ Some p
      step_over None ps ps' u e = e
      step_over (Some q) ps ps' u e = ap (later q) e ∙ later_wins q p (omega (arith, u.0))
