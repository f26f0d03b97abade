-- What a filter leaves out, a stricter test does not miss.
use Rattle.std.proofs.Common.{◌≡◌, Bool, true, false, cond, ◌&&◌, ◌||◌, List, [], ◌∷◌, filter, refl, sym, ap, ◌∙◌}
use Rattle.std.specs.List.{list_any, list_all}
use Rattle.std.proofs.lemmas.Bool.{false≢true}

pub any_kept : {X : Type 0} (test keep : X → Bool) → ((x : X) → test x ≡ true → keep x ≡ true) → (l : List X) → list_any test (filter keep l) ≡ list_any test l
any_kept test keep h [] = refl
any_kept test keep h (x ∷ l) = by (keep x) refl (test x) refl (any_kept test keep h l)
  where
    by : (b : Bool) → keep x ≡ b → (c : Bool) → test x ≡ c → list_any test (filter keep l) ≡ list_any test l →
        list_any test (cond b (x ∷ filter keep l) (filter keep l)) ≡ (test x || list_any test l)
    by true kept c is rest = ap (λ d. test x || d) rest
    by false out true is rest = absurd (false≢true (sym out ∙ h x is))
    by false out false is rest = rest ∙ sym (ap (λ d. d || list_any test l) is)

pub filter_kept : {X : Type 0} (test keep : X → Bool) → ((x : X) → test x ≡ true → keep x ≡ true) → (l : List X) → filter test (filter keep l) ≡ filter test l
filter_kept test keep h [] = refl
filter_kept {X} test keep h (x ∷ l) = by (keep x) refl (test x) refl (filter_kept test keep h l)
  where
    by : (b : Bool) → keep x ≡ b → (c : Bool) → test x ≡ c → filter test (filter keep l) ≡ filter test l →
        filter test (cond b (x ∷ filter keep l) (filter keep l)) ≡ cond (test x) (x ∷ filter test l) (filter test l)
    by true kept c is rest = ap (λ (r : List X). cond (test x) (x ∷ r) r) rest
    by false out true is rest = absurd (false≢true (sym out ∙ h x is))
    by false out false is rest = rest ∙ sym (ap (λ d. cond d (x ∷ filter test l) (filter test l)) is)

-- what passes a test anyway is not missed
pub all_kept : {X : Type 0} (test keep : X → Bool) → ((x : X) → test x ≡ false → keep x ≡ true) → (l : List X) → list_all test (filter keep l) ≡ list_all test l
all_kept test keep h [] = refl
all_kept test keep h (x ∷ l) = by (keep x) refl (test x) refl (all_kept test keep h l)
  where
    by : (b : Bool) → keep x ≡ b → (c : Bool) → test x ≡ c → list_all test (filter keep l) ≡ list_all test l →
        list_all test (cond b (x ∷ filter keep l) (filter keep l)) ≡ (test x && list_all test l)
    by true kept c is rest = ap (λ d. test x && d) rest
    by false out false is rest = absurd (false≢true (sym out ∙ h x is))
    by false out true is rest = rest ∙ sym (ap (λ d. d && list_all test l) is)
