-- The lines at some addresses tell the text of each address.
use Rattle.std.proofs.Common.{◌≡◌, ℕ, ◌==◌, ◌||◌, Bool, true, false, cond, List, [], ◌∷◌, ◌++◌, map, Option, None, Some, inl, inr, refl, sym, ap, subst, ◌∙◌}
use Rattle.std.specs.List.{AllByRecursion as Each, find, flat_map}
use Rattle.std.proofs.lemmas.Bool.Decides.{eqb_tells}
use Rattle.setup_report.specs.State.{is_in, rising}
use Rattle.setup_report.proofs.Addresses.Rising.{any_rising}
use Rattle.command_trace.specs.Lines.{Lines, address_line, line_at, lines_at}
use Rattle.command_trace.specs.Changes.{text_at}

other_way : (a b : ℕ) → (a == b) ≡ (b == a)
other_way a b =
    elim (eqb_tells a b) [
      | inl same ↦ (λ i. same.1 i == sym same.1 i)
      | inr apart ↦ elim (eqb_tells b a) [
        | inl same ↦ absurd (apart.1 (sym same.1))
        | inr turned ↦ apart.0 ∙ sym turned.0
      ]
    ]

-- a text that is not there is none, whatever a test says
none_either : (b : Bool) (o : Option (List ℕ)) → o ≡ None → cond b o None ≡ None
none_either true o e = e
none_either false o e = refl

or_none : (b c : Bool) (o : Option (List ℕ)) → o ≡ None → cond c o None ≡ cond (b || c) o None
or_none b c o e = none_either c o e ∙ sym (none_either (b || c) o e)

here_or_there : (here there : Bool) (o : Option (List ℕ)) → cond here o (cond there o None) ≡ cond (here || there) o None
here_or_there true there o = refl
here_or_there false there o = refl

text_first : (text : ℕ → Option (List ℕ)) (address k : ℕ) (lines : Lines) (there : Bool) → text_at k lines ≡ cond there (text k) None
    → text_at k (address_line address (text address) ++ lines) ≡ cond ((k == address) || there) (text k) None
text_first text address k lines there rest =
    elim (eqb_tells k address) [
      | inl same ↦ at_it (text address) refl (ap text same.1) same.0
      | inr apart ↦ past_it (text address) apart.0
    ]
  where
    at_it : (o : Option (List ℕ)) → text address ≡ o → text k ≡ text address → (k == address) ≡ true → text_at k (address_line address o ++ lines) ≡ cond ((k == address) || there) (text k) None
    at_it None e same is = rest ∙ or_none (k == address) there (text k) (same ∙ e)
    at_it (Some t) e same is =
        ap (λ b. cond b (Some t) (text_at k lines)) (other_way address k ∙ is)
        ∙ (sym (same ∙ e) ∙ ap (λ b. cond (b || there) (text k) None) (sym is))

    past_it : (o : Option (List ℕ)) → (k == address) ≡ false → text_at k (address_line address o ++ lines) ≡ cond ((k == address) || there) (text k) None
    past_it None apart = rest ∙ ap (λ b. cond (b || there) (text k) None) (sym apart)
    past_it (Some t) apart =
        ap (λ b. cond b (Some t) (text_at k lines)) (other_way address k ∙ apart)
        ∙ (rest ∙ ap (λ b. cond (b || there) (text k) None) (sym apart))

text_among : (text : ℕ → Option (List ℕ)) (k : ℕ) (addresses : List ℕ) → text_at k (flat_map (line_at text) addresses) ≡ cond (is_in k addresses) (text k) None
text_among text k [] = refl
text_among text k (address ∷ addresses) = text_first text address k (flat_map (line_at text) addresses) (is_in k addresses) (text_among text k addresses)

-- where no other address has a text
pub text_told : (text : ℕ → Option (List ℕ)) (addresses : List ℕ) (k : ℕ) → (is_in k addresses ≡ false → text k ≡ None) → text_at k (lines_at text addresses) ≡ text k
text_told text addresses k others =
    text_among text k (rising addresses)
    ∙ (ap (λ b. cond b (text k) None) (any_rising (λ a. k == a) addresses)
    ∙ all_there (is_in k addresses) refl)
  where
    all_there : (b : Bool) → is_in k addresses ≡ b → cond b (text k) None ≡ text k
    all_there true e = refl
    all_there false e = sym (others e)

-- nothing is found at other addresses
pub not_found : {X : Type 0} (key : X → ℕ) (k : ℕ) (list : List X) → is_in k (map key list) ≡ false → find (λ x. key x == k) list ≡ None
not_found key k [] out = refl
not_found key k (x ∷ list) out =
    elim (k == key x) as (λ b. (k == key x) ≡ b → (b || is_in k (map key list)) ≡ false → find (λ y. key y == k) (x ∷ list) ≡ None) [
      | true ↦ λ e h. absurd (let w : true ≡ false = h in cc)
      | false ↦ λ e h. ap (λ b. cond b (Some x) (find (λ y. key y == k) list)) (other_way (key x) k ∙ e) ∙ not_found key k list h
    ] refl out

-- what holds of each holds of what is found
pub found_each : {X : Type 0} (P : X → Type 0) (test : X → Bool) (list : List X) (x : X) → Each P list → find test list ≡ Some x → P x
found_each {X} P test [] x h is = absurd (let w : ◌≡◌ {A = Option X} None (Some x) = is in cc)
found_each P test (y ∷ list) x h is =
    elim (test y) as (λ b. cond b (Some y) (find test list) ≡ Some x → P x) [
      | true ↦ λ same. let first : y ≡ x = cc in subst P first h.0
      | false ↦ λ same. found_each P test list x h.1 same
    ] is
