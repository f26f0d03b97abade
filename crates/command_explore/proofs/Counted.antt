-- Numbers that count up by one, as far as they are looked at.
use Rattle.std.proofs.Common.{◌≡◌, ℕ, ◌+◌, ◌<◌, ◌≤◌, ◌==◌, ◌&&◌, ◌++◌, true, false, cond, codes, List, length, drop, get_or, ap, ◌∙◌}
use Rattle.std.specs.Fmt.{decimal}
use Rattle.std.proofs.lemmas.Bool.{eq-eqb, ne_eqb}
use Rattle.std.proofs.lemmas.List.{drop_all, drop_more}
use Rattle.command_explore.specs.Numbers.{count_up, numbers_text, order_text}

counted : (numbers : List ℕ) (i : ℕ) → i < length numbers →
    count_up (i + 1) (drop i numbers) ≡ ((get_or numbers i 0 == i + 1) && count_up (i + 1 + 1) (drop (i + 1) numbers))
counted numbers i lt = ap (count_up (i + 1)) (drop_more numbers i 0 lt)

pub count_goes_on : (numbers : List ℕ) (i : ℕ) → i < length numbers → get_or numbers i 0 ≡ i + 1 →
    count_up (i + 1) (drop i numbers) ≡ count_up (i + 1 + 1) (drop (i + 1) numbers)
count_goes_on numbers i lt is = counted numbers i lt ∙ ap (λ b. b && count_up (i + 1 + 1) (drop (i + 1) numbers)) (eq-eqb (get_or numbers i 0) (i + 1) is)

pub count_stops : (numbers : List ℕ) (i : ℕ) → i < length numbers → (get_or numbers i 0 ≡ i + 1 → ⊥) → count_up (i + 1) (drop i numbers) ≡ false
count_stops numbers i lt other = counted numbers i lt ∙ ap (λ b. b && count_up (i + 1 + 1) (drop (i + 1) numbers)) (ne_eqb (get_or numbers i 0) (i + 1) other)

pub count_ends : (numbers : List ℕ) (i : ℕ) → length numbers ≤ i → count_up (i + 1) (drop i numbers) ≡ true
count_ends numbers i le = ap (count_up (i + 1)) (drop_all i numbers le)

-- an order of the set-up's first calls is told by the last one
pub own_order : (by numbers : List ℕ) → count_up 1 numbers ≡ true → order_text by numbers ≡ codes " in order to " ++ decimal (length numbers)
own_order by numbers is = ap (λ b. cond b (codes " in order to " ++ decimal (length numbers)) (codes " " ++ (by ++ numbers_text numbers))) is
