-- A set of numbers, one number more.
use Rattle.std.proofs.Common.{◌≡◌, ℕ, ◌+◌, ◌<◌, List, take, length, get_or, sym, ap, ◌∙◌}
use Rattle.std.specs.BTreeSet.{insert_key}
use Rattle.std.specs.Ordering.{nat_cmp}
use Rattle.std.proofs.lemmas.List.{take_more}
use Rattle.setup_report.specs.State.{rising}
use Rattle.setup_report.proofs.Addresses.Rising.{rising_push}

pub pushed : (xs : List ℕ) (i d : ℕ) (before after : List ℕ) → i < length xs → before ≡ rising (take i xs) →
    after ≡ insert_key nat_cmp before (get_or xs i d) → after ≡ rising (take (i + 1) xs)
pushed xs i d before after within is so =
    so ∙ ap (λ l. insert_key nat_cmp l (get_or xs i d)) is
    ∙ sym (rising_push (take i xs) (get_or xs i d))
    ∙ ap rising (sym (take_more xs i d within))
