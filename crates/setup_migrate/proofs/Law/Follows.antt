-- A reading that gives what another reading gives, wherever that one gives something.
use Rattle.std.proofs.Common.{◌≡◌, ℕ, ◌+◌, List, [], ◌∷◌, Option, Some, None, Result, Ok, Err, refl, ap, ◌∙◌}
use Rattle.toml.specs.Data.{Data, Members, get_member}
use Rattle.setup_values.specs.declared.values.Wrong.{Wrong}
use Rattle.cap_core.specs.Checks.{◌>>=◌}
use Rattle.setup_values.specs.Kinds.{each}
use Rattle.setup_format.specs.declared.fault.Place.{Place}
use Rattle.setup_format.specs.Tables.{required, optional, needed, given_or, at_key}
use Rattle.setup_format.proofs.Grammar.Parts.{no_answer}

pub record Follows {A E : Type 0} (r s : Result A E) : Type 0 where
  pub follows : (x : A) → r ≡ Ok x → s ≡ Ok x

pub same : {A E : Type 0} (r : Result A E) → Follows r r
same r = record { follows = λ x e. e }

pub equal : {A E : Type 0} (r s : Result A E) → s ≡ r → Follows r s
equal r s e = record { follows = λ x given. e ∙ given }

pub together : {A B E : Type 0} (r : Result A E) (f : A → Result B E) (x : A) (y : B) → r ≡ Ok x → f x ≡ Ok y → (r >>= f) ≡ Ok y
together r f x y first then = rw first then

both : {A B E : Type 0} (r s : Result A E) (f g : A → Result B E) → ((x : A) → r ≡ Ok x → s ≡ Ok x) → ((x : A) (y : B) → f x ≡ Ok y → g x ≡ Ok y)
    → (y : B) → (r >>= f) ≡ Ok y → (s >>= g) ≡ Ok y
both (Ok x) s f g first then y e = rw (first x refl) (then x y e)
both (Err e) s f g first then y eq = no_answer e y eq

-- one reading after another
pub after : {A B E : Type 0} {r s : Result A E} {f g : A → Result B E} → Follows r s → ((x : A) → Follows (f x) (g x)) → Follows (r >>= f) (s >>= g)
after {r = r} {s = s} {f = f} {g = g} first then = record { follows = both r s f g (λ x. first.follows x) (λ x. (then x).follows) }

pub at_key_follows : {A : Type 0} (place : Place) (key : List ℕ) (r s : Result A Wrong) → Follows r s → Follows (at_key place key r) (at_key place key s)
at_key_follows place key (Ok x) s h = record { follows = λ y e. ap (at_key place key) (h.follows x refl) ∙ e }
at_key_follows place key (Err wrong) s h = record { follows = λ y e. no_answer _ y e }

-- what is read at a key is what the kind gives
pub at_key_gives : {A : Type 0} (place : Place) (key : List ℕ) (r : Result A Wrong) (x : A) → at_key place key r ≡ Ok x → r ≡ Ok x
at_key_gives place key (Ok y) x e = let same : y ≡ x = cc in ap Ok same
at_key_gives place key (Err wrong) x e = no_answer _ x e

needed_follows : {A : Type 0} (f g : Data → Result A Wrong) (o : Option Data) → ((d : Data) → Follows (f d) (g d)) → Follows (needed f o) (needed g o)
needed_follows f g None h = same _
needed_follows f g (Some d) h = h d

given_follows : {A : Type 0} (default : A) (f g : Data → Result A Wrong) (o : Option Data) → ((d : Data) → Follows (f d) (g d)) → Follows (given_or default f o) (given_or default g o)
given_follows default f g None h = same _
given_follows default f g (Some d) h = h d

-- at a key where both tables hold the same
pub required_follows : {A : Type 0} (place : Place) (t u : Members) (key : List ℕ) (f g : Data → Result A Wrong) → get_member key u ≡ get_member key t → ((d : Data) → Follows (f d) (g d))
    → Follows (required place t key f) (required place u key g)
required_follows place t u key f g e h = rw e (at_key_follows place key _ _ (needed_follows f g (get_member key t) h))

pub optional_follows : {A : Type 0} (place : Place) (t u : Members) (key : List ℕ) (default : A) (f g : Data → Result A Wrong) → get_member key u ≡ get_member key t
    → ((d : Data) → Follows (f d) (g d)) → Follows (optional place t key default f) (optional place u key default g)
optional_follows place t u key default f g e h = rw e (at_key_follows place key _ _ (given_follows default f g (get_member key t) h))

-- each element in turn
pub each_follows : {A B E : Type 0} (f g : ℕ → A → Result B E) (n : ℕ) (xs : List A) → ((m : ℕ) (x : A) → Follows (f m x) (g m x)) → Follows (each f n xs) (each g n xs)
unfolding each
each_follows f g n [] h = same _
each_follows f g n (x ∷ xs) h = after (h n x) (λ y. after (each_follows f g (n + 1) xs h) (λ ys. same (Ok (y ∷ ys))))
