-- The objects that full slots name, one slot more.
use Rattle.std.proofs.Common.{◌≡◌, ℕ, ◌+◌, ◌<◌, ◌==◌, List, [], ◌∷◌, ◌++◌, map, filter_map, take, length, get_or, Option, None, Some, not, Result, Ok, Err, IfOk, refl, sym, ap, ◌∙◌, append-nil}
use Rattle.std.specs.List.{filter, cons_option}
use Rattle.std.specs.BTreeSet.{BTreeSet, difference, insert_key}
use Rattle.std.specs.Ordering.{nat_cmp}
use Rattle.std.proofs.lemmas.List.{take_more, map-append}
use Rattle.std.proofs.lemmas.List.Elements.{filter_map-append}
use Rattle.cap_core.specs.declared.profile.ProfileName.{ProfileName}
use Rattle.setup_report.specs.declared.live.NamedObject.{NamedObject}
use Rattle.setup_report.specs.State.{Derived, is_in, rising, named, holding_themselves}
use Rattle.setup_report.proofs.Addresses.Rising.{rising_push, filter_alike, tied_in, any_rising, filter_rising}

named_last : {X : Type 0} (f : X → Option ℕ) (xs : List X) (x : X) (o : Option ℕ) → f x ≡ o → filter_map f (xs ++ x ∷ []) ≡ filter_map f xs ++ cons_option o []
named_last f xs x o e = filter_map-append f xs (x ∷ []) ∙ ap (λ o. filter_map f xs ++ cons_option o []) e

-- with one more of a list that is viewed
more_viewed : {X Y : Type 0} (f : Y → Option ℕ) (g : X → Y) (xs : List X) (i : ℕ) (d : X) (o : Option ℕ) → i < length xs → f (g (get_or xs i d)) ≡ o →
    filter_map f (map g (take (i + 1) xs)) ≡ filter_map f (map g (take i xs)) ++ cons_option o []
more_viewed f g xs i d o within is =
    ap (λ l. filter_map f (map g l)) (take_more xs i d within)
    ∙ ap (filter_map f) (map-append g (take i xs) (get_or xs i d ∷ []))
    ∙ named_last f (map g (take i xs)) (g (get_or xs i d)) o is

pub named_some : {X Y : Type 0} (f : Y → Option ℕ) (g : X → Y) (xs : List X) (i : ℕ) (d : X) (base : ℕ) (before after : List ℕ) → i < length xs →
    before ≡ rising (filter_map f (map g (take i xs))) → f (g (get_or xs i d)) ≡ Some base → after ≡ insert_key nat_cmp before base →
    after ≡ rising (filter_map f (map g (take (i + 1) xs)))
named_some f g xs i d base before after within is names so =
    so ∙ ap (λ l. insert_key nat_cmp l base) is
    ∙ sym (rising_push (filter_map f (map g (take i xs))) base)
    ∙ ap rising (sym (more_viewed f g xs i d (Some base) within names))

pub named_none : {X Y : Type 0} (f : Y → Option ℕ) (g : X → Y) (xs : List X) (i : ℕ) (d : X) (before : List ℕ) → i < length xs →
    before ≡ rising (filter_map f (map g (take i xs))) → f (g (get_or xs i d)) ≡ None → before ≡ rising (filter_map f (map g (take (i + 1) xs)))
named_none f g xs i d before within is names =
    is ∙ ap rising (sym (more_viewed f g xs i d None within names ∙ append-nil (filter_map f (map g (take i xs)))))

-- of a list that is viewed
pub filter_map_viewed : {A B C : Type 0} (f : B → Option C) (g : A → B) (xs : List A) → filter_map f (map g xs) ≡ filter_map (λ x. f (g x)) xs
filter_map_viewed f g [] = refl
filter_map_viewed f g (x ∷ xs) = ap (cons_option (f (g x))) (filter_map_viewed f g xs)

-- ---- CNodes that only slots of their own name

pub rising_selfheld : (p : ProfileName) (list : List Derived) (own others : BTreeSet ℕ) → own.keys ≡ rising (named p NamedObject.OwnNode list) → others.keys ≡ rising (named p NamedObject.OtherNode list) →
    difference nat_cmp own others ≡ rising (holding_themselves p list)
rising_selfheld p list own others e h =
    filter_alike _ (λ base. not (is_in base (named p NamedObject.OtherNode list))) own.keys
    (λ q. ap not (tied_in q others.keys ∙ ap (is_in q) h ∙ any_rising (λ a. q == a) (named p NamedObject.OtherNode list)))
    ∙ ap (filter (λ base. not (is_in base (named p NamedObject.OtherNode list)))) e
    ∙ filter_rising (λ base. not (is_in base (named p NamedObject.OtherNode list))) (named p NamedObject.OwnNode list)

-- what holds of a value where there is one
pub where_ok : {A E : Type 0} (P Q : A → Type 0) → ((a : A) → P a → Q a) → (r : Result A E) → IfOk r P → IfOk r Q
where_ok P Q f (Ok a) h = f a h
where_ok P Q f (Err e) h = h
