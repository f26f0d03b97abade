-- A line that clap takes never comes to clap's own subcommand `help`: that is answered with help, or refused.
use Rattle.std.proofs.Common.{◌≡◌, ◌&&◌, ℕ, Bool, true, false, true≢false, refl, sym, ap, subst, cond, codes, List, [], ◌∷◌, Option, Some, None}
use Rattle.std.specs.List.{fold}
use Rattle.std.specs.Prelude.{not, ⊤}
use Rattle.std.specs.Str.{bytes_eq}
use Rattle.std.proofs.lemmas.Slice.Eq.{bytes_eq-Decides}
use Rattle.clap.specs.Kinds.{Kinds, or_else}
use Rattle.clap.specs.Lexer.{long_of, short_of}
use Rattle.clap.specs.Faults.{other_fault, turn_fault, walk_fault}
use Rattle.clap.specs.Simple.{Shape}
use Rattle.clap.specs.Walk.{Held, Names, Outcome, Rule, Step, Text, Waiting, Walk, after_flag, after_step, arg_by_index, arg_by_long, bundle, done, idle, long_met, long_or_other, next, option, plain, plain_word, positional, refused, short_or_plain, subcommand, subcommand_met, subcommand_or_other, to_positional, trailing, value, waits, walked, walked_from}
use Rattle.clap.specs.declared.error.kind.ErrorKind.TheVariants as kind

-- ---- a word that names no subcommand lets the walk go on

abbrev goes_on : Step → Bool
goes_on (subcommand name) = false
goes_on _ = true

plain_goes_on : (c : List Rule) (waiting : Waiting) (word : Text) (h : Held) → goes_on (plain_word c waiting word h).1 ≡ true
plain_goes_on c idle word h = refl
plain_goes_on c (option id) word h = refl
plain_goes_on c positional word h = refl

flag_goes_on : (c : List Rule) (waiting : Waiting) (word : Text) (h : Held) (o : Outcome) → goes_on (after_flag c waiting word h o).1 ≡ true
flag_goes_on c waiting word h done = refl
flag_goes_on c waiting word h (waits id) = refl
flag_goes_on c waiting word h plain = plain_goes_on c waiting word h
flag_goes_on c waiting word h refused = plain_goes_on c waiting word h

short_goes_on : (c : List Rule) (waiting : Waiting) (word : Text) (flags : Option Text) (h : Held) → goes_on (short_or_plain c waiting word flags h).1 ≡ true
short_goes_on c waiting word (Some flags) h = flag_goes_on c waiting word (bundle c flags h).0 (bundle c flags h).1
short_goes_on c waiting word None h = plain_goes_on c waiting word h

long_goes_on : (c : List Rule) (waiting : Waiting) (word : Text) (l : Option (Text × Option Text)) (h : Held) → goes_on (long_or_other c waiting word l h).1 ≡ true
long_goes_on c waiting word (Some p) h = flag_goes_on c waiting word (long_met c (arg_by_long c p.0) p.1 h).0 (long_met c (arg_by_long c p.0) p.1 h).1
long_goes_on c waiting word None h = short_goes_on c waiting word (short_of word) h

other_goes_on : (c : List Rule) (waiting : Waiting) (position : ℕ) (word : Text) (h : Held) → goes_on (subcommand_or_other c None waiting position word h).1 ≡ true
other_goes_on c waiting position word h = go (bytes_eq word (45 ∷ 45 ∷ []))
  where
    go : (b : Bool) → goes_on (cond b (h, trailing position) (long_or_other c waiting word (long_of word) h)).1 ≡ true
    go true = refl
    go false = long_goes_on c waiting word (long_of word) h

-- ---- where a walk stops

-- a walk does not stop at `help`
abbrev pub IsNoHelp : Option (Text × List Text) → Type 0
IsNoHelp None = ⊤
IsNoHelp (Some p) = ¬ (p.0 ≡ codes "help")

step_stops : (c : List Rule) (word : Text) (w : Walk) (h : Held) (s : Step) → goes_on s ≡ true → w.stopped ≡ None → IsNoHelp (after_step c word w h s).stopped
step_stops c word w h (next waiting) on none = subst IsNoHelp (sym none) tt
step_stops c word w h (trailing position) on none = subst IsNoHelp (sym none) tt
step_stops c word w h (subcommand name) on none = absurd (true≢false (sym on))
step_stops c word w h value on none = go (arg_by_index c w.position)
  where
    go : (o : Option Rule) → IsNoHelp (to_positional c o word w h).stopped
    go None = subst IsNoHelp (sym none) tt
    go (Some a) = tt

abbrev is_empty : Kinds → Bool
is_empty [] = true
is_empty (k ∷ ks) = false

abbrev help_kinds : Kinds
help_kinds = kind.DisplayHelp ∷ kind.InvalidSubcommand ∷ []

both_empty : (a b : Kinds) → or_else a b ≡ [] → (a ≡ []) × (b ≡ [])
both_empty [] b e = (refl, e)
both_empty (k ∷ ks) b e = absurd (true≢false (sym (ap is_empty e)))

module _ (s : Shape) (names : Names) (shown : s.disable_help_subcommand ≡ false) where
  met_stops : (w : Walk) (word : Text) (found : Option Text) → w.stopped ≡ None → other_fault s found word w.held ≡ []
      → IsNoHelp (after_step s.rules word w (subcommand_or_other s.rules found w.waiting w.position word w.held).0 (subcommand_or_other s.rules found w.waiting w.position word w.held).1).stopped
  met_stops w word None none fault =
      step_stops s.rules word w (subcommand_or_other s.rules None w.waiting w.position word w.held).0 (subcommand_or_other s.rules None w.waiting w.position word w.held).1
      (other_goes_on s.rules w.waiting w.position word w.held) none
  met_stops w word (Some name) none fault = λ is.
      let named : bytes_eq name (codes "help") ≡ true = (bytes_eq-Decides name (codes "help")).1 is in
      let test : (bytes_eq name (codes "help") && not s.disable_help_subcommand) ≡ true = rw (named, shown) refl in
      true≢false (sym (ap is_empty (subst (λ b. cond b help_kinds [] ≡ []) test fault)))

  turn_stops : (w : Walk) (word : Text) → IsNoHelp w.stopped → turn_fault s names w word ≡ [] → IsNoHelp (walked s.rules names w word).stopped
  unfolding walked
  turn_stops w word fine fault = go w.stopped refl fine fault
    where
      found : Option Text
      found = subcommand_met names w.waiting word

      on : (b : Bool) (later : Kinds) → w.stopped ≡ None → or_else (cond b [] (other_fault s found word w.held)) later ≡ []
          → IsNoHelp (after_step s.rules word w (cond b (w.held, value) (subcommand_or_other s.rules found w.waiting w.position word w.held)).0 (cond b (w.held, value) (subcommand_or_other s.rules found w.waiting w.position word w.held)).1).stopped
      on true later none e = step_stops s.rules word w w.held value refl none
      on false later none e = met_stops w word found none (both_empty (other_fault s found word w.held) later e).0

      go : (o : Option (Text × List Text)) → w.stopped ≡ o → IsNoHelp o → turn_fault s names (record w { stopped = o }) word ≡ [] → IsNoHelp (walked_from s.rules names o w word).stopped
      go (Some p) is fine e = fine
      go None is fine e = on w.is_trailing _ is e

  pub walk_stops : (words : List Text) (w : Walk) → IsNoHelp w.stopped → walk_fault s names w words ≡ [] → IsNoHelp (fold (walked s.rules names) w words).stopped
  unfolding walk_fault
  walk_stops [] w fine fault = fine
  walk_stops (word ∷ rest) w fine fault =
      let parts = both_empty (turn_fault s names w word) (walk_fault s names (walked s.rules names w word) rest) fault in
      walk_stops rest (walked s.rules names w word) (turn_stops w word fine parts.0) parts.1
