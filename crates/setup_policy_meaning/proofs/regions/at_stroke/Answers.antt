use Rattle.std.proofs.Common.{◌≡◌, ◌==◌, ℕ, ◌<◌, List, Bool, true, false, length, Option, Some, None, Bor, MatchOption, lit<}
use Rattle.std.specs.List.{position_or_len}
use Rattle.std.proofs.lemmas.Str.Pattern.{split_once_first}
use Rattle.setup_policy_meaning.specs.Regions.{has_stroke, before_stroke, behind_stroke}
use Rattle.setup_policy_meaning.proofs.Strokes.{is_any, is_none}
use Rattle.setup_policy_meaning.proofs.regions.at_stroke.Goals as goal

split : (name : List ℕ) (r : Option (Bor (List ℕ) × Bor (List ℕ)))
    → MatchOption r (position_or_len (λ c. c == 47) name ≡ length name) (λ x. (position_or_len (λ c. c == 47) name < length name) × (x.0.now ≡ before_stroke name) × (x.1.now ≡ behind_stroke name))
    → MatchOption r (has_stroke name ≡ false) (λ x. (has_stroke name ≡ true) × (x.0.now ≡ before_stroke name) × (x.1.now ≡ behind_stroke name))
split name None h = is_none (λ c. c == 47) name h
split name (Some x) h = (is_any (λ c. c == 47) name h.0, h.1, h.2)

pub returns : goal.returns
returns c = split c.args.name.now c.split_once.result (split_once_first 47 c.args.name.now c.split_once.result c.split_once.ensures.cases (lit< tt))
