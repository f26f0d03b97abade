-- Tables of ways, uses and takes. In version 2 their words may be lists: each word stands with each, and a badge for each of the
-- first. They are pure abbreviation: each table stands for entries of single words.
use Rattle.std.specs.Prelude.{ℕ, List, [], ◌∷◌, length, map, Bool, false, not, ◌==◌, ◌&&◌, ◌||◌, if◌then◌else◌, unwrap_or}
use Rattle.std.specs.List.{enumerate_from, flat_map, slice_get}
use Rattle.std.specs.Str.{bytes_eq}
use Rattle.cap_core.specs.declared.rights.Rights.{Rights}
use Rattle.setup_policy.specs.declared.policy.PolicyVersion.{PolicyVersion}
use Rattle.setup_policy.specs.declared.policy.PolicyVersion.TheVariants.{One, Two}
use Rattle.setup_policy_file.specs.Values.{WordView}

-- ---- what a table says

-- who may send to whom; with both also the other way round
pub record WayLists : Type 0 where
  pub from : List (List ℕ)
  pub to : List (List ℕ)
  pub by : List WordView
  pub badges : List ℕ
  pub rights : Rights
  pub both : Bool

-- capabilities that open no way by themselves
pub record UseLists : Type 0 where
  pub groups : List (List ℕ)
  pub of : List WordView
  pub badges : List ℕ
  pub rights : Rights

-- who may empty slots of whom
pub record TakeLists : Type 0 where
  pub from : List (List ℕ)
  pub to : List (List ℕ)
  pub both : Bool

-- ---- an entry; a badge of 0 stands for any

pub record WayView : Type 0 where
  pub from : List ℕ
  pub to : List ℕ
  pub by : WordView
  pub badge : ℕ
  pub rights : Rights

pub record UseView : Type 0 where
  pub group : List ℕ
  pub of : WordView
  pub badge : ℕ
  pub rights : Rights

pub record TakeView : Type 0 where
  pub from : List ℕ
  pub to : List ℕ

-- ---- badges

-- one for all, or one for each of so many
abbrev pub has_badges : ℕ → List ℕ → Bool
has_badges count badges = length badges == 1 || length badges == count

-- the one badge, or that of a place
abbrev pub badge_at : List ℕ → ℕ → ℕ
badge_at (badge ∷ []) place = badge
badge_at badges place = unwrap_or (slice_get badges place) 0

-- ---- pairs of names

-- two names, and the place of their badge
pub record Pair : Type 0 where
  pub from : List ℕ
  pub to : List ℕ
  pub place : ℕ

abbrev pub pair : ℕ → List ℕ → List ℕ → Pair
pair place from to = record { from = from; to = to; place = place }

-- in version 2 a name and itself are left out
abbrev pub is_left_out : PolicyVersion → List ℕ → List ℕ → Bool
is_left_out One from to = false
is_left_out Two from to = bytes_eq from to

-- a name and another, and with both the other way round
abbrev pub pairs_between : PolicyVersion → Bool → ℕ → List ℕ → List ℕ → List Pair
pairs_between version both place from to =
    if is_left_out version from to then [] else pair place from to ∷ (if both then pair place to from ∷ [] else [])

-- each of some names with each of others, with its place among the first
abbrev pub pairs : PolicyVersion → Bool → List (List ℕ) → List (List ℕ) → List Pair
pairs version both from to = flat_map (λ (f : ℕ × List ℕ). flat_map (pairs_between version both f.0 f.1) to) (enumerate_from 0 from)

-- all pairs are left out; no name stands twice among the first, nor among the second
abbrev pub are_all_left_out : PolicyVersion → List (List ℕ) → List (List ℕ) → Bool
are_all_left_out version (from ∷ []) (to ∷ []) = is_left_out version from to
are_all_left_out version from to = false

-- ---- which tables are taken

-- not if both ways are meant and the badges are a list: those of the other way are not told
abbrev pub is_way_taken : PolicyVersion → Bool → WayLists → Bool
is_way_taken version listed w =
    has_badges (length w.from) w.badges && (not (w.both && listed) && not (are_all_left_out version w.from w.to))

abbrev pub is_use_taken : UseLists → Bool
is_use_taken u = has_badges (length u.groups) u.badges

abbrev pub is_take_taken : PolicyVersion → TakeLists → Bool
is_take_taken version t = not (are_all_left_out version t.from t.to)

-- ---- the entries that a table stands for

abbrev pub way_by : WayLists → Pair → WordView → WayView
way_by w p by = record { from = p.from; to = p.to; by = by; badge = badge_at w.badges p.place; rights = w.rights }

abbrev pub expanded_way : PolicyVersion → WayLists → List WayView
expanded_way version w = flat_map (λ p. map (way_by w p) w.by) (pairs version w.both w.from w.to)

abbrev pub use_by : UseLists → ℕ → List ℕ → WordView → UseView
use_by u place group of = record { group = group; of = of; badge = badge_at u.badges place; rights = u.rights }

abbrev pub expanded_use : UseLists → List UseView
expanded_use u = flat_map (λ (g : ℕ × List ℕ). map (use_by u g.0 g.1) u.of) (enumerate_from 0 u.groups)

abbrev pub take_between : Pair → TakeView
take_between p = record { from = p.from; to = p.to }

abbrev pub expanded_take : PolicyVersion → TakeLists → List TakeView
expanded_take version t = map take_between (pairs version t.both t.from t.to)
