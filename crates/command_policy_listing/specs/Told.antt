-- What equal listings say of two policies: that they are the same one, whatever numbers groups have, and in whatever order entries stand.
use Rattle.std.specs.Prelude.{◌≡◌, ℕ, ◌<◌, ◌≤◌, ◌^◌, Bool, true, nat_lt, All, List, map, string_bytes, String}
use Rattle.std.specs.declared.alloc.Global.{Global}
use Rattle.std.specs.List.{Contains, list_all}
use Rattle.cap_core.specs.Rights.{all_rights}
use Rattle.cap_core.specs.declared.rights.Rights.{Rights}
use Rattle.setup_format.specs.Views.{SetupView}
use Rattle.setup_policy.specs.declared.policy.Allowance.{Allowance}
use Rattle.setup_policy.specs.declared.policy.Label.{Label}
use Rattle.setup_policy.specs.declared.policy.Labels.{Labels}
use Rattle.setup_policy.specs.declared.policy.Member.{Member}
use Rattle.setup_policy.specs.declared.policy.OwnRegion.{OwnRegion}
use Rattle.setup_policy.specs.declared.policy.Policy.{Policy}
use Rattle.setup_policy.specs.declared.policy.PolicyTake.{PolicyTake}
use Rattle.setup_policy.specs.declared.policy.PolicyWay.{PolicyWay}
use Rattle.command_policy_text.specs.Names.{actor_name, labelled_text}
use Rattle.command_policy_listing.specs.Listing.{listing_text}

-- ---- an entry, with groups by their names

abbrev pub said_member : Policy → Member → List ℕ × ℕ
said_member c m = (actor_name c m.actor, m.thread)

abbrev pub said_region : Policy → OwnRegion → List ℕ × ℕ × ℕ
said_region c r = (actor_name c r.group, r.base, r.bits)

abbrev pub said_way : Policy → PolicyWay → List ℕ × ℕ × ℕ × Rights × List ℕ
said_way c w = (actor_name c w.from, w.endpoint, w.badge, w.rights, actor_name c w.to)

abbrev pub said_use : Policy → Allowance → List ℕ × ℕ × ℕ × Rights
said_use c a = (actor_name c a.actor, a.endpoint, a.badge, a.rights)

abbrev pub said_take : Policy → PolicyTake → List ℕ × List ℕ
said_take c t = (actor_name c t.from, actor_name c t.to)

-- ---- two policies say the same

-- each element of the one list is one of the other, and the other way round
abbrev pub HaveTheSame : {X : Type 0} → List X → List X → Type 0
HaveTheSame {X} xs ys = (x : X) → (Contains xs x → Contains ys x) × (Contains ys x → Contains xs x)

pub record SayTheSame (a b : Policy) : Type 0 where
  pub version : a.version ≡ b.version
  pub grant : a.grant ≡ b.grant
  pub calls : a.calls ≡ b.calls
  pub silent : HaveTheSame (map (λ (m : Member). m.thread) a.silent.items) (map (λ (m : Member). m.thread) b.silent.items)
  pub messages : HaveTheSame (map (λ (m : Member). m.thread) a.messages.items) (map (λ (m : Member). m.thread) b.messages.items)
  pub groups : HaveTheSame (map (actor_name a) a.groups.items) (map (actor_name b) b.groups.items)
  pub members : HaveTheSame (map (said_member a) a.members.items) (map (said_member b) b.members.items)
  pub regions : HaveTheSame (map (said_region a) a.regions.items) (map (said_region b) b.regions.items)
  pub ways : HaveTheSame (map (said_way a) a.ways.items) (map (said_way b) b.ways.items)
  pub uses : HaveTheSame (map (said_use a) a.uses.items) (map (said_use b) b.uses.items)
  pub takes : HaveTheSame (map (said_take a) a.takes.items) (map (said_take b) b.takes.items)

-- ---- what can be listed

-- each byte is above a blank, so that a word has no blank and no line feed
abbrev pub is_word : List ℕ → Bool
is_word name = list_all (nat_lt 32) name

abbrev pub IsWordly : String Global → Type 0
IsWordly s = is_word (string_bytes s) ≡ true

-- an object is called by a word, and no two are called alike
pub record AreTold (labels : List Label) : Type 0 where
  pub words : All (λ (l : Label). IsWordly l.text) labels
  pub apart : (x y : ℕ) → x < 2 ^ 64 → y < 2 ^ 64 → labelled_text labels x ≡ labelled_text labels y → x ≡ y

pub record TellApart (n : Labels) : Type 0 where
  pub threads : AreTold n.threads.items
  pub endpoints : AreTold n.endpoints.items
  pub regions : AreTold n.regions.items

abbrev pub IsShortMember : Member → Type 0
IsShortMember m = m.thread < 2 ^ 64

abbrev pub IsShortRegion : OwnRegion → Type 0
IsShortRegion r = (r.base < 2 ^ 64) × (r.bits < 2 ^ 64)

abbrev pub IsShortWay : PolicyWay → Type 0
IsShortWay w = (w.endpoint < 2 ^ 64) × (w.badge < 2 ^ 64) × (w.rights.0 ≤ all_rights.0)

abbrev pub IsShortUse : Allowance → Type 0
IsShortUse a = (a.endpoint < 2 ^ 64) × (a.badge < 2 ^ 64) × (a.rights.0 ≤ all_rights.0)

-- the names of groups and of trusted threads are words, the numbers those of a machine, and each thread is of one of the groups
pub record CanBeListed (c : Policy) : Type 0 where
  pub names : All IsWordly c.actors.items
  pub silent : All IsShortMember c.silent.items
  pub messages : All IsShortMember c.messages.items
  pub members : All IsShortMember c.members.items
  pub groups : All (λ (m : Member). Contains c.groups.items m.actor) c.members.items
  pub regions : All IsShortRegion c.regions.items
  pub ways : All IsShortWay c.ways.items
  pub uses : All IsShortUse c.uses.items

-- two policies with the same listing, by the same names of objects, say the same
abbrev pub ListingsTellPolicies : Policy → Policy → Labels → SetupView → ℕ → Type 0
ListingsTellPolicies a b n setup made =
    TellApart n → CanBeListed a → CanBeListed b → listing_text a n setup made ≡ listing_text b n setup made → SayTheSame a b
