-- Which object a word of a policy means.
use Rattle.std.specs.Prelude.{◌≡◌, ◌++◌, ◌*◌, ◌^◌, All, codes, cond, nat_lt, ℕ, List, Option, Some, None, option_and_then, string_bytes}
use Rattle.std.specs.Fmt.{decimal}
use Rattle.cap_core.specs.declared.profile.ProfileName.{ProfileName}
use Rattle.cap_core.specs.declared.capability.Cap.{Cap}
use Rattle.cap_core.specs.declared.capability.Cap.TheVariants.{CNode}
use Rattle.cap_core.specs.Numbers.{slot_size}
use Rattle.kernel_forest.specs.Entries.{cap_at}
use Rattle.kernel_abstract.specs.Plan.{Plan}
use Rattle.kernel_abstract.specs.Shown.{Shown}
use Rattle.setup_values.specs.Names.{Names}
use Rattle.setup_report.specs.declared.meanings.meant.ObjectKind.TheVariants as kinds
use Rattle.setup_report.specs.Meant.{object_meant}
use Rattle.setup_report.specs.Words.{number_meant}
use Rattle.setup_policy.specs.declared.policy.Label.{Label}
use Rattle.setup_policy.specs.declared.policy.Labels.{Labels}
use Rattle.setup_policy_file.specs.declared.file.Word.{Word}
use Rattle.setup_policy_file.specs.declared.file.Word.TheVariants as w
use Rattle.setup_policy_meaning.specs.declared.objects.Kind.{Kind}
use Rattle.setup_policy_meaning.specs.declared.objects.Kind.TheVariants.{Thread, Endpoint, Region, Node}

-- a word for a number: a name after a @
abbrev pub word_text : Word → List ℕ
word_text (w.Number n) = decimal n
word_text (w.Name s) = codes "@" ++ string_bytes s

-- what it is called in a policy
abbrev pub word_name : Word → List ℕ
word_name (w.Number n) = decimal n
word_name (w.Name s) = string_bytes s

-- the thread, and the endpoint, that a word means
abbrev pub thread_meant : ProfileName → Names → Plan → Shown → Word → Option ℕ
thread_meant p names plan v word = object_meant kinds.Thread p names plan v (word_text word)

abbrev pub endpoint_meant : ProfileName → Names → Plan → Shown → Word → Option ℕ
endpoint_meant p names plan v word = object_meant kinds.Endpoint p names plan v (word_text word)

-- the CNode that a capability names
abbrev pub node_base : Cap → Option ℕ
node_base (CNode base radix guard) = Some base
node_base cap = None

-- a number below the count of the root CNode's slots means the CNode that this slot holds, and each other number an address
abbrev pub node_or_address : ProfileName → Plan → Shown → ℕ → Option ℕ
node_or_address p plan v n = cond (nat_lt n (2 ^ plan.root_radix)) (node_base (cap_at v.derivations (slot_size p * n))) (Some n)

-- the CNode that a text means
abbrev pub node_meant : ProfileName → Names → Plan → Shown → List ℕ → Option ℕ
node_meant p names plan v text = option_and_then (node_or_address p plan v) (number_meant names text)

-- the object of a kind that a text means
abbrev pub meant : Kind → ProfileName → Names → Plan → Shown → List ℕ → Option ℕ
meant Thread p names plan v text = object_meant kinds.Thread p names plan v text
meant Endpoint p names plan v text = object_meant kinds.Endpoint p names plan v text
meant Region p names plan v text = object_meant kinds.Region p names plan v text
meant Node p names plan v text = node_meant p names plan v text

-- the object of a kind at the address is the one that a text means
abbrev pub IsMeant : Kind → ProfileName → Names → Plan → Shown → List ℕ → ℕ → Type 0
IsMeant kind p names plan v text base = meant kind p names plan v text ≡ Some base

-- an object's label is a name by which it is meant
abbrev pub IsLabel : Kind → ProfileName → Names → Plan → Shown → Label → Type 0
IsLabel kind p names plan v label = IsMeant kind p names plan v (codes "@" ++ string_bytes label.text) label.base

-- so are those of threads, of endpoints, of regions, and of CNodes
pub record AreLabels (p : ProfileName) (names : Names) (plan : Plan) (v : Shown) (labels : Labels) : Type 0 where
  pub threads : All (IsLabel Thread p names plan v) labels.threads.items
  pub endpoints : All (IsLabel Endpoint p names plan v) labels.endpoints.items
  pub regions : All (IsLabel Region p names plan v) labels.regions.items
  pub nodes : All (IsLabel Node p names plan v) labels.nodes.items
