-- What is promised of a set-up that is made to start from.
use Rattle.std.specs.Prelude.{◌≡◌, ◌<◌, ◌+◌, ◌*◌, ◌==◌, ℕ, codes, List, [], ◌∷◌, ◌++◌, length, if◌then◌else◌, Option, Some, None, Ok}
use Rattle.std.specs.Fmt.{decimal}
use Rattle.cap_core.specs.declared.profile.ProfileName.{ProfileName}
use Rattle.cap_core.specs.declared.message.Message.{Message}
use Rattle.kernel_abstract.specs.declared.call.Call.{Call}
use Rattle.kernel_abstract.specs.declared.call.Op.{Op}
use Rattle.kernel_abstract.specs.declared.call.Op.TheVariants.{Send, Suspend}
use Rattle.kernel_abstract.specs.Plan.{Plan, IsPlan, tcb_place}
use Rattle.setup_values.specs.Names.{Names, word_named}
use Rattle.setup_values.specs.Kinds.{filled}
use Rattle.setup_format.specs.Views.{CallView, ReadView}
use Rattle.setup_format.specs.Setups.{read_of_bytes}
use Rattle.command_core.specs.declared.fault.Verdict.{Verdict}
use Rattle.command_core.specs.declared.fault.Verdict.TheVariants.{AllMet, NotMet, Refused, Absent}
use Rattle.command_new.specs.declared.asked.NewSetup.{NewSetup}
use Rattle.command_new.specs.Slots.{tcb_slot, endpoint_slot, untyped_slot}
use Rattle.command_new.specs.Text.{new_text}

-- ---- plans

-- a plan has the numbers of threads and endpoints, and the untyped regions that are asked for
pub record HasObjects (asked : NewSetup) (plan : Plan) : Type 0 where
  pub threads : plan.threads ≡ asked.threads
  pub endpoints : plan.endpoints ≡ asked.endpoints
  pub untypeds : plan.untypeds ≡ asked.untypeds.items

-- a kernel can be booted from a plan, and it has what is asked for
pub record Fits (p : ProfileName) (asked : NewSetup) (plan : Plan) : Type 0 where
  pub sound : IsPlan p plan
  pub objects : HasObjects asked plan

-- no plan fits, whatever its memory and its root CNode
abbrev pub NoneFits : NewSetup → Type 0
NoneFits asked = (plan : Plan) → ¬ Fits asked.profile asked plan

-- ---- names

-- each thread's address has a name, and so has the slot of each capability that is no CNode's; there are no other names
pub record AreNames (p : ProfileName) (plan : Plan) (names : Names) : Type 0 where
  pub threads : (i : ℕ) → i < plan.threads → word_named names (codes "thread_" ++ decimal i) ≡ Some (tcb_place p plan i)
  pub tcbs : (i : ℕ) → i < plan.threads → word_named names (codes "tcb_" ++ decimal i) ≡ Some (tcb_slot i)
  pub endpoints : (j : ℕ) → j < plan.endpoints → word_named names (codes "ep_" ++ decimal j) ≡ Some (endpoint_slot plan j)
  pub untypeds : (k : ℕ) → k < length plan.untypeds → word_named names (codes "untyped_" ++ decimal k) ≡ Some (untyped_slot plan k)
  pub no_others : length names ≡ 2 * plan.threads + plan.endpoints + length plan.untypeds

-- ---- the example

-- the message that is sent, and the call by a capability: a send if there is an endpoint, and else a suspend
abbrev pub example_message : Message
example_message = record { label = 7; words = (filled (1 ∷ [])).words; count = 1 }

abbrev pub example_name : Plan → List ℕ
example_name plan = if plan.endpoints == 0 then codes "tcb_0" else codes "ep_0"

abbrev pub example_op : Plan → ℕ → Op
example_op plan cap = if plan.endpoints == 0 then Suspend cap else Send cap example_message

-- the first thread makes the call, by the first endpoint or by its own capability
abbrev pub example_call : ProfileName → Plan → ℕ → Call
example_call p plan cap = record { thread = tcb_place p plan 0; op = example_op plan cap }

-- a call alone, which the first client makes, and of which nothing is expected
abbrev pub lone_call : Call → List CallView
lone_call call = record { call = call; client = 0; expect = None } ∷ []

abbrev pub IsExample : ProfileName → Plan → Names → List CallView → Type 0
IsExample p plan names calls = (cap : ℕ) × (word_named names (example_name plan) ≡ Some cap) × (calls ≡ lone_call (example_call p plan cap))

-- ---- what is made

-- a text is read, as any text is, as a set-up of what is asked for with its names, and with one call as an example
pub record IsNew (asked : NewSetup) (text : List ℕ) : Type 0 where
  pub read : ReadView
  pub is_read : read_of_bytes text ≡ Ok read
  pub profile : read.setup.profile ≡ asked.profile
  pub sizes : HasObjects asked read.setup.plan
  pub named : AreNames read.setup.profile read.setup.plan read.names
  pub calls : IsExample read.setup.profile read.setup.plan read.names read.setup.calls

-- such a text; nothing, if no plan fits; and nothing, if a plan fits whose text is refused: it is not read as promised
abbrev pub IsNewAnswer : NewSetup → List ℕ → Verdict → Type 0
IsNewAnswer asked text AllMet = IsNew asked text
IsNewAnswer asked text NotMet = ⊥
IsNewAnswer asked text Refused = (text ≡ []) × ((plan : Plan) × Fits asked.profile asked plan × ¬ IsNew asked (new_text asked.profile plan))
IsNewAnswer asked text Absent = (text ≡ []) × NoneFits asked

-- what is written, and the verdict, whatever the input is; nothing, if no sizes are given
abbrev pub IsNewText : Option NewSetup → List ℕ → List ℕ → Verdict → Type 0
IsNewText None input text verdict = (text ≡ []) × (verdict ≡ Absent)
IsNewText (Some asked) input text verdict = IsNewAnswer asked text verdict
