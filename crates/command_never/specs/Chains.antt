-- The chains that an answer lists. Numbers are decimal.
use Rattle.std.specs.Prelude.{◌≡◌, codes, ℕ, ◌==◌, not, false, List, [], ◌∷◌, ◌++◌, Option, Some, None, find, MatchBool}
use Rattle.std.specs.List.{flat_map}
use Rattle.cap_core.specs.declared.profile.ProfileName.{ProfileName}
use Rattle.cap_core.specs.Numbers.{endpoint_size, tcb_size}
use Rattle.kernel_forest.specs.Forest.{Forest}
use Rattle.kernel_forest.specs.Entries.{Entry}
use Rattle.kernel_abstract.specs.Shown.{Shown}
use Rattle.query_reach.specs.declared.filled.FullSlot.{FullSlot}
use Rattle.query_reach.specs.declared.chains.chain.Target.{Target}
use Rattle.query_reach.specs.Chain.{IsShortest}
use Rattle.query_parts.specs.declared.listed.PartMemory.{PartMemory}
use Rattle.query_parts.specs.declared.listed.PartUse.{PartUse}
use Rattle.query_parts.specs.Listed.{part_at}
use Rattle.setup_report.specs.declared.objects.Object.{Object}
use Rattle.setup_report.specs.Naming.{Texts}
use Rattle.setup_report.specs.Text.{held_slot_text}
use Rattle.setup_report.specs.Report.{terminated}
use Rattle.command_never.specs.declared.parts_kept.waits.Wait.{Wait}
use Rattle.command_never.specs.Waits.{waits}
use Rattle.command_never.specs.Never.{has_bytes, is_open, endpoints_met}

-- a line for the thread and what the chain comes to, and one for each slot with what it holds
abbrev pub chain_line : Texts → ℕ → Object → List ℕ
chain_line texts thread object = terminated (codes "chain " ++ (texts.about thread ++ (codes " -> " ++ texts.object object)))

abbrev pub chain_slot_line : Texts → FullSlot → List ℕ
chain_slot_line texts s = terminated (codes "  slot " ++ held_slot_text texts s.address s.cap)

abbrev pub chain_lines : Texts → ℕ → Object → List FullSlot → List ℕ
chain_lines texts thread object [] = []
chain_lines texts thread object (s ∷ more) = chain_line texts thread object ++ flat_map (chain_slot_line texts) (s ∷ more)

-- the text of a shortest chain from a thread's root slot to a capability that is sought, to an object; nothing if there is no
-- chain
pub record IsChainText (p : ProfileName) (texts : Texts) (f : Forest Entry) (thread : ℕ) (object : Object) (target : Target) (text : List ℕ) : Type 0 where
  pub chain : List FullSlot
  pub shortest : IsShortest p f target thread chain
  pub told : text ≡ chain_lines texts thread object chain

-- an endpoint that is open to part j: if part j has bytes of it any capability to it counts, and else one to send by
abbrev pub open_endpoint : ProfileName → List PartMemory → ℕ → ℕ → Target
open_endpoint p memory j endpoint =
    record { first = endpoint; size = endpoint_size p; to_send = not (has_bytes p memory j endpoint) }

-- a thread's control block
abbrev pub control_block : ProfileName → ℕ → Target
control_block p thread = record { first = thread; size = tcb_size p; to_send = false }

-- between two parts: to the first endpoint that is open
abbrev pub IsChainToOpen : ProfileName → Texts → Forest Entry → List PartMemory → ℕ → ℕ → Option ℕ → List ℕ → Type 0
IsChainToOpen p texts f memory j from None text = text ≡ []
IsChainToOpen p texts f memory j from (Some endpoint) text = IsChainText p texts f from (Object.Endpoint endpoint) (open_endpoint p memory j endpoint) text

-- within one part: from each of two threads to the other's control block
pub record AreChainsWithin (p : ProfileName) (texts : Texts) (f : Forest Entry) (from to : ℕ) (text : List ℕ) : Type 0 where
  pub there : List ℕ
  pub back : List ℕ
  pub there_is : IsChainText p texts f from (Object.Thread to) (control_block p to) there
  pub back_is : IsChainText p texts f to (Object.Thread from) (control_block p from) back
  pub both : text ≡ there ++ back

-- of two threads of one part; of a thread and itself nothing
abbrev pub AreChainsOfOnePart : ProfileName → Texts → Forest Entry → ℕ → ℕ → List ℕ → Type 0
AreChainsOfOnePart p texts f from to text = MatchBool (from == to) (text ≡ []) (AreChainsWithin p texts f from to text)

-- of threads of parts i and j
abbrev pub AreChainsOfParts : ProfileName → Texts → Forest Entry → List PartMemory → List PartUse → List Wait → List ℕ → ℕ → ℕ → ℕ → ℕ → List ℕ → Type 0
AreChainsOfParts p texts f memory uses waits by from to i j text =
    MatchBool (i == j) (AreChainsOfOnePart p texts f from to text)
    (IsChainToOpen p texts f memory j from (find (is_open p memory uses waits by i j) (endpoints_met uses waits)) text)

-- of two threads; of one in no part nothing
abbrev pub AreChainsBetween : ProfileName → Texts → Forest Entry → List PartMemory → List PartUse → List Wait → List ℕ → ℕ → ℕ → Option ℕ → Option ℕ → List ℕ → Type 0
AreChainsBetween p texts f memory uses waits by from to None second text = text ≡ []
AreChainsBetween p texts f memory uses waits by from to (Some i) None text = text ≡ []
AreChainsBetween p texts f memory uses waits by from to (Some i) (Some j) text = AreChainsOfParts p texts f memory uses waits by from to i j text

-- the chains that are listed for what is shown
abbrev pub AreChains : ProfileName → Texts → List PartMemory → List PartUse → Shown → List ℕ → ℕ → ℕ → List ℕ → Type 0
AreChains p texts memory uses v by from to text =
    AreChainsBetween p texts v.derivations memory uses (waits p v) by from to (part_at memory from) (part_at memory to) text
