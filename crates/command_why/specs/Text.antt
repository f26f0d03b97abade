-- The parts of a line: objects and slots as `texts` writes them. Numbers are decimal.
use Rattle.std.specs.Prelude.{codes, ℕ, ◌-◌, ◌^◌, List, ◌++◌, if◌then◌else◌, nat_lt, Option, None, Some}
use Rattle.std.specs.Fmt.{decimal}
use Rattle.cap_core.specs.declared.capability.Cap.{Cap}
use Rattle.cap_core.specs.declared.capability.Cap.TheVariants.{Null, CNode}
use Rattle.cap_core.specs.declared.capability.Guard.{Guard}
use Rattle.cap_core.specs.declared.capability.Kind.{Kind}
use Rattle.cap_core.specs.declared.capability.Kind.TheVariants as kind
use Rattle.kernel_abstract.specs.declared.call.Op.{Op}
use Rattle.kernel_abstract.specs.declared.call.Op.TheVariants.{NbSend, NbRecv}
use Rattle.setup_values.specs.Operations.{op_text}
use Rattle.setup_format.specs.Operations.{op_name}
use Rattle.setup_report.specs.Naming.{Texts}
use Rattle.setup_report.specs.Text.{cap_text}
use Rattle.kernel_abstract.specs.declared.reason.Held.{Held}
use Rattle.kernel_abstract.specs.declared.reason.Word.{Word}
use Rattle.command_why.specs.Words.{is_whole}

-- a line below that of the call
abbrev pub reason_line : List ℕ → List ℕ
reason_line text = codes "  " ++ (text ++ codes "\n")

-- the name by which a value is spelt, if it has one
abbrev pub name_text : Option (List ℕ) → List ℕ
name_text None = codes ""
name_text (Some name) = codes " @" ++ name

unfoldable pub key_value_text : List ℕ → ℕ → Option (List ℕ) → List ℕ
key_value_text key value name = key ++ (codes " " ++ (decimal value ++ name_text name))

-- a slot with what is in it
abbrev pub content_text : Texts → Cap → List ℕ
content_text texts Null = codes "empty"
content_text texts cap = cap_text texts cap

unfoldable pub slot_and_content : Texts → Held → List ℕ
slot_and_content texts held = codes "slot " ++ (texts.slot held.slot ++ (codes ": " ++ content_text texts held.cap))

-- where a word leads to, or what an index names
abbrev pub verb : Word → List ℕ
verb word = if is_whole word then codes "leads to" else codes "names"

abbrev pub led_text : Texts → List ℕ → Word → Held → List ℕ
led_text texts said word held = said ++ (codes " " ++ (verb word ++ (codes " " ++ slot_and_content texts held)))

-- an operation with its article
abbrev pub article : Op → List ℕ
article (NbSend cap message) = codes "an"
article (NbRecv cap) = codes "an"
article op = codes "a"

abbrev pub an_op : Op → List ℕ
an_op op = article op ++ (codes " " ++ op_text (op_name op))

-- a capability of a kind, and an object of it
abbrev pub kind_text : Kind → List ℕ
kind_text kind.Untyped = codes "an untyped capability"
kind_text kind.Tcb = codes "a thread's capability"
kind_text kind.Endpoint = codes "an endpoint's capability"
kind_text kind.CNode = codes "a CNode's capability"

abbrev pub object_text : Kind → List ℕ
object_text kind.Untyped = codes "an untyped region"
object_text kind.Tcb = codes "a thread control block"
object_text kind.Endpoint = codes "an endpoint"
object_text kind.CNode = codes "a CNode"

-- ---- numbers of a capability; of one of another kind 0

abbrev pub guard_of : Cap → Guard
guard_of (CNode base radix guard) = guard
guard_of cap = record { value = 0; size = 0 }

abbrev pub radix_of : Cap → ℕ
radix_of (CNode base radix guard) = radix
radix_of cap = 0

-- ---- powers of two: in digits up to 64 bits, as in all states of a kernel; a greater one by its exponent

unfoldable pub power_text : ℕ → List ℕ
power_text bits = if nat_lt bits 64 then decimal (2 ^ bits) else codes "2^" ++ decimal bits

-- the greatest number below it
unfoldable pub last_text : ℕ → List ℕ
last_text bits = if nat_lt bits 64 then decimal (2 ^ bits - 1) else codes "2^" ++ (decimal bits ++ codes " - 1")
