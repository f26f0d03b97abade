-- The lines of reasons that are about the slots a call names, and the capabilities in them.
use Rattle.std.specs.Prelude.{codes, ℕ, List, ◌++◌}
use Rattle.std.specs.Fmt.{decimal}
use Rattle.cap_core.specs.declared.capability.Cap.TheVariants.{Null}
use Rattle.cap_core.specs.declared.capability.Kind.{Kind}
use Rattle.kernel_abstract.specs.declared.call.Op.{Op}
use Rattle.kernel_abstract.specs.declared.call.Op.TheVariants.{CapMutate}
use Rattle.kernel_abstract.specs.declared.reason.Held.{Held}
use Rattle.kernel_abstract.specs.declared.reason.Right.{Right}
use Rattle.kernel_abstract.specs.declared.reason.Right.TheVariants.{Write, Read}
use Rattle.kernel_abstract.specs.declared.reason.Word.{Word}
use Rattle.kernel_abstract.specs.declared.reason.Word.TheVariants.{Invoked, SourceIndex}
use Rattle.setup_report.specs.Naming.{Texts}
use Rattle.command_why.specs.Text.{reason_line, an_op, kind_text}
use Rattle.command_why.specs.Asked.{AskedView, data_said, led_said}

abbrev pub nothing_in : ℕ → Held
nothing_in slot = record { slot = slot; cap = Null }

-- where a word leads to, and what had to be so
abbrev pub fact_lines : Texts → AskedView → Word → Held → List ℕ → List ℕ
fact_lines texts a word held fact = reason_line (led_said texts a word held) ++ reason_line fact

-- the invoked capability is of another kind, or not there
abbrev pub kind_lines : Texts → AskedView → Held → Kind → List ℕ
kind_lines texts a held wanted = fact_lines texts a Invoked held (an_op a.call.op ++ (codes " is made by " ++ kind_text wanted))

abbrev pub right_words : Right → List ℕ
right_words Write = codes "Write (w)"
right_words Read = codes "Read (r)"

abbrev pub right_lines : Texts → AskedView → Held → Right → List ℕ
right_lines texts a held needed = fact_lines texts a Invoked held (an_op a.call.op ++ (codes " needs the right " ++ right_words needed))

-- a badge that can't be set
abbrev pub badge_text : Op → List ℕ
badge_text (CapMutate cap index depth src_root src_index src_depth word) = codes "a mutate sets no badge"
badge_text op = codes "a mint sets a badge only where there is none"

unfoldable pub long_text : ℕ → ℕ → ℕ → List ℕ
long_text size radix most =
    decimal size ++ (codes " bits, which with radix " ++ (decimal radix ++ (codes " is more than " ++ decimal most)))

unfoldable pub guard_text : AskedView → ℕ → ℕ → ℕ → List ℕ
guard_text a size radix most = data_said a ++ (codes " is a guard of " ++ long_text size radix most)

abbrev pub first_child_text : Texts → ℕ → List ℕ
first_child_text texts child = codes "it has children, the first of them in slot " ++ texts.slot child

abbrev pub children_lines : Texts → AskedView → Held → ℕ → List ℕ
children_lines texts a source child =
    fact_lines texts a SourceIndex source (first_child_text texts child)
    ++ reason_line (an_op a.call.op ++ codes " is made of an untyped capability only while it has no children")
