-- The text of the parts of an audit. Numbers are decimal.
use Rattle.std.specs.Prelude.{codes, ℕ, List, [], ◌++◌, Option, Some, None, length}
use Rattle.std.specs.Fmt.{decimal}
use Rattle.query_reach.specs.declared.endpoints.EndpointWord.{EndpointWord}
use Rattle.setup_values.specs.Told.{profile_text}
use Rattle.setup_format.specs.Views.{SetupView}
use Rattle.setup_report.specs.Text.{rights_text}
use Rattle.setup_report.specs.Report.{terminated}
use Rattle.setup_report.specs.declared.objects.Object.{Object}
use Rattle.setup_report.specs.Naming.{Texts}

-- ---- the first line: the version of the audit's form, how large the set-up is, how many of its calls are made, and the slot
-- that is asked for, where one is

abbrev pub slot_asked_text : Texts → Option ℕ → List ℕ
slot_asked_text texts None = []
slot_asked_text texts (Some slot) = codes " slot " ++ texts.slot slot

abbrev pub audit_head_line : Texts → SetupView → ℕ → Option ℕ → List ℕ
audit_head_line texts setup made slot =
    terminated (codes "audit 2 " ++ (profile_text setup.profile ++ (codes " memory_bits " ++ (decimal setup.plan.memory_bits
    ++ (codes " calls " ++ (decimal (length setup.calls) ++ (codes " after " ++ (decimal made ++ slot_asked_text texts slot))))))))

-- ---- the sending end of a channel

-- a thread, its word, and the endpoint's capability that the word leads to
abbrev pub sender_text : Texts → EndpointWord → List ℕ
sender_text texts u =
    texts.about u.thread ++ (codes " " ++ (decimal u.word ++ (codes " -> " ++ (texts.object (Object.Endpoint u.endpoint) ++ (codes " badge " ++ (decimal u.badge.0
    ++ (codes " rights " ++ rights_text u.rights)))))))
