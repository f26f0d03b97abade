-- The text of the report of a kernel that clients shared. Objects and slots stand as `texts` writes them.
use Rattle.std.specs.Prelude.{codes, ℕ, ◌+◌, List, [], ◌∷◌, ◌++◌, length}
use Rattle.std.specs.Fmt.{decimal}
use Rattle.cap_core.specs.declared.profile.ProfileName.{ProfileName}
use Rattle.kernel_abstract.specs.Shown.{Shown}
use Rattle.kernel_shared.specs.declared.entry.Entry.{Entry}
use Rattle.setup_report.specs.Naming.{Texts, plain}
use Rattle.setup_report.specs.Text.{answered_text}
use Rattle.setup_report.specs.Report.{terminated, state_lines}

-- the place of an entry in the history, its client, the client's number for it, and the call with its reply
abbrev pub entry_text : Texts → ℕ → Entry → List ℕ
entry_text texts place e =
    decimal place ++ (codes " client " ++ (decimal e.client ++ (codes " number " ++ (decimal e.number ++ (codes ": " ++ answered_text texts e.call e.reply)))))

-- a line for each entry, with its place
abbrev pub entry_lines : Texts → ℕ → List Entry → List ℕ
entry_lines texts place [] = []
entry_lines texts place (e ∷ es) = terminated (entry_text texts place e) ++ entry_lines texts (place + 1) es

-- how many entries there are, of how many calls
abbrev pub entries_line : ℕ → ℕ → List ℕ
entries_line entries calls = terminated (codes "entries " ++ (decimal entries ++ (codes " of " ++ decimal calls)))

-- the report of a history, of what the kernel then shows, and of the number of calls that there were to make
unfoldable pub shared_report_told : Texts → ProfileName → ℕ → List Entry → Shown → List ℕ
shared_report_told texts p calls history v =
    entry_lines texts 1 history ++ (state_lines texts p v ++ entries_line (length history) calls)

-- the report of a history by addresses
abbrev pub shared_report_of : ProfileName → ℕ → List Entry → Shown → List ℕ
shared_report_of p calls history v = shared_report_told plain p calls history v
