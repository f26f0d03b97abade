-- The audit of a set-up: of the state behind so many of its calls, or of a revoke of one slot in that state.
use Rattle.std.specs.Prelude.{◌≡◌, ℕ, cond, List, ◌++◌, Option, Some, None}
use Rattle.std.specs.List.{flat_map}
use Rattle.cap_core.specs.declared.profile.ProfileName.{ProfileName}
use Rattle.cap_core.specs.Objects.{is_null}
use Rattle.kernel_forest.specs.Entries.{cap_at}
use Rattle.kernel_abstract.specs.State.{State, shown}
use Rattle.setup_values.specs.Names.{Names}
use Rattle.setup_format.specs.Views.{SetupView}
use Rattle.setup_report.specs.State.{endpoints, slot_rows}
use Rattle.command_trace.specs.Changes.{changes, lines_of_state}
use Rattle.command_audit.specs.declared.threads.ThreadSlots.{ThreadSlots}
use Rattle.setup_report.specs.Naming.{Texts}
use Rattle.command_audit.specs.Text.{audit_head_line}
use Rattle.command_audit.specs.Threads.{AreAllSlots, opening, slots_lines}
use Rattle.command_audit.specs.Channels.{endpoint_words_of, channel_lines}
use Rattle.command_audit.specs.Revokes.{shown_after_revoke, revoke_lines, revoke_lines_of, rows_told}

-- ---- a whole state: the names, who is trusted, what each other thread can name, who of them can send to whom, what each revoke
-- would do; of threads that can name just the same, the first one stands for all

abbrev pub whole_text : ProfileName → Names → Texts → List ℕ → SetupView → ℕ → State → List ThreadSlots → List ℕ
whole_text p names texts trusted setup made A list =
    audit_head_line texts setup made None
    ++ (opening names texts trusted
    ++ (flat_map (slots_lines texts (shown A) list) list
    ++ (channel_lines texts (flat_map (endpoint_words_of A.derivations list) list) (endpoints p (shown A))
    ++ flat_map (revoke_lines_of p texts A) (rows_told trusted list (slot_rows (shown A))))))

-- the text is that of the lists of what each live thread can name that is not trusted
pub record IsWholeAudit (p : ProfileName) (names : Names) (texts : Texts) (trusted : List ℕ) (setup : SetupView) (made : ℕ) (A : State) (text : List ℕ) : Type 0 where
  pub list : List ThreadSlots
  pub slots : AreAllSlots p trusted (shown A) list
  pub is : text ≡ whole_text p names texts trusted setup made A list

-- ---- one slot: what a revoke of it would do, and all that it would change

-- the lines of a state that a revoke of a slot changes
abbrev pub slot_changes : Texts → ProfileName → State → ℕ → List ℕ
slot_changes texts p A slot = changes (lines_of_state texts p (shown A)) (lines_of_state texts p (shown_after_revoke p A slot))

abbrev pub slot_audit : ProfileName → Texts → SetupView → ℕ → ℕ → State → List ℕ
slot_audit p texts setup made slot A =
    audit_head_line texts setup made (Some slot)
    ++ (revoke_lines texts (shown A) (shown_after_revoke p A slot) slot ++ slot_changes texts p A slot)

-- nothing, where no full slot is there
abbrev pub slot_answer : ProfileName → Texts → SetupView → ℕ → ℕ → State → Option (List ℕ)
slot_answer p texts setup made slot A =
    cond (is_null (cap_at A.derivations slot)) None (Some (slot_audit p texts setup made slot A))
