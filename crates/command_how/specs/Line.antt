-- The line of an answer that is no witness. Numbers are decimal.
use Rattle.std.specs.Prelude.{codes, ℕ, Bool, true, false, List, ◌++◌}
use Rattle.std.specs.Fmt.{decimal}
use Rattle.query_parts.specs.Listed.{part_at}
use Rattle.setup_values.specs.Names.{Names}
use Rattle.setup_values.specs.Told.{thread_name}
use Rattle.setup_report.specs.Report.{terminated}
use Rattle.command_never.specs.Open.{part_text}
use Rattle.command_how_witness.specs.declared.asked.Happening.{Happening}
use Rattle.command_how_witness.specs.declared.asked.Happening.TheVariants.{Message, Hold, Loss}
use Rattle.command_how.specs.declared.line.NoWitness.{NoWitness}
use Rattle.command_how.specs.declared.line.NoWitness.TheVariants.{Excluded, ExcludedByFlow, NotFound, NotFoundOf}
use Rattle.command_how_witness.specs.Witness.{Asking}

abbrev pub happening_text : Happening → List ℕ
happening_text Message = codes "message"
happening_text Hold = codes "hold"
happening_text Loss = codes "loss"

-- why no calls are written
abbrev pub answer_text : NoWitness → List ℕ
answer_text Excluded = codes "excluded"
answer_text ExcludedByFlow = codes "excluded by flow"
answer_text NotFound = codes "not found"
answer_text (NotFoundOf most) = codes "not found of " ++ decimal most

-- a line that none are found says nothing
abbrev pub says_excluded : NoWitness → Bool
says_excluded Excluded = true
says_excluded ExcludedByFlow = true
says_excluded NotFound = false
says_excluded (NotFoundOf most) = false

abbrev pub how_line : Names → Asking → NoWitness → List ℕ
how_line names q answer =
    terminated (codes "how " ++ (happening_text q.what ++ (codes " " ++ (thread_name names q.from ++ (codes " part " ++ (part_text decimal (part_at q.memory q.from)
    ++ (codes " -> " ++ (thread_name names q.to ++ (codes " part " ++ (part_text decimal (part_at q.memory q.to) ++ (codes " " ++ answer_text answer)))))))))))
