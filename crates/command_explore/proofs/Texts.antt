-- A text that is written for a witness is a set-up, and its report has what is told.
use Rattle.std.proofs.Common.{◌≡◌, ℕ, true, false, List, Option, Some, None, Result, Ok, Err, refl, sym, ap, subst, ◌∙◌}
use Rattle.std.specs.Prelude.{if◌then◌else◌}
use Rattle.std.specs.Str.{is_utf8}
use Rattle.toml.specs.Data.{Members, members_are_sorted}
use Rattle.toml.specs.Parse.{parse_document}
use Rattle.setup_values.specs.Names.{Names}
use Rattle.setup_format.specs.Faults.{Fault}
use Rattle.setup_format.specs.Setups.{document_in, document_of, setup_of, setup_of_bytes, names_of, read_of, read_of_bytes}
use Rattle.setup_format.specs.Views.{SetupView, ReadView}
use Rattle.setup_format.proofs.Grammar.Parts.{no_answer, parts}
use Rattle.setup_migrate.proofs.Law.Follows.{together}
use Rattle.command_explore.specs.declared.report.witness.Witness.{Witness}
use Rattle.command_explore.specs.Witnesses.{witness_of}
use Rattle.command_explore.specs.Replays.{run_replies, run_end}
use Rattle.command_explore.proofs.Replay.Accepted.{witness_accepted}
use Rattle.command_explore.proofs.Replay.Replayed.{witness_replayed}
use Rattle.command_check.specs.Program.{program, outcome_in, outcome_of, replies_to, end_state}
use Rattle.command_core.specs.declared.fault.Verdict.{Verdict}
use Rattle.command_core.specs.declared.fault.Verdict.TheVariants.{AllMet, Absent, Refused}
use Rattle.command_check.specs.Commands.{IsSetUpAnswer}
use Rattle.command_explore.specs.Witnessed.{IsTextOfTable, IsExploreWitness}
use Rattle.command_explore.specs.Replayed.{IsReplay, IsWitnessReplay}
use Rattle.command_explore.proofs.Parsed.{parsed_sorted}

document_is : (o : Option Members) (t : Members) → document_in o ≡ Ok t → o ≡ Some t
document_is None t e = no_answer _ t e
document_is (Some x) t e = let same : x ≡ t = cc in ap (λ m. Some m) same

-- the keys of a document ascend
document_sorted : (bytes : List ℕ) (t : Members) → document_of bytes ≡ Ok t → members_are_sorted t ≡ true
unfolding document_of
document_sorted bytes t e =
    elim (is_utf8 bytes) as (λ b. document_in (if b then parse_document bytes else None) ≡ Ok t → members_are_sorted t ≡ true) [
      | true ↦ λ e. parsed_sorted bytes t (document_is (parse_document bytes) t e)
      | false ↦ λ e. no_answer _ t e
    ] e

abbrev read_with : Members → Names → SetupView → ReadView
read_with table names setup = record { table = table; names = names; setup = setup }

-- what is read is of these pieces
read_pieces : (bytes : List ℕ) (read : ReadView) → read_of_bytes bytes ≡ Ok read
    → (document_of bytes ≡ Ok read.table) × (setup_of read.table ≡ Ok read.setup) × (names_of read.setup.profile read.table ≡ Ok read.names)
unfolding read_of_bytes read_of
read_pieces bytes read e =
    let (t, e1, r1) = parts (document_of bytes) _ read e in
    let (s, e2, r2) = parts (setup_of t) _ read r1 in
    let (ns, e3, r3) = parts (names_of s.profile t) _ read r2 in
    let same : read_with t ns s ≡ read = cc in
    subst (λ (x : ReadView). (document_of bytes ≡ Ok x.table) × (setup_of x.table ≡ Ok x.setup) × (names_of x.setup.profile x.table ≡ Ok x.names)) same (e1, e2, e3)

read_of_pieces : (bytes : List ℕ) (t : Members) (s : SetupView) (ns : Names) → document_of bytes ≡ Ok t → setup_of t ≡ Ok s → names_of s.profile t ≡ Ok ns
    → read_of_bytes bytes ≡ Ok (read_with t ns s)
unfolding read_of_bytes read_of
read_of_pieces bytes t s ns e1 e2 e3 = together _ _ t _ e1 (together _ _ s _ e2 (together _ _ ns _ e3 refl))

setup_read : (bytes : List ℕ) (t : Members) (s : SetupView) → document_of bytes ≡ Ok t → setup_of t ≡ Ok s → setup_of_bytes bytes ≡ Ok s
unfolding setup_of_bytes
setup_read bytes t s e1 e2 = together _ _ t s e1 e2

report_is : (text : List ℕ) (made : SetupView) → setup_of_bytes text ≡ Ok made → program text ≡ outcome_of made.profile made
unfolding program
report_is text made e = ap outcome_in e

replies_are : (made : SetupView) → replies_to made.profile made ≡ run_replies made
unfolding replies_to
replies_are made = refl

end_is : (made : SetupView) → end_state made.profile made ≡ run_end made
unfolding end_state
end_is made = refl

module _ (first states : ℕ) (witness : Witness) (input text : List ℕ) (verdict : Verdict) (met : verdict ≡ AllMet) where
  not_absent : {Y : Type 0} → verdict ≡ Absent → Y
  not_absent e = absurd (let no : AllMet ≡ Absent = sym met ∙ e in cc)

  not_refused : {Y : Type 0} → verdict ≡ Refused → Y
  not_refused e = absurd (let no : AllMet ≡ Refused = sym met ∙ e in cc)

  module _ (read : ReadView) (e : read_of_bytes input ≡ Ok read) where
    from_table : (u : Members) → witness_of read.setup.profile read.setup first states witness read.table ≡ Some u → document_of text ≡ Ok u → IsReplay first states witness input text
    from_table u told written =
        let (document, setup, names) = read_pieces input read e in
        let a = witness_accepted read.setup first states witness read.table u (document_sorted input read.table document) setup told in
        let named : names_of a.made.profile u ≡ Ok read.names = ap (λ q. names_of q u) (a.makes).profile ∙ (a.names ∙ names) in
        record {
          read = read;
          is_read = e;
          order = a.order;
          told = a.told;
          made = read_with u read.names a.made;
          accepted = read_of_pieces text u a.made read.names written a.accepted named;
          names = refl;
          makes = a.makes;
          report = report_is text a.made (setup_read text u a.made written a.accepted);
          replies = replies_are a.made;
          ends = end_is a.made;
          comes = witness_replayed read.setup first states witness a.order a.made a.lawful a.told a.makes;
        }

    from_witness : (o : Option Members) → witness_of read.setup.profile read.setup first states witness read.table ≡ o → IsTextOfTable o text verdict → IsReplay first states witness input text
    from_witness None told is = not_absent is.1
    from_witness (Some u) told is = from_table u told is.0

  from_read : (r : Result ReadView Fault) → read_of_bytes input ≡ r → IsSetUpAnswer (IsExploreWitness first states witness) r text verdict → IsReplay first states witness input text
  from_read (Err fault) e is = not_refused is.1
  from_read (Ok read) e is = from_witness read e (witness_of read.setup.profile read.setup first states witness read.table) refl is

pub text_replayed : (first states : ℕ) (witness : Witness) (input text : List ℕ) (verdict : Verdict) → IsWitnessReplay first states witness input text verdict
text_replayed first states witness input text verdict is met = from_read first states witness input text verdict met (read_of_bytes input) refl is
