-- The file is clap's value of FILE, of the subcommand first; those behind it are the subcommand's.
use Rattle.std.proofs.Common.{◌≡◌, ◌∙◌, ap, ap₂, codes, Option, Some, None, option_map, refl, sym}
use Rattle.std.specs.Option.{option_or}
use Rattle.clap.proofs.WalkLemmas.{first_value-rows}
use Rattle.clap.specs.Words.{found_of, rows_of}
use Rattle.command_line.specs.CommandLine.{lists_one, more_given, several_of}
use Rattle.command_line.proofs.reading.subcommand_line.Goals as goal

seen_of_or : {A B : Type 0} (f : A → B) (a b : Option A) → option_map f (option_or a b) ≡ option_or (option_map f a) (option_map f b)
seen_of_or f None b = refl
seen_of_or f (Some x) b = refl

pub returns-clause-file : goal.returns-clause-file
returns-clause-file c =
    let own = c.get_str-first.ensures ∙ first_value-rows (found_of c.args.matches.now) (codes "FILE") in
    let above = c.get_str.ensures ∙ first_value-rows (found_of c.args.above.now) (codes "FILE") in
    sym (ap (option_map (λ s. s.now)) c.or-file.ensures ∙ seen_of_or (λ s. s.now) c.get_str-first.result c.get_str.result ∙ ap₂ option_or own above)

pub returns-clause-several : goal.returns-clause-several
returns-clause-several c =
    let own = c.get_str-first.ensures ∙ first_value-rows (found_of c.args.matches.now) (codes "FILE") in
    let above = c.get_str.ensures ∙ first_value-rows (found_of c.args.above.now) (codes "FILE") in
    let file = ap (option_map (λ s. s.now)) c.or-file.ensures ∙ seen_of_or (λ s. s.now) c.get_str-first.result c.get_str.result ∙ ap₂ option_or own above in
    sym (c.in_ok-several.ensures ∙ ap (λ one. several_of one (option_map (λ s. s.now) c.or-file.result) (more_given (option_map (λ v. v.now) c.more_behind.result))) c.lists_one-lists_one.ensures
    ∙ ap₂ (several_of (lists_one c.args.name.now (rows_of (found_of c.args.matches.now)))) file c.more_behind.ensures)
