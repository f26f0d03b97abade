use Rattle.std.proofs.Common.{◌≡◌, ◌+◌, ◌++◌, ◌∷◌, [], ℕ, Some, length, map, string_bytes, sym, ap, ◌∙◌, arith}
use Rattle.std.specs.Prelude.{option_map}
use Rattle.std.proofs.lemmas.List.{drop_all, length_push}
use Rattle.setup_values.specs.Names.{names_view}
use Rattle.setup_policy_meaning.specs.Meant.{word_name}
use Rattle.setup_policy_meaning.specs.Policies.{all_from, member, member_meant}
use Rattle.setup_policy_meaning.proofs.Groups.{one_name_more}
use Rattle.setup_policy_meaning.proofs.Loops.{goes_on_from, is_done_from}
use Rattle.setup_policy_meaning.proofs.resolve.Resolver.trusted.Goals as goal

pub loop-word-preserved : goal.loop-word-preserved
loop-word-preserved g c =
    let read = member_meant g.P.Profile.profile (names_view c.args.self.now.meaning.objects.names.now) c.args.self.now.meaning.setup.now.plan c.args.self.now.meaning.kernel.now in
    let old = c.loop-word.names.items in
    let many : c.len-many.result ≡ length old = omega (arith, c.len-many.ensures, c.loop-word.names.ok) in
    let more : length c.push.new.self.items ≡ length old + 1 = rw c.in_ok-push.ensures.items (length_push old c.in_ok-name.name) in
    record {
      names = rw c.in_ok-push.ensures.items (one_name_more word_name old c.in_ok-name.name c.args.words.now c.loop-word.word-index c.word-item.result (map string_bytes c.args.names.now.items)
          c.loop-word-test.true (c.in_ok-name.ensures ∙ ap word_name c.word-item.is) c.loop-word.invariant.names);
      threads = rw (c.in_ok-push-2.ensures.items, more) (goes_on_from read c.loop-word.trusted.items (length old) c.loop-word.word-index c.args.words.now c.word-item.result (member c.len-many.result c.in_ok-thread.thread)
          (all_from read (length c.args.names.now.items) c.args.words.now) c.loop-word-test.true
          (ap (read (length old)) (sym c.word-item.is) ∙ (ap (option_map (member (length old))) c.in_ok-thread.ensures ∙ ap (λ (n : ℕ). Some (member n c.in_ok-thread.thread)) (sym many))) c.loop-word.invariant.threads);
    }

pub returns-clause-threads : goal.returns-clause-threads
returns-clause-threads g c =
    let read = member_meant g.P.Profile.profile (names_view c.args.self.now.meaning.objects.names.now) c.args.self.now.meaning.setup.now.plan c.args.self.now.meaning.kernel.now in
    is_done_from read c.loop-word.trusted.items (length c.loop-word.names.items) c.loop-word.word-index c.args.words.now (all_from read (length c.args.names.now.items) c.args.words.now)
    (drop_all c.loop-word.word-index c.args.words.now (omega arith)) c.loop-word.invariant.threads
