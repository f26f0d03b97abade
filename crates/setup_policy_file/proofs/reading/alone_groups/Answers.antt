use Rattle.std.proofs.Common.{◌≡◌, ℕ, List, [], ◌∷◌, ◌++◌, Some, refl, arith, map, rules, string_bytes, subst}
use Rattle.std.specs.Prelude.{String}
use Rattle.std.specs.declared.alloc.Global.{Global}
use Rattle.std.proofs.lemmas.List.{drop_all}
use Rattle.setup_policy_file.specs.declared.fault.Place.TheVariants.{Alone}
use Rattle.setup_policy_file.specs.declared.file.GroupEntry.{GroupEntry}
use Rattle.setup_policy_file.specs.declared.file.Word.{Word}
use Rattle.setup_policy_file.specs.Files.{alone_of, group_view}
use Rattle.setup_policy_file.specs.Values.{all_of, word_in, word_view}
use Rattle.setup_policy_file.proofs.Loops.{front_done, front_more}
use Rattle.setup_policy_file.proofs.reading.alone_groups.Goals as goal

alone_is : (name : List ℕ) (g : GroupEntry) (w : Word) → word_in name ≡ Some (word_view w) → string_bytes g.name ≡ name → g.threads.items ≡ w ∷ [] → g.regions.items ≡ []
    → alone_of name ≡ Some (group_view g)
alone_is name g w is named threads regions = rw (is, named, threads, regions) refl

pub loop-i-preserved : goal.loop-i-preserved
loop-i-preserved c =
    let names = c.as_slice-names.result.now in
    let name = c.index-names-i.result in
    let old = c.loop-i.groups.items in
    let said : GroupEntry = record { name = c.in_ok-kept.field-0; threads = c.in_ok-kept-2.field-0; regions = c.new.result; place = Alone c.saturating_add.result } in
    let text : c.as_str-name.result.now ≡ string_bytes name = search rules in
    let found = rw c.in_ok-thread.ensures at c.word_in.ensures in
    let word : word_in (string_bytes name) ≡ Some (word_view c.in_ok-thread.thread) = rw text at found in
    let copied = rw c.in_ok-kept.ensures at c.from_str.ensures.ok in
    let named : string_bytes said.name ≡ string_bytes name = rw text at copied in
    let threads : said.threads.items ≡ c.in_ok-thread.thread ∷ [] = rw c.in_ok-kept-2.ensures at c.from_array.ensures.items in
    let is = alone_is (string_bytes name) said c.in_ok-thread.thread word named threads c.new.ensures.items in
    let pushed : c.push.new.self.items ≡ old ++ said ∷ [] = rw c.in_ok-kept-3.ensures at c.push.ensures.items in
    rw pushed (front_more string_bytes group_view alone_of c.loop-i.i names name old said (omega arith)
    (subst (λ (x : String Global). alone_of (string_bytes x) ≡ Some (group_view said)) c.index-names-i.is is) c.loop-i.invariant)

pub returns : goal.returns
returns c =
    let names = c.as_slice-names.result.now in
    let done : all_of alone_of (map string_bytes names) ≡ Some (map group_view c.loop-i.groups.items) =
    front_done string_bytes group_view alone_of c.loop-i.i names c.loop-i.groups.items (drop_all c.loop-i.i names (omega arith)) c.loop-i.invariant in
    let told = rw c.as_slice-names.ensures.value at done in
    rw c.in_ok-names.ensures told
