-- The proof of `replace`: what each of its four writes does is handed to one lemma.
use Rattle.std.proofs.Common.{◌≡◌, ℕ, ◌<◌, List, length, get_or, sym, subst, ap, ◌∙◌}
use Rattle.std.proofs.lemmas.List.{get_or_default}
use Rattle.slot_core.specs.declared.linked.table.Link.{Link}
use Rattle.slot_core.specs.Links.{empty_link, previous_of, next_of, place_in}
use Rattle.slot_core.proofs.LinkedStores.Replacings.{still_in, replaced}
use Rattle.slot_core.proofs.linked.table.replace.Goals as goal

-- what is read at an index of the table is the row there
row_read : (links : List Link) (index s : ℕ) (row : Link) → row ≡ get_or links index row → index ≡ s → s < length links → row ≡ get_or links s empty_link
row_read links index s row read same within = read ∙ ap (λ (i : ℕ). get_or links i row) same ∙ get_or_default links s row empty_link within

pub put-requires : goal.put-requires
put-requires c = record { slot_in = c.requires.slot_in }

pub lead_on-requires : goal.lead_on-requires
lead_on-requires c =
    let read = row_read c.args.links.now c.index.result c.args.source.place c.index-links-index.result c.index-links-index.is c.index.ensures c.requires.source_in in
    record {
      before_in = still_in (place_in c.index-links-index.result.previous) (previous_of c.args.links.now c.args.source.place) (length c.put.new.links) (length c.args.links.now)
          (ap (λ (l : Link). place_in l.previous) read) c.put.ensures.size c.requires.previous_in;
    }

pub lead_back-requires : goal.lead_back-requires
lead_back-requires c =
    let read = row_read c.args.links.now c.index.result c.args.source.place c.index-links-index.result c.index-links-index.is c.index.ensures c.requires.source_in in
    record {
      behind_in = still_in (place_in c.index-links-index.result.next) (next_of c.args.links.now c.args.source.place) (length c.lead_on.new.links) (length c.args.links.now)
          (ap (λ (l : Link). place_in l.next) read) (c.lead_on.ensures.size ∙ c.put.ensures.size) c.requires.next_in;
    }

pub put-requires-2 : goal.put-requires-2
put-requires-2 c = record { slot_in = subst (λ (n : ℕ). c.args.source.place < n) (sym (c.lead_back.ensures.size ∙ c.lead_on.ensures.size ∙ c.put.ensures.size)) c.requires.source_in }

pub returns : goal.returns
returns c =
    replaced c.args.links.now c.put.new.links c.lead_on.new.links c.lead_back.new.links c.put-2.new.links
    (place_in c.args.first.now) (place_in c.lead_on.new.first) (place_in c.args.last.now) (place_in c.lead_back.new.last)
    c.args.source.place c.args.slot.place c.args.cap c.index-links-index.result
    (row_read c.args.links.now c.index.result c.args.source.place c.index-links-index.result c.index-links-index.is c.index.ensures c.requires.source_in)
    (record { next = c.put.ensures.next; next_slot = c.put.ensures.next_slot; previous = c.put.ensures.previous; previous_slot = c.put.ensures.previous_slot; rows = c.put.ensures.rows; row = c.put.ensures.row; size = c.put.ensures.size })
    (record { next = c.lead_on.ensures.next; next_before = c.lead_on.ensures.next_before; previous = c.lead_on.ensures.previous; rows = c.lead_on.ensures.rows; first_none = c.lead_on.ensures.first_none; first_some = c.lead_on.ensures.first_some; size = c.lead_on.ensures.size })
    (record { next = c.lead_back.ensures.next; previous = c.lead_back.ensures.previous; previous_behind = c.lead_back.ensures.previous_behind; rows = c.lead_back.ensures.rows; last_none = c.lead_back.ensures.last_none; last_some = c.lead_back.ensures.last_some; size = c.lead_back.ensures.size })
    (record { next = c.put-2.ensures.next; next_slot = c.put-2.ensures.next_slot; previous = c.put-2.ensures.previous; previous_slot = c.put-2.ensures.previous_slot; rows = c.put-2.ensures.rows; row = c.put-2.ensures.row; size = c.put-2.ensures.size })
