-- What is listed is the policy that was read, by the state behind so many calls.
use Rattle.std.proofs.Common.{◌∙◌, ℕ, Vec, Global, ap, inr, subst}
use Rattle.setup_format.specs.Read.{read_view}
use Rattle.command_policy.specs.declared.command.Judging.{Judging}
use Rattle.command_policy.specs.Policies.{IsJudgedFirst, IsJudging}
use Rattle.command_policy_listing.specs.Listing.{listing_text}
use Rattle.command_policy_listing.proofs.command.ListingCommand.answer.Goals as goal

pub returns : goal.returns
returns g c =
    let p = g.P.Profile.profile in
    let first : IsJudgedFirst c.args.self.now.policy.now p (read_view c.args.read.now) c.args.self.now.after c.in-Done.made c.in-Done.file c.in-Done.judged =
    subst (λ (o : Judging). IsJudging c.args.self.now.policy.now c.args.self.now.after p (read_view c.args.read.now) o) c.in-Done.is c.in_ok-answer.ensures in
    inr record {
      file = c.in-Done.file;
      says = first.says;
      made = c.in-Done.made;
      is_made = first.is_made;
      judged = c.in-Done.judged;
      meant = first.meant;
      told = ap (λ (t : Vec ℕ Global). t.items) c.new.ensures.text
          ∙ c.in_ok-text-in-Done.ensures
          ∙ (λ i. listing_text (c.held.ensures.policy i) (c.held.ensures.labels i) c.args.read.now.setup c.in-Done.made);
      is_met = c.new.ensures.verdict;
    }
