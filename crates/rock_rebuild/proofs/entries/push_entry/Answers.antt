use Rattle.rebuild_model.specs.Plain.{IsFound, HasNoEntry}
use Rattle.rock_rebuild.proofs.Options.{at_some, at_none}
use Rattle.rock_rebuild.proofs.Gathering.{none_here, one_more}
use Rattle.rock_rebuild.proofs.entries.push_entry.Goals as goal

pub returns-in_ok-push : goal.returns-in_ok-push
returns-in_ok-push c slot images first are tells =
    one_more c.one_entry_at_a_slot.ensures slot images first c.args.found.now.items c.push.new.self.items c.in-Some.entry are
    (at_some (HasNoEntry slot images first) (λ f. IsFound slot images first f) c.in-Some.is tells) c.in_ok-push.ensures.items

pub returns-in_default : goal.returns-in_default
returns-in_default c slot images first are tells =
    none_here slot images first c.args.found.now.items are (at_none (HasNoEntry slot images first) (λ f. IsFound slot images first f) c.in_default.is tells)
