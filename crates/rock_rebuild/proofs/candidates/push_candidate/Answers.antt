use Rattle.rebuild_model.specs.Plain.{HasNoEntry}
use Rattle.rock_rebuild.specs.Candidates.{IsFoundAs}
use Rattle.rock_rebuild.proofs.Options.{at_some, at_none}
use Rattle.rock_rebuild.proofs.CandidateLists.{none_here_as, one_more_as}
use Rattle.rock_rebuild.proofs.candidates.push_candidate.Goals as goal

pub returns-in_ok-push-clause-found : goal.returns-in_ok-push-clause-found
returns-in_ok-push-clause-found c anchors slot images first so tells =
    one_more_as c.one_entry_at_a_slot.ensures anchors slot images first c.args.candidates.now.items c.push.new.self.items c.in-Some.candidate so
    (at_some (HasNoEntry slot images first) (λ x. IsFoundAs anchors slot images first x) c.in-Some.is tells) c.in_ok-push.ensures.items

pub returns-in_default-clause-found : goal.returns-in_default-clause-found
returns-in_default-clause-found c anchors slot images first so tells =
    none_here_as anchors slot images first c.args.candidates.now.items so (at_none (HasNoEntry slot images first) (λ x. IsFoundAs anchors slot images first x) c.in_default.is tells)
