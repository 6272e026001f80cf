use Rattle.run_rules.proofs.Refused.{all_refused, at_home}
use Rattle.run_rules.proofs.absurd.no_winner_is_freed_by_refusals.Goals as goal

pub returns : goal.returns
returns c tells files name slot anchors x url body other held before after h of =
    c.nothing_is_given_back_by_refusals.ensures h.run _ h.crew _ x held h.rules (all_refused h.crew held h.printed)
    (at_home h.run h.crew url body other held h.serves h.printed) of
