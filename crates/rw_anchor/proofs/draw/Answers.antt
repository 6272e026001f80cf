use Rattle.store_rule.proofs.Quieting.{quiet_step, quiet_then}
use Rattle.rw_anchor.proofs.draw.Goals as goal

pub returns-then-counted-ge-GREATEST_VERSION-clause-quiet : goal.returns-then-counted-ge-GREATEST_VERSION-clause-quiet
returns-then-counted-ge-GREATEST_VERSION-clause-quiet g c = quiet_step c.versions-counted.ensures.made.step tt

pub returns-then-found-ge-GREATEST_VERSION-clause-quiet : goal.returns-then-found-ge-GREATEST_VERSION-clause-quiet
returns-then-found-ge-GREATEST_VERSION-clause-quiet g c = quiet_then (quiet_step c.versions-counted.ensures.made.step tt) (quiet_step c.draw_version-found.ensures.made.step tt)

pub returns-clause-quiet : goal.returns-clause-quiet
returns-clause-quiet g c = quiet_then (quiet_step c.versions-counted.ensures.made.step tt) (quiet_step c.draw_version-found.ensures.made.step tt)
