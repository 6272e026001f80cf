use Rattle.run_rules.proofs.Zero.{never_zero}
use Rattle.run_rules.proofs.absurd.no_entry_has_version_0.Goals as goal

pub returns : goal.returns
returns c tells files name slot anchors url body held before after h of = never_zero h.run h.crew h.zero url body held h.serves h.printed of
