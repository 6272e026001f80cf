use Rattle.rebuild_model.proofs.One.{one_rebuild}
use Rattle.rebuild_model.proofs.laws.a_file_has_one_rebuild.Goals as goal

pub returns : goal.returns
returns c = one_rebuild c.one_winner_at_an_anchor.ensures.one
