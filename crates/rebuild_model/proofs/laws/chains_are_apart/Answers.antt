use Rattle.rebuild_model.proofs.Chains.{same_first}
use Rattle.rebuild_model.proofs.laws.chains_are_apart.Goals as goal

pub returns : goal.returns
returns c = record {
  chains = λ slot images s t xs ys p q apart u here there. apart (same_first slot images s t xs ys u p q here there);
  entries = λ slot images e f p q apart s here there. apart (same_first slot images e.first f.first e.chain f.chain s p.chain q.chain here there);
}
