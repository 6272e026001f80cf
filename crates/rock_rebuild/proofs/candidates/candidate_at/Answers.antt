use Rattle.rebuild_model.specs.Plain.{IsFound, HasNoEntry}
use Rattle.rock_rebuild.specs.Gathered.{found_with}
use Rattle.rock_rebuild.specs.declared.entries.Whole.{Whole}
use Rattle.rock_rebuild.proofs.Options.{at_none}
use Rattle.rock_rebuild.proofs.candidates.candidate_at.Goals as goal

pub returns-in_default-clause-found : goal.returns-in_default-clause-found
returns-in_default-clause-found c images file left tells =
    let told = c.in_ok-whole.ensures.whole images file left tells in (
      told.0,
      at_none (HasNoEntry c.args.slot images c.args.first)
          (λ (w : Whole). IsFound c.args.slot images c.args.first (found_with c.args.first w.version w.key w.url.now w.length c.whole_at.new.chain.items)) c.in_default.is told.1,
    )
