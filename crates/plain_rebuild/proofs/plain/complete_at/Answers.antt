use Rattle.std.proofs.Common.{subst}
use Rattle.std.specs.Prelude.{MatchOption}
use Rattle.rebuild_model.specs.Plain.{IsFound, HasNoEntry}
use Rattle.plain_rebuild.proofs.plain.complete_at.Goals as goal

pub returns : goal.returns
returns c =
    subst (λ images. MatchOption c.in_ok-entry_at.field-0 (HasNoEntry c.args.file.now.slot images c.args.first) (λ found. IsFound c.args.file.now.slot images c.args.first found))
    c.as_slice.ensures c.in_ok-entry_at.ensures
