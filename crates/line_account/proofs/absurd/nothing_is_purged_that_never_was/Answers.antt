use Rattle.std.proofs.Common.{arith, true}
use Rattle.lock_word.specs.declared.stage.Stage.TheVariants as stage
use Rattle.lock_word.proofs.Parts.{stage_of-epoch_number}
use Rattle.line_account.proofs.Unexplained.{never_purged}
use Rattle.line_account.proofs.absurd.nothing_is_purged_that_never_was.Goals as goal

pub returns-clause-empty : goal.returns-clause-empty
returns-clause-empty c start r script w s url x rules is sq sa =
    let h = (never_purged r script w rules s (record { version = x; stage = stage.Empty; doom = true }) is sa).0 in
    let e = stage_of-epoch_number (record { version = x; stage = stage.Empty; doom = true }) in
    omega arith

pub returns-clause-gone : goal.returns-clause-gone
returns-clause-gone c start r script w s url x rules is sq sa =
    let h = (never_purged r script w rules s (record { version = x; stage = stage.Gone; doom = true }) is sa).1 in
    let e = stage_of-epoch_number (record { version = x; stage = stage.Gone; doom = true }) in
    omega arith
