use Rattle.std.proofs.Common.{refl, ◌∙◌, ap, arith}
use Rattle.core_model.specs.declared.view.LoggedPiece.{LoggedPiece}
use Rattle.core_table.proofs.Lists.{same_default}
use Rattle.core_slots.proofs.LogSteps.{counter_there, few_logged, log_planned}
use Rattle.core_slots.proofs.logging.log_piece.Goals as goal

pub index-found-requires : goal.index-found-requires
index-found-requires c = let there = counter_there _ _ _ c.requires _ c.index_of-index.ensures in omega (arith, there)

pub logged_piece-logged-requires : goal.logged_piece-logged-requires
logged_piece-logged-requires c = let writer = c.in-Some.ensures in few_logged _ _ _ c.requires _ _ _ writer.1 writer.2

pub returns-clause-planned : goal.returns-clause-planned
returns-clause-planned c =
    let writer = c.in-Some.ensures in
    let there = counter_there _ _ _ c.requires _ c.index_of-index.ensures in
    log_planned _ _ _ c.requires _ _ _ writer.1 writer.2 writer.0 _ _ _ _ _ _ _ c.index_of-index.ensures
    (c.index-found.ensures ∙ same_default _ _ c.index-found.result.now 0 there) refl
    (ap (λ (x : LoggedPiece). x.piece) c.logged_piece-logged.ensures) c.logged_piece-logged.ensures c.word_addition.ensures
