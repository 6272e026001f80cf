use Rattle.core_model.proofs.Holders.{not_both, not_wiped}
use Rattle.core_model.proofs.OneSpot.{one_spot}
use Rattle.core_table.specs.Machine.{setting_of, state_of}
use Rattle.core_lives.proofs.Leading.{all_sound}
use Rattle.life_runs.proofs.laws.slots_are_apart_along_lives.Goals as goal

pub returns : goal.returns
returns c steps lives from leads begins so i life at = let here = (all_sound steps lives from leads begins so i life at).sound in record {
  one_spot = λ slot lt. one_spot (setting_of life.core) (state_of life.core) here.anchors.shaped here.slots slot lt;
  unwritten = λ slot written read. not_both (setting_of life.core) (state_of life.core) here slot written read;
  unwiped = λ slot wiped read. not_wiped (setting_of life.core) (state_of life.core) here slot wiped read;
}
