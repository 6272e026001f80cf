use Rattle.core_lives.proofs.Leading.{all_sound}
use Rattle.core_lives.proofs.laws.lives_stay_sound.Goals as goal

pub returns : goal.returns
returns c steps lives from leads first so i life at = all_sound steps lives from leads first so i life at
