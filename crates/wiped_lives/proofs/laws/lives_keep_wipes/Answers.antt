use Rattle.wiped_lives.proofs.Along.{all_keep, new_keeps}
use Rattle.wiped_lives.proofs.laws.lives_keep_wipes.Goals as goal

pub returns : goal.returns
returns c file anchors passes steps lives from new so leads first i life at =
    all_keep steps lives from leads first so (new_keeps file anchors passes from new so) i life at
