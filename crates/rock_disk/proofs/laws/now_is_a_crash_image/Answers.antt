use Rattle.rock_disk.proofs.Crashes.{now_is_an_image}
use Rattle.rock_disk.proofs.laws.now_is_a_crash_image.Goals as goal

pub returns : goal.returns
returns c = now_is_an_image
