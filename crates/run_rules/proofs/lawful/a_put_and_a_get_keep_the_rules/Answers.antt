use Rattle.run_rules.proofs.PutAndGet.{keeps_rules}
use Rattle.run_rules.proofs.lawful.a_put_and_a_get_keep_the_rules.Goals as goal

pub returns : goal.returns
returns c start r url w may is = keeps_rules r url may w is
