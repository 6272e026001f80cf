use Rattle.line_account.proofs.Alone.{lone_version}
use Rattle.line_account.proofs.examples.a_lone_version_is_the_next_one.Goals as goal

pub returns : goal.returns
returns c start r w s url body x closed e q a = lone_version r w closed s url body x e q a
