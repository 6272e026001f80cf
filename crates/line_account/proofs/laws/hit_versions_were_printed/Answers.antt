use Rattle.line_account.proofs.HitVersions.{hit_body_printed, hit_finished, hit_printed}
use Rattle.line_account.proofs.laws.hit_versions_were_printed.Goals as goal

pub returns-clause-begun : goal.returns-clause-begun
returns-clause-begun c start r crew a x url bytes closed y h p = hit_printed r crew closed y a x url bytes h p

pub returns-clause-finished : goal.returns-clause-finished
returns-clause-finished c start r crew a x url bytes closed y h p once = hit_finished r crew closed y a x url bytes h p once

pub returns-clause-body : goal.returns-clause-body
returns-clause-body c start r crew a x url bytes closed y h high = hit_body_printed r crew closed y a x url bytes h high
