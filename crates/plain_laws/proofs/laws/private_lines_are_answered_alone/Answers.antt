use Rattle.plain_laws.proofs.PrivateLines.{answered_alone}
use Rattle.plain_laws.proofs.Tabbed.{good_tabs}
use Rattle.plain_laws.proofs.laws.private_lines_are_answered_alone.Goals as goal

pub returns : goal.returns
returns c = record { alone = answered_alone; tabs = good_tabs }
