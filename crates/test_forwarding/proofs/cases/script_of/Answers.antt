use Rattle.std.proofs.lemmas.List.Elements.{Contains-get_or}
use Rattle.test_forwarding.proofs.cases.script_of.Goals as goal

pub returns-in-Ok : goal.returns-in-Ok
returns-in-Ok c k d below = let read = c.read_lines_may_be_asked.ensures _ c.in-Ok.ensures.script.0 c.in-Ok.script.lines _ c.in-Ok.ensures.script.1 (Contains-get_or c.in-Ok.script.lines k d below) in record { found = read.0; asked = read.1 }
