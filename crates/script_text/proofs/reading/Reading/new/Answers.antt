use Rattle.std.proofs.Common.{refl}
use Rattle.script_text.proofs.Finishing.{nothing_read, nothing_in_front}
use Rattle.script_text.proofs.reading.Reading.new.Goals as goal

pub returns-clause-reading : goal.returns-clause-reading
returns-clause-reading c = nothing_read _ c.new.ensures.items refl c.in_ok-begun.ensures.items c.no_marks.ensures

pub returns-clause-front : goal.returns-clause-front
returns-clause-front c = nothing_in_front _ c.new.ensures.items c.in_ok-begun.ensures.items
