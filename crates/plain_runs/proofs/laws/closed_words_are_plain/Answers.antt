use Rattle.plain_runs.proofs.Ends.{closed_word}
use Rattle.plain_runs.proofs.laws.closed_words_are_plain.Goals as goal

pub returns : goal.returns
returns g c s p plain views left closed a lone first shows lt = closed_word g.C.Cell.tells g.C.Cell.state g.O.Origin.offers s p plain views left closed a lone first shows lt
