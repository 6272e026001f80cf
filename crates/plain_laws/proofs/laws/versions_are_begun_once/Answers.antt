use Rattle.plain_laws.proofs.Course.{versions_rise}
use Rattle.plain_laws.proofs.Counted.{counted_along, counted_at_the_end}
use Rattle.plain_laws.proofs.laws.versions_are_begun_once.Goals as goal

pub returns : goal.returns
returns c = record { once = versions_rise; counted = counted_along; left = counted_at_the_end }
