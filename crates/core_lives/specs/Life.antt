-- What a life shows of what it keeps.
use Rattle.core_lives.specs.declared.life.Life.TheInside.{Inside}
use Rattle.core_lives.specs.Lived.{IsSoundLife, Lived}

abbrev pub lived_of : Inside → Lived
lived_of l = record { core = l.core; file = l.file; first = l.first; left = l.left }

abbrev pub IsSoundInside : Inside → Type 0
IsSoundInside l = IsSoundLife (lived_of l)
