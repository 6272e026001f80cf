use Rattle.core_alone.proofs.Touched.{has_else, has_left, has_reserved}
use Rattle.core_alone.proofs.laws.passes_have_what_they_left.Goals as goal

pub returns-clause-left : goal.returns-clause-left
returns-clause-left c start k v m x p is = has_left k v m x p is

pub returns-clause-reserved : goal.returns-clause-reserved
returns-clause-reserved c start k v t slot x free = has_reserved k v t slot x free

pub returns-clause-untouched : goal.returns-clause-untouched
returns-clause-untouched c start k v m x p untouched = has_else k v m x p untouched
