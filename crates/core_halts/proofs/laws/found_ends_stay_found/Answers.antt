use Rattle.core_halts.proofs.Trails.{end_after, halted_after, link_found, look_found}
use Rattle.core_halts.proofs.laws.found_ends_stay_found.Goals as goal

pub returns-clause-looked : goal.returns-clause-looked
returns-clause-looked c start v a version x says = look_found a version v x says

pub returns-clause-followed : goal.returns-clause-followed
returns-clause-followed c start v t a version slot x f none = link_found a version v x t slot f none

pub returns-clause-halted : goal.returns-clause-halted
returns-clause-halted c start v m x a version f = halted_after a version v x m f

pub returns-clause-end : goal.returns-clause-end
returns-clause-end c start v m x a version slot f = end_after a version v x m slot f
