use Rattle.workload.proofs.Served.{found, named, numbers, within}
use Rattle.workload.proofs.Sizes.{few, homes, small}
use Rattle.workload.proofs.laws.bench_lines_may_be_served.Goals as goal

pub returns-clause-within : goal.returns-clause-within
returns-clause-within c seed workers count line among = within seed workers count line among

pub returns-clause-found : goal.returns-clause-found
returns-clause-found c seed workers count line among = found seed workers count line among

pub returns-clause-named : goal.returns-clause-named
returns-clause-named c seed workers count line few among = named seed workers count line few among

pub returns-clause-numbers : goal.returns-clause-numbers
returns-clause-numbers c seed workers count k line at = numbers seed workers count k line at

pub returns-clause-homes : goal.returns-clause-homes
returns-clause-homes c seed workers count line url among names = homes seed workers count line url among names

pub returns-clause-small : goal.returns-clause-small
returns-clause-small c seed workers count line few among = small seed workers count line few among

pub returns-clause-few : goal.returns-clause-few
returns-clause-few c seed workers count = few seed workers count
