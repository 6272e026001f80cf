use Rattle.core_wiped.proofs.laws.wiped_slots_are_left_to_others.Goals as goal

pub returns : goal.returns
returns g c k s log a version slot d x ws seen cell there = (ws.each a version slot seen).left d x cell there
