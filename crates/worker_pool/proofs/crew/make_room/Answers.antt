use Rattle.worker_pool.proofs.Setting.{sets_of, last_of}
use Rattle.worker_pool.proofs.crew.make_room.Goals as goal

pub returns-clause-dealt : goal.returns-clause-dealt
returns-clause-dealt g c = sets_of c.in_ok-marks.marks c.args.lines.now c.setters_of-setters.result c.in_ok-marks.seats.items c.take_last-last_seat.new.self.items c.take_last-last_seat.result c.requires.marks
    c.setters_of-setters.ensures c.take_last-last_seat.ensures.items c.in_ok-marks.ensures.dealt

pub returns-clause-last : goal.returns-clause-last
returns-clause-last g c = last_of c.in_ok-marks.marks c.setters_of-setters.result c.in_ok-marks.seats.items c.take_last-last_seat.new.self.items c.take_last-last_seat.result c.take_last-last_seat.ensures.items c.in_ok-marks.ensures.dealt
