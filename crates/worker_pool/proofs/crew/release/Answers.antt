use Rattle.std.proofs.Common.{◌≡◌, ◌<◌, Bool, ◌&&◌, not, length, sym, ap, ◌∙◌, arith}
use Rattle.worker_pool.specs.Courses.{At}
use Rattle.worker_pool.proofs.Hiring.{released_more, gathered}
use Rattle.worker_pool.proofs.Places.{first_left, at_contains}
use Rattle.worker_pool.proofs.crew.release.Goals as goal
use Rattle.worker_pool.proofs.crew.release.Goals.{then-is_whole, else-is_whole}

pub join-requires-clause-other : goal.join-requires-clause-other
join-requires-clause-other g c =
    let was = c.loop.invariant in
    let few : c.loop.counter < length c.args.workers.items = omega arith in
    let at : At c.args.workers.items c.loop.counter c.remove-shelf.result = first_left c.args.workers.items c.loop.workers.items c.loop.counter c.remove-shelf.result was.released.rest few c.remove-shelf.ensures.value in
    c.requires.own c.remove-shelf.result (at_contains c.args.workers.items c.loop.counter c.remove-shelf.result at)

pub loop-preserved : goal.loop-preserved
loop-preserved g c =
    let was = c.loop.invariant in
    let few : c.loop.counter < length c.args.workers.items = omega arith in
    let on : c.if-is_whole.is_whole ≡ (c.loop.is_whole && not c.remove-shelf.result.is_stopped) = elim c.if-is_whole.branch [
      | then-is_whole w ↦ w.is_whole-is ∙ sym (ap (λ (t : Bool). t && not c.remove-shelf.result.is_stopped) w.if-is_whole.true)
      | else-is_whole w ↦ w.is_whole-is ∙ (w.if-is_whole.false ∙ sym (ap (λ (t : Bool). t && not c.remove-shelf.result.is_stopped) w.if-is_whole.false))
    ] in record {
      released = released_more c.args.workers.items c.loop.workers.items c.remove-shelf.new.self.items c.loop.counter c.remove-shelf.result c.loop.shelves.items c.push_reserved.new.self.items
          c.loop.answers.items c.push_reserved-in-loop.new.self.items c.loop.is_whole c.if-is_whole.is_whole _ _ few c.remove-shelf.ensures.value c.remove-shelf.ensures.by_index.2
          c.push_reserved.ensures.items c.push_reserved-in-loop.ensures.items on c.join.ensures.joined c.join.ensures.agrees was.released;
      seat = c.join.ensures.own;
      count = omega arith;
      shelves = (omega arith, c.push_reserved.ensures.capacity ∙ was.shelves.1);
      answers = (omega arith, c.push_reserved-in-loop.ensures.capacity ∙ was.answers.1);
    }

pub returns-clause-went : goal.returns-clause-went
returns-clause-went g c =
    let was = c.loop.invariant in
    (gathered c.args.workers.items c.loop.workers.items c.loop.counter c.loop.shelves.items c.loop.answers.items c.loop.is_whole _ (omega arith) (omega arith) was.released).2

pub returns-clause-gathered : goal.returns-clause-gathered
returns-clause-gathered g c =
    let was = c.loop.invariant in
    (gathered c.args.workers.items c.loop.workers.items c.loop.counter c.loop.shelves.items c.loop.answers.items c.loop.is_whole _ (omega arith) (omega arith) was.released).3

pub returns-clause-stopped : goal.returns-clause-stopped
returns-clause-stopped g c =
    let was = c.loop.invariant in
    (gathered c.args.workers.items c.loop.workers.items c.loop.counter c.loop.shelves.items c.loop.answers.items c.loop.is_whole _ (omega arith) (omega arith) was.released).4
