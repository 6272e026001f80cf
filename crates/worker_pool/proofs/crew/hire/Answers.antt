use Rattle.std.proofs.Common.{◌+◌, ◌<◌, false, length, sym, refl, ◌∙◌, subst, arith}
use Rattle.worker_pool.proofs.Hiring.{AreHiredTo, hired_more}
use Rattle.worker_pool.proofs.crew.hire.Goals as goal

pub loop-place-preserved : goal.loop-place-preserved
loop-place-preserved g c =
    let was = c.loop-place.invariant in
    let few : c.loop-place.place < length c.args.shelves.now.items = omega arith in
    let fewer : c.loop-place.place < length c.args.seats.items = omega arith in (
      subst (λ l. AreHiredTo (c.loop-place.place + 1) c.args.shelves.now.items c.remove.new.self.items c.args.seats.items c.remove-in-loop-place.new.self.items l) (sym c.push_reserved.ensures.items)
          (hired_more c.loop-place.place c.args.shelves.now.items c.loop-place.shelves.items c.remove.new.self.items c.args.seats.items c.loop-place.seats.items c.remove-in-loop-place.new.self.items c.loop-place.workers.items
          (record { number = c.loop-place.place + 1; shelf = c.remove.result; seat = c.remove-in-loop-place.result; answers = c.new.result; is_stopped = false })
          few fewer refl c.remove.ensures.value c.remove-in-loop-place.ensures.value c.new.ensures.items refl c.remove.ensures.by_index.2 c.remove-in-loop-place.ensures.by_index.2 was.0),
      c.remove.ensures.capacity ∙ was.1,
      c.push_reserved.ensures.capacity ∙ was.2,
    )
