use Rattle.std.proofs.Common.{◌≡◌, true, false, ◌+◌, sym, refl, ◌∙◌, subst}
use Rattle.marks.specs.Seats.{view}
use Rattle.worker_pool.specs.Courses.{Stopped}
use Rattle.worker_pool.specs.Knowing.{Ready, Served}
use Rattle.worker_pool.proofs.Going.{kept_on, kept_none, served_none}
use Rattle.worker_pool.proofs.worker.Worker.work.Goals as goal

pub loop-place-init : goal.loop-place-init
loop-place-init g c = (
  refl,
  c.requires.ready,
  kept_none g.H.Shelf c.args.self.now.shelf,
  (λ going. served_none g.H.Shelf c.args.lines.now c.args.self.now.number c.args.self.now.shelf c.args.self.now.answers.items (view c.args.self.now.seat) c.requires.fresh),
  (λ halts. let clash : false ≡ true = sym c.requires.goes ∙ halts in cc),
)

pub loop-place-preserved : goal.loop-place-preserved
loop-place-preserved g c =
    let step = c.go_on.ensures in
    let was = c.loop-place.invariant in (
      step.number ∙ was.0,
      subst (λ w. Ready g.H.Shelf c.args.marks.now c.args.lines.now w (c.loop-place.place + 1) c.go_on.new.self.shelf c.go_on.new.self.seat) (sym step.number) step.ready,
      kept_on g.H.Shelf c.args.self.now.shelf c.loop-place.self.shelf c.go_on.new.self.shelf was.2 step.kept,
      (λ going. subst (λ w. Served g.H.Shelf c.args.lines.now w c.args.self.now.shelf (c.loop-place.place + 1) c.go_on.new.self.shelf c.go_on.new.self.answers.items (view c.go_on.new.self.seat)) (sym step.number) (step.served c.args.self.now.shelf was.3 going)),
      (λ halts. subst (λ w. Stopped g.H.Shelf c.args.lines.now w (c.loop-place.place + 1) c.args.self.now.shelf c.go_on.new.self.shelf) (sym step.number) (step.stopped c.args.self.now.shelf was.3 was.4 halts)),
    )
