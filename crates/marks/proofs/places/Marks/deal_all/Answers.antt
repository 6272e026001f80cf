use Rattle.std.proofs.Common.{◌≡◌, ◌+◌, length, sym, ap, ◌∙◌, subst}
use Rattle.marks.specs.Seats.{Dealt, AreDealt}
use Rattle.marks.proofs.Dealing.{has_all, has_less, seat_dealt, more_dealt, none_dealt}
use Rattle.marks.proofs.places.Marks.deal_all.Goals as goal

pub loop-worker-init : goal.loop-worker-init
loop-worker-init g c = (
  c.new-seats.ensures.len,
  c.requires.own,
  has_all c.args.self.now.table.shared.key c.args.setters.now c.args.first.seat.me.0 c.requires.whole,
  none_dealt c.args.self.now c.args.setters.now c.new-seats.result.items c.new-seats.ensures.items,
)

pub loop-worker-preserved : goal.loop-worker-preserved
loop-worker-preserved g c =
    let before = c.loop-worker.invariant in
    let dealt = c.deal-seat.ensures.dealt in
    let count : length c.loop-worker.seats.items ≡ c.loop-worker.worker = sym c.loop-worker.seats.ok.0 ∙ before.0 in
    let seat = seat_dealt c.args.self.now c.args.setters.now c.loop-worker.worker c.loop-worker.first.seat.me.0 c.deal-seat.result dealt.1 c.deal-seat.ensures.own.1 before.2 in (
      c.in_ok-push.ensures.len ∙ ap (λ n. n + 1) before.0,
      c.deal-seat.ensures.own.0,
      has_less c.args.setters.now c.loop-worker.worker c.loop-worker.first.seat.me.0 c.deal-seat.new.first.seat.me.0 dealt.0 before.2,
      subst (AreDealt c.args.self.now c.args.setters.now) (sym c.in_ok-push.ensures.items)
          (more_dealt c.args.self.now c.args.setters.now c.loop-worker.seats.items c.deal-seat.result before.3 (subst (λ n. Dealt c.args.self.now c.args.setters.now (n + 1) c.deal-seat.result) (sym count) seat)),
    )
