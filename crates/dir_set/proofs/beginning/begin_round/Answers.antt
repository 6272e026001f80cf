use Rattle.std.proofs.Common.{arith, inr, refl, ◌∙◌}
use Rattle.dir_set.proofs.Round.{first_round, may_second, then_none, then_second}
use Rattle.dir_set.proofs.beginning.begin_round.Goals as goal

pub begin_among-requires-clause-may : goal.begin_among-requires-clause-may
begin_among-requires-clause-may g c d above below = c.requires.may d

pub begin_among-requires-in-None-clause-may : goal.begin_among-requires-in-None-clause-may
begin_among-requires-in-None-clause-may g c d above lt = may_second g.C.Cell.tells g.C.Cell.state g.O.Origin.offers c.args.tab c.args.line c.args.url.now c.args.durable c.args.dirs.now c.args.pass.now c.begin_among.new.pass c.args.pass.now.hand c.count.result (omega (arith, c.requires.pass.hand, c.count.ensures.value)) c.count.ensures.value c.begin_among.new.faults c.requires.pass.many c.begin_among.ensures.own.many (c.in-None.ensures.none refl) c.requires.may d lt

pub returns-in-Some-clause-some : goal.returns-in-Some-clause-some
returns-in-Some-clause-some g c = let h = c.in-Some.ensures.some in (
  omega (arith, h.1, c.count.ensures.value),
  λ d s p q es ep eq.
      first_round g.C.Cell.tells g.C.Cell.state g.O.Origin.offers c.args.tab c.args.line c.args.url.now c.args.durable c.args.pass.now.hand d s c.in-Some.begun.0 c.in-Some.begun.1 p q h.0 (h.2 d s p q es ep eq),
)

pub returns-in-Some-clause-behind : goal.returns-in-Some-clause-behind
returns-in-Some-clause-behind g c none d le = c.begin_among.ensures.faults d (inr (omega (arith, c.count.ensures.value))) ∙ none d le

pub returns-in-None-clause-some : goal.returns-in-None-clause-some
returns-in-None-clause-some g c = then_second g.C.Cell.tells g.C.Cell.state g.O.Origin.offers c.args.tab c.args.line c.args.url.now c.args.durable c.args.dirs.now c.args.pass.now c.begin_among.new.pass c.args.pass.now.hand c.count.result (omega (arith, c.requires.pass.hand, c.count.ensures.value)) c.count.ensures.value c.begin_among.new.faults c.requires.pass.many c.begin_among.ensures.own.many (c.in-None.ensures.none refl) c.begin_among-in-None.new.pass c.begin_among-in-None.result c.begin_among-in-None.ensures.some

pub returns-in-None-clause-none : goal.returns-in-None-clause-none
returns-in-None-clause-none g c none = then_none g.C.Cell.tells g.C.Cell.state g.O.Origin.offers c.args.tab c.args.line c.args.url.now c.args.durable c.args.dirs.now c.args.pass.now c.begin_among.new.pass c.args.pass.now.hand c.count.result (omega (arith, c.requires.pass.hand, c.count.ensures.value)) c.count.ensures.value c.begin_among.new.faults c.requires.pass.many c.begin_among.ensures.own.many (c.in-None.ensures.none refl) c.begin_among-in-None.new.pass c.begin_among-in-None.new.faults (λ d le. c.begin_among-in-None.ensures.faults d (inr le)) (c.begin_among-in-None.ensures.none none)

pub returns-in-None-clause-behind : goal.returns-in-None-clause-behind
returns-in-None-clause-behind g c none d le = c.begin_among-in-None.ensures.faults d (inr (omega (arith, c.requires.pass.hand))) ∙ c.begin_among.ensures.faults d (inr (omega (arith, c.count.ensures.value))) ∙ none d le
