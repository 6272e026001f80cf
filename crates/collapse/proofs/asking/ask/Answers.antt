use Rattle.std.proofs.Common.{arith, subst}
use Rattle.collapse.specs.Asking.{AskedNow}
use Rattle.collapse.specs.declared.asking.Asked.{Asked}
use Rattle.collapse.proofs.Asks.{asked_in, asked_none, asked_on}
use Rattle.collapse.proofs.Going.{forward_none, forward_on}
use Rattle.collapse.proofs.asking.ask.Goals as goal

pub loop-looks-init : goal.loop-looks-init
loop-looks-init g c = record {
  asked = asked_none g.C.Cell.tells g.C.Cell.state g.O.Origin.offers c.args.store.now c.args.tab c.args.offer c.args.url.now c.args.pass.now c.args.looks.now c.requires.none;
  may = c.requires.may;
  follows = forward_none g.C.Cell.tells g.C.Cell.state g.O.Origin.offers c.args.store.now c.args.tab c.args.pass.now c.requires.may.own;
  under = let z = c.requires.none in omega arith;
}

pub ask_once-asked-requires : goal.ask_once-asked-requires
ask_once-asked-requires g c = c.loop-looks.invariant.may

pub loop-looks-preserved : goal.loop-looks-preserved
loop-looks-preserved g c = let i = c.loop-looks.invariant in record {
  asked = asked_on g.C.Cell.tells g.C.Cell.state g.O.Origin.offers c.args.store.now c.args.tab c.args.offer c.args.url.now c.args.pass.now c.loop-looks.pass c.ask_once-asked.new.pass c.loop-looks.looks i.asked
      (subst (λ (z : Asked). AskedNow g.C.Cell.tells g.C.Cell.state g.O.Origin.offers c.args.store.now c.args.tab c.args.offer c.args.url.now c.loop-looks.pass c.ask_once-asked.new.pass z) c.in-InVain.is c.ask_once-asked.ensures.asked);
  may = c.ask_once-asked.ensures.still c.in-InVain.is;
  follows = forward_on g.C.Cell.tells g.C.Cell.state g.O.Origin.offers c.args.store.now c.args.tab c.args.pass.now c.loop-looks.pass c.ask_once-asked.new.pass i.follows c.ask_once-asked.ensures.others;
  under = let below = c.loop-looks-test.true in omega arith;
}

pub returns-in_default : goal.returns-in_default
returns-in_default g c = let i = c.loop-looks.invariant in record {
  asked = asked_in g.C.Cell.tells g.C.Cell.state g.O.Origin.offers c.args.store.now c.args.tab c.args.offer c.args.url.now c.args.most c.args.pass.now c.loop-looks.pass c.ask_once-asked.new.pass c.loop-looks.looks c.ask_once-asked.result i.asked c.loop-looks-test.true c.in_default.not-InVain c.ask_once-asked.ensures.asked;
  free = c.ask_once-asked.ensures.free;
  inner = c.ask_once-asked.ensures.inner;
  others = forward_on g.C.Cell.tells g.C.Cell.state g.O.Origin.offers c.args.store.now c.args.tab c.args.pass.now c.loop-looks.pass c.ask_once-asked.new.pass i.follows c.ask_once-asked.ensures.others;
}

pub returns-clause-asked : goal.returns-clause-asked
returns-clause-asked g c = (c.loop-looks.invariant.asked, let under = c.loop-looks.invariant.under in let past = c.loop-looks-test.false in omega arith)

pub returns-clause-free : goal.returns-clause-free
returns-clause-free g c = c.loop-looks.invariant.may.free

pub returns-clause-inner : goal.returns-clause-inner
returns-clause-inner g c = c.loop-looks.invariant.may.inner_free

pub returns-clause-others : goal.returns-clause-others
returns-clause-others g c = c.loop-looks.invariant.follows
