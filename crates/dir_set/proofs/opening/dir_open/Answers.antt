use Rattle.std.proofs.Common.{List, arith, ap, length, refl, set, ◌+◌, ◌<◌, ◌∙◌, ℕ}
use Rattle.std.specs.Prelude.{Some}
use Rattle.std.proofs.Math.ListN.{length-set}
use Rattle.lock_word.specs.declared.cause.Cause.{Cause}
use Rattle.rock_reader.specs.Opening.{MayOpen}
use Rattle.store_rule.specs.declared.store.Pass.{Pass}
use Rattle.store_rule.specs.declared.store.Store.{Store}
use Rattle.dir_set.specs.Answers.{RefusedBy}
use Rattle.dir_set.proofs.Opens.{missed_none, opens_at, tab_own}
use Rattle.dir_set.proofs.Range.{all_dirs, none_yet, untouched}
use Rattle.dir_set.proofs.Said.{none_behind, said_on}
use Rattle.dir_set.proofs.opening.dir_open.Goals as goal

pub loop-dir-init : goal.loop-dir-init
loop-dir-init g c = record {
  ranges = none_yet c.args.dirs.now _ 0 c.args.pass.now;
  own = c.requires.pass;
  none = missed_none 8 0;
  room = refl;
}

pub open_in-requires-clause-may : goal.open_in-requires-clause-may
open_in-requires-clause-may g c = untouched c.args.dirs.now c.args.pass.now c.loop-dir.pass _ 0 c.loop-dir.dir c.loop-dir.invariant.ranges
    (λ s p. MayOpen g.C.Cell.tells g.C.Cell.state g.O.Origin.offers s p c.args.tab c.args.url.now) (c.requires.may c.loop-dir.dir)

pub loop-dir-preserved : goal.loop-dir-preserved
loop-dir-preserved g c = let i = c.loop-dir.invariant in
    let lt : c.loop-dir.dir < length c.loop-dir.causes = omega (arith, i.room, c.loop-dir-test.true, c.count-dir-end.ensures.few) in record {
      ranges = said_on c.args.dirs.now (λ (cause : Cause) (s : Store g.row.C.Denot g.row.O.Denot) (p q : Pass g.row.C.Denot). RefusedBy g.C.Cell.tells g.C.Cell.state g.O.Origin.offers c.args.tab c.args.url.now s p q cause)
          0 c.loop-dir.dir (omega arith) c.args.pass.now c.loop-dir.pass c.open_in.new.pass c.loop-dir.causes c.in-Err.cause lt i.ranges c.open_in.ensures.only c.in-Err.ensures.err;
      own = c.open_in.ensures.own;
      none = none_behind c.loop-dir.causes c.loop-dir.dir (Some c.in-Err.cause) (c.loop-dir.dir + 1) (omega arith) (λ d le. i.none d (omega arith));
      room = length-set c.loop-dir.causes c.loop-dir.dir (Some c.in-Err.cause) ∙ i.room;
    }

pub returns-in-Ok-clause-ok : goal.returns-in-Ok-clause-ok
returns-in-Ok-clause-ok g c = opens_at g.C.Cell.tells g.C.Cell.state g.O.Origin.offers c.args.tab c.args.url.now c.args.dirs.now c.args.pass.now c.loop-dir.pass c.open_in.new.pass c.loop-dir.causes c.loop-dir.dir c.in-Ok.version
    c.loop-dir.invariant.ranges c.open_in.ensures.only c.in-Ok.ensures.ok

pub returns-in-Ok-clause-there : goal.returns-in-Ok-clause-there
returns-in-Ok-clause-there g c = omega (arith, c.loop-dir-test.true, c.count-dir-end.ensures.value)

pub returns-in-Ok-clause-tabs : goal.returns-in-Ok-clause-tabs
returns-in-Ok-clause-tabs g c = ap (λ (xs : List ℕ). set xs c.args.tab c.loop-dir.dir) (c.open_in.ensures.only.moves.tabs ∙ c.loop-dir.invariant.ranges.moves.tabs)

pub returns-in-Ok-clause-hand : goal.returns-in-Ok-clause-hand
returns-in-Ok-clause-hand g c = c.open_in.ensures.only.moves.hand ∙ c.loop-dir.invariant.ranges.moves.hand

pub returns-in-Ok-clause-own : goal.returns-in-Ok-clause-own
returns-in-Ok-clause-own g c = tab_own g.C.Cell.tells g.C.Cell.state g.O.Origin.offers c.args.dirs.now c.open_in.new.pass c.args.tab c.loop-dir.dir c.open_in.new.pass.hand c.open_in.ensures.own c.open_in.ensures.own.hand (omega (arith, c.loop-dir-test.true, c.count-dir-end.ensures.value))

pub returns-clause-err : goal.returns-clause-err
returns-clause-err g c = all_dirs c.args.dirs.now c.args.pass.now c.loop-dir.pass 0 c.loop-dir.dir _ c.loop-dir.invariant.ranges (omega (arith, c.loop-dir-test.false, c.count-dir-end.ensures.value))

pub returns-clause-behind : goal.returns-clause-behind
returns-clause-behind g c d le = c.loop-dir.invariant.none d (omega (arith, c.loop-dir-test, c.count-dir-end.ensures.value))

pub returns-clause-moves : goal.returns-clause-moves
returns-clause-moves g c = c.loop-dir.invariant.ranges.moves

pub returns-clause-hand : goal.returns-clause-hand
returns-clause-hand g c = c.loop-dir.invariant.ranges.moves.hand

pub returns-clause-own : goal.returns-clause-own
returns-clause-own g c = c.loop-dir.invariant.own
