use Rattle.std.proofs.Common.{arith, refl, subst, take, ◌∙◌, ℕ}
use Rattle.collapse.specs.Faults.{StationAtWrite}
use Rattle.collapse.proofs.Faults.{at_write}
use Rattle.collapse.proofs.Going.{writing_none, writing_on}
use Rattle.collapse.proofs.Takes.{keeps_no_more, keeps_part, keeps_some, keeps_whole, kept_none, kept_on, may_append_next}
use Rattle.collapse.proofs.writing.keep_rest.Goals as goal

pub loop-count-init : goal.loop-count-init
loop-count-init g c = record {
  room = refl;
  kept = λ e may. kept_none g.C.Cell.tells g.C.Cell.state g.O.Origin.offers c.args.store.now c.args.tab e c.args.pass.now g.K.Sink.tells (g.K.Sink.taken c.args.out.now) (g.F.Fetcher.left c.args.fetcher.now) may;
  follows = writing_none g.C.Cell.tells g.C.Cell.state g.O.Origin.offers c.args.store.now c.args.tab c.args.pass.now c.requires.takes.1.writes.rests.own;
  starts = refl;
  fetch = refl;
  sink = refl;
  station = refl;
}

pub returns-in_default-clause-kept : goal.returns-in_default-clause-kept
returns-in_default-clause-kept g c e may = keeps_some g.C.Cell.tells g.C.Cell.state g.O.Origin.offers c.args.store.now c.args.tab e c.args.pass.now c.loop-count.pass g.K.Sink.tells (g.K.Sink.taken c.args.out.now) (g.K.Sink.taken c.loop-count.out) (g.F.Fetcher.left c.args.fetcher.now) (g.F.Fetcher.left c.loop-count.fetcher) (g.F.Fetcher.left c.next.new.self) (c.loop-count.invariant.kept e may)

pub returns-then-count-eq0-clause-kept : goal.returns-then-count-eq0-clause-kept
returns-then-count-eq0-clause-kept g c e may = let i = c.loop-count.invariant in
    keeps_whole g.C.Cell.tells g.C.Cell.state g.O.Origin.offers c.args.store.now c.args.tab e c.args.pass.now c.loop-count.pass g.K.Sink.tells (g.K.Sink.taken c.args.out.now) (g.K.Sink.taken c.loop-count.out) (g.F.Fetcher.left c.args.fetcher.now) (g.F.Fetcher.left c.loop-count.fetcher) (g.F.Fetcher.left c.next.new.self) (i.kept e may) (c.in-Ok.ensures.end c.if-count-eq0.true (let same = i.room in let some = c.requires.some in omega arith))

pub returns-in-Err-clause-kept : goal.returns-in-Err-clause-kept
returns-in-Err-clause-kept g c e may = keeps_part g.C.Cell.tells g.C.Cell.state g.O.Origin.offers c.args.store.now c.args.tab e c.args.pass.now c.loop-count.pass g.K.Sink.tells (g.K.Sink.taken c.args.out.now) (g.K.Sink.taken c.loop-count.out) (g.K.Sink.taken c.write_all.new.out) (g.F.Fetcher.left c.args.fetcher.now) (g.F.Fetcher.left c.loop-count.fetcher) (take c.in-Ok.count c.next.new.buf) (g.F.Fetcher.left c.next.new.self) (g.F.Fetcher.left c.next.new.self) (c.loop-count.invariant.kept e may) c.in-Ok.ensures.given c.in-Err.ensures.prefix

pub append_all-requires : goal.append_all-requires
append_all-requires g c = let e = c.requires.takes.0 in let h = c.loop-count.invariant.kept e c.requires.takes.1 in (_, (may_append_next g.C.Cell.tells g.C.Cell.state g.O.Origin.offers c.args.store.now c.args.tab e c.args.pass.now c.loop-count.pass g.K.Sink.tells (g.K.Sink.taken c.args.out.now) (g.K.Sink.taken c.loop-count.out) (g.F.Fetcher.left c.args.fetcher.now) (g.F.Fetcher.left c.loop-count.fetcher) (take c.in-Ok.count c.next.new.buf) (g.F.Fetcher.left c.next.new.self) h c.in-Ok.ensures.given))

pub returns-in-Err-append_all-clause-kept : goal.returns-in-Err-append_all-clause-kept
returns-in-Err-append_all-clause-kept g c e may = let h = c.loop-count.invariant.kept e may in
    keeps_no_more g.C.Cell.tells g.C.Cell.state g.O.Origin.offers c.args.store.now c.args.tab e c.args.pass.now c.loop-count.pass c.append_all.new.pass g.K.Sink.tells (g.K.Sink.taken c.args.out.now) (g.K.Sink.taken c.loop-count.out) (g.K.Sink.taken c.write_all.new.out) (g.F.Fetcher.left c.args.fetcher.now) (g.F.Fetcher.left c.loop-count.fetcher) (take c.in-Ok.count c.next.new.buf) (g.F.Fetcher.left c.next.new.self) c.in-Err-append_all.fault h c.in-Ok.ensures.given c.in_default-write_all.ensures.all (c.in-Err-append_all.ensures.err _ (may_append_next g.C.Cell.tells g.C.Cell.state g.O.Origin.offers c.args.store.now c.args.tab e c.args.pass.now c.loop-count.pass g.K.Sink.tells (g.K.Sink.taken c.args.out.now) (g.K.Sink.taken c.loop-count.out) (g.F.Fetcher.left c.args.fetcher.now) (g.F.Fetcher.left c.loop-count.fetcher) (take c.in-Ok.count c.next.new.buf) (g.F.Fetcher.left c.next.new.self) h c.in-Ok.ensures.given))

pub loop-count-preserved : goal.loop-count-preserved
loop-count-preserved g c = let i = c.loop-count.invariant in record {
  room = c.next.auto.buf ∙ i.room;
  kept = λ e may. let h = i.kept e may in
      kept_on g.C.Cell.tells g.C.Cell.state g.O.Origin.offers c.args.store.now c.args.tab e c.args.pass.now c.loop-count.pass c.append_all.new.pass g.K.Sink.tells (g.K.Sink.taken c.args.out.now) (g.K.Sink.taken c.loop-count.out) (g.K.Sink.taken c.write_all.new.out) (g.F.Fetcher.left c.args.fetcher.now) (g.F.Fetcher.left c.loop-count.fetcher) (take c.in-Ok.count c.next.new.buf) (g.F.Fetcher.left c.next.new.self) h c.in-Ok.ensures.given c.in_default-write_all.ensures.all (c.in_default-append_all.ensures.ok _ (may_append_next g.C.Cell.tells g.C.Cell.state g.O.Origin.offers c.args.store.now c.args.tab e c.args.pass.now c.loop-count.pass g.K.Sink.tells (g.K.Sink.taken c.args.out.now) (g.K.Sink.taken c.loop-count.out) (g.F.Fetcher.left c.args.fetcher.now) (g.F.Fetcher.left c.loop-count.fetcher) (take c.in-Ok.count c.next.new.buf) (g.F.Fetcher.left c.next.new.self) h c.in-Ok.ensures.given));
  follows = writing_on g.C.Cell.tells g.C.Cell.state g.O.Origin.offers c.args.store.now c.args.tab c.args.pass.now c.loop-count.pass c.append_all.new.pass i.follows c.append_all.ensures.others;
  starts = c.in-Ok.ensures.starts ∙ i.starts;
  fetch = c.in-Ok.ensures.unfailed ∙ i.fetch;
  sink = c.in_default-write_all.ensures.unfailed ∙ i.sink;
  station = c.in_default-append_all.ensures.unfailed (λ w. cc) ∙ i.station;
}

pub returns-in_default-clause-others : goal.returns-in_default-clause-others
returns-in_default-clause-others g c = c.loop-count.invariant.follows

pub returns-then-count-eq0-clause-others : goal.returns-then-count-eq0-clause-others
returns-then-count-eq0-clause-others g c = c.loop-count.invariant.follows

pub returns-in-Err-clause-others : goal.returns-in-Err-clause-others
returns-in-Err-clause-others g c = c.loop-count.invariant.follows

pub returns-in-Err-append_all-clause-others : goal.returns-in-Err-append_all-clause-others
returns-in-Err-append_all-clause-others g c = writing_on g.C.Cell.tells g.C.Cell.state g.O.Origin.offers c.args.store.now c.args.tab c.args.pass.now c.loop-count.pass c.append_all.new.pass c.loop-count.invariant.follows c.append_all.ensures.others

pub returns-in-Err-append_all-clause-station : goal.returns-in-Err-append_all-clause-station
returns-in-Err-append_all-clause-station g c = subst (λ (z : ℕ). StationAtWrite c.in-Err-append_all.fault z (g.St.Station.faults c.append_all.new.station)) c.loop-count.invariant.station (at_write c.in-Err-append_all.fault _ _ c.in-Err-append_all.ensures.unfailed c.in-Err-append_all.ensures.failed)

pub returns-in-Err-append_all-clause-fetch : goal.returns-in-Err-append_all-clause-fetch
returns-in-Err-append_all-clause-fetch g c = c.in-Ok.ensures.unfailed ∙ c.loop-count.invariant.fetch

pub returns-in-Err-append_all-clause-sink : goal.returns-in-Err-append_all-clause-sink
returns-in-Err-append_all-clause-sink g c = c.in_default-write_all.ensures.unfailed ∙ c.loop-count.invariant.sink

pub returns-in-Err-append_all-clause-starts : goal.returns-in-Err-append_all-clause-starts
returns-in-Err-append_all-clause-starts g c = c.in-Ok.ensures.starts ∙ c.loop-count.invariant.starts

pub returns-in_default-clause-length : goal.returns-in_default-clause-length
returns-in_default-clause-length g c = c.next.auto.buf ∙ c.loop-count.invariant.room

pub returns-then-count-eq0-clause-length : goal.returns-then-count-eq0-clause-length
returns-then-count-eq0-clause-length g c = c.next.auto.buf ∙ c.loop-count.invariant.room

pub returns-in-Err-clause-length : goal.returns-in-Err-clause-length
returns-in-Err-clause-length g c = c.next.auto.buf ∙ c.loop-count.invariant.room

pub returns-in-Err-append_all-clause-length : goal.returns-in-Err-append_all-clause-length
returns-in-Err-append_all-clause-length g c = c.next.auto.buf ∙ c.loop-count.invariant.room
