use Rattle.std.proofs.Common.{arith, inl, inr, subst, ℕ}
use Rattle.store_rule.specs.Passes.{view}
use Rattle.collapse.specs.Faults.{SinkAt}
use Rattle.collapse.specs.declared.answer.Why.{Why}
use Rattle.collapse.proofs.Faults.{past}
use Rattle.collapse.proofs.Going.{freed_tab, inner_beside, inner_stays, reader_on, reader_tab}
use Rattle.collapse.proofs.ReadEntries.{fails_to_read, finds_halted, finds_other_late, hits, reads_in_vain, turns_out, unsent, waits}
use Rattle.collapse.proofs.reading.read_entry.Goals as goal

pub close_entry-requires : goal.close_entry-requires
close_entry-requires g c = let still = c.follow-followed.ensures.reads in
    c.reading_tabs_may_go_on.ensures.close _ _ _ still.0 still.1 (inner_stays (view c.args.pass.now) (view c.follow-followed.new.pass) c.follow-followed.ensures.inner c.requires.inner)

pub fetch_past-requires : goal.fetch_past-requires
fetch_past-requires g c = let same = c.follow-followed.ensures.length in let some = c.requires.some in omega arith

pub returns-in-End-clause-forwards : goal.returns-in-End-clause-forwards
returns-in-End-clause-forwards g c p rounds opened many = hits g.C.Cell.tells g.C.Cell.state g.O.Origin.offers c.args.store.now c.args.tab c.args.offer c.args.url.now c.args.most p c.args.pass.now c.follow-followed.new.pass c.close_entry.new.pass rounds c.args.version c.args.looks opened many c.close_entry.ensures.parted (g.F.Fetcher.body c.args.fetcher.now c.args.url.now c.args.offer) g.K.Sink.tells (g.K.Sink.taken c.args.out.now) (g.K.Sink.taken c.follow-followed.new.out) (g.F.Fetcher.starts c.args.fetcher.now) (c.in-End.ensures.went _ opened.last.reads)

pub returns-in-End-clause-station : goal.returns-in-End-clause-station
returns-in-End-clause-station g c = c.in-End.ensures.station

pub returns-in-End-clause-sink : goal.returns-in-End-clause-sink
returns-in-End-clause-sink g c = c.in-End.ensures.sink

pub returns-in-Halted-clause-forwards : goal.returns-in-Halted-clause-forwards
returns-in-Halted-clause-forwards g c p rounds opened many = finds_halted g.C.Cell.tells g.C.Cell.state g.O.Origin.offers c.args.store.now c.args.tab c.args.offer c.args.url.now c.args.most p c.args.pass.now c.follow-followed.new.pass c.close_entry.new.pass rounds c.args.version c.args.looks opened many c.close_entry.ensures.parted (g.F.Fetcher.body c.args.fetcher.now c.args.url.now c.args.offer) g.K.Sink.tells (g.K.Sink.taken c.args.out.now) (g.K.Sink.taken c.follow-followed.new.out) (g.F.Fetcher.starts c.args.fetcher.now) (c.in-Halted.ensures.went _ opened.last.reads)

pub returns-in-Halted-clause-station : goal.returns-in-Halted-clause-station
returns-in-Halted-clause-station g c = c.in-Halted.ensures.station

pub returns-in-Halted-clause-sink : goal.returns-in-Halted-clause-sink
returns-in-Halted-clause-sink g c = c.in-Halted.ensures.sink

pub returns-in-Fault-clause-forwards : goal.returns-in-Fault-clause-forwards
returns-in-Fault-clause-forwards g c p rounds opened many = fails_to_read g.C.Cell.tells g.C.Cell.state g.O.Origin.offers c.args.store.now c.args.tab c.args.offer c.args.url.now c.args.most p c.args.pass.now c.follow-followed.new.pass c.close_entry.new.pass rounds c.args.version c.args.looks opened many c.close_entry.ensures.parted (g.F.Fetcher.body c.args.fetcher.now c.args.url.now c.args.offer) g.K.Sink.tells (g.K.Sink.taken c.args.out.now) (g.K.Sink.taken c.follow-followed.new.out) (g.F.Fetcher.starts c.args.fetcher.now) (c.in-Fault.ensures.went _ opened.last.reads)

pub returns-in-Fault-clause-station : goal.returns-in-Fault-clause-station
returns-in-Fault-clause-station g c = c.in-Fault.ensures.station

pub returns-in-Fault-clause-sink : goal.returns-in-Fault-clause-sink
returns-in-Fault-clause-sink g c = c.in-Fault.ensures.sink

pub returns-then-is_late-clause-forwards : goal.returns-then-is_late-clause-forwards
returns-then-is_late-clause-forwards g c p rounds opened many = finds_other_late g.C.Cell.tells g.C.Cell.state g.O.Origin.offers c.args.store.now c.args.tab c.args.offer c.args.url.now c.args.most p c.args.pass.now c.follow-followed.new.pass c.close_entry.new.pass rounds c.args.version c.args.looks opened many c.close_entry.ensures.parted (g.F.Fetcher.body c.args.fetcher.now c.args.url.now c.args.offer) g.K.Sink.tells (g.K.Sink.taken c.args.out.now) (g.K.Sink.taken c.follow-followed.new.out) (g.F.Fetcher.starts c.args.fetcher.now) c.in-OtherUrl.is_late c.if-is_late.true (c.in-OtherUrl.ensures.went _ opened.last.reads)

pub returns-then-is_late-clause-station : goal.returns-then-is_late-clause-station
returns-then-is_late-clause-station g c = c.in-OtherUrl.ensures.station

pub returns-then-is_late-clause-sink : goal.returns-then-is_late-clause-sink
returns-then-is_late-clause-sink g c = c.in-OtherUrl.ensures.sink

pub returns-in-Waited-clause-forwards : goal.returns-in-Waited-clause-forwards
returns-in-Waited-clause-forwards g c p rounds opened many = waits g.C.Cell.tells g.C.Cell.state g.O.Origin.offers c.args.store.now c.args.tab c.args.offer c.args.url.now c.args.most p c.args.pass.now c.follow-followed.new.pass c.close_entry.new.pass rounds c.args.version c.args.looks opened many c.close_entry.ensures.parted (g.F.Fetcher.body c.args.fetcher.now c.args.url.now c.args.offer) g.K.Sink.tells (g.K.Sink.taken c.args.out.now) (g.K.Sink.taken c.follow-followed.new.out) (g.F.Fetcher.starts c.args.fetcher.now) c.in-Waited.looks (c.in-Waited.ensures.went _ opened.last.reads)

pub returns-in-Waited-clause-station : goal.returns-in-Waited-clause-station
returns-in-Waited-clause-station g c = c.in-Waited.ensures.station

pub returns-in-Waited-clause-sink : goal.returns-in-Waited-clause-sink
returns-in-Waited-clause-sink g c = c.in-Waited.ensures.sink

pub returns-in-SinkFault-clause-forwards : goal.returns-in-SinkFault-clause-forwards
returns-in-SinkFault-clause-forwards g c p rounds opened many = inr (reads_in_vain g.C.Cell.tells g.C.Cell.state g.O.Origin.offers c.args.store.now c.args.tab c.args.offer c.args.url.now c.args.most p c.args.pass.now c.follow-followed.new.pass c.close_entry.new.pass rounds c.args.version c.args.looks opened many c.close_entry.ensures.parted (g.F.Fetcher.body c.args.fetcher.now c.args.url.now c.args.offer) g.K.Sink.tells (g.K.Sink.taken c.args.out.now) (g.K.Sink.taken c.follow-followed.new.out) (g.F.Fetcher.starts c.args.fetcher.now) (c.in-SinkFault.ensures.went _ opened.last.reads))

pub returns-in-SinkFault-clause-station : goal.returns-in-SinkFault-clause-station
returns-in-SinkFault-clause-station g c = inl c.in-SinkFault.ensures.station

pub returns-in-SinkFault-clause-sink : goal.returns-in-SinkFault-clause-sink
returns-in-SinkFault-clause-sink g c = c.in-SinkFault.ensures.sink

pub returns-else-is_late-clause-forwards : goal.returns-else-is_late-clause-forwards
returns-else-is_late-clause-forwards g c p rounds opened many = let other = c.in-OtherUrl.ensures.went _ opened.last.reads in
    c.fetch_past.ensures.forwards c.args.store.now c.args.tab p c.close_entry.new.pass c.args.most (g.K.Sink.taken c.args.out.now) (turns_out g.C.Cell.tells g.C.Cell.state g.O.Origin.offers c.args.store.now c.args.tab c.args.offer c.args.url.now c.args.most p c.args.pass.now c.follow-followed.new.pass c.close_entry.new.pass rounds c.args.version c.args.looks opened many c.close_entry.ensures.parted (g.F.Fetcher.body c.args.fetcher.now c.args.url.now c.args.offer) g.K.Sink.tells (g.K.Sink.taken c.args.out.now) (g.K.Sink.taken c.follow-followed.new.out) (g.F.Fetcher.starts c.args.fetcher.now) c.in-OtherUrl.is_late c.if-is_late.false other) (unsent g.C.Cell.tells g.C.Cell.state g.O.Origin.offers c.args.store.now c.args.tab c.args.offer c.args.url.now c.args.most p c.args.pass.now c.follow-followed.new.pass c.close_entry.new.pass rounds c.args.version c.args.looks opened many c.close_entry.ensures.parted (g.F.Fetcher.body c.args.fetcher.now c.args.url.now c.args.offer) g.K.Sink.tells (g.K.Sink.taken c.args.out.now) (g.K.Sink.taken c.follow-followed.new.out) (g.F.Fetcher.starts c.args.fetcher.now) c.in-OtherUrl.is_late c.if-is_late.false other)

pub returns-else-is_late-clause-station : goal.returns-else-is_late-clause-station
returns-else-is_late-clause-station g c = past Why.OtherUrl c.fetch_past.result _ _ c.fetch_past.ensures.past c.in-OtherUrl.ensures.station (inl c.in-OtherUrl.ensures.station)

pub returns-else-is_late-clause-fetch : goal.returns-else-is_late-clause-fetch
returns-else-is_late-clause-fetch g c = c.fetch_past.ensures.fetch

pub returns-else-is_late-clause-sink : goal.returns-else-is_late-clause-sink
returns-else-is_late-clause-sink g c = subst (λ (z : ℕ). SinkAt c.fetch_past.result z (g.K.Sink.faults c.fetch_past.new.out)) c.in-OtherUrl.ensures.sink c.fetch_past.ensures.sink

pub returns-in-End-clause-free : goal.returns-in-End-clause-free
returns-in-End-clause-free g c = freed_tab c.args.tab (view c.follow-followed.new.pass) (view c.close_entry.new.pass) c.close_entry.ensures.free

pub returns-in-End-clause-inner : goal.returns-in-End-clause-inner
returns-in-End-clause-inner g c = inner_beside c.args.tab (view c.follow-followed.new.pass) (view c.close_entry.new.pass) _ c.requires.reads.1.below c.close_entry.ensures.free (inner_stays (view c.args.pass.now) (view c.follow-followed.new.pass) c.follow-followed.ensures.inner c.requires.inner)

pub returns-in-End-clause-others : goal.returns-in-End-clause-others
returns-in-End-clause-others g c = reader_on g.C.Cell.tells g.C.Cell.state g.O.Origin.offers c.args.store.now c.args.tab c.args.pass.now c.follow-followed.new.pass c.close_entry.new.pass c.follow-followed.ensures.others (reader_tab g.C.Cell.tells g.C.Cell.state g.O.Origin.offers c.args.store.now c.args.tab c.follow-followed.new.pass c.close_entry.new.pass c.close_entry.ensures.others)

pub returns-in-Halted-clause-free : goal.returns-in-Halted-clause-free
returns-in-Halted-clause-free g c = freed_tab c.args.tab (view c.follow-followed.new.pass) (view c.close_entry.new.pass) c.close_entry.ensures.free

pub returns-in-Halted-clause-inner : goal.returns-in-Halted-clause-inner
returns-in-Halted-clause-inner g c = inner_beside c.args.tab (view c.follow-followed.new.pass) (view c.close_entry.new.pass) _ c.requires.reads.1.below c.close_entry.ensures.free (inner_stays (view c.args.pass.now) (view c.follow-followed.new.pass) c.follow-followed.ensures.inner c.requires.inner)

pub returns-in-Halted-clause-others : goal.returns-in-Halted-clause-others
returns-in-Halted-clause-others g c = reader_on g.C.Cell.tells g.C.Cell.state g.O.Origin.offers c.args.store.now c.args.tab c.args.pass.now c.follow-followed.new.pass c.close_entry.new.pass c.follow-followed.ensures.others (reader_tab g.C.Cell.tells g.C.Cell.state g.O.Origin.offers c.args.store.now c.args.tab c.follow-followed.new.pass c.close_entry.new.pass c.close_entry.ensures.others)

pub returns-in-Fault-clause-free : goal.returns-in-Fault-clause-free
returns-in-Fault-clause-free g c = freed_tab c.args.tab (view c.follow-followed.new.pass) (view c.close_entry.new.pass) c.close_entry.ensures.free

pub returns-in-Fault-clause-inner : goal.returns-in-Fault-clause-inner
returns-in-Fault-clause-inner g c = inner_beside c.args.tab (view c.follow-followed.new.pass) (view c.close_entry.new.pass) _ c.requires.reads.1.below c.close_entry.ensures.free (inner_stays (view c.args.pass.now) (view c.follow-followed.new.pass) c.follow-followed.ensures.inner c.requires.inner)

pub returns-in-Fault-clause-others : goal.returns-in-Fault-clause-others
returns-in-Fault-clause-others g c = reader_on g.C.Cell.tells g.C.Cell.state g.O.Origin.offers c.args.store.now c.args.tab c.args.pass.now c.follow-followed.new.pass c.close_entry.new.pass c.follow-followed.ensures.others (reader_tab g.C.Cell.tells g.C.Cell.state g.O.Origin.offers c.args.store.now c.args.tab c.follow-followed.new.pass c.close_entry.new.pass c.close_entry.ensures.others)

pub returns-then-is_late-clause-free : goal.returns-then-is_late-clause-free
returns-then-is_late-clause-free g c = freed_tab c.args.tab (view c.follow-followed.new.pass) (view c.close_entry.new.pass) c.close_entry.ensures.free

pub returns-then-is_late-clause-inner : goal.returns-then-is_late-clause-inner
returns-then-is_late-clause-inner g c = inner_beside c.args.tab (view c.follow-followed.new.pass) (view c.close_entry.new.pass) _ c.requires.reads.1.below c.close_entry.ensures.free (inner_stays (view c.args.pass.now) (view c.follow-followed.new.pass) c.follow-followed.ensures.inner c.requires.inner)

pub returns-then-is_late-clause-others : goal.returns-then-is_late-clause-others
returns-then-is_late-clause-others g c = reader_on g.C.Cell.tells g.C.Cell.state g.O.Origin.offers c.args.store.now c.args.tab c.args.pass.now c.follow-followed.new.pass c.close_entry.new.pass c.follow-followed.ensures.others (reader_tab g.C.Cell.tells g.C.Cell.state g.O.Origin.offers c.args.store.now c.args.tab c.follow-followed.new.pass c.close_entry.new.pass c.close_entry.ensures.others)

pub returns-else-is_late-clause-free : goal.returns-else-is_late-clause-free
returns-else-is_late-clause-free g c = freed_tab c.args.tab (view c.follow-followed.new.pass) (view c.close_entry.new.pass) c.close_entry.ensures.free

pub returns-else-is_late-clause-inner : goal.returns-else-is_late-clause-inner
returns-else-is_late-clause-inner g c = inner_beside c.args.tab (view c.follow-followed.new.pass) (view c.close_entry.new.pass) _ c.requires.reads.1.below c.close_entry.ensures.free (inner_stays (view c.args.pass.now) (view c.follow-followed.new.pass) c.follow-followed.ensures.inner c.requires.inner)

pub returns-else-is_late-clause-others : goal.returns-else-is_late-clause-others
returns-else-is_late-clause-others g c = reader_on g.C.Cell.tells g.C.Cell.state g.O.Origin.offers c.args.store.now c.args.tab c.args.pass.now c.follow-followed.new.pass c.close_entry.new.pass c.follow-followed.ensures.others (reader_tab g.C.Cell.tells g.C.Cell.state g.O.Origin.offers c.args.store.now c.args.tab c.follow-followed.new.pass c.close_entry.new.pass c.close_entry.ensures.others)

pub returns-in-Waited-clause-free : goal.returns-in-Waited-clause-free
returns-in-Waited-clause-free g c = freed_tab c.args.tab (view c.follow-followed.new.pass) (view c.close_entry.new.pass) c.close_entry.ensures.free

pub returns-in-Waited-clause-inner : goal.returns-in-Waited-clause-inner
returns-in-Waited-clause-inner g c = inner_beside c.args.tab (view c.follow-followed.new.pass) (view c.close_entry.new.pass) _ c.requires.reads.1.below c.close_entry.ensures.free (inner_stays (view c.args.pass.now) (view c.follow-followed.new.pass) c.follow-followed.ensures.inner c.requires.inner)

pub returns-in-Waited-clause-others : goal.returns-in-Waited-clause-others
returns-in-Waited-clause-others g c = reader_on g.C.Cell.tells g.C.Cell.state g.O.Origin.offers c.args.store.now c.args.tab c.args.pass.now c.follow-followed.new.pass c.close_entry.new.pass c.follow-followed.ensures.others (reader_tab g.C.Cell.tells g.C.Cell.state g.O.Origin.offers c.args.store.now c.args.tab c.follow-followed.new.pass c.close_entry.new.pass c.close_entry.ensures.others)

pub returns-in-SinkFault-clause-free : goal.returns-in-SinkFault-clause-free
returns-in-SinkFault-clause-free g c = freed_tab c.args.tab (view c.follow-followed.new.pass) (view c.close_entry.new.pass) c.close_entry.ensures.free

pub returns-in-SinkFault-clause-inner : goal.returns-in-SinkFault-clause-inner
returns-in-SinkFault-clause-inner g c = inner_beside c.args.tab (view c.follow-followed.new.pass) (view c.close_entry.new.pass) _ c.requires.reads.1.below c.close_entry.ensures.free (inner_stays (view c.args.pass.now) (view c.follow-followed.new.pass) c.follow-followed.ensures.inner c.requires.inner)

pub returns-in-SinkFault-clause-others : goal.returns-in-SinkFault-clause-others
returns-in-SinkFault-clause-others g c = reader_on g.C.Cell.tells g.C.Cell.state g.O.Origin.offers c.args.store.now c.args.tab c.args.pass.now c.follow-followed.new.pass c.close_entry.new.pass c.follow-followed.ensures.others (reader_tab g.C.Cell.tells g.C.Cell.state g.O.Origin.offers c.args.store.now c.args.tab c.follow-followed.new.pass c.close_entry.new.pass c.close_entry.ensures.others)
