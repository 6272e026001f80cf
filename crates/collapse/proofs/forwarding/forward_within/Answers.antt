use Rattle.std.proofs.Common.{inl, refl, sym}
use Rattle.store_rule.specs.Passes.{basis}
use Rattle.collapse.specs.declared.answer.Why.TheVariants.{Begin}
use Rattle.collapse.proofs.Asks.{few_of}
use Rattle.collapse.proofs.Cases.{direct, fault, fetch_fault, fetched, halted, hit, sink_fault, waited}
use Rattle.collapse.proofs.Faults.{past}
use Rattle.collapse.proofs.Going.{forward_on, of_reader, of_writing}
use Rattle.collapse.proofs.Sends.{sends_none}
use Rattle.collapse.proofs.Stored.{stored_of}
use Rattle.collapse.proofs.forwarding.forward_within.Goals as goal

pub ask-requires-clause-may : goal.ask-requires-clause-may
ask-requires-clause-may g c = c.requires.begins

pub read_entry-requires-clause-reads : goal.read_entry-requires-clause-reads
read_entry-requires-clause-reads g c = (_, c.in-Open.ensures.asked.0.last.reads)

pub read_entry-requires-clause-inner : goal.read_entry-requires-clause-inner
read_entry-requires-clause-inner g c = c.in-Open.ensures.inner

pub read_entry-requires-clause-room : goal.read_entry-requires-clause-room
read_entry-requires-clause-room g c = c.requires.enough

pub read_entry-requires-clause-some : goal.read_entry-requires-clause-some
read_entry-requires-clause-some g c = c.requires.some

pub read_entry-requires-clause-fewer : goal.read_entry-requires-clause-fewer
read_entry-requires-clause-fewer g c = c.in-Open.ensures.asked.1

pub write_entry-requires-clause-writes : goal.write_entry-requires-clause-writes
write_entry-requires-clause-writes g c = c.in-Begun.ensures.asked.0.last.began.writes

pub write_entry-requires-clause-body : goal.write_entry-requires-clause-body
write_entry-requires-clause-body g c = c.requires.body_is

pub write_entry-requires-clause-some : goal.write_entry-requires-clause-some
write_entry-requires-clause-some g c = c.requires.some

pub fetch_past-requires : goal.fetch_past-requires
fetch_past-requires g c = c.requires.some

pub returns-in-InVain-clause-waited : goal.returns-in-InVain-clause-waited
returns-in-InVain-clause-waited g c = let a = c.in-InVain.ensures.asked in record { how = inl record { rounds = a.0.rounds; in_vain = a.0.in_vain; times_are = sym a.0.many; sent = refl }; all = a.1; unstarted = refl }

pub returns-in-InVain-clause-stored : goal.returns-in-InVain-clause-stored
returns-in-InVain-clause-stored g c told shown holds = inl refl

pub returns-in-InVain-clause-free : goal.returns-in-InVain-clause-free
returns-in-InVain-clause-free g c = c.in-InVain.ensures.free

pub returns-in-InVain-clause-inner : goal.returns-in-InVain-clause-inner
returns-in-InVain-clause-inner g c = c.in-InVain.ensures.inner

pub returns-in-InVain-clause-others : goal.returns-in-InVain-clause-others
returns-in-InVain-clause-others g c = c.in-InVain.ensures.others

pub returns-in-Open-clause-hit : goal.returns-in-Open-clause-hit
returns-in-Open-clause-hit g c = hit g.C.Cell.tells g.C.Cell.state g.O.Origin.offers c.args.store.now 7 c.args.offer c.args.url.now c.args.pass.now c.read_entry.new.pass (g.F.Fetcher.body c.args.fetcher.now c.args.url.now c.args.offer) g.K.Sink.tells (g.K.Sink.taken c.args.out.now) (g.K.Sink.taken c.read_entry.new.out) (g.F.Fetcher.starts c.args.fetcher.now) (g.F.Fetcher.starts c.read_entry.new.fetcher) c.args.most c.read_entry.result (let a = c.in-Open.ensures.asked.0 in c.read_entry.ensures.forwards c.args.pass.now a.rounds record { middle = a.middle; in_vain = a.in_vain; last = a.last } a.many)

pub returns-in-Open-clause-fetched : goal.returns-in-Open-clause-fetched
returns-in-Open-clause-fetched g c = fetched g.C.Cell.tells g.C.Cell.state g.O.Origin.offers c.args.store.now 7 c.args.offer c.args.url.now c.args.pass.now c.read_entry.new.pass (g.F.Fetcher.body c.args.fetcher.now c.args.url.now c.args.offer) g.K.Sink.tells (g.K.Sink.taken c.args.out.now) (g.K.Sink.taken c.read_entry.new.out) (g.F.Fetcher.starts c.args.fetcher.now) (g.F.Fetcher.starts c.read_entry.new.fetcher) c.args.most c.read_entry.result (let a = c.in-Open.ensures.asked.0 in c.read_entry.ensures.forwards c.args.pass.now a.rounds record { middle = a.middle; in_vain = a.in_vain; last = a.last } a.many)

pub returns-in-Open-clause-direct : goal.returns-in-Open-clause-direct
returns-in-Open-clause-direct g c = direct g.C.Cell.tells g.C.Cell.state g.O.Origin.offers c.args.store.now 7 c.args.offer c.args.url.now c.args.pass.now c.read_entry.new.pass (g.F.Fetcher.body c.args.fetcher.now c.args.url.now c.args.offer) g.K.Sink.tells (g.K.Sink.taken c.args.out.now) (g.K.Sink.taken c.read_entry.new.out) (g.F.Fetcher.starts c.args.fetcher.now) (g.F.Fetcher.starts c.read_entry.new.fetcher) c.args.most c.read_entry.result (let a = c.in-Open.ensures.asked.0 in c.read_entry.ensures.forwards c.args.pass.now a.rounds record { middle = a.middle; in_vain = a.in_vain; last = a.last } a.many)

pub returns-in-Open-clause-halted : goal.returns-in-Open-clause-halted
returns-in-Open-clause-halted g c = halted g.C.Cell.tells g.C.Cell.state g.O.Origin.offers c.args.store.now 7 c.args.offer c.args.url.now c.args.pass.now c.read_entry.new.pass (g.F.Fetcher.body c.args.fetcher.now c.args.url.now c.args.offer) g.K.Sink.tells (g.K.Sink.taken c.args.out.now) (g.K.Sink.taken c.read_entry.new.out) (g.F.Fetcher.starts c.args.fetcher.now) (g.F.Fetcher.starts c.read_entry.new.fetcher) c.args.most c.read_entry.result (let a = c.in-Open.ensures.asked.0 in c.read_entry.ensures.forwards c.args.pass.now a.rounds record { middle = a.middle; in_vain = a.in_vain; last = a.last } a.many)

pub returns-in-Open-clause-fault : goal.returns-in-Open-clause-fault
returns-in-Open-clause-fault g c = fault g.C.Cell.tells g.C.Cell.state g.O.Origin.offers c.args.store.now 7 c.args.offer c.args.url.now c.args.pass.now c.read_entry.new.pass (g.F.Fetcher.body c.args.fetcher.now c.args.url.now c.args.offer) g.K.Sink.tells (g.K.Sink.taken c.args.out.now) (g.K.Sink.taken c.read_entry.new.out) (g.F.Fetcher.starts c.args.fetcher.now) (g.F.Fetcher.starts c.read_entry.new.fetcher) c.args.most c.read_entry.result (let a = c.in-Open.ensures.asked.0 in c.read_entry.ensures.forwards c.args.pass.now a.rounds record { middle = a.middle; in_vain = a.in_vain; last = a.last } a.many)

pub returns-in-Open-clause-waited : goal.returns-in-Open-clause-waited
returns-in-Open-clause-waited g c = waited g.C.Cell.tells g.C.Cell.state g.O.Origin.offers c.args.store.now 7 c.args.offer c.args.url.now c.args.pass.now c.read_entry.new.pass (g.F.Fetcher.body c.args.fetcher.now c.args.url.now c.args.offer) g.K.Sink.tells (g.K.Sink.taken c.args.out.now) (g.K.Sink.taken c.read_entry.new.out) (g.F.Fetcher.starts c.args.fetcher.now) (g.F.Fetcher.starts c.read_entry.new.fetcher) c.args.most c.read_entry.result (let a = c.in-Open.ensures.asked.0 in c.read_entry.ensures.forwards c.args.pass.now a.rounds record { middle = a.middle; in_vain = a.in_vain; last = a.last } a.many)

pub returns-in-Open-clause-fetch_fault : goal.returns-in-Open-clause-fetch_fault
returns-in-Open-clause-fetch_fault g c = fetch_fault g.C.Cell.tells g.C.Cell.state g.O.Origin.offers c.args.store.now 7 c.args.offer c.args.url.now c.args.pass.now c.read_entry.new.pass (g.F.Fetcher.body c.args.fetcher.now c.args.url.now c.args.offer) g.K.Sink.tells (g.K.Sink.taken c.args.out.now) (g.K.Sink.taken c.read_entry.new.out) (g.F.Fetcher.starts c.args.fetcher.now) (g.F.Fetcher.starts c.read_entry.new.fetcher) c.args.most c.read_entry.result (let a = c.in-Open.ensures.asked.0 in c.read_entry.ensures.forwards c.args.pass.now a.rounds record { middle = a.middle; in_vain = a.in_vain; last = a.last } a.many)

pub returns-in-Open-clause-sink_fault : goal.returns-in-Open-clause-sink_fault
returns-in-Open-clause-sink_fault g c = sink_fault g.C.Cell.tells g.C.Cell.state g.O.Origin.offers c.args.store.now 7 c.args.offer c.args.url.now c.args.pass.now c.read_entry.new.pass (g.F.Fetcher.body c.args.fetcher.now c.args.url.now c.args.offer) g.K.Sink.tells (g.K.Sink.taken c.args.out.now) (g.K.Sink.taken c.read_entry.new.out) (g.F.Fetcher.starts c.args.fetcher.now) (g.F.Fetcher.starts c.read_entry.new.fetcher) c.args.most c.read_entry.result (let a = c.in-Open.ensures.asked.0 in c.read_entry.ensures.forwards c.args.pass.now a.rounds record { middle = a.middle; in_vain = a.in_vain; last = a.last } a.many)

pub returns-in-Open-clause-stored : goal.returns-in-Open-clause-stored
returns-in-Open-clause-stored g c told shown holds = stored_of g.C.Cell.tells g.C.Cell.state g.O.Origin.offers c.args.store.now 7 c.args.offer c.args.url.now c.args.most told holds c.args.pass.now c.read_entry.new.pass (g.F.Fetcher.body c.args.fetcher.now c.args.url.now c.args.offer) g.K.Sink.tells shown (g.K.Sink.taken c.args.out.now) (g.K.Sink.taken c.read_entry.new.out) (g.F.Fetcher.starts c.args.fetcher.now) (g.F.Fetcher.starts c.read_entry.new.fetcher) (λ a o n u b response inside. c.bodies_are_given_from_the_front.ensures.front (basis g.C.Cell.tells g.C.Cell.state g.O.Origin.offers c.args.store.now) a o n u b c.slots_are_small.ensures response inside) (λ a o u b response. c.bodies_are_given_from_the_front.ensures.whole (basis g.C.Cell.tells g.C.Cell.state g.O.Origin.offers c.args.store.now) a o u b c.slots_are_small.ensures response) c.read_entry.result (let a = c.in-Open.ensures.asked.0 in c.read_entry.ensures.forwards c.args.pass.now a.rounds record { middle = a.middle; in_vain = a.in_vain; last = a.last } a.many)

pub returns-in-Open-clause-fetch : goal.returns-in-Open-clause-fetch
returns-in-Open-clause-fetch g c = c.read_entry.ensures.fetch

pub returns-in-Open-clause-sink : goal.returns-in-Open-clause-sink
returns-in-Open-clause-sink g c = c.read_entry.ensures.sink

pub returns-in-Open-clause-station : goal.returns-in-Open-clause-station
returns-in-Open-clause-station g c = c.read_entry.ensures.station

pub returns-in-Open-clause-free : goal.returns-in-Open-clause-free
returns-in-Open-clause-free g c = c.read_entry.ensures.free

pub returns-in-Open-clause-inner : goal.returns-in-Open-clause-inner
returns-in-Open-clause-inner g c = c.read_entry.ensures.inner

pub returns-in-Begun-clause-hit : goal.returns-in-Begun-clause-hit
returns-in-Begun-clause-hit g c = hit g.C.Cell.tells g.C.Cell.state g.O.Origin.offers c.args.store.now 7 c.args.offer c.args.url.now c.args.pass.now c.write_entry.new.pass (g.F.Fetcher.body c.args.fetcher.now c.args.url.now c.args.offer) g.K.Sink.tells (g.K.Sink.taken c.args.out.now) (g.K.Sink.taken c.write_entry.new.out) (g.F.Fetcher.starts c.args.fetcher.now) (g.F.Fetcher.starts c.write_entry.new.fetcher) c.args.most c.write_entry.result (let h = c.in-Begun.ensures.asked in let a = h.0 in c.write_entry.ensures.forwards c.args.pass.now c.args.most record { rounds = a.rounds; few = few_of _ _ _ a.many h.1; middle = a.middle; in_vain = a.in_vain; last = a.last })

pub returns-in-Begun-clause-fetched : goal.returns-in-Begun-clause-fetched
returns-in-Begun-clause-fetched g c = fetched g.C.Cell.tells g.C.Cell.state g.O.Origin.offers c.args.store.now 7 c.args.offer c.args.url.now c.args.pass.now c.write_entry.new.pass (g.F.Fetcher.body c.args.fetcher.now c.args.url.now c.args.offer) g.K.Sink.tells (g.K.Sink.taken c.args.out.now) (g.K.Sink.taken c.write_entry.new.out) (g.F.Fetcher.starts c.args.fetcher.now) (g.F.Fetcher.starts c.write_entry.new.fetcher) c.args.most c.write_entry.result (let h = c.in-Begun.ensures.asked in let a = h.0 in c.write_entry.ensures.forwards c.args.pass.now c.args.most record { rounds = a.rounds; few = few_of _ _ _ a.many h.1; middle = a.middle; in_vain = a.in_vain; last = a.last })

pub returns-in-Begun-clause-direct : goal.returns-in-Begun-clause-direct
returns-in-Begun-clause-direct g c = direct g.C.Cell.tells g.C.Cell.state g.O.Origin.offers c.args.store.now 7 c.args.offer c.args.url.now c.args.pass.now c.write_entry.new.pass (g.F.Fetcher.body c.args.fetcher.now c.args.url.now c.args.offer) g.K.Sink.tells (g.K.Sink.taken c.args.out.now) (g.K.Sink.taken c.write_entry.new.out) (g.F.Fetcher.starts c.args.fetcher.now) (g.F.Fetcher.starts c.write_entry.new.fetcher) c.args.most c.write_entry.result (let h = c.in-Begun.ensures.asked in let a = h.0 in c.write_entry.ensures.forwards c.args.pass.now c.args.most record { rounds = a.rounds; few = few_of _ _ _ a.many h.1; middle = a.middle; in_vain = a.in_vain; last = a.last })

pub returns-in-Begun-clause-halted : goal.returns-in-Begun-clause-halted
returns-in-Begun-clause-halted g c = halted g.C.Cell.tells g.C.Cell.state g.O.Origin.offers c.args.store.now 7 c.args.offer c.args.url.now c.args.pass.now c.write_entry.new.pass (g.F.Fetcher.body c.args.fetcher.now c.args.url.now c.args.offer) g.K.Sink.tells (g.K.Sink.taken c.args.out.now) (g.K.Sink.taken c.write_entry.new.out) (g.F.Fetcher.starts c.args.fetcher.now) (g.F.Fetcher.starts c.write_entry.new.fetcher) c.args.most c.write_entry.result (let h = c.in-Begun.ensures.asked in let a = h.0 in c.write_entry.ensures.forwards c.args.pass.now c.args.most record { rounds = a.rounds; few = few_of _ _ _ a.many h.1; middle = a.middle; in_vain = a.in_vain; last = a.last })

pub returns-in-Begun-clause-fault : goal.returns-in-Begun-clause-fault
returns-in-Begun-clause-fault g c = fault g.C.Cell.tells g.C.Cell.state g.O.Origin.offers c.args.store.now 7 c.args.offer c.args.url.now c.args.pass.now c.write_entry.new.pass (g.F.Fetcher.body c.args.fetcher.now c.args.url.now c.args.offer) g.K.Sink.tells (g.K.Sink.taken c.args.out.now) (g.K.Sink.taken c.write_entry.new.out) (g.F.Fetcher.starts c.args.fetcher.now) (g.F.Fetcher.starts c.write_entry.new.fetcher) c.args.most c.write_entry.result (let h = c.in-Begun.ensures.asked in let a = h.0 in c.write_entry.ensures.forwards c.args.pass.now c.args.most record { rounds = a.rounds; few = few_of _ _ _ a.many h.1; middle = a.middle; in_vain = a.in_vain; last = a.last })

pub returns-in-Begun-clause-waited : goal.returns-in-Begun-clause-waited
returns-in-Begun-clause-waited g c = waited g.C.Cell.tells g.C.Cell.state g.O.Origin.offers c.args.store.now 7 c.args.offer c.args.url.now c.args.pass.now c.write_entry.new.pass (g.F.Fetcher.body c.args.fetcher.now c.args.url.now c.args.offer) g.K.Sink.tells (g.K.Sink.taken c.args.out.now) (g.K.Sink.taken c.write_entry.new.out) (g.F.Fetcher.starts c.args.fetcher.now) (g.F.Fetcher.starts c.write_entry.new.fetcher) c.args.most c.write_entry.result (let h = c.in-Begun.ensures.asked in let a = h.0 in c.write_entry.ensures.forwards c.args.pass.now c.args.most record { rounds = a.rounds; few = few_of _ _ _ a.many h.1; middle = a.middle; in_vain = a.in_vain; last = a.last })

pub returns-in-Begun-clause-fetch_fault : goal.returns-in-Begun-clause-fetch_fault
returns-in-Begun-clause-fetch_fault g c = fetch_fault g.C.Cell.tells g.C.Cell.state g.O.Origin.offers c.args.store.now 7 c.args.offer c.args.url.now c.args.pass.now c.write_entry.new.pass (g.F.Fetcher.body c.args.fetcher.now c.args.url.now c.args.offer) g.K.Sink.tells (g.K.Sink.taken c.args.out.now) (g.K.Sink.taken c.write_entry.new.out) (g.F.Fetcher.starts c.args.fetcher.now) (g.F.Fetcher.starts c.write_entry.new.fetcher) c.args.most c.write_entry.result (let h = c.in-Begun.ensures.asked in let a = h.0 in c.write_entry.ensures.forwards c.args.pass.now c.args.most record { rounds = a.rounds; few = few_of _ _ _ a.many h.1; middle = a.middle; in_vain = a.in_vain; last = a.last })

pub returns-in-Begun-clause-sink_fault : goal.returns-in-Begun-clause-sink_fault
returns-in-Begun-clause-sink_fault g c = sink_fault g.C.Cell.tells g.C.Cell.state g.O.Origin.offers c.args.store.now 7 c.args.offer c.args.url.now c.args.pass.now c.write_entry.new.pass (g.F.Fetcher.body c.args.fetcher.now c.args.url.now c.args.offer) g.K.Sink.tells (g.K.Sink.taken c.args.out.now) (g.K.Sink.taken c.write_entry.new.out) (g.F.Fetcher.starts c.args.fetcher.now) (g.F.Fetcher.starts c.write_entry.new.fetcher) c.args.most c.write_entry.result (let h = c.in-Begun.ensures.asked in let a = h.0 in c.write_entry.ensures.forwards c.args.pass.now c.args.most record { rounds = a.rounds; few = few_of _ _ _ a.many h.1; middle = a.middle; in_vain = a.in_vain; last = a.last })

pub returns-in-Begun-clause-stored : goal.returns-in-Begun-clause-stored
returns-in-Begun-clause-stored g c told shown holds = stored_of g.C.Cell.tells g.C.Cell.state g.O.Origin.offers c.args.store.now 7 c.args.offer c.args.url.now c.args.most told holds c.args.pass.now c.write_entry.new.pass (g.F.Fetcher.body c.args.fetcher.now c.args.url.now c.args.offer) g.K.Sink.tells shown (g.K.Sink.taken c.args.out.now) (g.K.Sink.taken c.write_entry.new.out) (g.F.Fetcher.starts c.args.fetcher.now) (g.F.Fetcher.starts c.write_entry.new.fetcher) (λ a o n u b response inside. c.bodies_are_given_from_the_front.ensures.front (basis g.C.Cell.tells g.C.Cell.state g.O.Origin.offers c.args.store.now) a o n u b c.slots_are_small.ensures response inside) (λ a o u b response. c.bodies_are_given_from_the_front.ensures.whole (basis g.C.Cell.tells g.C.Cell.state g.O.Origin.offers c.args.store.now) a o u b c.slots_are_small.ensures response) c.write_entry.result (let h = c.in-Begun.ensures.asked in let a = h.0 in c.write_entry.ensures.forwards c.args.pass.now c.args.most record { rounds = a.rounds; few = few_of _ _ _ a.many h.1; middle = a.middle; in_vain = a.in_vain; last = a.last })

pub returns-in-Begun-clause-fetch : goal.returns-in-Begun-clause-fetch
returns-in-Begun-clause-fetch g c = c.write_entry.ensures.fetch

pub returns-in-Begun-clause-sink : goal.returns-in-Begun-clause-sink
returns-in-Begun-clause-sink g c = c.write_entry.ensures.sink

pub returns-in-Begun-clause-station : goal.returns-in-Begun-clause-station
returns-in-Begun-clause-station g c = c.write_entry.ensures.station

pub returns-in-Begun-clause-free : goal.returns-in-Begun-clause-free
returns-in-Begun-clause-free g c = c.write_entry.ensures.free

pub returns-in-Begun-clause-inner : goal.returns-in-Begun-clause-inner
returns-in-Begun-clause-inner g c = c.write_entry.ensures.inner

pub returns-in-NotBegun-clause-hit : goal.returns-in-NotBegun-clause-hit
returns-in-NotBegun-clause-hit g c = hit g.C.Cell.tells g.C.Cell.state g.O.Origin.offers c.args.store.now 7 c.args.offer c.args.url.now c.args.pass.now c.ask.new.pass (g.F.Fetcher.body c.args.fetcher.now c.args.url.now c.args.offer) g.K.Sink.tells (g.K.Sink.taken c.args.out.now) (g.K.Sink.taken c.fetch_past.new.out) (g.F.Fetcher.starts c.args.fetcher.now) (g.F.Fetcher.starts c.fetch_past.new.fetcher) c.args.most c.fetch_past.result (let h = c.in-NotBegun.ensures.asked in let a = h.0 in c.fetch_past.ensures.forwards c.args.store.now 7 c.args.pass.now c.ask.new.pass c.args.most (g.K.Sink.taken c.args.out.now) record { rounds = a.rounds; few = few_of _ _ _ a.many h.1; middle = a.middle; in_vain = a.in_vain; last = a.last } (sends_none g.K.Sink.tells (g.K.Sink.taken c.args.out.now)))

pub returns-in-NotBegun-clause-fetched : goal.returns-in-NotBegun-clause-fetched
returns-in-NotBegun-clause-fetched g c = fetched g.C.Cell.tells g.C.Cell.state g.O.Origin.offers c.args.store.now 7 c.args.offer c.args.url.now c.args.pass.now c.ask.new.pass (g.F.Fetcher.body c.args.fetcher.now c.args.url.now c.args.offer) g.K.Sink.tells (g.K.Sink.taken c.args.out.now) (g.K.Sink.taken c.fetch_past.new.out) (g.F.Fetcher.starts c.args.fetcher.now) (g.F.Fetcher.starts c.fetch_past.new.fetcher) c.args.most c.fetch_past.result (let h = c.in-NotBegun.ensures.asked in let a = h.0 in c.fetch_past.ensures.forwards c.args.store.now 7 c.args.pass.now c.ask.new.pass c.args.most (g.K.Sink.taken c.args.out.now) record { rounds = a.rounds; few = few_of _ _ _ a.many h.1; middle = a.middle; in_vain = a.in_vain; last = a.last } (sends_none g.K.Sink.tells (g.K.Sink.taken c.args.out.now)))

pub returns-in-NotBegun-clause-direct : goal.returns-in-NotBegun-clause-direct
returns-in-NotBegun-clause-direct g c = direct g.C.Cell.tells g.C.Cell.state g.O.Origin.offers c.args.store.now 7 c.args.offer c.args.url.now c.args.pass.now c.ask.new.pass (g.F.Fetcher.body c.args.fetcher.now c.args.url.now c.args.offer) g.K.Sink.tells (g.K.Sink.taken c.args.out.now) (g.K.Sink.taken c.fetch_past.new.out) (g.F.Fetcher.starts c.args.fetcher.now) (g.F.Fetcher.starts c.fetch_past.new.fetcher) c.args.most c.fetch_past.result (let h = c.in-NotBegun.ensures.asked in let a = h.0 in c.fetch_past.ensures.forwards c.args.store.now 7 c.args.pass.now c.ask.new.pass c.args.most (g.K.Sink.taken c.args.out.now) record { rounds = a.rounds; few = few_of _ _ _ a.many h.1; middle = a.middle; in_vain = a.in_vain; last = a.last } (sends_none g.K.Sink.tells (g.K.Sink.taken c.args.out.now)))

pub returns-in-NotBegun-clause-halted : goal.returns-in-NotBegun-clause-halted
returns-in-NotBegun-clause-halted g c = halted g.C.Cell.tells g.C.Cell.state g.O.Origin.offers c.args.store.now 7 c.args.offer c.args.url.now c.args.pass.now c.ask.new.pass (g.F.Fetcher.body c.args.fetcher.now c.args.url.now c.args.offer) g.K.Sink.tells (g.K.Sink.taken c.args.out.now) (g.K.Sink.taken c.fetch_past.new.out) (g.F.Fetcher.starts c.args.fetcher.now) (g.F.Fetcher.starts c.fetch_past.new.fetcher) c.args.most c.fetch_past.result (let h = c.in-NotBegun.ensures.asked in let a = h.0 in c.fetch_past.ensures.forwards c.args.store.now 7 c.args.pass.now c.ask.new.pass c.args.most (g.K.Sink.taken c.args.out.now) record { rounds = a.rounds; few = few_of _ _ _ a.many h.1; middle = a.middle; in_vain = a.in_vain; last = a.last } (sends_none g.K.Sink.tells (g.K.Sink.taken c.args.out.now)))

pub returns-in-NotBegun-clause-fault : goal.returns-in-NotBegun-clause-fault
returns-in-NotBegun-clause-fault g c = fault g.C.Cell.tells g.C.Cell.state g.O.Origin.offers c.args.store.now 7 c.args.offer c.args.url.now c.args.pass.now c.ask.new.pass (g.F.Fetcher.body c.args.fetcher.now c.args.url.now c.args.offer) g.K.Sink.tells (g.K.Sink.taken c.args.out.now) (g.K.Sink.taken c.fetch_past.new.out) (g.F.Fetcher.starts c.args.fetcher.now) (g.F.Fetcher.starts c.fetch_past.new.fetcher) c.args.most c.fetch_past.result (let h = c.in-NotBegun.ensures.asked in let a = h.0 in c.fetch_past.ensures.forwards c.args.store.now 7 c.args.pass.now c.ask.new.pass c.args.most (g.K.Sink.taken c.args.out.now) record { rounds = a.rounds; few = few_of _ _ _ a.many h.1; middle = a.middle; in_vain = a.in_vain; last = a.last } (sends_none g.K.Sink.tells (g.K.Sink.taken c.args.out.now)))

pub returns-in-NotBegun-clause-waited : goal.returns-in-NotBegun-clause-waited
returns-in-NotBegun-clause-waited g c = waited g.C.Cell.tells g.C.Cell.state g.O.Origin.offers c.args.store.now 7 c.args.offer c.args.url.now c.args.pass.now c.ask.new.pass (g.F.Fetcher.body c.args.fetcher.now c.args.url.now c.args.offer) g.K.Sink.tells (g.K.Sink.taken c.args.out.now) (g.K.Sink.taken c.fetch_past.new.out) (g.F.Fetcher.starts c.args.fetcher.now) (g.F.Fetcher.starts c.fetch_past.new.fetcher) c.args.most c.fetch_past.result (let h = c.in-NotBegun.ensures.asked in let a = h.0 in c.fetch_past.ensures.forwards c.args.store.now 7 c.args.pass.now c.ask.new.pass c.args.most (g.K.Sink.taken c.args.out.now) record { rounds = a.rounds; few = few_of _ _ _ a.many h.1; middle = a.middle; in_vain = a.in_vain; last = a.last } (sends_none g.K.Sink.tells (g.K.Sink.taken c.args.out.now)))

pub returns-in-NotBegun-clause-fetch_fault : goal.returns-in-NotBegun-clause-fetch_fault
returns-in-NotBegun-clause-fetch_fault g c = fetch_fault g.C.Cell.tells g.C.Cell.state g.O.Origin.offers c.args.store.now 7 c.args.offer c.args.url.now c.args.pass.now c.ask.new.pass (g.F.Fetcher.body c.args.fetcher.now c.args.url.now c.args.offer) g.K.Sink.tells (g.K.Sink.taken c.args.out.now) (g.K.Sink.taken c.fetch_past.new.out) (g.F.Fetcher.starts c.args.fetcher.now) (g.F.Fetcher.starts c.fetch_past.new.fetcher) c.args.most c.fetch_past.result (let h = c.in-NotBegun.ensures.asked in let a = h.0 in c.fetch_past.ensures.forwards c.args.store.now 7 c.args.pass.now c.ask.new.pass c.args.most (g.K.Sink.taken c.args.out.now) record { rounds = a.rounds; few = few_of _ _ _ a.many h.1; middle = a.middle; in_vain = a.in_vain; last = a.last } (sends_none g.K.Sink.tells (g.K.Sink.taken c.args.out.now)))

pub returns-in-NotBegun-clause-sink_fault : goal.returns-in-NotBegun-clause-sink_fault
returns-in-NotBegun-clause-sink_fault g c = sink_fault g.C.Cell.tells g.C.Cell.state g.O.Origin.offers c.args.store.now 7 c.args.offer c.args.url.now c.args.pass.now c.ask.new.pass (g.F.Fetcher.body c.args.fetcher.now c.args.url.now c.args.offer) g.K.Sink.tells (g.K.Sink.taken c.args.out.now) (g.K.Sink.taken c.fetch_past.new.out) (g.F.Fetcher.starts c.args.fetcher.now) (g.F.Fetcher.starts c.fetch_past.new.fetcher) c.args.most c.fetch_past.result (let h = c.in-NotBegun.ensures.asked in let a = h.0 in c.fetch_past.ensures.forwards c.args.store.now 7 c.args.pass.now c.ask.new.pass c.args.most (g.K.Sink.taken c.args.out.now) record { rounds = a.rounds; few = few_of _ _ _ a.many h.1; middle = a.middle; in_vain = a.in_vain; last = a.last } (sends_none g.K.Sink.tells (g.K.Sink.taken c.args.out.now)))

pub returns-in-NotBegun-clause-stored : goal.returns-in-NotBegun-clause-stored
returns-in-NotBegun-clause-stored g c told shown holds = stored_of g.C.Cell.tells g.C.Cell.state g.O.Origin.offers c.args.store.now 7 c.args.offer c.args.url.now c.args.most told holds c.args.pass.now c.ask.new.pass (g.F.Fetcher.body c.args.fetcher.now c.args.url.now c.args.offer) g.K.Sink.tells shown (g.K.Sink.taken c.args.out.now) (g.K.Sink.taken c.fetch_past.new.out) (g.F.Fetcher.starts c.args.fetcher.now) (g.F.Fetcher.starts c.fetch_past.new.fetcher) (λ a o n u b response inside. c.bodies_are_given_from_the_front.ensures.front (basis g.C.Cell.tells g.C.Cell.state g.O.Origin.offers c.args.store.now) a o n u b c.slots_are_small.ensures response inside) (λ a o u b response. c.bodies_are_given_from_the_front.ensures.whole (basis g.C.Cell.tells g.C.Cell.state g.O.Origin.offers c.args.store.now) a o u b c.slots_are_small.ensures response) c.fetch_past.result (let h = c.in-NotBegun.ensures.asked in let a = h.0 in c.fetch_past.ensures.forwards c.args.store.now 7 c.args.pass.now c.ask.new.pass c.args.most (g.K.Sink.taken c.args.out.now) record { rounds = a.rounds; few = few_of _ _ _ a.many h.1; middle = a.middle; in_vain = a.in_vain; last = a.last } (sends_none g.K.Sink.tells (g.K.Sink.taken c.args.out.now)))

pub returns-in-NotBegun-clause-fetch : goal.returns-in-NotBegun-clause-fetch
returns-in-NotBegun-clause-fetch g c = c.fetch_past.ensures.fetch

pub returns-in-NotBegun-clause-sink : goal.returns-in-NotBegun-clause-sink
returns-in-NotBegun-clause-sink g c = c.fetch_past.ensures.sink

pub returns-in-Open-clause-others : goal.returns-in-Open-clause-others
returns-in-Open-clause-others g c = forward_on g.C.Cell.tells g.C.Cell.state g.O.Origin.offers c.args.store.now 7 c.args.pass.now c.ask.new.pass c.read_entry.new.pass c.in-Open.ensures.others (of_reader g.C.Cell.tells g.C.Cell.state g.O.Origin.offers c.args.store.now 7 c.ask.new.pass c.read_entry.new.pass c.read_entry.ensures.others)

pub returns-in-Begun-clause-others : goal.returns-in-Begun-clause-others
returns-in-Begun-clause-others g c = forward_on g.C.Cell.tells g.C.Cell.state g.O.Origin.offers c.args.store.now 7 c.args.pass.now c.ask.new.pass c.write_entry.new.pass c.in-Begun.ensures.others (of_writing g.C.Cell.tells g.C.Cell.state g.O.Origin.offers c.args.store.now 7 c.ask.new.pass c.write_entry.new.pass c.write_entry.ensures.others)

pub returns-in-NotBegun-clause-others : goal.returns-in-NotBegun-clause-others
returns-in-NotBegun-clause-others g c = c.in-NotBegun.ensures.others

pub returns-in-NotBegun-clause-free : goal.returns-in-NotBegun-clause-free
returns-in-NotBegun-clause-free g c = c.in-NotBegun.ensures.free

pub returns-in-NotBegun-clause-inner : goal.returns-in-NotBegun-clause-inner
returns-in-NotBegun-clause-inner g c = c.in-NotBegun.ensures.inner

pub returns-in-NotBegun-clause-station : goal.returns-in-NotBegun-clause-station
returns-in-NotBegun-clause-station g c = past (Begin c.in-NotBegun.fault) c.fetch_past.result _ _ c.fetch_past.ensures.past refl (inl refl)
