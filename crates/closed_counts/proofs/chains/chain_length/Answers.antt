use Rattle.std.proofs.Common.{arith, sym, ◌∙◌}
use Rattle.closed_counts.proofs.Adding.{chain_short}
use Rattle.closed_counts.proofs.Walking.{begins, done, inside, on}
use Rattle.closed_counts.proofs.chains.chain_length.Goals as goal

pub overflow_sub-first : goal.overflow_sub-first
overflow_sub-first g c = let r = c.requires.words in
    let b = begins r.2 c.args.anchor c.beside_index.result c.word-first.result
    c.requires.there c.requires.closed c.beside_index.ensures c.word-first.ensures in
    let some_ = b.0 in omega arith

pub overflow_cast-slot : goal.overflow_cast-slot
overflow_cast-slot g c = let r = c.requires.words in
    let b = begins r.2 c.args.anchor c.beside_index.result c.word-first.result
    c.requires.there c.requires.closed c.beside_index.ensures c.word-first.ensures in
    let low = b.1 in let fits = c.ranges.slots in omega arith

pub loop-next-init : goal.loop-next-init
loop-next-init g c k s w =
    (begins w c.args.anchor c.beside_index.result c.word-first.result
    c.requires.there c.requires.closed c.beside_index.ensures c.word-first.ensures).2

pub slot_behind-requires-clause-there : goal.slot_behind-requires-clause-there
slot_behind-requires-clause-there g c = let r = c.requires.words in
    let h = c.loop-next.invariant r.0 r.1 r.2 in
    inside r.2 c.loop-next.slot h.rest h.spelled

pub overflow_add-count : goal.overflow_add-count
overflow_add-count g c = let r = c.requires.words in
    let h = c.loop-next.invariant r.0 r.1 r.2 in
    let more = on r.2 c.args.anchor c.loop-next.slot c.loop-next.count c.in-Some.next h (c.in-Some.ensures r.0 r.1 h.rest r.2 h.spelled) in
    let left = more.left in
    let short = chain_short r.2 c.args.anchor in
    let fits = c.ranges.slots in omega arith

pub loop-next-smaller : goal.loop-next-smaller
loop-next-smaller g c = let r = c.requires.words in
    let h = c.loop-next.invariant r.0 r.1 r.2 in
    let more = on r.2 c.args.anchor c.loop-next.slot c.loop-next.count c.in-Some.next h (c.in-Some.ensures r.0 r.1 h.rest r.2 h.spelled) in
    let left = more.left in
    let short = chain_short r.2 c.args.anchor in omega arith

pub loop-next-preserved : goal.loop-next-preserved
loop-next-preserved g c k s w = let h = c.loop-next.invariant k s w in
    on w c.args.anchor c.loop-next.slot c.loop-next.count c.in-Some.next h (c.in-Some.ensures k s h.rest w h.spelled)

pub returns : goal.returns
returns g c k s w = let h = c.loop-next.invariant k s w in
    done w c.args.anchor c.loop-next.slot c.loop-next.count h (sym c.in_default.is ∙ c.slot_behind.ensures k s h.rest w h.spelled)
