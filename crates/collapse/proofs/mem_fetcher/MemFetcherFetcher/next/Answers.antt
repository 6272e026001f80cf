use Rattle.std.proofs.Common.{◌≡◌, ◌∙◌, ◌≤◌, arith, drop, length, refl, take}
use Rattle.std.proofs.lemmas.List.{length-drop, take_rest}
use Rattle.rock_io.proofs.Pieces.{drop-given}
use Rattle.collapse.proofs.mem_fetcher.MemFetcherFetcher.next.Goals as goal

pub returns-clause-given : goal.returns-clause-given
returns-clause-given c =
    let fetcher = c.args.self.now in
    let n = c.min-count.result in
    let left = drop fetcher.at fetcher.bytes.items in
    let fits : n ≤ length left = grind (arith, length-drop, c.deref.ensures.value) in
    let same : c.copy_from_slice.new.self ≡ take n left =
    c.copy_from_slice.ensures.after ∙ (rw (c.deref.ensures.value, take_rest) refl) in
    drop-given fetcher.bytes.items _ (drop n c.args.buf.now) fetcher.at n fits same
