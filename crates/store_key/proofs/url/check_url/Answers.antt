use Rattle.std.proofs.Common.{arith, rules}
use Rattle.store_key.specs.Url.{IsFirstBadByte}
use Rattle.store_key.proofs.UrlFacts.{bad_byte_at}
use Rattle.store_key.proofs.url.check_url.Goals as goal

pub returns-in-Some-clause-bad_byte : goal.returns-in-Some-clause-bad_byte
returns-in-Some-clause-bad_byte c at =
    let text = c.args.bytes.now in
    let first : IsFirstBadByte text c.in-Some.at = record { within = search rules; bad = search rules; first = search rules } in
    bad_byte_at text c.in-Some.at at (omega arith) first
