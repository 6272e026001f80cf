-- Which URLs the lines of a benchmark name, how long they and the bodies are, and how many lines there are.
use Rattle.std.proofs.Common.{◌≡◌, ℕ, ◌+◌, ◌*◌, ◌/◌, ◌%◌, ◌<◌, ◌≤◌, List, length, Bool, true, false, nat_lt, ◌==◌, refl, arith, ap, sym, ◌∙◌}
use Rattle.std.specs.Prelude.{Contains, Some, if◌then◌else◌, slice_index}
use Rattle.std.proofs.Math.Nat.{mul-le-mul_left}
use Rattle.store_key.specs.Key.{key_of}
use Rattle.store_key.specs.Anchor.{anchor_of}
use Rattle.script_text.specs.Fields.{body_size}
use Rattle.script_text.specs.Requests.{url_in, offered_size}
use Rattle.script_text.specs.declared.body.Body.{Body}
use Rattle.script_text.specs.declared.line.Line.{Line}
use Rattle.script_text.specs.declared.request.Request.{Request}
use Rattle.script_text.specs.declared.request.Request.TheVariants.{Get, Put, Save, Purge}
use Rattle.workload.specs.declared.shares.Share.{Share}
use Rattle.workload.specs.Requests.{IsSmall, body_of, request_of}
use Rattle.workload.specs.Shares.{shares_of}
use Rattle.workload.specs.Script.{bench_lines, line_of, turns_of}
use Rattle.workload.specs.Urls.{home_of, url_of}
use Rattle.workload.proofs.Drafts.{length_lines}
use Rattle.workload.proofs.Named.{url_short}
use Rattle.workload.proofs.Served.{IsShare, each_line, turns_are_shares}
use Rattle.workload.proofs.Turns.{length_turns, few_shares}

same_some : (u v : List ℕ) → Some u ≡ Some v → u ≡ v
same_some u v e = cc

-- a request of each kind names the URL that it was made for
kinds_name : (gets stores saves : Bool) (url : List ℕ) (body : Body)
    → url_in (if gets then Get url else if stores then Put url body else if saves then Save url body else Purge url) ≡ Some url
kinds_name true stores saves url body = refl
kinds_name false true saves url body = refl
kinds_name false false true url body = refl
kinds_name false false false url body = refl

-- and offers no more than its body
kinds_offer : (gets stores saves : Bool) (url : List ℕ) (body : Body)
    → offered_size (if gets then Get url else if stores then Put url body else if saves then Save url body else Purge url) ≤ body_size body
kinds_offer true stores saves url body = omega arith
kinds_offer false true saves url body = omega arith
kinds_offer false false true url body = omega arith
kinds_offer false false false url body = omega arith

-- the URL of a request is one of its share
record NamesOneOf (urls : List ℕ) (request : Request) : Type 0 where
  place : ℕ
  within : place < length urls
  named : url_in request ≡ Some (url_of (slice_index urls place))

request_names : (workers : ℕ) (share : Share) (a b c : ℕ) → IsShare workers share → NamesOneOf share.urls (request_of share.urls a b c)
unfolding request_of
request_names workers share a b c is =
    let some = is.some in
    record {
      place = a % length share.urls;
      within = omega (arith, some);
      named = kinds_name (nat_lt (b % 8) 4) (nat_lt (b % 8) 6) ((b % 8) == 6) (url_of (slice_index share.urls (a % length share.urls))) (body_of c);
    }

request_offers : (urls : List ℕ) (a b c : ℕ) → offered_size (request_of urls a b c) ≤ 1300
unfolding request_of
request_offers urls a b c =
    let most = kinds_offer (nat_lt (b % 8) 4) (nat_lt (b % 8) 6) ((b % 8) == 6) (url_of (slice_index urls (a % length urls))) (body_of c) in
    let size : body_size (body_of c) ≤ 1300 = omega arith in
    omega (arith, most, size)

-- the worker that a URL belongs to, by its anchor
abbrev home_by_anchor : (workers : ℕ) → List ℕ → ℕ
home_by_anchor workers url = 1 + anchor_of (key_of url) (16 * workers) / 16

home_is : (workers n : ℕ) → home_of workers n ≡ home_by_anchor workers (url_of n)
unfolding home_of
home_is workers n = refl

IsAtHome : (workers : ℕ) → Line → Type 0
IsAtHome workers line = (url : List ℕ) → url_in line.request ≡ Some url → line.worker ≡ home_by_anchor workers url

line_at_home : (seed workers place : ℕ) (share : Share) → IsShare workers share → IsAtHome workers (line_of seed place share)
unfolding line_of IsAtHome
line_at_home seed workers place share is url named =
    let one = request_names workers share _ _ _ is in
    let same : url_of (slice_index share.urls one.place) ≡ url = same_some _ _ (sym one.named ∙ named) in
    sym (is.homes one.place 0 one.within) ∙ home_is workers (slice_index share.urls one.place) ∙ ap (home_by_anchor workers) same

pub homes : (seed workers count : ℕ) (line : Line) (url : List ℕ) → Contains (bench_lines seed workers count) line → url_in line.request ≡ Some url
    → line.worker ≡ 1 + anchor_of (key_of url) (16 * workers) / 16
unfolding IsAtHome
homes seed workers count line url among =
    each_line (IsShare workers) (IsAtHome workers) seed (turns_of workers count) (λ place share is. line_at_home seed workers place share is) (turns_are_shares workers count) line among url

line_small : (seed workers place : ℕ) (share : Share) → workers ≤ 32 → IsShare workers share → IsSmall (line_of seed place share).request
unfolding line_of
line_small seed workers place share few is = record {
  url = λ url named.
      let one = request_names workers share _ _ _ is in
      let same : url_of (slice_index share.urls one.place) ≡ url = same_some _ _ (sym one.named ∙ named) in
      let below = is.urls one.place 0 one.within in
      let short = url_short (slice_index share.urls one.place) (omega (arith, below, few)) in
      let long : length (url_of (slice_index share.urls one.place)) ≡ length url = ap length same in
      omega (arith, short, long);
  body = request_offers share.urls _ _ _;
}

pub small : (seed workers count : ℕ) (line : Line) → workers ≤ 32 → Contains (bench_lines seed workers count) line → IsSmall line.request
small seed workers count line few among =
    each_line (IsShare workers) (λ l. IsSmall l.request) seed (turns_of workers count) (λ place share is. line_small seed workers place share few is) (turns_are_shares workers count) line among

-- each worker has at most one line in each round
pub few : (seed workers count : ℕ) → length (bench_lines seed workers count) ≤ count * workers
few seed workers count =
    let lines : length (bench_lines seed workers count) ≡ count * length (shares_of workers) = length_lines seed (turns_of workers count) ∙ length_turns workers count in
    let most : count * length (shares_of workers) ≤ count * workers = mul-le-mul_left count (few_shares workers) in
    omega (arith, lines, most)
