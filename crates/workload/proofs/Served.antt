-- Whose lines a benchmark has, under which numbers, and what they ask.
use Rattle.std.proofs.Common.{◌≡◌, ℕ, zero, suc, ◌+◌, ◌*◌, ◌<◌, ◌≤◌, ◌%◌, List, [], ◌∷◌, ◌++◌, map, length, Bool, true, false, cond, nat_lt, ◌==◌, refl, arith, ap, sym, ◌∙◌, ltb-true}
use Rattle.std.specs.Prelude.{All, Contains, Some, find, if◌then◌else◌, slice_index}
use Rattle.std.specs.List.{range_with_len, enumerate_from}
use Rattle.std.proofs.lemmas.Bool.{eq-eqb, eqb-true, ne_eqb}
use Rattle.std.proofs.lemmas.List.FromFn.{get_or-range_with_len, length-range_with_len}
use mathlib.Core.Option.{some, some-injective, some-ne-none}
use lib.ListN.{get_elem?}
use Rattle.std.proofs.lemmas.List.Elements.{All-nil, All-cons, All-head, All-tail, All-append, All-map, All-filter, All-same, All-contains, All-from_get_or, All-weaker, filter_passes}
use Rattle.store_key.specs.Url.{IsUrl}
use Rattle.script_text.specs.declared.body.Body.{Body}
use Rattle.script_text.specs.declared.line.Line.{Line}
use Rattle.script_text.specs.declared.request.Request.TheVariants.{Get, Put, Save, Purge}
use Rattle.workload.specs.declared.shares.Share.{Share}
use Rattle.workload.specs.Requests.{NamesUrl, body_of, request_of}
use Rattle.workload.specs.Shares.{has_url, share_of, shares_of}
use Rattle.workload.specs.Script.{bench_lines, line_of, lines_of, turns_of}
use Rattle.workload.specs.Urls.{home_of, url_of, urls_of}
use Rattle.workload.proofs.Named.{url_named}
use Rattle.workload.proofs.Turns.{no_turns, turns_more}

-- a worker that has a URL, and its URLs
pub record IsShare (workers : ℕ) (share : Share) : Type 0 where
  pub from : 1 ≤ share.worker
  pub to : share.worker ≤ workers
  pub urls : All (λ n. n < 64 * workers) share.urls
  pub homes : All (λ n. home_of workers n ≡ share.worker) share.urls
  pub some : 0 < length share.urls

range_within : (from n : ℕ) → All (λ w. (from ≤ w) × (w < from + n)) (range_with_len from n)
range_within from n = All-from_get_or (λ w. (from ≤ w) × (w < from + n)) (range_with_len from n) 0
    (λ i lt. let long = length-range_with_len from n in let is = get_or-range_with_len from n i 0 (omega (arith, long, lt)) in (omega (arith, is), omega (arith, is, long, lt)))

urls_within : (workers worker : ℕ) → All (λ n. n < 64 * workers) (urls_of workers worker)
unfolding urls_of
urls_within workers worker = All-filter (λ n. home_of workers n == worker) (λ n. n < 64 * workers) (range_with_len 0 (64 * workers))
    (All-weaker (λ n. (0 ≤ n) × (n < 0 + 64 * workers)) (λ n. n < 64 * workers) (λ n is. omega (arith, is.1)) (range_with_len 0 (64 * workers)) (range_within 0 (64 * workers)))

urls_at_home : (workers worker : ℕ) → All (λ n. home_of workers n ≡ worker) (urls_of workers worker)
unfolding urls_of
urls_at_home workers worker =
    All-weaker (λ n. (home_of workers n == worker) ≡ true) (λ n. home_of workers n ≡ worker) (λ n test. eqb-true (home_of workers n) worker test) (urls_of workers worker)
    (filter_passes (λ n. home_of workers n == worker) (range_with_len 0 (64 * workers)))

record MayBeShare (workers : ℕ) (share : Share) : Type 0 where
  from : 1 ≤ share.worker
  to : share.worker ≤ workers
  urls : All (λ n. n < 64 * workers) share.urls
  homes : All (λ n. home_of workers n ≡ share.worker) share.urls

may_be_shares : (workers : ℕ) → All (MayBeShare workers) (shares_of workers)
unfolding shares_of
may_be_shares workers = All-filter has_url (MayBeShare workers) (map (share_of workers) (range_with_len 1 workers))
    (All-map (MayBeShare workers) (share_of workers) (range_with_len 1 workers)
    (All-weaker (λ w. (1 ≤ w) × (w < 1 + workers)) (λ w. MayBeShare workers (share_of workers w))
    (λ w is. record { from = is.0; to = omega (arith, is.1); urls = urls_within workers w; homes = urls_at_home workers w }) (range_with_len 1 workers) (range_within 1 workers)))

have_urls : (workers : ℕ) → All (λ share. has_url share ≡ true) (shares_of workers)
unfolding shares_of
have_urls workers = filter_passes has_url (map (share_of workers) (range_with_len 1 workers))

are_shares : (workers : ℕ) → All (IsShare workers) (shares_of workers)
are_shares workers k d lt =
    let may = may_be_shares workers k d lt in
    let test = have_urls workers k d lt in
    record { from = may.from; to = may.to; urls = may.urls; homes = may.homes; some = ltb-true _ _ test }

pub turns_are_shares : (workers count : ℕ) → All (IsShare workers) (turns_of workers count)
turns_are_shares workers zero = All-same (IsShare workers) (turns_of workers zero) [] (no_turns workers) (All-nil (IsShare workers))
turns_are_shares workers (suc count) =
    let more : suc count ≡ count + 1 = omega arith in
    All-same (IsShare workers) (turns_of workers (suc count)) (turns_of workers count ++ shares_of workers) (ap (turns_of workers) more ∙ turns_more workers count)
    (All-append (IsShare workers) (turns_of workers count) (shares_of workers) (turns_are_shares workers count) (are_shares workers))

abbrev line_at : (seed : ℕ) → ℕ × Share → Line
line_at seed turn = line_of seed turn.0 turn.1

-- what holds of each share at each place holds of each turn
placed : (P : Share → Type 0) (n : ℕ) (turns : List Share) → All P turns → All (λ (turn : ℕ × Share). P turn.1) (enumerate_from n turns)
placed P n [] all = All-nil (λ (turn : ℕ × Share). P turn.1)
placed P n (x ∷ xs) all = All-cons (λ (turn : ℕ × Share). P turn.1) (n, x) (enumerate_from (n + 1) xs) (All-head P x xs all) (placed P (n + 1) xs (All-tail P x xs all))

-- what the line of a share is at each place, each line of the benchmark is
pub each_line : (P : Share → Type 0) (Q : Line → Type 0) (seed : ℕ) (turns : List Share) → ((place : ℕ) (share : Share) → P share → Q (line_of seed place share)) → All P turns → (line : Line) → Contains (lines_of seed turns) line → Q line
unfolding lines_of
each_line P Q seed turns is all line among =
    All-contains Q (map (line_at seed) (enumerate_from 0 turns)) line
    (All-map Q (line_at seed) (enumerate_from 0 turns) (All-weaker (λ (turn : ℕ × Share). P turn.1) (λ (turn : ℕ × Share). Q (line_at seed turn)) (λ turn h. is turn.0 turn.1 h) (enumerate_from 0 turns) (placed P 0 turns all))) among

pub worker_is : (seed place : ℕ) (share : Share) → (line_of seed place share).worker ≡ share.worker
unfolding line_of
worker_is seed place share = refl

number_is : (seed place : ℕ) (share : Share) → (line_of seed place share).number ≡ place + 1
unfolding line_of
number_is seed place share = refl

pub within : (seed workers count : ℕ) (line : Line) → Contains (bench_lines seed workers count) line → (1 ≤ line.worker) × (line.worker ≤ workers)
within seed workers count = each_line (IsShare workers) (λ line. (1 ≤ line.worker) × (line.worker ≤ workers)) seed (turns_of workers count)
    (λ place share is. let same = worker_is seed place share in let from = is.from in let to = is.to in (omega (arith, same, from), omega (arith, same, to))) (turns_are_shares workers count)

-- a line of a kind names its URL
names : (gets stores saves : Bool) (url : List ℕ) (body : Body) → IsUrl url → NamesUrl (if gets then Get url else if stores then Put url body else if saves then Save url body else Purge url)
names true stores saves url body is = is
names false true saves url body is = is
names false false true url body is = is
names false false false url body is = is

request_named : (workers : ℕ) (share : Share) (a b c : ℕ) → workers ≤ 32 → IsShare workers share → NamesUrl (request_of share.urls a b c)
unfolding request_of
request_named workers share a b c few is =
    let kind : ℕ = b % 8 in
    let some = is.some in
    let at : ℕ = a % length share.urls in
    let lt : a % length share.urls < length share.urls = omega (arith, some) in
    let below = is.urls (a % length share.urls) 0 lt in
    names (nat_lt kind 4) (nat_lt kind 6) (kind == 6) (url_of (slice_index share.urls (a % length share.urls))) (body_of c) (url_named (slice_index share.urls (a % length share.urls)) (omega (arith, below, few)))

line_named : (seed workers place : ℕ) (share : Share) → workers ≤ 32 → IsShare workers share → NamesUrl (line_of seed place share).request
unfolding line_of
line_named seed workers place share few is = request_named workers share _ _ _ few is

pub named : (seed workers count : ℕ) (line : Line) → workers ≤ 32 → Contains (bench_lines seed workers count) line → NamesUrl line.request
named seed workers count line few among =
    each_line (IsShare workers) (λ l. NamesUrl l.request) seed (turns_of workers count) (λ place share is. line_named seed workers place share few is) (turns_are_shares workers count) line among

-- the lines from a place on have greater numbers than those before it
numbered : (seed n : ℕ) (turns : List Share) → All (λ (line : Line). n < line.number) (map (line_at seed) (enumerate_from n turns))
numbered seed n [] = All-nil (λ (line : Line). n < line.number)
numbered seed n (x ∷ xs) =
    let here = number_is seed n x in
    All-cons (λ (line : Line). n < line.number) (line_of seed n x) (map (line_at seed) (enumerate_from (n + 1) xs)) (omega (arith, here))
    (All-weaker (λ (line : Line). n + 1 < line.number) (λ (line : Line). n < line.number) (λ line lt. omega arith) (map (line_at seed) (enumerate_from (n + 1) xs)) (numbered seed (n + 1) xs))

-- so each line is the first of its number
abbrev IsFirst : List Line → Line → Type 0
IsFirst lines line = find (λ (other : Line). other.number == line.number) lines ≡ Some line

first_here : (x line : Line) (xs : List Line) → x ≡ line → IsFirst (x ∷ xs) line
first_here x line xs same =
    let test : (x.number == line.number) ≡ true = eq-eqb x.number line.number (ap (λ (l : Line). l.number) same) in
    ap (λ (b : Bool). cond b (Some x) (find (λ (other : Line). other.number == line.number) xs)) test ∙ ap Some same

first_behind : (x line : Line) (xs : List Line) → (x.number ≡ line.number → ⊥) → IsFirst xs line → IsFirst (x ∷ xs) line
first_behind x line xs other is =
    let test : (x.number == line.number) ≡ false = ne_eqb x.number line.number other in
    ap (λ (b : Bool). cond b (Some x) (find (λ (o : Line). o.number == line.number) xs)) test ∙ is

first_of_all : (seed n : ℕ) (turns : List Share) → All (λ line. IsFirst (map (line_at seed) (enumerate_from n turns)) line) (map (line_at seed) (enumerate_from n turns))
first_of_all seed n [] = All-nil (IsFirst [])
first_of_all seed n (x ∷ xs) =
    let line : Line = line_of seed n x in
    let rest : List Line = map (line_at seed) (enumerate_from (n + 1) xs) in
    let here = number_is seed n x in
    All-cons (IsFirst (line ∷ rest)) line rest (first_here line line rest refl)
    (λ k d lt. let more = numbered seed (n + 1) xs k d lt in first_behind line _ rest (λ e. omega (arith, here, more, e)) (first_of_all seed (n + 1) xs k d lt))

pub found : (seed workers count : ℕ) (line : Line) → Contains (bench_lines seed workers count) line → find (λ (other : Line). other.number == line.number) (bench_lines seed workers count) ≡ Some line
unfolding lines_of
found seed workers count line among = All-contains (IsFirst (lines_of seed (turns_of workers count))) (lines_of seed (turns_of workers count)) line (first_of_all seed 0 (turns_of workers count)) among

-- each line has the number behind its place
number_at : (seed n : ℕ) (turns : List Share) (k : ℕ) (line : Line) → get_elem? (map (line_at seed) (enumerate_from n turns)) k ≡ some line → line.number ≡ n + k + 1
number_at seed n [] k line at = absurd (some-ne-none line (sym at))
number_at seed n (x ∷ xs) zero line at =
    let same = ap (λ (l : Line). l.number) (some-injective (line_of seed n x) line at) in let is = number_is seed n x in omega (arith, same, is)
number_at seed n (x ∷ xs) (suc k) line at = let is = number_at seed (n + 1) xs k line at in omega (arith, is)

pub numbers : (seed workers count k : ℕ) (line : Line) → get_elem? (bench_lines seed workers count) k ≡ some line → line.number ≡ k + 1
unfolding lines_of
numbers seed workers count k line at = let is = number_at seed 0 (turns_of workers count) k line at in omega (arith, is)
