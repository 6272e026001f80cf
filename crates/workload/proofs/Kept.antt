-- The URLs of a worker, and the workers that have one, one number further.
use Rattle.std.proofs.Common.{◌≡◌, ℕ, ◌+◌, ◌*◌, ◌<◌, ◌≤◌, List, [], ◌∷◌, ◌++◌, map, length, Bool, true, false, cond, nat_lt, ◌==◌, get_or, arith, sym, ap, ◌∙◌, lt-ltb, le-ltb, eq-eqb, ne_eqb, eqb-true, true≢false, append-nil}
use Rattle.std.specs.List.{range_with_len, filter}
use Rattle.std.proofs.lemmas.List.FromFn.{filter_of_map_range_with_len_more}
use Rattle.workload.specs.declared.shares.Share.{Share}
use Rattle.workload.specs.Urls.{home_of, urls_of}
use Rattle.workload.specs.Shares.{share_of, has_url}
use Rattle.workload.proofs.Ranges.{filter_range_more, at_listed}

abbrev pub urls_below : (workers worker n : ℕ) → List ℕ
urls_below workers worker n = filter (λ k. home_of workers k == worker) (range_with_len 0 n)

-- the URL that comes next is the worker's
pub url_kept : (workers worker n : ℕ) (homes urls : List ℕ) → homes ≡ map (home_of workers) (range_with_len 0 (64 * workers)) → n < 64 * workers
    → urls ≡ urls_below workers worker n → get_or homes n 0 ≡ worker → urls ++ n ∷ [] ≡ urls_below workers worker (n + 1)
url_kept workers worker n homes urls listed h e t =
    let is : home_of workers n ≡ worker = sym (at_listed (home_of workers) (64 * workers) n homes listed h) ∙ t in
    let test : (home_of workers n == worker) ≡ true = eq-eqb (home_of workers n) worker is in
    ap (λ (s : List ℕ). s ++ n ∷ []) e ∙ ap (λ (b : Bool). urls_below workers worker n ++ cond b (n ∷ []) []) (sym test)
    ∙ sym (filter_range_more (λ (k : ℕ). home_of workers k == worker) n)

-- it is another's
pub url_left : (workers worker n : ℕ) (homes urls : List ℕ) → homes ≡ map (home_of workers) (range_with_len 0 (64 * workers)) → n < 64 * workers
    → urls ≡ urls_below workers worker n → ¬ (get_or homes n 0 ≡ worker) → urls ≡ urls_below workers worker (n + 1)
url_left workers worker n homes urls listed h e t =
    let other : ¬ (home_of workers n ≡ worker) = λ is. t (at_listed (home_of workers) (64 * workers) n homes listed h ∙ is) in
    let test : (home_of workers n == worker) ≡ false = ne_eqb (home_of workers n) worker other in
    e ∙ sym (append-nil (urls_below workers worker n)) ∙ ap (λ (b : Bool). urls_below workers worker n ++ cond b (n ∷ []) []) (sym test)
    ∙ sym (filter_range_more (λ (k : ℕ). home_of workers k == worker) n)

abbrev pub shares_below : (workers n : ℕ) → List Share
shares_below workers n = filter has_url (map (share_of workers) (range_with_len 1 n))

abbrev made : (worker : ℕ) → List ℕ → Share
made worker urls = record { worker = worker; urls = urls }

-- the worker that comes next has a URL
pub share_kept : (workers before worker : ℕ) (urls : List ℕ) (shares : List Share) → worker ≡ before + 1 → shares ≡ shares_below workers before
    → urls ≡ urls_of workers worker → 0 < length urls → shares ++ made worker urls ∷ [] ≡ shares_below workers (before + 1)
share_kept workers before worker urls shares w e u h =
    let j : 1 + before ≡ worker = omega arith in
    let test : has_url (share_of workers worker) ≡ true = ap (λ (k : List ℕ). nat_lt 0 (length k)) (sym u) ∙ lt-ltb 0 (length urls) h in
    ap (λ (s : List Share). s ++ made worker urls ∷ []) e ∙ ap (λ (k : List ℕ). shares_below workers before ++ made worker k ∷ []) u
    ∙ ap (λ (b : Bool). shares_below workers before ++ cond b (share_of workers worker ∷ []) []) (sym test)
    ∙ sym (filter_of_map_range_with_len_more has_url (share_of workers) 1 before worker j)

-- it has none
pub share_left : (workers before worker : ℕ) (urls : List ℕ) (shares : List Share) → worker ≡ before + 1 → shares ≡ shares_below workers before
    → urls ≡ urls_of workers worker → length urls ≡ 0 → shares ≡ shares_below workers (before + 1)
share_left workers before worker urls shares w e u h =
    let j : 1 + before ≡ worker = omega arith in
    let none : length urls ≤ 0 = omega arith in
    let test : has_url (share_of workers worker) ≡ false = ap (λ (k : List ℕ). nat_lt 0 (length k)) (sym u) ∙ le-ltb 0 (length urls) none in
    e ∙ sym (append-nil (shares_below workers before)) ∙ ap (λ (b : Bool). shares_below workers before ++ cond b (share_of workers worker ∷ []) []) (sym test)
    ∙ sym (filter_of_map_range_with_len_more has_url (share_of workers) 1 before worker j)

-- whether there are any, by a test for none
pub are_some : (test : Bool) (n m : ℕ) → test ≡ (n == 0) → n ≡ m → test ≡ false → 0 < m
are_some test n m e s h =
    let ne : ¬ (n ≡ 0) = λ z. true≢false (sym (eq-eqb n 0 z) ∙ sym e ∙ h) in
    omega (arith, ne, s)

pub are_none : (test : Bool) (n m : ℕ) → test ≡ (n == 0) → n ≡ m → test ≡ true → m ≡ 0
are_none test n m e s h = sym s ∙ eqb-true n 0 (sym e ∙ h)
