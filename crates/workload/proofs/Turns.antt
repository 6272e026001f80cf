-- The turns of rounds, and how many there are.
use Rattle.std.proofs.Common.{◌≡◌, ℕ, zero, suc, ◌+◌, ◌*◌, ◌<◌, ◌≤◌, List, [], ◌++◌, map, length, not, true, refl, arith, sym, ap, ◌∙◌, subst, length-append}
use Rattle.std.specs.Prelude.{All, Bool}
use Rattle.std.specs.List.{range_with_len, filter, flat_map}
use Rattle.std.proofs.lemmas.List.{flat_map_more}
use Rattle.std.proofs.lemmas.List.FromFn.{length-map-range_with_len}
use Rattle.std.proofs.lemmas.List.Filters.{length-filter_both}
use Rattle.std.proofs.lemmas.List.Elements.{filter_passes}
use Rattle.std.proofs.Math.Nat.{mul-le-mul}
use Rattle.workload.specs.Shares.{share_of, has_url, shares_of}
use Rattle.workload.specs.Script.{turns_of}
use Rattle.workload.proofs.Ranges.{range_more}

pub no_turns : (workers : ℕ) → turns_of workers 0 ≡ []
unfolding turns_of
no_turns workers = refl

pub turns_more : (workers count : ℕ) → turns_of workers (count + 1) ≡ turns_of workers count ++ shares_of workers
unfolding turns_of
turns_more workers count =
    let e = flat_map_more (λ (round : ℕ). shares_of workers) [] (range_with_len 0 count) count in
    ap (flat_map (λ (round : ℕ). shares_of workers)) (range_more count) ∙ sym e

turns_suc : (workers count : ℕ) → turns_of workers (suc count) ≡ turns_of workers count ++ shares_of workers
turns_suc workers count =
    let s : suc count ≡ count + 1 = omega arith in
    ap (turns_of workers) s ∙ turns_more workers count

pub length_turns : (workers count : ℕ) → length (turns_of workers count) ≡ count * length (shares_of workers)
length_turns workers zero =
    let e : length (turns_of workers zero) ≡ 0 = ap length (no_turns workers) in
    omega (arith, e)
length_turns workers (suc count) =
    let e : length (turns_of workers (suc count)) ≡ length (turns_of workers count) + length (shares_of workers) = ap length (turns_suc workers count) ∙ length-append (turns_of workers count) (shares_of workers) in
    let rest : length (turns_of workers count) ≡ count * length (shares_of workers) = length_turns workers count in
    omega (arith, e, rest)

length_filter_most : {X : Type 0} (p : X → Bool) (xs : List X) → length (filter p xs) ≤ length xs
length_filter_most p xs =
    let e = length-filter_both p (λ x. not (p x)) (λ x. refl) xs in
    omega (arith, e)

pub few_shares : (workers : ℕ) → length (shares_of workers) ≤ workers
unfolding shares_of
few_shares workers =
    let e : length (map (share_of workers) (range_with_len 1 workers)) ≡ workers = length-map-range_with_len (share_of workers) 1 workers in
    subst (λ (n : ℕ). length (filter has_url (map (share_of workers) (range_with_len 1 workers))) ≤ n) e
    (length_filter_most has_url (map (share_of workers) (range_with_len 1 workers)))

pub shares_have_urls : (workers : ℕ) → All (λ share. has_url share ≡ true) (shares_of workers)
unfolding shares_of
shares_have_urls workers = filter_passes has_url (map (share_of workers) (range_with_len 1 workers))

pub room_for_round : (round shares : ℕ) → round < 10000 → shares ≤ 32 → round * shares + shares ≤ 320000
room_for_round round shares h k =
    let s : suc round ≤ 10000 = omega arith in
    let m : suc round * shares ≤ 10000 * 32 = mul-le-mul s k in
    omega (arith, m)
