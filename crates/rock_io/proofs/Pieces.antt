-- Lists in pieces.
use Rattle.std.proofs.Common.{◌≡◌, ℕ, ◌+◌, ◌≤◌, List, ◌++◌, length, take, drop, sym, ◌∙◌, ap}
use Rattle.std.proofs.lemmas.List.{take-append-drop, drop-drop, take_at, length-take-le}

-- what is left from a place is its first n bytes, which stand at the front of a buffer, and what
-- is left after them
pub drop-given : (bytes piece rest : List ℕ) (at n : ℕ)
    → n ≤ length (drop at bytes)
    → piece ≡ take n (drop at bytes)
    → drop at bytes ≡ take n (piece ++ rest) ++ drop (at + n) bytes
drop-given bytes piece rest at n fits same =
    let long : length piece ≡ n = ap length same ∙ length-take-le n (drop at bytes) fits in
    let front : take n (piece ++ rest) ≡ take n (drop at bytes) = take_at piece rest n long ∙ same in
    rw (front, ← drop-drop n at bytes) (sym (take-append-drop n (drop at bytes)))
