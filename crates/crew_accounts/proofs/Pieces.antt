-- How many bytes so many slots hold.
use Rattle.std.proofs.Common.{List, ap, arith, length, length-append, suc, zero, ◌*◌, ◌+◌, ◌-◌, ◌/◌, ◌<◌, ◌∙◌, ◌≡◌, ℕ}
use Rattle.std.proofs.Math.Nat.{div-zero, le-div_iff_mul-le, suc-mul}
use Rattle.store_key.specs.Key.{key_of}
use Rattle.swap_meta.specs.Meta.{meta_bytes}
use Rattle.entry_cut.specs.Content.{content_of}

-- fewer slots than a content needs hold less than it
pub hold_less : (room size many : ℕ) → many < (size + (room - 1)) / room → many * room < size
hold_less zero size many few = let none = div-zero (size + (zero - 1)) in omega (arith, none)
hold_less (suc n) size many few =
    let all = (le-div_iff_mul-le {k = suc n} {x = suc many} {y = size + (suc n - 1)} (omega arith)).0 (omega arith) in
    let one_more = suc-mul many (suc n) in
    omega (arith, all, one_more)

-- the content of an entry is its metadata and its body
pub content_size : ((url : List ℕ) → length (meta_bytes (key_of url) url) ≡ 32 + length url) → (url body : List ℕ) → length (content_of url body) ≡ 32 + length url + length body
content_size sizes url body = length-append (meta_bytes (key_of url) url) body ∙ ap (λ n. n + length body) (sizes url)
