-- A file's bytes, cut and joined again.
use Rattle.std.proofs.Common.{◌≡◌, inl, inr, ◌+◌, ◌*◌, ◌++◌, ℕ, zero, suc, List, length, take, drop, Bool, cond, true, false, arith, refl, ap, sym, ◌∙◌, Some}
use Rattle.std.specs.Prelude.{option_map}
use Rattle.std.proofs.lemmas.Cmp.{nat_list_cmp_total}
use Rattle.std.proofs.lemmas.List.{take-append-drop, drop-drop}
use Rattle.std.proofs.Math.Seq.{take-add}
use Rattle.std.proofs.Math.Nat.{suc-mul, zero-mul}
use Rattle.std.specs.FinMap.{get, get-insert}
use Rattle.db_layout.specs.Layout.{slots_of}
use Rattle.rock_disk.specs.Cell.{joined}
use Rattle.rock_disk.specs.File.{File, Files, bytes_of, slots_from, cut, IsKept, HaveSameBytes}
use Rattle.rock_disk.proofs.Out.{by_bytes, one_name}

-- the slots that are cut off the front of some bytes hold these bytes
joined_slots : (number n slot : ℕ) (bytes : List ℕ) → joined (slots_from number n slot bytes) ≡ take (n * slot) bytes
joined_slots number zero slot bytes = ap (λ k. take k bytes) (sym (zero-mul slot))
joined_slots number (suc n) slot bytes =
    let more : slot + n * slot ≡ suc n * slot = omega (arith, suc-mul n slot) in
    ap (λ rest. take slot bytes ++ rest) (joined_slots (number + 1) n slot (drop slot bytes))
    ∙ (sym (take-add slot (n * slot) bytes) ∙ ap (λ k. take k bytes) more)

-- a front, a middle and the rest are the whole
three_parts : (front middle : ℕ) (bytes : List ℕ) → take front bytes ++ (take middle (drop front bytes) ++ drop (front + middle) bytes) ≡ bytes
three_parts front middle bytes =
    ap (λ rest. take front bytes ++ (take middle (drop front bytes) ++ rest)) (sym (drop-drop middle front bytes))
    ∙ (ap (λ rest. take front bytes ++ rest) (take-append-drop middle (drop front bytes)) ∙ take-append-drop front bytes)

pub joined_again : (slot : ℕ) (bytes : List ℕ) → bytes_of (cut slot bytes) ≡ bytes
joined_again slot bytes =
    ap (λ slots. take 16384 bytes ++ (slots ++ drop (16384 + slots_of (length bytes) slot * slot) bytes)) (joined_slots 0 (slots_of (length bytes) slot) slot (drop 16384 bytes))
    ∙ three_parts 16384 (slots_of (length bytes) slot * slot) bytes

-- what is under a name once the file of this one was cut anew
at_each : (before : Files) (name other : List ℕ) (was : File) (slot : ℕ) (b : Bool) → by_bytes other name ≡ b → get before name ≡ Some was
    → option_map bytes_of (cond b (Some (cut slot (bytes_of was))) (get before other)) ≡ option_map bytes_of (get before other)
at_each before name other was slot true e found = ap Some (joined_again slot (bytes_of was)) ∙ sym (ap (λ n. option_map bytes_of (get before n)) (one_name other name e) ∙ ap (option_map bytes_of) found)
at_each before name other was slot false e found = refl

pub same_bytes : (slot : ℕ) (name : List ℕ) (before after : Files) → IsKept slot name before after → HaveSameBytes before after
same_bytes slot name before after (inl same) other = ap (λ files. option_map bytes_of (get files other)) same
same_bytes slot name before after (inr kept) other =
    ap (λ files. option_map bytes_of (get files other)) kept.2
    ∙ (ap (option_map bytes_of) (get-insert nat_list_cmp_total before name (cut slot (bytes_of kept.0)) other)
    ∙ at_each before name other kept.0 slot (by_bytes other name) refl kept.1)
