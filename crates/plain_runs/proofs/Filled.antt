-- A complete entry has as many slots as its content needs: all but the last are full.
use Rattle.std.proofs.Common.{List, [], arith, length, subst, sum_by, sym, ◌*◌, ◌+◌, ◌-◌, ◌<◌, ◌∷◌, ◌≡◌, ◌≤◌, ℕ}
use Rattle.std.specs.List.{AllByRecursion}
use Rattle.std.proofs.Math.Nat.{div-lt_iff_lt-mul, le-div_iff_mul-le}
use Rattle.std.proofs.lemmas.List.Elements.{recursion_from_All}
use Rattle.std.proofs.lemmas.List.Sums.{sum_by-cons}
use Rattle.rebuild_model.specs.Entry.{AllButLast, Entry, IsComplete, content_of}
use Rattle.rebuild_model.specs.Image.{BelongsTo, IsFile, header_at}
use Rattle.rebuild_model.proofs.Lengths.{content_length}
use Rattle.plain_model.specs.Store.{published}

-- what is more than m rooms and at most one room more has m rooms in front of its last byte
rooms : (room m size : ℕ) → 0 < room → m * room < size → size ≤ (m + 1) * room → published room size ≡ m
rooms room m size some more most =
    let split : (m + 1) * room ≡ m * room + room = omega arith in
    let low : m ≤ published room size = (le-div_iff_mul-le {k = room} {x = m} {y = size - 1} some).1 (omega arith) in
    let high : published room size < m + 1 = (div-lt_iff_lt-mul some).1 (omega arith) in
    omega arith

module _ (room slot : ℕ) (images : List (List ℕ)) (slot_is : slot ≡ room + 40) where
  abbrev size_at : ℕ → ℕ
  size_at t = (header_at images t).payload_size

  -- so many slots are full before the last one
  record Fills (xs : List ℕ) : Type 0 where
    pub full : ℕ
    pub many : length xs ≡ full + 1
    pub more : full * room < sum_by size_at xs
    pub most : sum_by size_at xs ≤ (full + 1) * room

  fills : (s x : ℕ) (xs : List ℕ) → AllByRecursion (BelongsTo slot images s) (x ∷ xs) → AllButLast (λ t. (header_at images t).payload_size + 40 ≡ slot) (x ∷ xs) → Fills (x ∷ xs)
  fills s x [] all full =
      let least = all.0.sane.sane.payload_from in
      let most = all.0.sane.sane.payload_to in
      let sum = sum_by-cons size_at x [] in
      record { full = 0; many = omega arith; more = omega arith; most = omega arith }
  fills s x (y ∷ ys) all full =
      let rest = fills s y ys all.1 full.1 in
      let here = full.0 in
      let sum = sum_by-cons size_at x (y ∷ ys) in
      let many = rest.many in
      let more = rest.more in
      let most = rest.most in
      let one : (rest.full + 1) * room ≡ rest.full * room + room = omega arith in
      let two : (rest.full + 1 + 1) * room ≡ (rest.full + 1) * room + room = omega arith in
      record { full = rest.full + 1; many = omega arith; more = omega arith; most = omega arith }

  pub slots_filled : (e : Entry) → IsFile slot images → IsComplete slot images e → length e.chain ≡ published room (length (content_of images e.chain)) + 1
  slots_filled e file whole =
      let chain = whole.chain in
      let belong : AllByRecursion (BelongsTo slot images e.first) (e.first ∷ chain.behind) = subst (AllByRecursion (BelongsTo slot images e.first)) chain.begins (recursion_from_All (BelongsTo slot images e.first) e.chain chain.belong) in
      let full : AllButLast (λ t. (header_at images t).payload_size + 40 ≡ slot) (e.first ∷ chain.behind) = subst (AllButLast (λ t. (header_at images t).payload_size + 40 ≡ slot)) chain.begins whole.full in
      let h : Fills (e.first ∷ chain.behind) = fills e.first e.first chain.behind belong full in
      let f : Fills e.chain = subst Fills (sym chain.begins) h in
      let size = content_length slot images e.first e.chain file chain in
      let least = belong.0.sane.sane.payload_from in
      let first = belong.0.sane.sane.payload_to in
      let many = f.many in
      let is = rooms room f.full (length (content_of images e.chain)) (omega arith) (subst (λ (n : ℕ). f.full * room < n) (sym size) f.more) (subst (λ (n : ℕ). n ≤ (f.full + 1) * room) (sym size) f.most) in
      omega arith
