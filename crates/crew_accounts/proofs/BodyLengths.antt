-- How many bytes of a body of the origin its first slots hold.
use Rattle.std.proofs.Common.{List, ap, arith, drop, length, length-append, length-drop, min, refl, subst, suc, sym, take, zero, ◌*◌, ◌+◌, ◌-◌, ◌<◌, ◌^◌, ◌∙◌, ◌≡◌, ◌≤◌, ℕ}
use Rattle.std.proofs.Math.Nat.{le-div_iff_mul-le, suc-mul, zero-mul}
use Rattle.std.proofs.lemmas.Bool.{le-ltb}
use Rattle.std.proofs.lemmas.List.{length-take, take-take}
use Rattle.swap_meta.specs.Meta.{Spells, meta_bytes, whole_length}
use Rattle.swap_meta.proofs.Written.{front_spelled, length-meta_bytes}
use Rattle.store_key.specs.Key.{key_of}
use Rattle.store_key.proofs.KeyFacts.{key_is_long}
use Rattle.entry_cut.specs.Content.{Cut, content, count, payload, room_of}
use Rattle.store_rule.specs.Ground.{Ground, cut_of}
use Rattle.rock_reader.specs.Responses.{IsOffered, body_below, payload_of, pieces_of}
use Rattle.rock_reader.proofs.Metadata.{spelled_length}

-- so many more rooms
pub more_rooms : (n room : ℕ) → suc n * room ≡ n * room + room
more_rooms n room = suc-mul n room

piece_length : (room n : ℕ) (xs : List ℕ) → length (take room (drop n xs)) ≡ min room (length xs - n)
piece_length room n xs = length-take room (drop n xs) ∙ ap (min room) (length-drop n xs)

module _ (g : Ground (List ℕ)) (anchor offer : ℕ) (url body : List ℕ) (sized : g.slot < 4294967296) (high : g.setting.slots ≤ offer) (o : IsOffered g anchor offer url body) where
  abbrev c : Cut
  c = cut_of g offer 0 0

  abbrev room : ℕ
  room = room_of g.slot

  abbrev size : ℕ
  size = 32 + length c.url

  fits : length c.url + 72 ≤ g.slot
  fits = let e = ap length o.url_is in let s = o.short in omega arith

  f_is : (k : ℕ) → payload_of g anchor offer k ≡ payload c k
  f_is k = let e = le-ltb offer g.setting.slots high in rw e refl

  first_is : payload_of g anchor offer 0 ≡ take room (content c)
  first_is = f_is 0 ∙ ap (λ (n : ℕ). take room (drop n (content c))) (zero-mul room)

  spelled : Spells (take size (payload_of g anchor offer 0)) (key_of c.url) c.url size
  spelled = subst (λ (xs : List ℕ). Spells xs (key_of c.url) c.url size)
      (sym (ap (take size) first_is ∙ take-take size room (content c) (let f = fits in omega arith))) (front_spelled (key_of c.url) c.url c.body (key_is_long c.url) small)
    where
      small : 32 + length c.url < 2 ^ 32
      small = let f = fits in let z = sized in omega arith

  size_is : whole_length (payload_of g anchor offer 0) ≡ size
  size_is = spelled_length (payload_of g anchor offer 0) (key_of c.url) c.url size spelled

  content_length : length (content c) ≡ size + length c.body
  content_length = length-append (meta_bytes (key_of c.url) c.url) c.body ∙ ap (λ (n : ℕ). n + length c.body) (length-meta_bytes (key_of c.url) c.url (key_is_long c.url))

  first_length : length (payload_of g anchor offer 0) ≡ min room (length (content c))
  first_length = ap length first_is ∙ length-take room (content c)

  next_length : (k : ℕ) → length (payload_of g anchor offer k) ≡ min room (length (content c) - k * room)
  next_length k = ap length (f_is k) ∙ piece_length room (k * room) (content c)

  below_length : (n : ℕ) → length (body_below g anchor offer (suc n)) + size ≡ min (suc n * room) (length (content c))
  below_length zero =
      let a = first_length in
      let b : length (body_below g anchor offer 1) ≡ length (payload_of g anchor offer 0) - whole_length (payload_of g anchor offer 0) = length-drop (whole_length (payload_of g anchor offer 0)) (payload_of g anchor offer 0) in
      let s = size_is in let f = fits in let l = content_length in let r = more_rooms 0 room in let z = zero-mul room in omega arith
  below_length (suc n) =
      let a = below_length n in
      let b : length (body_below g anchor offer (suc (suc n))) ≡ length (body_below g anchor offer (suc n)) + length (payload_of g anchor offer (suc n)) = length-append (body_below g anchor offer (suc n)) (payload_of g anchor offer (suc n)) in
      let d = next_length (suc n) in let r = more_rooms (suc n) room in omega arith

  -- they are at most those that so many slots have room for, behind the metadata
  pub few_below : (n : ℕ) → length (body_below g anchor offer n) ≤ n * room - size
  few_below zero = omega arith
  few_below (suc n) = let a = below_length n in omega arith

  -- and all of these, where there are more slots
  pub full_below : (n : ℕ) → 0 < n → n < count c → length (body_below g anchor offer n) ≡ n * room - size
  full_below zero some lt = absurd (omega arith)
  full_below (suc n) some lt =
      let a = below_length n in
      let f = fits in
      let z : (suc n + 1) * room ≤ length (content c) + (room - 1) = (le-div_iff_mul-le {k = room} {x = suc n + 1} {y = length (content c) + (room - 1)} (omega arith)).0 (omega arith) in
      let q : (suc n + 1) * room ≡ suc n * room + room = ap (λ (k : ℕ). k * room) add_suc ∙ more_rooms (suc n) room in
      omega arith
    where
      add_suc : suc n + 1 ≡ suc (suc n)
      add_suc = omega arith

  -- which are fewer than the body has
  pub short_below : (n : ℕ) → 0 < n → n < count c → length (body_below g anchor offer n) < length c.body
  short_below zero some lt = absurd (omega arith)
  short_below (suc n) some lt =
      let a = below_length n in
      let f = fits in
      let l = content_length in
      let z : (suc n + 1) * room ≤ length (content c) + (room - 1) = (le-div_iff_mul-le {k = room} {x = suc n + 1} {y = length (content c) + (room - 1)} (omega arith)).0 (omega arith) in
      let q : (suc n + 1) * room ≡ suc n * room + room = ap (λ (k : ℕ). k * room) add_suc ∙ more_rooms (suc n) room in
      omega arith
    where
      add_suc : suc n + 1 ≡ suc (suc n)
      add_suc = omega arith

  pub pieces_are : pieces_of g anchor offer ≡ count c
  pieces_are = let e = le-ltb offer g.setting.slots high in rw e refl
