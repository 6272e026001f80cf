-- The content of an entry that is written needs no more slots than an entry may have.
use Rattle.std.proofs.Common.{Bool, List, [], arith, inl, inr, length, min, mul-le-mul_right, suc-mul, ap, ◌*◌, ◌+◌, ◌-◌, ◌/◌, ◌∷◌, ◌<◌, ◌≡◌, ◌≤◌, ◌⊎◌, suc, true, zero, ℕ}
use Rattle.std.proofs.Math.Nat.{div-lt_iff_lt-mul, lt-div-mul-add}
use Rattle.rock_disk.specs.Cell.{CellState}
use Rattle.entry_cut.specs.Content.{room_of}
use Rattle.core_model.proofs.Holders.{try_inside}
use Rattle.core_model.specs.declared.view.View.{View}
use Rattle.store_rule.specs.declared.store.Pass.{Pass}
use Rattle.store_rule.specs.declared.store.Store.{Store}
use Rattle.store_rule.specs.Ground.{Ground, Offers}
use Rattle.store_rule.specs.Passes.{basis}
use Rattle.slice_chain.specs.Writes.{WroteSlot}
use Rattle.rock_writer.specs.Appending.{Appended, TookBehind, TookHere, TookNone, place_of}
use Rattle.rock_writer.specs.Beginning.{IsTooLong}
use Rattle.rock_writer.specs.Entries.{Entry, body_in, size_of, url_in, with_taken}
use Rattle.rock_writer.specs.Flushing.{IsAtLimit}
use Rattle.rock_writer.specs.declared.fault.Ended.{Ended}
use Rattle.store_serve.specs.Adding.{Call, Took, taken_on}
use Rattle.store_serve.specs.Storing.{EndedWhole, left_of}
use Rattle.crew_accounts.specs.Tracks.{StaysSmall}

-- the slot that is being filled is one that the entry may have, and what is filled into it stays within
filled : (most size room : ℕ) → 0 < size → size ≤ most * room → (size ≤ ((size - 1) / room + 1) * room) × (((size - 1) / room + 1) * room ≤ most * room)
filled most size room some small =
    let wide : 0 < room = has_room room small in
    let last : (size - 1) / room < most = (div-lt_iff_lt-mul wide).1 (omega arith) in
    let here = lt-div-mul-add {a = size - 1} {b = room} wide in
    let next = suc-mul ((size - 1) / room) room in
    ((omega arith), mul-le-mul_right room (omega arith))
  where
    has_room : (r : ℕ) → size ≤ most * r → 0 < r
    has_room zero le = absurd (let z : most * zero ≡ zero = grind arith in omega arith)
    has_room (suc r) le = omega arith

-- one slot more
one_more : (most size room place count : ℕ) → size ≡ (place + 1) * room → place + 1 < most → count ≤ room → size + count ≤ most * room
one_more most size room place count full below few =
    let step = suc-mul (place + 1) room in
    let more = mul-le-mul_right room (let z : place + 1 + 1 ≤ most = omega arith in z) in
    omega (arith, step, more)

module _ {X : Type 0} (g : Ground X) (e : Entry) where
  -- an entry whose URL leaves room, with no byte of its body
  pub begun_small : (url : List ℕ) → url_in g e ≡ url → e.taken ≡ 0 → ¬ IsTooLong g url → StaysSmall g e
  begun_small url url_is none short some =
      let one = mul-le-mul_right (room_of g.slot) (let z : 1 ≤ min 4096 g.setting.slots = omega arith in z) in
      let long = ap length url_is in
      omega arith

module _ {C O : Type 0} (tells : Bool) (state : C → CellState) (offers : O → Offers) (s : Store C O) (t : ℕ) where
  abbrev g : Ground (List ℕ)
  g = basis tells state offers s

  -- where a call took bytes
  appended_small : (e : Entry) (bytes : List ℕ) (p q : Pass C) (count : ℕ) → Appended tells state offers s t e bytes p q count → StaysSmall g e → StaysSmall g (with_taken e (e.taken + count))
  appended_small e bytes p q count k small some = by_how k.how
    where
      fills : (size_of g e ≤ (place_of g e + 1) * room_of g.slot) × ((place_of g e + 1) * room_of g.slot ≤ min 4096 g.setting.slots * room_of g.slot)
      fills = filled (min 4096 g.setting.slots) (size_of g e) (room_of g.slot) (omega arith) (small some)

      by_how : TookNone tells state offers s t e bytes p q count ⊎ TookHere tells state offers s t e bytes p q count ⊎ TookBehind tells state offers s t e bytes p q count
          → size_of g (with_taken e (e.taken + count)) ≤ min 4096 g.setting.slots * room_of g.slot
      by_how (inl h) = let z = h.zero_is in let f = small some in omega arith
      by_how (inr (inl h)) = let z = h.count_is in let f = fills in omega arith
      by_how (inr (inr h)) = let z = h.count_is in
          let f = one_more (min 4096 g.setting.slots) (size_of g e) (room_of g.slot) (place_of g e) count h.full (below h.below) (omega arith) in omega arith
        where
          below : ¬ IsAtLimit g (place_of g e) → place_of g e + 1 < min 4096 g.setting.slots
          below n = omega arith

  -- and where calls did, one behind the other
  pub took_small : (e : Entry) (p : Pass C) (calls : List (Call C)) (q : Pass C) (total : ℕ) → Took tells state offers s t e p calls q total → StaysSmall g e → StaysSmall g (taken_on e total)
  took_small e p [] q total h small some = let z = h.1 in let f = small some in omega arith
  took_small e p (c ∷ earlier) q total (middle, before, took, appended, q_is, total_is) small some =
      let f = appended_small (taken_on e before) c.bytes middle c.after c.count appended (took_small e p earlier middle before took small) some in
      omega (arith, f, total_is)

  -- a slot was written, so there is one
  wrote_some : (v w : View (List ℕ)) (durable done : Bool) → WroteSlot g t v durable done w → 0 < g.setting.slots
  wrote_some v w durable done h = let st = h.tried in
      let lt = try_inside g.setting st.state st.index h.logged st.rule.sound st.at st.may.pass t h.slot st.may.allowed in omega arith

  -- the content of an entry that was written to its end
  pub ended_small : (e : Entry) (p q : Pass C) (ended : Ended) → EndedWhole tells state offers s t e p q ended → StaysSmall g e
      → 32 + length (url_in g e) + length (body_in g e) ≤ min 4096 g.setting.slots * room_of g.slot
  ended_small e p q ended k small =
      let wrote = k.finished.wrote in
      let some = wrote_some wrote.reserved wrote.wrote.written e.is_durable true wrote.wrote.wrote in
      let f = took_small e p k.added.calls k.middle (left_of tells state offers s t e p q) k.added.took small some in
      omega arith
