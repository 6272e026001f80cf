-- How many bytes of a body of the opening's file its first slots hold.
use Rattle.std.proofs.Common.{List, ap, arith, drop, get_or, length, refl, subst, suc, sym, take, zero, ◌*◌, ◌+◌, ◌-◌, ◌<◌, ◌∙◌, ◌≡◌, ◌≤◌, ℕ}
use Rattle.std.proofs.Math.Nat.{zero-mul}
use Rattle.std.proofs.lemmas.Bool.{lt-ltb}
use Rattle.std.proofs.lemmas.List.{length-append, length-drop, length-take}
use Rattle.slot_cell.specs.declared.header.TheConstants.{HEADER_SIZE}
use Rattle.swap_meta.specs.Meta.{Spells, whole_length}
use Rattle.swap_meta.proofs.Size.{spelled_size}
use Rattle.plain_model.specs.Store.{meta_size}
use Rattle.rebuild_model.specs.Image.{BelongsTo, header_at, image_at, payload_at}
use Rattle.entry_cut.specs.Content.{room_of}
use Rattle.store_rule.specs.Ground.{Ground}
use Rattle.rock_reader.specs.Responses.{IsOpened, body_below, payload_of, pieces_of}
use Rattle.rock_reader.proofs.Metadata.{spelled_length}
use Rattle.crew_accounts.proofs.BodyLengths.{more_rooms}

module _ (g : Ground (List ℕ)) (anchor offer : ℕ) (url body : List ℕ) (low : offer < g.setting.slots) (o : IsOpened g anchor offer url body) where
  abbrev room : ℕ
  room = room_of g.slot

  abbrev slot_at : ℕ → ℕ
  slot_at k = get_or (g.chain anchor) k 0

  payload_is : (k : ℕ) → payload_of g anchor offer k ≡ payload_at g.setting.contents (slot_at k)
  payload_is k = let e = lt-ltb offer g.setting.slots low in rw e refl

  pieces_are : pieces_of g anchor offer ≡ length (g.chain anchor)
  pieces_are = let e = lt-ltb offer g.setting.slots low in rw e refl

  -- each slot has at most as many bytes as there is room for
  belongs : (k : ℕ) → k < length (g.chain anchor) → BelongsTo g.slot g.setting.contents o.entry.first (slot_at k)
  belongs k lt = subst (λ (xs : List ℕ). BelongsTo g.slot g.setting.contents o.entry.first (get_or xs k 0)) o.chain_is (o.complete.chain.belong k 0 (let e = ap length o.chain_is in omega arith))

  slot_fits : (k : ℕ) → k < length (g.chain anchor) → length (payload_of g anchor offer k) ≤ room
  slot_fits k lt =
      let sane = (belongs k lt).sane.sane.payload_to in
      let l = length-take (header_at g.setting.contents (slot_at k)).payload_size (drop HEADER_SIZE (image_at g.setting.contents (slot_at k))) in
      let e = ap length (payload_is k) in omega arith

  -- the first one begins with the metadata
  first_is : o.entry.first ≡ slot_at 0
  first_is = sym (ap (λ (xs : List ℕ). get_or xs 0 0) o.complete.chain.begins) ∙ ap (λ (xs : List ℕ). get_or xs 0 0) o.chain_is

  spelled : Spells (take o.complete.size (payload_of g anchor offer 0)) o.entry.key o.entry.url o.complete.size
  spelled = subst (λ (xs : List ℕ). Spells (take o.complete.size xs) o.entry.key o.entry.url o.complete.size) (ap (payload_at g.setting.contents) first_is ∙ sym (payload_is 0)) o.complete.meta

  size_is : whole_length (payload_of g anchor offer 0) ≡ o.complete.size
  size_is = spelled_length (payload_of g anchor offer 0) o.entry.key o.entry.url o.complete.size spelled

  inside : o.complete.size ≤ length (payload_of g anchor offer 0)
  inside = let a = spelled.size in let b = length-take o.complete.size (payload_of g anchor offer 0) in omega arith

  below_length : (n : ℕ) → n < length (g.chain anchor) → length (body_below g anchor offer (suc n)) + o.complete.size ≤ suc n * room
  below_length zero lt =
      let f = slot_fits 0 lt in
      let b : length (body_below g anchor offer 1) ≡ length (payload_of g anchor offer 0) - whole_length (payload_of g anchor offer 0) = length-drop (whole_length (payload_of g anchor offer 0)) (payload_of g anchor offer 0) in
      let s = size_is in let i = inside in let r = more_rooms 0 room in let z = zero-mul room in omega arith
  below_length (suc n) lt =
      let a = below_length n (omega arith) in
      let b : length (body_below g anchor offer (suc (suc n))) ≡ length (body_below g anchor offer (suc n)) + length (payload_of g anchor offer (suc n)) = length-append (body_below g anchor offer (suc n)) (payload_of g anchor offer (suc n)) in
      let f = slot_fits (suc n) lt in let r = more_rooms (suc n) room in omega arith

  -- they are at most those that so many slots have room for, behind the metadata
  pub few_opened : (n : ℕ) → n ≤ pieces_of g anchor offer → length (body_below g anchor offer n) ≤ n * room - meta_size url
  few_opened zero le = omega arith
  few_opened (suc n) le =
      let p = pieces_are in
      let a = below_length n (omega arith) in
      let l = spelled_size (take o.complete.size (payload_of g anchor offer 0)) o.entry.key o.entry.url o.complete.size spelled in
      let e = ap length o.url_is in omega arith
