-- A script that fits into a file fits into the plain store that is opened on it.
use Rattle.std.proofs.Common.{Bool, List, [], ap, arith, cond, false, inl, inr, length, max, min, refl, subst, sum_by, sym, true, ⊎_elim, ◌+◌, ◌-◌, ◌/◌}
use Rattle.std.proofs.Common.{◌<◌, ◌==◌, ◌∙◌, ◌∷◌, ◌≡◌, ◌≤◌, ◌⊎◌, ℕ}
use Rattle.std.specs.Prelude.{None, Option, Some, nat_le, nat_lt, ◌&&◌}
use Rattle.std.specs.List.{range_with_len}
use Rattle.std.specs.Option.{option_map_or}
use Rattle.std.proofs.Math.Nat.{add-div_right}
use Rattle.std.proofs.lemmas.Bool.Decides.{nat_tests}
use Rattle.store_key.specs.Anchor.{anchor_of}
use Rattle.store_key.specs.Key.{key_of}
use Rattle.rebuild_model.specs.Entry.{Entry, IsComplete}
use Rattle.entry_cut.specs.Content.{content_of, front_size, room_of, slots_needed}
use Rattle.script_text.specs.declared.body.Body.{Body}
use Rattle.script_text.specs.declared.line.Line.{Line}
use Rattle.script_text.specs.declared.request.Request.{Request}
use Rattle.script_text.specs.declared.request.Request.TheVariants.{Begin, Put, Save}
use Rattle.plain_model.specs.declared.store.Plain.{Plain}
use Rattle.plain_model.specs.declared.store.Setting.{Setting}
use Rattle.plain_model.specs.Serving.{bytes_of, fresh}
use Rattle.plain_model.specs.Slots.{held}
use Rattle.plain_model.specs.Store.{meta_size, place_at, published}
use Rattle.plain_laws.specs.Fitting.{Fits, most_held as most_held_by, most_needed, need, need_at}
use Rattle.plain_laws.specs.Opened.{HoldsOfFile}
use Rattle.plain_runs.specs.Runs.{setting_over}
use Rattle.rock_run.specs.Offered.{Response, most_taken, offered_in, taken_at}
use Rattle.run_rules.specs.Fitting.{FitsInto, KeepsNone, KeepsSlots, most_held}
use Rattle.run_rules.proofs.Fitting.{OneWinner, sum_below}

-- what the content of an entry is long
abbrev pub ContentSizes : Type 0
ContentSizes = (url body : List ℕ) → length (content_of url body) ≡ meta_size url + length body

-- so many slots are needed for some bytes
needed_is : (slot size : ℕ) → 0 < room_of slot → 0 < size → slots_needed size slot ≡ published (room_of slot) size + 1
needed_is slot size some bytes =
    let same : size + (room_of slot - 1) ≡ (size - 1) + room_of slot = omega (arith, some, bytes) in
    ap (λ n. n / room_of slot) same ∙ add-div_right (size - 1) some

module _ (slot anchors slots : ℕ) (sizes : ContentSizes) (wide : 40 < slot) where
  abbrev s : Setting
  s = setting_over slot anchors slots

  -- what the content of a response takes, where its URL leaves room in a slot
  abbrev taken : List ℕ → Body → ℕ
  taken url body = cond (nat_le (length url + front_size) slot) (min (slots_needed (length (content_of url (bytes_of body))) slot) 4096) 0

  -- a response may take of the plain store what it takes at its anchor
  need_is : (url : List ℕ) (body : Body) → need s url (bytes_of body) ≡ min (taken url body) slots
  need_is url body = by_room (nat_lt (room_of slot) (meta_size url)) refl
    where
      by_room : (b : Bool) → nat_lt (room_of slot) (meta_size url) ≡ b → need s url (bytes_of body) ≡ min (taken url body) slots
      by_room true t =
          let none : need s url (bytes_of body) ≡ 0 = rw t refl in
          let long : nat_le (length url + front_size) slot ≡ false = grind (arith, nat_tests) in
          let takes : taken url body ≡ 0 = rw long refl in
          omega (arith, none, takes)
      by_room false t =
          let there : nat_le (length url + front_size) slot ≡ true = grind (arith, nat_tests) in
          let size = sizes url (bytes_of body) in
          let many = needed_is slot (length (content_of url (bytes_of body))) (omega (arith, wide)) (omega (arith, size)) in
          let same : published (room_of slot) (length (content_of url (bytes_of body))) ≡ published (room_of slot) (meta_size url + length (bytes_of body)) =
          ap (published (room_of slot)) size in
          let is : need s url (bytes_of body) ≡ min (min 4096 slots) (published (room_of slot) (meta_size url + length (bytes_of body)) + 1) = rw t refl in
          let takes : taken url body ≡ min (slots_needed (length (content_of url (bytes_of body))) slot) 4096 = rw there refl in
          omega (arith, many, same, is, takes)

  -- at any anchor
  offered_is : (a : ℕ) (url : List ℕ) (body : Body) → cond (anchor_of (key_of url) anchors == a) (need s url (bytes_of body)) 0
      ≡ min (taken_at anchors slot a record { url = url; body = body }) slots
  offered_is a url body = by_anchor (anchor_of (key_of url) anchors == a) refl
    where
      by_anchor : (b : Bool) → (anchor_of (key_of url) anchors == a) ≡ b
          → cond (anchor_of (key_of url) anchors == a) (need s url (bytes_of body)) 0 ≡ min (taken_at anchors slot a record { url = url; body = body }) slots
      by_anchor true t =
          let here : cond (anchor_of (key_of url) anchors == a) (need s url (bytes_of body)) 0 ≡ need s url (bytes_of body) = rw t refl in
          let takes : taken_at anchors slot a record { url = url; body = body } ≡ taken url body = rw t refl in
          let is = need_is url body in
          omega (arith, here, takes, is)
      by_anchor false t =
          let none : cond (anchor_of (key_of url) anchors == a) (need s url (bytes_of body)) 0 ≡ 0 = rw t refl in
          let takes : taken_at anchors slot a record { url = url; body = body } ≡ 0 = rw t refl in
          omega (arith, none, takes)

  request_is : (a : ℕ) (request : Request) → need_at s a request ≡ min (option_map_or (taken_at anchors slot a) (offered_in request) 0) slots
  request_is a (Put url body) = offered_is a url body
  request_is a (Save url body) = offered_is a url body
  request_is a (Begin tab url body) = offered_is a url body
  request_is a _ = omega arith

  pub lines_are : (a : ℕ) (lines : List Line) → most_needed s a lines ≡ min (most_taken anchors slot a lines) slots
  lines_are a [] = omega arith
  lines_are a (line ∷ lines) =
      let first = request_is a line.request in
      let rest = lines_are a lines in
      omega (arith, first, rest)

-- what an anchor of the plain store holds at the opening, by the file
abbrev pub HeldOfFile : (slot : ℕ) (images : List (List ℕ)) (anchors : ℕ) → Plain → Type 0
HeldOfFile slot images anchors plain = (a : ℕ) → (held (room_of slot) (place_at plain a) ≡ 0) ⊎ HoldsOfFile slot images anchors a (room_of slot) plain

module _ (slot anchors : ℕ) (images : List (List ℕ)) (script : List Line) (plain : Plain) (sizes : ContentSizes) (wide : 40 < slot)
    (one : OneWinner) (holds : HeldOfFile slot images anchors plain) (fits : FitsInto slot anchors images script) where
  abbrev over : Setting
  over = setting_over slot anchors (length images)

  held_below : (a : ℕ) → a < anchors → held (room_of slot) (place_at plain a) ≤ fits.kept a
  held_below a lt = ⊎_elim
      (λ (none : held (room_of slot) (place_at plain a) ≡ 0). omega arith)
      (λ (h : HoldsOfFile slot images anchors a (room_of slot) plain). ⊎_elim
      (λ (k : KeepsSlots slot anchors images a (fits.kept a)).
      let same = ap (λ (e : Entry). length e.chain) (one slot images anchors a h.file k.entry h.winner k.winner) in
      let few = h.few in
      let count = k.count_is in
      omega (arith, same, few, count))
      (λ (k : KeepsNone slot anchors images a (fits.kept a)). absurd (k.none h.file h.winner.complete h.winner.at))
      (fits.file a lt))
      (holds a)

  -- so its slots suffice
  pub suffices : sum_by (most_held_by over script plain) (range_with_len 0 anchors) ≤ length images
  suffices =
      let less = sum_below (most_held_by over script plain) (most_held slot anchors images script fits.kept) 0 anchors
      (λ a lt. let small : a < anchors = omega (arith, lt) in
      let held = held_below a small in
      let needs = lines_are slot anchors (length images) sizes wide a script in omega (arith, held, needs)) in
      let enough = fits.enough in
      omega (arith, less, enough)

-- A script fits into a file in whose slots no entry is complete, where it fits into a plain store that was never written.
pub fits_unwritten : (slot anchors : ℕ) (images : List (List ℕ)) (script : List Line) → ContentSizes → 40 < slot
    → ((e : Entry) → IsComplete slot images e → ⊥) → Fits (setting_over slot anchors (length images)) script (fresh anchors) → FitsInto slot anchors images script
fits_unwritten slot anchors images script sizes wide none fits = record {
  kept = λ a. 0;
  file = λ a lt. inr (record { none = λ e complete at. none e complete; count_is = refl });
  enough =
      let over : Setting = setting_over slot anchors (length images) in
      let less = sum_below (most_held slot anchors images script (λ a. 0)) (most_held_by over script (fresh anchors)) 0 anchors
      (λ a lt. let needs = lines_are slot anchors (length images) sizes wide a script in omega (arith, needs)) in
      let enough = fits.slots in
      omega (arith, less, enough);
}
