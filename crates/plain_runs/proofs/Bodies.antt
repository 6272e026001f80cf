-- The bytes of the body of an entry that its published slots hold are those that a reader may be given.
use Rattle.std.proofs.Common.{List, ap, arith, length, length-append, refl, suc, sym, take, zero, ⊎_elim, ◌*◌, ◌+◌, ◌++◌, ◌-◌, ◌/◌, ◌<◌, ◌∙◌, ◌≡◌, ◌≢◌, ◌≤◌, ℕ}
use Rattle.std.proofs.Math.Nat.{le-div_iff_mul-le, suc-mul, zero-mul}
use Rattle.std.proofs.lemmas.Bool.{cases_lt}
use Rattle.std.proofs.lemmas.List.{take-append-le, take_all}
use Rattle.swap_meta.specs.Meta.{meta_bytes}
use Rattle.swap_meta.proofs.Written.{length-meta_bytes}
use Rattle.store_key.specs.Key.{key_of}
use Rattle.store_key.proofs.KeyFacts.{key_is_long}
use Rattle.entry_cut.specs.Content.{content, count, room_of}
use Rattle.plain_model.specs.declared.entry.Entry.{Entry}
use Rattle.plain_model.specs.declared.entry.Life.{Life}
use Rattle.plain_model.specs.declared.entry.Life.TheVariants.{GivenUp, Growing, Whole}
use Rattle.plain_model.specs.Store.{available, meta_size, published}
use Rattle.store_rule.specs.Ground.{Ground, cut_of}
use Rattle.rock_reader.specs.Responses.{IsOffered, body_below, pieces_of}
use Rattle.crew_accounts.proofs.GivenBytes.{IsFromFront}
use Rattle.crew_accounts.proofs.BodyLengths.{full_below, pieces_are}
use Rattle.plain_runs.specs.Words.{IsOfOffer, slots_published}

-- a front of a list is so many of its items
front_taken : (xs ys zs : List ℕ) (n : ℕ) → zs ≡ xs ++ ys → length xs ≡ n → xs ≡ take n zs
front_taken xs ys zs n e long = sym (ap (take n) e ∙ take-append-le n xs ys (omega arith) ∙ take_all n xs (omega arith))

-- so many full slots with bytes behind them are fewer than all that a content needs
fewer : (size room many : ℕ) → 0 < room → 0 < many → many ≤ size → (many - 1) / room < (size + (room - 1)) / room
fewer size room many some more le =
    let n : ℕ = (many - 1) / room in
    let a : n * room ≤ many - 1 = (le-div_iff_mul-le {k = room} {x = n} {y = many - 1} some).0 (omega arith) in
    let b : suc n * room ≡ n * room + room = suc-mul n room in
    (le-div_iff_mul-le {k = room} {x = suc n} {y = size + (room - 1)} some).1 (omega arith)

module _ (g : Ground (List ℕ)) (a : ℕ) (e : Entry) (of : IsOfOffer g a e) (from : IsFromFront) (sized : g.slot < 4294967296) where
  abbrev room : ℕ
  room = room_of g.slot

  abbrev full : ℕ
  full = published room e.content

  whole_bytes : e.life ≡ Whole → body_below g a e.offer (full + 1) ≡ e.body
  whole_bytes is = ap (body_below g a e.offer) (sym (of.whole is)) ∙ sym (from.whole g a e.offer e.url e.body sized of.response)

  -- an entry that is not whole is one of the origin's
  pub new_offer : e.life ≢ Whole → g.setting.slots ≤ e.offer
  new_offer ne = ⊎_elim {C = g.setting.slots ≤ e.offer} (λ (low : e.offer < g.setting.slots). absurd (ne (of.old low))) (λ (high : g.setting.slots ≤ e.offer). high) (cases_lt e.offer g.setting.slots)

  module _ (ne : e.life ≢ Whole) where
    high : g.setting.slots ≤ e.offer
    high = new_offer ne

    its : IsOffered g a e.offer e.url e.body
    its = of.response.new high

    fits : length e.url + 72 ≤ g.slot
    fits = let s = its.short in omega arith

    size_is : length (content (cut_of g e.offer 0 0)) ≡ meta_size e.url + length e.body
    size_is = let u = ap length its.url_is in let b = ap length its.body_is in
        let c = length-append (meta_bytes (key_of (cut_of g e.offer 0 0).url) (cut_of g e.offer 0 0).url) (cut_of g e.offer 0 0).body in
        let m = length-meta_bytes (key_of (cut_of g e.offer 0 0).url) (cut_of g e.offer 0 0).url (key_is_long (cut_of g e.offer 0 0).url) in omega arith

    -- it has fewer slots published than its offer has pieces
    pub not_all : full < pieces_of g a e.offer
    not_all =
        let f = fits in let m = of.more high in let n = of.most high in
        let l : full < count (cut_of g e.offer 0 0) = fewer (length (content (cut_of g e.offer 0 0))) room e.content (omega arith) (omega arith) (let s = size_is in omega arith) in
        let p = pieces_are g a e.offer e.url e.body sized high its in omega arith

    front_length : (n : ℕ) → n ≡ full → length (body_below g a e.offer n) ≡ n * room - meta_size e.url
    front_length zero is = let z = zero-mul room in omega arith
    front_length (suc n) is =
        let p = pieces_are g a e.offer e.url e.body sized high its in
        let l = not_all in
        let u = ap length its.url_is in
        let f : length (body_below g a e.offer (suc n)) ≡ suc n * room - (32 + length (cut_of g e.offer 0 0).url) = full_below g a e.offer e.url e.body sized high its (suc n) (omega arith) (omega arith) in omega arith

    front_bytes : body_below g a e.offer full ≡ take (full * room - meta_size e.url) e.body
    front_bytes = let l = not_all in let rest = from.front g a e.offer full e.url e.body sized of.response (omega arith) in
        front_taken (body_below g a e.offer full) rest.0 e.body (full * room - meta_size e.url) rest.1 (front_length full refl)

  by_life : (life : Life) → e.life ≡ life → body_below g a e.offer (slots_published room life e.content) ≡ available room (record e { life = life })
  by_life Whole is = whole_bytes is
  by_life Growing is = front_bytes (λ z. let y : Growing ≡ Whole = sym is ∙ z in cc)
  by_life GivenUp is = front_bytes (λ z. let y : GivenUp ≡ Whole = sym is ∙ z in cc)

  -- what the published slots hold is what a reader may be given
  pub published_bytes : body_below g a e.offer (slots_published room e.life e.content) ≡ available room e
  published_bytes = by_life e.life refl
