-- The bytes that lines gave of an entry, where bytes are told of.
use Rattle.std.proofs.Common.{Bool, Contains, List, Some, [], add-one, ap, append_assoc, arith, cond, false, length, refl, subst, sym, take, ⊎_elim, ◌*◌, ◌+◌, ◌++◌, ◌-◌, ◌<◌, ◌∙◌, ◌∷◌, ◌≡◌, ◌≤◌, ℕ}
use Rattle.std.specs.Prelude.{IsTrue}
use Rattle.std.proofs.lemmas.Bool.{cases_lt, lt-ltb}
use Rattle.std.proofs.lemmas.List.{append-nil, take-append-le, take_all}
use Rattle.lock_word.specs.Words.{version_of}
use Rattle.rock_disk.specs.Cell.{CellState}
use Rattle.entry_cut.specs.Content.{count, room_of}
use Rattle.plain_model.specs.Store.{meta_size}
use Rattle.core_model.specs.Anchors.{opening_counter}
use Rattle.core_model.specs.Layout.{word_in}
use Rattle.core_model.specs.declared.moves.Side.TheVariants.{Offer}
use Rattle.core_model.specs.declared.view.Place.TheVariants.{Beside}
use Rattle.core_model.specs.declared.view.Sight.TheVariants.{Named, Published, Stood}
use Rattle.core_model.specs.declared.view.View.{View}
use Rattle.line_account.specs.Answers.{IsPart, HasGiven, HasPart, IsEntryAt, IsSure, IsWhole, Run, bytes_with}
use Rattle.script_text.specs.Requests.{url_in}
use Rattle.line_account.specs.Lines.{Served, opened_by}
use Rattle.store_rule.specs.declared.store.Pass.{Pass}
use Rattle.store_rule.specs.declared.store.Store.{Store}
use Rattle.store_rule.specs.Ground.{Ground, Offers, anchor_for, cut_of, url_of}
use Rattle.store_rule.specs.Passes.{basis, view}
use Rattle.rock_reader.specs.Reading.{ReadsAs, Standing}
use Rattle.rock_reader.specs.Responses.{IsResponse, body_at, body_below, pieces_of}
use Rattle.store_serve.specs.Following.{Given, Gives}
use Rattle.crew_accounts.specs.Runs.{IsTold, Past, run_of}
use Rattle.crew_accounts.proofs.BodyLengths.{few_below, full_below, short_below}
use Rattle.crew_accounts.proofs.OpenedLengths.{few_opened}
use Rattle.crew_accounts.proofs.ReadingOn.{gives_on}
use Rattle.crew_accounts.proofs.Running.{new_body, new_url}

-- the tab was given some slots of what a line offers, and not all
abbrev pub IsGrowing : Ground (List ℕ) → Standing → Type 0
IsGrowing g f = (0 < f.place) × (g.setting.slots ≤ f.offer) × (f.place < count (cut_of g f.offer 0 0))

-- what the law of the reader says of bodies
pub record IsFromFront : Type 0 where
  pub front : (g : Ground (List ℕ)) (anchor offer places : ℕ) (url body : List ℕ) → g.slot < 4294967296 → IsResponse g anchor offer url body → places ≤ pieces_of g anchor offer
      → (rest : List ℕ) × (body ≡ body_below g anchor offer places ++ rest)
  pub whole : (g : Ground (List ℕ)) (anchor offer : ℕ) (url body : List ℕ) → g.slot < 4294967296 → IsResponse g anchor offer url body → body ≡ body_below g anchor offer (pieces_of g anchor offer)

taken_front : (xs ys zs : List ℕ) → zs ≡ xs ++ ys → xs ≡ take (length xs) zs
taken_front xs ys zs e = sym (ap (take (length xs)) e ∙ take-append-le (length xs) xs ys (omega arith) ∙ take_all (length xs) xs (omega arith))

module _ {C O : Type 0} (tells : Bool) (state : C → CellState) (offers : O → Offers) (s : Store C O) (told : Bool) (past : Past) (so : IsTold (basis tells state offers s) told past tells) (y : IsTrue told) where
  abbrev g : Ground (List ℕ)
  g = basis tells state offers s

  abbrev r : Run (List ℕ)
  r = run_of (basis tells state offers s) told past

  -- the bytes of pieces go on with the body
  pub gives_bytes : (t : ℕ) (e : Standing) (p : Pass C) (calls : List (Given C)) (f : Standing) (q : Pass C) (bytes : List ℕ) → ReadsAs tells state offers s p t e → Gives tells state offers s t e p calls f q bytes
      → body_below g e.anchor e.offer e.place ++ bytes ≡ body_below g e.anchor e.offer f.place
  gives_bytes t e p [] f q bytes h k = ap (λ (xs : List ℕ). body_below g e.anchor e.offer e.place ++ xs) k.2 ∙ append-nil (body_below g e.anchor e.offer e.place) ∙ ap (λ (z : Standing). body_below g e.anchor e.offer z.place) (sym k.0)
  gives_bytes t e p (c ∷ earlier) f q bytes h k =
      let first = gives_bytes t e p earlier k.0 k.1 k.2 h k.3 in
      let same = (gives_on tells state offers s t e p earlier k.0 k.1 k.2 h k.3).entry in
      let piece = k.4.bytes (so.cells y) (so.file y) in
      ap (λ (xs : List ℕ). body_below g e.anchor e.offer e.place ++ xs) k.7
      ∙ sym (append_assoc (body_below g e.anchor e.offer e.place) k.2 (take c.count c.after))
      ∙ (λ i. first i ++ piece i)
      ∙ (λ i. body_below g e.anchor e.offer k.0.place ++ body_at g (same.anchor i) (same.offer i) k.0.place)
      ∙ ap (body_below g e.anchor e.offer) (sym (add-one k.0.place))
      ∙ ap (λ (z : Standing). body_below g e.anchor e.offer z.place) (sym k.5)

  -- What is known of the entry of a tab that was given slots of it.
  pub record Known (f : Standing) : Type 0 where
    pub url_is : r.url f.offer ≡ f.url
    pub body : List ℕ
    pub body_is : r.body f.offer ≡ body
    pub response : IsResponse g f.anchor f.offer f.url body

  module _ (t : ℕ) (q : Pass C) (f : Standing) (h : ReadsAs tells state offers s q t f) (mine : f.is_other ≡ false) (new : opening_counter g.setting < f.version → g.setting.slots ≤ f.offer)
      (old : f.version ≤ opening_counter g.setting → f.offer ≡ word_in g.setting g.setting.words (Beside Offer f.anchor)) where
    inside : f.anchor < g.setting.anchors
    inside = h.own.stands.rule.sound.anchors.seen.inside h.own.stands.index (view q) h.own.stands.at (Named f.anchor f.version Offer f.offer) h.offer_seen

    low_version : f.offer < g.setting.slots → f.version ≤ opening_counter g.setting
    low_version low = ⊎_elim {C = f.version ≤ opening_counter g.setting}
        (λ (high : opening_counter g.setting < f.version). absurd (let n = new high in omega arith))
        (λ (z : f.version ≤ opening_counter g.setting). z)
        (cases_lt (opening_counter g.setting) f.version)

    known_as : (body : List ℕ) → IsResponse g f.anchor f.offer f.url body → Known f
    known_as body response = ⊎_elim
        (λ (low : f.offer < g.setting.slots).
        let its = so.old y f.anchor f.offer f.url body inside low (sym (old (low_version low))) (response.old low) in
        let test = lt-ltb f.offer g.setting.slots low in
        record {
          url_is = ap (λ (b : Bool). cond b (past.url f.offer) (url_of g f.offer)) test ∙ its.0;
          body = body;
          body_is = ap (λ (b : Bool). cond b (past.body f.offer) (g.offers.body (f.offer - g.setting.slots))) test ∙ its.1;
          response = response;
        })
        (λ (high : g.setting.slots ≤ f.offer).
        let its = response.new high in
        record { url_is = new_url g told past f.offer high ∙ its.url_is; body = body; body_is = new_body g told past f.offer high ∙ its.body_is; response = response })
        (cases_lt f.offer g.setting.slots)

    pub known : 0 < f.place → Known f
    known some = let x = (h.given mine some).1 (so.cells y) (so.file y) in known_as x.0 x.1

    few_of : Known f → length (body_below g f.anchor f.offer f.place) ≤ f.place * room_of g.slot - meta_size f.url
    few_of k = ⊎_elim {C = length (body_below g f.anchor f.offer f.place) ≤ f.place * room_of g.slot - meta_size f.url}
        (λ (low : f.offer < g.setting.slots). few_opened g f.anchor f.offer f.url k.body low (k.response.old low) f.place h.inside)
        (λ (high : g.setting.slots ≤ f.offer). let its = k.response.new high in let few = few_below g f.anchor f.offer f.url k.body so.small high its f.place in let e = ap length its.url_is in omega arith)
        (cases_lt f.offer g.setting.slots)

    none_few : f.place ≡ 0 → length (body_below g f.anchor f.offer f.place) ≤ f.place * room_of g.slot - meta_size f.url
    none_few e = let z : length (body_below g f.anchor f.offer f.place) ≡ 0 = ap (λ (n : ℕ). length (body_below g f.anchor f.offer n)) e in omega arith

    pub few : length (body_below g f.anchor f.offer f.place) ≤ f.place * room_of g.slot - meta_size f.url
    few = ⊎_elim {C = length (body_below g f.anchor f.offer f.place) ≤ f.place * room_of g.slot - meta_size f.url}
        (λ (some : 0 < f.place). few_of (known some))
        (λ (none : f.place ≤ 0). none_few (omega arith))
        (cases_lt 0 f.place)

    -- and all that these slots have room for, where there are more
    full : 0 < f.place → g.setting.slots ≤ f.offer → f.place < count (cut_of g f.offer 0 0) → length (body_below g f.anchor f.offer f.place) ≡ f.place * room_of g.slot - meta_size f.url
    full some high more =
        let k = known some in
        let its = k.response.new high in
        let all = full_below g f.anchor f.offer f.url k.body so.small high its f.place some more in
        let e = ap length its.url_is in
        all ∙ ap (λ (n : ℕ). f.place * room_of g.slot - (32 + n)) e

    -- and fewer than the body has
    fewer : IsGrowing g f → length (body_below g f.anchor f.offer f.place) < length (r.body f.offer)
    fewer grows =
        let k = known grows.0 in
        let its = k.response.new grows.1 in
        let short = short_below g f.anchor f.offer f.url k.body so.small grows.1 its f.place grows.0 grows.2 in
        let e = ap length its.body_is in
        let b = ap length k.body_is in
        omega arith

    module _ (from : IsFromFront) where
      first_of : Known f → body_below g f.anchor f.offer f.place ≡ take (length (body_below g f.anchor f.offer f.place)) (r.body f.offer)
      first_of k = let rest = from.front g f.anchor f.offer f.place f.url k.body so.small k.response h.inside in
          taken_front (body_below g f.anchor f.offer f.place) rest.0 (r.body f.offer) (k.body_is ∙ rest.1)

      first_none : f.place ≡ 0 → body_below g f.anchor f.offer f.place ≡ take (length (body_below g f.anchor f.offer f.place)) (r.body f.offer)
      first_none e = subst (λ (n : ℕ). body_below g f.anchor f.offer n ≡ take (length (body_below g f.anchor f.offer n)) (r.body f.offer)) (sym e) refl

      pub first_ones : body_below g f.anchor f.offer f.place ≡ take (length (body_below g f.anchor f.offer f.place)) (r.body f.offer)
      first_ones = ⊎_elim
          (λ (some : 0 < f.place). first_of (known some))
          (λ (none : f.place ≤ 0). first_none (omega arith))
          (cases_lt 0 f.place)

      pub all_of_it : 0 < f.place → f.place ≡ pieces_of g f.anchor f.offer → body_below g f.anchor f.offer f.place ≡ r.body f.offer
      all_of_it some all = let k = known some in ap (body_below g f.anchor f.offer) all ∙ sym (from.whole g f.anchor f.offer f.url k.body so.small k.response) ∙ sym k.body_is

      -- So a line that was given these bytes in all has given what the account asks.
      pub given_of : (w : View (List ℕ)) (served : List Served) (l first : Served) → opened_by served l ≡ Some first → url_in first.asked.request ≡ Some f.url → f.anchor ≡ anchor_for g f.url → version_of first.opened ≡ f.version
          → (entry : IsEntryAt r w f.anchor first.opened f.url) → entry.offer ≡ f.offer → bytes_with served l ≡ body_below g f.anchor f.offer f.place → (0 < f.place → Contains w.seen (Published f.anchor f.version f.place))
          → (IsSure l.answer → 0 < f.place) → (IsWhole l.answer → (0 < f.place) × (f.place ≡ pieces_of g f.anchor f.offer)) → (IsPart l.answer → IsGrowing g f) → HasGiven r w served l
      given_of w served l first opened named anchor version entry offer gave shown sure whole part = record {
        first = first;
        opened_is = opened;
        url = f.url;
        named = named;
        entry = moved.0;
        place = f.place;
        most = let n = ap length gave in let m = few in omega arith;
        sure = sure;
        url_is = λ some. ap r.url same_offer ∙ (known some).url_is;
        first_ones = gave ∙ first_ones ∙ (λ i. take (length (sym gave i)) (r.body (sym same_offer i)));
        whole = λ z. let all = whole z in gave ∙ all_of_it all.0 all.1 ∙ ap r.body (sym same_offer);
        fewer = λ z. let few = fewer (part z) in let n = ap length gave in let o = ap (λ (k : ℕ). length (r.body k)) same_offer in omega arith;
        published = λ some. subst (λ (a : ℕ). Contains w.seen (Published a (version_of first.opened) f.place)) anchor (subst (λ (x : ℕ). Contains w.seen (Published f.anchor x f.place)) (sym version) (shown some));
      }
        where
          moved : (k : IsEntryAt r w (anchor_for g f.url) first.opened f.url) × (k.offer ≡ entry.offer)
          moved = subst (λ (c : ℕ). (k : IsEntryAt r w c first.opened f.url) × (k.offer ≡ entry.offer)) anchor (entry, refl)

          same_offer : moved.0.offer ≡ f.offer
          same_offer = moved.1 ∙ offer

      -- PART
      pub part_of : (w : View (List ℕ)) (served : List Served) (l first : Served) (opened : opened_by served l ≡ Some first) (named : url_in first.asked.request ≡ Some f.url) (anchor : f.anchor ≡ anchor_for g f.url) (version : version_of first.opened ≡ f.version)
          (entry : IsEntryAt r w f.anchor first.opened f.url) (offer : entry.offer ≡ f.offer) (gave : bytes_with served l ≡ body_below g f.anchor f.offer f.place) (shown : 0 < f.place → Contains w.seen (Published f.anchor f.version f.place))
          (sure : IsSure l.answer → 0 < f.place) (whole : IsWhole l.answer → (0 < f.place) × (f.place ≡ pieces_of g f.anchor f.offer)) (v : View (List ℕ)) (e : ℕ) → version_of e ≡ f.version
          → Contains w.seen (Stood f.anchor e) → 0 < f.place → g.setting.slots ≤ f.offer → f.place < count (cut_of g f.offer 0 0) → ((n : ℕ) → Contains v.seen (Published f.anchor f.version n) → n ≤ f.place) → HasPart r v w served l e
      unfolding given_of
      part_of w served l first opened named anchor version entry offer gave shown sure whole v e same seen some high more least = record {
        given = given_of w served l first opened named anchor version entry offer gave shown sure whole (λ z. (some, high, more));
        version = same ∙ sym version;
        seen = subst (λ (a : ℕ). Contains w.seen (Stood a e)) anchor seen;
        all = ap length gave ∙ full some high more;
        least = λ n c. least n (subst (λ (a : ℕ). Contains v.seen (Published a f.version n)) (sym anchor) (subst (λ (x : ℕ). Contains v.seen (Published (anchor_for g f.url) x n)) version c));
      }
