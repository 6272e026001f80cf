-- The laws on keys, bodies, readers and numbers.
use Rattle.std.proofs.Common.{◌≡◌, ◌≢◌, ◌⊎◌, inl, inr, ⊎_elim, ℕ, ◌+◌, ◌*◌, ◌-◌, ◌<◌, ◌≤◌, ◌↔◌, zero, suc, List, [], ◌∷◌, ◌++◌, length, take, drop, get_or, min, sym, refl, ap, ◌∙◌, subst, arith, true, false, Contains, append_assoc, length-drop}
use Rattle.std.specs.Prelude.{IsTrue, None, Some}
use Rattle.std.specs.Int.{from_le_bytes, to_le_bytes, w64}
use Rattle.std.proofs.Math.Decide.{dec_le}
use Rattle.std.proofs.lemmas.List.{get_or-drop, length-take-le, take-append-drop}
use Rattle.std.proofs.lemmas.Nat.{le_bytes_8}
use mathlib.Core.Option.{some}
use mathlib.Core.Logic.{dite}
use native.Mathlib.Decide.{ℕ_discrete}
use lib.ListN.{get_elem?}
use Rattle.store_key.specs.Anchor.{anchor_of, back_half, front_half}
use Rattle.store_key.specs.Key.{key_of}
use Rattle.store_key.proofs.KeyFacts.{key_is_bytes, key_is_long}
use Rattle.lock_word.specs.Words.{doom_of, epoch_number, is_readable, stage_of, version_limit, version_of}
use Rattle.lock_word.proofs.Testing.{stage_of-readable}
use Rattle.lock_word.specs.declared.cause.Cause.{Cause}
use Rattle.lock_word.specs.declared.epoch.Epoch.{Epoch}
use Rattle.lock_word.specs.declared.word.Word.{Word}
use Rattle.plain_model.specs.Serving.{bytes_of}
use Rattle.script_text.specs.declared.answer.Answer.{Answer}
use Rattle.script_text.specs.declared.answer.Answer.TheVariants as answer
use Rattle.script_text.specs.declared.body.Body.{Body}
use Rattle.script_text.specs.declared.request.Request.{Request}
use Rattle.script_text.specs.declared.request.Request.TheVariants.{Add, Get}
use Rattle.core_model.specs.declared.moves.Side.TheVariants.{Key0, Key1, Offer}
use Rattle.core_model.specs.declared.view.Kind.TheVariants.{Counted, Drew}
use Rattle.core_model.specs.declared.view.Sight.TheVariants.{Stood}
use Rattle.core_model.specs.declared.view.View.{View}
use Rattle.core_model.specs.Anchors.{opening_counter, opening_epoch}
use Rattle.core_model.specs.Deeds.{EnteredByAnother, EvictedVersion, HaltedVersion, IsDone, IsEpochAt}
use Rattle.core_model.proofs.DeedsTell.{known_evicted, known_old}
use Rattle.script_text.specs.Requests.{url_in}
use Rattle.line_account.specs.Lines.{begun_by, Fits, LineOf, Offers, Served, added, begun_of, writing}
use Rattle.line_account.specs.Deeds.{Began, BeganOnTab, Begins, ComesTo, Evicts, IsDeedOf, IsDeedOfEnd}
use Rattle.line_account.specs.Requests.{IsAnswerTo}
use Rattle.line_account.specs.Answers.{ComesIn, HasGiven, HasItem, IsSure, bytes_with, HasOther, HasPurged, IsCauseOf, IsEntryAt, IsKeyRead, IsLong, IsSpent, ReadAs, Refuses, Run, AreCounted, TellsDoom, readers_at}
use Rattle.line_account.specs.Accounts.{epoch_in}
use Rattle.line_account.specs.Closing.{BegunIn, Closed, HaltedIn, LineIn, ShownIn, Worker, offered}
use Rattle.line_account.specs.Printed.{AnotherComes, PrintsBusy, EndsBegun, AreFirstOnes, IsStored, ReadsOf, GivenBackIn, HadEntry, HasBusyWords, HasOtherUrl, HitIn, IsBodyOfLine, IsKeyOfLine, IsOldBody, IsOldUrl, KeyIn, NeedsTooMany, PrintsAdded, PrintsEnded, PrintsHit, PrintsKey, PrintsLarge, PrintsOther, PrintsReaders, WasWhole, old_offer}
use Rattle.line_account.proofs.GivenWay.{gave_way}
use Rattle.line_account.proofs.HaltedNew.{halted_new}
use Rattle.line_account.proofs.Gathered.{DeedIn, by_line, counter_below, counter_is, deed_in, inside, shown_known, tells_at}
use Rattle.line_account.proofs.Versions.{closed_in, halted_in}
use Rattle.line_account.proofs.Names.{HasOffer, begun_among, names_of, offer_of, offered_url}

-- Keys are the same where their halves are.

take_small : (n : ℕ) (bytes : List ℕ) → ((i : ℕ) → get_or bytes i 0 < 256) → (i : ℕ) → get_or (take n bytes) i 0 < 256
take_small zero bytes h i = omega arith
take_small (suc n) [] h i = omega arith
take_small (suc n) (x ∷ xs) h zero = h 0
take_small (suc n) (x ∷ xs) h (suc i) = take_small n xs (λ j. h (suc j)) i

drop_small : (n : ℕ) (bytes : List ℕ) → ((i : ℕ) → get_or bytes i 0 < 256) → (i : ℕ) → get_or (drop n bytes) i 0 < 256
drop_small n bytes h i = subst (λ m. m < 256) (sym (get_or-drop n bytes i 0)) (h (n + i))

half_again : (part : List ℕ) → length part ≡ 8 → ((i : ℕ) → get_or part i 0 < 256) → to_le_bytes w64 (from_le_bytes w64 part) ≡ part
half_again part eight small = le_bytes_8 part (from_le_bytes w64 part) eight small refl

same_key : (key other : List ℕ) → length key ≡ 16 → length other ≡ 16 → ((i : ℕ) → get_or key i 0 < 256) → ((i : ℕ) → get_or other i 0 < 256)
    → front_half key ≡ front_half other → back_half key ≡ back_half other → key ≡ other
same_key key other long long2 small small2 front back =
    let f : take 8 key ≡ take 8 other = sym (half_again (take 8 key) (length-take-le 8 key (omega arith)) (take_small 8 key small)) ∙ ap (to_le_bytes w64) front ∙ half_again (take 8 other) (length-take-le 8 other (omega arith)) (take_small 8 other small2) in
    let a = length-drop 8 key in
    let b = length-drop 8 other in
    let g : drop 8 key ≡ drop 8 other = sym (half_again (drop 8 key) (omega arith) (drop_small 8 key small)) ∙ ap (to_le_bytes w64) back ∙ half_again (drop 8 other) (omega arith) (drop_small 8 other small2) in
    sym (take-append-drop 8 key) ∙ ap (λ l. l ++ drop 8 key) f ∙ ap (λ l. take 8 other ++ l) g ∙ take-append-drop 8 other

module _ {X : Type 0} (r : Run X) (crew : List Worker) (c : Closed r crew) where
  known : (P : List Served → Served → Type 0) (p : LineIn crew P) (a e : ℕ) → Contains (c.view_at p.j).seen (Stood a e) → IsEpochAt r.setting c.state a e
  known P p a e h = inr (c.index p.j, c.view_at p.j, c.at p.j p.worker p.at, h)

  -- an entry of the opening that may be read was there then
  pub old_kept : (a e : ℕ) → IsEpochAt r.setting c.state a e → is_readable e ≡ true → version_of e ≤ opening_counter r.setting → HadEntry r a
  old_kept a e h read low = ⊎_elim
      (λ (z : stage_of (opening_epoch r.setting a) ≡ 0). absurd (⊎_elim
      (λ (q : stage_of e ≡ stage_of (opening_epoch r.setting a)). not_below (omega arith))
      (λ (q : (5 ≤ stage_of e) × HadEntry r a). not_above q.0)
      (known_old r.setting c.state c.sound a e h low).stage))
      (λ (z : stage_of (opening_epoch r.setting a) ≡ 3). z)
      (c.sound.anchors.setting.stage a (inside r crew c a e h))
    where
      not_below : stage_of e ≡ 0 → ⊥
      not_below n = ⊎_elim (λ (z : stage_of e ≡ 2). omega arith) (λ (z : stage_of e ≡ 3). omega arith) (stage_of-readable e read)

      not_above : 5 ≤ stage_of e → ⊥
      not_above n = ⊎_elim (λ (z : stage_of e ≡ 2). omega arith) (λ (z : stage_of e ≡ 3). omega arith) (stage_of-readable e read)

  pub key_kept : (a : ℕ) (epoch : Epoch) (key : List ℕ) → KeyIn r crew a epoch key → version_of (epoch_number epoch) ≤ opening_counter r.setting → HadEntry r a
  key_kept a epoch key p low =
      let P : List Served → Served → Type 0 = λ earlier s. PrintsKey r.setting.anchors earlier s a epoch key in
      let k = (tells_at r crew c P p).key epoch key a p.so.printed p.so.at in
      old_kept a (epoch_number epoch) (known P p a (epoch_number epoch) k.seen) k.readable low

  -- a key of the opening that was read is that of the entry which the anchor had then
  pub of_old_key : (v : View X) (a e : ℕ) (key url : List ℕ) → IsKeyRead r v a e key → version_of e ≤ opening_counter r.setting → IsOldUrl r a url → key ≡ key_of url
  of_old_key v a e key url k low old = same_key key (key_of url) k.long (key_is_long url) k.bytes (key_is_bytes url) (k.old_front low ∙ old.front) (k.old_back low ∙ old.back)

  -- one of a later version is that of the line which began the version
  pub of_new_key : (j : ℕ) (w : Worker) → get_elem? crew j ≡ some w → (a e : ℕ) (key : List ℕ) → IsKeyRead r (c.view_at j) a e key → opening_counter r.setting < version_of e → IsKeyOfLine r crew a (version_of e) key
  of_new_key j w at a e key k high =
      let n = names_of r crew c a e (inr (c.index j, c.view_at j, c.at j w at, k.seen)) k.readable high in
      let agree = c.sound.anchors.seen.agree (c.index j) (c.index n.j) (c.view_at j) (c.view_at n.j) (c.at j w at) (c.at n.j n.worker n.at) a (version_of e) in
      record {
        begun = n.begun;
        url = n.named.url;
        url_is = n.named.url_is;
        key_is = same_key key (key_of n.named.url) k.long (key_is_long n.named.url) k.bytes (key_is_bytes n.named.url)
            (agree Key0 (front_half key) (front_half (key_of n.named.url)) k.front n.named.key0)
            (agree Key1 (back_half key) (back_half (key_of n.named.url)) k.back n.named.key1);
      }

  pub key_of_old : (a : ℕ) (epoch : Epoch) (key url : List ℕ) → KeyIn r crew a epoch key → version_of (epoch_number epoch) ≤ opening_counter r.setting → IsOldUrl r a url → key ≡ key_of url
  key_of_old a epoch key url p low old =
      let k = (tells_at r crew c (λ earlier s. PrintsKey r.setting.anchors earlier s a epoch key) p).key epoch key a p.so.printed p.so.at in
      of_old_key (c.view_at p.j) a (epoch_number epoch) key url k low old

  pub key_of_new : (a : ℕ) (epoch : Epoch) (key : List ℕ) → KeyIn r crew a epoch key → opening_counter r.setting < version_of (epoch_number epoch) → IsKeyOfLine r crew a (version_of (epoch_number epoch)) key
  key_of_new a epoch key p high =
      let k = (tells_at r crew c (λ earlier s. PrintsKey r.setting.anchors earlier s a epoch key) p).key epoch key a p.so.printed p.so.at in
      of_new_key p.j p.worker p.at a (epoch_number epoch) key k high

  -- Offers.

  -- the offer of a new version that a worker read is that of the line that began it
  pub record IsOfLine (a x offer : ℕ) : Type 0 where
    pub begun : BegunIn r crew a x
    pub made : HasOffer begun.served.asked.request
    pub url_is : r.url offer ≡ made.url
    pub body_is : r.body offer ≡ bytes_of made.body

  pub of_line : (P : List Served → Served → Type 0) (p : LineIn crew P) (a e : ℕ) (url : List ℕ) (i : IsEntryAt r (c.view_at p.j) a e url) → opening_counter r.setting < version_of e → IsOfLine a (version_of e) i.offer
  of_line P p a e url i high =
      let n = names_of r crew c a e (known P p a e i.seen) i.readable high in
      let same : i.offer ≡ r.setting.slots + n.begun.served.asked.number = c.sound.anchors.seen.agree (c.index p.j) (c.index n.j) (c.view_at p.j) (c.view_at n.j)
      (c.at p.j p.worker p.at) (c.at n.j n.worker n.at) a (version_of e) Offer i.offer (r.setting.slots + n.begun.served.asked.number) i.offered n.named.offer in
      let made = offer_of n.begun.served.asked.request n.begun.served.answer (version_of e) n.begun.so.began in
      let told = (tells_at r crew c (λ earlier s. Begins r.setting.anchors s a (version_of e)) n.begun).offered made.url made.body made.offers in
      record { begun = n.begun; made = made; url_is = ap r.url same ∙ told.url_is; body_is = ap r.body same ∙ told.body_is }

  -- Hits.

  get_url : (s : Served) (url told : List ℕ) → s.asked.request ≡ Get url → url_in s.asked.request ≡ Some told → told ≡ url
  get_url s url told q h = let k : Some url ≡ Some told = sym (ap url_in q) ∙ h in let e : url ≡ told = cc in sym e

  hit_version : (s : Served) (url bytes : List ℕ) (x : ℕ) → s.asked.request ≡ Get url → s.answer ≡ answer.Hit x bytes → ComesIn s.asked.request s.answer (version_of s.opened) → x ≡ version_of s.opened
  hit_version s url bytes x q a h = subst (λ (z : Answer). ReadAs z (version_of s.opened)) a (subst (λ (z : Request). ComesIn z s.answer (version_of s.opened)) q h)

  abbrev Hits : ℕ → ℕ → List ℕ → List ℕ → List Served → Served → Type 0
  Hits a x url bytes earlier s = PrintsHit r.setting.anchors s a x url bytes

  pub hit_of_old : IsTrue r.tells → (a x : ℕ) (url bytes : List ℕ) → HitIn r crew a x url bytes → x ≤ opening_counter r.setting → IsOldBody r a url bytes
  hit_of_old y a x url bytes p low =
      let s : Served = p.served in
      let h = (tells_at r crew c (Hits a x url bytes) p).hit y x bytes p.so.printed in
      let same : h.opened.url ≡ url = get_url s url h.opened.url p.so.request h.opened.named in
      let version : x ≡ version_of s.opened = hit_version s url bytes x p.so.request p.so.printed h.opened.told in
      let there : anchor_of (key_of h.opened.url) r.setting.anchors ≡ a = ap (λ u. anchor_of (key_of u) r.setting.anchors) same ∙ sym p.so.anchor in
      let offer : h.opened.entry.offer ≡ old_offer r a = h.opened.entry.old (omega arith) ∙ ap (old_offer r) there in
      let kept = old_kept (anchor_of (key_of h.opened.url) r.setting.anchors) s.opened (known (Hits a x url bytes) p (anchor_of (key_of h.opened.url) r.setting.anchors) s.opened h.opened.entry.seen) h.opened.entry.readable (omega arith) in
      record { there = subst (HadEntry r) there kept; whole = h.whole ∙ ap r.body offer; url_is = sym (ap r.url offer) ∙ h.same ∙ same }

  pub hit_of_new : IsTrue r.tells → (a x : ℕ) (url bytes : List ℕ) → HitIn r crew a x url bytes → opening_counter r.setting < x → IsBodyOfLine r crew a x url bytes
  hit_of_new y a x url bytes p high =
      let s : Served = p.served in
      let h = (tells_at r crew c (Hits a x url bytes) p).hit y x bytes p.so.printed in
      let same : h.opened.url ≡ url = get_url s url h.opened.url p.so.request h.opened.named in
      let version : x ≡ version_of s.opened = hit_version s url bytes x p.so.request p.so.printed h.opened.told in
      let there : anchor_of (key_of h.opened.url) r.setting.anchors ≡ a = ap (λ u. anchor_of (key_of u) r.setting.anchors) same ∙ sym p.so.anchor in
      let o = of_line (Hits a x url bytes) p (anchor_of (key_of h.opened.url) r.setting.anchors) s.opened h.opened.url h.opened.entry (omega arith) in
      let url_is : o.made.url ≡ url = sym o.url_is ∙ h.same ∙ same in
      let found : IsBodyOfLine r crew (anchor_of (key_of h.opened.url) r.setting.anchors) (version_of s.opened) url bytes = record {
        begun = o.begun;
        body = o.made.body;
        offers = subst (λ u. Offers o.begun.served.asked.request u o.made.body) url_is o.made.offers;
        whole = h.whole ∙ o.body_is;
      } in
      subst (λ b. IsBodyOfLine r crew b x url bytes) there (subst (λ y. IsBodyOfLine r crew (anchor_of (key_of h.opened.url) r.setting.anchors) y url bytes) (sym version) found)

  -- Other URLs.

  pub other_url : IsTrue r.tells → (url : List ℕ) → LineIn crew (λ earlier s. PrintsOther earlier s url) → HasOtherUrl r crew url
  other_url y url p = subst (HasOtherUrl r crew) same found
    where
      P : List Served → Served → Type 0
      P earlier s = PrintsOther earlier s url

      told : HasOther r (c.view_at p.j) p.earlier p.served
      told = (tells_at r crew c (λ earlier s. PrintsOther earlier s url) p).other y p.so.printed

      first : told.first ≡ p.so.first
      first = let k : Some told.first ≡ Some p.so.first = sym told.opened_is ∙ p.so.opened_is in cc

      same : told.url ≡ url
      same = let k : Some told.url ≡ Some url = sym told.named ∙ ap (λ (s : Served). url_in s.asked.request) first ∙ p.so.named in cc

      a : ℕ
      a = anchor_of (key_of told.url) r.setting.anchors

      source : (HadEntry r (anchor_of (key_of told.url) r.setting.anchors) × (r.url (old_offer r (anchor_of (key_of told.url) r.setting.anchors)) ≡ r.url told.entry.offer))
          ⊎ ((x : ℕ) × (q : BegunIn r crew (anchor_of (key_of told.url) r.setting.anchors) x) × (url_in q.served.asked.request ≡ Some (r.url told.entry.offer)))
      source = dite (dec_le (version_of told.first.opened) (opening_counter r.setting))
          (λ low. inl (
            old_kept (anchor_of (key_of told.url) r.setting.anchors) told.first.opened (known (λ earlier s. PrintsOther earlier s url) p (anchor_of (key_of told.url) r.setting.anchors) told.first.opened told.entry.seen) told.entry.readable low,
            sym (ap r.url (told.entry.old low)),
          ))
          (λ high. let o = of_line (λ earlier s. PrintsOther earlier s url) p (anchor_of (key_of told.url) r.setting.anchors) told.first.opened told.url told.entry (omega arith) in
          inr (version_of told.first.opened, o.begun, offered_url o.begun.served.asked.request o.made.url o.made.body o.made.offers ∙ ap Some (sym o.url_is)))

      found : HasOtherUrl r crew told.url
      found = record { other = r.url told.entry.offer; is = record { same_key = told.same_key; differs = told.differs; source = source } }

  -- Readers.

  abbrev PrintsSo : ℕ → Word → Word → List Served → Served → Type 0
  PrintsSo a looked other earlier s = PrintsBusy r.setting.anchors earlier s a looked other

  pub counted_readers : (a : ℕ) (looked other : Word) (p : LineIn crew (PrintsSo a looked other))
      → AreCounted (length crew) (readers_at r.setting.anchors p.earlier a) looked.readers × AreCounted (length crew) (readers_at r.setting.anchors p.earlier a) other.readers
  counted_readers a looked other p =
      let own : ℕ = readers_at r.setting.anchors p.earlier a in
      subst (λ (n : ℕ). AreCounted n own looked.readers × AreCounted n own other.readers) (sym c.count)
      (((tells_at r crew c (PrintsSo a looked other) p).busy looked other p.so.printed).counted a p.so.at)

  pub another_comes : (a : ℕ) (p : LineIn crew (λ earlier s. PrintsReaders r.setting.anchors earlier s a)) → AnotherComes r crew p.j a
  another_comes a p = of_deed (deed_in r crew c (EnteredByAnother a (c.view_at p.j).pass) (c.sound.anchors.deeds.met (c.index p.j) (c.view_at p.j) (c.at p.j p.worker p.at) a met))
    where
      met : Contains (c.view_at p.j).met a
      met = ((tells_at r crew c (λ earlier s. PrintsReaders r.setting.anchors earlier s a) p).busy p.so.looked p.so.other p.so.printed).met a p.so.at p.so.more

      of_deed : DeedIn r crew c (EnteredByAnother a (c.view_at p.j).pass) → AnotherComes r crew p.j a
      of_deed d = ⊎_elim
          (λ (l : LineOf d.worker.served (IsDeedOf r (c.view_at d.j) d.deed)). record {
            comes = record {
              j = d.j;
              worker = d.worker;
              at = d.at;
              later = l.later;
              served = l.served;
              earlier = l.earlier;
              split = l.split;
              so = subst (λ b. ComesTo r.setting.anchors l.served.asked.request b) d.so.1 (l.so.entered d.so.0);
            };
            another = λ same. d.so.2 (d.own ∙ ap (λ j. (c.view_at j).pass) same);
          })
          (λ (l : (true ≡ true) × IsDeedOfEnd r.setting d.deed d.worker.served). absurd (l.1.entered d.so.0))
          d.line

  -- Numbers.

  pub spent_bounds : (n : ℕ) → LineIn crew (λ earlier s. s.answer ≡ answer.Spent n) → (version_limit ≤ n) × (n < opening_counter r.setting + offered crew)
  spent_bounds n p = (
    told.limit,
    ⊎_elim
        (λ (q : (p.served.drew ≡ None) × HasItem (c.view_at p.j) Counted n).
        let most = c.sound.anchors.drawn.looked (c.index p.j) (c.view_at p.j) (c.at p.j p.worker p.at) q.1.item q.1.among q.1.kind_is in
        let is = q.1.found_is in
        let below = counter_below r crew c (λ earlier s. s.answer ≡ answer.Spent n) p q.0 told.offers in
        omega arith)
        (λ (q : (p.served.drew ≡ Some (n + 1)) × HasItem (c.view_at p.j) Drew n).
        let less = c.sound.anchors.drawn.drew (c.index p.j) (c.view_at p.j) (c.at p.j p.worker p.at) q.1.item q.1.among q.1.kind_is in
        let is = q.1.found_is in
        let most = counter_is r crew c in
        omega arith)
        told.found,
  )
    where
      told : IsSpent (c.view_at p.j) p.served n
      told = (tells_at r crew c (λ earlier s. s.answer ≡ answer.Spent n) p).spent n p.so

  -- Refusals.

  -- the line that began a writing, as two accounts of it name it, offers a content of this size
  content_size : (first : Served) (url : List ℕ) (body : Body) (same : Served) (named : List ℕ) (P : List Served → Served → Type 0) (p : LineIn crew P) → begun_by p.earlier p.served ≡ Some first
      → begun_by p.earlier p.served ≡ Some same → url_in same.asked.request ≡ Some named → Offers first.asked.request url body
      → 32 + length named + length (r.body (r.setting.slots + same.asked.number)) ≡ 32 + length url + length (bytes_of body)
  content_size first url body same named P p begun_is same_is named_is offers =
      let k : Some same ≡ Some first = sym same_is ∙ begun_is in
      let one : same ≡ first = cc in
      let among = begun_among p.earlier p.served first p.served.asked.request begun_is in
      let of_first = ((c.accounts p.j p.worker p.at).lines (p.later ++ among.front) among.back first (p.split ∙ ap (λ z. p.later ++ z) among.split ∙ sym (append_assoc p.later among.front (first ∷ among.back)))).offered url body offers in
      let u : Some named ≡ Some url = sym named_is ∙ ap (λ (s : Served). url_in s.asked.request) one ∙ offered_url first.asked.request url body offers in
      let url_is : named ≡ url = cc in
      let size : length (r.body (r.setting.slots + same.asked.number)) ≡ length (bytes_of body) = ap (λ (s : Served). length (r.body (r.setting.slots + s.asked.number))) one ∙ ap length of_first.body_is in
      let long = ap length url_is in
      omega arith

  pub too_large : (first : Served) (url : List ℕ) (body : Body) → LineIn crew (λ earlier s. PrintsLarge earlier s first) → Offers first.asked.request url body → NeedsTooMany r url body
  too_large first url body p offers =
      let told = (tells_at r crew c (λ earlier s. PrintsLarge earlier s first) p).large p.so.printed in
      let size = content_size first url body told.first told.url (λ earlier s. PrintsLarge earlier s first) p p.so.begun_is told.begun_is told.named offers in
      let large = told.large in
      omega arith

  pub small_enough : (first : Served) (url : List ℕ) (body : Body) → LineIn crew (λ earlier s. PrintsEnded earlier s first) → Offers first.asked.request url body → ¬ NeedsTooMany r url body
  small_enough first url body p offers many =
      let told = (tells_at r crew c (λ earlier s. PrintsEnded earlier s first) p).small p.so.version p.so.printed in
      let size = content_size first url body told.first told.url (λ earlier s. PrintsEnded earlier s first) p p.so.begun_is told.begun_is told.named offers in
      let small = told.small in
      omega arith

  pub busy_words : (looked other : Word) → LineIn crew (λ earlier s. s.answer ≡ answer.Busy looked other) → HasBusyWords looked other
  busy_words looked other p = let b = (tells_at r crew c (λ earlier s. s.answer ≡ answer.Busy looked other) p).busy looked other p.so in record { cause = b.cause; rises = b.rises }

  pub cause_told : (cause : Cause) (p : LineIn crew (λ earlier s. Refuses s.answer cause)) → IsCauseOf p.served (epoch_in cause) cause
  cause_told cause p = (tells_at r crew c (λ earlier s. Refuses s.answer cause) p).cause cause p.so

  pub long_told : (p : LineIn crew (λ earlier s. s.answer ≡ answer.LongUrl)) → IsLong r p.served
  long_told p = (tells_at r crew c (λ earlier s. s.answer ≡ answer.LongUrl) p).long p.so

  pub short_told : (url : List ℕ) (body : Body) (p : LineIn crew (λ earlier s. Offers s.asked.request url body × Fits earlier s.asked.request)) → r.room < 32 + length url → p.served.answer ≡ answer.LongUrl
  short_told url body p far = (tells_at r crew c (λ earlier s. Offers s.asked.request url body × Fits earlier s.asked.request) p).short url body p.so.0 p.so.1 far

  pub part_told : (epoch : Epoch) (bytes : List ℕ) → LineIn crew (λ earlier s. s.answer ≡ answer.Part epoch bytes) → stage_of (epoch_number epoch) ≡ 2
  part_told epoch bytes p = (tells_at r crew c (λ earlier s. s.answer ≡ answer.Part epoch bytes) p).part epoch bytes p.so

  pub tab_told : (P : List Served → Served → Type 0) (p : LineIn crew P) → (p.served.answer ≡ answer.Tab) ↔ ¬ Fits p.earlier p.served.asked.request
  tab_told P p = (tells_at r crew c P p).tab

  pub answer_told : (P : List Served → Served → Type 0) (p : LineIn crew P) → IsAnswerTo p.served.asked.request p.served.answer
  answer_told P p = (tells_at r crew c P p).answers

  pub added_count : (first : Served) (url : List ℕ) (body : Body) (tab asked count : ℕ) (p : LineIn crew (λ earlier s. PrintsAdded earlier s first tab asked count)) → Offers first.asked.request url body
      → count ≡ min asked (length (bytes_of body) - added tab p.earlier)
  added_count first url body tab asked count p offers =
      let h = (tells_at r crew c (λ earlier s. PrintsAdded earlier s first tab asked count) p).added count p.so.printed in
      let k : Add h.tab h.asked ≡ Add tab asked = sym h.request ∙ p.so.request in
      let tabs : h.tab ≡ tab = cc in
      let asks : h.asked ≡ asked = cc in
      let f : Some h.writes.first ≡ Some first = sym h.writes.begun_is ∙ ap (λ u. writing u p.earlier) tabs ∙ p.so.begun_is in
      let same : h.writes.first ≡ first = cc in
      let among = begun_among p.earlier p.served first p.served.asked.request (ap (begun_of p.earlier p.served) p.so.request ∙ p.so.begun_is) in
      let of_first = ((c.accounts p.j p.worker p.at).lines (p.later ++ among.front) among.back first (p.split ∙ ap (λ z. p.later ++ z) among.split ∙ sym (append_assoc p.later among.front (first ∷ among.back)))).offered url body offers in
      let size : length (r.body (r.setting.slots + h.writes.first.asked.number)) ≡ length (bytes_of body) = ap (λ (s : Served). length (r.body (r.setting.slots + s.asked.number))) same ∙ ap length of_first.body_is in
      h.count_is ∙ ap (λ n. min n (length (r.body (r.setting.slots + h.writes.first.asked.number)) - added h.tab p.earlier)) asks
      ∙ ap (λ n. min asked (n - added h.tab p.earlier)) size ∙ ap (λ t. min asked (length (bytes_of body) - added t p.earlier)) tabs

  -- what was evicted from an idle word was stored by a line, or the anchor had it at the opening
  was_whole : (a e : ℕ) → IsEpochAt r.setting c.state a e → 4 ≤ stage_of e → IsDone c.state (EvictedVersion a (version_of e)) → WasWhole r crew a (version_of e)
  was_whole a e known four h = dite (dec_le (version_of e) (opening_counter r.setting))
      (λ low. let old = known_old r.setting c.state c.sound a e known low in inr (had old.stage, old.version))
      (λ high. inl (closed_in r crew c a (version_of e) (known_evicted r.setting c.state c.sound a (version_of e) (omega arith) h)))
    where
      had : (stage_of e ≡ stage_of (opening_epoch r.setting a)) ⊎ ((5 ≤ stage_of e) × HadEntry r a) → HadEntry r a
      had (inl q) = ⊎_elim (λ (z : stage_of (opening_epoch r.setting a) ≡ 0). absurd (omega arith)) (λ (z : stage_of (opening_epoch r.setting a) ≡ 3). z) (c.sound.anchors.setting.stage a (inside r crew c a e known))
      had (inr q) = q.1

  -- it was evicted by a line, in a run that does not fit
  evicting : (a x : ℕ) → IsDone c.state (EvictedVersion a x) → LineIn crew (λ earlier s. Evicts r s)
  evicting a x h = by_line r crew c (EvictedVersion a x) (λ earlier s. Evicts r s)
      (λ v d earlier s q o. o.evicted q.0 q.3 q.4)
      (λ d served q o. absurd (let f : true ≡ false = sym q.4 ∙ (o.changed q.0).1 in cc))
      h

  pub given_back : (a e : ℕ) → ShownIn r crew a e → doom_of e ≡ 0 → 4 ≤ stage_of e → GivenBackIn r crew a (version_of e)
  given_back a e p undoomed four = ⊎_elim
      (λ (h : IsDone c.state (HaltedVersion a (version_of e))). inl (halted_in r crew c a (version_of e) h))
      (λ (h : IsDone c.state (EvictedVersion a (version_of e))).
      inr (gave_way r crew a (version_of e) (evicting a (version_of e) h) (was_whole a e (shown_known r crew c a e p) four h)))
      (c.sound.anchors.deeds.undoomed a e (shown_known r crew c a e p) undoomed four)

  -- Runs that fit.

  given_back_deed : IsTrue r.fits → (a e : ℕ) → ShownIn r crew a e → doom_of e ≡ 0 → 4 ≤ stage_of e → IsDone c.state (HaltedVersion a (version_of e))
  given_back_deed fit a e p undoomed four = ⊎_elim
      (λ (h : IsDone c.state (HaltedVersion a (version_of e))). h)
      (λ (h : IsDone c.state (EvictedVersion a (version_of e))). absurd (let f : true ≡ false = sym fit ∙ (evicting a (version_of e) h).so.wants in cc))
      (c.sound.anchors.deeds.undoomed a e (shown_known r crew c a e p) undoomed four)

  pub given_back_halted : IsTrue r.fits → (a e : ℕ) → ShownIn r crew a e → doom_of e ≡ 0 → 4 ≤ stage_of e → HaltedIn r crew a (version_of e)
  given_back_halted fit a e p undoomed four = halted_in r crew c a (version_of e) (given_back_deed fit a e p undoomed four)

  pub given_back_new : IsTrue r.fits → (a e : ℕ) → ShownIn r crew a e → doom_of e ≡ 0 → 4 ≤ stage_of e → opening_counter r.setting < version_of e
  given_back_new fit a e p undoomed four = halted_new r.setting c.state c.sound a (version_of e) (inside r crew c a e (shown_known r crew c a e p)) (given_back_deed fit a e p undoomed four)

  pub never_full : IsTrue r.fits → LineIn crew (λ earlier s. s.answer ≡ answer.Full) → ⊥
  never_full fit p = let f : true ≡ false = sym fit ∙ (tells_at r crew c (λ earlier s. s.answer ≡ answer.Full) p).full p.so in cc

  -- Bytes.

  some_place : (earlier : List Served) (s : Served) (v : View X) (g : HasGiven r v earlier s) → IsSure s.answer ⊎ (bytes_with earlier s ≢ []) → 0 < g.place
  some_place earlier s v g (inl sure) = g.sure sure
  some_place earlier s v g (inr some_bytes) = dite (ℕ_discrete g.place 0)
      (λ none. absurd (some_bytes (empty (bytes_with earlier s) (let m = g.most in let z : g.place * r.room ≡ 0 * r.room = ap (λ n. n * r.room) none in omega arith))))
      (λ ne. omega arith)
    where
      empty : (l : List ℕ) → length l ≡ 0 → l ≡ []
      empty [] h = refl
      empty (x ∷ xs) h = absurd (omega arith)

  pub bytes_stored : IsTrue r.tells → (first : Served) (url : List ℕ) (p : LineIn crew (λ earlier s. ReadsOf earlier s first url)) → AreFirstOnes r crew p.served.answer url (bytes_with p.earlier p.served)
  bytes_stored y first url p = subst (λ u. AreFirstOnes r crew p.served.answer u (bytes_with p.earlier p.served)) same
      (record { body = r.body g.entry.offer; stored = stored; first_ones = g.first_ones; whole = g.whole })
    where
      g : HasGiven r (c.view_at p.j) p.earlier p.served
      g = (tells_at r crew c (λ earlier s. ReadsOf earlier s first url) p).given y p.so.reads

      same : g.url ≡ url
      same =
          let k : Some g.first ≡ Some first = sym g.opened_is ∙ p.so.opened_is in
          let is : g.first ≡ first = cc in
          let u : Some g.url ≡ Some url = sym g.named ∙ ap (λ (s : Served). url_in s.asked.request) is ∙ p.so.named in
          cc

      url_is : r.url g.entry.offer ≡ g.url
      url_is = g.url_is (some_place p.earlier p.served (c.view_at p.j) g p.so.some)

      stored : IsStored r crew g.url (r.body g.entry.offer)
      stored = dite (dec_le (version_of g.first.opened) (opening_counter r.setting))
          (λ low. let is = g.entry.old low in
          let kept = old_kept (anchor_of (key_of g.url) r.setting.anchors) g.first.opened (known (λ earlier s. ReadsOf earlier s first url) p (anchor_of (key_of g.url) r.setting.anchors) g.first.opened g.entry.seen) g.entry.readable low in
          record { source = inl (record { there = kept; whole = ap r.body is; url_is = sym (ap r.url is) ∙ url_is }) })
          (λ high. let o = of_line (λ earlier s. ReadsOf earlier s first url) p (anchor_of (key_of g.url) r.setting.anchors) g.first.opened g.url g.entry (omega arith) in
          record {
            source = inr (
              version_of g.first.opened,
              record {
                begun = o.begun;
                body = o.made.body;
                offers = subst (λ u. Offers o.begun.served.asked.request u o.made.body) (sym o.url_is ∙ url_is) o.made.offers;
                whole = o.body_is;
              },
            );
          })

  told_purged : (e : Epoch) (p : LineIn crew (λ earlier s. TellsDoom s.answer e)) → HasPurged r (c.view_at p.j) p.served e
  told_purged e p = (tells_at r crew c (λ earlier s. TellsDoom s.answer e) p).purged e p.so

  pub purged_told : (e : Epoch) → LineIn crew (λ earlier s. TellsDoom s.answer e) → e.doom ≡ true
  purged_told e p = (told_purged e p).doomed

  -- a doom leaves the entry at APPENDING, CLOSED or HALTED
  pub purged_stage : (e : Epoch) → LineIn crew (λ earlier s. TellsDoom s.answer e) → (2 ≤ stage_of (epoch_number e)) × (stage_of (epoch_number e) ≤ 4)
  purged_stage e p = ((told_purged e p).from, (told_purged e p).to)

  -- Ends of writings.

  pub end_of_begun : (version x : ℕ) → LineIn crew (λ earlier s. EndsBegun earlier s version x) → x ≡ version
  end_of_begun version x p =
      let f = (tells_at r crew c (λ earlier s. EndsBegun earlier s version x) p).finished x p.so.printed in
      let k : Some f.grows.writes.first ≡ Some p.so.first = sym f.grows.writes.begun_is ∙ ap (begun_of p.earlier p.served) p.so.request ∙ p.so.begun_is in
      let same : f.grows.writes.first ≡ p.so.first = cc in
      let among = begun_among p.earlier p.served p.so.first p.served.asked.request (ap (begun_of p.earlier p.served) p.so.request ∙ p.so.begun_is) in
      let told = (c.accounts p.j p.worker p.at).lines (p.later ++ among.front) among.back p.so.first (p.split ∙ ap (λ z. p.later ++ z) among.split ∙ sym (append_assoc p.later among.front (p.so.first ∷ among.back))) in
      let begun = told.began version (subst (λ (q : Request). Began q p.so.first.answer version) (sym p.so.begins) (subst (λ (a : Answer). BeganOnTab a version) (sym p.so.begun) refl)) in
      let is : version ≡ begun.version = subst (λ (a : Answer). BeganOnTab a begun.version) p.so.begun (subst (λ (q : Request). Began q p.so.first.answer begun.version) p.so.begins begun.began) in
      let d : Some x ≡ Some begun.version = sym f.grows.writes.drew ∙ ap Served.drew same ∙ begun.drew in
      let e : x ≡ begun.version = cc in
      e ∙ sym is
