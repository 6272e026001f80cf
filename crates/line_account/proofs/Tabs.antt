-- What the lines of one tab that reads have in common.
use Rattle.std.proofs.Common.{◌≡◌, inr, ℕ, ◌<◌, ◌≤◌, List, length, take, sym, refl, ap, ◌∙◌, subst, Contains}
use Rattle.std.specs.Prelude.{IsTrue, None, Some}
use Rattle.store_key.specs.Anchor.{anchor_of}
use Rattle.store_key.specs.Key.{key_of}
use Rattle.lock_word.specs.Words.{epoch_number, version_of}
use Rattle.lock_word.specs.declared.epoch.Epoch.{Epoch}
use Rattle.script_text.specs.declared.answer.Answer.{Answer}
use Rattle.script_text.specs.declared.answer.Answer.TheVariants as answer
use Rattle.script_text.specs.declared.request.Request.{Request}
use Rattle.script_text.specs.declared.request.Request.TheVariants.{CloseTab, Get, More, OpenTab}
use Rattle.core_model.specs.declared.moves.Side.TheVariants.{Offer}
use Rattle.core_model.specs.declared.view.Sight.TheVariants.{Named}
use Rattle.core_model.specs.Anchors.{opening_counter}
use Rattle.script_text.specs.Requests.{url_in}
use Rattle.line_account.specs.Lines.{IsAt, Served, opened_of, url_at, url_named}
use Rattle.line_account.specs.Accounts.{epochs_of}
use Rattle.line_account.specs.Answers.{HasGiven, HasOther, IsSure, Reads, Run, bytes_with}
use Rattle.line_account.specs.Closing.{Closed, HaltedIn, LineIn, Worker}
use Rattle.line_account.specs.Printed.{ReadsVersion}
use Rattle.line_account.specs.Tabs.{IsFrontOfLine, IsFrontOfOld, ReadsHalted, ReadsOn, ReadsOther, ReadsPart, ReadsUnder}
use Rattle.line_account.proofs.Gathered.{tells_at}
use Rattle.line_account.proofs.HitVersions.{first_version}
use Rattle.line_account.proofs.Printing.{of_line, old_kept}
use Rattle.line_account.proofs.Versions.{first_of_one, halted_by, shows}

one_some : (s t : Served) → Some s ≡ Some t → s ≡ t
one_some s t e = cc

one_url : (u v : List ℕ) → Some u ≡ Some v → u ≡ v
one_url u v e = cc

-- the URL at which a line reads is that of the line that opened
opened_at_url : (earlier : List Served) (s first : Served) (q : Request) → q ≡ s.asked.request → opened_of earlier s q ≡ Some first → url_at earlier q ≡ url_in first.asked.request
opened_at_url earlier s first (Get url) is e = ap url_in is ∙ ap (λ (z : Served). url_in z.asked.request) (one_some s first e)
opened_at_url earlier s first (OpenTab tab url) is e = ap url_in is ∙ ap (λ (z : Served). url_in z.asked.request) (one_some s first e)
opened_at_url earlier s first (More tab) is e = ap url_named e
opened_at_url earlier s first (CloseTab tab) is e = ap url_named e
opened_at_url earlier s first _ is e = absurd (let z : None ≡ Some first = e in cc)

at_anchor : (anchors : ℕ) (earlier : List Served) (s : Served) (a x : ℕ) → ReadsVersion anchors earlier s a x → IsAt anchors earlier s a
at_anchor anchors earlier s a x so = record { url = so.anchor.url; named_is = opened_at_url earlier s so.first s.asked.request refl so.opened_is ∙ so.anchor.named_is; anchor = so.anchor.anchor }

module _ {X : Type 0} (r : Run X) (crew : List Worker) (c : Closed r crew) (a x : ℕ) where
  pub part_same : (epoch : Epoch) → LineIn crew (λ earlier s. ReadsPart r.setting.anchors earlier s a x epoch) → version_of (epoch_number epoch) ≡ x
  part_same epoch p =
      let P : List Served → Served → Type 0 = λ earlier s. ReadsPart r.setting.anchors earlier s a x epoch in
      let so = p.so in
      (tells_at r crew c P p).part_version epoch so.bytes so.printed so.of.first so.of.opened_is ∙ sym (first_version r crew c P p a x so.of)

  pub halted_same : LineIn crew (λ earlier s. ReadsHalted r.setting.anchors earlier s a x) → HaltedIn r crew a x
  halted_same p =
      let P : List Served → Served → Type 0 = λ earlier s. ReadsHalted r.setting.anchors earlier s a x in
      let s : Served = p.served in
      let so = p.so in
      let told = tells_at r crew c P p in
      let shown = shows r crew c P p a s.looked (at_anchor r.setting.anchors p.earlier s a x so.of) (first_of_one r crew c s.looked (epochs_of s.opened s.looked s.answer) (ap (epochs_of s.opened s.looked) so.printed)) in
      let version : version_of s.looked ≡ x = told.halted_version so.bytes so.printed so.of.first so.of.opened_is ∙ sym (first_version r crew c P p a x so.of) in
      subst (λ (n : ℕ). HaltedIn r crew a n) version (halted_by r crew c a s.looked shown (told.halted so.bytes so.printed))

  module _ (y : IsTrue r.tells) (p : LineIn crew (λ earlier s. ReadsOn r.setting.anchors earlier s a x)) where
    abbrev P : List Served → Served → Type 0
    P earlier s = ReadsOn r.setting.anchors earlier s a x

    abbrev s : Served
    s = p.served

    g : HasGiven r (c.view_at p.j) p.earlier s
    g = (tells_at r crew c P p).given y p.so.reads

    first_is : p.so.of.first ≡ g.first
    first_is = one_some p.so.of.first g.first (sym p.so.of.opened_is ∙ g.opened_is)

    version : x ≡ version_of g.first.opened
    version = first_version r crew c P p a x p.so.of ∙ ap (λ (z : Served). version_of z.opened) first_is

    abbrev here : ℕ
    here = anchor_of (key_of g.url) r.setting.anchors

    at_here : here ≡ a
    at_here =
        let h = p.so.of.anchor in
        let named = one_url h.url g.url (sym h.named_is ∙ ap (λ (z : Served). url_in z.asked.request) first_is ∙ g.named) in
        sym (h.anchor ∙ ap (λ (u : List ℕ). anchor_of (key_of u) r.setting.anchors) named)

    pub front_old : x ≤ opening_counter r.setting → IsFrontOfOld r a s.answer (bytes_with p.earlier s)
    front_old low = subst (λ (b : ℕ). IsFrontOfOld r b s.answer (bytes_with p.earlier s)) at_here (
        let below = subst (λ (n : ℕ). n ≤ opening_counter r.setting) version low in
        let offer = g.entry.old below in record {
          there = old_kept r crew c here g.first.opened (inr (c.index p.j, c.view_at p.j, c.at p.j p.worker p.at, g.entry.seen)) g.entry.readable below;
          first_ones = g.first_ones ∙ ap (λ (o : ℕ). take (length (bytes_with p.earlier s)) (r.body o)) offer;
          whole = λ w. g.whole w ∙ ap r.body offer;
        })

    pub front_new : opening_counter r.setting < x → IsFrontOfLine r crew a x s.answer (bytes_with p.earlier s)
    front_new high = subst (λ (b : ℕ). IsFrontOfLine r crew b x s.answer (bytes_with p.earlier s)) at_here (subst (λ (n : ℕ). IsFrontOfLine r crew here n s.answer (bytes_with p.earlier s)) (sym version) (
        let o = of_line r crew c P p here g.first.opened g.url g.entry (subst (λ (n : ℕ). opening_counter r.setting < n) version high) in record {
          begun = o.begun;
          url = o.made.url;
          body = o.made.body;
          offers = o.made.offers;
          first_ones = g.first_ones ∙ ap (take (length (bytes_with p.earlier s))) o.body_is;
          whole = λ w. g.whole w ∙ o.body_is;
        }))

-- OTHERURL and the others.

sure_reads : (a : Answer) → IsSure a → Reads a
sure_reads (answer.Hit version bytes) h = tt
sure_reads (answer.Part epoch bytes) h = tt
sure_reads (answer.End bytes) h = tt
sure_reads (answer.Halted bytes) h = tt
sure_reads _ h = absurd h

module _ {X : Type 0} (r : Run X) (crew : List Worker) (c : Closed r crew) (y : IsTrue r.tells) (a x : ℕ) (url : List ℕ) (p : LineIn crew (λ earlier s. ReadsUnder r.setting.anchors earlier s a x url)) (q : LineIn crew (λ earlier s. ReadsOther r.setting.anchors earlier s a x url)) where
  abbrev Under : List Served → Served → Type 0
  Under earlier s = ReadsUnder r.setting.anchors earlier s a x url

  abbrev Other : List Served → Served → Type 0
  Other earlier s = ReadsOther r.setting.anchors earlier s a x url

  given_under : HasGiven r (c.view_at p.j) p.earlier p.served
  given_under = (tells_at r crew c Under p).given y (sure_reads p.served.answer p.so.sure)

  turned : HasOther r (c.view_at q.j) q.earlier q.served
  turned = (tells_at r crew c Other q).other y q.so.printed

  -- the entry of the one and of the other
  first_given : p.so.of.first ≡ given_under.first
  first_given = one_some p.so.of.first given_under.first (sym p.so.of.opened_is ∙ given_under.opened_is)

  first_turned : q.so.of.first ≡ turned.first
  first_turned = one_some q.so.of.first turned.first (sym q.so.of.opened_is ∙ turned.opened_is)

  url_given : given_under.url ≡ url
  url_given = one_url given_under.url url (sym given_under.named ∙ ap (λ (z : Served). url_in z.asked.request) (sym first_given) ∙ p.so.named)

  url_turned : turned.url ≡ url
  url_turned = one_url turned.url url (sym turned.named ∙ ap (λ (z : Served). url_in z.asked.request) (sym first_turned) ∙ q.so.named)

  version_given : version_of given_under.first.opened ≡ x
  version_given = ap (λ (z : Served). version_of z.opened) (sym first_given) ∙ sym (first_version r crew c Under p a x p.so.of)

  version_turned : version_of turned.first.opened ≡ x
  version_turned = ap (λ (z : Served). version_of z.opened) (sym first_turned) ∙ sym (first_version r crew c Other q a x q.so.of)

  abbrev home_of : List ℕ → ℕ
  home_of u = anchor_of (key_of u) r.setting.anchors

  same_entry : given_under.entry.offer ≡ turned.entry.offer
  same_entry =
      let mine = subst (λ (u : List ℕ). Contains (c.view_at p.j).seen (Named (home_of u) x Offer given_under.entry.offer)) url_given
      (subst (λ (n : ℕ). Contains (c.view_at p.j).seen (Named (home_of given_under.url) n Offer given_under.entry.offer)) version_given given_under.entry.offered) in
      let theirs = subst (λ (u : List ℕ). Contains (c.view_at q.j).seen (Named (home_of u) x Offer turned.entry.offer)) url_turned
      (subst (λ (n : ℕ). Contains (c.view_at q.j).seen (Named (home_of turned.url) n Offer turned.entry.offer)) version_turned turned.entry.offered) in
      c.sound.anchors.seen.agree (c.index p.j) (c.index q.j) (c.view_at p.j) (c.view_at q.j) (c.at p.j p.worker p.at) (c.at q.j q.worker q.at) (home_of url) x Offer given_under.entry.offer turned.entry.offer mine theirs

  pub never_both : ⊥
  never_both = turned.differs (ap r.url (sym same_entry) ∙ given_under.url_is (given_under.sure p.so.sure) ∙ url_given ∙ sym url_turned)
