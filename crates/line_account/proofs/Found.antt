-- What is found by a look-up was there, under the key of the URL.
use Rattle.std.proofs.Common.{◌≡◌, inr, ℕ, ◌<◌, ◌≤◌, List, sym, refl, ◌∙◌, subst, true}
use Rattle.std.specs.Prelude.{None, Some}
use Rattle.store_key.specs.Anchor.{anchor_of}
use Rattle.store_key.specs.Key.{key_of}
use Rattle.store_key.proofs.KeyFacts.{key_is_bytes, key_is_long}
use Rattle.lock_word.specs.Words.{epoch_number, is_readable, version_of}
use Rattle.lock_word.specs.declared.epoch.Epoch.{Epoch}
use Rattle.script_text.specs.declared.answer.Answer.{Answer}
use Rattle.script_text.specs.declared.answer.Answer.TheVariants as answer
use Rattle.script_text.specs.declared.request.Request.{Request}
use Rattle.script_text.specs.declared.request.Request.TheVariants.{Get, More, OpenTab}
use Rattle.core_model.specs.declared.view.View.{View}
use Rattle.core_model.specs.Anchors.{opening_counter}
use Rattle.core_model.specs.Deeds.{IsEpochAt}
use Rattle.script_text.specs.Requests.{url_in}
use Rattle.line_account.specs.Lines.{Served}
use Rattle.line_account.specs.Requests.{IsAnswerTo}
use Rattle.line_account.specs.Answers.{ComesIn, HasOpened, HasPurged, IsKeyRead, Run, TellsDoom}
use Rattle.line_account.specs.Accounts.{Tells}
use Rattle.line_account.specs.Closing.{Closed, LineIn, Worker}
use Rattle.line_account.specs.Order.{FindsEntry, Opens}
use Rattle.line_account.specs.Printed.{Finds, HadEntry, IsKeyOfLine, IsOldUrl, TellsFound}
use Rattle.line_account.proofs.Gathered.{tells_at}
use Rattle.line_account.proofs.Printing.{of_new_key, of_old_key, old_kept}

one_url : (u v : List ℕ) → Some u ≡ Some v → u ≡ v
one_url u v e = cc

-- Which requests are answered so, and what the answer tells of the version that was opened.

comes_opened : (q : Request) (v x : ℕ) → IsAnswerTo q (answer.Opened v) → v ≡ x → ComesIn q (answer.Opened v) x
comes_opened (OpenTab tab url) v x h e = e
comes_opened _ v x h e = absurd h

comes_hit : (q : Request) (v : ℕ) (bytes : List ℕ) (x : ℕ) → IsAnswerTo q (answer.Hit v bytes) → v ≡ x → ComesIn q (answer.Hit v bytes) x
comes_hit (Get url) v bytes x h e = e
comes_hit _ v bytes x h e = absurd h

comes_part : (q : Request) (epoch : Epoch) (bytes : List ℕ) (x : ℕ) (url : List ℕ) → IsAnswerTo q (answer.Part epoch bytes) → url_in q ≡ Some url
    → version_of (epoch_number epoch) ≡ x → ComesIn q (answer.Part epoch bytes) x
comes_part (Get u) epoch bytes x url h named e = e
comes_part (More tab) epoch bytes x url h named e = absurd (let z : None ≡ Some url = named in cc)
comes_part _ epoch bytes x url h named e = absurd h

told_opened : (q : Request) (v x : ℕ) → ComesIn q (answer.Opened v) x → v ≡ x
told_opened (OpenTab tab url) v x h = h
told_opened (Get url) v x h = absurd h
told_opened _ v x h = absurd h

told_hit : (q : Request) (v : ℕ) (bytes : List ℕ) (x : ℕ) → ComesIn q (answer.Hit v bytes) x → v ≡ x
told_hit (OpenTab tab url) v bytes x h = absurd h
told_hit (Get url) v bytes x h = h
told_hit _ v bytes x h = absurd h

told_part : (q : Request) (epoch : Epoch) (bytes : List ℕ) (x : ℕ) → ComesIn q (answer.Part epoch bytes) x → version_of (epoch_number epoch) ≡ x
told_part (OpenTab tab url) epoch bytes x h = absurd h
told_part (Get url) epoch bytes x h = h
told_part _ epoch bytes x h = absurd h

module _ {X : Type 0} (r : Run X) (v : View X) (earlier : List Served) (s : Served) (told : Tells r v earlier s) where
  -- an entry of the version x was found, and the key that was read there is that of the URL
  pub record HasFound (a x : ℕ) (url : List ℕ) : Type 0 where
    pub epoch : ℕ
    pub version_is : version_of epoch ≡ x
    pub keyed : IsKeyRead r v a epoch (key_of url)

  of_opened : (x : ℕ) (url : List ℕ) → url_in s.asked.request ≡ Some url → (o : HasOpened r v s) → version_of s.opened ≡ x → HasFound (anchor_of (key_of url) r.setting.anchors) x url
  of_opened x url named o same = subst (λ (u : List ℕ). HasFound (anchor_of (key_of u) r.setting.anchors) x u) (one_url o.url url (sym o.named ∙ named)) (record {
    epoch = s.opened;
    version_is = same;
    keyed = record {
      readable = o.entry.readable;
      seen = o.entry.seen;
      long = key_is_long o.url;
      bytes = key_is_bytes o.url;
      front = o.entry.front;
      back = o.entry.back;
      old_front = o.entry.old_front;
      old_back = o.entry.old_back;
    };
  })

  of_purged : (epoch : Epoch) (x : ℕ) (url : List ℕ) → url_in s.asked.request ≡ Some url → HasPurged r v s epoch → version_of (epoch_number epoch) ≡ x → HasFound (anchor_of (key_of url) r.setting.anchors) x url
  of_purged epoch x url named h same = subst (λ (u : List ℕ). HasFound (anchor_of (key_of u) r.setting.anchors) x u) (one_url h.url url (sym h.named ∙ named))
      (record { epoch = s.opened; version_is = h.version_is ∙ same; keyed = h.keyed })

  opens : (a : Answer) (x : ℕ) → s.answer ≡ a → Opens a x → (o : HasOpened r v s) × (version_of s.opened ≡ x)
  opens (answer.Opened version) x is e =
      let comes = subst (λ (z : Answer). ComesIn s.asked.request z x) (sym is) (comes_opened s.asked.request version x (subst (IsAnswerTo s.asked.request) is told.answers) e) in
      let o = told.opened x comes in
      (o, sym (told_opened s.asked.request version (version_of s.opened) (subst (λ (z : Answer). ComesIn s.asked.request z (version_of s.opened)) is o.told)) ∙ e)
  opens (answer.Hit version bytes) x is e =
      let comes = subst (λ (z : Answer). ComesIn s.asked.request z x) (sym is) (comes_hit s.asked.request version bytes x (subst (IsAnswerTo s.asked.request) is told.answers) e) in
      let o = told.opened x comes in
      (o, sym (told_hit s.asked.request version bytes (version_of s.opened) (subst (λ (z : Answer). ComesIn s.asked.request z (version_of s.opened)) is o.told)) ∙ e)
  opens _ x is e = absurd e

  -- where the line doomed an entry
  dooms : (a : Answer) (epoch : Epoch) → s.answer ≡ a → TellsDoom a epoch → HasPurged r v s epoch
  dooms a epoch is h = told.purged epoch (subst (λ (z : Answer). TellsDoom z epoch) (sym is) h)

  doomed_so : (a : Answer) (epoch : Epoch) (x : ℕ) → s.answer ≡ a → TellsDoom a epoch → version_of (epoch_number epoch) ≡ x → (version_of s.opened ≡ x) × (is_readable s.opened ≡ true)
  doomed_so a epoch x is h same = let k = dooms a epoch is h in (k.version_is ∙ same, k.keyed.readable)

  -- where the line found an entry
  found_so : (a : Answer) (x : ℕ) → s.answer ≡ a → FindsEntry a x → (version_of s.opened ≡ x) × (is_readable s.opened ≡ true)
  found_so (answer.Opened version) x is h = let o = opens (answer.Opened version) x is h in (o.1, o.0.entry.readable)
  found_so (answer.Hit version bytes) x is h = let o = opens (answer.Hit version bytes) x is h in (o.1, o.0.entry.readable)
  found_so (answer.Purged epoch) x is h = doomed_so (answer.Purged epoch) epoch x is refl h
  found_so (answer.Wiped epoch) x is h = doomed_so (answer.Wiped epoch) epoch x is refl h
  found_so (answer.Later epoch) x is h = doomed_so (answer.Later epoch) epoch x is refl h
  found_so _ x is h = absurd h

  pub opened_so : (x : ℕ) → FindsEntry s.answer x → (version_of s.opened ≡ x) × (is_readable s.opened ≡ true)
  opened_so x h = found_so s.answer x refl h

  found_by : (a : Answer) (x : ℕ) (url : List ℕ) → s.answer ≡ a → url_in s.asked.request ≡ Some url → TellsFound a x → HasFound (anchor_of (key_of url) r.setting.anchors) x url
  found_by (answer.Opened version) x url is named e = let o = opens (answer.Opened version) x is e in of_opened x url named o.0 o.1
  found_by (answer.Hit version bytes) x url is named e = let o = opens (answer.Hit version bytes) x is e in of_opened x url named o.0 o.1
  found_by (answer.Part epoch bytes) x url is named e =
      let comes = subst (λ (z : Answer). ComesIn s.asked.request z x) (sym is) (comes_part s.asked.request epoch bytes x url (subst (IsAnswerTo s.asked.request) is told.answers) named e) in
      let o = told.opened x comes in
      of_opened x url named o
      (sym (told_part s.asked.request epoch bytes (version_of s.opened) (subst (λ (z : Answer). ComesIn s.asked.request z (version_of s.opened)) is o.told)) ∙ e)
  found_by (answer.Purged epoch) x url is named e = of_purged epoch x url named (dooms (answer.Purged epoch) epoch is refl) e
  found_by (answer.Wiped epoch) x url is named e = of_purged epoch x url named (dooms (answer.Wiped epoch) epoch is refl) e
  found_by (answer.Later epoch) x url is named e = of_purged epoch x url named (dooms (answer.Later epoch) epoch is refl) e
  found_by _ x url is named e = absurd e

  pub found : (a x : ℕ) (url : List ℕ) → Finds r.setting.anchors s a x url → HasFound a x url
  found a x url f = subst (λ (b : ℕ). HasFound b x url) (sym f.anchor) (found_by s.answer x url refl f.named f.found)

module _ {X : Type 0} (r : Run X) (crew : List Worker) (c : Closed r crew) (a x : ℕ) (url : List ℕ) (p : LineIn crew (λ earlier s. Finds r.setting.anchors s a x url)) where
  has : HasFound r (c.view_at p.j) p.earlier p.served (tells_at r crew c (λ earlier s. Finds r.setting.anchors s a x url) p) a x url
  has = found r (c.view_at p.j) p.earlier p.served (tells_at r crew c (λ earlier s. Finds r.setting.anchors s a x url) p) a x url p.so

  known : IsEpochAt r.setting c.state a has.epoch
  known = inr (c.index p.j, c.view_at p.j, c.at p.j p.worker p.at, has.keyed.seen)

  pub found_there : x ≤ opening_counter r.setting → HadEntry r a
  found_there low = old_kept r crew c a has.epoch known has.keyed.readable (subst (λ (n : ℕ). n ≤ opening_counter r.setting) (sym has.version_is) low)

  pub found_old : (kept : List ℕ) → x ≤ opening_counter r.setting → IsOldUrl r a kept → key_of url ≡ key_of kept
  found_old kept low old = of_old_key r crew c (c.view_at p.j) a has.epoch (key_of url) kept has.keyed (subst (λ (n : ℕ). n ≤ opening_counter r.setting) (sym has.version_is) low) old

  pub found_new : opening_counter r.setting < x → IsKeyOfLine r crew a x (key_of url)
  found_new high = subst (λ (n : ℕ). IsKeyOfLine r crew a n (key_of url)) has.version_is
      (of_new_key r crew c p.j p.worker p.at a has.epoch (key_of url) has.keyed (subst (λ (n : ℕ). opening_counter r.setting < n) (sym has.version_is) high))
