-- What lines print of the file: the URLs, the bodies and the keys of its entries.
use Rattle.std.proofs.Common.{IsTrue, List, ap, arith, length, take, inl, inr, refl, subst, sym, ⊎_elim, ◌%◌, ◌+◌, ◌<◌, ◌^◌, ◌∙◌, ◌≡◌, ◌≤◌}
use Rattle.std.proofs.Common.{ℕ}
use Rattle.std.specs.Prelude.{Some}
use Rattle.std.proofs.Math.Nat.{mod-lt}
use Rattle.rebuild_model.specs.Entry.{Entry, IsStored as IsInFile}
use Rattle.rebuild_model.specs.Rebuilt.{IsWinner}
use Rattle.store_key.specs.Anchor.{anchor_of, back_half, front_half}
use Rattle.store_key.specs.Key.{key_of}
use Rattle.plain_model.specs.Serving.{bytes_of}
use Rattle.script_text.specs.declared.line.Line.{Line}
use Rattle.core_model.specs.Anchors.{opening_counter, opening_epoch}
use Rattle.lock_word.specs.Words.{stage_of}
use Rattle.line_account.specs.Answers.{Run, bytes_with}
use Rattle.line_account.specs.Closing.{BegunIn, LineIn, Worker}
use Rattle.line_account.specs.Deeds.{Begins, PrintsBegunVersion}
use Rattle.script_text.specs.Requests.{url_in}
use Rattle.line_account.specs.Lines.{Served}
use Rattle.line_account.specs.Printed.{HadEntry, HasOtherUrl, HitIn, IsBodyAsPrinted, IsBodyOfLine, IsOldBody, IsOldUrl, IsStored, ReadsOf}
use Rattle.line_account.specs.Printed.{old_offer}
use Rattle.line_account.specs.Scripts.{ServesScript}
use Rattle.line_account.specs.Rules.{KeepsRules}
use Rattle.line_account.specs.Tabs.{ReadsOn}
use Rattle.run_rules.specs.Openings.{BeganWithFile, HadNothing, HadWinner}
use Rattle.run_rules.specs.Printed.{AreKeysOfWinners, AreResponses, IsFrontOfWinner, IsOfWinner}
use Rattle.run_rules.specs.Responses.{HasTwin, IsFrontOf, IsOffered, IsResponse, IsUsed}
use Rattle.run_rules.proofs.Lists.{not_above}
use Rattle.run_rules.proofs.Scripts.{offer_of, offered}

-- there is an anchor of each key
pub anchor_below : (key : List ℕ) (n : ℕ) → 0 < n → anchor_of key n < n
anchor_below key n some = mod-lt ((front_half key + back_half key) % 2 ^ 64) some

module _ (r : Run (List ℕ)) (slot anchors : ℕ) (images : List (List ℕ)) where
  -- the anchor had the file's winner at the opening: its key stood beside it, and the run says of its offer what the file has, where it
  -- tells of bytes
  pub record OldWinner (a : ℕ) : Type 0 where
    pub entry : Entry
    pub winner : IsWinner slot images anchors a entry
    pub keyed : IsOldUrl r a entry.url
    pub url_is : IsTrue r.tells → r.url (old_offer r a) ≡ entry.url
    pub body_is : IsTrue r.tells → r.body (old_offer r a) ≡ entry.body

  -- a store that was opened over the file had it
  pub old_winners : BeganWithFile r slot anchors images → (a : ℕ) → a < anchors → HadEntry r a → OldWinner a
  old_winners began a small there = ⊎_elim
      (λ (h : HadWinner r slot anchors images a). record {
        entry = h.entry;
        winner = h.winner;
        keyed = h.keyed;
        url_is = h.url_is;
        body_is =
            h.body_is;
      })
      (λ (h : HadNothing r slot anchors images a). absurd (let none : stage_of (opening_epoch r.setting a) ≡ 0 = ap stage_of h.epoch in
      omega arith))
      (began.each a small)

  module _ (script : List Line) (crew : List Worker) (rules : KeepsRules r script crew) (serves : ServesScript script crew)
      (same : r.setting.anchors ≡ anchors) (some : 0 < anchors)
      (kept : (a : ℕ) → a < anchors → HadEntry r a → OldWinner a) where
    below : (url : List ℕ) (a : ℕ) → a ≡ anchor_of (key_of url) r.setting.anchors → a < anchors
    below url a e = subst (λ n. n < anchors) (sym (e ∙ ap (λ n. anchor_of (key_of url) n) same)) (anchor_below (key_of url) anchors some)

    here : (url : List ℕ) → anchor_of (key_of url) r.setting.anchors < anchors
    here url = below url (anchor_of (key_of url) r.setting.anchors) refl

    pub keys : AreKeysOfWinners r slot anchors images script crew
    keys = record {
      printed = λ a epoch key p low.
          let at = p.so.at in
          let w = kept a (below at.url a at.anchor) (rules.keys.kept a epoch key p low) in
          record { entry = w.entry; winner = w.winner; key_is = rules.keys.old a epoch key w.entry.url p low w.keyed };
      found = λ a x url p low.
          let w = kept a (below url a p.so.anchor) (rules.epochs.found_old a x url p low) in
          record { entry = w.entry; winner = w.winner; key_is = rules.keys.found_old a x url w.entry.url p low w.keyed };
    }

    module _ (tells : IsTrue r.tells) where
      of_winner : (a : ℕ) (url bytes : List ℕ) → a < anchors → IsOldBody r a url bytes
          → IsOfWinner r slot anchors images script crew a url bytes
      of_winner a url bytes small b = let w = kept a small b.there in record {
        entry = w.entry;
        winner = w.winner;
        url_is = sym b.url_is ∙ w.url_is tells;
        body_is = b.whole ∙ w.body_is tells;
      }

      in_file : (a : ℕ) (url bytes : List ℕ) → a < anchors → IsOldBody r a url bytes → IsInFile slot images url bytes
      in_file a url bytes small b = let w = of_winner a url bytes small b in
          record { entry = w.entry; complete = w.winner.complete; url_is = sym w.url_is; body_is = sym w.body_is }

      in_script : (a x : ℕ) (url bytes : List ℕ) → IsBodyOfLine r crew a x url bytes → IsOffered script url bytes
      in_script a x url bytes b = subst (λ z. IsOffered script url z) (sym b.whole)
          (offered script crew (λ earlier s. Begins r.setting.anchors s a x) serves b.begun url b.body b.offers)

      as_printed : (a x : ℕ) (url bytes : List ℕ) → IsBodyAsPrinted r crew a x url bytes → IsOffered script url bytes
      as_printed a x url bytes b = subst (λ z. IsOffered script url z) (sym b.whole)
          (offered script crew (λ earlier s. PrintsBegunVersion r.setting.anchors s a x) serves b.begun url b.body b.offers)

      hit_old : (a x : ℕ) (url bytes : List ℕ) → HitIn r crew a x url bytes → x ≤ opening_counter r.setting
          → IsOfWinner r slot anchors images script crew a url bytes
      hit_old a x url bytes p low = of_winner a url bytes (below url a p.so.anchor) ((rules.bodies tells).hit_old a x url bytes p low)

      hit : (a x : ℕ) (url bytes : List ℕ) → HitIn r crew a x url bytes → IsResponse slot images script url bytes
      hit a x url bytes p = ⊎_elim
          (λ (low : x ≤ opening_counter r.setting). inl (in_file a url bytes (below url a p.so.anchor)
          ((rules.bodies tells).hit_old a x url bytes p low)))
          (λ (high : opening_counter r.setting < x). inr (as_printed a x url bytes ((rules.bodies tells).hit_new a x url bytes p high)))
          (not_above x (opening_counter r.setting))

      stored : (url bytes : List ℕ) → IsStored r crew url bytes → IsResponse slot images script url bytes
      stored url bytes s = ⊎_elim
          (λ (old : IsOldBody r (anchor_of (key_of url) r.setting.anchors) url bytes).
          inl (in_file (anchor_of (key_of url) r.setting.anchors) url bytes (here url) old))
          (λ (new : (x : ℕ) × IsBodyOfLine r crew (anchor_of (key_of url) r.setting.anchors) x url bytes).
          inr (in_script (anchor_of (key_of url) r.setting.anchors) new.0 url bytes new.1))
          s.source

      bytes : (first : Served) (url : List ℕ) → (p : LineIn crew (λ earlier s. ReadsOf earlier s first url))
          → IsFrontOf slot images script p.served.answer url (bytes_with p.earlier p.served)
      bytes first url p = let f = (rules.bodies tells).bytes first url p in
          record { body = f.body; response = stored url f.body f.stored; first_ones = f.first_ones; whole = f.whole }

      tab_old : (a x : ℕ) → (p : LineIn crew (λ earlier s. ReadsOn r.setting.anchors earlier s a x)) → x ≤ opening_counter r.setting
          → IsFrontOfWinner r slot anchors images script crew a p.served.answer (bytes_with p.earlier p.served)
      tab_old a x p low =
          let f = rules.tabs.old tells a x p low in
          let at = p.so.of.anchor in
          let w = kept a (below at.url a at.anchor) f.there in
          record {
            entry = w.entry;
            winner = w.winner;
            first_ones = f.first_ones ∙ ap (take (length (bytes_with p.earlier p.served))) (w.body_is tells);
            whole = λ z. f.whole z ∙ w.body_is tells;
          }

      old_url : (url other : List ℕ) → HadEntry r (anchor_of (key_of url) r.setting.anchors)
          → r.url (old_offer r (anchor_of (key_of url) r.setting.anchors)) ≡ other → IsUsed slot images script other
      old_url url other there is = let w = kept (anchor_of (key_of url) r.setting.anchors) (here url) there in
          inl (w.entry, w.winner.complete, sym (w.url_is tells) ∙ is)

      new_url : (a x : ℕ) (other : List ℕ) → (p : BegunIn r crew a x) → url_in p.served.asked.request ≡ Some other
          → IsUsed slot images script other
      new_url a x other p named =
          let o = offer_of p.served.asked.request other ((rules.versions.printed a x p).0) named in
          inr (bytes_of o.0, offered script crew (λ earlier s. Begins r.setting.anchors s a x) serves p other o.0 o.1)

      twin : (url : List ℕ) → HasOtherUrl r crew url → HasTwin slot images script url
      twin url h = record {
        other = h.other;
        used = ⊎_elim
            (λ (old : HadEntry r (anchor_of (key_of url) r.setting.anchors)
            × (r.url (old_offer r (anchor_of (key_of url) r.setting.anchors)) ≡ h.other)). old_url url h.other old.0 old.1)
            (λ (new : (x : ℕ) × (p : BegunIn r crew (anchor_of (key_of url) r.setting.anchors) x)
            × (url_in p.served.asked.request ≡ Some h.other)).
            new_url (anchor_of (key_of url) r.setting.anchors) new.0 h.other new.1 new.2)
            h.is.source;
        same_key = h.is.same_key;
        differs = h.is.differs;
      }

      pub responses : AreResponses r slot anchors images script crew
      responses = record {
        hit = hit;
        hit_old = hit_old;
        bytes = bytes;
        tab_old = tab_old;
        other =
            λ url p. twin url (rules.answers.other tells url p);
      }
