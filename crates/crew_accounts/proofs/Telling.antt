-- What a line tells, by its answer.
use Rattle.std.proofs.Common.{Contains, List, None, [], false, length, refl, subst, true, ◌<◌, ◌≡◌, ◌⊎◌, ⊎_elim, ℕ}
use Rattle.std.specs.Prelude.{IsTrue, ◌+◌, ◌≢◌, ◌↔◌}
use Rattle.lock_word.specs.Words.{epoch_number, stage_of}
use Rattle.lock_word.specs.declared.cause.Cause.{Cause}
use Rattle.lock_word.specs.declared.cause.Cause.TheVariants.{OtherKey}
use Rattle.lock_word.specs.declared.epoch.Epoch.{Epoch}
use Rattle.script_text.specs.declared.answer.Answer.{Answer}
use Rattle.script_text.specs.declared.answer.Answer.TheVariants as answer
use Rattle.script_text.specs.declared.body.Body.{Body}
use Rattle.script_text.specs.declared.request.Request.TheVariants.{More}
use Rattle.core_model.specs.declared.view.Sight.TheVariants.{Stood}
use Rattle.core_model.specs.declared.view.View.{View}
use Rattle.line_account.specs.Lines.{Fits, IsAt, Offers, Served, begun_by, gives_up, offers}
use Rattle.line_account.specs.Requests.{IsAnswerTo}
use Rattle.line_account.specs.Stopping.{ReadsBehind, is_end, is_halted, is_other_url}
use Rattle.line_account.specs.Deeds.{Began}
use Rattle.line_account.specs.Answers.{ComesIn, HasAdded, HasGiven, HasHit, HasOpened, HasOther, HasPurged, IsBusy, IsCauseOf, IsKeyRead, IsLarge, IsLong, IsOfOpened, IsSmall, IsSpent, Reads, Refuses, Run, TellsDoom}
use Rattle.line_account.specs.Accounts.{HasBegun, HasFinished, HasGivenUp, IsOffered, Shows, Tells, epoch_in}

module _ {X : Type 0} (r : Run X) (v : View X) (earlier : List Served) (s : Served) where
  -- what the line tells behind END, OTHERURL and HALTED of its tab
  pub record Stays : Type 0 where
    pub behind_end : (t : ℕ) → ReadsBehind is_end earlier s t → s.answer ≡ answer.End []
    pub behind_other : (t : ℕ) → ReadsBehind is_other_url earlier s t → s.answer ≡ answer.OtherUrl
    pub behind_halted : (t : ℕ) → ReadsBehind is_halted earlier s t → s.answer ≡ answer.Halted []

  -- a refusal by this cause
  pub record ForCause (c : Cause) : Type 0 where
    pub cause : IsCauseOf s (epoch_in c) c
    pub key : (e : Epoch) (key : List ℕ) (a : ℕ) → c ≡ OtherKey e key → IsAt r.setting.anchors earlier s a → IsKeyRead r v a (epoch_number e) key

  -- what the line has to tell, by its answer
  abbrev pub ToTell : Answer → Type 0
  ToTell (answer.Stored x) = HasFinished r.setting v earlier s x × IsSmall r earlier s
  ToTell (answer.Doomed x) = HasFinished r.setting v earlier s x × IsSmall r earlier s
  ToTell (answer.Busy looked other) = IsBusy r v earlier s looked other
  ToTell (answer.Spent n) = IsSpent v s n
  ToTell answer.LongUrl = IsLong r s
  ToTell answer.Full = HasGivenUp r.setting.anchors v earlier s × (r.fits ≡ false)
  ToTell answer.Large = HasGivenUp r.setting.anchors v earlier s × IsLarge r earlier s
  ToTell answer.Fault = begun_by earlier s ≢ None → HasGivenUp r.setting.anchors v earlier s
  ToTell (answer.Hit x bytes) = IsTrue r.tells → HasHit r v s bytes × HasGiven r v earlier s
  ToTell (answer.Part e bytes) = (stage_of (epoch_number e) ≡ 2) × IsOfOpened earlier s (epoch_number e) × (IsTrue r.tells → HasGiven r v earlier s)
  ToTell (answer.End bytes) = IsTrue r.tells → HasGiven r v earlier s
  ToTell (answer.Halted bytes) = (stage_of s.looked ≡ 4) × IsOfOpened earlier s s.looked × (IsTrue r.tells → HasGiven r v earlier s)
  ToTell (answer.ReadFault bytes) = IsTrue r.tells → HasGiven r v earlier s
  ToTell answer.OtherUrl = IsTrue r.tells → HasOther r v earlier s
  ToTell (answer.Miss c) = ForCause c
  ToTell (answer.Purged e) = HasPurged r v s e
  ToTell (answer.Wiped e) = HasPurged r v s e
  ToTell (answer.Later e) = HasPurged r v s e
  ToTell (answer.NoEntry c) = ForCause c
  ToTell (answer.Added n) = HasAdded r v earlier s n
  ToTell answer.Dropped = HasGivenUp r.setting.anchors v earlier s
  ToTell _ = Unit {0}

  up : (a : Answer) → ToTell a → begun_by earlier s ≢ None → gives_up a ≡ true → HasGivenUp r.setting.anchors v earlier s
  up answer.Full t writes h = t.0
  up answer.Large t writes h = t.0
  up answer.Fault t writes h = t writes
  up answer.Dropped t writes h = t
  up _ t writes h = absurd (let z : false ≡ true = h in cc)

  by_doom : (a : Answer) → ToTell a → (e : Epoch) → TellsDoom a e → HasPurged r v s e
  by_doom (answer.Purged d) t e h = subst (HasPurged r v s) h t
  by_doom (answer.Wiped d) t e h = subst (HasPurged r v s) h t
  by_doom (answer.Later d) t e h = subst (HasPurged r v s) h t
  by_doom _ t e h = absurd h

  by_cause : (a : Answer) → ToTell a → (c : Cause) → Refuses a c → ForCause c
  by_cause (answer.Miss d) t c h = subst ForCause h t
  by_cause (answer.NoEntry d) t c h = subst ForCause h t
  by_cause _ t c h = absurd h

  by_reading : (a : Answer) → ToTell a → IsTrue r.tells → Reads a → HasGiven r v earlier s
  by_reading (answer.Hit x bytes) t y h = (t y).1
  by_reading (answer.Part e bytes) t y h = t.2 y
  by_reading (answer.End bytes) t y h = t y
  by_reading (answer.Halted bytes) t y h = t.2 y
  by_reading (answer.ReadFault bytes) t y h = t y
  by_reading _ t y h = absurd h

  -- a line that is not on a tab that reads is behind no other one
  pub no_more : ((t : ℕ) → s.asked.request ≡ More t → ⊥) → Stays
  no_more none = record {
    behind_end = λ t h. absurd (none t h.request);
    behind_other = λ t h. absurd (none t h.request);
    behind_halted = λ t h. absurd (none t h.request);
  }

  -- what the account asks of a line by its request too
  pub record ToAnswer : Type 0 where
    pub shown : (a e : ℕ) → Shows r.setting.anchors earlier s a e → Contains v.seen (Stood a e)
    pub answers : IsAnswerTo s.asked.request s.answer
    pub drew : s.drew ≢ None → offers s.asked.request ≡ true
    pub began : (x : ℕ) → Began s.asked.request s.answer x → HasBegun s
    pub opened : (x : ℕ) → ComesIn s.asked.request s.answer x → HasOpened r v s
    pub short : (url : List ℕ) (body : Body) → Offers s.asked.request url body → Fits earlier s.asked.request → r.room < 32 + length url → s.answer ≡ answer.LongUrl
    pub offered : (url : List ℕ) (body : Body) → Offers s.asked.request url body → IsOffered r s url body
    pub tab : (s.answer ≡ answer.Tab) ↔ ¬ Fits earlier s.asked.request
    pub stays : Stays

  pub tells_by : ToTell s.answer → ToAnswer → Tells r v earlier s
  tells_by t q = record {
    shown = q.shown;
    answers = q.answers;
    drew = q.drew;
    began = q.began;
    finished = λ x h. (ends x h).0;
    gave_up = λ writes h. up s.answer t writes h;
    full = λ h. (subst ToTell h t).1;
    large = λ h. (subst ToTell h t).1;
    small = λ x h. (ends x h).1;
    long = λ h. subst ToTell h t;
    short = q.short;
    busy = λ looked other h. subst ToTell h t;
    spent = λ n h. subst ToTell h t;
    offered = q.offered;
    cause = λ c h. (by_cause s.answer t c h).cause;
    key = λ e key a h at. (by_cause s.answer t (OtherKey e key) h).key e key a refl at;
    opened = q.opened;
    hit = λ y x bytes h. (subst ToTell h t y).0;
    other = λ y h. subst ToTell h t y;
    halted = λ bytes h. (subst ToTell h t).0;
    part = λ e bytes h. (subst ToTell h t).0;
    halted_version = λ bytes h. (subst ToTell h t).1;
    part_version = λ e bytes h. (subst ToTell h t).1;
    purged = λ e h. by_doom s.answer t e h;
    added = λ count h. subst ToTell h t;
    given = λ y h. by_reading s.answer t y h;
    tab = q.tab;
    behind_end = q.stays.behind_end;
    behind_other = q.stays.behind_other;
    behind_halted = q.stays.behind_halted;
  }
    where
      ends : (x : ℕ) → (s.answer ≡ answer.Stored x) ⊎ (s.answer ≡ answer.Doomed x) → HasFinished r.setting v earlier s x × IsSmall r earlier s
      ends x h = ⊎_elim (λ (e : s.answer ≡ answer.Stored x). subst ToTell e t) (λ (e : s.answer ≡ answer.Doomed x). subst ToTell e t) h

  -- a line that offers no body, and begins and opens nothing
  pub plain : Stays → ((a e : ℕ) → Shows r.setting.anchors earlier s a e → Contains v.seen (Stood a e)) → IsAnswerTo s.asked.request s.answer → s.drew ≡ None → ((x : ℕ) → Began s.asked.request s.answer x → ⊥)
      → ((x : ℕ) → ComesIn s.asked.request s.answer x → ⊥) → ((url : List ℕ) (body : Body) → Offers s.asked.request url body → ⊥) → Fits earlier s.asked.request → s.answer ≢ answer.Tab → ToAnswer
  plain on shown answers none begins opens offers_none fits no_tab = record {
    shown = shown;
    answers = answers;
    drew = λ n. absurd (n none);
    began = λ x h. absurd (begins x h);
    opened = λ x h. absurd (opens x h);
    short = λ url body h f far. absurd (offers_none url body h);
    offered = λ url body h. absurd (offers_none url body h);
    tab = ((λ h. absurd (no_tab h)), (λ n. absurd (n fits)));
    stays = on;
  }
