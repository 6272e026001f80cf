-- What steps add is kept, and lines that ask nothing of the store add nothing.
use Rattle.std.proofs.Common.{◌≡◌, ◌≢◌, ◌⊎◌, inl, inr, ⊎_elim, ℕ, ◌+◌, List, [], ◌∷◌, ◌++◌, sym, refl, ap, ◌∙◌, subst, arith, Bool, true, false, Contains}
use Rattle.std.specs.Prelude.{None, ◌↔◌}
use Rattle.std.proofs.lemmas.List.Elements.{Contains-append_cases, Contains-append_right}
use Rattle.lock_word.specs.declared.cause.Cause.{Cause}
use Rattle.lock_word.specs.declared.word.Word.{Word}
use Rattle.lock_word.specs.declared.epoch.Epoch.{Epoch}
use Rattle.script_text.specs.declared.answer.Answer.{Answer}
use Rattle.script_text.specs.declared.answer.Answer.TheVariants as answer
use Rattle.script_text.specs.declared.body.Body.{Body}
use Rattle.script_text.specs.declared.request.Request.{Request}
use Rattle.script_text.specs.declared.request.Request.TheVariants.{Add, Await, Begin, CloseTab, DropTab, End, Get, Mark, More, OpenTab, Put, Save}
use Rattle.core_model.specs.declared.view.Deed.{Deed}
use Rattle.core_model.specs.declared.view.Item.{Item}
use Rattle.core_model.specs.declared.view.Sight.{Sight}
use Rattle.core_model.specs.declared.view.View.{View}
use Rattle.core_model.specs.Trails.{drawn, draws, has_drawn, is_drawn}
use Rattle.core_model.proofs.Lists.{contains_none}
use Rattle.line_account.specs.Lines.{Fits, Offers, Served, gives_up}
use Rattle.line_account.specs.Requests.{IsAnswerTo}
use Rattle.line_account.specs.Stopping.{ReadsBehind, is_end, is_halted, is_other_url}
use Rattle.line_account.specs.Deeds.{Began, BeganAndEnded, BeganOnTab}
use Rattle.line_account.specs.Answers.{ComesIn, OpenedAs, ReadAs, Reads, Refuses, Run, TellsDoom}
use Rattle.line_account.specs.Accounts.{IsOffered, Tells, drew_some, drew_version, epochs_of}
use Rattle.core_model.specs.Knowing.{KnowsAll}
use Rattle.line_account.specs.Courses.{Adds, one_if}
use Rattle.line_account.specs.Steps.{AtMark, IsAfter, IsIdle, IsMarkLine, IsTabLine}

-- Lists of what steps added.

drawn_added : (x : ℕ) (items trail : List Item) → drawn x (items ++ trail) ≡ drawn x items + drawn x trail
drawn_added x [] trail = omega arith
drawn_added x (i ∷ items) trail = let h = drawn_added x items trail in omega arith

draws_added : (items trail : List Item) → draws (items ++ trail) ≡ draws items + draws trail
draws_added [] trail = omega arith
draws_added (i ∷ items) trail = let h = draws_added items trail in omega arith

module _ {X : Type 0} (v w : View X) (items : List Item) (sights : List Sight) (done : List Deed) (meetings : List ℕ) (h : IsAfter v items sights done meetings w) where
  pub keeps : KnowsAll v w
  keeps = record {
    pass = h.pass;
    seen = λ x c. subst (λ (l : List Sight). Contains l x) (sym h.seen) (Contains-append_right sights v.seen x c);
    trail = λ x c. subst (λ (l : List Item). Contains l x) (sym h.trail) (Contains-append_right items v.trail x c);
    met = λ a c. subst (λ (l : List ℕ). Contains l a) (sym h.met) (Contains-append_right meetings v.met a c);
  }

  pub drawn_after : (x : ℕ) → drawn x w.trail ≡ drawn x items + drawn x v.trail
  drawn_after x = ap (drawn x) h.trail ∙ drawn_added x items v.trail

  pub draws_after : draws w.trail ≡ draws items + draws v.trail
  draws_after = ap draws h.trail ∙ draws_added items v.trail

  pub deeds_after : (d : Deed) → Contains w.deeds d → Contains v.deeds d ⊎ Contains done d
  deeds_after d c = ⊎_elim (λ (q : Contains done d). inr q) (λ (q : Contains v.deeds d). inl q) (Contains-append_cases done v.deeds d (subst (λ (l : List Deed). Contains l d) h.deeds c))

-- Answers that tell nothing of the store.

record IsSilent (a : Answer) : Type 0 where
  epochs : (opened looked : ℕ) → epochs_of opened looked a ≡ []
  began : (q : Request) (x : ℕ) → Began q a x → ⊥
  finished : (x : ℕ) → (a ≡ answer.Stored x) ⊎ (a ≡ answer.Doomed x) → ⊥
  gave_up : gives_up a ≡ false
  full : a ≢ answer.Full
  large : a ≢ answer.Large
  long : a ≢ answer.LongUrl
  busy : (looked other : Word) → a ≢ answer.Busy looked other
  spent : (n : ℕ) → a ≢ answer.Spent n
  refuses : (c : Cause) → Refuses a c → ⊥
  opened : (q : Request) (x : ℕ) → ComesIn q a x → ⊥
  hit : (x : ℕ) (bytes : List ℕ) → a ≢ answer.Hit x bytes
  other : a ≢ answer.OtherUrl
  halted : (bytes : List ℕ) → a ≢ answer.Halted bytes
  part : (e : Epoch) (bytes : List ℕ) → a ≢ answer.Part e bytes
  purged : (e : Epoch) → TellsDoom a e → ⊥
  added : (n : ℕ) → a ≢ answer.Added n
  reads : Reads a → ⊥

-- by shape: what a line that begins a version tells, and what one tells that comes to an entry
none_began : (a : Answer) → ((x : ℕ) → BeganAndEnded a x → ⊥) → ((x : ℕ) → BeganOnTab a x → ⊥)
    → (q : Request) (x : ℕ) → Began q a x → ⊥
none_began a ended begun (Put url body) x h = ended x h
none_began a ended begun (Save url body) x h = ended x h
none_began a ended begun (Begin tab url body) x h = begun x h
none_began a ended begun _ x h = absurd h

none_came : (a : Answer) → ((x : ℕ) → OpenedAs a x → ⊥) → ((x : ℕ) → ReadAs a x → ⊥) → (q : Request) (x : ℕ) → ComesIn q a x → ⊥
none_came a opened read (Get url) x h = read x h
none_came a opened read (OpenTab tab url) x h = opened x h
none_came a opened read _ x h = absurd h

silent_tab : IsSilent answer.Tab
silent_tab = record {
  epochs = λ opened looked. refl;
  began = none_began answer.Tab (λ x h. h) (λ x h. h);
  finished = λ x h. ⊎_elim (λ (q : answer.Tab ≡ answer.Stored x). cc) (λ (q : answer.Tab ≡ answer.Doomed x). cc) h;
  gave_up = refl;
  full = λ h. cc;
  large = λ h. cc;
  long = λ h. cc;
  busy = λ looked other h. cc;
  spent = λ n h. cc;
  refuses = λ c h. h;
  opened = none_came answer.Tab (λ x h. h) (λ x h. h);
  hit = λ x bytes h. cc;
  other = λ h. cc;
  halted = λ bytes h. cc;
  part = λ e bytes h. cc;
  purged = λ e h. h;
  added = λ n h. cc;
  reads = λ h. h;
}

silent_marked : IsSilent answer.Marked
silent_marked = record {
  epochs = λ opened looked. refl;
  began = none_began answer.Marked (λ x h. h) (λ x h. h);
  finished = λ x h. ⊎_elim (λ (q : answer.Marked ≡ answer.Stored x). cc) (λ (q : answer.Marked ≡ answer.Doomed x). cc) h;
  gave_up = refl;
  full = λ h. cc;
  large = λ h. cc;
  long = λ h. cc;
  busy = λ looked other h. cc;
  spent = λ n h. cc;
  refuses = λ c h. h;
  opened = none_came answer.Marked (λ x h. h) (λ x h. h);
  hit = λ x bytes h. cc;
  other = λ h. cc;
  halted = λ bytes h. cc;
  part = λ e bytes h. cc;
  purged = λ e h. h;
  added = λ n h. cc;
  reads = λ h. h;
}

silent_met : IsSilent answer.Met
silent_met = record {
  epochs = λ opened looked. refl;
  began = none_began answer.Met (λ x h. h) (λ x h. h);
  finished = λ x h. ⊎_elim (λ (q : answer.Met ≡ answer.Stored x). cc) (λ (q : answer.Met ≡ answer.Doomed x). cc) h;
  gave_up = refl;
  full = λ h. cc;
  large = λ h. cc;
  long = λ h. cc;
  busy = λ looked other h. cc;
  spent = λ n h. cc;
  refuses = λ c h. h;
  opened = none_came answer.Met (λ x h. h) (λ x h. h);
  hit = λ x bytes h. cc;
  other = λ h. cc;
  halted = λ bytes h. cc;
  part = λ e bytes h. cc;
  purged = λ e h. h;
  added = λ n h. cc;
  reads = λ h. h;
}

silent_unmet : IsSilent answer.Unmet
silent_unmet = record {
  epochs = λ opened looked. refl;
  began = none_began answer.Unmet (λ x h. h) (λ x h. h);
  finished = λ x h. ⊎_elim (λ (q : answer.Unmet ≡ answer.Stored x). cc) (λ (q : answer.Unmet ≡ answer.Doomed x). cc) h;
  gave_up = refl;
  full = λ h. cc;
  large = λ h. cc;
  long = λ h. cc;
  busy = λ looked other h. cc;
  spent = λ n h. cc;
  refuses = λ c h. h;
  opened = none_came answer.Unmet (λ x h. h) (λ x h. h);
  hit = λ x bytes h. cc;
  other = λ h. cc;
  halted = λ bytes h. cc;
  part = λ e bytes h. cc;
  purged = λ e h. h;
  added = λ n h. cc;
  reads = λ h. h;
}

-- a tab that reads is not answered so
silent_no_more : (tab : ℕ) (a : Answer) → IsSilent a → IsAnswerTo (More tab) a → (a ≡ answer.Tab → ⊥) → ⊥
silent_no_more tab (answer.Part e bytes) q may fits = q.reads tt
silent_no_more tab (answer.End bytes) q may fits = q.reads tt
silent_no_more tab (answer.Halted bytes) q may fits = q.reads tt
silent_no_more tab (answer.ReadFault bytes) q may fits = q.reads tt
silent_no_more tab answer.OtherUrl q may fits = q.other refl
silent_no_more tab answer.Tab q may fits = fits refl
silent_no_more tab _ q may fits = may

module _ {X : Type 0} (r : Run X) where
  -- so it is not behind another line
  none_behind : (so : Answer → Bool) (earlier : List Served) (s : Served) (t : ℕ) → IsSilent s.answer → IsAnswerTo s.asked.request s.answer → ((s.answer ≡ answer.Tab) ↔ ¬ Fits earlier s.asked.request) → ReadsBehind so earlier s t → ⊥
  none_behind so earlier s t q may tab h = silent_no_more t s.answer q (subst (λ (z : Request). IsAnswerTo z s.answer) h.request may)
      (λ e. tab.0 e (subst (Fits earlier) (sym h.request) h.reads))

  silent_tells : (v : View X) (earlier : List Served) (s : Served) → IsSilent s.answer → IsAnswerTo s.asked.request s.answer → s.drew ≡ None
      → ((url : List ℕ) (body : Body) → Offers s.asked.request url body → IsOffered r s url body) → ((url : List ℕ) (body : Body) → Offers s.asked.request url body → Fits earlier s.asked.request → ⊥)
      → ((s.answer ≡ answer.Tab) ↔ ¬ Fits earlier s.asked.request) → Tells r v earlier s
  silent_tells v earlier s q may none offered unfit tab = record {
    shown = λ a e h. absurd (contains_none e (subst (λ (l : List ℕ). Contains l e) (q.epochs s.opened s.looked) h.shown));
    answers = may;
    drew = λ n. absurd (n none);
    began = λ x h. absurd (q.began s.asked.request x h);
    finished = λ x h. absurd (q.finished x h);
    gave_up = λ writes h. absurd (let z : true ≡ false = sym h ∙ q.gave_up in cc);
    full = λ h. absurd (q.full h);
    large = λ h. absurd (q.large h);
    small = λ x h. absurd (q.finished x h);
    long = λ h. absurd (q.long h);
    short = λ url body h fits far. absurd (unfit url body h fits);
    busy = λ looked other h. absurd (q.busy looked other h);
    spent = λ n h. absurd (q.spent n h);
    offered = offered;
    cause = λ c h. absurd (q.refuses c h);
    key = λ e key a h at. absurd (q.refuses _ h);
    opened = λ x h. absurd (q.opened s.asked.request x h);
    hit = λ t x bytes h. absurd (q.hit x bytes h);
    other = λ t h. absurd (q.other h);
    halted = λ bytes h. absurd (q.halted bytes h);
    part = λ e bytes h. absurd (q.part e bytes h);
    halted_version = λ bytes h. absurd (q.halted bytes h);
    part_version = λ e bytes h. absurd (q.part e bytes h);
    purged = λ e h. absurd (q.purged e h);
    added = λ n h. absurd (q.added n h);
    given = λ t h. absurd (q.reads h);
    tab = tab;
    behind_end = λ t h. absurd (none_behind is_end earlier s t q may tab h);
    behind_other = λ t h. absurd (none_behind is_other_url earlier s t q may tab h);
    behind_halted = λ t h. absurd (none_behind is_halted earlier s t q may tab h);
  }

  silent_adds : (v w : View X) (earlier : List Served) (s : Served) → IsSilent s.answer → s.drew ≡ None → Tells r w earlier s → IsIdle v w → Adds r v earlier s w
  silent_adds v w earlier s q none tells idle = record {
    keeps = idle.keeps;
    drawn = λ x. idle.drawn x ∙ (let z : one_if (drew_version x s) ≡ 0 = ap one_if (ap (is_drawn x) none) in omega arith);
    draws = idle.draws ∙ (let z : one_if (drew_some s) ≡ 0 = ap one_if (ap has_drawn none) in omega arith);
    deeds = λ d h. inl (subst (λ (l : List Deed). Contains l d) idle.deeds h);
    fresh = λ a e h. absurd (contains_none e (subst (λ (l : List ℕ). Contains l e) (q.epochs s.opened s.looked) h.shown));
    stages = λ a d e h seen same. absurd (contains_none e (subst (λ (l : List ℕ). Contains l e) (q.epochs s.opened s.looked) h.shown));
    above = λ a b x h. absurd (q.began s.asked.request x h.began);
    tells = tells;
    parts = λ t e bytes h. absurd (q.part e bytes h);
  }

  -- lines at marks

  not_offered : (s : Served) (q : Request) (a : Answer) → AtMark q a → (url : List ℕ) (body : Body) → Offers q url body → ⊥
  not_offered s (Mark mark) a at other_url other_body h = h
  not_offered s (Await mark) a at other_url other_body h = h
  not_offered s _ a at other_url other_body h = at

  mark_silent : (q : Request) (a : Answer) → AtMark q a → IsSilent a
  mark_silent (Mark mark) a at = subst IsSilent (sym at) silent_marked
  mark_silent (Await mark) a at = ⊎_elim (λ (z : a ≡ answer.Met). subst IsSilent (sym z) silent_met) (λ (z : a ≡ answer.Unmet). subst IsSilent (sym z) silent_unmet) at
  mark_silent _ a at = absurd at

  mark_answers : (q : Request) (a : Answer) → AtMark q a → IsAnswerTo q a
  mark_answers (Mark mark) a at = subst (IsAnswerTo (Mark mark)) (sym at) tt
  mark_answers (Await mark) a at = ⊎_elim (λ (z : a ≡ answer.Met). subst (IsAnswerTo (Await mark)) (sym z) tt) (λ (z : a ≡ answer.Unmet). subst (IsAnswerTo (Await mark)) (sym z) tt) at
  mark_answers _ a at = absurd at

  mark_fits : (earlier : List Served) (q : Request) (a : Answer) → AtMark q a → Fits earlier q
  mark_fits earlier (Mark mark) a at = tt
  mark_fits earlier (Await mark) a at = tt
  mark_fits earlier _ a at = absurd at

  mark_no_tab : (q : Request) (a : Answer) → AtMark q a → a ≢ answer.Tab
  mark_no_tab (Mark mark) a at h = let z : answer.Marked ≡ answer.Tab = sym at ∙ h in cc
  mark_no_tab (Await mark) a at h = ⊎_elim (λ (k : a ≡ answer.Met). let z : answer.Met ≡ answer.Tab = sym k ∙ h in cc) (λ (k : a ≡ answer.Unmet). let z : answer.Unmet ≡ answer.Tab = sym k ∙ h in cc) at
  mark_no_tab _ a at h = absurd at

  pub mark_adds : (v w : View X) (earlier : List Served) (s : Served) → IsMarkLine s → IsIdle v w → Adds r v earlier s w
  mark_adds v w earlier s m idle =
      let q = mark_silent s.asked.request s.answer m.at in
      silent_adds v w earlier s q m.drew
      (silent_tells w earlier s q (mark_answers s.asked.request s.answer m.at) m.drew (λ url body h. absurd (not_offered s s.asked.request s.answer m.at url body h)) (λ url body h fits. not_offered s s.asked.request s.answer m.at url body h)
      ((λ h. absurd (mark_no_tab s.asked.request s.answer m.at h)), (λ n. absurd (n (mark_fits earlier s.asked.request s.answer m.at)))))
      idle

  -- lines whose tab was not as they needed it

  tab_answers : (earlier : List Served) (q : Request) → ¬ Fits earlier q → IsAnswerTo q answer.Tab
  tab_answers earlier (Begin tab url body) n = tt
  tab_answers earlier (Add tab count) n = tt
  tab_answers earlier (End tab) n = tt
  tab_answers earlier (DropTab tab) n = tt
  tab_answers earlier (OpenTab tab url) n = tt
  tab_answers earlier (More tab) n = tt
  tab_answers earlier (CloseTab tab) n = tt
  tab_answers earlier _ n = absurd (n tt)

  pub tab_adds : (v w : View X) (earlier : List Served) (s : Served) → IsTabLine r earlier s → IsIdle v w → Adds r v earlier s w
  tab_adds v w earlier s m idle =
      let q : IsSilent s.answer = subst IsSilent (sym m.answered) silent_tab in
      silent_adds v w earlier s q m.drew
      (silent_tells w earlier s q (subst (IsAnswerTo s.asked.request) (sym m.answered) (tab_answers earlier s.asked.request m.unfit)) m.drew m.offered (λ url body h fits. m.unfit fits)
      ((λ h. m.unfit), (λ n. m.answered)))
      idle
