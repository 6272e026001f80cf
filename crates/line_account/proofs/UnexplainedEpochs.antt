-- Epochs that no run shows.
use Rattle.std.proofs.Common.{Bool, Contains, ◌≡◌, ◌⊎◌, inl, inr, ⊎_elim, ℕ, ◌<◌, ◌≤◌, zero, suc, List, [], ◌∷◌, ◌++◌, sym, refl, ap, ◌∙◌, subst, arith, true, false, cond}
use Rattle.std.proofs.lemmas.Bool.{and_right}
use Rattle.std.specs.Prelude.{IsTrue, None, Some, ◌==◌}
use mathlib.Core.Option.{some, some-injective, some-ne-none}
use lib.ListN.{get_elem?}
use Rattle.lock_word.specs.Words.{doom_number, epoch_number, stage_number, stage_of, version_of}
use Rattle.lock_word.specs.declared.cause.Cause.TheVariants.{Absent, Leaving, Writing}
use Rattle.lock_word.specs.declared.epoch.Epoch.{Epoch}
use Rattle.lock_word.specs.declared.stage.Stage.TheVariants as stage
use Rattle.lock_word.specs.declared.word.Word.{Word}
use Rattle.lock_word.proofs.Parts.{doom_of-epoch_number, stage_of-epoch_number, version_of-epoch_number}
use Rattle.store_key.specs.Anchor.{anchor_of}
use Rattle.store_key.specs.Key.{key_of}
use Rattle.script_text.specs.declared.answer.Answer.{Answer}
use Rattle.script_text.specs.declared.answer.Answer.TheVariants as answer
use Rattle.script_text.specs.declared.body.Body.{Body}
use Rattle.script_text.specs.declared.line.Line.{Line}
use Rattle.script_text.specs.declared.request.Request.{Request}
use Rattle.script_text.specs.declared.request.Request.TheVariants.{Add, Begin, DropTab, End, Get, Put, Save, Wipe}
use Rattle.script_text.specs.Requests.{url_in}
use Rattle.core_model.specs.Anchors.{opening_counter, opening_epoch}
use Rattle.line_account.specs.Accounts.{Shows, epochs_of}
use Rattle.line_account.specs.Alone.{alone, home}
use Rattle.line_account.specs.Answers.{Run, TellsDoom}
use Rattle.line_account.specs.Closing.{HaltedIn, LineIn, PurgesVersion, ShownIn, Stores, TellsBegunIn, Worker}
use Rattle.line_account.specs.Deeds.{Halts, MayEvict, NeededSlots, TellsBegun, WipesInVain}
use Rattle.line_account.specs.Lines.{IsAt, Served, begins, ends, gives_up, url_at, writing}
use Rattle.line_account.specs.Printed.{MayGiveWay, WasWhole}
use Rattle.line_account.specs.Refusals.{Any}
use Rattle.line_account.specs.Rules.{KeepsRules}

-- a line that refuses a `get` by an epoch shows this
abbrev at_get : (anchors : ℕ) (s : Served) (url : List ℕ) → s.asked.request ≡ Get url → (e : ℕ) → Contains (epochs_of s.opened s.looked s.answer) e → Shows anchors [] s (anchor_of (key_of url) anchors) e
at_get anchors s url is e shown = record { at = record { url = url; named_is = ap (url_at []) is; anchor = refl }; shown = shown }

first_of : (e : ℕ) (es xs : List ℕ) → xs ≡ e ∷ es → Contains xs e
first_of e es xs is = subst (λ (l : List ℕ). Contains l e) (sym is) (0, omega arith, refl)

missed : (s : Served) (epoch : Epoch) → s.answer ≡ answer.Miss (Absent epoch) → Contains (epochs_of s.opened s.looked s.answer) (epoch_number epoch)
missed s epoch is = first_of (epoch_number epoch) [] (epochs_of s.opened s.looked s.answer) (ap (epochs_of s.opened s.looked) is)

busy : (s : Served) (held : Word) → s.answer ≡ answer.Busy held held → Contains (epochs_of s.opened s.looked s.answer) (epoch_number held.epoch)
busy s held is = first_of (epoch_number held.epoch) (epoch_number held.epoch ∷ []) (epochs_of s.opened s.looked s.answer) (ap (epochs_of s.opened s.looked) is)

-- the one line of a worker
one_line : (s : Served) (later earlier : List Served) (x : Served) → s ∷ [] ≡ later ++ x ∷ earlier → s ≡ x
one_line s [] earlier x e = cc
one_line s (y ∷ []) earlier x e = absurd (let n : [] ≡ x ∷ earlier = cc in cc)
one_line s (y ∷ z ∷ later) earlier x e = absurd (let n : [] ≡ z ∷ (later ++ x ∷ earlier) = cc in cc)

-- a line that begins no writing leaves none
none_written : (t : ℕ) (s : Served) → begins t s.asked.request s.answer ≡ false → writing t (s ∷ []) ≡ None
none_written t s is = ap (λ (b : Bool). cond b (Some s) (cond (ends t s.asked.request s.answer) None None)) is ∙ same (ends t s.asked.request s.answer)
  where
    same : (b : Bool) → cond b None (writing t []) ≡ None
    same true = refl
    same false = refl

-- a line that may have evicted an entry needed slots
needed_slots : (q : Request) (a : Answer) → MayEvict q a → NeededSlots a
needed_slots (Put url body) a h = h
needed_slots (Save url body) a h = h
needed_slots (Add tab count) a h = h
needed_slots (End tab) a h = h
needed_slots (DropTab tab) a h = h
needed_slots _ a h = absurd h

module _ {X : Type 0} (r : Run X) (script : List Line) (crew : List Worker) (rules : KeepsRules r script crew) where
  abbrev line_in : (j : ℕ) (w : Worker) → get_elem? crew j ≡ some w → (s : Served) → w.served ≡ s ∷ [] → (P : List Served → Served → Type 0) → P [] s → LineIn crew P
  line_in j w at s is P so = record { j = j; worker = w; at = at; later = []; served = s; earlier = []; split = is; so = so }

  abbrev begun_there : (j : ℕ) (w : Worker) → get_elem? crew j ≡ some w → (p : Served) (url : List ℕ) (body : Body) (x : ℕ) → w.served ≡ p ∷ [] → p.asked.request ≡ Put url body → TellsBegun (Put url body) p.answer x
      → TellsBegunIn r crew (home r url) x
  begun_there j w at p url body x is pq told = record {
    j = j;
    worker = w;
    at = at;
    later = [];
    served = p;
    earlier = [];
    split = is;
    so = record { anchor = record { url = url; named_is = ap url_in pq; anchor = refl }; told = subst (λ (q : Request). TellsBegun q p.answer x) (sym pq) told };
  }

  -- a version that a `put` began is above the counter of the opening
  above : (j : ℕ) (w : Worker) (at : get_elem? crew j ≡ some w) (p : Served) (url : List ℕ) (body : Body) (x : ℕ) (is : w.served ≡ p ∷ []) (pq : p.asked.request ≡ Put url body) (told : TellsBegun (Put url body) p.answer x)
      → opening_counter r.setting < x
  above j w at p url body x is pq told =
      let b = begun_there j w at p url body x is pq told in
      (rules.versions.bounds (home r url) x (record { j = j; worker = w; at = at; later = []; served = p; earlier = []; split = is; so = rules.versions.told (home r url) x b })).0

module _ {X : Type 0} (r : Run X) (script : List Line) (w : Worker) (rules : KeepsRules r script (alone w)) (s : Served) (is : w.served ≡ s ∷ []) (url : List ℕ) where
  pub never_held : (body : Body) (held : Word) → opening_epoch r.setting (home r url) ≡ 0 → s.asked.request ≡ Put url body → s.answer ≡ answer.Busy held held
      → held.epoch ≡ record { version = 0; stage = stage.Freeing; doom = false } → ⊥
  never_held body held none sq sa of =
      let e : ℕ = epoch_number held.epoch in
      let version = version_of-epoch_number held.epoch ∙ ap (λ (z : Epoch). z.version) of in
      let at = stage_of-epoch_number held.epoch ∙ ap (λ (z : Epoch). stage_number z.stage) of in
      let empty = rules.epochs.empty (home r url) e
      (line_in r script (alone w) rules 0 w refl s is (λ earlier z. Shows r.setting.anchors earlier z (home r url) e) (record { at = record { url = url; named_is = ap (url_at []) sq; anchor = refl }; shown = busy s held sa }))
      (omega arith) (ap stage_of none) in
      let z = empty.0 in
      omega arith

  pub never_doomed : (x : ℕ) → s.asked.request ≡ Get url → s.answer ≡ answer.Miss (Writing (record { version = x; stage = stage.Taken; doom = true })) → ⊥
  never_doomed x sq sa =
      let epoch : Epoch = record { version = x; stage = stage.Taken; doom = true } in
      let e : ℕ = epoch_number epoch in
      let grown = rules.epochs.doomed_stage (home r url) e
      (line_in r script (alone w) rules 0 w refl s is (λ earlier z. Shows r.setting.anchors earlier z (home r url) e)
      (at_get r.setting.anchors s url sq e (first_of e [] (epochs_of s.opened s.looked s.answer) (ap (epochs_of s.opened s.looked) sa))))
      (doom_of-epoch_number epoch) in
      let at = stage_of-epoch_number epoch in
      omega arith

  -- the line of the worker is this one
  mine : (j : ℕ) (v : Worker) → get_elem? (alone w) j ≡ some v → v.served ≡ s ∷ []
  mine zero v at = sym (ap Worker.served (some-injective w v at)) ∙ is
  mine (suc j) v at = absurd (some-ne-none v (sym at))

  only : (P : List Served → Served → Type 0) → (p : LineIn (alone w) P) → s ≡ p.served
  only P p = one_line s p.later p.earlier p.served (sym (mine p.j p.worker p.at) ∙ p.split)

  module _ (body : Body) (held : Word) (x : ℕ) (sq : s.asked.request ≡ Begin 0 url body) (sa : s.answer ≡ answer.Busy held held) (of : held.epoch ≡ record { version = x; stage = stage.Freeing; doom = false }) where
    abbrev e : ℕ
    e = epoch_number held.epoch

    none_evicts : LineIn (alone w) (λ earlier z. MayEvict z.asked.request z.answer) → ⊥
    none_evicts p = subst NeededSlots (ap Served.answer (sym (only (λ earlier z. MayEvict z.asked.request z.answer) p)) ∙ sa) (needed_slots p.served.asked.request p.served.answer p.so)

    nothing : (t : ℕ) → writing t (s ∷ []) ≡ None
    nothing t = none_written t s (ap (λ (q : Request). begins t q s.answer) sq ∙ ap (begins t (Begin 0 url body)) sa ∙ and_right (0 == t) false refl)

    none_halted : HaltedIn r (alone w) (home r url) (version_of e) → ⊥
    none_halted (inl p) =
        let gave : gives_up s.answer ≡ true = ap (λ (z : Served). gives_up z.answer) (only (λ earlier z. Halts r.setting.anchors earlier z (home r url) (version_of e)) p) ∙ p.so.gave_up in
        let none : false ≡ true = sym (ap gives_up sa) ∙ gave in
        cc
    none_halted (inr q) =
        let some : None ≡ Some q.writing.writes.first = sym (nothing q.writing.tab) ∙ sym (ap (writing q.writing.tab) (mine q.j q.worker q.at)) ∙ q.writing.writes.begun_is in
        cc

    -- nobody was there to give an entry back
    pub never_freed : ⊥
    never_freed = ⊎_elim
        (λ (h : HaltedIn r (alone w) (home r url) (version_of e)). none_halted h)
        (λ (h : MayGiveWay r (alone w) (home r url) (version_of e)). none_evicts h.evicts)
        (rules.epochs.given_back (home r url) e
        (line_in r script (alone w) rules 0 w refl s is (λ earlier z. Shows r.setting.anchors earlier z (home r url) e) (record { at = record { url = url; named_is = ap (url_at []) sq; anchor = refl }; shown = busy s held sa }))
        (doom_of-epoch_number held.epoch ∙ ap (λ (z : Epoch). doom_number z.doom) of)
        (let at = stage_of-epoch_number held.epoch ∙ ap (λ (z : Epoch). stage_number z.stage) of in omega arith))

-- Lines that were all refused.

begins_none : (t : ℕ) (q : Request) (held : Word) → begins t q (answer.Busy held held) ≡ false
begins_none t (Begin u url body) held = and_right (u == t) false refl
begins_none t _ held = refl

-- no tab writes behind them
refused_none : (t : ℕ) (held : Word) (served : List Served) → ((later earlier : List Served) (s : Served) → served ≡ later ++ s ∷ earlier → s.answer ≡ answer.Busy held held) → writing t served ≡ None
refused_none t held [] all = refl
refused_none t held (s ∷ earlier) all =
    let is = all [] earlier s refl in
    let not_begun : begins t s.asked.request s.answer ≡ false = ap (begins t s.asked.request) is ∙ begins_none t s.asked.request held in
    let before = refused_none t held earlier (λ later back z split. all (s ∷ later) back z (ap (λ (l : List Served). s ∷ l) split)) in
    (λ i. cond (not_begun i) (Some s) (cond (ends t s.asked.request s.answer) None (before i))) ∙ same (ends t s.asked.request s.answer)
  where
    same : (b : Bool) → cond b None (writing t []) ≡ None
    same true = refl
    same false = refl

module _ {X : Type 0} (r : Run X) (script : List Line) (crew : List Worker) (rules : KeepsRules r script crew) (a x : ℕ) (held : Word)
    (all : (p : LineIn crew Any) → p.served.answer ≡ answer.Busy held held) where
  any_line : (P : List Served → Served → Type 0) → (p : LineIn crew P) → p.served.answer ≡ answer.Busy held held
  any_line P p = all (record { j = p.j; worker = p.worker; at = p.at; later = p.later; served = p.served; earlier = p.earlier; split = p.split; so = tt })

  abbrev freed : ℕ
  freed = epoch_number held.epoch

  no_eviction : LineIn crew (λ earlier z. MayEvict z.asked.request z.answer) → ⊥
  no_eviction p = subst NeededSlots (any_line (λ earlier z. MayEvict z.asked.request z.answer) p) (needed_slots p.served.asked.request p.served.answer p.so)

  no_giving_up : HaltedIn r crew a (version_of freed) → ⊥
  no_giving_up (inl p) =
      let z : false ≡ true = sym (ap gives_up (any_line (λ earlier y. Halts r.setting.anchors earlier y a (version_of freed)) p)) ∙ p.so.gave_up in
      cc
  no_giving_up (inr q) =
      let none = refused_none q.writing.tab held q.worker.served (λ later earlier s split. all (record { j = q.j; worker = q.worker; at = q.at; later = later; served = s; earlier = earlier; split = split; so = tt })) in
      let z : None ≡ Some q.writing.writes.first = sym none ∙ q.writing.writes.begun_is in
      cc

  pub never_refused_away : LineIn crew (λ earlier s. IsAt r.setting.anchors earlier s a) → held.epoch ≡ record { version = x; stage = stage.Freeing; doom = false } → ⊥
  never_refused_away p of = ⊎_elim
      (λ (h : HaltedIn r crew a (version_of freed)). no_giving_up h)
      (λ (h : MayGiveWay r crew a (version_of freed)). no_eviction h.evicts)
      (rules.epochs.given_back a freed shown
      (doom_of-epoch_number held.epoch ∙ ap (λ (z : Epoch). doom_number z.doom) of)
      (let at = stage_of-epoch_number held.epoch ∙ ap (λ (z : Epoch). stage_number z.stage) of in omega arith))
    where
      shown : ShownIn r crew a freed
      shown = record {
        j = p.j;
        worker = p.worker;
        at = p.at;
        later = p.later;
        served = p.served;
        earlier = p.earlier;
        split = p.split;
        so = record { at = p.so; shown = busy p.served held (any_line (λ earlier s. IsAt r.setting.anchors earlier s a) p) };
      }

module _ {X : Type 0} (r : Run X) (script : List Line) (crew : List Worker) (rules : KeepsRules r script crew) (url : List ℕ) (x : ℕ) where
  abbrev doomed : Epoch
  doomed = record { version = x; stage = stage.Closed; doom = true }

  pub never_doomed_alone : LineIn crew (λ earlier s. (s.asked.request ≡ Get url) × (s.answer ≡ answer.Miss (Leaving doomed))) → ((e : Epoch) → e.version ≡ x → LineIn crew (λ earlier s. TellsDoom s.answer e) → ⊥)
      → ((other : List ℕ) → LineIn crew (λ earlier s. (s.asked.request ≡ Wipe other) × (s.answer ≡ answer.Fault)) → ⊥) → ⊥
  never_doomed_alone p told faults =
      let n : ℕ = epoch_number doomed in
      let by = rules.epochs.doomed (home r url) n (record {
        j = p.j;
        worker = p.worker;
        at = p.at;
        later = p.later;
        served = p.served;
        earlier = p.earlier;
        split = p.split;
        so = record {
          at = record { url = url; named_is = ap (url_at p.earlier) p.so.0; anchor = refl };
          shown = first_of n [] (epochs_of p.served.opened p.served.looked p.served.answer) (ap (epochs_of p.served.opened p.served.looked) p.so.1);
        };
      }) (doom_of-epoch_number doomed) in
      ⊎_elim
      (λ (h : PurgesVersion r.setting.anchors by.served (home r url) (version_of n)).
      told h.purges.epoch
      (sym (version_of-epoch_number h.purges.epoch) ∙ ap version_of h.purges.epoch_is ∙ h.version_is ∙ version_of-epoch_number doomed)
      (record { j = by.j; worker = by.worker; at = by.at; later = by.later; served = by.served; earlier = by.earlier; split = by.split; so = h.purges.answered }))
      (λ (h : WipesInVain r.setting.anchors by.served (home r url)).
      faults h.url
      (record { j = by.j; worker = by.worker; at = by.at; later = by.later; served = by.served; earlier = by.earlier; split = by.split; so = (h.request, h.answered) }))
      by.so

module _ {X : Type 0} (r : Run X) (script : List Line) (u w : Worker) (rules : KeepsRules r script (u ∷ w ∷ [])) (p g : Served) (us : u.served ≡ p ∷ []) (ws : w.served ≡ g ∷ [])
    (url : List ℕ) (body : Body) (pq : p.asked.request ≡ Put url body) (gq : g.asked.request ≡ Get url) where
  abbrev crew : List Worker
  crew = u ∷ w ∷ []

  -- the `get` shows the epoch
  shown : (epoch : Epoch) → g.answer ≡ answer.Miss (Absent epoch) → ShownIn r crew (home r url) (epoch_number epoch)
  shown epoch ga = line_in r script crew rules 1 w refl g ws (λ earlier z. Shows r.setting.anchors earlier z (home r url) (epoch_number epoch)) (at_get r.setting.anchors g url gq (epoch_number epoch) (missed g epoch ga))

  pub never_empty : (x : ℕ) → p.answer ≡ answer.Stored x → g.answer ≡ answer.Miss (Absent (record { version = x; stage = stage.Empty; doom = false })) → ⊥
  never_empty x pa ga =
      let epoch : Epoch = record { version = x; stage = stage.Empty; doom = false } in
      let high = above r script crew rules 0 u refl p url body x us pq (subst (λ (z : Answer). TellsBegun (Put url body) z x) (sym pa) refl) in
      let version = version_of-epoch_number epoch in
      let some = rules.epochs.begun (home r url) (epoch_number epoch) (shown epoch ga) (omega arith) in
      let at = stage_of-epoch_number epoch in
      omega arith

  -- a line of the two workers is one of these
  ours : (j : ℕ) (v : Worker) → get_elem? crew j ≡ some v → (v.served ≡ p ∷ []) ⊎ (v.served ≡ g ∷ [])
  ours zero v at = inl (sym (ap Worker.served (some-injective u v at)) ∙ us)
  ours (suc zero) v at = inr (sym (ap Worker.served (some-injective w v at)) ∙ ws)
  ours (suc (suc j)) v at = absurd (some-ne-none v (sym at))

  either : (P : List Served → Served → Type 0) → (l : LineIn crew P) → (p ≡ l.served) ⊎ (g ≡ l.served)
  either P l = ⊎_elim
      (λ (h : l.worker.served ≡ p ∷ []). inl (one_line p l.later l.earlier l.served (sym h ∙ l.split)))
      (λ (h : l.worker.served ≡ g ∷ []). inr (one_line g l.later l.earlier l.served (sym h ∙ l.split)))
      (ours l.j l.worker l.at)

  module _ (x : ℕ) (none : opening_epoch r.setting (home r url) ≡ 0) (pa : p.answer ≡ answer.Doomed x) (ga : g.answer ≡ answer.Miss (Absent (record { version = x; stage = stage.Gone; doom = false }))) where
    abbrev a : ℕ
    a = home r url

    abbrev epoch : Epoch
    epoch = record { version = x; stage = stage.Gone; doom = false }

    abbrev gone : ℕ
    gone = epoch_number epoch

    gave_up : (z : Served) → (p ≡ z) ⊎ (g ≡ z) → gives_up z.answer ≡ true → ⊥
    gave_up z (inl h) gave = let n : false ≡ true = sym (ap gives_up pa) ∙ ap (λ (y : Served). gives_up y.answer) h ∙ gave in cc
    gave_up z (inr h) gave = let n : false ≡ true = sym (ap gives_up ga) ∙ ap (λ (y : Served). gives_up y.answer) h ∙ gave in cc

    nothing_written : (t : ℕ) (v : Worker) → (v.served ≡ p ∷ []) ⊎ (v.served ≡ g ∷ []) → writing t v.served ≡ None
    nothing_written t v (inl h) = ap (writing t) h ∙ none_written t p (ap (λ (q : Request). begins t q p.answer) pq)
    nothing_written t v (inr h) = ap (writing t) h ∙ none_written t g (ap (λ (q : Request). begins t q g.answer) gq)

    no_halt : HaltedIn r crew a (version_of gone) → ⊥
    no_halt (inl l) = gave_up l.served (either (λ earlier z. Halts r.setting.anchors earlier z a (version_of gone)) l) l.so.gave_up
    no_halt (inr q) = let some : None ≡ Some q.writing.writes.first = sym (nothing_written q.writing.tab q.worker (ours q.j q.worker q.at)) ∙ q.writing.writes.begun_is in cc

    stored : (z : Served) → (p ≡ z) ⊎ (g ≡ z) → z.answer ≡ answer.Stored (version_of gone) → ⊥
    stored z (inl h) at = let n : answer.Doomed x ≡ answer.Stored (version_of gone) = sym pa ∙ ap Served.answer h ∙ at in cc
    stored z (inr h) at = let n : answer.Miss (Absent epoch) ≡ answer.Stored (version_of gone) = sym ga ∙ ap Served.answer h ∙ at in cc

    none_whole : WasWhole r crew a (version_of gone) → ⊥
    none_whole (inl l) = stored l.served (either (λ earlier z. Stores r.setting.anchors earlier z a (version_of gone)) l) l.so.printed
    none_whole (inr h) = let had : stage_of (opening_epoch r.setting a) ≡ 3 = h.0 in let empty = ap stage_of none in omega arith

    pub never_evicted : ⊥
    never_evicted = ⊎_elim
        (λ (h : HaltedIn r crew a (version_of gone)). no_halt h)
        (λ (h : MayGiveWay r crew a (version_of gone)). none_whole h.whole)
        (rules.epochs.given_back a gone (shown epoch ga) (doom_of-epoch_number epoch) (let at = stage_of-epoch_number epoch in omega arith))

-- Entries of the file, in a run that fits.

module _ {X : Type 0} (r : Run X) (script : List Line) (u w : Worker) (rules : KeepsRules r script (u ∷ w ∷ [])) (fit : IsTrue r.fits) (s : Served) (is : w.served ≡ s ∷ []) (url : List ℕ) (x : ℕ)
    (low : x ≤ opening_counter r.setting) where
  pub never_lost : s.asked.request ≡ Get url → s.answer ≡ answer.Miss (Absent (record { version = x; stage = stage.Gone; doom = false })) → ⊥
  never_lost sq sa =
      let epoch : Epoch = record { version = x; stage = stage.Gone; doom = false } in
      let e : ℕ = epoch_number epoch in
      let version = version_of-epoch_number epoch in
      let at = stage_of-epoch_number epoch in
      let new = rules.epochs.given_back_new fit (home r url) e
      (line_in r script (u ∷ w ∷ []) rules 1 w refl s is (λ earlier z. Shows r.setting.anchors earlier z (home r url) e) (at_get r.setting.anchors s url sq e (missed s epoch sa)))
      (doom_of-epoch_number epoch) (omega arith) in
      omega arith

  pub never_freed_there : (body : Body) (held : Word) → s.asked.request ≡ Put url body → s.answer ≡ answer.Busy held held → held.epoch ≡ record { version = x; stage = stage.Freeing; doom = false } → ⊥
  never_freed_there body held sq sa of =
      let e : ℕ = epoch_number held.epoch in
      let version = version_of-epoch_number held.epoch ∙ ap (λ (z : Epoch). z.version) of in
      let at = stage_of-epoch_number held.epoch ∙ ap (λ (z : Epoch). stage_number z.stage) of in
      let new = rules.epochs.given_back_new fit (home r url) e
      (line_in r script (u ∷ w ∷ []) rules 1 w refl s is (λ earlier z. Shows r.setting.anchors earlier z (home r url) e) (record { at = record { url = url; named_is = ap (url_at []) sq; anchor = refl }; shown = busy s held sa }))
      (doom_of-epoch_number held.epoch ∙ ap (λ (z : Epoch). doom_number z.doom) of) (omega arith) in
      omega arith
