-- The laws on versions and epochs.
use Rattle.std.proofs.Common.{◌≡◌, ◌≢◌, ◌⊎◌, inl, inr, ⊎_elim, ℕ, ◌+◌, ◌<◌, ◌≤◌, List, [], ◌∷◌, Contains, sym, refl, ap, ◌∙◌, subst, arith}
use Rattle.std.specs.Prelude.{Option, Some, true, unwrap_or}
use mathlib.Core.Logic.{dite}
use native.Mathlib.Decide.{ℕ_discrete}
use Rattle.lock_word.specs.Words.{doom_of, epoch_at, stage_of, version_of}
use Rattle.core_model.specs.declared.view.Deed.{Deed}
use Rattle.core_model.specs.declared.view.Kind.TheVariants.{Changed, Doomed, Raised}
use Rattle.core_model.specs.declared.view.View.{View}
use Rattle.core_model.specs.Anchors.{opening_counter, opening_epoch}
use Rattle.core_model.specs.Deeds.{ClosedVersion, DoomedVersion, HaltedVersion, IsDone, LeftEpoch, TookVersion}
use Rattle.core_model.proofs.DeedsTell.{known_begun, known_grown, known_halted, known_old, known_quiet, known_taken}
use Rattle.store_key.specs.Anchor.{anchor_of}
use Rattle.store_key.specs.Key.{key_of}
use Rattle.script_text.specs.Requests.{url_in}
use Rattle.line_account.specs.Lines.{IsAnchorOf, IsAt, Served, offers}
use Rattle.script_text.specs.declared.answer.Answer.{Answer}
use Rattle.script_text.specs.declared.answer.Answer.TheVariants as answer
use Rattle.script_text.specs.declared.request.Request.{Request}
use Rattle.script_text.specs.declared.request.Request.TheVariants.{Begin, Put, Save}
use Rattle.line_account.specs.Deeds.{Began, BeganAndEnded, BeganOnTab, Begins, Halts, IsDeedOf, IsDeedOfEnd, IsWriting, PrintsBegun, PrintsBegunVersion, Purges, TellsBegun, TellsEnded, WipesInVain}
use Rattle.line_account.specs.Answers.{Run}
use Rattle.line_account.specs.Accounts.{epochs_of}
use Rattle.line_account.specs.Closing.{BegunIn, Closed, HaltedIn, IsSameLine, LineIn, PrintsDoomed, PrintsHalted, PurgedIn, PurgesVersion, ShownIn, SomeHalted, StoredIn, Stores, Worker, offered}
use Rattle.line_account.specs.Printed.{HadEntry}
use Rattle.line_account.proofs.Gathered.{AtEnd, by_cause, by_line, counter_is, drawn_some, inside, one_line, same_line, shown_known, tells_at}

-- Answers that tell the version that a line began.

ended_began : (a : Answer) (x : ℕ) → TellsEnded a x → BeganAndEnded a x
ended_began (answer.Stored version) x h = h
ended_began (answer.Doomed version) x h = h
ended_began _ x h = absurd h

pub told_began : (q : Request) (a : Answer) (x : ℕ) → TellsBegun q a x → Began q a x
told_began (Put url body) a x h = ended_began a x h
told_began (Save url body) a x h = ended_began a x h
told_began (Begin tab url body) a x h = h
told_began _ a x h = absurd h

one_ended : (a : Answer) (x y : ℕ) → TellsEnded a x → BeganAndEnded a y → x ≡ y
one_ended (answer.Stored version) x y h g = sym h ∙ g
one_ended (answer.Doomed version) x y h g = sym h ∙ g
one_ended _ x y h g = absurd h

one_on_tab : (a : Answer) (x y : ℕ) → BeganOnTab a x → BeganOnTab a y → x ≡ y
one_on_tab (answer.Begun version) x y h g = sym h ∙ g
one_on_tab _ x y h g = absurd h

one_told : (q : Request) (a : Answer) (x y : ℕ) → TellsBegun q a x → Began q a y → x ≡ y
one_told (Put url body) a x y h g = one_ended a x y h g
one_told (Save url body) a x y h g = one_ended a x y h g
one_told (Begin tab url body) a x y h g = one_on_tab a x y h g
one_told _ a x y h g = absurd h

module _ {X : Type 0} (r : Run X) (crew : List Worker) (c : Closed r crew) where
  pub begun_once : (a b x : ℕ) (p : BegunIn r crew a x) (q : BegunIn r crew b x) → IsSameLine crew (λ earlier s. Begins r.setting.anchors s a x) (λ earlier s. Begins r.setting.anchors s b x) p q
  begun_once a b x p q = one_line r crew c (λ earlier s. Begins r.setting.anchors s a x) (λ earlier s. Begins r.setting.anchors s b x) p q x p.so.drew q.so.drew

  pub begun_at_one : (a b x : ℕ) → BegunIn r crew a x → BegunIn r crew b x → a ≡ b
  begun_at_one a b x p q =
      let same = same_line r crew c (λ earlier s. Begins r.setting.anchors s a x) (λ earlier s. Begins r.setting.anchors s b x) p q (begun_once a b x p q) in
      one_anchor p.served q.served same p.so.anchor q.so.anchor
    where
      one_anchor : (s t : Served) → s ≡ t → IsAnchorOf r.setting.anchors (url_in s.asked.request) a → IsAnchorOf r.setting.anchors (url_in t.asked.request) b → a ≡ b
      one_anchor s t same h g =
          let k : Some h.url ≡ Some g.url = sym h.named_is ∙ ap (λ (u : Served). url_in u.asked.request) same ∙ g.named_is in
          let e : h.url ≡ g.url = cc in
          h.anchor ∙ ap (λ (u : List ℕ). anchor_of (key_of u) r.setting.anchors) e ∙ sym g.anchor

  abbrev TellsSo : ℕ → ℕ → List Served → Served → Type 0
  TellsSo a x earlier s = PrintsBegunVersion r.setting.anchors s a x

  -- a line that printed that it began a version did so
  pub told_begun : (a x : ℕ) (p : LineIn crew (TellsSo a x)) → Begins r.setting.anchors p.served a x
  told_begun a x p =
      let s : Served = p.served in
      let began = told_began s.asked.request s.answer x p.so.told in
      let h = (tells_at r crew c (TellsSo a x) p).began x began in
      record { anchor = p.so.anchor; drew = h.drew ∙ ap Some (sym (one_told s.asked.request s.answer x h.version p.so.told h.began)); began = began }

  pub told_once : (a b x : ℕ) (p : LineIn crew (TellsSo a x)) (q : LineIn crew (TellsSo b x)) → IsSameLine crew (TellsSo a x) (TellsSo b x) p q
  told_once a b x p q = one_line r crew c (TellsSo a x) (TellsSo b x) p q x (told_begun a x p).drew (told_begun b x q).drew

  pub bounded : (a x : ℕ) → BegunIn r crew a x → (opening_counter r.setting < x) × (x ≤ opening_counter r.setting + offered crew)
  bounded a x p =
      let above = c.sound.anchors.drawn.above x (drawn_some r crew c (λ earlier s. Begins r.setting.anchors s a x) p x p.so.drew) in
      let most = counter_is r crew c in
      (above.0, (let z = above.1 in omega arith))

  -- Epochs that lines show.

  pub taken_by_line : (a x : ℕ) → IsDone c.state (TookVersion a x) → BegunIn r crew a x
  taken_by_line a x done = by_line r crew c (TookVersion a x) (λ earlier s. Begins r.setting.anchors s a x)
      (λ v d earlier s p h. subst (λ (y : ℕ). Begins r.setting.anchors s a y) p.2 (subst (λ (b : ℕ). Begins r.setting.anchors s b (version_of d.epoch)) p.1 (h.took p.0 p.3)))
      (λ d served p h. let z = (h.changed p.0).0 in let y = p.3 in omega arith)
      done

  pub version_of_old : (a e : ℕ) → ShownIn r crew a e → version_of e ≤ opening_counter r.setting → (version_of e ≡ version_of (opening_epoch r.setting a)) × (stage_of e ≢ 1) × (stage_of e ≢ 2) × (stage_of e ≢ 4)
  version_of_old a e p low =
      let known = shown_known r crew c a e p in
      let quiet = known_quiet r.setting c.state c.sound a e known low in
      ((known_old r.setting c.state c.sound a e known low).version, quiet.0, quiet.1, quiet.2)

  pub stage_of_old : (a e : ℕ) → ShownIn r crew a e → version_of e ≤ opening_counter r.setting → (stage_of e ≡ stage_of (opening_epoch r.setting a)) ⊎ ((5 ≤ stage_of e) × HadEntry r a)
  stage_of_old a e p low = (known_old r.setting c.state c.sound a e (shown_known r crew c a e p) low).stage

  pub doom_from : (a e : ℕ) → ShownIn r crew a e → doom_of e ≡ 1 → 2 ≤ stage_of e
  doom_from a e p doom = known_grown r.setting c.state c.sound a e (shown_known r crew c a e p) doom

  -- where the anchor had no entry, nothing is given back, and nothing is doomed
  pub empty_of_old : (a e : ℕ) → ShownIn r crew a e → version_of e ≤ opening_counter r.setting → stage_of (opening_epoch r.setting a) ≡ 0 → (stage_of e ≡ 0) × (doom_of e ≡ 0)
  empty_of_old a e p low none = (at_none, undoomed)
    where
      at_none : stage_of e ≡ 0
      at_none = ⊎_elim (λ (q : stage_of e ≡ stage_of (opening_epoch r.setting a)). q ∙ none) (λ (q : (5 ≤ stage_of e) × HadEntry r a). absurd (let z = q.1 in omega arith)) (stage_of_old a e p low)

      undoomed : doom_of e ≡ 0
      undoomed = dite (ℕ_discrete (doom_of e) 1) (λ doom. absurd (let z = doom_from a e p doom in let y = at_none in omega arith)) (λ ne. omega arith)

  pub begun_stage : (a e : ℕ) → ShownIn r crew a e → opening_counter r.setting < version_of e → 1 ≤ stage_of e
  begun_stage a e p high = known_begun r.setting c.state c.sound a e (shown_known r crew c a e p) high

  pub version_of_new : (a e : ℕ) → ShownIn r crew a e → opening_counter r.setting < version_of e → BegunIn r crew a (version_of e)
  version_of_new a e p high = taken_by_line a (version_of e) (known_taken r.setting c.state c.sound a e (shown_known r crew c a e p) high)

  -- an epoch with a new version was left by a deed
  left_new : (a e : ℕ) → ShownIn r crew a e → opening_counter r.setting < version_of e → IsDone c.state (LeftEpoch a e)
  left_new a e p high = ⊎_elim
      (λ (q : e ≡ opening_epoch r.setting a). absurd (let z = c.sound.anchors.setting.version a (inside r crew c a e (shown_known r crew c a e p)) in let y = ap version_of q in omega arith))
      (λ (q : IsDone c.state (LeftEpoch a e)). q)
      (c.sound.anchors.deeds.left a e (shown_known r crew c a e p))

  -- what a deed left that left an undoomed epoch at CLOSED
  stored_line : (a e : ℕ) → doom_of e ≡ 0 → stage_of e ≡ 3 → (v : View X) (d : Deed) (earlier : List Served) (s : Served) → LeftEpoch a e d → IsDeedOf r v d earlier s → Stores r.setting.anchors earlier s a (version_of e)
  stored_line a e undoomed three v d earlier s p h = ⊎_elim
      (λ (q : d.kind ≡ Changed). absurd (⊎_elim (λ (z : stage_of d.epoch ≡ 1). wrong_stage 1 z (omega arith)) (λ (z : stage_of d.epoch ≡ 5). wrong_stage 5 z (omega arith)) (h.changed q)))
      (λ (q : (d.kind ≡ Raised) ⊎ (d.kind ≡ Doomed)). ⊎_elim
      (λ (t : d.kind ≡ Raised). as_said record { writes = (h.grew t (inr is_three)).writes; printed = (h.closed t is_three).stored (ap doom_of p.1 ∙ undoomed) })
      (λ (t : d.kind ≡ Doomed). absurd (let z = h.with_doom t in let y = ap doom_of p.1 in omega arith))
      q)
      p.0.1
    where
      is_three : stage_of d.epoch ≡ 3
      is_three = ap stage_of p.1 ∙ three

      wrong_stage : (n : ℕ) → stage_of d.epoch ≡ n → n ≢ 3 → ⊥
      wrong_stage n is ne = ne (sym is ∙ is_three)

      as_said : Stores r.setting.anchors earlier s d.anchor (version_of d.epoch) → Stores r.setting.anchors earlier s a (version_of e)
      as_said x = subst (λ (b : ℕ). Stores r.setting.anchors earlier s b (version_of e)) p.0.0 (subst (λ (y : ℕ). Stores r.setting.anchors earlier s d.anchor (version_of y)) p.1 x)

  stored_end : (a e : ℕ) → doom_of e ≡ 0 → stage_of e ≡ 3 → (d : Deed) (served : List Served) → LeftEpoch a e d → IsDeedOfEnd r.setting d served → ⊥
  stored_end a e undoomed three d served p h = ⊎_elim
      (λ (q : d.kind ≡ Changed). wrong_stage 5 (h.changed q).0 (omega arith))
      (λ (q : (d.kind ≡ Raised) ⊎ (d.kind ≡ Doomed)). ⊎_elim
      (λ (t : d.kind ≡ Raised). ⊎_elim (λ (z : stage_of d.epoch ≡ 4). wrong_stage 4 z (omega arith)) (λ (z : stage_of d.epoch ≡ 6). wrong_stage 6 z (omega arith)) (h.raised t))
      (λ (t : d.kind ≡ Doomed). h.doomed t)
      q)
      p.0.1
    where
      wrong_stage : (n : ℕ) → stage_of d.epoch ≡ n → n ≢ 3 → ⊥
      wrong_stage n is ne = ne (sym is ∙ ap stage_of p.1 ∙ three)

  pub stored_by_line : (a e : ℕ) → ShownIn r crew a e → opening_counter r.setting < version_of e → doom_of e ≡ 0 → stage_of e ≡ 3 → StoredIn r crew a (version_of e)
  stored_by_line a e p high undoomed three = by_line r crew c (LeftEpoch a e) (λ earlier s. Stores r.setting.anchors earlier s a (version_of e))
      (stored_line a e undoomed three) (stored_end a e undoomed three) (left_new a e p high)

  -- a version that a deed raised to CLOSED, undoomed, is stored by the line of the deed
  pub closed_in : (a x : ℕ) → IsDone c.state (ClosedVersion a x) → StoredIn r crew a x
  closed_in a x done = by_line r crew c (ClosedVersion a x) (λ earlier s. Stores r.setting.anchors earlier s a x)
      (λ v d earlier s p h. subst (λ (y : ℕ). Stores r.setting.anchors earlier s a y) p.2 (subst (λ (b : ℕ). Stores r.setting.anchors earlier s b (version_of d.epoch)) p.1
      (record { writes = (h.grew p.0 (inr p.3)).writes; printed = (h.closed p.0 p.3).stored p.4 })))
      (λ d served p h. ⊎_elim (λ (z : stage_of d.epoch ≡ 4). wrong d 4 p.3 z (λ f. cc)) (λ (z : stage_of d.epoch ≡ 6). wrong d 6 p.3 z (λ f. cc)) (h.raised p.0))
      done
    where
      wrong : (d : Deed) (n : ℕ) → stage_of d.epoch ≡ 3 → stage_of d.epoch ≡ n → 3 ≢ n → ⊥
      wrong d n three is ne = ne (sym three ∙ is)

  pub halted_in : (a x : ℕ) → IsDone c.state (HaltedVersion a x) → HaltedIn r crew a x
  halted_in a x done = ⊎_elim
      (λ (l : LineIn crew (λ earlier s. Halts r.setting.anchors earlier s a x)). inl l)
      (λ (l : AtEnd r crew c (λ served. IsWriting r.setting.anchors served a x)). inr (record { j = l.0; worker = l.1; at = l.2; writing = l.3 }))
      (by_cause r crew c (HaltedVersion a x) (λ earlier s. Halts r.setting.anchors earlier s a x) (λ served. IsWriting r.setting.anchors served a x)
      (λ v d earlier s p h. subst (λ (y : ℕ). Halts r.setting.anchors earlier s a y) p.2 (subst (λ (b : ℕ). Halts r.setting.anchors earlier s b (version_of d.epoch)) p.1 (h.halted p.0 p.3)))
      (λ d served p h. subst (λ (y : ℕ). IsWriting r.setting.anchors served a y) p.2 (subst (λ (b : ℕ). IsWriting r.setting.anchors served b (version_of d.epoch)) p.1 (h.halted p.0 p.3)))
      done)

  pub halted_by : (a e : ℕ) → ShownIn r crew a e → stage_of e ≡ 4 → HaltedIn r crew a (version_of e)
  halted_by a e p four = halted_in a (version_of e) (known_halted r.setting c.state c.sound a e (shown_known r crew c a e p) four)

  pub purged_by : (a e : ℕ) → ShownIn r crew a e → doom_of e ≡ 1 → PurgedIn r crew a (version_of e)
  purged_by a e p doom = by_line r crew c (DoomedVersion a (version_of e))
      (λ earlier s. PurgesVersion r.setting.anchors s a (version_of e) ⊎ WipesInVain r.setting.anchors s a)
      (λ v d earlier s q h. ⊎_elim
      (λ (p : Purges r.setting.anchors s d.anchor d.epoch). inl (record { epoch = d.epoch; purges = subst (λ (b : ℕ). Purges r.setting.anchors s b d.epoch) q.1 p; version_is = q.2 }))
      (λ (p : WipesInVain r.setting.anchors s d.anchor). inr (subst (λ (b : ℕ). WipesInVain r.setting.anchors s b) q.1 p))
      (h.doomed q.0))
      (λ d served q h. h.doomed q.0)
      (c.sound.anchors.deeds.doomed a e (shown_known r crew c a e p) doom)

  pub first_of_one : (e : ℕ) (es : List ℕ) → es ≡ e ∷ [] → Contains es e
  first_of_one e es h = subst (λ (l : List ℕ). Contains l e) (sym h) (0, omega arith, refl)

  -- the lines of these records show what this list has
  pub shows : (P : List Served → Served → Type 0) (p : LineIn crew P) (a e : ℕ) → IsAt r.setting.anchors p.earlier p.served a → Contains (epochs_of p.served.opened p.served.looked p.served.answer) e → ShownIn r crew a e
  shows P p a e at h = record {
    j = p.j;
    worker = p.worker;
    at = p.at;
    later = p.later;
    served = p.served;
    earlier = p.earlier;
    split = p.split;
    so = record { at = at; shown = h };
  }

  pub halted_line : (a : ℕ) → LineIn crew (λ earlier s. PrintsHalted r.setting.anchors earlier s a) → SomeHalted r crew a
  halted_line a p =
      let P : List Served → Served → Type 0 = λ earlier s. PrintsHalted r.setting.anchors earlier s a in
      let s : Served = p.served in
      let h = p.so in
      let shown = shows P p a s.looked h.at (first_of_one s.looked (epochs_of s.opened s.looked s.answer) (ap (epochs_of s.opened s.looked) h.printed)) in
      record { version = version_of s.looked; halted = halted_by a s.looked shown ((tells_at r crew c P p).halted h.bytes h.printed) }

  pub doomed_line : (a x : ℕ) → LineIn crew (λ earlier s. PrintsDoomed r.setting.anchors earlier s a x) → PurgedIn r crew a x
  doomed_line a x p =
      let P : List Served → Served → Type 0 = λ earlier s. PrintsDoomed r.setting.anchors earlier s a x in
      let s : Served = p.served in
      let h = p.so in
      let shown = shows P p a (epoch_at x 11) h.at (first_of_one (epoch_at x 11) (epochs_of s.opened s.looked s.answer) (ap (epochs_of s.opened s.looked) h.printed)) in
      let doom : doom_of (epoch_at x 11) ≡ 1 = omega arith in
      let version : version_of (epoch_at x 11) ≡ x = omega arith in
      subst (PurgedIn r crew a) version (purged_by a (epoch_at x 11) shown doom)

-- a line begins one version
pub begun_alone : (anchors : ℕ) (s : Served) (a b x y : ℕ) → Begins anchors s a x → Begins anchors s b y → x ≡ y
begun_alone anchors s a b x y p q = ap (λ (o : Option ℕ). unwrap_or o x) (sym p.drew ∙ q.drew)

-- its answer is one of six
on_tab : (a : Answer) (x : ℕ) → BeganOnTab a x → PrintsBegun a
on_tab (answer.Begun version) x h = tt
on_tab _ x h = absurd h

at_once : (a : Answer) (x : ℕ) → BeganAndEnded a x → PrintsBegun a
at_once (answer.Stored version) x h = tt
at_once (answer.Doomed version) x h = tt
at_once answer.Full x h = tt
at_once answer.Large x h = tt
at_once answer.Fault x h = tt
at_once _ x h = absurd h

pub began_prints : (request : Request) (a : Answer) (x : ℕ) → Began request a x → (offers request ≡ true) × PrintsBegun a
began_prints (Put url body) a x h = (refl, at_once a x h)
began_prints (Save url body) a x h = (refl, at_once a x h)
began_prints (Begin tab url body) a x h = (refl, on_tab a x h)
began_prints _ a x h = absurd h
