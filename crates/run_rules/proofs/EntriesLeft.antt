-- What a file that was given back has of the entries that stood closed at the end.
use Rattle.std.specs.Prelude.{◌≢◌}
use Rattle.std.proofs.Common.{All, Bool, Contains, IsTrue, List, [], ap, arith, inl, inr, length, map, refl, subst, suc, sym, zero, ◌+◌}
use Rattle.std.proofs.Common.{◌-◌, ◌<◌, ◌∙◌, ◌∷◌, ◌≡◌, ◌≤◌, ℕ}
use mathlib.Core.Logic.{dite}
use mathlib.Core.Option.{some, some-injective, some-ne-none}
use native.Mathlib.Decide.{ℕ_discrete}
use lib.ListN.{get_elem?}
use Rattle.lock_word.specs.Words.{doom_of, epoch_of, stage_of, version_of}
use Rattle.lock_word.specs.declared.epoch.Epoch.{Epoch}
use Rattle.store_key.specs.Anchor.{anchor_of}
use Rattle.store_key.specs.Key.{key_of}
use Rattle.rock_disk.specs.Cell.{CellState}
use Rattle.rock_disk.specs.Crash.{IsCrashImage, NowMayStay}
use Rattle.rock_disk.specs.File.{Files}
use Rattle.rebuild_model.specs.Entry.{Entry, IsComplete}
use Rattle.rebuild_model.specs.Image.{IsGreatest}
use Rattle.rebuild_model.specs.Rebuilt.{IsWinner}
use Rattle.script_text.specs.declared.answer.Answer.{Answer}
use Rattle.script_text.specs.declared.answer.Answer.TheVariants.{Stored, Wiped}
use Rattle.script_text.specs.declared.body.Body.{Body}
use Rattle.script_text.specs.declared.line.Line.{Line}
use Rattle.script_text.specs.declared.request.Request.{Request}
use Rattle.script_text.specs.declared.request.Request.TheVariants.{Save, Wipe}
use Rattle.plain_model.specs.declared.entry.Entry.{Entry as PlainEntry}
use Rattle.plain_model.specs.declared.store.Plain.{Plain}
use Rattle.plain_model.specs.Serving.{bytes_of}
use Rattle.plain_model.specs.Store.{place_at}
use Rattle.core_model.specs.declared.moves.Side.TheVariants.{Offer}
use Rattle.core_model.specs.Anchors.{opening_counter}
use Rattle.core_model.specs.State.{State, chain_of, side_word, word}
use Rattle.core_model.proofs.Lists.{at_index}
use Rattle.core_model.proofs.SlotsOpened.{contains_map}
use Rattle.line_account.specs.Lines.{Offers}
use Rattle.store_rule.specs.Ground.{Ground, Rule, anchor_for, url_of}
use Rattle.store_rule.specs.declared.store.Pass.{Pass}
use Rattle.store_rule.specs.Closing.{views_of}
use Rattle.store_rule.specs.Passes.{basis, view}
use Rattle.store_rule.specs.Setting.{shown}
use Rattle.rock_disk.specs.Counts.{Counts}
use Rattle.crashed_stores.specs.Left.{bytes_now}
use Rattle.crashed_stores.specs.Standing.{HaveEntry, IsLasting, offer_at}
use Rattle.rock_run.specs.Offered.{offers_of}
use Rattle.worker_pool.specs.Courses.{Stage}
use Rattle.worker_pool.specs.Running.{Account, answers_of}
use Rattle.store_serve.specs.Serving.{offer_of}
use Rattle.store_serve.specs.Tabs.{IsOffered as IsOfferedTo}
use Rattle.worker_shelf.specs.Shelves.{OnShelf}
use Rattle.crew_accounts.specs.Saved.{IsOfLine, IsSave}
use Rattle.crew_accounts.proofs.ScriptLines.{in_script}
use Rattle.plain_runs.specs.Ends.{StandsClosed}
use Rattle.rock_run.specs.Runs.{HasRun}
use Rattle.run_rules.specs.Plain.{AreInOrder}
use Rattle.run_rules.specs.Standing.{IsAnswered, KeepsAt, LeavesStanding, Stands, StandsAsBefore, StandsAsOffered, WasKept}
use Rattle.run_rules.proofs.Files.{anchor_below}
use Rattle.run_rules.proofs.Left.{Responses, given_back, images_are}
use Rattle.run_rules.proofs.Lists.{at_place, both, image}
use Rattle.run_rules.proofs.Opened.{has_played, same_state}

-- the law that at most one complete entry begins at a slot
abbrev pub OneAtASlot : Type 0
OneAtASlot = (slot : ℕ) (images : List (List ℕ)) (e f : Entry) → IsComplete slot images e → IsComplete slot images f → e.first ≡ f.first
    → e ≡ f

-- what a `save` stores
record Saves (request : Request) : Type 0 where
  url : List ℕ
  body : Body
  is : request ≡ Save url body

saves : (request : Request) → IsSave request → Saves request
saves (Save url body) h = record { url = url; body = body; is = refl }
saves _ h = absurd h

-- lines of one number are one line
one_number : (script : List Line) → AreInOrder script → (l m : Line) → Contains script l → Contains script m → l.number ≡ m.number → l ≡ m
one_number script order l m a b same =
    let here = at_index script a.0 l l a.1 a.2 in
    let there = at_index script b.0 m m b.1 b.2 in
    let first = order a.0 l here in
    let second = order b.0 m there in
    let place : a.0 ≡ b.0 = omega arith in
    some-injective l m (sym here ∙ ap (get_elem? script) place ∙ there)

pub map_at : {A B : Type 0} (f : A → B) (xs : List A) (k : ℕ) (x : A) → get_elem? xs k ≡ some x → get_elem? (map f xs) k ≡ some (f x)
map_at f [] k x e = absurd (some-ne-none x (sym e))
map_at f (y ∷ ys) zero x e = ap (λ z. some (f z)) (some-injective y x e)
map_at f (y ∷ ys) (suc k) x e = map_at f ys k x e

some_items : (x : ℕ) (xs ys : List ℕ) → ys ≡ x ∷ xs → 0 < length ys
some_items x xs ys e = let n = ap length e in omega arith

first_items : (x y : ℕ) (xs ys : List ℕ) → ◌≡◌ {A = List ℕ} (x ∷ xs) (y ∷ ys) → x ≡ y
first_items x y xs ys e = cc

-- one greatest version is not above another
pub greatest_below : (slot : ℕ) (images : List (List ℕ)) (m n : ℕ) → IsGreatest slot images m → IsGreatest slot images n → m ≤ n
greatest_below slot images zero n a b = omega arith
greatest_below slot images (suc m) n a b =
    let there = a.there (omega arith) in
    let low = b.above there.0 there.1 in
    let is = there.2 in
    omega arith

module _ {C St : Type 0} (volume_tells told : Bool) (state : C → CellState) (faults : St → ℕ) (files left : Files) (name : List ℕ)
    (slot anchors workers : ℕ) (script : List Line) (answers : List (List (ℕ × Answer)))
    (before after : Counts) (h : HasRun volume_tells told state files left name slot anchors workers script faults answers before after)
  where
    -- a pass was there at the closing with what it knew at its end
    pub view_there : (w : ℕ) (account : Account (OnShelf C (List Line) St)) → get_elem? h.served.played.accounts w ≡ some account
        → get_elem? (views_of h.closed.left) w ≡ some (view account.end.pass)
    view_there w account at = ap (λ (ps : List (Pass C)). get_elem? (map view ps) w) (sym h.served.played.passes_left_are)
        ∙ map_at view (map (λ (a : Account (OnShelf C (List Line) St)). a.end.pass) h.served.played.accounts) w account.end.pass
        (map_at (λ (a : Account (OnShelf C (List Line) St)). a.end.pass) h.served.played.accounts w account at)

module _ {C St : Type 0} (volume_tells told : Bool) (state : C → CellState) (faults : St → ℕ) (files left : Files) (name : List ℕ)
    (slot anchors workers : ℕ) (script : List Line) (answers : List (List (ℕ × Answer)))
    (before after : Counts) (h : HasRun volume_tells told state files left name slot anchors workers script faults answers before after)
    (tells : IsTrue volume_tells) where
  abbrev g : Ground (List ℕ)
  g = basis told state offers_of h.closed.store

  abbrev accounts : List (Account (OnShelf C (List Line) St))
  accounts = h.served.played.accounts

  abbrev last : State (List ℕ)
  last = h.closed.closed.gathered.state

  abbrev rule : Rule g last
  rule = h.closed.closed.gathered.rule

  -- the images of the file before, and the cells that are back
  abbrev images : List (List ℕ)
  images = bytes_now state h.closed.opened.cells

  abbrev cells : List CellState
  cells = map state h.closed.cells

  abbrev version_at : ℕ → ℕ
  version_at a = version_of (epoch_of (word last a))

  -- what is said of the state of the closing behind all workers is said of the last one
  abbrev pub OfLines : State (List ℕ) → Type 0
  OfLines s = (a : ℕ) → a < g.setting.anchors → stage_of (epoch_of (word s a)) ≡ 3 → doom_of (epoch_of (word s a)) ≡ 0
      → opening_counter g.setting < version_of (epoch_of (word s a))
      → IsOfLine g script accounts a (version_of (epoch_of (word s a))) (side_word g.setting s Offer a)

  pub here_too : OfLines (has_played volume_tells told state faults files left name slot anchors workers script answers before after
      h).closed.gathered.state → OfLines last
  here_too of = subst OfLines (same_state volume_tells told state faults files left name slot anchors workers script answers before after h)
      of

  -- what another law says of lines that were answered WIPED
  abbrev pub WipesLast : Type 0
  WipesLast = (w : ℕ) (account : Account (OnShelf C (List Line) St)) → get_elem? accounts w ≡ some account → (x : Stage (OnShelf C (List Line) St)) → Contains account.stages x
      → (url : List ℕ) (epoch : Epoch) → x.line.request ≡ Wipe url → x.answer ≡ Wiped epoch → opening_counter g.setting < epoch.version
      → (crashed : List (List ℕ)) → IsCrashImage cells crashed → (e : Entry) → IsComplete slot crashed e → e.version ≢ epoch.version

  -- what other laws say, as they are used here
  pub record Laws : Type 0 where
    pub wins : (a : ℕ) → a < anchors → stage_of (epoch_of (word last a)) ≡ 3 → HaveEntry slot anchors g images last rule.logged.log cells a
    pub of_line : (a : ℕ) → a < g.setting.anchors → stage_of (epoch_of (word last a)) ≡ 3 → doom_of (epoch_of (word last a)) ≡ 0
        → opening_counter g.setting < version_of (epoch_of (word last a))
        → IsOfLine g script accounts a (version_of (epoch_of (word last a))) (side_word g.setting last Offer a)
    pub lasts : (w : ℕ) (account : Account (OnShelf C (List Line) St)) → get_elem? accounts w ≡ some account
        → (x : Stage (OnShelf C (List Line) St)) → Contains account.stages x
        → (url : List ℕ) (body : Body) (version : ℕ) → x.line.request ≡ Save url body → x.answer ≡ Stored version
        → version_of (epoch_of (word last (anchor_for g url))) ≡ version → stage_of (epoch_of (word last (anchor_for g url))) ≡ 3
        → IsLasting g last rule.logged.log (anchor_for g url) × (offer_at g last (anchor_for g url) ≡ g.setting.slots + x.line.number)
    pub offers : (w : ℕ) (account : Account (OnShelf C (List Line) St)) → get_elem? accounts w ≡ some account
        → (x : Stage (OnShelf C (List Line) St)) → Contains account.stages x
        → (url : List ℕ) (body : Body) → x.line.request ≡ Save url body
        → IsOfferedTo told state offers_of h.closed.store (offer_of told state offers_of h.closed.store x.line.number) url body

  module _ (laws : Laws) where
    module _ (a : ℕ) (lt : a < anchors) (stage : stage_of (epoch_of (word last a)) ≡ 3) where
      inside : a < g.setting.anchors
      inside = let z = h.closed.opened.store.anchors_are in omega arith

      abbrev have : HaveEntry slot anchors g images last rule.logged.log cells a
      have = laws.wins a lt stage

      abbrev offer : ℕ
      offer = offer_at g last a

      some_slot : 0 < length (chain_of last a).slots
      some_slot = let e = laws.wins a lt stage in let chain = e.now.complete.chain in
          some_items e.entry.first chain.behind (chain_of last a).slots (sym e.is.chain_is ∙ chain.begins)

      -- an entry with a new offer has a new version
      high : g.setting.slots ≤ offer_at g last a → opening_counter g.setting < version_of (epoch_of (word last a))
      high new = dite (ℕ_discrete (version_of (epoch_of (word last a)) - opening_counter g.setting) 0)
          (λ e. absurd (let old = (rule.offered.old a inside some_slot (omega arith)).inside in omega arith))
          (λ ne. omega arith)

      -- what is kept of the entry, by its URL and its body
      kept : (found : List (List ℕ)) (url body : List ℕ) → have.entry.url ≡ url → have.entry.body ≡ body
          → IsWinner slot found anchors a have.entry → KeepsAt slot anchors found a (version_at a) url body
      kept found url body u b won = record { entry = have.entry; won = won; version_is = have.is.version_is; url_is = u; body_is = b }

      -- it outlives a crash where a `save` line stored it
      line_lasts : (l : IsOfLine g script accounts a (version_of (epoch_of (word last a))) (side_word g.setting last Offer a))
          → IsSave l.line.request → IsLasting g last rule.logged.log a
      line_lasts l save =
          let stored = l.saved save in
          let what = saves l.line.request save in
          let is : stored.stage.line.request ≡ Save what.url what.body = ap Line.request stored.line_is ∙ what.is in
          let same : what.url ≡ l.url = (subst (λ (q : Request). Offers q l.url l.body) what.is l.offers).0 in
          let at : anchor_for g what.url ≡ a = ap (anchor_for g) same ∙ l.at in
          subst (IsLasting g last rule.logged.log) at
          (laws.lasts stored.w stored.account stored.at stored.stage stored.among what.url what.body (version_at a) is stored.answered
          (ap (λ (b : ℕ). version_of (epoch_of (word last b))) at) (ap (λ (b : ℕ). stage_of (epoch_of (word last b))) at ∙ stage)).0

      as_before : offer_at g last a < g.setting.slots → StandsAsBefore slot anchors images script cells a
          (version_of (epoch_of (word last a)))
      as_before low = record {
        url = have.entry.url;
        body = have.entry.body;
        file = kept images have.entry.url have.entry.body refl refl (have.is.old low);
        now = kept (map (λ (c : CellState). c.now) cells) have.entry.url have.entry.body refl refl have.now;
        left = λ crashed crash. kept crashed have.entry.url have.entry.body refl refl (have.left crashed crash (inl low));
      }

      as_offered : doom_of (epoch_of (word last a)) ≡ 0 → g.setting.slots ≤ offer_at g last a
          → StandsAsOffered slot anchors images script cells a (version_of (epoch_of (word last a)))
      as_offered undoomed new =
          let l = laws.of_line a inside stage undoomed (high new) in
          let r = have.is.new new in
          let url_is : have.entry.url ≡ l.url = r.url ∙ l.url_is in
          let body_is : have.entry.body ≡ bytes_of l.body = r.body ∙ l.body_is in
          record {
            url = l.url;
            body = bytes_of l.body;
            offered = record { line = l.line; among = l.among; made = l.body; offers = l.offers; body_is = refl };
            now = kept (map (λ (c : CellState). c.now) cells) l.url (bytes_of l.body) url_is body_is have.now;
            left = λ save crashed crash. kept crashed l.url (bytes_of l.body) url_is body_is (have.left crashed crash (line_lasts l save));
          }

      stands : doom_of (epoch_of (word last a)) ≡ 0 → Stands slot anchors images script cells a (version_of (epoch_of (word last a)))
      stands undoomed = dite (ℕ_discrete (g.setting.slots - offer_at g last a) 0)
          (λ e. inr (as_offered undoomed (omega arith)))
          (λ ne. inl (as_before (omega arith)))

      -- By the plain store.
      module _ (one : OneAtASlot) (p : Plain) (e : PlainEntry) (sc : StandsClosed g last p a e) where
        contents : g.setting.contents ≡ images
        contents = h.closed.opened.store.contents ∙ ap (λ (b : Bool). map (λ (c : C). (shown b state c).now) h.closed.opened.cells)
            (h.closed.opened.told tells)

        low : e.offer < g.setting.slots → offer_at g last a < g.setting.slots
        low less = let z = sc.offer in omega arith

        same_old : (less : e.offer < g.setting.slots) → have.entry ≡ (sc.old less).entry
        same_old less =
            let o = sc.old less in
            let won = have.is.old (low less) in
            let there = subst (λ (n : ℕ). IsComplete n images o.entry) h.closed.opened.store.slot_is
            (subst (λ (z : List (List ℕ)). IsComplete g.slot z o.entry) contents o.complete) in
            one slot images have.entry o.entry won.complete there
            (first_items have.entry.first o.entry.first won.complete.chain.behind there.chain.behind
            (sym won.complete.chain.begins ∙ have.is.chain_is ∙ sym o.chain ∙ there.chain.begins))

        names : (have.entry.url ≡ e.url) × (have.entry.body ≡ e.body)
        names = dite (ℕ_discrete (g.setting.slots - e.offer) 0)
            (λ z. let new : g.setting.slots ≤ e.offer = omega arith in
            let r = have.is.new (let is = sc.offer in omega arith) in
            let n = sc.new new in (
              r.url ∙ ap (url_of g) sc.offer ∙ n.0,
              r.body ∙ ap (λ (m : ℕ). g.offers.body (m - g.setting.slots)) sc.offer ∙ n.1,
            ))
            (λ ne. let less : e.offer < g.setting.slots = omega arith in
            (ap Entry.url (same_old less) ∙ (sc.old less).url_is, ap Entry.body (same_old less) ∙ (sc.old less).body_is))

        pub kept_whole : (found : List (List ℕ)) → IsWinner slot found anchors a have.entry
            → KeepsAt slot anchors found a (place_at p a).version e.url e.body
        kept_whole found won = record {
          entry = have.entry;
          won = won;
          version_is = have.is.version_is ∙ sc.version;
          url_is = names.0;
          body_is = names.1;
        }

        pub kept_now : KeepsAt slot anchors (map (λ (c : C). (state c).now) h.closed.cells) a (place_at p a).version e.url e.body
        kept_now = kept_whole (map (λ (c : C). (state c).now) h.closed.cells)
            (subst (λ (z : List (List ℕ)). IsWinner slot z anchors a have.entry)
            (both state (λ (c : CellState). c.now) h.closed.cells) have.now)

        -- an entry that a `save` line stored, or that the file had
        pub kept_left : AreInOrder script → doom_of (epoch_of (word last a)) ≡ 0 → WasKept (length h.closed.opened.cells) script e
            → (crashed : List (List ℕ)) → IsCrashImage cells crashed
            → KeepsAt slot anchors crashed a (place_at p a).version e.url e.body
        kept_left order undoomed was crashed crash = kept_whole crashed (have.left crashed crash (lasting was))
          where
            saved : (line : Line) → Contains script line → line.number ≡ e.offer - length h.closed.opened.cells → IsSave line.request
                → g.setting.slots ≤ offer_at g last a → IsLasting g last rule.logged.log a
            saved line among number save new =
                let l = laws.of_line a inside stage undoomed (high new) in
                let same : line ≡ l.line = one_number script order line l.line among l.among
                (let z = l.offer_is in let y = sc.offer in let m = h.closed.opened.store.slots_are in omega arith) in
                line_lasts l (subst (λ (x : Line). IsSave x.request) same save)

            lasting : WasKept (length h.closed.opened.cells) script e → IsLasting g last rule.logged.log a
            lasting (inl old) = inl (low (let m = h.closed.opened.store.slots_are in omega arith))
            lasting (inr q) = dite (ℕ_discrete (g.setting.slots - offer_at g last a) 0)
                (λ z. saved q.0 q.1 q.2 q.3 (omega arith))
                (λ ne. inl (omega arith))

    -- The stage of a line with this request, and this answer.
    module _ (order : AreInOrder script) (line : Line) (request : Request) (answer : Answer) (among : Contains script line) (is : line.request ≡ request) (answered : IsAnswered answers line answer) where
      record IsStage : Type 0 where
        account : Account (OnShelf C (List Line) St)
        at : get_elem? accounts (line.worker - 1) ≡ some account
        stage : Stage (OnShelf C (List Line) St)
        has : Contains account.stages stage
        request_is : stage.line.request ≡ request
        answer_is : stage.answer ≡ answer

      stage_of_line : IsStage
      stage_of_line =
          let i = image answers_of accounts (line.worker - 1) answered.mine (ap (λ z. get_elem? z (line.worker - 1)) h.served.played.answers_are ∙ answered.at) in
          let m = contains_map (λ (x : Stage (OnShelf C (List Line) St)). (x.line.number, x.answer)) i.item.stages (line.number, answer)
          (subst (λ (xs : List (ℕ × Answer)). Contains xs (line.number, answer)) (sym i.is) answered.among) in
          let played = h.served.played.each (line.worker - 1) i.item (at_place accounts (line.worker - 1) i.item i.at) in
          let own = in_script (line.worker - 1 + 1) script i.item.stages played.each m.0 m.1 in
          let same : m.0.line ≡ line = one_number script order m.0.line line own.0 among (ap (λ (q : ℕ × Answer). q.0) m.2) in
          record { account = i.item; at = i.at; stage = m.0; has = m.1; request_is = ap Line.request same ∙ is; answer_is = ap (λ (q : ℕ × Answer). q.1) m.2 }

    -- What a `wipe` line erased.
    wiped_left : WipesLast → AreInOrder script → (line : Line) (url : List ℕ) (epoch : Epoch) (greatest : ℕ) → Contains script line → line.request ≡ Wipe url → IsAnswered answers line (Wiped epoch)
        → IsGreatest slot images greatest → greatest < epoch.version → (crashed : List (List ℕ)) → IsCrashImage cells crashed → (e : Entry) → IsComplete slot crashed e → e.version ≢ epoch.version
    wiped_left lasts order line url epoch greatest among is answered great high =
        let s = stage_of_line order line (Wipe url) (Wiped epoch) among is answered in
        let over = h.closed.opened.store in
        let low = greatest_below slot images over.rebuilt.greatest greatest (subst (λ (z : List (List ℕ)). IsGreatest slot z over.rebuilt.greatest) (over.kept.told (h.closed.opened.told tells)) over.kept.rebuilt.greatest) great in
        let counter = over.opened.opened.counter in
        lasts (line.worker - 1) s.account s.at s.stage s.has url epoch s.request_is s.answer_is (omega arith)

    -- What a `save` line stored.
    module _ (order : AreInOrder script) (line : Line) (url : List ℕ) (body : Body) (version : ℕ) (among : Contains script line)
        (is : line.request ≡ Save url body) (answered : IsAnswered answers line (Stored version))
        (version_is : version_of (epoch_of (word last (anchor_of (key_of url) anchors))) ≡ version)
        (stage_is : stage_of (epoch_of (word last (anchor_of (key_of url) anchors))) ≡ 3) where
      abbrev there : ℕ
      there = anchor_of (key_of url) anchors

      under : anchor_of (key_of url) anchors < anchors
      under = anchor_below (key_of url) anchors (let from = h.closed.opened.fit.from in omega (arith, from))

      at_anchor : anchor_for g url ≡ anchor_of (key_of url) anchors
      at_anchor = ap (anchor_of (key_of url)) h.closed.opened.store.anchors_are

      abbrev w : ℕ
      w = line.worker - 1

      its_stage : IsStage order line (Save url body) (Stored version) among is answered
      its_stage = stage_of_line order line (Save url body) (Stored version) among is answered

      known : IsLasting g last rule.logged.log (anchor_for g url) × (offer_at g last
          (anchor_for g url) ≡ g.setting.slots + its_stage.stage.line.number)
      known = laws.lasts (line.worker - 1) its_stage.account its_stage.at its_stage.stage its_stage.has url body version
          its_stage.request_is its_stage.answer_is
          (ap (λ (b : ℕ). version_of (epoch_of (word last b))) at_anchor ∙ version_is)
          (ap (λ (b : ℕ). stage_of (epoch_of (word last b))) at_anchor ∙ stage_is)

      offer_is : offer_at g last (anchor_of (key_of url) anchors) ≡ g.setting.slots + its_stage.stage.line.number
      offer_is = subst (λ (b : ℕ). offer_at g last b ≡ g.setting.slots + its_stage.stage.line.number) at_anchor known.1

      pub saved_left : (crashed : List (List ℕ)) → IsCrashImage cells crashed
          → KeepsAt slot anchors crashed (anchor_of (key_of url) anchors) version url (bytes_of body)
      saved_left crashed crash =
          let e = laws.wins (anchor_of (key_of url) anchors) under stage_is in
          let r = e.is.new (let z = offer_is in omega arith) in
          let o = laws.offers (line.worker - 1) its_stage.account its_stage.at its_stage.stage its_stage.has url body
          its_stage.request_is in
          record {
            entry = e.entry;
            won = e.left crashed crash (subst (IsLasting g last rule.logged.log) at_anchor known.0);
            version_is = e.is.version_is ∙ version_is;
            url_is = r.url ∙ ap (url_of g) offer_is ∙ o.url_is;
            body_is = r.body ∙ ap (λ (n : ℕ). g.offers.body (n - g.setting.slots)) offer_is ∙ o.body_is;
          }

    pub standing : WipesLast → AreInOrder script → Responses volume_tells told state files left name slot anchors workers script tells h.closed
        → ((c : C) → NowMayStay (state c))
        → ((all : List CellState) → All NowMayStay all → IsCrashImage all (map (λ (c : CellState). c.now) all))
        → LeavesStanding files left name slot anchors script answers (word last)
    unfolding given_back
    standing wipes order law stays now = record {
      file = given_back volume_tells told state files left name slot anchors workers script tells h.closed law stays now;
      closed = λ a lt w. subst (λ (z : List (List ℕ)). Stands slot anchors z script cells a (version_of (epoch_of (word last a))))
          (images_are volume_tells told state files left name slot anchors workers script tells h.closed) (stands a lt w.stage w.undoomed);
      saved = saved_left order;
      wiped = λ line url epoch greatest among is answered great. wiped_left wipes order line url epoch greatest among is answered
          (subst (λ (z : List (List ℕ)). IsGreatest slot z greatest) (sym (images_are volume_tells told state files left name slot anchors workers script tells h.closed)) great);
    }
