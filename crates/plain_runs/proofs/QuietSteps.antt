-- What a reading call does changes no word of which the plain store knows: it looks and loads, and takes and ends turns.
use Rattle.std.proofs.Common.{Bool, List, Some, ap, arith, get_or-set_same, inl, inr, refl, subst, sym, true, false, ◌+◌, ◌∙◌, ◌∷◌, ◌≡◌, ◌⊎◌, [], ℕ}
use mathlib.Core.Logic.{dite}
use native.Mathlib.Decide.{ℕ_discrete}
use Rattle.lock_word.specs.declared.epoch.Epoch.{Epoch}
use Rattle.link_word.specs.Words.{link_number}
use Rattle.link_word.specs.declared.link.Link.{Link}
use Rattle.store_key.specs.Anchor.{back_half, front_half}
use Rattle.rock_disk.specs.Cell.{CellState}
use Rattle.core_alone.specs.Touched.{touched_by}
use Rattle.core_model.specs.Layout.{IsPlace, index}
use Rattle.core_model.specs.Table.{left_by, place}
use Rattle.core_model.specs.Tabs.{anchor_of, tab_at}
use Rattle.core_model.specs.declared.moves.Move.{Move}
use Rattle.core_model.specs.declared.moves.Move.TheVariants.{EndTurn, GetLink, LoadSide, Look, TryTurn}
use Rattle.core_model.specs.declared.moves.Then.{Then}
use Rattle.core_model.specs.declared.moves.Side.{Side}
use Rattle.core_model.specs.declared.moves.Side.TheVariants.{Key0, Key1, Offer, Start}
use Rattle.core_model.specs.SlotMoves.{loaded}
use Rattle.core_model.specs.declared.tab.Tab.{Tab}
use Rattle.core_model.specs.declared.tab.Tab.TheVariants.{Free, Freeing, Last, Reading, Retreating, Writing}
use Rattle.core_model.specs.declared.tab.Cell.{Cell}
use Rattle.core_model.specs.declared.view.Place.{Place}
use Rattle.core_model.specs.declared.view.Place.TheVariants.{Anchor, Beside, Link as LinkAt}
use Rattle.core_model.specs.declared.view.View.{View}
use Rattle.core_model.proofs.Holders.{end_inside, try_inside}
use Rattle.core_model.proofs.Places.{apart}
use Rattle.core_model.proofs.StepPlaces.{IsInside, place_inside}
use Rattle.store_rule.specs.declared.store.Pass.{Pass}
use Rattle.store_rule.specs.declared.store.Store.{Store}
use Rattle.store_rule.specs.Ground.{Ground, Offers}
use Rattle.store_rule.specs.Passes.{basis, view}
use Rattle.store_rule.specs.Told.{Steps}
use Rattle.store_rule.specs.Turns.{Lost}
use Rattle.store_rule.specs.Words.{Mine, has}
use Rattle.store_rule.proofs.AddingUp.{has_left, has_other}
use Rattle.store_rule.proofs.MyWords.{found_mine}
use Rattle.slice_chain.specs.Links.{Located}
use Rattle.slice_chain.specs.Names.{KeyLoaded}
use Rattle.slice_chain.specs.Reads.{after_reading, ReadSlot}
use Rattle.rock_reader.specs.Reading.{Gave, HasTried, LookedAt, ReadsAs, Standing, StaysOther, TurnsOut}
use Rattle.rock_reader.specs.declared.answer.More.{More}
use Rattle.rock_reader.specs.declared.answer.More.TheVariants as more
use Rattle.store_serve.specs.Following.{Given, Gives, WentOn}
use Rattle.crew_accounts.proofs.ReadingOn.{gives_on}
use Rattle.plain_runs.proofs.Frames.{SameBut, same_none, step_same_turn}
use Rattle.plain_runs.proofs.OwnAnchors.{OwnsAnchor, pass_stays}

-- nothing changed
abbrev pub Quiet : Ground (List ℕ) → View (List ℕ) → View (List ℕ) → Type 0
Quiet g v w = SameBut g v w (λ q. ⊥)

module _ (g : Ground (List ℕ)) where
  pub quiet_none : (v : View (List ℕ)) → Quiet g v v
  quiet_none v = same_none g v (λ q. ⊥)

  pub quiet_is : (v w : View (List ℕ)) → w ≡ v → Quiet g v w
  quiet_is v w e = subst (λ (z : View (List ℕ)). Quiet g v z) (sym e) (quiet_none v)

  pub quiet_on : (v u w : View (List ℕ)) → Quiet g v u → Quiet g u w → Quiet g v w
  quiet_on v u w first second = record { same = λ q known here ne. second.same q known here ne ∙ first.same q known here ne }

  -- a step that leaves the word which it found, where that is what the pass has
  pub found_quiet : (v w : View (List ℕ)) (m : Move) (n : ℕ) (r : Place) → Steps g v m n w → place v m ≡ Some r → touched_by v m n ≡ r ∷ [] → left_by v m n ≡ n → n ≡ has g v r → Quiet g v w
  found_quiet v w m n r st is only stays found = record {
    same = λ q known here ne. dite (ℕ_discrete (index g.setting r) (index g.setting q))
        (λ e. subst (λ (z : Place). has g w z ≡ has g v z) (apart g.setting r q there here e) (has_left g v w m n r st is ∙ stays ∙ found))
        (λ far. has_other g v w m n r q st only far);
  }
    where
      there : IsPlace g.setting r
      there = subst (IsInside g.setting) is (place_inside g.setting st.state st.index v st.rule.sound st.at st.may.pass m st.may.allowed)

  -- so it is where nobody else changes the word
  pub step_quiet : (v w : View (List ℕ)) (m : Move) (n : ℕ) (r : Place) → Steps g v m n w → place v m ≡ Some r → touched_by v m n ≡ r ∷ [] → left_by v m n ≡ n → Mine g v r → Quiet g v w
  step_quiet v w m n r st is only stays mine = found_quiet v w m n r st is only stays (found_mine g v w m n r st mine is)

  -- turns
  pub try_quiet : (v w : View (List ℕ)) (t slot n : ℕ) → Steps g v (TryTurn t slot) n w → Quiet g v w
  try_quiet v w t slot n st = step_same_turn g v w (TryTurn t slot) n slot st refl (try_inside g.setting st.state st.index v st.rule.sound st.at st.may.pass t slot st.may.allowed)

  lost_quiet : (t slot : ℕ) (v : View (List ℕ)) (us : List (View (List ℕ))) (w : View (List ℕ)) → Lost g t slot v us w → Quiet g v w
  lost_quiet t slot v [] w h = quiet_is v w h
  lost_quiet t slot v (u ∷ us) w h = quiet_on v u w (lost_quiet t slot v us u h.3) (try_quiet u w t slot h.0 h.1)

  pub ended_quiet : (v w : View (List ℕ)) (t slot n : ℕ) (then : Then) → Steps g v (EndTurn t slot then) n w → Quiet g v w
  ended_quiet v w t slot n then st = step_same_turn g v w (EndTurn t slot then) n slot st refl (end_inside g.setting st.state st.index v st.rule.sound st.at st.may.pass t slot then st.may.allowed)

  pub read_quiet : (t : ℕ) (v : View (List ℕ)) (done : Bool) (cell : Cell (List ℕ)) (w : View (List ℕ)) → ReadSlot g t v done cell w → Quiet g v w
  read_quiet t v done cell w h = quiet_on v h.last w (lost_quiet t h.slot v h.views h.last h.lost)
      (quiet_on h.last h.middle w (try_quiet h.last h.middle t h.slot 0 h.tried) (ended_quiet h.middle w t h.slot 1 (after_reading done) h.ended))

-- a tab that loads a word beside its anchor stays there
loaded_anchor : (x : Tab (List ℕ)) (side : Side) (n : ℕ) → anchor_of (loaded x side n) ≡ anchor_of x
loaded_anchor (Reading r) Start n = refl
loaded_anchor (Reading r) Key0 n = refl
loaded_anchor (Reading r) Key1 n = refl
loaded_anchor (Reading r) Offer n = refl
loaded_anchor Free side n = refl
loaded_anchor (Retreating a) side n = refl
loaded_anchor (Writing w) side n = refl
loaded_anchor (Last a) side n = refl
loaded_anchor (Freeing f) side n = refl

load_stays : (g : Ground (List ℕ)) (v w : View (List ℕ)) (t n : ℕ) (side : Side) → Steps g v (LoadSide t side) n w → anchor_of (tab_at w t) ≡ anchor_of (tab_at v t)
load_stays g v w t n side st = ap (λ (z : View (List ℕ)). anchor_of (tab_at z t)) st.leaves
    ∙ ap anchor_of (get_or-set_same v.tabs t (loaded (tab_at v t) side n) Free (let nine = st.may.pass in let low = st.may.allowed.0 in omega arith)) ∙ loaded_anchor (tab_at v t) side n

-- Looks and loads of a tab at an anchor that is the pass's own.
module _ (g : Ground (List ℕ)) (pass a : ℕ) (own : OwnsAnchor g pass a) where
  pub load_quiet : (t n : ℕ) (side : Side) (v w : View (List ℕ)) → v.pass ≡ pass → anchor_of (tab_at v t) ≡ a → Steps g v (LoadSide t side) n w → Quiet g v w
  load_quiet t n side v w same at st = step_quiet g v w (LoadSide t side) n (Beside side (anchor_of (tab_at v t))) st refl refl refl (own.words v (Beside side (anchor_of (tab_at v t))) same at)

  located_quiet : (t slot : ℕ) (v w : View (List ℕ)) → v.pass ≡ pass → anchor_of (tab_at v t) ≡ a → Located g t slot v w → Quiet g v w
  located_quiet t slot v w same at (inl k) = quiet_is g v w k.stays
  located_quiet t slot v w same at (inr k) = load_quiet t (slot + 1) Start v w same at k.start

  located_at : (t slot : ℕ) (v w : View (List ℕ)) → v.pass ≡ pass → anchor_of (tab_at v t) ≡ a → Located g t slot v w → (w.pass ≡ pass) × (anchor_of (tab_at w t) ≡ a)
  located_at t slot v w same at (inl k) = (ap View.pass k.stays ∙ same, ap (λ (z : View (List ℕ)). anchor_of (tab_at z t)) k.stays ∙ at)
  located_at t slot v w same at (inr k) = (pass_stays g v w (LoadSide t Start) (slot + 1) k.start ∙ same, load_stays g v w t (slot + 1) Start k.start ∙ at)

  module _ (t : ℕ) (epoch : Epoch) (link : Link) (v w : View (List ℕ)) (same : v.pass ≡ pass) (at : anchor_of (tab_at v t) ≡ a) (h : LookedAt g t epoch link v w) where
    looked_pass : h.looked.pass ≡ pass
    looked_pass = pass_stays g v h.looked (Look (anchor_of (tab_at v t))) h.word h.look ∙ same

    looked_at : anchor_of (tab_at h.looked t) ≡ a
    looked_at = ap (λ (z : View (List ℕ)). anchor_of (tab_at z t)) h.look.leaves ∙ at

    pub located_first : Quiet g v h.linked.middle
    located_first = quiet_on g v h.looked h.linked.middle
        (step_quiet g v h.looked (Look (anchor_of (tab_at v t))) h.word (Anchor (anchor_of (tab_at v t))) h.look refl refl refl (own.words v (Anchor (anchor_of (tab_at v t))) same at))
        (located_quiet t h.linked.slot h.looked h.linked.middle looked_pass looked_at h.linked.located)

    middle_there : (h.linked.middle.pass ≡ pass) × (anchor_of (tab_at h.linked.middle t) ≡ a)
    middle_there = located_at t h.linked.slot h.looked h.linked.middle looked_pass looked_at h.linked.located

    pub located_pass : h.linked.middle.pass ≡ pass
    located_pass = middle_there.0

    pub looked_quiet : Quiet g v w
    looked_quiet = quiet_on g v h.linked.middle w located_first
        (found_quiet g h.linked.middle w (GetLink t h.linked.slot) (link_number link) (LinkAt h.linked.slot) h.linked.step refl refl refl
        (own.links h.linked.middle w t h.linked.slot (link_number link) middle_there.0 middle_there.1 h.linked.step))

  module _ (t : ℕ) (v : View (List ℕ)) (key : List ℕ) (w : View (List ℕ)) (same : v.pass ≡ pass) (at : anchor_of (tab_at v t) ≡ a) (h : KeyLoaded g t v key w) where
    pub front_quiet : Quiet g v h.middle
    front_quiet = load_quiet t (front_half key) Key0 v h.middle same at h.front

    pub front_pass : h.middle.pass ≡ pass
    front_pass = pass_stays g v h.middle (LoadSide t Key0) (front_half key) h.front ∙ same

    pub front_at : anchor_of (tab_at h.middle t) ≡ a
    front_at = load_stays g v h.middle t (front_half key) Key0 h.front ∙ at

    pub key_pass : w.pass ≡ pass
    key_pass = pass_stays g h.middle w (LoadSide t Key1) (back_half key) h.back ∙ front_pass

    pub key_quiet : Quiet g v w
    key_quiet = quiet_on g v h.middle w front_quiet (load_quiet t (back_half key) Key1 h.middle w front_pass front_at h.back)

module _ {C O : Type 0} (tells : Bool) (state : C → CellState) (offers : O → Offers) (s : Store C O) (t pass a : ℕ) (own : OwnsAnchor (basis tells state offers s) pass a) where
  abbrev g : Ground (List ℕ)
  g = basis tells state offers s

  -- the pass has this number, and its tab is at the anchor
  abbrev IsThere : Pass C → Type 0
  IsThere p = ((view p).pass ≡ pass) × (anchor_of (tab_at (view p) t) ≡ a)

  tried_quiet : (p : Pass C) (e : Standing) (before after : List ℕ) (q : Pass C) (done : Bool) → IsThere p → HasTried tells state offers s t p e before after q done → Quiet g (view p) (view q)
  tried_quiet p e before after q done at h = quiet_on g (view p) h.middle (view q) (looked_quiet g pass a own t h.epoch h.link (view p) h.middle at.0 at.1 h.found) (read_quiet g t h.middle done h.cell (view q) h.read)

  pub gave_quiet : (p : Pass C) (e : Standing) (before after : List ℕ) (q : Pass C) (answer : More) → IsThere p → Gave tells state offers s t p e before after q answer → Quiet g (view p) (view q)
  gave_quiet p e before after q (more.Piece count) at h = tried_quiet p e before after q true at h.tried
  gave_quiet p e before after q (more.NotYet epoch) at h = looked_quiet g pass a own t epoch _ (view p) (view q) at.0 at.1 h.waits.found
  gave_quiet p e before after q more.End at h = quiet_is g (view p) (view q) (ap view h.still)
  gave_quiet p e before after q more.Halted at h = looked_quiet g pass a own t h.epoch _ (view p) (view q) at.0 at.1 h.waits.found
  gave_quiet p e before after q more.OtherUrl at h = of_other h
    where
      of_other : StaysOther tells state offers s t p e before after q ⊎ TurnsOut tells state offers s t p e before after q → Quiet g (view p) (view q)
      of_other (inl k) = quiet_is g (view p) (view q) (ap view k.still)
      of_other (inr k) = tried_quiet p e before after q true at k.tried
  gave_quiet p e before after q more.Fault at h = tried_quiet p e before after q false at h.tried

  -- pieces, one behind the other
  module _ (e : Standing) (p : Pass C) (same : (view p).pass ≡ pass) (e_at : e.anchor ≡ a) (reads : ReadsAs tells state offers s p t e) where
    there_on : (calls : List (Given C)) (f : Standing) (q : Pass C) (bytes : List ℕ) → Gives tells state offers s t e p calls f q bytes → IsThere q
    there_on calls f q bytes h = let on = gives_on tells state offers s t e p calls f q bytes reads h in (on.keeps.pass ∙ same, ap anchor_of on.reads.is ∙ on.reads.anchor_is ∙ on.entry.anchor ∙ e_at)

    pub gives_quiet : (calls : List (Given C)) (f : Standing) (q : Pass C) (bytes : List ℕ) → Gives tells state offers s t e p calls f q bytes → Quiet g (view p) (view q)
    gives_quiet [] f q bytes h = quiet_is g (view p) (view q) (ap view h.1)
    gives_quiet (c ∷ earlier) f q bytes h = quiet_on g (view p) (view h.1) (view q) (gives_quiet earlier h.0 h.1 h.2 h.3)
        (quiet_on g (view h.1) (view c.left) (view q) (gave_quiet h.1 h.0 c.before c.after c.left (more.Piece c.count) (there_on earlier h.0 h.1 h.2 h.3) h.4) (quiet_is g (view c.left) (view q) (ap view h.6)))

    pub went_quiet : (q : Pass C) (bytes : List ℕ) (answer : More) → WentOn tells state offers s t e p q bytes answer → Quiet g (view p) (view q)
    went_quiet q bytes answer h = quiet_on g (view p) (view h.middle) (view q) (gives_quiet h.calls h.standing h.middle bytes h.gives)
        (gave_quiet h.middle h.standing h.before h.after q answer (there_on h.calls h.standing h.middle bytes h.gives) h.ends)
