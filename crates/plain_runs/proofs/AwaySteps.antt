-- What a step leaves of a lot that a tab makes which is at no anchor of it: all that the pass knows there.
use Rattle.std.proofs.Common.{Bool, Contains, List, Option, Some, [], ap, arith, false, inl, inr, length, refl, subst, sym, true, ◌++◌, ◌+◌, ◌/◌, ◌<◌, ◌∙◌, ◌∷◌, ◌≡◌, ◌≢◌, ◌≤◌, ◌⊎◌, ⊎_elim, ℕ}
use Rattle.std.proofs.lemmas.Bool.{false≢true}
use mathlib.Core.Logic.{dite}
use mathlib.Core.Option.{some, some-injective}
use native.Mathlib.Decide.{ℕ_discrete}
use lib.ListN.{get_elem?}
use Rattle.link_word.specs.declared.link.Link.{Link as LinkOf}
use Rattle.lock_word.specs.Words.{epoch_of, stage_number, stage_of}
use Rattle.entry_cut.specs.Content.{room_of}
use Rattle.core_alone.specs.Touched.{touched_by}
use Rattle.core_model.specs.AnchorMoves.{MayEnd, MayRaise, StartsRight}
use Rattle.core_model.specs.Chains.{slots_of_link}
use Rattle.core_model.specs.Holders.{IsTab}
use Rattle.core_model.specs.SlotMoves.{IsFront, IsNext, MayPublish, MayStore}
use Rattle.core_model.specs.State.{State, chain_of, word}
use Rattle.core_model.specs.Table.{Allowed, place}
use Rattle.core_model.specs.Tabs.{IsPass, OfFreer, OfReader, anchor_of, inner, tab_at}
use Rattle.core_model.specs.declared.moves.Move.{Move}
use Rattle.core_model.specs.declared.moves.Move.TheVariants.{Count, Disown, Doom, Draw, EndTurn, Enter, Evict, GetLink, Leave, LoadSide, LogPiece, Look, Publish, Raise, StoreSide, Take, TryTurn}
use Rattle.core_model.specs.declared.moves.Side.{Side}
use Rattle.core_model.specs.declared.spot.Spot.{Spot}
use Rattle.core_model.specs.declared.spot.Spot.TheVariants.{Chained, Free as FreeSpot, Loose, Reserved, Resting}
use Rattle.core_model.specs.declared.tab.Tab.{Tab}
use Rattle.core_model.specs.declared.tab.Tab.TheVariants.{Free, Freeing, Last, Reading, Retreating, Writing}
use Rattle.core_model.specs.declared.tab.Writer.{Writer}
use Rattle.core_model.specs.declared.view.Place.{Place}
use Rattle.core_model.specs.declared.view.Place.TheVariants.{Anchor, Beside, Counter, Link}
use Rattle.core_model.specs.declared.view.View.{View}
use Rattle.core_model.proofs.FollowsKept.{at_times}
use Rattle.core_model.proofs.OneSpot.{one_spot}
use Rattle.core_model.proofs.ReservesKept.{of_writer}
use Rattle.core_model.proofs.StepPlaces.{IsInside, place_inside}
use Rattle.core_model.proofs.Tabs.{tab_there, times_contains}
use Rattle.plain_model.specs.declared.entry.Entry.{Entry}
use Rattle.plain_model.specs.declared.store.Plain.{Plain}
use Rattle.plain_model.specs.Store.{entry_at, place_at, readers, stage_of as stage_at}
use Rattle.store_rule.specs.Ground.{Ground, Rule}
use Rattle.store_rule.specs.Told.{Stands, Steps, found_as}
use Rattle.plain_runs.specs.Elsewhere.{IsOutside}
use Rattle.plain_runs.specs.Words.{HasChain, KnowsLot, Lot, ShowsAt, no_guests, setting_of}
use Rattle.plain_runs.proofs.AwayTabs.{IsAtSuch, LeavesSuch, Suits, TwoSuch, counted_such, mine_such, raising_such, reading_such, tabs_such, using_such, writing_such}
use Rattle.plain_runs.proofs.Chains as told
use Rattle.plain_runs.proofs.Frames.{LeavesAlone, SameBut, knows_same, shows_elsewhere, step_same, step_same_log, step_same_map, step_same_turn}
use Rattle.plain_runs.proofs.Freeing.{chained_apart_rest, same_anchor, same_link, same_side}
use Rattle.plain_runs.proofs.OwnAnchors.{OwnsAnchor, OwnsLot, lot_stays, own_chain, pass_stays, stands_before}
use Rattle.plain_runs.proofs.PlainWords.{readers_fit, stage_there}
use Rattle.plain_runs.proofs.Published.{no_slots, reserved_apart, stage_span}
use Rattle.plain_runs.proofs.QuietSteps.{step_quiet}

pub outside_other : (lot : Lot) (a b : ℕ) → IsOutside lot a → lot.anchors b ≡ true → b ≡ a → ⊥
outside_other lot a b out ours e = false≢true (sym out ∙ sym (ap lot.anchors e) ∙ ours)

-- One slot is in the chains of two anchors, or where these go on: then they are one.
module _ (g : Ground (List ℕ)) (s : State (List ℕ)) (rule : Rule g s) (a b : ℕ) where
  one_tab : (j t : ℕ) (w u : Writer (List ℕ)) → IsTab s j t (Writing w) → IsTab s j t (Writing u) → w.anchor ≡ u.anchor
  one_tab j t w u x y = writing_is (some-injective (Writing w) (Writing u) (sym x.there
      ∙ ap (λ (z : View (List ℕ)). get_elem? z.tabs t) (some-injective x.view y.view (sym x.at ∙ y.at)) ∙ y.there))
    where
      writing_is : Writing w ≡ Writing u → w.anchor ≡ u.anchor
      writing_is e = ap anchor_of e

  same_spot : (y : Spot) → told.IsOf g s rule a y → told.IsOf g s rule b y → a ≡ b
  same_spot (Chained c) x z = sym x ∙ z
  same_spot (Reserved j t) (w, x, at) (u, y, there) = sym at ∙ one_tab j t w u x y ∙ there
  same_spot (Resting j t) x z = absurd x
  same_spot (Loose j t) x z = absurd x
  same_spot FreeSpot x z = absurd x

  one_chain : a < g.setting.anchors → b < g.setting.anchors → (x : ℕ)
      → Contains ((chain_of s a).slots ++ slots_of_link (chain_of s a).end) x
      → Contains ((chain_of s b).slots ++ slots_of_link (chain_of s b).end) x → a ≡ b
  one_chain lt low x c d = let y = told.spot_of g s rule a lt x c in let z = told.spot_of g s rule b low x d in
      let one = one_spot g.setting s rule.sound.anchors.shaped rule.sound.slots x y.there in
      same_spot y.spot y.of (subst (told.IsOf g s rule b) (one.only z.spot z.is_in ∙ sym (one.only y.spot y.is_in)) z.of)

module _ (g : Ground (List ℕ)) (rename : ℕ → ℕ) (lot : Lot) (t : ℕ) (p : Plain) (eight : length p.tabs ≡ 8)
    (apart : lot.counter ≡ false) where
  -- The lot is the pass's own, and the pass knows what of the plain store is there. The tab t and the inner one are at no anchor of it.
  pub record Holds (v : View (List ℕ)) : Type 0 where
    pub owns : OwnsLot g lot v.pass
    pub knows : KnowsLot g rename lot v p no_guests
    pub tabs : TwoSuch (IsOutside lot) t v.tabs

  -- that is so still
  abbrev pub Goes : View (List ℕ) → View (List ℕ) → Type 0
  Goes v w = Holds v → Holds w

  pub few : (b : ℕ) → readers p b + 0 < 65536
  few b = readers_fit p b 0 eight (omega arith)

  -- words change, and none of the lot
  pub lot_moved : (v w : View (List ℕ)) (Changed : Place → Type 0) → SameBut g v w Changed
      → ((b : ℕ) → b < g.setting.anchors → lot.anchors b ≡ true → LeavesAlone g v Changed b (entry_at p b))
      → KnowsLot g rename lot v p no_guests → KnowsLot g rename lot w p no_guests
  lot_moved v w Changed s alone k = record {
    counter = λ own. absurd (false≢true (sym apart ∙ own));
    many = k.many;
    each = λ b lt ours. shows_elsewhere g rename v w Changed p p 0 b lt (k.each b lt ours) refl refl s (alone b lt ours);
  }

  -- a slot of what is shown at an anchor is in the chain there, or where that goes on
  in_chain : (v : View (List ℕ)) (st : Stands g v) → IsPass v → (b : ℕ) → OwnsAnchor g v.pass b → b < g.setting.anchors
      → ShowsAt g rename v p 0 b
      → (e : Entry) → entry_at p b ≡ Some e → (h : HasChain g v b e) → (j : ℕ) → Contains (h.slots ++ slots_of_link h.end) j
      → Contains ((chain_of st.state b).slots ++ slots_of_link (chain_of st.state b).end) j
  in_chain v st nine b own lt shown e there h j c = dite (ℕ_discrete (length h.slots) 0)
      (λ none. absurd (no_slots g v b e h none j c))
      (λ some_slots. let range = in_range some_slots in let same = own_chain g v b own st nine lt e h range.0 range.1 in
      moved same.0 same.1 c)
    where
      moved : {xs ys : List ℕ} {d f : LinkOf} → xs ≡ ys → d ≡ f → Contains (xs ++ slots_of_link d) j → Contains (ys ++ slots_of_link f) j
      moved m q k = subst (λ (z : List ℕ). Contains z j) (λ i. m i ++ slots_of_link (q i)) k

      stage_here : stage_of (epoch_of (word st.state b)) ≡ stage_number (stage_at (room_of g.slot) (place_at p b).version (Some e))
      stage_here = ap (λ (z : ℕ). stage_of (epoch_of z)) (own.stands v st (Anchor b) refl nine refl lt)
          ∙ (stage_there rename (setting_of g) p 0 b _ shown.word (few b)
          ∙ ap (λ (o : Option Entry). stage_number (stage_at (room_of g.slot) (place_at p b).version o)) there)

      in_range : length h.slots ≢ 0 → (2 ≤ stage_of (epoch_of (word st.state b))) × (stage_of (epoch_of (word st.state b)) ≤ 4)
      in_range some_slots = let span = stage_span (room_of g.slot) e.life e.content (λ z. some_slots (h.many ∙ z)) in
          let s = stage_here in (omega arith, omega arith)

  module _ (v w : View (List ℕ)) (m : Move) (n : ℕ) (st : Steps g v m n w) (k : Holds v) where
    inside : IsInside g.setting (place v m)
    inside = place_inside g.setting st.state st.index v st.rule.sound st.at st.may.pass m st.may.allowed

    abbrev KnowsStill : Type 0
    KnowsStill = KnowsLot g rename lot w p no_guests

    -- a step on the word of an anchor outside
    at_anchor : (a : ℕ) → touched_by v m n ≡ Anchor a ∷ [] → a < g.setting.anchors → IsOutside lot a → KnowsStill
    at_anchor a is lt out = lot_moved v w (λ q. q ≡ Anchor a) (step_same g v w m n (Anchor a) st is lt)
        (λ b low ours. record {
          word = λ e. outside_other lot a b out ours (same_anchor b a e);
          sides = λ side e. cc;
          links = λ x there chain j c e. cc;
        }) k.knows

    -- on a word beside it
    at_side : (side : Side) (a : ℕ) → touched_by v m n ≡ Beside side a ∷ [] → a < g.setting.anchors → IsOutside lot a → KnowsStill
    at_side side a is lt out = lot_moved v w (λ q. q ≡ Beside side a) (step_same g v w m n (Beside side a) st is lt)
        (λ b low ours. record {
          word = λ e. cc;
          sides = λ other e. outside_other lot a b out ours (same_side other side b a e);
          links = λ x there chain j c e. cc;
        }) k.knows

    -- on the counter of versions
    at_counter : touched_by v m n ≡ Counter ∷ [] → KnowsStill
    at_counter is = lot_moved v w (λ q. q ≡ Counter) (step_same g v w m n Counter st is tt)
        (λ b low ours. record { word = λ e. cc; sides = λ side e. cc; links = λ x there chain j c e. cc }) k.knows

    -- on a word that is not spoken of
    at_none : SameBut g v w (λ q. ⊥) → KnowsStill
    at_none s = knows_same g rename v w p no_guests k.knows s

    -- on the link of a slot that is in no chain of the lot
    at_link : (slot : ℕ) → touched_by v m n ≡ Link slot ∷ [] → slot < g.setting.slots
        → ((b : ℕ) → b < g.setting.anchors → lot.anchors b ≡ true → (e : Entry) → entry_at p b ≡ Some e → (h : HasChain g v b e) → (j : ℕ)
        → Contains (h.slots ++ slots_of_link h.end) j → j ≡ slot → ⊥) → KnowsStill
    at_link slot is lt off = lot_moved v w (λ q. q ≡ Link slot) (step_same g v w m n (Link slot) st is lt)
        (λ b low ours. record {
          word = λ e. cc;
          sides = λ side e. cc;
          links = λ x there chain j c e. off b low ours x there chain j c (same_link j slot e);
        }) k.knows

    tab_known : (u : ℕ) (x : Tab (List ℕ)) → u ≤ inner → tab_at v u ≡ x → get_elem? v.tabs u ≡ some x
    tab_known u x le e = tab_there v u x (let z = st.may.pass in omega arith) e

  -- A look at an anchor changes nothing, or is outside.
  look_knows : (v w : View (List ℕ)) (a n : ℕ) → Steps g v (Look a) n w → Holds v → KnowsLot g rename lot w p no_guests
  look_knows v w a n st k = by_test (lot.anchors a) refl
    where
      by_test : (b : Bool) → lot.anchors a ≡ b → KnowsLot g rename lot w p no_guests
      by_test true ours = at_none v w (Look a) n st k
          (step_quiet g v w (Look a) n (Anchor a) st refl refl refl ((k.owns a st.may.allowed ours).words v (Anchor a) refl refl))
      by_test false out = at_anchor v w (Look a) n st k a refl st.may.allowed out

  -- A slot that is published is one that the tab has reserved.
  publish_knows : (v w : View (List ℕ)) (u slot n : ℕ) (link : LinkOf) → (u ≡ t) ⊎ (u ≡ inner) → Steps g v (Publish u slot link) n w
      → Holds v
      → KnowsLot g rename lot w p no_guests
  publish_knows v w u slot n link mine st k = let q = of_writer (MayPublish g.setting st.state slot link) (tab_at v u) st.may.allowed.1 in
      at_link v w (Publish u slot link) n st k slot refl (inside v w (Publish u slot link) n st k)
      (λ b lt ours e there h j c is. reserved_apart g rename v u q.0 p 0 b (k.owns b lt ours)
      (stands_before st) st.may.pass st.may.allowed.0 q.1 lt
      (λ at. outside_other lot q.0.anchor b (out q.0 q.1) ours (sym at)) (k.knows.each b lt ours) (few b) e there h j c
      (subst (λ (z : List ℕ). Contains z j) (sym q.2.first) (0, omega arith, sym is)))
    where
      out : (x : Writer (List ℕ)) → tab_at v u ≡ Writing x → IsOutside lot x.anchor
      out x e = subst (λ (y : Tab (List ℕ)). IsAtSuch (IsOutside lot) y) e (mine_such (IsOutside lot) t v.tabs k.tabs u mine)

  -- A tab that looks at a link reads or frees elsewhere.
  get_link_knows : (v w : View (List ℕ)) (u slot n : ℕ) → (u ≡ t) ⊎ (u ≡ inner) → Steps g v (GetLink u slot) n w → Holds v
      → KnowsLot g rename lot w p no_guests
  get_link_knows v w u slot n mine st k = by_tab (tab_at v u) refl st.may.allowed.1 (mine_such (IsOutside lot) t v.tabs k.tabs u mine)
    where
      off_link : ((b : ℕ) → b < g.setting.anchors → lot.anchors b ≡ true → (e : Entry) → entry_at p b ≡ Some e → (h : HasChain g v b e)
          → (j : ℕ)
          → Contains (h.slots ++ slots_of_link h.end) j → j ≡ slot → ⊥) → KnowsLot g rename lot w p no_guests
      off_link off = at_link v w (GetLink u slot) n st k slot refl (inside v w (GetLink u slot) n st k) off

      by_tab : (x : Tab (List ℕ)) → tab_at v u ≡ x → OfReader (IsNext st.state slot) x ⊎ OfFreer (IsFront slot) x
          → IsAtSuch (IsOutside lot) x → KnowsLot g rename lot w p no_guests
      by_tab (Reading r) e (inl next) out = off_link (λ b lt ours x there h j c is. outside_other lot r.anchor b out ours
          (sym (one_chain g st.state st.rule r.anchor b low lt slot
          (times_contains slot ((chain_of st.state r.anchor).slots ++ slots_of_link (chain_of st.state r.anchor).end)
          (at_times ((chain_of st.state r.anchor).slots ++ slots_of_link (chain_of st.state r.anchor).end) r.place slot next))
          (subst (Contains ((chain_of st.state b).slots ++ slots_of_link (chain_of st.state b).end)) is
          (in_chain v (stands_before st) st.may.pass b (k.owns b lt ours) lt (k.knows.each b lt ours) x there h j c)))))
        where
          low : r.anchor < g.setting.anchors
          low = (st.rule.sound.anchors.tabs st.index v st.at u (Reading r)
              (tab_known v w (GetLink u slot) n st k u (Reading r) st.may.allowed.0 e)).0
      by_tab (Freeing f) e (inr front) out = off_link
          (λ b lt ours x there h j c is. chained_apart_rest g rename v (stands_before st) st.may.pass p 0 b
          (k.owns b lt ours) (few b) lt (k.knows.each b lt ours) x there h f (ap (tab_at v) (sym only_inner) ∙ e) j c
          (subst (λ (z : List ℕ). Contains z j) (sym front) (0, omega arith, sym is)))
        where
          only_inner : u ≡ inner
          only_inner = (st.rule.sound.anchors.tabs st.index v st.at u (Freeing f)
              (tab_known v w (GetLink u slot) n st k u (Freeing f) st.may.allowed.0 e)).1
      by_tab (Reading r) e (inr none) out = absurd none
      by_tab (Freeing f) e (inl none) out = absurd none
      by_tab Free e may out = absurd (⊎_elim (λ (z : ⊥). z) (λ (z : ⊥). z) may)
      by_tab (Retreating a) e may out = absurd (⊎_elim (λ (z : ⊥). z) (λ (z : ⊥). z) may)
      by_tab (Writing x) e may out = absurd (⊎_elim (λ (z : ⊥). z) (λ (z : ⊥). z) may)
      by_tab (Last a) e may out = absurd (⊎_elim (λ (z : ⊥). z) (λ (z : ⊥). z) may)

  leaves_such : (v : View (List ℕ)) (s : State (List ℕ)) (m : Move) → Allowed g.setting s v m → Suits (IsOutside lot) t m → Holds v
      → LeavesSuch (IsOutside lot) t v m
  leaves_such v s (Leave u) may h k = counted_such (IsOutside lot) (tab_at v u) may.1 (mine_such (IsOutside lot) t v.tabs k.tabs u h)
  leaves_such v s (Raise u to) may h k = raising_such (IsOutside lot) (λ w. MayRaise w to × StartsRight g.setting s w) (λ f. MayEnd f to)
      (tab_at v u) may.1
      (mine_such (IsOutside lot) t v.tabs k.tabs u h)
  leaves_such v s m may h k = tt

  step_knows : (v w : View (List ℕ)) (m : Move) (n : ℕ) → Steps g v m n w → Suits (IsOutside lot) t m → Holds v
      → KnowsLot g rename lot w p no_guests
  step_knows v w (Look a) n st h k = look_knows v w a n st k
  step_knows v w Count n st h k = at_counter v w Count n st k refl
  step_knows v w Draw n st h k = at_counter v w Draw n st k refl
  step_knows v w (Enter u a) n st h k = at_anchor v w (Enter u a) n st k a refl st.may.allowed.0 h.1
  step_knows v w (Take u a version) n st h k = at_anchor v w (Take u a version) n st k a refl st.may.allowed.0 h.1
  step_knows v w (Evict u a) n st h k = at_anchor v w (Evict u a) n st k a refl st.may.allowed.0 h.1
  step_knows v w (Leave u) n st h k = at_anchor v w (Leave u) n st k (anchor_of (tab_at v u)) refl (inside v w (Leave u) n st k)
      (leaves_such v st.state (Leave u) st.may.allowed h k)
  step_knows v w (Raise u to) n st h k = at_anchor v w (Raise u to) n st k (anchor_of (tab_at v u)) refl (inside v w (Raise u to) n st k)
      (leaves_such v st.state (Raise u to) st.may.allowed h k)
  step_knows v w (Doom u) n st h k = at_anchor v w (Doom u) n st k (anchor_of (tab_at v u)) refl (inside v w (Doom u) n st k)
      (reading_such (IsOutside lot) (tab_at v u) st.may.allowed.1 (mine_such (IsOutside lot) t v.tabs k.tabs u h))
  step_knows v w (LoadSide u side) n st h k = at_side v w (LoadSide u side) n st k side (anchor_of (tab_at v u)) refl
      (inside v w (LoadSide u side) n st k)
      (using_such (IsOutside lot) (tab_at v u) st.may.allowed.1 (mine_such (IsOutside lot) t v.tabs k.tabs u h))
  step_knows v w (StoreSide u side value) n st h k = at_side v w (StoreSide u side value) n st k side (anchor_of (tab_at v u)) refl
      (inside v w (StoreSide u side value) n st k)
      (writing_such (IsOutside lot) (λ x. (x.is_appending ≡ false) × MayStore g.setting x side value) (tab_at v u) st.may.allowed.2
      (mine_such (IsOutside lot) t v.tabs k.tabs u h))
  step_knows v w (Disown u slot) n st h k = at_none v w (Disown u slot) n st k
      (step_same_map g v w (Disown u slot) n (slot / 64) st refl (inside v w (Disown u slot) n st k))
  step_knows v w (LogPiece u slot durable) n st h k = at_none v w (LogPiece u slot durable) n st k
      (step_same_log g v w (LogPiece u slot durable) n st refl)
  step_knows v w (Publish u slot link) n st h k = publish_knows v w u slot n link h st k
  step_knows v w (GetLink u slot) n st h k = get_link_knows v w u slot n h st k
  step_knows v w (TryTurn u slot) n st h k = at_none v w (TryTurn u slot) n st k
      (step_same_turn g v w (TryTurn u slot) n slot st refl (inside v w (TryTurn u slot) n st k))
  step_knows v w (EndTurn u slot then) n st h k = at_none v w (EndTurn u slot then) n st k
      (step_same_turn g v w (EndTurn u slot then) n slot st refl (inside v w (EndTurn u slot then) n st k))
  step_knows v w m n st h k = absurd h

  -- one step
  pub by_step : {v w : View (List ℕ)} {m : Move} {n : ℕ} → Suits (IsOutside lot) t m → Steps g v m n w → Goes v w
  by_step {v} {w} {m} {n} h st k = record {
    owns = lot_stays g lot v w (pass_stays g v w m n st) k.owns;
    knows = step_knows v w m n st h k;
    tabs = subst (λ (z : View (List ℕ)). TwoSuch (IsOutside lot) t z.tabs) (sym st.leaves)
        (tabs_such (IsOutside lot) t v (found_as g.setting st.state v m n) k.tabs m h (leaves_such v st.state m st.may.allowed h k));
  }

  -- none, and one behind others
  pub same : {v w : View (List ℕ)} → w ≡ v → Goes v w
  same {v} {w} e k = subst (λ (z : View (List ℕ)). Holds z) (sym e) k

  pub on : {u v w : View (List ℕ)} → Goes u v → Goes v w → Goes u w
  on {u} {v} {w} h k x = k (h x)
