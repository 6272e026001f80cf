-- Which words a tab changes that writes: at its own anchor, and the links of slots that it reserved.
use Rattle.std.proofs.Common.{Bool, Contains, List, Option, Some, [], ap, arith, inl, inr, length, ne_eqb, refl, subst, sym, ◌+◌, ◌++◌, ◌-◌, ◌<◌, ◌∙◌, ◌≡◌, ◌≢◌, ◌≤◌, ◌⊎◌, ◌∷◌, ℕ}
use mathlib.Core.Logic.{dite}
use native.Mathlib.Decide.{ℕ_discrete}
use Rattle.entry_cut.specs.Content.{room_of}
use Rattle.link_word.specs.declared.link.Link.{Link as LinkOf}
use Rattle.link_word.specs.declared.link.Link.TheVariants.{Last as LastLink, Next, NotWritten}
use Rattle.lock_word.specs.Words.{epoch_of, raised, stage_number, stage_of}
use Rattle.lock_word.specs.declared.stage.Stage.{Stage}
use Rattle.core_model.specs.Chains.{Fits, slots_of_link, start_number}
use Rattle.core_model.specs.Layout.{index}
use Rattle.core_model.specs.SlotMoves.{publishes}
use Rattle.core_model.specs.Slots.{WriterHolds, slot_words}
use Rattle.core_model.specs.State.{chain_of}
use Rattle.core_model.specs.Table.{left_by, place}
use Rattle.core_model.specs.Tabs.{IsPass, anchor_of, inner, tab_at}
use Rattle.core_model.specs.declared.chain.Chain.{Chain}
use Rattle.core_model.specs.declared.moves.Move.TheVariants.{EndTurn, Publish, Raise, StoreSide, TryTurn, LogPiece}
use Rattle.core_model.specs.declared.moves.Then.TheVariants.{Stays}
use Rattle.core_model.specs.declared.moves.Side.{Side}
use Rattle.core_model.specs.declared.moves.Side.TheVariants.{Key0, Key1, Offer, Start}
use Rattle.core_model.specs.declared.tab.Cell.{Cell}
use Rattle.core_model.specs.declared.tab.Tab.{Tab}
use Rattle.core_model.specs.declared.tab.Tab.TheVariants.{Free, Freeing, Last, Reading, Retreating, Writing}
use Rattle.core_model.specs.declared.tab.Writer.{Writer}
use Rattle.core_model.specs.declared.view.Place.{Place}
use Rattle.core_model.specs.declared.view.Place.TheVariants.{Anchor, Beside, Counter, Link}
use Rattle.core_model.specs.declared.view.View.{View}
use Rattle.core_model.proofs.Lists.{contains_none}
use Rattle.core_model.proofs.Tabs.{tab_there}
use Rattle.core_model.proofs.Telling.{told_in}
use Rattle.plain_model.specs.declared.entry.Entry.{Entry}
use Rattle.plain_model.specs.declared.entry.Life.{Life}
use Rattle.plain_model.specs.declared.entry.Life.TheVariants.{GivenUp, Growing, Whole}
use Rattle.plain_model.specs.declared.store.Plain.{Plain}
use Rattle.plain_model.specs.Store.{entry_at, place_at, published, readers, stage_of as stage_at, stage_of_entry}
use Rattle.store_rule.specs.Ground.{Ground}
use Rattle.store_rule.specs.Told.{Stands, Steps}
use Rattle.store_rule.specs.Turns.{IsReturned}
use Rattle.store_rule.proofs.Moves.{known_of}
use Rattle.store_rule.specs.Words.{Mine, has}
use Rattle.plain_runs.proofs.OwnAnchors.{OwnsAnchor, OwnsLot, own_chain, stands_before}
use Rattle.store_rule.proofs.AddingUp.{has_left}
use Rattle.store_rule.proofs.MyWords.{found_mine, has_same}
use Rattle.slice_chain.specs.Links.{Published, next_link}
use Rattle.slice_chain.specs.Writes.{WroteSlot}
use Rattle.rock_writer.proofs.Resting.{tab_now}
use Rattle.rock_writer.proofs.Standing as standing
use Rattle.plain_runs.specs.Words.{EndsSo, HasChain, HasNames, Lot, ShowsAt, no_guests, setting_of, slots_published}
use Rattle.plain_runs.proofs.Chains as told
use Rattle.plain_runs.proofs.Frames.{SameBut, same_on, same_weaker, step_same, step_same_turn, step_same_log}
use Rattle.plain_runs.proofs.Freeing.{KnowsLotBut, SameElse, but_moved}
use Rattle.plain_runs.proofs.PlainWords.{readers_fit, stage_there}

anchor_in : Place → ℕ
anchor_in (Anchor a) = a
anchor_in (Beside side a) = a
anchor_in q = 0

slot_in : Place → ℕ
slot_in (Link slot) = slot
slot_in q = 0

-- the words of an anchor and the link of a slot that a writing tab changes there
abbrev pub Touched : ℕ → ℕ → Place → Type 0
Touched a slot q = (q ≡ Link slot) ⊎ (q ≡ Beside Start a) ⊎ (q ≡ Anchor a)

-- those that publishing changes
abbrev pub Linking : ℕ → ℕ → Place → Type 0
Linking a slot q = (q ≡ Link slot) ⊎ (q ≡ Beside Start a)

pub touched_linking : (a slot : ℕ) (q : Place) → Linking a slot q → Touched a slot q
touched_linking a slot q (inl e) = inl e
touched_linking a slot q (inr e) = inr (inl e)

pub touched_either : (a slot : ℕ) (q : Place) → Touched a slot q ⊎ Touched a slot q → Touched a slot q
touched_either a slot q (inl c) = c
touched_either a slot q (inr c) = c

pub no_anchor : (a slot b : ℕ) → Linking a slot (Anchor b) → ⊥
no_anchor a slot b (inl e) = cc
no_anchor a slot b (inr e) = cc

only_anchor : (a slot b : ℕ) → Touched a slot (Anchor b) → b ≡ a
unfolding anchor_in
only_anchor a slot b (inl e) = cc
only_anchor a slot b (inr (inl e)) = cc
only_anchor a slot b (inr (inr e)) = ap anchor_in e

only_start : (a slot b : ℕ) (side : Side) → Touched a slot (Beside side b) → (b ≡ a) × (side ≡ Start)
unfolding anchor_in
only_start a slot b side (inl e) = cc
only_start a slot b side (inr (inl e)) = (ap anchor_in e, cc)
only_start a slot b side (inr (inr e)) = cc

only_link : (a slot j : ℕ) → Touched a slot (Link j) → j ≡ slot
unfolding slot_in
only_link a slot j (inl e) = ap slot_in e
only_link a slot j (inr (inl e)) = cc
only_link a slot j (inr (inr e)) = cc

-- An entry of which a slot is published may be read, or was given up.
pub stage_span : (room : ℕ) (life : Life) (content : ℕ) → slots_published room life content ≢ 0 → (2 ≤ stage_number (stage_of_entry room life content)) × (stage_number (stage_of_entry room life content) ≤ 4)
stage_span room Growing content has_slots = let e = ne_eqb (published room content) 0 has_slots in
    let n : stage_number (stage_of_entry room Growing content) ≡ 2 = rw e refl in (omega arith, omega arith)
stage_span room Whole content has_slots = (omega arith, omega arith)
stage_span room GivenUp content has_slots = (omega arith, omega arith)

module _ (g : Ground (List ℕ)) where
  -- a slot that a writing tab reserved is one of the table, and so is its anchor
  pub reserved_there : (v : View (List ℕ)) (t slot : ℕ) (w : Writer (List ℕ)) → Stands g v → IsPass v → t < inner → tab_at v t ≡ Writing w → Contains w.reserved slot → slot < g.setting.slots
  reserved_there v t slot w st pass below is c = standing.inside g v st t w (tab_there v t (Writing w) (let n = pass in let b = below in omega arith) is) slot c

  pub anchor_there : (v : View (List ℕ)) (t : ℕ) (w : Writer (List ℕ)) → Stands g v → IsPass v → t < inner → tab_at v t ≡ Writing w → w.anchor < g.setting.anchors
  anchor_there v t w st pass below is = standing.anchor_inside g v st t w (tab_there v t (Writing w) (let n = pass in let b = below in omega arith) is)

  -- a cell that comes back changes no word that the pass has
  pub returned_has : (tab : Tab (List ℕ)) (t slot : ℕ) (c : Cell (List ℕ)) (v u : View (List ℕ)) → IsReturned g.setting tab t slot c v u → (q : Place) → has g u q ≡ has g v q
  returned_has (Writing w) t slot c v u h q = has_same g v u (ap View.mirror h.2) (ap View.trail h.2) q
  returned_has Free t slot c v u h q = ap (λ (z : View (List ℕ)). has g z q) h
  returned_has (Retreating a) t slot c v u h q = ap (λ (z : View (List ℕ)). has g z q) h
  returned_has (Reading r) t slot c v u h q = ap (λ (z : View (List ℕ)). has g z q) h
  returned_has (Last a) t slot c v u h q = ap (λ (z : View (List ℕ)). has g z q) h
  returned_has (Freeing f) t slot c v u h q = has_same g v u (ap View.mirror h) (ap View.trail h) q

  -- writing a slot changes no word but the counter of logged pieces and its turn
  pub wrote_same : (v w : View (List ℕ)) (t : ℕ) (durable done : Bool) → IsPass v → t < inner → WroteSlot g t v durable done w → SameBut g v w (λ q. ⊥)
  wrote_same v w t durable done pass below h = record {
    same = λ q known here none.
        (step_same_turn g h.from w (EndTurn t h.slot Stays) 1 h.slot h.ended refl there).same q known here none
        ∙ (returned_has (tab_at h.middle t) t h.slot h.cell h.middle h.from h.returned q
        ∙ ((step_same_turn g h.logged h.middle (TryTurn t h.slot) 0 h.slot h.tried refl there).same q known here none
        ∙ (step_same_log g v h.logged (LogPiece t h.slot durable) h.number h.logs refl).same q known here none));
  }
    where
      there : h.slot < g.setting.slots
      there = reserved_there v t h.slot h.writer (stands_before h.logs) pass below h.was (subst (λ (z : List ℕ). Contains z h.slot) (sym h.first) (0, omega arith, refl))

  -- Publishing changes the link of the slot, and the start of the first one.
  pub published_same : (v w : View (List ℕ)) (t slot : ℕ) (next : Option ℕ) (x : Writer (List ℕ)) → IsPass v → t < inner → tab_at v t ≡ Writing x → Contains x.reserved slot → Published g t slot next v w → SameBut g v w (Linking x.anchor slot)
  published_same v w t slot next x pass below is c (inl h) =
      same_weaker g v w (λ q. (q ≡ Link slot) ⊎ (q ≡ Beside Start (anchor_of (tab_at h.middle t)))) (Linking x.anchor slot) (λ q e. of_one q e)
      (same_on g v h.middle w (λ q. q ≡ Link slot) (λ q. q ≡ Beside Start (anchor_of (tab_at h.middle t)))
      (step_same g v h.middle (Publish t slot (next_link next)) 0 (Link slot) h.linked refl (reserved_there v t slot x (stands_before h.linked) pass below is c))
      (step_same g h.middle w (StoreSide t Start (slot + 1)) h.found (Beside Start (anchor_of (tab_at h.middle t))) h.started refl (subst (λ (z : ℕ). z < g.setting.anchors) (sym at) (anchor_there v t x (stands_before h.linked) pass below is))))
    where
      at : anchor_of (tab_at h.middle t) ≡ x.anchor
      at = ap anchor_of (tab_now t v h.middle (publishes (tab_at v t) slot (next_link next)) pass below (ap View.tabs h.linked.leaves) ∙ ap (λ (z : Tab (List ℕ)). publishes z slot (next_link next)) is)

      of_one : (q : Place) → (q ≡ Link slot) ⊎ (q ≡ Beside Start (anchor_of (tab_at h.middle t))) → Linking x.anchor slot q
      of_one q (inl e) = inl e
      of_one q (inr e) = inr (e ∙ ap (Beside Start) at)
  published_same v w t slot next x pass below is c (inr h) =
      same_weaker g v w (λ q. q ≡ Link slot) (Linking x.anchor slot) (λ q e. inl e)
      (step_same g v w (Publish t slot (next_link next)) 0 (Link slot) h.linked refl (reserved_there v t slot x (stands_before h.linked) pass below is c))

  -- The words of an anchor that is the pass's own, and where a tab writes, spell what it has published, where it stored where that begins.
  pub chain_of_tab : (v : View (List ℕ)) (t : ℕ) (w : Writer (List ℕ)) (x : Entry) → OwnsAnchor g v.pass w.anchor → Stands g v → IsPass v → t < inner → tab_at v t ≡ Writing w → w.start ≡ Some (start_number w.published)
      → length w.published ≡ slots_published (room_of g.slot) x.life x.content → EndsSo x.life w.end → HasChain g v w.anchor x
  chain_of_tab v t w x own st pass below is start many ends = record {
    slots = c.slots;
    end = c.end;
    spelled = own.spelled v st refl pass lt starts;
    many = ap (λ (z : Chain). length z.slots) holds.chain ∙ many;
    ends = subst (λ (z : Chain). EndsSo x.life z.end) (sym holds.chain) ends;
  }
    where
      c : Chain
      c = chain_of st.state w.anchor

      lt : w.anchor < g.setting.anchors
      lt = anchor_there v t w st pass below is

      holds : WriterHolds ((slot_words g.setting st.state.words).beside w.anchor) c w
      holds = standing.holds g v st t w (tab_there v t (Writing w) (let n = pass in let b = below in omega arith) is)

      starts : has g v (Beside Start w.anchor) ≡ start_number c.slots
      starts = sym (told_in g.setting.anchors w.anchor _ lt ∙ own.stands v st (Beside Start w.anchor) refl pass refl lt) ∙ (holds.names_are.start (start_number w.published) start ∙ ap (λ (z : Chain). start_number z.slots) (sym holds.chain))

  -- An entry of which no slot is published has no chain.
  pub no_slots : (v : View (List ℕ)) (b : ℕ) (e : Entry) → (h : HasChain g v b e) → length h.slots ≡ 0 → (j : ℕ) → Contains (h.slots ++ slots_of_link h.end) j → ⊥
  no_slots v b e h none j c = by_list h.slots h.end none h.spelled.fits c
    where
      by_list : (xs : List ℕ) (end : LinkOf) → length xs ≡ 0 → Fits xs end → Contains (xs ++ slots_of_link end) j → ⊥
      by_list [] NotWritten z fits c = contains_none j c
      by_list [] LastLink z fits c = fits
      by_list [] (Next y) fits z c = z
      by_list (x ∷ xs) end z fits c = absurd (omega arith)

  module _ (rename : ℕ → ℕ) where
    -- A slot that a tab reserved which writes at another anchor is in no chain of an entry at an anchor that is the pass's own, and no such chain goes on there.
    pub reserved_apart : (v : View (List ℕ)) (t : ℕ) (w : Writer (List ℕ)) (p : Plain) (n b : ℕ) → OwnsAnchor g v.pass b → Stands g v → IsPass v → t < inner → tab_at v t ≡ Writing w → b < g.setting.anchors → w.anchor ≢ b
        → ShowsAt g rename v p n b → readers p b + n < 65536 → (e : Entry) → entry_at p b ≡ Some e → (h : HasChain g v b e) → (j : ℕ) → Contains (h.slots ++ slots_of_link h.end) j → Contains w.reserved j → ⊥
    reserved_apart v t w p n b own st pass below is lt other shown few e there h j c reserved = dite (ℕ_discrete (length h.slots) 0)
        (λ none. no_slots v b e h none j c)
        (λ some_slots. let range = in_range some_slots in let same = own_chain g v b own st pass lt e h range.0 range.1 in
        told.not_reserved g st.state st.rule b lt j st.index t w (moved same.0 same.1 c)
        (told.own_tab st.state st.index v st.at pass t (Writing w) (let z = below in omega arith) is) other reserved)
      where
        moved : {xs ys : List ℕ} {d f : LinkOf} → xs ≡ ys → d ≡ f → Contains (xs ++ slots_of_link d) j → Contains (ys ++ slots_of_link f) j
        moved p q k = subst (λ (z : List ℕ). Contains z j) (λ i. p i ++ slots_of_link (q i)) k

        stage_here : stage_of (epoch_of (Rattle.core_model.specs.State.word st.state b)) ≡ stage_number (stage_at (room_of g.slot) (place_at p b).version (Some e))
        stage_here = ap (λ (z : ℕ). stage_of (epoch_of z)) (own.stands v st (Anchor b) refl pass refl lt)
            ∙ (stage_there rename (setting_of g) p n b (has g v (Anchor b)) shown.word few ∙ ap (λ (o : Option Entry). stage_number (stage_at (room_of g.slot) (place_at p b).version o)) there)

        in_range : length h.slots ≢ 0 → (2 ≤ stage_of (epoch_of (Rattle.core_model.specs.State.word st.state b))) × (stage_of (epoch_of (Rattle.core_model.specs.State.word st.state b)) ≤ 4)
        in_range some_slots = let span = stage_span (room_of g.slot) e.life e.content (λ z. some_slots (h.many ∙ z)) in let st = stage_here in (omega arith, omega arith)

    -- What a tab changes at its own anchor leaves all others alone.
    pub touched_but : {lot : Lot} (v w : View (List ℕ)) (t slot : ℕ) (x : Writer (List ℕ)) (p q : Plain) → OwnsLot g lot v.pass → Stands g v → IsPass v → t < inner → tab_at v t ≡ Writing x → Contains x.reserved slot → SameBut g v w (Touched x.anchor slot)
        → SameElse p q x.anchor → length p.tabs ≡ 8 → KnowsLotBut g rename lot v p no_guests x.anchor → KnowsLotBut g rename lot w q no_guests x.anchor
    touched_but v w t slot x p q owns st pass below is reserved same other eight h = but_moved g rename v w (Touched x.anchor slot) p q no_guests x.anchor same other no_counter
        (λ b lt mine ne. record {
          word = λ c. ne (only_anchor x.anchor slot b c);
          sides = λ side c. ne (only_start x.anchor slot b side c).0;
          links = λ e there chain j c k. reserved_apart v t x p 0 b (owns b lt mine) st pass below is lt (λ z. ne (sym z)) (h.each b lt mine ne) (readers_fit p b 0 eight (omega arith)) e there chain j c
              (subst (λ (z : ℕ). Contains x.reserved z) (sym (only_link x.anchor slot j k)) reserved);
        }) h
      where
        no_counter : Touched x.anchor slot Counter → ⊥
        no_counter (inl e) = cc
        no_counter (inr (inl e)) = cc
        no_counter (inr (inr e)) = cc

  -- The names of the entry at the anchor stay.
  pub touched_names : (v w : View (List ℕ)) (a slot : ℕ) (e : Entry) → a < g.setting.anchors → SameBut g v w (Touched a slot) → HasNames g v a e → HasNames g w a e
  touched_names v w a slot e lt same h = record {
    key0 = same.same (Beside Key0 a) tt lt (λ c. let z = (only_start a slot a Key0 c).1 in cc) ∙ h.key0;
    key1 = same.same (Beside Key1 a) tt lt (λ c. let z = (only_start a slot a Key1 c).1 in cc) ∙ h.key1;
    offer = same.same (Beside Offer a) tt lt (λ c. let z = (only_start a slot a Offer c).1 in cc) ∙ h.offer;
  }

  -- A tab that writes raises the word of its anchor.
  pub raise_same : (v w : View (List ℕ)) (t n slot : ℕ) (to : Stage) (x : Writer (List ℕ)) → IsPass v → t < inner → tab_at v t ≡ Writing x → Steps g v (Raise t to) n w → SameBut g v w (Touched x.anchor slot)
  raise_same v w t n slot to x pass below is st =
      same_weaker g v w (λ q. q ≡ Anchor (anchor_of (tab_at v t))) (Touched x.anchor slot) (λ q e. inr (inr (e ∙ ap (λ (z : Tab (List ℕ)). Anchor (anchor_of z)) is)))
      (step_same g v w (Raise t to) n (Anchor (anchor_of (tab_at v t))) st refl (subst (λ (z : Tab (List ℕ)). anchor_of z < g.setting.anchors) (sym is) (anchor_there v t x (stands_before st) pass below is)))

  pub raise_left : (v w : View (List ℕ)) (t n : ℕ) (to : Stage) (x : Writer (List ℕ)) → Mine g v (Anchor x.anchor) → tab_at v t ≡ Writing x → Steps g v (Raise t to) n w
      → (n ≡ has g v (Anchor x.anchor)) × (has g w (Anchor x.anchor) ≡ raised n (stage_number to - stage_of (epoch_of n))) × (left_by v (Raise t to) n ≡ raised n (stage_number to - stage_of (epoch_of n)))
  raise_left v w t n to x mine is st = (found_mine g v w (Raise t to) n (Anchor x.anchor) st mine here, has_left g v w (Raise t to) n (Anchor x.anchor) st here ∙ left, left)
    where
      here : place v (Raise t to) ≡ Some (Anchor x.anchor)
      here = ap (λ (z : Tab (List ℕ)). Some (Anchor (anchor_of z))) is

      left : left_by v (Raise t to) n ≡ raised n (stage_number to - stage_of (epoch_of n))
      left = ap (λ (z : ℕ). raised n (stage_number to - z)) (sym (known_of g v (Raise t to) n w st).anchors.1)
