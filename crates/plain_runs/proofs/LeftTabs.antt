-- A tab leaves its anchor, and what nobody uses any more goes from the plain store.
use Rattle.std.proofs.Common.{Bool, List, None, Option, Some, ap, arith, cond, eq-eqb, false, get_or, get_or-set_other, get_or-set_same, inl, inr, length, ne_eqb, refl, subst, sym, true, ◌&&◌, ◌+◌, ◌-◌, ◌<◌, ◌==◌, ◌||◌, ◌≤◌, ◌∙◌, ◌≡◌, ◌≢◌, ◌⊎◌, ⊎_elim, ℕ}
use Rattle.std.proofs.lemmas.Bool.{false≢true}
use mathlib.Core.Logic.{dite}
use native.Mathlib.Decide.{ℕ_discrete}
use Rattle.lock_word.specs.Words.{epoch_of, is_left_over, mode_of, stage_of, word_number}
use Rattle.lock_word.proofs.Testing.{readers_of-left_over, stage_of-left_over}
use Rattle.lock_word.specs.declared.stage.Stage.{Stage}
use Rattle.lock_word.specs.declared.stage.Stage.TheVariants as stage
use Rattle.core_model.specs.AnchorMoves.{left_tab, raised_tab}
use Rattle.core_model.specs.State.{word}
use Rattle.core_model.specs.Table.{left_by, place}
use Rattle.core_model.specs.Tabs.{InnerIsFree, IsPass, anchor_of, inner, is_counted, is_free, tab_at, with_tab}
use Rattle.core_model.specs.Trails.{last_find}
use Rattle.core_model.specs.declared.moves.Move.TheVariants.{Evict, Leave, Raise}
use Rattle.core_model.specs.declared.tab.Tab.{Tab}
use Rattle.core_model.specs.declared.tab.Tab.TheVariants.{Free, Last, Writing}
use Rattle.core_model.specs.declared.tab.Writer.{Writer}
use Rattle.core_model.specs.declared.view.Place.TheVariants.{Anchor}
use Rattle.core_model.specs.declared.view.View.{View}
use Rattle.core_model.proofs.Lists.{at_or}
use Rattle.plain_model.specs.declared.entry.Entry.{Entry}
use Rattle.plain_model.specs.declared.entry.Life.TheVariants.{GivenUp, Whole}
use Rattle.plain_model.specs.declared.store.Plain.{Plain}
use Rattle.plain_model.specs.Store.{entry_at, has_life, is_left_over_at, place_at, readers, word_at}
use Rattle.plain_model.specs.Writing.{settle}
use Rattle.plain_laws.specs.Renaming.{renamed_word}
use Rattle.plain_laws.proofs.Choosing.{either}
use Rattle.store_rule.specs.Ground.{Ground}
use Rattle.tab_states.specs.Tabs.{is_last}
use Rattle.store_rule.specs.Told.{Stands, Steps}
use Rattle.store_rule.specs.Words.{Mine, has}
use Rattle.core_alone.specs.Touched.{places_in}
use Rattle.store_rule.proofs.AddingUp.{has_left}
use Rattle.store_rule.proofs.MyWords.{found_mine}
use Rattle.rw_anchor.specs.Calls.{GivenUp as TriedToFree, Gone, LeftLast, Leaves}
use Rattle.rw_anchor.specs.declared.Left.{Left}
use Rattle.slice_chain.specs.Freeing.{Freed}
use Rattle.purge_entry.specs.Wiping.{IsInUse, LeftInUse, WasOvertaken, WipedAndFreed}
use Rattle.rock_reader.specs.Closing.{Parted}
use Rattle.rock_reader.proofs.Parting.{done_tabs, freed_tabs, not_last, set_free}
use Rattle.rock_writer.specs.Halting.{FreedLast, LeftToOther, Parted as WriterParted, Stayed}
use Rattle.plain_runs.specs.Words.{KnowsLot, Lot, ShowsAt, ShowsEntryIf, no_guests, setting_of}
use Rattle.plain_runs.proofs.Frames.{SameBut, chain_same, names_same, step_same}
use Rattle.plain_runs.proofs.OwnAnchors.{OwnsAnchor, OwnsLot, lot_stays, pass_stays}
use Rattle.plain_runs.proofs.PlainWords.{left_over_there, readers_fit}
use Rattle.plain_runs.proofs.Wiping.{evicted_wiped, wiped_pass}
use Rattle.plain_runs.proofs.Freeing.{EvictedAt, FewReaders, but_guests, but_step, evict_freed, evict_leaves, knows_all, knows_but, same_else, vacated_at}

-- eight tabs read at each anchor at most
pub few_all : (p : Plain) (guests : ℕ → ℕ) → length p.tabs ≡ 8 → ((b : ℕ) → guests b ≤ 1) → FewReaders p guests
few_all p guests eight most b = readers_fit p b (guests b) eight (most b)

-- What settling comes to.

pub settle_gone : (p : Plain) (a : ℕ) → is_left_over_at p a ≡ true → settle a p ≡ vacated_at a p
settle_gone p a e = rw e refl

pub settle_stays : (p : Plain) (a : ℕ) → is_left_over_at p a ≡ false → settle a p ≡ p
settle_stays p a e = rw e refl

-- an entry that is left over is there, and nobody reads it
pub record IsOver (p : Plain) (a : ℕ) : Type 0 where
  pub entry : Entry
  pub there : entry_at p a ≡ Some entry
  pub unread : readers p a ≡ 0

pub is_over : (p : Plain) (a : ℕ) → is_left_over_at p a ≡ true → IsOver p a
is_over p a h = of_entry (entry_at p a) refl (readers p a) refl h
  where
    of_entry : (o : Option Entry) → entry_at p a ≡ o → (n : ℕ) → readers p a ≡ n → ((has_life GivenUp o || (has_life Whole o && (place_at p a).doom)) && (n == 0)) ≡ true → IsOver p a
    of_entry None is n r e = absurd (false≢true e)
    of_entry (Some x) is n r e = record { entry = x; there = is; unread = r ∙ none n (last (has_life GivenUp (Some x) || (has_life Whole (Some x) && (place_at p a).doom)) (n == 0) e) }
      where
        last : (b c : Bool) → (b && c) ≡ true → c ≡ true
        last true c e = e
        last false c e = absurd (false≢true e)

        none : (n : ℕ) → (n == 0) ≡ true → n ≡ 0
        none n e = dite (ℕ_discrete n 0) (λ z. z) (λ ne. absurd (let f = ne_eqb n 0 ne in false≢true (sym f ∙ e)))

-- an entry that is in use is not left over
used_stays : (n : ℕ) → IsInUse n → is_left_over n ≡ false
used_stays n used = by_test (is_left_over n) refl
  where
    none : is_left_over n ≡ true → IsInUse n → ⊥
    none e (inl some) = let z = readers_of-left_over n e in absurd (omega arith)
    none e (inr other) = ⊎_elim (λ (s : stage_of (epoch_of n) ≡ 4). other.1 s) (λ (m : mode_of (epoch_of n) ≡ 11). other.0 (omega arith)) (stage_of-left_over n e)

    by_test : (b : Bool) → is_left_over n ≡ b → is_left_over n ≡ false
    by_test true e = absurd (none e used)
    by_test false e = e

-- so many readers more are counted at this anchor alone
abbrev pub guest_at : ℕ → ℕ → ℕ
guest_at a b = cond (b == a) 1 0

pub guest_here : (a : ℕ) → guest_at a a ≡ 1
guest_here a = let e = eq-eqb a a refl in rw e refl

pub guest_else : (a b : ℕ) → b ≢ a → guest_at a b ≡ 0
guest_else a b ne = let e = ne_eqb b a ne in rw e refl

guest_few : (a b : ℕ) → guest_at a b ≤ 1
guest_few a b = either (λ n. n ≤ 1) (b == a) 1 0 (λ y. omega arith) (λ y. omega arith)

module _ (g : Ground (List ℕ)) (rename : ℕ → ℕ) where
  -- where only the word of an anchor changed, the entry there stays
  pub entry_kept : (v w : View (List ℕ)) (a version : ℕ) (o : Option Entry) → a < g.setting.anchors → SameBut g v w (λ r. r ≡ Anchor a) → ShowsEntryIf g v a version o → ShowsEntryIf g w a version o
  entry_kept v w a version None lt s h = tt
  entry_kept v w a version (Some e) lt s h = record {
    names = names_same g v w (λ r. r ≡ Anchor a) a e lt s (λ side k. cc) h.names;
    chain = chain_same g v w (λ r. r ≡ Anchor a) a e lt s (λ k. cc) h.chain (λ j c k. cc);
    offer = h.offer;
    drawn = h.drawn;
  }

  -- A tab that is counted leaves: one reader less is counted.
  pub leave_knows : {lot : Lot} (v w : View (List ℕ)) (t a n : ℕ) (p : Plain) → Mine g v (Anchor a) → Steps g v (Leave t) n w → anchor_of (tab_at v t) ≡ a → a < g.setting.anchors → lot.anchors a ≡ true
      → KnowsLot g rename lot v p (guest_at a) → KnowsLot g rename lot w p no_guests × (n ≡ word_number (renamed_word rename (word_at (setting_of g) p a)) + 1)
  leave_knows {lot} v w t a n p mine st at lt own knows = (
    knows_all g rename w p no_guests a (but_guests g rename w p (guest_at a) no_guests a (λ b ne. sym (guest_else a b ne))
        (but_step g rename v w (Leave t) n p p (guest_at a) a st (ap places_in is) lt (same_else p a) (knows_but g rename v p (guest_at a) a knows))) here,
    found,
  )
    where
      is : place v (Leave t) ≡ Some (Anchor a)
      is = ap (λ z. Some (Anchor z)) at

      shown : ShowsAt g rename v p (guest_at a a) a
      shown = knows.each a lt own

      found : n ≡ word_number (renamed_word rename (word_at (setting_of g) p a)) + 1
      found = found_mine g v w (Leave t) n (Anchor a) st mine is ∙ shown.word ∙ ap (λ z. word_number (renamed_word rename (word_at (setting_of g) p a)) + z) (guest_here a)

      here : a < g.setting.anchors → lot.anchors a ≡ true → ShowsAt g rename w p 0 a
      here lt ours = record {
        word = has_left g v w (Leave t) n (Anchor a) st is ∙ (let f = found in omega arith);
        entry = entry_kept v w a (place_at p a).version (entry_at p a) lt (step_same g v w (Leave t) n (Anchor a) st (ap places_in is) lt) shown.entry;
      }

  -- The entry that a last tab left over is freed, and nobody comes before.
  -- whatever is done before each slot is given back
  last_by : {lot : Lot} (v u w : View (List ℕ)) (t a n : ℕ) (p : Plain) → OwnsLot g lot v.pass → lot.anchors a ≡ true → KnowsLot g rename lot v p no_guests → is_left_over_at p a ≡ true → Steps g v (Evict t a) n u → n ≡ last_find a v.trail
      → (OwnsLot g lot u.pass → EvictedAt g rename lot u a p no_guests → KnowsLot g rename lot w (vacated_at a p) no_guests) → KnowsLot g rename lot w (settle a p) no_guests
  last_by {lot} v u w t a n p owns ours knows over st won ends = let o = is_over p a over in let own = owns a st.may.allowed.0 ours in let same = pass_stays g v u (Evict t a) n st in
      subst (λ q. KnowsLot g rename lot w q no_guests) (sym (settle_gone p a over))
      (ends (lot_stays g lot v u same owns) (evict_leaves g rename v u t a n p no_guests o.entry (own.words v (Anchor a) refl refl) ours knows st won o.there o.unread refl))

  -- where nothing is done before
  freed_behind : {lot : Lot} (u w : View (List ℕ)) (a : ℕ) (p : Plain) → length p.tabs ≡ 8 → lot.anchors a ≡ true → OwnsLot g lot u.pass → Freed g u w → EvictedAt g rename lot u a p no_guests
      → KnowsLot g rename lot w (vacated_at a p) no_guests
  freed_behind u w a p eight ours owns freed e = evict_freed g rename u w a p no_guests (few_all p no_guests eight (λ b. omega arith)) owns ((owns a e.inside ours).words u (Anchor a) refl refl) e freed

  pub last_right : {lot : Lot} (v u w : View (List ℕ)) (t a n : ℕ) (p : Plain) → OwnsLot g lot v.pass → length p.tabs ≡ 8 → lot.anchors a ≡ true → KnowsLot g rename lot v p no_guests → is_left_over_at p a ≡ true → Steps g v (Evict t a) n u → n ≡ last_find a v.trail → Freed g u w
      → KnowsLot g rename lot w (settle a p) no_guests
  last_right v u w t a n p owns eight ours knows over st won freed =
      last_by v u w t a n p owns ours knows over st won (λ there e. freed_behind u w a p eight ours there freed e)

  -- what the word of an anchor tells of its entry
  pub over_known : {lot : Lot} (v : View (List ℕ)) (a : ℕ) (p : Plain) → length p.tabs ≡ 8 → a < g.setting.anchors → lot.anchors a ≡ true → KnowsLot g rename lot v p no_guests → is_left_over (has g v (Anchor a)) ≡ is_left_over_at p a
  over_known v a p eight lt own knows = left_over_there rename (setting_of g) p 0 a (has g v (Anchor a)) (knows.each a lt own).word (readers_fit p a 0 eight (omega arith)) refl

  -- the pass found its own word there last, where it left one that is left over
  won_there : (v w : View (List ℕ)) (t a n : ℕ) → Mine g v (Anchor a) → Steps g v (Evict t a) n w → last_find a v.trail ≡ has g v (Anchor a) → n ≡ last_find a v.trail
  won_there v w t a n mine st last = found_mine g v w (Evict t a) n (Anchor a) st mine refl ∙ sym last

  -- A tab that is counted leaves its anchor, which is its pass's own: of a last one nobody comes before.
  module _ (lot : Lot) (v : View (List ℕ)) (t a : ℕ) (p : Plain) (eight : length p.tabs ≡ 8) (own : OwnsAnchor g v.pass a) (ours : lot.anchors a ≡ true) (counted : is_counted (tab_at v t) ≡ true) (at : anchor_of (tab_at v t) ≡ a) (lt : a < g.setting.anchors)
      (knows : KnowsLot g rename lot v p (guest_at a)) where
    module _ (u : View (List ℕ)) (n : ℕ) (st : Steps g v (Leave t) n u) where
      knows_left : KnowsLot g rename lot u p no_guests
      knows_left = (leave_knows v u t a n p (own.words v (Anchor a) refl refl) st at lt ours knows).0

      left_is : n - 1 ≡ word_number (renamed_word rename (word_at (setting_of g) p a))
      left_is = let f = (leave_knows v u t a n p (own.words v (Anchor a) refl refl) st at lt ours knows).1 in omega arith

      over_is : is_left_over (n - 1) ≡ is_left_over_at p a
      over_is = left_over_there rename (setting_of g) p 0 a (n - 1) (let e = left_is in omega arith) (readers_fit p a 0 eight (omega arith)) refl

      find_is : last_find a u.trail ≡ n - 1
      find_is = ap (λ (z : View (List ℕ)). last_find a z.trail) st.leaves ∙ (let e = eq-eqb (anchor_of (tab_at v t)) a at in rw e refl)

      tab_left : is_left_over (n - 1) ≡ true → anchor_of (tab_at u t) ≡ a
      tab_left over = ap (λ (z : View (List ℕ)). anchor_of (tab_at z t)) st.leaves
          ∙ ap anchor_of (get_or-set_same v.tabs t (left_tab (anchor_of (tab_at v t)) (n - 1)) Free (let m = st.may.allowed.0 in let k = st.may.pass in omega arith)) ∙ (rw over at)

      mine_left : Mine g u (Anchor a)
      mine_left = own.words u (Anchor a) (pass_stays g v u (Leave t) n st) refl

      has_is : has g u (Anchor a) ≡ n - 1
      has_is = has_left g v u (Leave t) n (Anchor a) st (ap (λ z. Some (Anchor z)) at)

    gone_right : (left : Left) (w : View (List ℕ)) → Gone g v t left w → KnowsLot g rename lot w (settle a p) no_guests
    gone_right left w h = subst (λ q. KnowsLot g rename lot w q no_guests) (sym (settle_stays p a (sym (over_is w h.found h.leave) ∙ h.used))) (knows_left w h.found h.leave)

    -- the try of a last tab finds the word that the tab left
    try_wins : (left : Left) (w : View (List ℕ)) (h : LeftLast g v t left w) → h.gives_up.found ≡ last_find (anchor_of (tab_at h.middle t)) h.middle.trail
    try_wins left w h = subst (λ (b : ℕ). Steps g h.middle (Evict t b) h.gives_up.found w → h.gives_up.found ≡ last_find b h.middle.trail) (sym (tab_left h.middle h.found h.leave h.over))
        (λ st. won_there h.middle w t a h.gives_up.found (mine_left h.middle h.found h.leave) st (find_is h.middle h.found h.leave ∙ sym (has_is h.middle h.found h.leave))) h.gives_up.evict

    no_done : (w : View (List ℕ)) → LeftLast g v t Left.Done w → ⊥
    no_done w h = let e : Left.Done ≡ Left.MustFree = h.gives_up.won.1 (try_wins Left.Done w h) in cc

    pub behind_right : (w : View (List ℕ)) → Leaves g v t Left.Done w → KnowsLot g rename lot w (settle a p) no_guests
    behind_right w (inl h) = absurd (false≢true (sym (not_last (tab_at v t) counted) ∙ h.0))
    behind_right w (inr (off, inl h)) = gone_right Left.Done w h
    behind_right w (inr (off, inr h)) = absurd (no_done w h)

    -- a last tab, whatever is done before each slot is given back
    pub last_so : OwnsLot g lot v.pass → (m w : View (List ℕ)) → Leaves g v t Left.MustFree m
        → (OwnsLot g lot m.pass → EvictedAt g rename lot m a p no_guests → KnowsLot g rename lot w (vacated_at a p) no_guests)
        → KnowsLot g rename lot w (settle a p) no_guests × (is_left_over_at p a ≡ true)
    last_so owns m w (inl h) ends = absurd (false≢true (sym (not_last (tab_at v t) counted) ∙ h.0))
    last_so owns m w (inr (off, inl h)) ends = absurd (let e : Left.Done ≡ Left.MustFree = sym h.done in cc)
    last_so owns m w (inr (off, inr h)) ends =
        let over : is_left_over_at p a ≡ true = sym (over_is h.middle h.found h.leave) ∙ h.over in (
          subst (λ (b : ℕ). Steps g h.middle (Evict t b) h.gives_up.found m → KnowsLot g rename lot w (settle a p) no_guests) (sym (tab_left h.middle h.found h.leave h.over))
              (λ st. last_by h.middle m w t a h.gives_up.found p (lot_stays g lot v h.middle (pass_stays g v h.middle (Leave t) h.found h.leave) owns) ours (knows_left h.middle h.found h.leave) over st
              (won_there h.middle m t a h.gives_up.found (mine_left h.middle h.found h.leave) st (find_is h.middle h.found h.leave ∙ sym (has_is h.middle h.found h.leave))) ends) h.gives_up.evict,
          over,
        )

    pub last_freed_right : OwnsLot g lot v.pass → (m w : View (List ℕ)) → Leaves g v t Left.MustFree m → Freed g m w → KnowsLot g rename lot w (settle a p) no_guests
    last_freed_right owns m w leaves freed = (last_so owns m w leaves (λ there e. freed_behind m w a p eight ours there freed e)).0

    -- a tab that left an entry which is in use; nobody else comes before it
    pub others_right : (w : View (List ℕ)) → LeftInUse g t v w ⊎ WasOvertaken g t v w → KnowsLot g rename lot w (settle a p) no_guests × (is_left_over_at p a ≡ false)
    others_right w (inl h) =
        let stays : is_left_over_at p a ≡ false = sym (over_is w h.found h.leave) ∙ used_stays (h.found - 1) h.used in
        (subst (λ q. KnowsLot g rename lot w q no_guests) (sym (settle_stays p a stays)) (knows_left w h.found h.leave), stays)
    others_right w (inr h) = absurd (h.differs (won_there h.middle w t a h.other (mine_left h.middle h.found h.leave) (subst (λ (b : ℕ). Steps g h.middle (Evict t b) h.other w) at h.tries)
        (find_is h.middle h.found h.leave ∙ sym (has_is h.middle h.found h.leave)) ∙ find_is h.middle h.found h.leave))

  -- What a tab that was counted and left comes to: the plain store is settled at its anchor, and the tab is free.
  pub record LeavesRight (lot : Lot) (t a : ℕ) (p : Plain) (v w : View (List ℕ)) : Type 0 where
    pub knows : KnowsLot g rename lot w (settle a p) no_guests
    pub tabs : w.tabs ≡ with_tab v t Free
    pub free : tab_at w t ≡ Free
    pub inner_free : InnerIsFree w

  free_by : (v w : View (List ℕ)) (t : ℕ) → w.tabs ≡ with_tab v t Free → tab_at w t ≡ Free
  free_by v w t tabs = ap (λ (xs : List (Tab (List ℕ))). get_or xs t Free) tabs ∙ set_free v.tabs t

  inner_by : (v w : View (List ℕ)) (t : ℕ) → w.tabs ≡ with_tab v t Free → t < inner → InnerIsFree v → InnerIsFree w
  inner_by v w t tabs below free = ap (λ (xs : List (Tab (List ℕ))). is_free (get_or xs inner Free)) tabs ∙ ap is_free (get_or-set_other v.tabs t inner Free Free (λ e. let b = below in omega arith)) ∙ free

  parted_so : {lot : Lot} (v w : View (List ℕ)) (t a : ℕ) (p : Plain) → t < inner → InnerIsFree v → KnowsLot g rename lot w (settle a p) no_guests → w.tabs ≡ with_tab v t Free → LeavesRight lot t a p v w
  parted_so v w t a p below free knows tabs = record { knows = knows; tabs = tabs; free = free_by v w t tabs; inner_free = inner_by v w t tabs below free }

  purged_so : {lot : Lot} (v w : View (List ℕ)) (a : ℕ) (p : Plain) → KnowsLot g rename lot w (settle a p) no_guests → w.tabs ≡ with_tab v inner Free → LeavesRight lot inner a p v w
  purged_so v w a p knows tabs = record { knows = knows; tabs = tabs; free = free_by v w inner tabs; inner_free = ap is_free (free_by v w inner tabs) }

  -- A tab below the inner one that reads or retreats parts from its anchor.
  pub parts_right : {lot : Lot} (v w : View (List ℕ)) (t a : ℕ) (p : Plain) → OwnsLot g lot v.pass → length p.tabs ≡ 8 → IsPass v → t < inner → InnerIsFree v → is_counted (tab_at v t) ≡ true → anchor_of (tab_at v t) ≡ a → a < g.setting.anchors
      → lot.anchors a ≡ true → KnowsLot g rename lot v p (guest_at a) → Parted g t v w → LeavesRight lot t a p v w
  parts_right {lot} v w t a p owns eight pass below free counted at lt ours knows (inl h) = parted_so v w t a p below free (behind_right lot v t a p eight (owns a lt ours) ours counted at lt knows w h.leaves) (done_tabs g t v counted w h.leaves)
  parts_right {lot} v w t a p owns eight pass below free counted at lt ours knows (inr h) = parted_so v w t a p below free (last_freed_right lot v t a p eight (owns a lt ours) ours counted at lt knows owns h.middle w h.leaves h.freed) (freed_tabs g t v counted (inl free) h.middle w h.leaves h.freed)

  -- The inner tab, by which an entry is purged, parts from its anchor.
  pub purge_parts_right : {lot : Lot} (v w : View (List ℕ)) (a : ℕ) (p : Plain) → OwnsLot g lot v.pass → length p.tabs ≡ 8 → is_counted (tab_at v inner) ≡ true → anchor_of (tab_at v inner) ≡ a → a < g.setting.anchors
      → lot.anchors a ≡ true → KnowsLot g rename lot v p (guest_at a) → Parted g inner v w → LeavesRight lot inner a p v w
  purge_parts_right {lot} v w a p owns eight counted at lt ours knows (inl h) = purged_so v w a p (behind_right lot v inner a p eight (owns a lt ours) ours counted at lt knows w h.leaves) (done_tabs g inner v counted w h.leaves)
  purge_parts_right {lot} v w a p owns eight counted at lt ours knows (inr h) = purged_so v w a p (last_freed_right lot v inner a p eight (owns a lt ours) ours counted at lt knows owns h.middle w h.leaves h.freed) (freed_tabs g inner v counted (inr refl) h.middle w h.leaves h.freed)

  -- So it does where it wipes the entry, or leaves it to others.
  pub wipe_parts_right : {lot : Lot} (v last w : View (List ℕ)) (a : ℕ) (p : Plain) (done : Bool) → OwnsLot g lot v.pass → length p.tabs ≡ 8 → is_counted (tab_at v inner) ≡ true → anchor_of (tab_at v inner) ≡ a → a < g.setting.anchors
      → lot.anchors a ≡ true → KnowsLot g rename lot v p (guest_at a) → Leaves g v inner Left.MustFree last → WipedAndFreed g done last w → KnowsLot g rename lot w (settle a p) no_guests × (is_left_over_at p a ≡ true)
  wipe_parts_right {lot} v last w a p done owns eight counted at lt ours knows leaves h = last_so lot v inner a p eight (owns a lt ours) ours counted at lt knows owns last w leaves
      (λ there e. freed_behind h.blanked w a p eight ours (lot_stays g lot last h.blanked (wiped_pass g last h.blanked done h.wiped) there) h.freed (evicted_wiped g rename last h.blanked a p no_guests done there ours h.wiped e))

  pub others_part_right : {lot : Lot} (v w : View (List ℕ)) (a : ℕ) (p : Plain) → OwnsLot g lot v.pass → length p.tabs ≡ 8 → is_counted (tab_at v inner) ≡ true → anchor_of (tab_at v inner) ≡ a → a < g.setting.anchors
      → lot.anchors a ≡ true → KnowsLot g rename lot v p (guest_at a) → LeftInUse g inner v w ⊎ WasOvertaken g inner v w → KnowsLot g rename lot w (settle a p) no_guests × (is_left_over_at p a ≡ false)
  others_part_right {lot} v w a p owns eight counted at lt ours knows why = others_right lot v inner a p eight (owns a lt ours) ours counted at lt knows w why

  -- A tab raised its entry to an end, and parts from it. It is last exactly where the entry is left over.
  pub writer_parts_right : {lot : Lot} (v w : View (List ℕ)) (t a : ℕ) (p : Plain) → OwnsLot g lot v.pass → length p.tabs ≡ 8 → a < g.setting.anchors → lot.anchors a ≡ true → KnowsLot g rename lot v p no_guests → is_last (tab_at v t) ≡ is_left_over_at p a
      → (is_last (tab_at v t) ≡ true → (anchor_of (tab_at v t) ≡ a) × (last_find a v.trail ≡ has g v (Anchor a))) → WriterParted g t v w → KnowsLot g rename lot w (settle a p) no_guests
  writer_parts_right {lot} v w t a p owns eight lt ours knows same last parted = by_parting parted.parting
    where
      mine : Mine g v (Anchor a)
      mine = (owns a lt ours).words v (Anchor a) refl refl

      tried : (left : Left) (u : View (List ℕ)) → is_last (tab_at v t) ≡ true → (h : TriedToFree g v t left u) → Steps g v (Evict t a) h.found u
      tried left u was h = subst (λ (b : ℕ). Steps g v (Evict t b) h.found u) (last was).0 h.evict

      wins : (left : Left) (u : View (List ℕ)) → (was : is_last (tab_at v t) ≡ true) → (h : TriedToFree g v t left u) → h.found ≡ last_find (anchor_of (tab_at v t)) v.trail
      wins left u was h = won_there v u t a h.found mine (tried left u was h) (last was).1 ∙ ap (λ b. last_find b v.trail) (sym (last was).0)

      by_parting : Stayed g t v w ⊎ LeftToOther g t v w ⊎ FreedLast g t v w → KnowsLot g rename lot w (settle a p) no_guests
      by_parting (inl h) = subst (λ q. KnowsLot g rename lot w q no_guests) (sym (settle_stays p a (sym same ∙ h.used))) (subst (λ (z : View (List ℕ)). KnowsLot g rename lot z p no_guests) (sym h.same) knows)
      by_parting (inr (inl h)) = absurd (let e : Left.Done ≡ Left.MustFree = h.gives_up.won.1 (wins Left.Done w h.was h.gives_up) in cc)
      by_parting (inr (inr h)) = last_right v h.middle w t a h.gives_up.found p owns eight ours knows (sym same ∙ h.was) (tried Left.MustFree h.middle h.was h.gives_up)
          (won_there v h.middle t a h.gives_up.found mine (tried Left.MustFree h.middle h.was h.gives_up) (last h.was).1) h.freed

  -- the same, of the tab that a step to CLOSED or HALTED left
  pub raised_parts_right : {lot : Lot} (u v w : View (List ℕ)) (t a n : ℕ) (to : Stage) (x : Writer (List ℕ)) (p : Plain) → OwnsLot g lot v.pass → length p.tabs ≡ 8 → Steps g u (Raise t to) n v → (to ≡ stage.Closed) ⊎ (to ≡ stage.Halted) → tab_at u t ≡ Writing x
      → x.anchor ≡ a → a < g.setting.anchors → lot.anchors a ≡ true → KnowsLot g rename lot v p no_guests → WriterParted g t v w → KnowsLot g rename lot w (settle a p) no_guests
  raised_parts_right {lot} u v w t a n to x p owns eight st ended is at lt ours knows parted = writer_parts_right v w t a p owns eight lt ours knows
      (ap is_last tab ∙ last_if (is_left_over left) ∙ over) (λ was. (ap anchor_of tab ∙ anchor_if (is_left_over left) (sym (last_if (is_left_over left)) ∙ ap is_last (sym tab) ∙ was), find ∙ sym left_there)) parted
    where
      left : ℕ
      left = left_by u (Raise t to) n

      at_tab : anchor_of (tab_at u t) ≡ a
      at_tab = ap anchor_of is ∙ at

      left_there : has g v (Anchor a) ≡ left
      left_there = has_left g u v (Raise t to) n (Anchor a) st (ap (λ z. Some (Anchor z)) at_tab)

      over : is_left_over left ≡ is_left_over_at p a
      over = ap is_left_over (sym left_there) ∙ over_known v a p eight lt ours knows

      find : last_find a v.trail ≡ left
      find = ap (λ (z : View (List ℕ)). last_find a z.trail) st.leaves ∙ (let e = eq-eqb (anchor_of (tab_at u t)) a at_tab in rw e refl)

      ended_tab : (to ≡ stage.Closed) ⊎ (to ≡ stage.Halted) → raised_tab (Writing x) to left ≡ left_tab x.anchor left
      ended_tab (inl e) = rw e refl
      ended_tab (inr e) = rw e refl

      tab : tab_at v t ≡ left_tab a left
      tab = ap (λ (z : View (List ℕ)). tab_at z t) st.leaves ∙ get_or-set_same u.tabs t (raised_tab (tab_at u t) to left) Free (let m = st.may.allowed.0 in let k = st.may.pass in omega arith)
          ∙ ap (λ (z : Tab (List ℕ)). raised_tab z to left) is ∙ ended_tab ended ∙ ap (λ b. left_tab b left) at

      last_if : (b : Bool) → is_last {X = List ℕ} (cond b (Last a) Free) ≡ b
      last_if true = refl
      last_if false = refl

      anchor_if : (b : Bool) → b ≡ true → anchor_of {X = List ℕ} (cond b (Last a) Free) ≡ a
      anchor_if true e = refl
      anchor_if false e = absurd (false≢true e)

  -- Where no tab is the last user of an entry, none is left over.
  pub none_left_over : {lot : Lot} (v : View (List ℕ)) (p : Plain) (a : ℕ) → OwnsAnchor g v.pass a → length p.tabs ≡ 8 → Stands g v → IsPass v → ((t : ℕ) → tab_at v t ≡ Last a → ⊥) → a < g.setting.anchors → lot.anchors a ≡ true → KnowsLot g rename lot v p no_guests
      → is_left_over_at p a ≡ false
  none_left_over v p a own eight st pass no_last lt ours knows = decide (is_left_over_at p a) refl
    where
      over_there : is_left_over_at p a ≡ true → is_left_over (word st.state a) ≡ true
      over_there e = ap is_left_over (own.stands v st (Anchor a) refl pass refl lt) ∙ over_known v a p eight lt ours knows ∙ e

      none : is_left_over_at p a ≡ true → ⊥
      none e = let x = st.rule.sound.anchors.lasts a lt (over_there e) in
          let y = own.tabs v st x.i x.t (Last a) refl pass record { view = x.view; at = x.at; there = x.last } refl refl in
          no_last x.t (at_or v.tabs x.t (Last a) Free y.1)

      decide : (b : Bool) → is_left_over_at p a ≡ b → is_left_over_at p a ≡ false
      decide true e = absurd (none e)
      decide false e = e
