-- The word of one anchor changes: a tab comes to it, an entry is doomed, and who comes or goes is counted with the tabs of the plain store.
use Rattle.std.proofs.Common.{Bool, List, Some, ap, arith, cond, eq-eqb, false, get_or-set_same, length, ne_eqb, refl, subst, suc, sym, true, zero, ◌*◌, ◌+◌, ◌<◌, ◌∙◌, ◌≡◌, ◌≢◌, ℕ}
use Rattle.lock_word.specs.Words.{doom_number, doom_of, doomed, epoch_number, epoch_of, word_number}
use Rattle.lock_word.specs.declared.epoch.Epoch.{Epoch}
use Rattle.lock_word.proofs.Dooming.{doomed-undoomed}
use Rattle.core_model.specs.Table.{place}
use Rattle.core_model.specs.Tabs as core
use Rattle.core_model.specs.declared.moves.Move.TheVariants.{Doom, Enter}
use Rattle.core_model.specs.declared.view.Place.TheVariants.{Anchor}
use Rattle.core_model.specs.declared.view.View.{View}
use Rattle.entry_cut.specs.Content.{room_of}
use Rattle.plain_model.specs.declared.entry.Place.{Place as PlaceOf}
use Rattle.plain_model.specs.declared.store.Plain.{Plain}
use Rattle.plain_model.specs.declared.store.Tab.{Tab}
use Rattle.plain_model.specs.declared.store.Tab.TheVariants.{Free, Reading}
use Rattle.plain_model.specs.Place as plain_place
use Rattle.plain_model.specs.Place.{nothing}
use Rattle.plain_model.specs.Reading.{doom_at}
use Rattle.plain_model.specs.Store as plain
use Rattle.plain_model.specs.Store.{entry_at, place_at, reads_at, readers, tab_at, with_tab, word_at}
use Rattle.plain_laws.specs.Renaming.{renamed_epoch, renamed_word}
use Rattle.store_rule.specs.Ground.{Ground}
use Rattle.store_rule.specs.Told.{Steps}
use Rattle.store_rule.specs.Words.{Mine}
use Rattle.core_alone.specs.Touched.{places_in}
use Rattle.store_rule.proofs.AddingUp.{has_left}
use Rattle.store_rule.proofs.MyWords.{found_mine}
use Rattle.plain_runs.specs.Words.{KnowsLot, Lot, ShowsAt, ShowsEntryIf, no_guests, setting_of}
use Rattle.plain_runs.proofs.Frames.{same_none, step_same}
use Rattle.plain_runs.proofs.Freeing.{SameElse, but_guests, but_moved, but_step, knows_all, knows_but, put_else, same_else}
use Rattle.plain_runs.proofs.LeftTabs.{entry_kept, guest_at, guest_else, guest_here}
use Rattle.plain_runs.proofs.PlainWords.{doom_there, epoch_counted, readers_put}

module _ (g : Ground (List ℕ)) (rename : ℕ → ℕ) where
  -- a tab came to the anchor
  pub enter_knows : {lot : Lot} (v w : View (List ℕ)) (p : Plain) (t a n : ℕ) → Mine g v (Anchor a) → KnowsLot g rename lot v p no_guests → Steps g v (Enter t a) n w → KnowsLot g rename lot w p (guest_at a)
  enter_knows {lot} v w p t a n mine k st = knows_all g rename w p (guest_at a) a (but_guests g rename w p no_guests (guest_at a) a (λ b ne. guest_else a b ne)
      (but_step g rename v w (Enter t a) n p p no_guests a st refl st.may.allowed.0 (same_else p a) (knows_but g rename v p no_guests a k))) here
    where
      one_more : n ≡ word_number (renamed_word rename (word_at (setting_of g) p a)) + 0 → n + 1 ≡ word_number (renamed_word rename (word_at (setting_of g) p a)) + guest_at a a
      one_more e = let one = guest_here a in omega arith

      here : a < g.setting.anchors → lot.anchors a ≡ true → ShowsAt g rename w p (guest_at a a) a
      here lt own = record {
        word = has_left g v w (Enter t a) n (Anchor a) st refl ∙ one_more (found_mine g v w (Enter t a) n (Anchor a) st mine refl ∙ (k.each a lt own).word);
        entry = entry_kept g rename v w a (place_at p a).version (entry_at p a) lt (step_same g v w (Enter t a) n (Anchor a) st refl lt) (k.each a lt own).entry;
      }

  -- the word of an anchor, with another number of readers
  readers_more : (p q : Plain) (a n m : ℕ) → place_at q a ≡ place_at p a → readers p a + n ≡ readers q a + m
      → word_number (renamed_word rename (word_at (setting_of g) p a)) + n ≡ word_number (renamed_word rename (word_at (setting_of g) q a)) + m
  readers_more p q a n m there counted =
      let e : epoch_number (renamed_epoch rename (plain.epoch_of (room_of g.slot) (place_at q a))) ≡ epoch_number (renamed_epoch rename (plain.epoch_of (room_of g.slot) (place_at p a))) =
      ap (λ (x : PlaceOf). epoch_number (renamed_epoch rename (plain.epoch_of (room_of g.slot) x))) there in
      sums (epoch_number (renamed_epoch rename (plain.epoch_of (room_of g.slot) (place_at p a)))) (epoch_number (renamed_epoch rename (plain.epoch_of (room_of g.slot) (place_at q a)))) (readers p a) n (readers q a) m e counted
    where
      sums : (e f r n x m : ℕ) → f ≡ e → r + n ≡ x + m → 65536 * e + r + n ≡ 65536 * f + x + m
      sums e f r n x m same counted = omega arith

  -- Readers of the anchor that are counted beside those of the plain store are some of its own, or the other way round.
  module _ (v : View (List ℕ)) (p q : Plain) (guests more : ℕ → ℕ) (a : ℕ) (s : SameElse p q a) (there : place_at q a ≡ place_at p a) (others : (b : ℕ) → b ≢ a → more b ≡ guests b) (counted : readers p a + guests a ≡ readers q a + more a) where
    here_too : ShowsAt g rename v p (guests a) a → ShowsAt g rename v q (more a) a
    here_too h = record {
      word = h.word ∙ readers_more p q a (guests a) (more a) there counted;
      entry = subst (λ (x : PlaceOf). ShowsEntryIf g v a x.version x.entry) (sym there) h.entry;
    }

    pub counted_knows : {lot : Lot} → KnowsLot g rename lot v p guests → KnowsLot g rename lot v q more
    counted_knows k = knows_all g rename v q more a (but_guests g rename v q guests more a others
        (but_moved g rename v v (λ z. ⊥) p q guests a (same_none g v (λ z. ⊥)) s (λ none. none) (λ b lt own ne. record { word = λ none. none; sides = λ side none. none; links = λ e x chain j c none. none }) (knows_but g rename v p guests a k)))
        (λ lt own. here_too (k.each a lt own))

  module _ (v : View (List ℕ)) (p : Plain) (t a given : ℕ) (other : Bool) (eight : length p.tabs ≡ 8) (lt : t < 8) where
    read_else : (b : ℕ) → b ≢ a → cond (reads_at b (Reading a given other)) 1 0 ≡ zero
    read_else b ne = ap (λ (y : Bool). cond y 1 0) (ne_eqb a b (λ e. ne (sym e)))

    read_here : cond (reads_at a (Reading a given other)) 1 0 ≡ suc zero
    read_here = ap (λ (y : Bool). cond y 1 0) (eq-eqb a a refl)

    -- it reads there in the plain store too
    pub opened_knows : {lot : Lot} → tab_at p t ≡ Free → KnowsLot g rename lot v p (guest_at a) → KnowsLot g rename lot v (with_tab p t (Reading a given other)) no_guests
    opened_knows free k = counted_knows v p (with_tab p t (Reading a given other)) (guest_at a) no_guests a
        record { counter = refl; many = refl; places = λ b ne. refl; readers = λ b ne. let c = count b in let z = read_else b ne in let f = none b in omega arith }
        refl (λ b ne. sym (guest_else a b ne)) (let c = count a in let z = read_here in let f = none a in let h = guest_here a in omega arith) k
      where
        count : (b : ℕ) → readers (with_tab p t (Reading a given other)) b + cond (reads_at b (tab_at p t)) 1 0 ≡ readers p b + cond (reads_at b (Reading a given other)) 1 0
        count b = readers_put p t b (Reading a given other) (omega arith)

        none : (b : ℕ) → cond (reads_at b (tab_at p t)) 1 0 ≡ zero
        none b = ap (λ (y : Tab). cond (reads_at b y) 1 0) free

    -- it reads there no longer, and is counted still
    pub closed_knows : {lot : Lot} → tab_at p t ≡ Reading a given other → KnowsLot g rename lot v p no_guests → KnowsLot g rename lot v (with_tab p t Free) (guest_at a)
    closed_knows reads k = counted_knows v p (with_tab p t Free) no_guests (guest_at a) a
        record { counter = refl; many = refl; places = λ b ne. refl; readers = λ b ne. let c = count b in let z = read_else b ne in let f = same b in omega arith }
        refl (λ b ne. guest_else a b ne) (let c = count a in let z = read_here in let f = same a in let h = guest_here a in omega arith) k
      where
        count : (b : ℕ) → readers (with_tab p t Free) b + cond (reads_at b (tab_at p t)) 1 0 ≡ readers p b + 0
        count b = readers_put p t b Free (omega arith)

        same : (b : ℕ) → ◌≡◌ {A = ℕ} (cond (reads_at b (tab_at p t)) 1 0) (cond (reads_at b (Reading a given other)) 1 0)
        same b = ap (λ (y : Tab). cond (reads_at b y) 1 0) reads

    -- it reads on there
    pub read_knows : {lot : Lot} (more : ℕ) (turned : Bool) → tab_at p t ≡ Reading a given other → KnowsLot g rename lot v p no_guests → KnowsLot g rename lot v (with_tab p t (Reading a more turned)) no_guests
    read_knows more turned reads k = counted_knows v p (with_tab p t (Reading a more turned)) no_guests no_guests a
        record { counter = refl; many = refl; places = λ b ne. refl; readers = λ b ne. let c = count b in let f = same b in omega arith }
        refl (λ b ne. refl) (let c = count a in let f = same a in omega arith) k
      where
        count : (b : ℕ) → readers (with_tab p t (Reading a more turned)) b + cond (reads_at b (tab_at p t)) 1 0 ≡ readers p b + cond (reads_at b (Reading a given other)) 1 0
        count b = readers_put p t b (Reading a more turned) (omega arith)

        same : (b : ℕ) → ◌≡◌ {A = ℕ} (cond (reads_at b (tab_at p t)) 1 0) (cond (reads_at b (Reading a given other)) 1 0)
        same b = ap (λ (y : Tab). cond (reads_at b y) 1 0) reads

  -- it doomed the entry
  module _ (lot : Lot) (v w : View (List ℕ)) (p : Plain) (t a n : ℕ) (mine : Mine g v (Anchor a)) (own : lot.anchors a ≡ true) (lt : a < g.setting.anchors) (at : core.anchor_of (core.tab_at v t) ≡ a) (undoomed : (place_at p a).doom ≡ false) (few : readers p a + 1 < 65536)
      (k : KnowsLot g rename lot v p (guest_at a)) (st : Steps g v (Doom t) n w) where
    pub doomed_there : place_at (doom_at a p) a ≡ plain_place.doomed (place_at p a)
    doomed_there = get_or-set_same p.places a (plain_place.doomed (place_at p a)) nothing (let m = k.many in omega arith)

    abbrev was : Epoch
    was = renamed_epoch rename (plain.epoch_of (room_of g.slot) (place_at p a))

    abbrev is : Epoch
    is = renamed_epoch rename (plain.epoch_of (room_of g.slot) (plain_place.doomed (place_at p a)))

    on : place v (Doom t) ≡ Some (Anchor a)
    on = ap (λ (z : ℕ). Some (Anchor z)) at

    found : n ≡ word_number (renamed_word rename (word_at (setting_of g) p a)) + guest_at a a
    found = found_mine g v w (Doom t) n (Anchor a) st mine on ∙ (k.each a lt own).word

    room : readers p a + guest_at a a < 65536
    room = let one = guest_here a in omega arith

    not_yet : doom_of (epoch_of n) ≡ 0
    not_yet = doom_there rename (setting_of g) p (guest_at a a) a n found room ∙ ap doom_number undoomed

    doomed_is : doomed n ≡ word_number record { epoch = is; readers = readers p a } + guest_at a a
    doomed_is = doomed-undoomed n not_yet ∙ sums (epoch_number was) (epoch_number is) (readers p a) n (guest_at a a) found (let d : doom_number (place_at p a).doom ≡ 0 = ap doom_number undoomed in omega arith)
      where
        sums : (e f r n m : ℕ) → n ≡ 65536 * e + r + m → f ≡ e + 8 → n + 524288 ≡ 65536 * f + r + m
        sums e f r n m is more = omega arith

    -- the epoch that the step left
    pub left_epoch : epoch_of (doomed n) ≡ epoch_number is
    left_epoch = epoch_counted record { epoch = is; readers = readers p a } (guest_at a a) (doomed n) doomed_is room

    here : ShowsAt g rename w (doom_at a p) (guest_at a a) a
    here = record {
      word = has_left g v w (Doom t) n (Anchor a) st on ∙ doomed_is
          ∙ ap (λ (x : PlaceOf). word_number record { epoch = renamed_epoch rename (plain.epoch_of (room_of g.slot) x); readers = readers p a } + guest_at a a) (sym doomed_there);
      entry = subst (λ (x : PlaceOf). ShowsEntryIf g w a x.version x.entry) (sym doomed_there) (entry_kept g rename v w a (place_at p a).version (entry_at p a) lt (step_same g v w (Doom t) n (Anchor a) st (ap places_in on) lt) (k.each a lt own).entry);
    }

    pub doom_knows : KnowsLot g rename lot w (doom_at a p) (guest_at a)
    doom_knows = knows_all g rename w (doom_at a p) (guest_at a) a
        (but_step g rename v w (Doom t) n p (doom_at a p) (guest_at a) a st (ap places_in on) lt (put_else p a (plain_place.doomed (place_at p a))) (knows_but g rename v p (guest_at a) a k)) (λ _ ours. here)
