-- The entry that stands closed at an anchor of a store that was closed.
use Rattle.std.proofs.Common.{◌≡◌, ◌⊎◌, inl, inr, ⊎_elim, ◌-◌, ◌<◌, ◌≤◌, ◌^◌, ℕ, zero, suc, List, [], ◌∷◌, Option, Some, None, Bool, true, false, IsTrue, Contains, length, map, refl, sym, ap, subst, ◌∙◌, arith}
use Rattle.std.specs.Prelude.{slice_index_or}
use Rattle.std.proofs.lemmas.List.{length-map}
use mathlib.Core.Option.{some}
use mathlib.Core.Logic.{dite}
use native.Mathlib.Decide.{ℕ_discrete}
use lib.ListN.{get_elem?}
use Rattle.std.specs.Global.{Vec}
use Rattle.store_key.specs.Anchor.{anchor_of}
use Rattle.lock_word.specs.Words.{epoch_of, stage_of, version_of}
use Rattle.link_word.specs.declared.link.Link.TheVariants.{Last}
use Rattle.rock_disk.specs.Cell.{CellState}
use Rattle.rebuild_model.specs.declared.found.Found.{Found}
use Rattle.rebuild_model.specs.Entry.{Entry, found_of}
use Rattle.rebuild_model.specs.Image.{image_at}
use Rattle.rebuild_model.specs.Rebuilt.{IsRebuilt, IsWinner}
use Rattle.core_model.specs.declared.chain.Chain.{Chain}
use Rattle.core_model.specs.declared.tab.Cell.{Cell}
use Rattle.core_model.specs.declared.moves.Side.TheVariants.{Offer}
use Rattle.core_model.specs.declared.view.Sight.TheVariants.{Named}
use Rattle.core_model.specs.declared.view.View.{View}
use Rattle.core_model.specs.Anchors.{opening_counter}
use Rattle.core_model.specs.Cells.{IsHeldCell}
use Rattle.core_model.specs.Offers.{IsOldEntry}
use Rattle.core_model.specs.Opening.{IsKeptAt}
use Rattle.core_model.specs.Slots.{ChainStands, slot_words}
use Rattle.core_model.specs.State.{State, chain_of, word}
use Rattle.core_model.proofs.DeedsTell.{known_old}
use Rattle.core_model.proofs.Lists.{cons_contains, contains_none}
use Rattle.core_model.proofs.SlotsOpened.{contains_map, map_contains}
use Rattle.core_model.proofs.Spelling.{last_is_written, some_fits}
use Rattle.core_model.proofs.Telling.{stage_told}
use Rattle.core_log.specs.Logged.{IsFast}
use Rattle.crash_entries.proofs.Telling.{Tools}
use Rattle.crash_laws.specs.Left.{StandsOld, entry_at}
use Rattle.crash_laws.proofs.Crashing.{a_cell}
use Rattle.crash_laws.proofs.Standing.{HasContents, StandsWhole, inside, left_content, new_wins, old_wins}
use Rattle.store_rule.specs.declared.store.Pass.{Pass}
use Rattle.store_rule.specs.declared.store.Store.{Store}
use Rattle.store_rule.specs.Closing.{Closed}
use Rattle.store_rule.specs.Ground.{Ground, Offers, Rule, offering_of}
use Rattle.store_rule.specs.Passes.{basis}
use Rattle.store_rule.specs.Rebuilding.{opened_state}
use Rattle.store_rule.specs.Setting.{shown}
use Rattle.rock_open.specs.Opening.{IsStoreOver}
use Rattle.rock_writer.specs.Durable.{LoggedWhole}
use Rattle.rock_writer.specs.Entries.{Entry as Written}
use Rattle.crashed_stores.specs.Finished.{AreSeen}
use Rattle.crashed_stores.specs.Left.{IsLeftOf, bytes_now, offers_in}
use Rattle.crashed_stores.specs.Standing.{HaveEntry, IsLasting, offer_at}
use Rattle.crashed_stores.proofs.Closed.{none_held, told_left}
use Rattle.crashed_stores.proofs.Durable.{whole}
use Rattle.crashed_stores.proofs.Finished.{finished_durable}
use Rattle.crashed_stores.proofs.Over.{is_file, keeps, rebuilt}

-- one of these entries has the anchor
record HasAt (anchors a : ℕ) (entries : List Entry) : Type 0 where
  entry : Entry
  among : Contains entries entry
  at : anchor_of entry.key anchors ≡ a

-- or none has
abbrev HasNone : (anchors a : ℕ) → List Entry → Type 0
HasNone anchors a entries = (e : Entry) → Contains entries e → anchor_of e.key anchors ≡ a → ⊥

one_or_none : (anchors a : ℕ) (entries : List Entry) → HasAt anchors a entries ⊎ HasNone anchors a entries
one_or_none anchors a [] = inr (λ e among at. contains_none e among)
one_or_none anchors a (e ∷ es) = dite (ℕ_discrete (anchor_of e.key anchors) a)
    (λ at. inl record { entry = e; among = (0, omega arith, refl); at = at })
    (λ ne. ⊎_elim
    (λ (h : HasAt anchors a es). inl record { entry = h.entry; among = (suc h.among.0, (let z = h.among.1 in omega arith), h.among.2); at = h.at })
    (λ (none : HasNone anchors a es). inr (λ f among at. ⊎_elim
    (λ (same : e ≡ f). ne (ap (λ (x : Entry). anchor_of x.key anchors) same ∙ at))
    (λ (later : Contains es f). none f later at)
    (cons_contains e f es among)))
    (one_or_none anchors a es))

-- the chain of an entry that stands closed ends, and has a slot
module _ (g : Ground (List ℕ)) (s : State (List ℕ)) (rule : Rule g s) (a : ℕ) (lt : a < g.setting.anchors) (closed : stage_of (epoch_of (word s a)) ≡ 3) where
  chain_stands : ChainStands 3 ((slot_words g.setting s.words).start a) (slot_words g.setting s.words).link (chain_of s a)
  chain_stands = subst (λ (z : ℕ). ChainStands z ((slot_words g.setting s.words).start a) (slot_words g.setting s.words).link (chain_of s a))
      (stage_told g.setting s.words a lt ∙ closed) (rule.sound.slots.stand a lt)

  pub closed_end : (chain_of s a).end ≡ Last
  closed_end = chain_stands.closed refl

  pub closed_some : 0 < length (chain_of s a).slots
  closed_some = some_fits (chain_of s a).slots (chain_of s a).end chain_stands.fits (λ e. last_is_written (sym closed_end ∙ e))

-- of a told cell in a list a read gives what is shown of it
now_at : {C : Type 0} → (cell : C → CellState) (cells : List C) (j : ℕ) (c : Cell (List ℕ)) → slice_index_or (map (λ d. Some (shown true cell d)) cells) j None ≡ Some c
    → image_at (map (λ (d : CellState). d.now) (map cell cells)) j ≡ c.now
now_at cell [] j c e = absurd (none_at j e)
  where
    none_at : (j : ℕ) → slice_index_or [] j None ≡ Some c → ⊥
    none_at zero e = cc
    none_at (suc j) e = cc
now_at cell (d ∷ cells) zero c e = the (shown true cell d) e
  where
    the : (x : Cell (List ℕ)) → Some x ≡ Some c → x.now ≡ c.now
    the x q = cc
now_at cell (d ∷ cells) (suc j) c e = now_at cell cells j c e

-- cells that tell, in the state of their closing
module _ {C : Type 0} (cell : C → CellState) (g : Ground (List ℕ)) (views : List (View (List ℕ))) (cells : List C) (h : Closed true cell g views cells) where
  abbrev s : State (List ℕ)
  s = h.gathered.state

  abbrev images : List (List ℕ)
  images = map (λ (c : CellState). c.now) (map cell cells)

  -- what is at home in a place is there to be read
  home_now : (slot : ℕ) (c : Cell (List ℕ)) → slice_index_or s.places slot None ≡ Some c → image_at images slot ≡ c.now
  home_now slot c home = now_at cell cells slot c (subst (λ (z : List (Option (Cell (List ℕ)))). slice_index_or z slot None ≡ Some c) h.home home)

  -- A crash may leave what reads give.
  now_left : IsLeftOf g s h.gathered.rule.logged.log images
  now_left = record {
    many = length-map (map cell cells) (λ (c : CellState). c.now) ∙ length-map cells cell ∙ h.many;
    each = λ slot c lt q. ⊎_elim
        (λ (home : slice_index_or s.places slot None ≡ Some c). inl (c.now, h.gathered.rule.sound.cells.contents.possible slot c q, home_now slot c home))
        (λ (held : IsHeldCell s slot c). absurd (none_held cell g views cells h slot c held)) q;
  }

told_now : {C : Type 0} → (tells : Bool) → IsTrue tells → (cell : C → CellState) (g : Ground (List ℕ)) (views : List (View (List ℕ))) (cells : List C) (h : Closed tells cell g views cells)
    → IsLeftOf g h.gathered.state h.gathered.rule.logged.log (map (λ (c : CellState). c.now) (map cell cells))
told_now true t cell g views cells h = now_left cell g views cells h
told_now false t cell g views cells h = cc

told_home : {C : Type 0} → (tells : Bool) → IsTrue tells → (cell : C → CellState) (g : Ground (List ℕ)) (views : List (View (List ℕ))) (cells : List C) (h : Closed tells cell g views cells)
    → (slot : ℕ) (c : Cell (List ℕ)) → slice_index_or h.gathered.state.places slot None ≡ Some c → image_at (map (λ (c : CellState). c.now) (map cell cells)) slot ≡ c.now
told_home true t cell g views cells h = home_now cell g views cells h
told_home false t cell g views cells h = cc

told_free : {C : Type 0} → (tells : Bool) → IsTrue tells → (cell : C → CellState) (g : Ground (List ℕ)) (views : List (View (List ℕ))) (cells : List C) (h : Closed tells cell g views cells)
    → (slot : ℕ) (c : Cell (List ℕ)) → IsHeldCell h.gathered.state slot c → ⊥
told_free true t cell g views cells h = none_held cell g views cells h
told_free false t cell g views cells h = cc

-- An entry of which a pass that was there at the closing knew each piece as logged and durable is lasting.
module _ {C : Type 0} (tells : Bool) (cell : C → CellState) (g : Ground (List ℕ)) (views : List (View (List ℕ))) (cells : List C) (h : Closed tells cell g views cells) (e : Written) (v : View (List ℕ)) (j : ℕ)
    (at : get_elem? views j ≡ some v) (known : LoggedWhole g e v) (version_is : version_of (epoch_of (word h.gathered.state e.anchor)) ≡ e.version) where
  seen : AreSeen h.gathered.state v
  seen x there = record { i = h.gathered.index j; view = v; at = h.gathered.at j v at; seen = there }

  inside_it : e.anchor < g.setting.anchors
  inside_it = h.gathered.rule.sound.anchors.seen.inside (h.gathered.index j) v (h.gathered.at j v at) (Named e.anchor e.version Offer e.offer) known.offer

  pub known_offer : offer_at g h.gathered.state e.anchor ≡ e.offer
  known_offer = (h.gathered.rule.sound.anchors.seen.named (h.gathered.index j) v (h.gathered.at j v at) e.anchor e.version Offer e.offer known.offer version_is).0

  pub known_lasting : stage_of (epoch_of (word h.gathered.state e.anchor)) ≡ 3 → IsLasting g h.gathered.state h.gathered.rule.logged.log e.anchor
  known_lasting closed = inr (finished_durable g e v h.gathered.state h.gathered.rule known seen version_is (closed_some g h.gathered.state h.gathered.rule e.anchor inside_it closed)).durable

module _ {C O : Type 0} (tells : Bool) (told : IsTrue tells) (cell : C → CellState) (offers : O → Offers) (slot anchors many : ℕ) (origin : O) (cells : List C) (store : Store C O) (passes : Vec (Pass C))
    (over : IsStoreOver tells cell offers slot anchors many origin cells store passes) (views : List (View (List ℕ))) (left : List C) (h : Closed tells cell (basis tells cell offers store) views left)
    (t : Tools) (sized : slot < 2 ^ 32) (few : length cells ≤ 1048576) (a : ℕ) (under : a < anchors) (closed : stage_of (epoch_of (word h.gathered.state a)) ≡ 3) where
  abbrev g : Ground (List ℕ)
  g = basis tells cell offers store

  abbrev file : List (List ℕ)
  file = bytes_now cell cells

  abbrev last : State (List ℕ)
  last = h.gathered.state

  abbrev rule : Rule g last
  rule = h.gathered.rule

  lt : a < g.setting.anchors
  lt = let z = over.anchors_are in omega arith

  end : (chain_of last a).end ≡ Last
  end = closed_end g last rule a lt closed

  some_slot : 0 < length (chain_of last a).slots
  some_slot = closed_some g last rule a lt closed

  -- all that is asked for of images that a crash may leave
  module _ (images : List (List ℕ)) (crashed : IsLeftOf g last rule.logged.log images) where
    abbrev Contents : Type 0
    Contents = HasContents t slot (offers_in g) g.setting (λ x. x) file last rule.logged.log sized (let z = over.slots_are in omega arith) (is_file tells told cell offers slot anchors many origin cells store passes over) rule.sound
        rule.logged.stands.cells rule.logged.stands.links (keeps tells told cell offers slot anchors many origin cells store passes over last rule) images crashed a lt

    lasting_contents : IsLasting g last rule.logged.log a → Contents
    lasting_contents lasting = left_content t slot (offers_in g) g.setting (λ x. x) file last rule.logged.log sized (let z = over.slots_are in omega arith) (is_file tells told cell offers slot anchors many origin cells store passes over) rule.sound
        rule.logged.stands.cells rule.logged.stands.links (keeps tells told cell offers slot anchors many origin cells store passes over last rule) images crashed a lt rule.logged.stands.settled (fast lasting)
      where
        fast : IsLasting g last rule.logged.log a → (place : ℕ) → place < length (chain_of last a).slots → IsFast g.setting last rule.logged.log a place
        fast (inl old) place low = inl old
        fast (inr durable) place low = inr (durable place low)

    -- an entry of the opening
    old_stays : Contents → (e : Entry) → StandsOld slot file g.setting last a e → IsWinner slot images anchors a e
    old_stays contents e st = subst (λ (n : ℕ). IsWinner slot images n a e) over.anchors_are
        (old_wins t slot (offers_in g) g.setting (λ x. x) file last rule.logged.log sized (let z = over.slots_are in omega arith) (is_file tells told cell offers slot anchors many origin cells store passes over) rule.sound
        rule.logged.stands.cells rule.logged.stands.links (keeps tells told cell offers slot anchors many origin cells store passes over last rule) images crashed a lt contents e st)

    -- and a new one
    new_stays : Contents → opening_counter g.setting < version_of (epoch_of (word last a)) → IsWinner slot images anchors a (entry_at slot (offers_in g) g.setting last a)
    new_stays contents high = subst (λ (n : ℕ). IsWinner slot images n a (entry_at slot (offers_in g) g.setting last a)) over.anchors_are
        (new_wins t slot (offers_in g) g.setting (λ x. x) file last rule.logged.log sized (let z = over.slots_are in omega arith) (is_file tells told cell offers slot anchors many origin cells store passes over) rule.sound
        rule.logged.stands.cells rule.logged.stands.links (keeps tells told cell offers slot anchors many origin cells store passes over last rule) images crashed a lt contents
        (subst (λ (n : ℕ). StandsWhole n (offers_in g) g.setting last a) over.slot_is (whole g last rule a lt some_slot end high)))

  abbrev images_now : List (List ℕ)
  images_now = map (λ (c : CellState). c.now) (map cell left)

  -- what reads give of the slots of the entry is what is published there
  contents_now : Contents images_now (told_now tells told cell g views left h)
  contents_now place j e = let c = cell_there in (c.0.now, rule.sound.cells.contents.published a place j c.0 lt e (inl c.1), told_home tells told cell g views left h j c.0 c.1)
    where
      cell_there : (c : Cell (List ℕ)) × (slice_index_or last.places j None ≡ Some c)
      cell_there = let c = a_cell t slot (offers_in g) g.setting (λ x. x) file last rule.logged.log sized (let z = over.slots_are in omega arith) (is_file tells told cell offers slot anchors many origin cells store passes over) rule.sound
          rule.logged.stands.cells rule.logged.stands.links (keeps tells told cell offers slot anchors many origin cells store passes over last rule) j
          (inside t slot (offers_in g) g.setting (λ x. x) file last rule.logged.log sized (let z = over.slots_are in omega arith) (is_file tells told cell offers slot anchors many origin cells store passes over) rule.sound
          rule.logged.stands.cells rule.logged.stands.links (keeps tells told cell offers slot anchors many origin cells store passes over last rule) images_now (told_now tells told cell g views left h) a lt place j e) in
          (c.0, ⊎_elim (λ (home : slice_index_or last.places j None ≡ Some c.0). home) (λ (held : IsHeldCell last j c.0). absurd (told_free tells told cell g views left h j c.0 held)) c.1)

  -- An entry of the opening's file stands here.
  module _ (low : version_of (epoch_of (word last a)) ≤ opening_counter g.setting) where
    old : IsOldEntry (offering_of g) g.setting last a
    old = rule.offered.old a lt some_slot low

    is_rebuilt : IsRebuilt slot file anchors over.rebuilt
    is_rebuilt = rebuilt tells told cell offers slot anchors many origin cells store passes over

    chain_there : g.chain a ≡ (chain_of (opened_state g.setting over.rebuilt.winners) a).slots
    chain_there = ap (λ (f : ℕ → List ℕ). f a) over.opened.chain

    there : HasAt anchors a is_rebuilt.entries
    there = ⊎_elim
        (λ (q : HasAt anchors a is_rebuilt.entries). q)
        (λ (none : HasNone anchors a is_rebuilt.entries). absurd (nothing none))
        (one_or_none anchors a is_rebuilt.entries)
      where
        nothing : HasNone anchors a is_rebuilt.entries → ⊥
        nothing none =
            let empty = over.opened.opened.empty a lt (λ f c at.
            let e = contains_map found_of is_rebuilt.entries f (subst (λ (fs : List Found). Contains fs f) is_rebuilt.told c) in
            none e.0 e.1 (sym (ap (anchor_of e.0.key) over.anchors_are) ∙ ap (λ (x : Found). anchor_of x.key g.setting.anchors) e.2 ∙ at)) in
            let bare = ap length old.slots ∙ ap length (chain_there ∙ ap Chain.slots empty.chain) in
            let some = some_slot in omega arith

    abbrev e : Entry
    e = there.entry

    won : IsWinner slot file anchors a there.entry
    won = subst (λ (n : ℕ). IsWinner slot file anchors n there.entry) there.at (is_rebuilt.won there.entry there.among)

    kept : IsKeptAt g.setting (opened_state g.setting over.rebuilt.winners) a (found_of there.entry)
    kept = subst (λ (n : ℕ). IsKeptAt g.setting (opened_state g.setting over.rebuilt.winners) n (found_of there.entry)) (ap (anchor_of there.entry.key) over.anchors_are ∙ there.at)
        (over.opened.opened.kept (found_of there.entry) (subst (λ (fs : List Found). Contains fs (found_of there.entry)) (sym is_rebuilt.told) (map_contains found_of is_rebuilt.entries there.entry there.among)))

    chain_is : there.entry.chain ≡ (chain_of last a).slots
    chain_is = sym (chain_there ∙ ap Chain.slots kept.chain) ∙ sym old.slots

    version_is : there.entry.version ≡ version_of (epoch_of (word last a))
    version_is = let word_is = kept.word_is in
        let still = (known_old g.setting last rule.sound a (epoch_of (word last a)) (inl (lt, refl)) low).version in omega arith

    old_stands : StandsOld slot file g.setting last a there.entry
    old_stands = record {
      won = subst (λ (n : ℕ). IsWinner slot file n a there.entry) (sym over.anchors_are) won;
      offer = old.inside;
      version_is = version_is;
      chain_is = chain_is;
    }

    have_old : HaveEntry slot anchors g file last rule.logged.log (map cell left) a
    have_old = record {
      entry = there.entry;
      is = record { chain_is = chain_is; version_is = version_is; old = λ low. won; new = λ high. absurd (let z = old.inside in omega arith) };
      now = old_stays images_now (told_now tells told cell g views left h) contents_now there.entry old_stands;
      left = λ images crashed lasting. let is_left = told_left tells told cell g views left h images crashed in old_stays images is_left (lasting_contents images is_left lasting) there.entry old_stands;
    }

  -- An entry that was offered stands here.
  module _ (high : opening_counter g.setting < version_of (epoch_of (word last a))) where
    have_new : HaveEntry slot anchors g file last rule.logged.log (map cell left) a
    have_new = record {
      entry = entry_at slot (offers_in g) g.setting last a;
      is = record {
        chain_is = refl;
        version_is = refl;
        old = λ low. absurd (let z = rule.sound.cells.names.offers a lt some_slot high in omega arith);
        new = λ above. record { url = refl; body = refl };
      };
      now = new_stays images_now (told_now tells told cell g views left h) contents_now high;
      left = λ images crashed lasting. let is_left = told_left tells told cell g views left h images crashed in new_stays images is_left (lasting_contents images is_left lasting) high;
    }

  pub have_entry : HaveEntry slot anchors g file last rule.logged.log (map cell left) a
  have_entry = dite (ℕ_discrete (version_of (epoch_of (word last a)) - opening_counter g.setting) 0)
      (λ e. have_old (omega arith))
      (λ ne. have_new (omega arith))
