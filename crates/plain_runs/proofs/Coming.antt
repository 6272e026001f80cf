-- A tab comes to the anchor of a URL, and judges what it finds there as the plain store does.
use Rattle.std.proofs.Common.{Bool, List, None, Option, Some, [], ap, arith, get_or, get_or-set_same, length, length-drop, refl, subst, sym, true, ◌+◌, ◌++◌, ◌<◌, ◌∙◌, ◌≡◌, ◌≢◌, ◌∷◌, drop, suc, take, zero, ℕ}
use Rattle.std.specs.Int.{from_le_bytes, to_le_bytes, w64}
use Rattle.std.proofs.lemmas.List.{get_or-drop, length-take-le, take-append-drop}
use Rattle.std.proofs.lemmas.Nat.{le_bytes_8}
use Rattle.lock_word.specs.Cause.{cause_of}
use Rattle.lock_word.specs.Life.{IsReadable}
use Rattle.lock_word.specs.Words.{epoch_number, epoch_of}
use Rattle.lock_word.specs.declared.cause.Cause.{Cause}
use Rattle.lock_word.specs.declared.cause.Cause.TheVariants.{OtherKey}
use Rattle.lock_word.specs.declared.epoch.Epoch.{Epoch}
use Rattle.store_key.specs.Anchor.{back_half, front_half}
use Rattle.store_key.specs.Key.{key_of}
use Rattle.store_key.proofs.KeyFacts.{IsBytes, key_is_bytes, key_is_long}
use Rattle.core_model.specs.AnchorMoves.{entered}
use Rattle.core_model.specs.Tabs.{anchor_of, tab_at}
use Rattle.core_model.specs.declared.moves.Move.TheVariants.{Enter, LoadSide}
use Rattle.core_model.specs.declared.moves.Side.TheVariants.{Key0, Key1}
use Rattle.core_model.specs.declared.tab.Tab.{Tab}
use Rattle.core_model.specs.declared.tab.Tab.TheVariants.{Free, Reading, Retreating}
use Rattle.core_model.specs.declared.view.Place.TheVariants.{Anchor, Beside}
use Rattle.core_model.specs.declared.view.View.{View}
use Rattle.entry_cut.specs.Content.{room_of}
use Rattle.plain_model.specs.declared.entry.Entry.{Entry}
use Rattle.plain_model.specs.declared.store.Plain.{Plain}
use Rattle.plain_model.specs.Reading.{judge}
use Rattle.plain_model.specs.Store as plain
use Rattle.plain_model.specs.Store.{entry_at, place_at, readers}
use Rattle.plain_laws.specs.Renaming.{renamed_cause, renamed_epoch}
use Rattle.store_rule.specs.Ground.{Ground}
use Rattle.store_rule.specs.Told.{Steps}
use Rattle.store_rule.specs.Words.{has}
use Rattle.store_rule.proofs.MyWords.{found_mine}
use Rattle.slice_chain.specs.Names.{KeyLoaded}
use Rattle.rock_reader.specs.Opening.{opened}
use Rattle.rock_reader.proofs.Coming.{came_tabs, entered_else, entered_readable}
use Rattle.worker_shelf.specs.Typed.{TellsKey}
use Rattle.crew_accounts.proofs.Loading.{keyed_reads, still_reads}
use Rattle.crew_accounts.proofs.OneKey.{one_key}
use Rattle.plain_runs.specs.Words.{KnowsLot, Lot, ShowsAt, ShowsEntry, ShowsEntryIf, no_guests, setting_of}
use Rattle.plain_runs.proofs.AnchorWords.{enter_knows}
use Rattle.plain_runs.proofs.Frames.{knows_same}
use Rattle.plain_runs.proofs.Judging.{entry_found, epoch_found, hits, judged_hit, judged_miss, refuses}
use Rattle.plain_runs.proofs.LeftTabs.{guest_at}
use Rattle.plain_runs.proofs.OwnAnchors.{OwnsAnchor, pass_stays}
use Rattle.plain_runs.proofs.PlainWords.{readers_fit}
use Rattle.plain_runs.proofs.QuietSteps.{front_at, front_pass, front_quiet, key_pass, key_quiet}

-- Keys of 16 bytes are one where their halves are.

take_small : (n : ℕ) (bytes : List ℕ) → IsBytes bytes → IsBytes (take n bytes)
take_small zero bytes h i = omega arith
take_small (suc n) [] h i = omega arith
take_small (suc n) (x ∷ xs) h zero = h 0
take_small (suc n) (x ∷ xs) h (suc i) = take_small n xs (λ j. h (suc j)) i

drop_small : (n : ℕ) (bytes : List ℕ) → IsBytes bytes → IsBytes (drop n bytes)
drop_small n bytes h i = subst (λ (m : ℕ). m < 256) (sym (get_or-drop n bytes i 0)) (h (n + i))

half_again : (part : List ℕ) → length part ≡ 8 → IsBytes part → to_le_bytes w64 (from_le_bytes w64 part) ≡ part
half_again part eight small = le_bytes_8 part (from_le_bytes w64 part) eight small refl

same_key : (key other : List ℕ) → length key ≡ 16 → length other ≡ 16 → IsBytes key → IsBytes other → front_half key ≡ front_half other → back_half key ≡ back_half other → key ≡ other
same_key key other long long2 small small2 front back =
    let f : take 8 key ≡ take 8 other = sym (half_again (take 8 key) (length-take-le 8 key (omega arith)) (take_small 8 key small)) ∙ ap (to_le_bytes w64) front ∙ half_again (take 8 other) (length-take-le 8 other (omega arith)) (take_small 8 other small2) in
    let a = length-drop 8 key in
    let b = length-drop 8 other in
    let g : drop 8 key ≡ drop 8 other = sym (half_again (drop 8 key) (omega arith) (drop_small 8 key small)) ∙ ap (to_le_bytes w64) back ∙ half_again (drop 8 other) (omega arith) (drop_small 8 other small2) in
    sym (take-append-drop 8 key) ∙ ap (λ l. l ++ drop 8 key) f ∙ ap (λ l. take 8 other ++ l) g ∙ take-append-drop 8 other

pub typed_key : (key url : List ℕ) → length key ≡ 16 → IsBytes key → front_half key ≡ front_half (key_of url) → back_half key ≡ back_half (key_of url) → key ≡ key_of url
typed_key key url long small front back = same_key key (key_of url) long (key_is_long url) small (key_is_bytes url) front back

-- the key of an entry that there may be
abbrev key_in : Option Entry → List ℕ
key_in None = []
key_in (Some e) = e.key

-- A tab came to the anchor, which is its pass's own and in its lot, where its pass knew the plain store of the lot, and found this epoch there.
pub record HasCome (g : Ground (List ℕ)) (rename : ℕ → ℕ) (t a : ℕ) : Type 0 where
  pub store : Plain
  pub eight : length store.tabs ≡ 8
  pub before : View (List ℕ)
  pub own : OwnsAnchor g before.pass a
  pub lot : Lot
  pub ours : lot.anchors a ≡ true
  pub knows : KnowsLot g rename lot before store no_guests
  pub found : ℕ
  pub came : View (List ℕ)
  pub enter : Steps g before (Enter t a) found came
  pub epoch : Epoch
  pub epoch_is : epoch_of found ≡ epoch_number epoch

module _ (g : Ground (List ℕ)) (rename : ℕ → ℕ) (t a : ℕ) (come : HasCome g rename t a) where
  abbrev p : Plain
  p = come.store

  abbrev v : View (List ℕ)
  v = come.before

  abbrev came : View (List ℕ)
  came = come.came

  abbrev epoch : Epoch
  epoch = come.epoch

  pub inside : a < g.setting.anchors
  inside = come.enter.may.allowed.0

  abbrev epoch_plain : Epoch
  epoch_plain = plain.epoch_of (room_of g.slot) (place_at p a)

  shows : ShowsAt g rename v p 0 a
  shows = come.knows.each a inside come.ours

  few : readers p a + 0 < 65536
  few = readers_fit p a 0 come.eight (omega arith)

  pub epoch_same : epoch ≡ renamed_epoch rename epoch_plain
  epoch_same = epoch_found g rename v p 0 a shows few come.found epoch (found_mine g v came (Enter t a) come.found (Anchor a) come.enter (come.own.words v (Anchor a) refl refl) refl) come.epoch_is

  pub version_same : epoch.version ≡ rename (place_at p a).version
  version_same = ap Epoch.version epoch_same

  pub undoomed : IsReadable epoch → (place_at p a).doom ≡ Bool.false
  undoomed h = sym (ap Epoch.doom epoch_same) ∙ h.1

  pub came_knows : KnowsLot g rename come.lot came p (guest_at a)
  came_knows = enter_knows g rename v came p t a come.found (come.own.words v (Anchor a) refl refl) come.knows come.enter

  came_pass : came.pass ≡ v.pass
  came_pass = pass_stays g v came (Enter t a) come.found come.enter

  came_tab : tab_at came t ≡ entered a (epoch_number epoch)
  came_tab = ap (λ (xs : List (Tab (List ℕ))). get_or xs t Free) (came_tabs g v came t a come.found come.enter)
      ∙ get_or-set_same v.tabs t (entered a (epoch_of come.found)) Free (let nine = come.enter.may.pass in let low = come.enter.may.allowed.1 in omega arith) ∙ ap (entered a) come.epoch_is

  pub retreats : (IsReadable epoch → ⊥) → tab_at came t ≡ Retreating a
  retreats h = came_tab ∙ entered_else a epoch h

  pub reads : IsReadable epoch → tab_at came t ≡ Reading (opened a epoch.version)
  reads h = came_tab ∙ entered_readable a epoch h

  -- where there was nothing to read, the plain store finds nothing, for the same cause
  pub away_judged : (wanted : List ℕ) (c : Cause) → ((key : List ℕ) → cause_of epoch key wanted ≡ Some c) → (d : Cause) × (judge (setting_of g) p a wanted ≡ Some d) × (c ≡ renamed_cause rename d)
  away_judged wanted c is = judged_miss g rename v p 0 a shows few epoch epoch_same (key_in (entry_at p a)) wanted (λ x there. sym (ap key_in there)) c (is (key_in (entry_at p a)))

  module _ (readable : IsReadable epoch) where
    pub entry : Entry
    entry = (entry_found g rename v p 0 a shows few epoch epoch_same readable).0

    pub entry_there : entry_at p a ≡ Some entry
    unfolding entry
    entry_there = (entry_found g rename v p 0 a shows few epoch epoch_same readable).1

    -- what the pass knows of the entry while nothing changes
    pub shown : (u : View (List ℕ)) (n : ℕ → ℕ) → KnowsLot g rename come.lot u p n → ShowsEntry g u a (place_at p a).version entry
    shown u n k = subst (ShowsEntryIf g u a (place_at p a).version) entry_there (k.each a inside come.ours).entry

    came_at : anchor_of (tab_at came t) ≡ a
    came_at = ap anchor_of (reads readable)

    module _ (key : List ℕ) (keyed : View (List ℕ)) (loaded : KeyLoaded g t came key keyed) where
      pub keyed_knows : KnowsLot g rename come.lot keyed p (guest_at a)
      keyed_knows = knows_same g rename came keyed p (guest_at a) came_knows (key_quiet g v.pass a come.own t came key keyed came_pass came_at loaded)

      pub keyed_tab : tab_at keyed t ≡ Reading (opened a epoch.version)
      keyed_tab = keyed_reads g came keyed t (opened a epoch.version) (reads readable) key loaded

      pub keyed_pass : keyed.pass ≡ v.pass
      keyed_pass = key_pass g v.pass a come.own t came key keyed came_pass came_at loaded

      pub keyed_at : anchor_of (tab_at keyed t) ≡ a
      keyed_at = ap anchor_of keyed_tab

      middle_knows : KnowsLot g rename come.lot loaded.middle p (guest_at a)
      middle_knows = knows_same g rename came loaded.middle p (guest_at a) came_knows (front_quiet g v.pass a come.own t came key keyed came_pass came_at loaded)

      front_is : front_half key ≡ front_half entry.key
      front_is = found_mine g came loaded.middle (LoadSide t Key0) (front_half key) (Beside Key0 (anchor_of (tab_at came t))) loaded.front
          (come.own.words came (Beside Key0 (anchor_of (tab_at came t))) came_pass came_at) refl
          ∙ ap (λ (x : Tab (List ℕ)). has g came (Beside Key0 (anchor_of x))) (reads readable) ∙ (shown came (guest_at a) came_knows).names.key0

      back_is : back_half key ≡ back_half entry.key
      back_is = found_mine g loaded.middle keyed (LoadSide t Key1) (back_half key) (Beside Key1 (anchor_of (tab_at loaded.middle t))) loaded.back
          (come.own.words loaded.middle (Beside Key1 (anchor_of (tab_at loaded.middle t)))
          (front_pass g v.pass a come.own t came key keyed came_pass came_at loaded) (front_at g v.pass a come.own t came key keyed came_pass came_at loaded)) refl
          ∙ ap (λ (x : Tab (List ℕ)). has g loaded.middle (Beside Key1 (anchor_of x))) (still_reads g came loaded.middle t (opened a epoch.version) (reads readable) Key0 (front_half key) (λ z. cc) loaded.front)
          ∙ (shown loaded.middle (guest_at a) middle_knows).names.key1

      key_kept : entry.key ≡ key_of entry.url
      key_kept = (shown came (guest_at a) came_knows).offer.key

      kept_one : (other : List ℕ) → entry.key ≡ other → (x : Entry) → entry_at p a ≡ Some x → x.key ≡ other
      kept_one other e x there = sym (ap key_in there) ∙ ap key_in entry_there ∙ e

      -- It has the wanted key: the plain store opens it.
      module _ (url : List ℕ) (wanted : key ≡ key_of url) where
        pub key_hit : entry.key ≡ key_of url
        key_hit = key_kept ∙ one_key entry.url url (sym (ap front_half key_kept) ∙ sym front_is ∙ ap front_half wanted) (sym (ap back_half key_kept) ∙ sym back_is ∙ ap back_half wanted)

        pub hit_judged : judge (setting_of g) p a (key_of url) ≡ None
        hit_judged = judged_hit g rename v p 0 a shows few epoch epoch_same (key_of url) (key_of url) (kept_one (key_of url) key_hit) (hits epoch (key_of url) (key_of url) refl readable)

      -- It has another one.
      other_tells : (wanted : List ℕ) (c : Cause) → key ≢ wanted → cause_of epoch key wanted ≡ Some c → c ≡ OtherKey epoch key
      other_tells wanted c ne is = let e : Some c ≡ Some (OtherKey epoch key) = sym is ∙ refuses epoch key wanted ne readable in cc

      key_same : (c : Cause) → c ≡ OtherKey epoch key → TellsKey c → key ≡ entry.key
      key_same c is fits = let typed = subst TellsKey is fits in
          typed_key key entry.url typed.0 typed.1 (front_is ∙ ap front_half key_kept) (back_is ∙ ap back_half key_kept) ∙ sym key_kept

      pub other_judged : (wanted : List ℕ) (c : Cause) → TellsKey c → key ≢ wanted → cause_of epoch key wanted ≡ Some c → (d : Cause) × (judge (setting_of g) p a wanted ≡ Some d) × (c ≡ renamed_cause rename d)
      other_judged wanted c fits ne is = judged_miss g rename v p 0 a shows few epoch epoch_same key wanted (kept_one key (sym (key_same c (other_tells wanted c ne is) fits))) c is
