-- A durable entry that stands, in the words of the laws on a state.
use Rattle.std.proofs.Common.{◌≡◌, ◌≢◌, inl, inr, ◌+◌, ◌-◌, ◌<◌, ◌≤◌, ◌^◌, ℕ, zero, suc, List, [], ◌∷◌, Bool, IsTrue, Contains, drop, get_or, length, refl, sym, ap, subst, ◌∙◌, arith}
use mathlib.Core.Option.{some}
use mathlib.Core.Logic.{dite}
use native.Mathlib.Decide.{ℕ_discrete}
use lib.ListN.{get_elem?}
use Rattle.std.specs.Global.{Vec}
use Rattle.link_word.specs.declared.link.Link.TheVariants.{Last as LastLink, Next, NotWritten}
use Rattle.rock_disk.specs.Cell.{CellState}
use Rattle.rebuild_model.specs.Rebuilt.{IsWinner}
use Rattle.core_model.specs.declared.chain.Chain.{Chain}
use Rattle.core_model.specs.declared.moves.Side.TheVariants.{Offer}
use Rattle.core_model.specs.declared.tab.Cell.{Cell}
use Rattle.core_model.specs.Cells.{IsCell, IsContent}
use Rattle.core_model.specs.Chains.{first_of, link_at, link_to, no_chain}
use Rattle.core_model.specs.Layout.{Setting}
use Rattle.core_model.specs.Offers.{IsNewEntry}
use Rattle.core_model.specs.Slots.{slot_words, used}
use Rattle.core_model.specs.Sound.{Sound}
use Rattle.core_model.specs.Spots.{slots_chained}
use Rattle.core_model.specs.State.{State, chain_of, side_word, word}
use Rattle.core_model.specs.Anchors.{opening_counter}
use Rattle.lock_word.specs.Words.{epoch_of, version_of}
use Rattle.core_model.proofs.Lists.{le_sum_at}
use Rattle.core_model.proofs.OffersTold.{links_new}
use Rattle.core_model.proofs.SlotsCounted.{slots_counted}
use Rattle.core_model.proofs.SlotsLoosened.{standing_few}
use Rattle.core_model.proofs.Tabs.{contains_times}
use Rattle.core_model.proofs.Telling.{told_out}
use Rattle.crash_entries.specs.Parts.{KeepsTo}
use Rattle.crash_entries.proofs.Telling.{Tools}
use Rattle.crash_laws.specs.Left.{StandsNew, entry_at, part_at, piece_at}
use Rattle.crash_laws.proofs.Standing.{StandsWhole, new_kept}
use Rattle.store_rule.specs.declared.store.Pass.{Pass}
use Rattle.store_rule.specs.declared.store.Store.{Store}
use Rattle.store_rule.specs.Ground.{Ground, Offers, Rule, offering_of}
use Rattle.store_rule.specs.Passes.{basis}
use Rattle.rock_open.specs.Opening.{IsStoreOver}
use Rattle.crashed_stores.specs.Left.{IsDurableEntry, IsLeftOf, bytes_now, offers_in}
use Rattle.crashed_stores.proofs.Over.{is_file, keeps}

-- the slot that a link behind a place names is one of the slots
named : (xs : List ℕ) (n t : ℕ) → link_to (drop n xs) LastLink ≡ Next t → Contains xs t
named [] zero t e = cc
named [] (suc n) t e = cc
named (x ∷ xs) zero t e = (0, omega arith, the e)
  where
    the : Next x ≡ Next t → x ≡ t
    the q = cc
named (x ∷ xs) (suc n) t e = let c = named xs n t e in (suc c.0, (let z = c.1 in omega arith), c.2)

is_written : (xs : List ℕ) → link_to xs LastLink ≢ NotWritten
is_written [] e = cc
is_written (x ∷ xs) e = cc

item_at : (xs : List Chain) (n : ℕ) → n < length xs → get_elem? xs n ≡ some (get_or xs n no_chain)
item_at [] n lt = absurd (omega arith)
item_at (x ∷ xs) zero lt = refl
item_at (x ∷ xs) (suc n) lt = item_at xs n (omega arith)

first_in : (xs : List ℕ) → 0 < length xs → Contains xs (first_of xs)
first_in [] lt = absurd (omega arith)
first_in (x ∷ xs) lt = (0, omega arith, refl)

module _ {X : Type 0} (k : Setting X) (s : State X) (so : Sound k s) (a : ℕ) (lt : a < k.anchors) where
  chained_low : (slot : ℕ) → Contains (chain_of s a).slots slot → slot < k.slots
  chained_low slot c = dite (ℕ_discrete (k.slots - slot) 0)
      (λ e. absurd (let z = contains_times slot (chain_of s a).slots c in let p = so.slots.places.taken slot in let f = standing_few slot s.chains a in
      let n : used ((slot_words k s.words).taken slot) ≡ 0 = ap used (told_out k.slots slot _ (omega arith)) in omega arith))
      (λ ne. omega arith)

  few_chained : length (chain_of s a).slots ≤ k.slots
  few_chained = let all = slots_counted k s so.slots in let c = le_sum_at slots_chained s.chains a (chain_of s a) (item_at s.chains a (let z = so.anchors.shaped.chains in omega arith)) in omega arith

some_inside : (xs : List ℕ) (n t : ℕ) → get_elem? xs n ≡ some t → n < length xs
some_inside [] zero t e = cc
some_inside [] (suc n) t e = cc
some_inside (x ∷ xs) zero t e = omega arith
some_inside (x ∷ xs) (suc n) t e = let r = some_inside xs n t e in omega arith

module _ (g : Ground (List ℕ)) (s : State (List ℕ)) (rule : Rule g s) (a : ℕ) (lt : a < g.setting.anchors) (some_slot : 0 < length (chain_of s a).slots) (closed : (chain_of s a).end ≡ LastLink)
    (high : opening_counter g.setting < version_of (epoch_of (word s a))) where
  new : IsNewEntry (offering_of g) g.setting s a
  new = rule.offered.new a lt some_slot high

  link_is : (place : ℕ) → link_at (chain_of s a) place ≡ link_to (drop (place + 1) (chain_of s a).slots) LastLink
  link_is place = ap (link_to (drop (place + 1) (chain_of s a).slots)) closed

  pieces_keep : (place : ℕ) → place < length (chain_of s a).slots → KeepsTo g.slot g.setting.anchors g.setting.slots (offers_in g) (part_at g.setting s a place)
  pieces_keep place under = record {
    url = new.fits.url;
    short = new.fits.short;
    anchor_is = new.fits.anchor;
    last = links_new (offering_of g) g.setting s a new place under;
    linked = λ e. is_written (drop (place + 1) (chain_of s a).slots) (sym (link_is place) ∙ e);
    version_from = (let v = high in omega arith);
    version_to = new.drawn;
    place_low = (let f = few_chained g.setting s rule.sound a lt in omega arith);
    first_low = chained_low g.setting s rule.sound a lt (first_of (chain_of s a).slots) (first_in (chain_of s a).slots some_slot);
    next_low = λ t e. chained_low g.setting s rule.sound a lt t (named (chain_of s a).slots (place + 1) t (sym (link_is place) ∙ e));
  }

  -- a new entry whose chain ends is whole
  pub whole : StandsWhole g.slot (offers_in g) g.setting s a
  whole = record {
    some_slot = some_slot;
    closed = closed;
    offer = rule.sound.cells.names.offers a lt some_slot high;
    new = high;
    keeps = pieces_keep;
  }

module _ (g : Ground (List ℕ)) (s : State (List ℕ)) (rule : Rule g s) (a : ℕ) (lt : a < g.setting.anchors) (h : IsDurableEntry g s rule.logged.log a) where
  -- of a slot of the entry a crash leaves what is published there
  pub one_content : (place slot : ℕ) (c : Cell (List ℕ)) (x : List ℕ) → get_elem? (chain_of s a).slots place ≡ some slot → IsCell s slot c → Contains c.possible x → x ≡ c.now
  one_content place slot c x at is among = image_is x (rule.logged.stands.settled a place slot c x lt at is among (inr (h.durable place (some_inside (chain_of s a).slots place slot at))))
      ∙ sym (image_is c.now (rule.sound.cells.contents.published a place slot c lt at is))
    where
      offer_is : g.setting.slots ≤ side_word g.setting s Offer a
      offer_is = rule.sound.cells.names.offers a lt h.some_slot h.new

      image_is : (y : List ℕ) → IsContent g.setting s a place slot y → y ≡ g.setting.image (piece_at g.setting s a place)
      image_is y (inl old) = absurd (let z = offer_is in let w = old.0 in omega arith)
      image_is y (inr new) = new.1

  pub stands : StandsNew g.slot (offers_in g) g.setting s rule.logged.log a
  stands = let w = whole g s rule a lt h.some_slot h.closed h.new in record {
    some_slot = w.some_slot;
    closed = w.closed;
    offer = w.offer;
    new = w.new;
    durable = h.durable;
    keeps = w.keeps;
  }

module _ {C O : Type 0} (tells : Bool) (told : IsTrue tells) (cell : C → CellState) (offers : O → Offers) (slot anchors many : ℕ) (origin : O) (cells : List C) (store : Store C O) (passes : Vec (Pass C))
    (over : IsStoreOver tells cell offers slot anchors many origin cells store passes) (s : State (List ℕ)) (rule : Rule (basis tells cell offers store) s) where
  abbrev g : Ground (List ℕ)
  g = basis tells cell offers store

  pub durable_kept : (t : Tools) → slot < 2 ^ 32 → length cells ≤ 1048576 → (images : List (List ℕ)) → IsLeftOf g s rule.logged.log images → (a : ℕ) → a < anchors → IsDurableEntry g s rule.logged.log a → IsWinner slot images anchors a (entry_at slot (offers_in g) g.setting s a)
  durable_kept t sized few images left a lt h = subst (λ (n : ℕ). IsWinner slot images n a (entry_at slot (offers_in g) g.setting s a)) over.anchors_are
      (new_kept t slot (offers_in g) g.setting (λ x. x) (bytes_now cell cells) s rule.logged.log sized (let z = over.slots_are in omega arith) (is_file tells told cell offers slot anchors many origin cells store passes over) rule.sound
      rule.logged.stands.cells rule.logged.stands.links (keeps tells told cell offers slot anchors many origin cells store passes over s rule) rule.logged.stands.settled images left a here
      (subst (λ (n : ℕ). StandsNew n (offers_in g) g.setting s rule.logged.log a) over.slot_is (stands g s rule a here h)))
    where
      here : a < g.setting.anchors
      here = let z = over.anchors_are in omega arith
