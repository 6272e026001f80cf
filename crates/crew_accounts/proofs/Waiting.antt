-- A reading tab found the link at its place not written: it was given all slots that are published, some, and not the last one.
use Rattle.std.proofs.Common.{Contains, List, [], ap, arith, inr, length, length-set, subst, suc, sym, zero, ⊎_elim, ◌++◌, ◌<◌, ◌∷◌, ◌≡◌, ◌≤◌, ℕ}
use Rattle.std.specs.Prelude.{◌≢◌}
use Rattle.std.proofs.lemmas.Bool.{cases_lt}
use Rattle.std.proofs.lemmas.List.Elements.{Contains-append_right}
use mathlib.Core.Option.{some}
use lib.ListN.{get_elem?}
use Rattle.lock_word.specs.Words.{epoch_of, stage_of, version_of}
use Rattle.lock_word.specs.declared.epoch.Epoch.{Epoch}
use Rattle.link_word.specs.declared.link.Link.TheVariants.{NotWritten}
use Rattle.entry_cut.specs.Content.{count}
use Rattle.core_model.specs.Anchors.{IsReadAt, opening_counter}
use Rattle.core_model.specs.Chains.{slots_of_link}
use Rattle.core_model.specs.SlotMoves.{IsFront, IsNext}
use Rattle.core_model.specs.State.{State, chain_of, side_word}
use Rattle.core_model.specs.Tabs.{IsPass, OfFreer, OfReader, inner, tab_at}
use Rattle.core_model.specs.Told.{LinkFound}
use Rattle.core_model.specs.Trails.{seen_at}
use Rattle.core_model.specs.declared.moves.Side.TheVariants.{Offer}
use Rattle.core_model.specs.declared.tab.Reader.{Reader}
use Rattle.core_model.specs.declared.tab.Tab.{Tab}
use Rattle.core_model.specs.declared.tab.Tab.TheVariants.{Reading}
use Rattle.core_model.specs.declared.view.Sight.{Sight}
use Rattle.core_model.specs.declared.view.Sight.TheVariants.{Named, Stood}
use Rattle.core_model.specs.declared.view.View.{View}
use Rattle.core_model.proofs.DeedsTell.{known_quiet}
use Rattle.core_model.proofs.Tabs.{tab_there}
use Rattle.store_rule.specs.Ground.{Ground, cut_of}
use Rattle.store_rule.specs.Told.{Stands}
use Rattle.store_rule.proofs.Moves.{known_of}
use Rattle.rock_reader.specs.Reading.{LookedAt}
use Rattle.rock_reader.proofs.LookedTab.{at_slot, middle_seen, middle_tab, middle_tabs}

-- an epoch at APPENDING is of a version that was drawn since the opening
pub grown_version : {X : Type 0} (g : Ground X) (w : View X) (a e : ℕ) → Stands g w → Contains w.seen (Stood a e) → stage_of e ≡ 2 → opening_counter g.setting < version_of e
grown_version g w a e stands seen two = ⊎_elim {C = opening_counter g.setting < version_of e}
    (λ (high : opening_counter g.setting < version_of e). high)
    (λ (low : version_of e ≤ opening_counter g.setting). absurd ((known_quiet g.setting stands.state stands.rule.sound a e (inr (stands.index, w, stands.at, seen)) low).1 two))
    (cases_lt (opening_counter g.setting) (version_of e))

behind_all : (xs ys : List ℕ) (n : ℕ) (x : ℕ) → n ≡ length xs → ys ≡ [] → get_elem? (xs ++ ys) n ≡ some x → ⊥
behind_all [] [] zero x e none is = cc
behind_all [] [] (suc n) x e none is = absurd (omega arith)
behind_all [] (y ∷ ys) n x e none is = cc
behind_all (z ∷ xs) ys zero x e none is = absurd (omega arith)
behind_all (z ∷ xs) ys (suc n) x e none is = behind_all xs ys n x (omega arith) none is

module _ {X : Type 0} (g : Ground X) (t : ℕ) (v w : View X) (epoch : Epoch) (pass : IsPass v) (le : t ≤ inner) (r : Reader X) (is : tab_at v t ≡ Reading r) (h : LookedAt g t epoch NotWritten v w) where
  abbrev a : ℕ
  a = r.anchor

  abbrev m : View X
  m = h.linked.middle

  abbrev r1 : Reader X
  r1 = at_slot r h.linked.slot

  abbrev s1 : State X
  s1 = h.linked.step.state

  tab1 : tab_at m t ≡ Reading r1
  tab1 = middle_tab g t v w epoch NotWritten pass le r is h

  long1 : t < length m.tabs
  long1 = let p = pass in let l = le in let e = ap length (middle_tabs g t v w epoch NotWritten pass le r is h) in let f = length-set v.tabs t (Reading r1) in omega arith

  there1 : get_elem? m.tabs t ≡ some (Reading r1)
  there1 = tab_there m t (Reading r1) long1 tab1

  stands1 : (a < g.setting.anchors) × IsReadAt s1 a r.version × (r.version ≤ version_of (seen_at a m.seen))
  stands1 = h.linked.step.rule.sound.anchors.tabs h.linked.step.index m h.linked.step.at t (Reading r1) there1

  -- the tab is behind all published slots
  place_is : r.place ≡ length (chain_of s1 a).slots
  place_is = ⊎_elim (λ (q : (r.place < length (chain_of s1 a).slots) × _ × (0 < 0)). absurd (let z = q.2 in omega arith)) (λ (q : (r.place ≡ length (chain_of s1 a).slots) × (0 ≡ 0)). q.0)
      (subst (λ (x : Tab X). LinkFound s1 x 0) tab1 (known_of g m _ _ w h.linked.step).slots)

  next_is : IsNext s1 h.linked.slot r1
  next_is = ⊎_elim (λ (q : OfReader (IsNext s1 h.linked.slot) (tab_at m t)). subst (OfReader (IsNext s1 h.linked.slot)) tab1 q)
      (λ (q : OfFreer (IsFront h.linked.slot) (tab_at m t)). absurd (subst (OfFreer (IsFront h.linked.slot)) tab1 q)) h.linked.step.may.allowed.1

  some_slot : 0 < length (chain_of s1 a).slots
  some_slot = (h.linked.step.rule.sound.slots.tabs h.linked.step.index m h.linked.step.at t (Reading r1) there1).some_slot

  pub some_place : 0 < r.place
  some_place = let e = place_is in let f = some_slot in omega arith

  -- of an offer of a new version it was not given the last slot
  pub not_last : (offer : ℕ) → opening_counter g.setting < r.version → Contains v.seen (Named a r.version Offer offer) → r.place < count (cut_of g offer 0 0)
  not_last offer high seen =
      let version = stands1.1.version_is in
      let new = h.linked.step.rule.offered.new a stands1.0 some_slot (omega arith) in
      let seen1 = subst (λ (z : List Sight). Contains z (Named a r.version Offer offer)) (sym (middle_seen g t v w epoch NotWritten pass le r is h)) (Contains-append_right (Stood a (epoch_of h.word) ∷ []) v.seen (Named a r.version Offer offer) seen) in
      let same : side_word g.setting s1 Offer a ≡ offer = (h.linked.step.rule.sound.anchors.seen.named h.linked.step.index m h.linked.step.at a r.version Offer offer seen1 version).0 in
      let pieces : count (cut_of g (side_word g.setting s1 Offer a) 0 0) ≡ count (cut_of g offer 0 0) = ap (λ (n : ℕ). count (cut_of g n 0 0)) same in
      let open_end : length (chain_of s1 a).slots ≢ count (cut_of g (side_word g.setting s1 Offer a) 0 0) = λ z. behind_all (chain_of s1 a).slots (slots_of_link (chain_of s1 a).end) r.place h.linked.slot place_is (ap slots_of_link (new.last.1 z)) next_is in
      let inside = new.inside in
      let place = place_is in
      below (length (chain_of s1 a).slots) (count (cut_of g (side_word g.setting s1 Offer a) 0 0)) r.place (count (cut_of g offer 0 0)) inside open_end place pieces
    where
      below : (n c k d : ℕ) → n ≤ c → n ≢ c → k ≡ n → c ≡ d → k < d
      below n c k d inside ne e f = omega arith
