-- What stands at each anchor along a list of steps, from the model's own part on offers.
use Rattle.std.proofs.Common.{◌≡◌, ◌≢◌, ◌⊎◌, inl, inr, ⊎_elim, ℕ, zero, suc, ◌+◌, ◌-◌, ◌<◌, ◌≤◌, List, length, get_or, sym, refl, ap, ◌∙◌, subst, arith}
use Rattle.std.proofs.Math.Nat.{le-div_iff_mul-le}
use mathlib.Core.Option.{some, some-injective}
use mathlib.Core.Logic.{dite}
use native.Mathlib.Decide.{ℕ_discrete}
use lib.ListN.{get_elem?}
use Rattle.lock_word.specs.Words.{epoch_of, version_of, stage_of}
use Rattle.rebuild_model.specs.declared.image.FileImage.{FileImage}
use Rattle.entry_cut.specs.Content.{content_of, room_of, slots_needed}
use Rattle.core_model.specs.declared.chain.Chain.{Chain}
use Rattle.core_model.specs.declared.moves.Side.{Side}
use Rattle.core_model.specs.declared.moves.Side.TheVariants.{Key0, Key1, Offer, Start}
use Rattle.core_model.specs.declared.tab.Piece.{Piece}
use Rattle.core_model.specs.declared.tab.Writer.{Writer}
use Rattle.core_model.specs.declared.tab.Tab.{Tab}
use Rattle.core_model.specs.declared.view.Place.TheVariants.{Beside}
use Rattle.core_model.specs.Layout.{Setting, index, anchor_index}
use Rattle.core_model.specs.State.{State, word, chain_of, side_word}
use Rattle.core_model.specs.Anchors.{opening_counter}
use Rattle.core_model.specs.Slots.{slot_words, ChainStands}
use Rattle.core_model.specs.Sound.{Sound}
use Rattle.core_model.specs.Offers.{Offering, IsNewEntry, OffersStand}
use Rattle.core_model.specs.Offers.{KeepsTo as Keeps}
use Rattle.core_model.proofs.Telling.{stage_told}
use Rattle.core_model.proofs.DeedsTell.{known_old}
use Rattle.core_model.proofs.OffersKept.{offers_kept_where}
use Rattle.core_model.proofs.OffersTold.{links_new}
use Rattle.core_model.specs.Holders.{IsTab}
use Rattle.core_state.specs.declared.act.Step.{Step}
use Rattle.core_state.specs.declared.act.Step.TheVariants as step
use Rattle.core_table.specs.declared.content.Content.{Content}
use Rattle.core_state.specs.Applied.{Applies, IsSameStore}
use Rattle.core_table.specs.Machine.{Machine, setting_of, state_of}
use Rattle.core_runs.specs.Responses.{Offers, key0_of, key1_of, KeepsTo, IsFaithful}
use Rattle.core_runs.specs.Offered.{offering_of}
use Rattle.core_runs.specs.Runs.{IsSound, IsRun}
use Rattle.core_runs.proofs.Lists.{at_length}
use Rattle.core_runs.proofs.Runs.{same_setting, there, stays_sound}
use Rattle.core_runs.proofs.Standing.{IsOld, IsNew, Standing}

some_pieces : (slot : ℕ) (url body : List ℕ) → length url + 72 ≤ slot → 0 < slots_needed (length (content_of url body)) slot
some_pieces slot url body h = let z : 1 ≤ slots_needed (length (content_of url body)) slot = (le-div_iff_mul-le {k = room_of slot} {x = 1} {y = length (content_of url body) + (room_of slot - 1)} (omega arith)).1 (omega arith) in omega arith

module _ (file : FileImage) (o : Offers) (from : Machine) where
  abbrev off : Offering
  off = offering_of file o from

  pub keeps_to : (w : Writer Content) (p : Piece) → KeepsTo file from.anchors o w p → Keeps off w p
  keeps_to w p h = record {
    key0 = key0_of (o.url p.offer);
    key1 = key1_of (o.url p.offer);
    key0_is = h.key0;
    key1_is = h.key1;
    fits = record { url = h.url; short = h.short; anchor = h.anchor; key0 = refl; key1 = refl };
    some = some_pieces file.slot (o.url p.offer) (o.body p.offer) h.short;
    last = h.last;
  }

  step_offers : (m left : Machine) (s : Step) (number : ℕ) → IsSound m → left.anchors ≡ from.anchors → IsFaithful file o left → IsSameStore m left → Applies m s number left
      → OffersStand off (setting_of m) (state_of m) → OffersStand off (setting_of left) (state_of left)
  step_offers m left (step.Act act) number so many faithful same (move, named, made) st =
      subst (λ (k : Setting Content). OffersStand off k (state_of left)) (sym (same_setting m left same))
      (subst (OffersStand off (setting_of m)) (sym made.leaves)
      (offers_kept_where off (setting_of m) (state_of m) act.pass made.view move so st made.at made.may
      (λ j u x p is c. keeps_to x p (subst (λ (n : ℕ). KeepsTo file n o x p) many (faithful j u x p (subst (λ (t : State Content). IsTab t j u (Tab.Writing x)) (sym made.leaves) is) c)))))
  step_offers m left (step.Crash picks) number so many faithful same made st = absurd made
  step_offers m left step.Rebuild number so many faithful same made st = absurd made

  -- What stands at an anchor.

  module _ (s : State Content) (so : Sound (setting_of from) s) (st : OffersStand off (setting_of from) s) (opened : from.words ≡ from.opening) (a : ℕ) (lt : a < from.anchors) where
    abbrev k : Setting Content
    k = setting_of from

    given_back_not : 0 < length (chain_of s a).slots → stage_of (epoch_of (word s a)) ≤ 4
    given_back_not some_slot = dite (ℕ_discrete (stage_of (epoch_of (word s a)) - 4) 0)
        (λ e. omega arith)
        (λ ne. absurd (let c = ap (λ (x : Chain). length x.slots) (stands.gone (inr (omega arith))) in omega arith))
      where
        stands : ChainStands (stage_of (epoch_of (word s a))) ((slot_words k s.words).start a) (slot_words k s.words).link (chain_of s a)
        stands = subst (λ (g : ℕ). ChainStands g ((slot_words k s.words).start a) (slot_words k s.words).link (chain_of s a)) (stage_told k s.words a lt) (so.slots.stand a lt)

    old_stands : 0 < length (chain_of s a).slots → version_of (epoch_of (word s a)) ≤ opening_counter k → IsOld file k (state_of from) a → IsOld file k s a
    old_stands some_slot low was = record {
      entry = was.entry;
      complete = was.complete;
      inside = was.inside;
      slots = (st.old a lt some_slot low).slots ∙ was.slots;
      anchor = was.anchor;
      version = (known_old k s so a (epoch_of (word s a)) (inl (lt, refl)) low).version ∙ sym (ap (λ (ws : List ℕ). version_of (epoch_of (get_or ws (anchor_index a) 0))) opened) ∙ was.version;
      offer = beside Offer (λ q. cc) ∙ was.offer;
      key0 = beside Key0 (λ q. cc) ∙ was.key0;
      key1 = beside Key1 (λ q. cc) ∙ was.key1;
    }
      where
        beside : (side : Side) → side ≢ Start → side_word k s side a ≡ side_word k (state_of from) side a
        beside side ne = so.cells.names.old a side lt ne (given_back_not some_slot) some_slot low ∙ sym (ap (λ (ws : List ℕ). get_or ws (index k (Beside side a)) 0) opened)

    new_stands : 0 < length (chain_of s a).slots → opening_counter k < version_of (epoch_of (word s a)) → IsNewEntry off k s a → IsNew file o k s a
    new_stands some_slot high new = record {
      high = so.cells.names.offers a lt some_slot high;
      url = new.fits.url;
      short = new.fits.short;
      anchor = new.fits.anchor;
      key0 = new.fits.key0;
      key1 = new.fits.key1;
      from = omega arith;
      to = new.drawn;
      last = links_new off k s a new;
    }

    pub standing_of : (length (chain_of (state_of from) a).slots ≡ 0) ⊎ IsOld file k (state_of from) a → Standing file o k s a
    standing_of was = dite (ℕ_discrete (length (chain_of s a).slots) 0)
        (λ none. inl none)
        (λ ne. dite (ℕ_discrete (version_of (epoch_of (word s a)) - opening_counter k) 0)
        (λ low. let old = st.old a lt (omega arith) (omega arith) in ⊎_elim
        (λ (q : length (chain_of (state_of from) a).slots ≡ 0). absurd (let z = ap length old.slots in omega arith))
        (λ (q : IsOld file k (state_of from) a). inr (inl (old_stands (omega arith) (omega arith) q)))
        was)
        (λ high. inr (inr (new_stands (omega arith) (omega arith) (st.new a lt (omega arith) (omega arith))))))

  -- Along a list.

  module _ (steps : List Step) (cores : List Machine) (run : IsRun steps cores) (first : get_elem? cores 0 ≡ some from) (so : IsSound from) (st : OffersStand off (setting_of from) (state_of from))
      (faithful : (j : ℕ) (m : Machine) → get_elem? cores j ≡ some m → IsFaithful file o m) where
    pub setting_stays : (i : ℕ) (core : Machine) → get_elem? cores i ≡ some core → setting_of core ≡ setting_of from
    setting_stays zero core at = ap setting_of (some-injective core from (sym at ∙ first))
    setting_stays (suc i) core at =
        let lt = at_length cores (suc i) core at in
        let count = run.count in
        let was = there cores i (omega arith) in
        let made = there steps i (omega arith) in
        let more : suc i ≡ i + 1 = omega arith in
        let follows = run.follows i made.0 was.0 core made.1 was.1 (ap (get_elem? cores) (sym more) ∙ at) in
        same_setting was.0 core follows.0 ∙ setting_stays i was.0 was.1

    pub all_offers : (i : ℕ) (core : Machine) → get_elem? cores i ≡ some core → OffersStand off (setting_of core) (state_of core)
    all_offers zero core at = subst (λ (m : Machine). OffersStand off (setting_of m) (state_of m)) (some-injective from core (sym first ∙ at)) st
    all_offers (suc i) core at =
        let lt = at_length cores (suc i) core at in
        let count = run.count in
        let was = there cores i (omega arith) in
        let made = there steps i (omega arith) in
        let more : suc i ≡ i + 1 = omega arith in
        let follows = run.follows i made.0 was.0 core made.1 was.1 (ap (get_elem? cores) (sym more) ∙ at) in
        step_offers was.0 core made.0 follows.1.0 (stays_sound steps cores from run first so i was.0 was.1) (ap Setting.anchors (setting_stays (suc i) core at)) (faithful (suc i) core at) follows.0 follows.1.1 (all_offers i was.0 was.1)
