-- A slot that is reserved is one that the plain store claims, and where there is none it finds none.
use Rattle.std.proofs.Common.{List, None, [], ap, arith, eq-eqb, false, get_or, get_or-set_other, get_or-set_same, inl, inr, length, length-append, length-set, refl, set, subst, suc, sum_by, sym, true, zero, ◌++◌, ◌+◌, ◌/◌, ◌<◌, ◌==◌, ◌∙◌, ◌≡◌, ◌≢◌, ◌⊎◌, ◌∷◌, ℕ}
use Rattle.std.proofs.lemmas.Bool.{false≢true, le-ltb, lt-ltb}
use Rattle.std.proofs.lemmas.List.Sums.{sum_by-set}
use mathlib.Core.Logic.{dite}
use native.Mathlib.Decide.{ℕ_discrete}
use Rattle.core_model.proofs.Lists.{at_index, by_eq}
use Rattle.core_model.specs.Layout.{Setting, word_in}
use Rattle.core_model.specs.SlotMoves.{reserves}
use Rattle.core_model.specs.Spots.{free_below}
use Rattle.core_model.specs.State.{State}
use Rattle.core_model.specs.Tabs.{InnerIsFree, IsPass, inner, is_free, tab_at, with_tab}
use Rattle.core_model.specs.declared.tab.Tab.{Tab}
use Rattle.core_model.specs.declared.tab.Tab.TheVariants.{Free, Writing}
use Rattle.core_model.specs.declared.tab.Writer.{Writer}
use Rattle.core_model.specs.declared.view.Place.TheVariants.{Anchor, Map}
use Rattle.core_model.specs.declared.view.View.{View}
use Rattle.link_word.specs.Map.{taken_in}
use Rattle.link_word.proofs.Mapped.{word_within}
use Rattle.entry_cut.specs.Content.{room_of}
use Rattle.free_set.specs.Claims.{FoundAllTaken}
use Rattle.store_rule.specs.Words.{has, is_free_slot}
use Rattle.plain_laws.proofs.Evicting.{Untouched, claim_leaves, untouched_refl}
use Rattle.plain_runs.specs.Words.{IsLone, Knows, no_guests, setting_of, spare, spare_of}
use Rattle.plain_runs.proofs.Chains as told
use Rattle.plain_runs.proofs.Counting.{slots_add_up, writer_tied}
use Rattle.plain_runs.proofs.Freeing.{FewReaders}
use Rattle.plain_runs.proofs.Frames.{knows_same}
use Rattle.plain_runs.proofs.Frames as frame
use Rattle.plain_runs.proofs.Holding.{AllRaised}
use Rattle.plain_runs.proofs.OwnAnchors.{mine_lone}
use Rattle.plain_runs.proofs.PlainWords.{idle_there, readers_fit}
use Rattle.plain_runs.proofs.Rounds.{hand_inside, no_victim, onward_inside, onward_is}
use Rattle.plain_runs.proofs.Evicting as gone
use Rattle.plain_model.specs.declared.store.Plain.{Plain}
use Rattle.plain_model.specs.Slots.{Claimed, claim, claim_of, evicted, free, held, victim}
use Rattle.plain_model.specs.Store.{is_idle_at}
use Rattle.rock_writer.specs.Reserving.{ByClaim, ByEviction, RanOut, Reserved}
use Rattle.slice_chain.proofs.EvictingOne.{round_begins}
use Rattle.slice_chain.specs.Victims.{hand_in, onward}
use Rattle.store_rule.specs.Ground.{Ground}
use Rattle.store_rule.specs.Told.{Stands}

-- a tab that writes is one of the list
tab_inside : (xs : List (Tab (List ℕ))) (t : ℕ) (w : Writer (List ℕ)) → get_or xs t Free ≡ Writing w → t < length xs
tab_inside [] t w e = absurd (no e)
  where
    no : Free ≡ Writing w → ⊥
    no e = cc
tab_inside (x ∷ xs) zero w e = omega arith
tab_inside (x ∷ xs) (suc t) w e = let h = tab_inside xs t w e in omega arith

module _ (g : Ground (List ℕ)) (rename : ℕ → ℕ) (p : Plain) where
  -- an entry gave way that was idle
  pub record GaveWay (q : Plain) : Type 0 where
    pub anchor : ℕ
    pub inside : anchor < g.setting.anchors
    pub idle : is_idle_at p anchor ≡ true
    pub is : q ≡ evicted (setting_of g) anchor p

  -- The claim c is done, and u is the pass with the slot reserved.
  pub record ClaimsRight (v u : View (List ℕ)) (hand_after : ℕ) (c : Claimed) : Type 0 where
    pub done : c.done ≡ true
    pub knows : Knows g rename u c.store no_guests
    pub hand : hand_in g.setting.anchors hand_after ≡ c.store.hand
    pub how : (c.store ≡ p) ⊎ GaveWay c.store
    pub counter : c.store.counter ≡ p.counter
    pub untouched : Untouched p c.store
    pub spares : spare u ≡ spare v + 1
    pub inner_free : InnerIsFree u
    pub stands : Stands g u
    pub pass : IsPass u
    pub raised : AllRaised u

  -- It is not, and nothing has changed.
  pub record RunsOutRight (u : View (List ℕ)) (c : Claimed) : Type 0 where
    pub done : c.done ≡ false
    pub store : c.store ≡ p
    pub knows : Knows g rename u p no_guests
    pub stands : Stands g u

module _ (g : Ground (List ℕ)) (lone : IsLone g) (rename : ℕ → ℕ) (v : View (List ℕ)) (p : Plain) (knows : Knows g rename v p no_guests) (eight : length p.tabs ≡ 8) (stands : Stands g v) (pass : IsPass v) (inner_free : InnerIsFree v) (raised : AllRaised v) where
  abbrev k : Setting (List ℕ)
  k = g.setting

  abbrev s : State (List ℕ)
  s = stands.state

  few : FewReaders p no_guests
  few a = readers_fit p a 0 eight (omega arith)

  all : free_below k s k.slots + sum_by (held (room_of g.slot)) p.places + spare v ≡ k.slots
  all = slots_add_up g lone s stands.index v stands.rule stands.at pass rename p no_guests knows few raised inner_free

  some_below : (n j : ℕ) → j < n → taken_in (word_in k s.words (Map (j / 64))) j ≡ 0 → 0 < free_below k s n
  some_below zero j lt e = absurd (omega arith)
  some_below (suc n) j lt e = dite (ℕ_discrete j n)
      (λ is. let b = eq-eqb (taken_in (word_in k s.words (Map (n / 64))) n) 0 (ap (λ z. taken_in (word_in k s.words (Map (z / 64))) z) (sym is) ∙ e) in rw b (omega arith))
      (λ ne. let h = some_below n j (omega arith) e in omega arith)

  none_below : (n : ℕ) → ((j : ℕ) → j < n → (taken_in (word_in k s.words (Map (j / 64))) j == 0) ≡ false) → free_below k s n ≡ 0
  none_below zero none = refl
  none_below (suc n) none = let b = none n (omega arith) in let h = none_below n (λ j lt. none j (omega arith)) in rw b (omega arith)

  test_is : (j : ℕ) → j < k.slots → (taken_in (word_in k s.words (Map (j / 64))) j == 0) ≡ is_free_slot g v j
  test_is j lt = ap (λ z. taken_in z j == 0) (told.word_is g lone s stands.index v stands.rule stands.at pass (Map (j / 64)) (word_within k.slots j lt))

  -- a free slot is claimed
  claims_free : 0 < free_below k s k.slots → claim (setting_of g) (spare v) p ≡ record { store = p; done = true }
  claims_free any = rw (lt-ltb (spare v) (free (setting_of g) p) (let h = all in omega arith)) refl

  claims_else : free_below k s k.slots ≡ 0 → claim (setting_of g) (spare v) p ≡ claim_of (setting_of g) p (victim (setting_of g) p)
  claims_else none = rw (le-ltb (spare v) (free (setting_of g) p) (let h = all in omega arith)) refl

  leaves : Untouched p (claim (setting_of g) (spare v) p).store
  leaves = (claim_leaves (setting_of g) (spare v) p (let h = all in omega arith)).untouched

  all_taken : (t : ℕ) (w : View (List ℕ)) → FoundAllTaken g t v w → free_below k s k.slots ≡ 0
  all_taken t w h = none_below k.slots (λ j lt. test_is j lt ∙ h.passed.taken j lt (mine_lone g lone v (Map (j / 64))))

  was_free : (slot : ℕ) → slot < k.slots → is_free_slot g v slot ≡ true → 0 < free_below k s k.slots
  was_free slot lt h = some_below k.slots slot lt (by_test (taken_in (word_in k s.words (Map (slot / 64))) slot) (test_is slot lt ∙ h))
    where
      by_test : (n : ℕ) → (n == 0) ≡ true → n ≡ 0
      by_test n = by_eq (λ b. b ≡ true → n ≡ 0) n 0 (λ e h. e) (λ ne h. absurd (false≢true h))

  -- the pass has found each slot taken
  module _ (t : ℕ) (m : View (List ℕ)) (none : FoundAllTaken g t v m) where
    knows_after : Knows g rename m p no_guests
    knows_after = knows_same g rename v m p no_guests knows (frame.went_none g lone v m none.added none.passed.went none.passed.quiet.3)

    stands_after : Stands g m
    stands_after = of_stands none.passed.went.stands
      where
        of_stands : (m ≡ v) ⊎ (Stands g v × Stands g m) → Stands g m
        of_stands (inl e) = subst (Stands g) (sym e) stands
        of_stands (inr h) = h.1

  -- no slot is free, and no entry idle
  pub runs_out_right : (t hand : ℕ) (u : View (List ℕ)) → hand_in k.anchors hand ≡ p.hand → RanOut g t hand v u → RunsOutRight g rename p u (claim (setting_of g) (spare v) p)
  runs_out_right t hand u hand_is out = let none = claims_else (all_taken t out.middle out.none) ∙ ap (claim_of (setting_of g) p) no_one in record {
    done = ap (λ (c : Claimed). c.done) none;
    store = ap (λ (c : Claimed). c.store) none;
    knows = knows_same g rename out.middle u p no_guests (knows_after t out.middle out.none) (frame.went_none g lone out.middle u out.busy.added out.busy.went out.busy.calm.1);
    stands = of_stands out.busy.went.stands;
  }
    where
      no_one : victim (setting_of g) p ≡ None
      no_one = no_victim (setting_of g) p (λ a lt. sym (idle_there rename (setting_of g) p 0 a (has g out.middle (Anchor a)) ((knows_after t out.middle out.none).each a lt refl).word (few a) refl) ∙ out.busy.was a lt (mine_lone g lone out.middle (Anchor a)))

      of_stands : (u ≡ out.middle) ⊎ (Stands g out.middle × Stands g u) → Stands g u
      of_stands (inl e) = subst (Stands g) (sym e) (stands_after t out.middle out.none)
      of_stands (inr h) = h.1

  -- The tab t writes, and u is the pass where it has reserved one slot more.
  module _ (t : ℕ) (x : Writer (List ℕ)) (writes : tab_at v t ≡ Writing x) (slot : ℕ) (u : View (List ℕ)) (tabs : u.tabs ≡ with_tab v t (reserves (tab_at v t) slot)) where
    abbrev y : Writer (List ℕ)
    y = record x { claim = None; reserved = x.reserved ++ slot ∷ [] }

    t_inside : t < length v.tabs
    t_inside = tab_inside v.tabs t x writes

    tabs_are : u.tabs ≡ set v.tabs t (Writing y)
    tabs_are = tabs ∙ ap (λ (z : Tab (List ℕ)). set v.tabs t (reserves z slot)) writes

    pass_reserved : IsPass u
    pass_reserved = ap length tabs_are ∙ length-set v.tabs t (Writing y) ∙ pass

    other : t ≢ inner
    other e = false≢true (sym (ap is_free (subst (λ z. tab_at v z ≡ Writing x) e writes)) ∙ inner_free)

    at_t : tab_at u t ≡ Writing y
    at_t = ap (λ (xs : List (Tab (List ℕ))). get_or xs t Free) tabs_are ∙ get_or-set_same v.tabs t (Writing y) Free t_inside

    at_other : (j : ℕ) → j ≢ t → tab_at u j ≡ tab_at v j
    at_other j ne = ap (λ (xs : List (Tab (List ℕ))). get_or xs j Free) tabs_are ∙ get_or-set_other v.tabs t j (Writing y) Free ne

    free_reserved : InnerIsFree u
    free_reserved = ap is_free (at_other inner (λ e. other (sym e))) ∙ inner_free

    spares : spare u ≡ spare v + 1
    spares = let sums = sum_by-set spare_of v.tabs t (Writing y) Free t_inside in let had = ap spare_of writes in let same = ap (sum_by spare_of) tabs_are in
        let more = length-append x.reserved (slot ∷ []) in
        let few = writer_tied g lone s stands.index v stands.rule stands.at pass t x (at_index v.tabs t (Writing x) Free t_inside writes) in omega arith

    raised_reserved : AllRaised u
    raised_reserved = record {
      each = λ j w is off. dite (ℕ_discrete j t)
          (λ e. own w (sym at_t ∙ subst (λ z. tab_at u z ≡ Writing w) e is) off)
          (λ ne. raised.each j w (sym (at_other j ne) ∙ is) off);
    }
      where
        own : (w : Writer (List ℕ)) → Writing y ≡ Writing w → w.is_appending ≡ false → w.published ≡ []
        own w e off = let same : y ≡ w = cc in ap (λ (z : Writer (List ℕ)). z.published) (sym same) ∙ raised.each t x writes (ap (λ (z : Writer (List ℕ)). z.is_appending) same ∙ off)

    module _ (hand hand_after : ℕ) (hand_is : hand_in k.anchors hand ≡ p.hand) where
      by_claim : ByClaim g t hand v slot u hand_after → ClaimsRight g rename p v u hand_after (claim (setting_of g) (spare v) p)
      by_claim h = let is = claims_free (was_free slot h.claimed.there (h.claimed.was (mine_lone g lone v (Map (slot / 64))))) in subst (ClaimsRight g rename p v u hand_after) (sym is) record {
        done = refl;
        knows = knows_same g rename v u p no_guests knows (frame.went_none g lone v u h.claimed.added h.claimed.passed.went h.claimed.passed.quiet.3);
        hand = ap (hand_in k.anchors) h.stays ∙ hand_is;
        how = inl refl;
        counter = refl;
        untouched = untouched_refl p;
        spares = spares;
        inner_free = free_reserved;
        stands = of_stands h.claimed.passed.went.stands;
        pass = pass_reserved;
        raised = raised_reserved;
      }
        where
          of_stands : (u ≡ v) ⊎ (Stands g v × Stands g u) → Stands g u
          of_stands (inl e) = subst (Stands g) (sym e) stands
          of_stands (inr h) = h.1

      module _ (h : ByEviction g t hand v slot u hand_after) where
        begins : hand_in k.anchors hand < k.anchors
        begins = round_begins k.anchors (hand_in k.anchors hand) hand refl (let lt = h.evicted.within in omega arith)

        abbrev a : ℕ
        a = onward k.anchors (hand_in k.anchors hand) h.evicted.steps

        inside : a < k.anchors
        inside = onward_inside k.anchors (hand_in k.anchors hand) h.evicted.steps begins (let lt = h.evicted.within in omega arith)

        by_eviction : ClaimsRight g rename p v u hand_after (claim (setting_of g) (spare v) p)
        by_eviction = let is = claims_else (all_taken t h.middle h.none) ∙ ap (claim_of (setting_of g) p)
            (gone.victim_here g lone rename h.middle p (knows_after t h.middle h.none) few (hand_in k.anchors hand) hand_is begins t slot u hand_after h.evicted) in
            subst (ClaimsRight g rename p v u hand_after) (sym is) record {
              done = refl;
              knows = gone.knows_without g lone rename h.middle p (knows_after t h.middle h.none) few (hand_in k.anchors hand) hand_is begins t slot u hand_after h.evicted;
              hand = ap (hand_in k.anchors) (h.evicted.moved ∙ onward_is k.anchors a 1 inside (let lt = inside in omega arith))
                  ∙ hand_inside k.anchors _ (let e = onward_is k.anchors a 1 inside (let lt = inside in omega arith) in let lt = onward_inside k.anchors a 1 inside (let lt = inside in omega arith) in omega arith);
              how = inr record {
                anchor = a;
                inside = inside;
                idle = gone.idle g lone rename h.middle p (knows_after t h.middle h.none) few (hand_in k.anchors hand) hand_is begins t slot u hand_after h.evicted;
                is = refl;
              };
              counter = refl;
              untouched = subst (λ (c : Claimed). Untouched p c.store) is leaves;
              spares = spares;
              inner_free = free_reserved;
              stands = of_stands h.evicted.went.stands;
              pass = pass_reserved;
              raised = raised_reserved;
            }
          where
            of_stands : (u ≡ h.middle) ⊎ (Stands g h.middle × Stands g u) → Stands g u
            of_stands (inl e) = subst (Stands g) (sym e) (stands_after t h.middle h.none)
            of_stands (inr h) = h.1

  -- The slot that a tab reserves is the one that the plain store claims.
  pub claims_right : (t : ℕ) (x : Writer (List ℕ)) → tab_at v t ≡ Writing x → (slot : ℕ) (u : View (List ℕ)) (hand hand_after : ℕ) → hand_in k.anchors hand ≡ p.hand → Reserved g t hand v slot u hand_after
      → ClaimsRight g rename p v u hand_after (claim (setting_of g) (spare v) p)
  claims_right t x writes slot u hand hand_after hand_is h = of_way h.how
    where
      of_way : ByClaim g t hand v slot u hand_after ⊎ ByEviction g t hand v slot u hand_after → ClaimsRight g rename p v u hand_after (claim (setting_of g) (spare v) p)
      of_way (inl c) = by_claim t x writes slot u h.tabs hand hand_after hand_is c
      of_way (inr e) = by_eviction t x writes slot u h.tabs hand hand_after hand_is e
