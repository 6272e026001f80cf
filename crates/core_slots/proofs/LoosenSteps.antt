-- Steps that take the first slot of a rest out of its chain, as they are worked out.
use Rattle.std.proofs.Common.{◌≡◌, ◌≢◌, inl, inr, ⊎_elim, ◌<◌, ◌≤◌, ◌++◌, ℕ, List, [], ◌∷◌, Some, None, true, false, cond, length, refl, sym, ap, ◌∙◌, subst, arith, set}
use Rattle.std.specs.Prelude.{slice_get}
use Rattle.std.proofs.lemmas.Bool.{false≢true}
use Rattle.std.proofs.lemmas.List.{append-nil}
use Rattle.std.proofs.lemmas.Option.{slice_get_within}
use Rattle.core_model.specs.declared.moves.Move.TheVariants as move
use Rattle.core_model.specs.declared.tab.Freer.{Freer}
use Rattle.core_model.specs.declared.tab.Writer.{Writer}
use Rattle.core_model.specs.declared.tab.Tab.{Tab}
use Rattle.core_model.specs.declared.tab.Tab.TheVariants.{Free, Retreating, Reading, Writing, Last, Freeing}
use Rattle.core_model.specs.declared.view.Kind.TheVariants as kind
use Rattle.core_model.specs.declared.view.Place.TheVariants.{Link}
use Rattle.core_model.specs.declared.view.View.{View}
use Rattle.core_model.specs.Chains.{rest_of, times}
use Rattle.core_model.specs.Layout.{index}
use Rattle.core_model.specs.Steps.{finding}
use Rattle.core_model.specs.Tabs.{inner, tab_at, OfWriter, OfFreer}
use Rattle.core_model.proofs.ReservesKept.{of_freer, tab_was, held_slot, only_inner}
use Rattle.core_model.proofs.Spelling.{one_same}
use Rattle.core_model.specs.Table.{Allowed, tabs_after}
use Rattle.core_model.specs.SlotMoves.{MayReserve, MayLoosen, reserves, loosens}
use Rattle.core_change.specs.declared.change.Change.{Change}
use Rattle.core_change.specs.declared.change.TabsChange.{TabsChange}
use Rattle.core_change.specs.declared.tab_change.TabChange.TheVariants.{Reserves, Loosens}
use Rattle.core_table.specs.declared.content.Content.{Content}
use Rattle.core_table.specs.declared.opening.Opening.{Opening}
use Rattle.core_change.specs.declared.table.Table.{Table}
use Rattle.core_change.specs.Changed.{word_addition, tabs_changed, FitsTabs}
use Rattle.core_table.specs.Inside.{setting}
use Rattle.core_change.specs.Inside.{state}
use Rattle.core_slots.specs.Loosening.{loosened_change, handed_change, link_found, unlinked_change}
use Rattle.core_change.specs.Planned.{IsScene, Plans}
use Rattle.core_change.specs.Tabs.{changed_tab}
use Rattle.core_change.proofs.Facts.{below, tab_is}
use Rattle.core_table.proofs.Lists.{at_slice}
use Rattle.core_slots.proofs.MapSteps.{not_same}
use Rattle.core_change.proofs.Worded.{worded}

-- who may hand the slot over may loosen it
may_loosen : (slot : ℕ) (x : Tab Content) → OfFreer (λ f. MayLoosen slot f × (f.is_freeing ≡ true)) x → OfFreer (MayLoosen slot) x
may_loosen slot (Freeing f) h = h.0
may_loosen slot Free h = h
may_loosen slot (Retreating a) h = h
may_loosen slot (Reading r) h = h
may_loosen slot (Writing w) h = h
may_loosen slot (Last a) h = h

module _ (o : Opening) (t : Table) (v : View Content) (scene : IsScene o t v) (slot : ℕ) where
  frees_inner : (at : ℕ) → at ≤ inner → OfFreer (MayLoosen slot) (tab_at v at) → at ≡ inner
  frees_inner at le h = let f = of_freer (MayLoosen slot) (tab_at v at) h in
      only_inner (setting o) (state t) scene.number v scene.sound scene.slots scene.at scene.pass at f.0 (tab_was (setting o) (state t) scene.number v scene.sound scene.slots scene.at scene.pass at (Freeing f.0) le f.1)

  -- Where the step is allowed the slot leaves the inner tab, and another tab reserves it.
  pub leaves_inner : (at : ℕ) → Allowed (setting o) (state t) v (move.Loosen at slot) → OfFreer (MayLoosen slot) (tab_at v inner)
  leaves_inner at may = ⊎_elim
      (λ (h : OfFreer (MayLoosen slot) (tab_at v at)). subst (λ (z : ℕ). OfFreer (MayLoosen slot) (tab_at v z)) (frees_inner at may.0 h) h)
      (λ (h : OfWriter MayReserve (tab_at v at) × OfFreer (λ f. MayLoosen slot f × (f.is_freeing ≡ true)) (tab_at v inner)). may_loosen slot (tab_at v inner) h.1)
      may.1

  pub goes_over : (at : ℕ) → at ≢ inner → Allowed (setting o) (state t) v (move.Loosen at slot)
      → OfWriter MayReserve (tab_at v at) × OfFreer (λ f. MayLoosen slot f × (f.is_freeing ≡ true)) (tab_at v inner)
  goes_over at ne may = ⊎_elim
      (λ (h : OfFreer (MayLoosen slot) (tab_at v at)). absurd (ne (frees_inner at may.0 h)))
      (λ (h : OfWriter MayReserve (tab_at v at) × OfFreer (λ f. MayLoosen slot f × (f.is_freeing ≡ true)) (tab_at v inner)). h)
      may.1

  module _ (f : Freer Content) (there : slice_get v.tabs inner ≡ Some (Freeing f)) where
    -- the slots of an anchor that was taken do not go over
    pub not_taken : (at : ℕ) → at ≢ inner → f.is_freeing ≡ false → Allowed (setting o) (state t) v (move.Loosen at slot) → ⊥
    not_taken at ne taken may =
        let h = subst (λ (x : Tab Content). OfFreer (λ g. MayLoosen slot g × (g.is_freeing ≡ true)) x) (tab_is o t v scene inner (Freeing f) there) (goes_over at ne may).1 in
        false≢true (sym taken ∙ h.1)

    module _ (may : MayLoosen slot f) where
      -- the link word of the slot is one of the table's words
      pub link_there : index (setting o) (Link slot) < length t.words.items
      link_there =
          let c = ap (times slot) may.0 in
          let one = one_same slot in
          let lt : slot < o.slots = held_slot (setting o) (state t) scene.number v scene.sound scene.slots scene.at scene.pass slot inner (Freeing f) (at_slice v.tabs inner (Freeing f) there) (omega arith) in
          let n = scene.sound.shaped.words in
          omega arith

      planned : (at : ℕ) (tabs : TabsChange) → Allowed (setting o) (state t) v (move.Loosen at slot)
          → tabs_changed v tabs ≡ tabs_after v (move.Loosen at slot) (finding (setting o) (state t) v (move.Loosen at slot))
          → FitsTabs v tabs
          → Plans o t v (move.Loosen at slot) (unlinked_change o t slot tabs)
      planned at tabs allowed tabs_are fit = record {
        allowed = allowed;
        answers = refl;
        matches = worded o t v (move.Loosen at slot) (Link slot) slot (link_found o t slot) 0 kind.Linked None (link_found o t slot) (index (setting o) (Link slot)) tabs
            (word_addition kind.Linked (Link slot) slot (link_found o t slot) 0 None) refl refl
            record {
              on = refl;
              leaves = refl;
              item = refl;
              sees = refl;
              places = refl;
              views = λ i. refl;
              held = refl;
              deeds = refl;
              met = refl;
              chains = refl;
            }
            tabs_are;
        word = link_there;
        turn = tt;
        tabs = fit;
        chain = tt;
      }

      is_freer : tab_at v inner ≡ Freeing f
      is_freer = tab_is o t v scene inner (Freeing f) there

      loosened_inner : Plans o t v (move.Loosen inner slot) (unlinked_change o t slot (loosened_change f slot))
      loosened_inner = planned inner (loosened_change f slot)
          (omega arith, inl (subst (λ (x : Tab Content). OfFreer (MayLoosen slot) x) (sym is_freer) may))
          (ap (λ (x : Tab Content). set v.tabs inner (changed_tab x (Loosens (rest_of f.rest) (f.loose ++ (slot ∷ []))))) is_freer
          ∙ sym (ap (λ (x : Tab Content). set v.tabs inner (loosens x (slot ∷ []))) is_freer))
          (slice_get_within v.tabs inner (Freeing f) there)

      pub loosened_planned : (at : ℕ) (tabs : TabsChange) (change : Change) → at ≡ inner → tabs ≡ loosened_change f slot → change ≡ unlinked_change o t slot tabs
          → Plans o t v (move.Loosen at slot) change
      loosened_planned at tabs change e tabs_is is =
          subst (λ (c : Change). Plans o t v (move.Loosen at slot) c) (sym (is ∙ ap (unlinked_change o t slot) tabs_is))
          (subst (λ (z : ℕ). Plans o t v (move.Loosen z slot) (unlinked_change o t slot (loosened_change f slot))) (sym e) loosened_inner)

      module _ (at : ℕ) (w : Writer Content) (on : slice_get v.tabs at ≡ Some (Writing w)) (room : MayReserve w) (ne : at ≢ inner) (freeing : f.is_freeing ≡ true) where
        is_writer : tab_at v at ≡ Writing w
        is_writer = tab_is o t v scene at (Writing w) on

        may_hand : Allowed (setting o) (state t) v (move.Loosen at slot)
        may_hand = (
          below o t v scene at (Writing w) on,
          inr (
            subst (λ (x : Tab Content). OfWriter MayReserve x) (sym is_writer) room,
            subst (λ (x : Tab Content). OfFreer (λ g. MayLoosen slot g × (g.is_freeing ≡ true)) x) (sym is_freer) (may, freeing),
          ),
        )

        abbrev handed_tabs : List (Tab Content)
        handed_tabs = set (set v.tabs inner (loosens (tab_at v inner) [])) at (reserves (tab_at v at) slot)

        tabs_handed : tabs_changed v (handed_change f at w slot) ≡ handed_tabs
        tabs_handed =
            (λ j. set (set v.tabs inner (changed_tab (is_freer j) (Loosens (rest_of f.rest) f.loose))) at (changed_tab (is_writer j) (Reserves (w.reserved ++ (slot ∷ [])))))
            ∙ sym (ap (λ (l : List ℕ). set (set v.tabs inner (Freeing record f { rest = rest_of f.rest; is_whole = false; is_looked = false; loose = l })) at (Writing record w { claim = None; reserved = w.reserved ++ (slot ∷ []) })) (append-nil f.loose))
            ∙ sym (λ j. set (set v.tabs inner (loosens (is_freer j) [])) at (reserves (is_writer j) slot))

        pub handed_planned : (tabs : TabsChange) (change : Change) → tabs ≡ handed_change f at w slot → change ≡ unlinked_change o t slot tabs
            → Plans o t v (move.Loosen at slot) change
        handed_planned tabs change tabs_is is =
            subst (λ (c : Change). Plans o t v (move.Loosen at slot) c) (sym (is ∙ ap (unlinked_change o t slot) tabs_is))
            (planned at (handed_change f at w slot) may_hand
            (tabs_handed ∙ sym (ap (λ b. cond b (set v.tabs inner (loosens (tab_at v inner) (slot ∷ []))) handed_tabs) (not_same at inner ne)))
            (slice_get_within v.tabs inner (Freeing f) there, slice_get_within v.tabs at (Writing w) on, λ q. ne (sym q)))
