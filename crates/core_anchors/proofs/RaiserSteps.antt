-- Steps of tabs that raise their anchor, as they are worked out.
use Rattle.std.proofs.Common.{◌≡◌, inl, inr, ◌<◌, ◌≤◌, ◌-◌, ℕ, List, [], ◌∷◌, Option, Some, None, Bool, true, false, cond, length, get_or, refl, sym, ap, ◌∙◌, subst, arith, set, sum_by, ltb}
use Rattle.std.specs.Prelude.{slice_get, slice_index, nat_lt, if◌then◌else◌}
use Rattle.std.specs.Option.{option_to_list}
use Rattle.std.proofs.lemmas.Option.{slice_get_within}
use Rattle.lock_word.specs.declared.stage.Stage.{Stage}
use Rattle.lock_word.specs.declared.stage.Stage.TheVariants.{Empty, Taken, Appending, Closed, Halted, Freeing as FreeingStage, Gone}
use Rattle.lock_word.specs.declared.word.Word.{Word}
use Rattle.lock_word.specs.Words.{IsInRange, word_number, stage_number, readers_of, epoch_of, stage_of, raised}
use Rattle.lock_word.proofs.Parts.{epoch_of-word_number, stage_of-epoch_number}
use Rattle.core_model.specs.declared.adding.Addition.{Addition}
use Rattle.core_model.specs.declared.chain.Chain.{Chain}
use Rattle.core_model.specs.declared.moves.Move.TheVariants as move
use Rattle.core_model.specs.declared.tab.Tab.{Tab}
use Rattle.core_model.specs.declared.tab.Tab.TheVariants.{Free, Retreating, Reading, Writing, Last, Freeing}
use Rattle.core_model.specs.declared.view.Kind.TheVariants as kind
use Rattle.core_model.specs.declared.view.Place.TheVariants.{Anchor}
use Rattle.core_model.specs.declared.view.Sight.TheVariants.{Stood}
use Rattle.core_model.specs.declared.view.View.{View}
use Rattle.core_model.specs.Chains.{no_chain}
use Rattle.core_model.specs.Layout.{Setting, anchor_index}
use Rattle.core_model.specs.State.{State}
use Rattle.core_model.specs.Steps.{chains_after, halted}
use Rattle.core_model.specs.Tabs.{tab_at, anchor_of, is_free, counts, OfWriter, stage_held}
use Rattle.core_model.specs.AnchorMoves.{raised_tab}
use Rattle.core_change.specs.declared.change.ChainChange.{ChainChange}
use Rattle.core_change.specs.declared.change.NotesChange.TheVariants as notes
use Rattle.core_change.specs.declared.change.TabsChange.{TabsChange}
use Rattle.core_table.specs.declared.content.Content.{Content}
use Rattle.core_table.specs.declared.opening.Opening.{Opening}
use Rattle.core_change.specs.declared.table.Table.{Table}
use Rattle.core_change.specs.declared.turn_change.TurnChange.TheVariants as turns
use Rattle.core_change.specs.Changed.{anchor_addition, tabs_changed, chains_changed, FitsTabs, FitsChain}
use Rattle.core_table.specs.Inside.{setting}
use Rattle.core_change.specs.Inside.{state}
use Rattle.core_change.specs.Planned.{IsScene, Plans}
use Rattle.core_anchors.specs.Raising.{MayRaiseTab, raised_tabs, raised_chain}
use Rattle.core_anchors.proofs.Anchored.{anchored}
use Rattle.core_change.proofs.Facts.{known, below, tab_is, own_set, counts_left}
use Rattle.core_anchors.proofs.ReaderSteps.{word_there}

-- P holds where a tab may be raised, at each stage that it may be raised to
raise_cases : (k : Setting Content) (s : State Content) (P : Tab Content → Stage → Type 0)
    → ((w : _) → MayRaiseTab k s (Writing w) Appending → P (Writing w) Appending)
    → ((w : _) → MayRaiseTab k s (Writing w) Closed → P (Writing w) Closed)
    → ((w : _) → MayRaiseTab k s (Writing w) Halted → P (Writing w) Halted)
    → ((f : _) → MayRaiseTab k s (Freeing f) Gone → P (Freeing f) Gone)
    → (x : Tab Content) (to : Stage) → MayRaiseTab k s x to → P x to
raise_cases k s P ap cl ha go (Writing w) Appending m = ap w m
raise_cases k s P ap cl ha go (Writing w) Closed m = cl w m
raise_cases k s P ap cl ha go (Writing w) Halted m = ha w m
raise_cases k s P ap cl ha go (Writing w) Empty (inl m) = absurd m.0
raise_cases k s P ap cl ha go (Writing w) Empty (inr m) = absurd m
raise_cases k s P ap cl ha go (Writing w) Taken (inl m) = absurd m.0
raise_cases k s P ap cl ha go (Writing w) Taken (inr m) = absurd m
raise_cases k s P ap cl ha go (Writing w) FreeingStage (inl m) = absurd m.0
raise_cases k s P ap cl ha go (Writing w) FreeingStage (inr m) = absurd m
raise_cases k s P ap cl ha go (Writing w) Gone (inl m) = absurd m.0
raise_cases k s P ap cl ha go (Writing w) Gone (inr m) = absurd m
raise_cases k s P ap cl ha go (Freeing f) Gone m = go f m
raise_cases k s P ap cl ha go (Freeing f) Empty (inl m) = absurd m
raise_cases k s P ap cl ha go (Freeing f) Empty (inr m) = absurd m
raise_cases k s P ap cl ha go (Freeing f) Taken (inl m) = absurd m
raise_cases k s P ap cl ha go (Freeing f) Taken (inr m) = absurd m
raise_cases k s P ap cl ha go (Freeing f) Appending (inl m) = absurd m
raise_cases k s P ap cl ha go (Freeing f) Appending (inr m) = absurd m
raise_cases k s P ap cl ha go (Freeing f) Closed (inl m) = absurd m
raise_cases k s P ap cl ha go (Freeing f) Closed (inr m) = absurd m
raise_cases k s P ap cl ha go (Freeing f) Halted (inl m) = absurd m
raise_cases k s P ap cl ha go (Freeing f) Halted (inr m) = absurd m
raise_cases k s P ap cl ha go (Freeing f) FreeingStage (inl m) = absurd m
raise_cases k s P ap cl ha go (Freeing f) FreeingStage (inr m) = absurd m
raise_cases k s P ap cl ha go Free to (inl m) = absurd m
raise_cases k s P ap cl ha go Free to (inr m) = absurd m
raise_cases k s P ap cl ha go (Retreating a) to (inl m) = absurd m
raise_cases k s P ap cl ha go (Retreating a) to (inr m) = absurd m
raise_cases k s P ap cl ha go (Reading r) to (inl m) = absurd m
raise_cases k s P ap cl ha go (Reading r) to (inr m) = absurd m
raise_cases k s P ap cl ha go (Last a) to (inl m) = absurd m
raise_cases k s P ap cl ha go (Last a) to (inr m) = absurd m

stage_low : (b : Bool) → cond b 2 1 ≤ 2
stage_low true = omega arith
stage_low false = omega arith

module _ (k : Setting Content) (s : State Content) where
  -- a tab that may raise is at a lower stage, and not counted
  pub rises : (x : Tab Content) (to : Stage) → MayRaiseTab k s x to → stage_held x ≤ stage_number to
  rises = raise_cases k s (λ x to. stage_held x ≤ stage_number to)
      (λ w m. stage_low w.is_appending)
      (λ w m. let h = stage_low w.is_appending in omega arith)
      (λ w m. let h = stage_low w.is_appending in omega arith)
      (λ f m. omega arith)

  pub is_using : (x : Tab Content) (to : Stage) → MayRaiseTab k s x to → is_free x ≡ false
  is_using = raise_cases k s (λ x to. is_free x ≡ false) (λ w m. refl) (λ w m. refl) (λ w m. refl) (λ f m. refl)

  uncounted : (a n : ℕ) (x : Tab Content) (to : Stage) → MayRaiseTab k s x to → (counts a x ≡ 0) × (counts a (raised_tab x to n) ≡ 0)
  uncounted a n = raise_cases k s (λ x to. (counts a x ≡ 0) × (counts a (raised_tab x to n) ≡ 0))
      (λ w m. (refl, refl)) (λ w m. (refl, counts_left a w.anchor n)) (λ w m. (refl, counts_left a w.anchor n)) (λ f m. (refl, counts_left a f.anchor n))

  -- the tab is changed as it is raised
  tabs_raised : (v : View Content) (at n : ℕ) (x : Tab Content) (to : Stage) → MayRaiseTab k s x to → tab_at v at ≡ x
      → tabs_changed v (raised_tabs at to (anchor_of x) n) ≡ set v.tabs at (raised_tab x to n)
  tabs_raised v at n = raise_cases k s (λ x to. tab_at v at ≡ x → tabs_changed v (raised_tabs at to (anchor_of x) n) ≡ set v.tabs at (raised_tab x to n))
      (λ w m is. ap (λ (y : Tab Content). set v.tabs at (raised_tab y Appending 0)) is) (λ w m is. refl) (λ w m is. refl) (λ f m is. refl)

  tabs_fit : (v : View Content) (at n a : ℕ) (x : Tab Content) (to : Stage) → MayRaiseTab k s x to → tab_at v at ≡ x → at < length v.tabs → FitsTabs v (raised_tabs at to a n)
  tabs_fit v at n a = raise_cases k s (λ x to. tab_at v at ≡ x → at < length v.tabs → FitsTabs v (raised_tabs at to a n))
      (λ w m is lt. (lt, subst (λ (y : Tab Content). OfWriter (λ w. Unit {0}) y) (sym is) tt)) (λ w m is lt. lt) (λ w m is lt. lt) (λ f m is lt. lt)

  chain_fits : (a many : ℕ) (c : Chain) (x : Tab Content) (to : Stage) → MayRaiseTab k s x to → a < many → FitsChain many (raised_chain to a c)
  chain_fits a many c = raise_cases k s (λ x to. a < many → FitsChain many (raised_chain to a c)) (λ w m lt. tt) (λ w m lt. tt) (λ w m lt. lt) (λ f m lt. tt)

  chains_raised : (cs : List Chain) (v : View Content) (at n a : ℕ) (x : Tab Content) (to : Stage) → MayRaiseTab k s x to → anchor_of (tab_at v at) ≡ a
      → chains_changed cs (raised_chain to a (get_or cs a no_chain)) ≡ chains_after cs v (move.Raise at to) n
  chains_raised cs v at n a = raise_cases k s (λ x to. anchor_of (tab_at v at) ≡ a → chains_changed cs (raised_chain to a (get_or cs a no_chain)) ≡ chains_after cs v (move.Raise at to) n)
      (λ w m is. refl) (λ w m is. refl) (λ w m is. ap (λ b. set cs b (halted (get_or cs b no_chain))) (sym is)) (λ f m is. refl)

module _ (o : Opening) (t : Table) (v : View Content) (scene : IsScene o t v) (at : ℕ) (x : Tab Content) (there : slice_get v.tabs at ≡ Some x) (to : Stage) (may : MayRaiseTab (setting o) (state t) x to) where
  pub allowed_to_raise : MayRaiseTab (setting o) (state t) (tab_at v at) to
  allowed_to_raise = subst (λ (y : Tab Content). MayRaiseTab (setting o) (state t) y to) (sym (tab_is o t v scene at x there)) may

  pub raise_planned : (a : ℕ) (same : a ≡ anchor_of x) (within : a < o.anchors) (w : Word) (number : word_number w ≡ slice_index t.words.items (anchor_index a)) (range : IsInRange w)
      → (left own seen : ℕ) (met : Option ℕ) (tabs : TabsChange) (chain : ChainChange) (c : Chain) (base : Addition) (index : ℕ)
      → left ≡ word_number record w { epoch = record w.epoch { stage = to } }
      → own ≡ sum_by (counts a) v.tabs
      → option_to_list met ≡ (if nat_lt own w.readers then a ∷ [] else [])
      → seen ≡ epoch_of left
      → tabs ≡ raised_tabs at to a (word_number record w { epoch = record w.epoch { stage = to } })
      → c ≡ get_or t.chains.items a no_chain
      → chain ≡ raised_chain to a c
      → base ≡ anchor_addition kind.Raised a left left seen
      → index ≡ anchor_index a
      → Plans o t v (move.Raise at to) record {
        answer = left;
        word = Some record { index = index; left = left };
        turn = turns.Same;
        tabs = tabs;
        chain = chain;
        used = None;
        addition = record {
          item = base.item;
          trace = base.trace;
          sight = base.sight;
          names = base.names;
          learned = base.learned;
          deed = Some record { pass = v.pass; kind = kind.Raised; anchor = a; epoch = seen; was_idle = false };
          met = met;
          drawn = base.drawn;
        };
        notes = notes.Same;
      }
  raise_planned a same within w number range left own seen met tabs chain c base index left_is own_is met_is seen_is tabs_is c_is chain_is base_is index_is =
      let is = tab_is o t v scene at x there in
      let le = below o t v scene at x there in
      let anchor : anchor_of (tab_at v at) ≡ a = ap anchor_of is ∙ sym same in
      let n : slice_index t.words.items (anchor_index (anchor_of (tab_at v at))) ≡ word_number w = ap (λ b. slice_index t.words.items (anchor_index b)) anchor ∙ sym number in
      let few = range.readers in
      let held = (known o t v (move.Raise at to) scene (le, allowed_to_raise)).1 in
      let held_is : stage_number w.epoch.stage ≡ stage_held (tab_at v at) =
      sym (stage_of-epoch_number w.epoch) ∙ ap stage_of (sym (epoch_of-word_number w few)) ∙ ap (λ i. stage_of (epoch_of i)) (sym n) ∙ held in
      let up = rises (setting o) (state t) (tab_at v at) to allowed_to_raise in
      let leaves_ : raised (slice_index t.words.items (anchor_index (anchor_of (tab_at v at)))) (stage_number to - stage_held (tab_at v at)) ≡ left = omega (arith, n, left_is, held_is, up) in
      let readers : readers_of left ≡ w.readers = omega (arith, left_is, few) in
      let unc = uncounted (setting o) (state t) (anchor_of (tab_at v at)) (raised (slice_index t.words.items (anchor_index (anchor_of (tab_at v at)))) (stage_number to - stage_held (tab_at v at))) (tab_at v at) to allowed_to_raise in
      let own_same : sum_by (counts (anchor_of (tab_at v at))) (set v.tabs at (raised_tab (tab_at v at) to (raised (slice_index t.words.items (anchor_index (anchor_of (tab_at v at)))) (stage_number to - stage_held (tab_at v at))))) ≡ own =
      let sum = own_set (anchor_of (tab_at v at)) v.tabs at x there (raised_tab (tab_at v at) to (raised (slice_index t.words.items (anchor_index (anchor_of (tab_at v at)))) (stage_number to - stage_held (tab_at v at)))) in
      let none = ap (counts (anchor_of (tab_at v at))) is in
      let here = ap (λ b. sum_by (counts b) v.tabs) anchor in
      omega (arith, sum, none, here, unc.0, unc.1, own_is) in
      record {
        allowed = (le, allowed_to_raise);
        answers = sym leaves_;
        matches = anchored o t v (move.Raise at to) a left left seen kind.Raised _ _ _ _ _ base index base_is index_is
            record {
              at = ap (λ b. Some (Anchor b)) anchor;
              leaves = leaves_;
              item = λ j. record { kind = kind.Raised; at = anchor j; found = leaves_ j };
              sees = λ j. Stood (anchor j) ((ap epoch_of leaves_ ∙ sym seen_is) j) ∷ [];
              places = refl;
              views = λ i. refl;
            }
            (ap (tabs_changed v) tabs_is ∙ sym (λ j. tabs_changed v (raised_tabs at to (anchor j) ((leaves_ ∙ left_is) j)))
            ∙ tabs_raised (setting o) (state t) v at _ (tab_at v at) to allowed_to_raise refl)
            refl
            (sym (λ j. record { pass = v.pass; kind = kind.Raised; anchor = anchor j; epoch = (ap epoch_of leaves_ ∙ sym seen_is) j; was_idle = false } ∷ []))
            (met_is ∙ sym (λ j. cond (ltb (own_same j) ((ap readers_of leaves_ ∙ readers) j)) (anchor j ∷ []) []))
            (ap (chains_changed t.chains.items) (chain_is ∙ ap (raised_chain to a) c_is) ∙ chains_raised (setting o) (state t) t.chains.items v at _ a (tab_at v at) to allowed_to_raise anchor);
        word = let there = word_there o t v scene a within in omega (arith, index_is, there);
        turn = tt;
        tabs = subst (λ (y : TabsChange). FitsTabs v y) (sym tabs_is) (tabs_fit (setting o) (state t) v at _ a (tab_at v at) to allowed_to_raise refl (slice_get_within v.tabs at x there));
        chain = subst (λ (y : ChainChange). FitsChain (length t.chains.items) y) (sym chain_is)
            (chain_fits (setting o) (state t) a (length t.chains.items) c (tab_at v at) to allowed_to_raise (let many = scene.sound.shaped.chains in omega arith));
      }
