-- Steps that take an anchor or free its entry, as they are worked out.
use Rattle.std.proofs.Common.{◌≡◌, ◌≢◌, ◌⊎◌, inl, inr, ⊎_elim, ◌<◌, ◌≤◌, ◌==◌, ℕ, [], ◌∷◌, Option, Some, None, Bool, true, false, cond, length, get_or, refl, sym, ap, ◌∙◌, subst, arith, set, sum_by, ltb, eq-eqb, ne_eqb}
use Rattle.std.specs.Prelude.{slice_index, nat_lt, if◌then◌else◌}
use Rattle.std.specs.Option.{option_to_list}
use Rattle.lock_word.specs.declared.stage.Stage.TheVariants.{Taken, Freeing as FreeingStage}
use Rattle.lock_word.specs.declared.word.Word.{Word}
use Rattle.lock_word.specs.Words.{IsInRange, word_number, stage_number, readers_of, epoch_of, stage_of, mode_of, word_at, evicted, is_idle, is_left_over}
use Rattle.lock_word.proofs.Parts.{epoch_of-word_number, stage_of-epoch_number}
use Rattle.lock_word.proofs.Testing.{mode_of-idle, stage_of-left_over}
use Rattle.core_model.specs.declared.adding.Addition.{Addition}
use Rattle.core_model.specs.declared.chain.Chain.{Chain}
use Rattle.core_model.specs.declared.moves.Move.TheVariants as move
use Rattle.core_model.specs.declared.tab.Tab.TheVariants.{Free, Writing, Last, Freeing}
use Rattle.core_model.specs.declared.view.Kind.TheVariants as kind
use Rattle.core_model.specs.declared.view.Sight.TheVariants.{Stood}
use Rattle.core_model.specs.declared.view.View.{View}
use Rattle.core_model.specs.Chains.{no_chain}
use Rattle.core_model.specs.Steps.{finding}
use Rattle.core_model.specs.Tabs.{inner, tab_at, counts, InnerIsFree}
use Rattle.core_model.specs.Trails.{last_find}
use Rattle.core_model.specs.Layout.{anchor_index}
use Rattle.core_model.specs.AnchorMoves.{MayTake, MayEvict, freer_of, writer_of, taken_tabs, evicted_tabs}
use Rattle.core_change.specs.declared.change.ChainChange.TheVariants as chains
use Rattle.core_change.specs.declared.change.NotesChange.TheVariants as notes
use Rattle.core_change.specs.declared.change.TabsChange.{TabsChange}
use Rattle.core_change.specs.declared.change.TabsChange.TheVariants as tabs
use Rattle.core_table.specs.declared.content.Content.{Content}
use Rattle.core_table.specs.declared.opening.Opening.{Opening}
use Rattle.core_change.specs.declared.table.Table.{Table}
use Rattle.core_change.specs.declared.turn_change.TurnChange.TheVariants as turns
use Rattle.core_change.specs.Changed.{anchor_addition, tabs_changed, FitsTabs}
use Rattle.core_table.specs.Inside.{setting}
use Rattle.core_change.specs.Inside.{state}
use Rattle.core_change.specs.Planned.{IsScene, Plans}
use Rattle.core_anchors.specs.Taking.{taken_change, evicted_change}
use Rattle.core_anchors.proofs.Anchored.{anchored}
use Rattle.core_change.proofs.Facts.{readers_are}
use Rattle.core_anchors.proofs.ReaderSteps.{word_there}

-- the tabs of an anchor that is taken
tabs_taken : (v : View Content) (t a version n : ℕ) (c : Chain) (idle : Bool)
    → tabs_changed v (taken_change t a version idle n c) ≡ set (cond idle (set v.tabs inner (Freeing (freer_of a false n c))) v.tabs) t (Writing (writer_of a version))
tabs_taken v t a version n c true = refl
tabs_taken v t a version n c false = refl

tabs_taken_fit : (v : View Content) (t a version n : ℕ) (c : Chain) (idle : Bool) → t < length v.tabs → inner < length v.tabs → FitsTabs v (taken_change t a version idle n c)
tabs_taken_fit v t a version n c true lt il = (il, lt)
tabs_taken_fit v t a version n c false lt il = lt

module _ (o : Opening) (t : Table) (v : View Content) (scene : IsScene o t v) (a : ℕ) (within : a < o.anchors) (w : Word) (number : word_number w ≡ slice_index t.words.items (anchor_index a)) (range : IsInRange w) (last : ℕ) (last_is : last ≡ last_find a v.trail) (found : ℕ) (found_is : found ≡ word_number w) where
  n : slice_index t.words.items (anchor_index a) ≡ found
  n = sym number ∙ sym found_is

  readers : readers_of (slice_index t.words.items (anchor_index a)) ≡ w.readers
  readers = readers_are w _ range number

  nine : length v.tabs ≡ 9
  nine = scene.pass

  -- the word is still the one that was found
  pub won : found ≡ last → (slice_index t.words.items (anchor_index a) == last_find a v.trail) ≡ true
  won e = eq-eqb _ _ (n ∙ e ∙ last_is)

  -- it is another one
  pub lost : last ≢ found → (slice_index t.words.items (anchor_index a) == last_find a v.trail) ≡ false
  lost ne = ne_eqb _ _ (λ e. ne (last_is ∙ sym e ∙ n))

  module _ (at version : ℕ) (may : MayTake v at a version) where
    pub take_won : (left own seen : ℕ) (met : Option ℕ) (idle : Bool) (change : TabsChange) (c e : Chain) (base : Addition) (index : ℕ)
        → found ≡ last
        → left ≡ word_number record { epoch = record { version = version; doom = false; stage = Taken }; readers = 0 }
        → own ≡ sum_by (counts a) v.tabs
        → option_to_list met ≡ (if nat_lt own w.readers then a ∷ [] else [])
        → seen ≡ epoch_of left
        → idle ≡ is_idle (word_number w)
        → c ≡ get_or t.chains.items a no_chain
        → change ≡ taken_change at a version idle (word_number w) c
        → e ≡ no_chain
        → base ≡ anchor_addition kind.Changed a found left seen
        → index ≡ anchor_index a
        → Plans o t v (move.Take at a version) record {
          answer = found;
          word = Some record { index = index; left = left };
          turn = turns.Same;
          tabs = change;
          chain = chains.Put a e;
          used = Some version;
          addition = record {
            item = base.item;
            trace = base.trace;
            sight = base.sight;
            names = base.names;
            learned = base.learned;
            deed = Some record { pass = v.pass; kind = kind.Changed; anchor = a; epoch = seen; was_idle = idle };
            met = met;
            drawn = base.drawn;
          };
          notes = notes.Same;
        }
    take_won left own seen met idle change c e base index eq left_is own_is met_is seen_is idle_is c_is change_is e_is base_is index_is =
        let yes = won eq in
        let left_word : word_at version 1 ≡ left = omega (arith, left_is) in
        let leaves_ : cond (slice_index t.words.items (anchor_index a) == last_find a v.trail) (word_at version 1) (slice_index t.words.items (anchor_index a)) ≡ left =
        ap (λ b. cond b (word_at version 1) (slice_index t.words.items (anchor_index a))) yes ∙ left_word in
        let idles : idle ≡ is_idle (slice_index t.words.items (anchor_index a)) = idle_is ∙ ap is_idle number in
        let lt = may.writes in
        record {
          allowed = (within, may);
          answers = sym n;
          matches = anchored o t v (move.Take at a version) a found left seen kind.Changed _ _ _ _ _ base index base_is index_is
              record {
                at = refl;
                leaves = leaves_;
                item = λ j. record { kind = kind.Changed; at = a; found = n j };
                sees = λ j. Stood a ((ap epoch_of leaves_ ∙ sym seen_is) j) ∷ [];
                places = refl;
                views = λ i. refl;
              }
              (ap (tabs_changed v) change_is ∙ tabs_taken v at a version (word_number w) c idle
              ∙ (λ j. set (cond (idles j) (set v.tabs inner (Freeing (freer_of a false (number j) (c_is j)))) v.tabs) at (Writing (writer_of a version)))
              ∙ sym (ap (λ b. cond b (taken_tabs v at a version (finding (setting o) (state t) v (move.Take at a version))) v.tabs) yes))
              refl
              ((λ j. record { pass = v.pass; kind = kind.Changed; anchor = a; epoch = (seen_is ∙ ap epoch_of (sym left_word)) j; was_idle = idles j } ∷ [])
              ∙ sym (ap (λ b. cond b (record { pass = v.pass; kind = kind.Changed; anchor = a; epoch = epoch_of (word_at version 1); was_idle = is_idle (slice_index t.words.items (anchor_index a)) } ∷ []) []) yes))
              (met_is ∙ (λ j. cond (ltb (own_is j) (sym readers j)) (a ∷ []) []))
              (ap (λ (d : Chain). set t.chains.items a d) e_is ∙ sym (ap (λ b. cond b (set t.chains.items a no_chain) t.chains.items) yes));
          word = let there = word_there o t v scene a within in omega (arith, index_is, there);
          turn = tt;
          tabs = subst (λ (y : TabsChange). FitsTabs v y) (sym change_is) (tabs_taken_fit v at a version (word_number w) c idle (let nine = nine in omega arith) (let nine = nine in omega arith));
          chain = let many = scene.sound.shaped.chains in omega arith;
        }

  module _ (at : ℕ) (may : MayEvict v at a) where
    within_tabs : at ≤ inner
    within_tabs = ⊎_elim
        (λ (x : (at ≡ inner) × InnerIsFree v × (is_idle (last_find a v.trail) ≡ true)). let e = x.0 in omega arith)
        (λ (x : (at ≤ inner) × (tab_at v at ≡ Last a) × (is_left_over (last_find a v.trail) ≡ true) × (InnerIsFree v ⊎ (at ≡ inner))). x.0) may

    low : (stage_of (epoch_of last) ≡ 3) ⊎ (stage_of (epoch_of last) ≡ 4)
    low = subst (λ i. (stage_of (epoch_of i) ≡ 3) ⊎ (stage_of (epoch_of i) ≡ 4)) (sym last_is) (⊎_elim
        (λ (x : (at ≡ inner) × InnerIsFree v × (is_idle (last_find a v.trail) ≡ true)). let mode = mode_of-idle (last_find a v.trail) x.2 in inl (omega (arith, mode)))
        (λ (x : (at ≤ inner) × (tab_at v at ≡ Last a) × (is_left_over (last_find a v.trail) ≡ true) × (InnerIsFree v ⊎ (at ≡ inner))).
        ⊎_elim (λ (h : stage_of (epoch_of (last_find a v.trail)) ≡ 4). inr h) (λ (h : mode_of (epoch_of (last_find a v.trail)) ≡ 11). inl (omega arith)) (stage_of-left_over (last_find a v.trail) x.2)) may)

    pub evict_won : (left own seen : ℕ) (met : Option ℕ) (idle : Bool) (change : TabsChange) (c e : Chain) (base : Addition) (index : ℕ)
        → found ≡ last
        → left ≡ word_number record w { epoch = record w.epoch { stage = FreeingStage } }
        → own ≡ sum_by (counts a) v.tabs
        → option_to_list met ≡ (if nat_lt own w.readers then a ∷ [] else [])
        → seen ≡ epoch_of left
        → idle ≡ is_idle (word_number w)
        → c ≡ get_or t.chains.items a no_chain
        → change ≡ evicted_change at a (word_number w) c
        → e ≡ no_chain
        → base ≡ anchor_addition kind.Changed a found left seen
        → index ≡ anchor_index a
        → Plans o t v (move.Evict at a) record {
          answer = found;
          word = Some record { index = index; left = left };
          turn = turns.Same;
          tabs = change;
          chain = chains.Put a e;
          used = None;
          addition = record {
            item = base.item;
            trace = base.trace;
            sight = base.sight;
            names = base.names;
            learned = base.learned;
            deed = Some record { pass = v.pass; kind = kind.Changed; anchor = a; epoch = seen; was_idle = idle };
            met = met;
            drawn = base.drawn;
          };
          notes = notes.Same;
        }
    evict_won left own seen met idle change c e base index eq left_is own_is met_is seen_is idle_is c_is change_is e_is base_is index_is =
        let yes = won eq in
        let few = range.readers in
        let stage : stage_of (epoch_of found) ≡ stage_number w.epoch.stage =
        ap (λ i. stage_of (epoch_of i)) found_is ∙ ap stage_of (epoch_of-word_number w few) ∙ stage_of-epoch_number w.epoch in
        let below : stage_number w.epoch.stage ≤ 5 =
        let is = ap (λ i. stage_of (epoch_of i)) eq in
        ⊎_elim (λ (x : stage_of (epoch_of last) ≡ 3). omega arith) (λ (x : stage_of (epoch_of last) ≡ 4). omega arith) low in
        let left_word : evicted (slice_index t.words.items (anchor_index a)) ≡ left =
        let same = ap (λ i. stage_of (epoch_of i)) n in omega (arith, n, found_is, left_is, stage, below, same) in
        let leaves_ : cond (slice_index t.words.items (anchor_index a) == last_find a v.trail) (evicted (slice_index t.words.items (anchor_index a))) (slice_index t.words.items (anchor_index a)) ≡ left =
        ap (λ b. cond b (evicted (slice_index t.words.items (anchor_index a))) (slice_index t.words.items (anchor_index a))) yes ∙ left_word in
        let idles : idle ≡ is_idle (slice_index t.words.items (anchor_index a)) = idle_is ∙ ap is_idle number in
        record {
          allowed = (within, may);
          answers = sym n;
          matches = anchored o t v (move.Evict at a) a found left seen kind.Changed _ _ _ _ _ base index base_is index_is
              record {
                at = refl;
                leaves = leaves_;
                item = λ j. record { kind = kind.Changed; at = a; found = n j };
                sees = λ j. Stood a ((ap epoch_of leaves_ ∙ sym seen_is) j) ∷ [];
                places = refl;
                views = λ i. refl;
              }
              (ap (tabs_changed v) change_is
              ∙ (λ j. set (set v.tabs at Free) inner (Freeing (freer_of a true (number j) (c_is j))))
              ∙ sym (ap (λ b. cond b (evicted_tabs v at a (finding (setting o) (state t) v (move.Evict at a))) (set v.tabs at Free)) yes))
              refl
              ((λ j. record { pass = v.pass; kind = kind.Changed; anchor = a; epoch = (seen_is ∙ ap epoch_of (sym left_word)) j; was_idle = idles j } ∷ [])
              ∙ sym (ap (λ b. cond b (record { pass = v.pass; kind = kind.Changed; anchor = a; epoch = epoch_of (evicted (slice_index t.words.items (anchor_index a))); was_idle = is_idle (slice_index t.words.items (anchor_index a)) } ∷ []) []) yes))
              (met_is ∙ (λ j. cond (ltb (own_is j) (sym readers j)) (a ∷ []) []))
              (ap (λ (d : Chain). set t.chains.items a d) e_is ∙ sym (ap (λ b. cond b (set t.chains.items a no_chain) t.chains.items) yes));
          word = let there = word_there o t v scene a within in omega (arith, index_is, there);
          turn = tt;
          tabs = subst (λ (y : TabsChange). FitsTabs v y) (sym change_is) (let nine = nine in let le = within_tabs in ((omega arith), (omega arith)));
          chain = let many = scene.sound.shaped.chains in omega arith;
        }

    pub evict_lost : (own seen : ℕ) (met : Option ℕ) (base : Addition) (index : ℕ)
        → last ≢ found
        → own ≡ sum_by (counts a) v.tabs
        → option_to_list met ≡ (if nat_lt own w.readers then a ∷ [] else [])
        → seen ≡ epoch_of found
        → base ≡ anchor_addition kind.Changed a found found seen
        → index ≡ anchor_index a
        → Plans o t v (move.Evict at a) record {
          answer = found;
          word = Some record { index = index; left = found };
          turn = turns.Same;
          tabs = tabs.Put at Free;
          chain = chains.Same;
          used = None;
          addition = record {
            item = base.item;
            trace = base.trace;
            sight = base.sight;
            names = base.names;
            learned = base.learned;
            deed = base.deed;
            met = met;
            drawn = base.drawn;
          };
          notes = notes.Same;
        }
    evict_lost own seen met base index ne own_is met_is seen_is base_is index_is =
        let no = lost ne in
        let leaves_ : cond (slice_index t.words.items (anchor_index a) == last_find a v.trail) (evicted (slice_index t.words.items (anchor_index a))) (slice_index t.words.items (anchor_index a)) ≡ found =
        ap (λ b. cond b (evicted (slice_index t.words.items (anchor_index a))) (slice_index t.words.items (anchor_index a))) no ∙ n in
        record {
          allowed = (within, may);
          answers = sym n;
          matches = anchored o t v (move.Evict at a) a found found seen kind.Changed _ _ _ _ _ base index base_is index_is
              record {
                at = refl;
                leaves = leaves_;
                item = λ j. record { kind = kind.Changed; at = a; found = n j };
                sees = λ j. Stood a ((ap epoch_of leaves_ ∙ sym seen_is) j) ∷ [];
                places = refl;
                views = λ i. refl;
              }
              (sym (ap (λ b. cond b (evicted_tabs v at a (finding (setting o) (state t) v (move.Evict at a))) (set v.tabs at Free)) no))
              refl
              (ap (λ (b : Addition). option_to_list b.deed) base_is
              ∙ sym (ap (λ b. cond b (record { pass = v.pass; kind = kind.Changed; anchor = a; epoch = epoch_of (evicted (slice_index t.words.items (anchor_index a))); was_idle = is_idle (slice_index t.words.items (anchor_index a)) } ∷ []) []) no))
              (met_is ∙ (λ j. cond (ltb (own_is j) (sym readers j)) (a ∷ []) []))
              (sym (ap (λ b. cond b (set t.chains.items a no_chain) t.chains.items) no));
          word = let there = word_there o t v scene a within in omega (arith, index_is, there);
          turn = tt;
          tabs = let nine = nine in let le = within_tabs in omega arith;
          chain = tt;
        }
