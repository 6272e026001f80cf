-- To raise the stage of an anchor, and to doom its entry, keeps a state sound.
use Rattle.std.proofs.Common.{◌≡◌, ◌≢◌, ◌⊎◌, inl, inr, ⊎_elim, ℕ, ◌+◌, ◌-◌, ◌<◌, ◌≤◌, List, [], ◌∷◌, length, get_or, set, sym, refl, ap, ◌∙◌, subst, arith, Bool, true, false, cond, ◌==◌, ◌&&◌, length-set, eq-eqb, ne_eqb, get_or-set_same, get_or-set_other}
use mathlib.Core.Option.{some}
use lib.ListN.{get_elem?}
use Rattle.lock_word.specs.declared.stage.Stage.{Stage}
use Rattle.lock_word.specs.declared.stage.Stage.TheVariants.{Empty, Taken, Appending, Closed, Halted, Freeing as FreeingStage, Gone}
use Rattle.lock_word.specs.Words.{stage_number, epoch_of, version_of, mode_of, stage_of, is_written, is_left_over, raised, doomed, doom_number, doom_of}
use Rattle.lock_word.proofs.Raising.{readers_of-raised, epoch_of-raised, version_of-raised, doom_of-raised, stage_of-raised, is_word-raised}
use Rattle.lock_word.proofs.Dooming.{readers_of-doomed, epoch_of-doomed, version_of-doomed, doom_of-doomed, stage_of-doomed, is_word-doomed, written-doomed}
use Rattle.lock_word.proofs.Testing.{readers_of-left_over, stage_of-left_over}
use Rattle.core_model.specs.declared.tab.Writer.{Writer}
use Rattle.core_model.specs.declared.tab.Freer.{Freer}
use Rattle.core_model.specs.declared.tab.Tab.{Tab}
use Rattle.core_model.specs.declared.tab.Tab.TheVariants.{Free, Retreating, Reading, Writing, Last, Freeing}
use Rattle.core_model.specs.declared.moves.Move.TheVariants.{Raise, Doom}
use Rattle.core_model.specs.declared.view.Kind.TheVariants.{Raised, Doomed}
use Rattle.core_model.specs.declared.view.Item.{Item}
use Rattle.core_model.specs.declared.view.Deed.{Deed}
use Rattle.core_model.specs.declared.view.View.{View}
use Rattle.core_model.specs.declared.chain.Chain.{Chain}
use Rattle.core_model.specs.Layout.{Setting}
use Rattle.core_model.specs.Chains.{no_chain}
use Rattle.core_model.specs.State.{State, word, chain_of}
use Rattle.core_model.specs.Trails.{seen_at}
use Rattle.core_model.specs.Tabs.{tab_at, inner, anchor_of, is_reading, is_counted, stage_written, OfWriter, OfFreer, counts, writes, frees, count, IsPass, stage_held}
use Rattle.core_model.specs.Anchors.{written_at, freed_at, TabStands}
use Rattle.core_model.specs.Steps.{after, halted}
use Rattle.core_model.specs.Sound.{AnchorsSound}
use Rattle.core_model.proofs.Matching.{matches_freer, matches_freed}
use Rattle.core_model.proofs.Lists.{by_eq, at_length, le_sum_at, set_here}
use Rattle.core_model.proofs.Tabs.{IsAt, Turns, changes, tab_there}
use Rattle.core_model.proofs.AnchorStep.{stepped, moved}
use Rattle.core_model.proofs.AnchorTabs.{version_up}
use Rattle.core_model.proofs.AnchorKept.{at_anchor}
use Rattle.core_model.proofs.AnchorKinds.{meets_others, no_tab, one_tab}
use Rattle.core_model.proofs.EntersKept.{IsUncounted, left_is, left_stands, counted_there, has_reader}
use Rattle.core_model.specs.AnchorMoves.{MayRaise, StartsRight, MayEnd, left_tab, raised_tab, meets, deed_of}
use Rattle.core_model.specs.Table.{Allowed}

module _ {X : Type 0} (k : Setting X) (s : State X) (i : ℕ) (v : View X) (so : AnchorsSound k s) (at : get_elem? s.views i ≡ some v) (pass : IsPass v) where
  -- a writing tab knows the version and the stage of its anchor
  pub record Written (a : ℕ) (w : Writer X) : Type 0 where
    pub version_is : version_of (epoch_of (word s a)) ≡ w.version
    pub stage_is : stage_of (epoch_of (word s a)) ≡ stage_written w
    pub is_so : is_written (epoch_of (word s a)) ≡ true

  stage_one_or_two : (w : Writer X) → (stage_written w ≡ 1) ⊎ (stage_written w ≡ 2)
  stage_one_or_two w = by_bool w.is_appending refl
    where
      by_bool : (b : Bool) → b ≡ w.is_appending → (stage_written w ≡ 1) ⊎ (stage_written w ≡ 2)
      by_bool true e = inr (ap (λ (b : Bool). cond b 2 1) (sym e))
      by_bool false e = inl (ap (λ (b : Bool). cond b 2 1) (sym e))

  writes_itself : (w : Writer X) → writes w.anchor w.version (stage_written w) (Writing w) ≡ 1
  writes_itself w = rw (eq-eqb w.anchor w.anchor refl, eq-eqb w.version w.version refl, eq-eqb (stage_written w) (stage_written w) refl) refl

  pub written_there : (t : ℕ) (w : Writer X) → get_elem? v.tabs t ≡ some (Writing w) → w.anchor < k.anchors → Written w.anchor w
  written_there t w was lt = let one = writes_itself w in let g = le_sum_at (writes w.anchor w.version (stage_written w)) v.tabs t (Writing w) was in
      let h = le_sum_at (count (writes w.anchor w.version (stage_written w))) s.views i v at in let r = so.writers w.anchor w.version (stage_written w) lt in
      from_test (is_written (epoch_of (word s w.anchor))) refl (omega arith)
    where
      from_test : (b : Bool) → b ≡ is_written (epoch_of (word s w.anchor)) → 0 < cond (b && (version_of (epoch_of (word s w.anchor)) == w.version) && (stage_of (epoch_of (word s w.anchor)) == stage_written w)) 1 0 → Written w.anchor w
      from_test true e = by_eq (λ z. 0 < cond (z && (stage_of (epoch_of (word s w.anchor)) == stage_written w)) 1 0 → Written w.anchor w) (version_of (epoch_of (word s w.anchor))) w.version
          (λ q. by_eq (λ z. 0 < cond z 1 0 → Written w.anchor w) (stage_of (epoch_of (word s w.anchor))) (stage_written w)
          (λ p _. record { version_is = q; stage_is = p; is_so = sym e })
          (λ _ h. absurd (omega arith)))
          (λ _ h. absurd (omega arith))
      from_test false e = λ h. absurd (omega arith)

  -- the anchor's word as a writing tab counts it
  written_as : (a : ℕ) (w : Writer X) → w.anchor ≡ a → Written a w → (u g : ℕ) → written_at (epoch_of (word s a)) u g ≡ writes a u g (Writing w)
  written_as a w from h u g = rw (h.is_so, h.version_is, h.stage_is, eq-eqb w.anchor a from) refl

  -- the item and the deed of a raise that left the word n'
  abbrev raised_item : ℕ → ℕ → Item
  raised_item a n' = record { kind = Raised; at = a; found = n' }

  abbrev raised_deed : ℕ → ℕ → Deed
  raised_deed a n' = deed_of v Raised a n' false

  abbrev raised_view : ℕ → ℕ → ℕ → Tab X → View X
  raised_view t a n' new = stepped v a n' (epoch_of n') (set v.tabs t new) v.held (raised_item a n') (raised_deed a n' ∷ []) (meets a n' (set v.tabs t new))

  abbrev raised_state : ℕ → ℕ → ℕ → Tab X → List Chain → State X
  raised_state t a n' new chains = moved s i (raised_view t a n' new) a n' chains

  -- the tab t, which counts nowhere, raises the stage of its anchor
  raises : (t a by : ℕ) (old new : Tab X) (chains : List Chain) → get_elem? v.tabs t ≡ some old → a < k.anchors → IsAt a old → IsAt a new
      → ((b : ℕ) → counts b old ≡ 0) → ((b : ℕ) → counts b new ≡ 0)
      → stage_of (epoch_of (word s a)) + by < 7
      → (2 ≤ stage_of (epoch_of (word s a)) → stage_of (epoch_of (word s a)) ≤ 4 → (2 ≤ stage_of (epoch_of (word s a)) + by) × (stage_of (epoch_of (word s a)) + by ≤ 4))
      → ((u g : ℕ) → written_at (epoch_of (raised (word s a) by)) u g + writes a u g old ≡ written_at (epoch_of (word s a)) u g + writes a u g new)
      → ((u d : ℕ) → freed_at (epoch_of (raised (word s a) by)) u d + frees a u d old ≡ freed_at (epoch_of (word s a)) u d + frees a u d new)
      → TabStands k (raised_state t a (raised (word s a) by) new chains) (raised_view t a (raised (word s a) by) new) t new
      → (is_left_over (raised (word s a) by) ≡ true → new ≡ Last a)
      → length chains ≡ length s.chains → ((b : ℕ) → b ≢ a → get_or chains b no_chain ≡ chain_of s b)
      → (stage_of (epoch_of (word s a)) + by ≤ 4 → (stage_of (epoch_of (word s a)) ≤ 4) × ((get_or chains a no_chain).slots ≡ (chain_of s a).slots))
      → (4 ≤ stage_of (epoch_of (word s a)) + by → (4 ≤ stage_of (epoch_of (word s a))) ⊎ (stage_of (epoch_of (word s a)) + by ≡ 4))
      → AnchorsSound k (raised_state t a (raised (word s a) by) new chains)
  raises t a by old new chains was lt old_at new_at c0 c1 room steady wr fr stands lasts len else_ here undoomed =
      let n : ℕ = word s a in let n' : ℕ = raised n by in let turns : Turns v.tabs t a old new = record { was = was; old_at = old_at; new_at = new_at } in
      let readers = readers_of-raised n by in let rises = epoch_of-raised n by in let ver = version_of-raised n by room in let doom = doom_of-raised n by room in let st = stage_of-raised n by room in
      let x = c0 a in let y = c1 a in
      let tb = one_tab k s i v so at pass a n' (epoch_of n') t old new v.held (raised_item a n') (raised_deed a n' ∷ []) (meets a n' (set v.tabs t new)) chains turns (omega arith) wr fr stands in
      at_anchor k s i v so at a n' (epoch_of n') (set v.tabs t new) v.held (raised_item a n') (raised_deed a n' ∷ []) (meets a n' (set v.tabs t new)) chains record {
        inside = lt;
        good = is_word-raised n by (so.shaped.anchors a lt) room;
        rises = omega arith;
        is_pass = pass;
        length_same = tb.length_same;
        sees = refl;
        item_at = refl;
        tells = refl;
        no_draw = refl;
        no_count = λ _ _. refl;
        found = omega arith;
        held_before = λ u h. (h, refl);
        readers = tb.readers;
        writers = tb.writers;
        freers = tb.freers;
        readers_else = tb.readers_else;
        writers_else = tb.writers_else;
        freers_else = tb.freers_else;
        steady = inr (ver, λ from to. let z = steady from to in (let p = z.0 in omega arith, let p = z.1 in omega arith));
        stand = tb.stand;
        lasts = λ over. inl (t, set_here v.tabs t new (at_length v.tabs t old was) ∙ ap some (lasts over), refl);
        lasts_else = tb.lasts_else;
        version = inl ver;
        chain_count = len;
        chain_else = else_;
        chain_here = λ _ low. here (omega arith);
        left = inr (raised_deed a n', (0, omega arith, refl), ((refl, inr (inl refl)), refl));
        doomed = λ h. inl (sym doom ∙ h, ver);
        undoomed = λ h g. ⊎_elim
            (λ (z : 4 ≤ stage_of (epoch_of (word s a))). inl (sym doom ∙ h, z, ver))
            (λ (z : stage_of (epoch_of (word s a)) + by ≡ 4). inr (raised_deed a n', (0, omega arith, refl), inl (refl, refl, refl, st ∙ z)))
            (undoomed (omega arith));
        entered = λ b h. inl (let c = changes v.tabs t a old new turns (counts b) in let p = c0 b in let q = c1 b in omega arith);
        met_others = λ b h. let m = meets_others a n' b (set v.tabs t new) h in (m.0, let z = m.1 in let c = changes v.tabs t a old new turns (counts a) in omega arith);
      }

  -- a tab that writes is at an anchor of the table
  writer_inside : (t : ℕ) (w : Writer X) → get_elem? v.tabs t ≡ some (Writing w) → (w.anchor < k.anchors) × (t < inner) × (w.version ≤ version_of (seen_at w.anchor v.seen))
  writer_inside t w was = so.tabs i v at t (Writing w) was

  seen_more : (a e : ℕ) → seen_at a v.seen ≤ seen_at a (Rattle.core_model.specs.declared.view.Sight.TheVariants.Stood a e ∷ v.seen)
  seen_more a e = omega arith

  -- an entry that grows
  to_appending : (t : ℕ) (w : Writer X) → get_elem? v.tabs t ≡ some (Writing w) → w.is_appending ≡ false
      → AnchorsSound k (raised_state t w.anchor (raised (word s w.anchor) (2 - stage_written w)) (Writing record w { is_appending = true }) s.chains)
  to_appending t w was fresh = let there = writer_inside t w was in let lt = there.0 in let h = written_there t w was lt in let one : stage_written w ≡ 1 = ap (λ (b : Bool). cond b 2 1) fresh in
      let st : stage_of (epoch_of (word s w.anchor)) ≡ 1 = h.stage_is ∙ one in
      let by_one : 1 ≡ 2 - stage_written w = omega arith in
      subst (λ (by : ℕ). AnchorsSound k (raised_state t w.anchor (raised (word s w.anchor) by) (Writing record w { is_appending = true }) s.chains)) by_one
      (raises t w.anchor 1 (Writing w) (Writing record w { is_appending = true }) s.chains was lt refl refl (λ b. refl) (λ b. refl) (omega arith) (λ from to. absurd (omega arith))
      (λ u g. let z = written_as w.anchor w refl h u g in let y = appending_now w h st u g in omega arith)
      (λ u d. let z = not_freed st u d in omega arith)
      (lt, there.1, version_up _ _ _ there.2 (seen_more w.anchor _))
      (λ over. absurd (not_over st (stage_of-left_over _ over)))
      refl (λ b ne. refl) (λ low. (omega arith, refl)) (λ high. absurd (omega arith)))
    where
      stage_two : stage_of (epoch_of (word s w.anchor)) ≡ 1 → stage_of (epoch_of (raised (word s w.anchor) 1)) ≡ 2
      stage_two st = stage_of-raised (word s w.anchor) 1 (omega arith) ∙ omega arith

      appending_now : (w : Writer X) → Written w.anchor w → stage_of (epoch_of (word s w.anchor)) ≡ 1 → (u g : ℕ) → written_at (epoch_of (raised (word s w.anchor) 1)) u g ≡ writes w.anchor u g (Writing record w { is_appending = true })
      appending_now w h st u g = let two : stage_of (epoch_of (raised (word s w.anchor) 1)) ≡ 2 = stage_of-raised (word s w.anchor) 1 (omega arith) ∙ omega arith in
          let ver : version_of (epoch_of (raised (word s w.anchor) 1)) ≡ w.version = version_of-raised (word s w.anchor) 1 (omega arith) ∙ h.version_is in
          rw (two, ver, eq-eqb w.anchor w.anchor refl) refl

      not_freed : stage_of (epoch_of (word s w.anchor)) ≡ 1 → (u d : ℕ) → freed_at (epoch_of (raised (word s w.anchor) 1)) u d ≡ freed_at (epoch_of (word s w.anchor)) u d
      not_freed st u d = let two = stage_two st in rw (two, st) refl

      not_over : stage_of (epoch_of (word s w.anchor)) ≡ 1 → (stage_of (epoch_of (raised (word s w.anchor) 1)) ≡ 4) ⊎ (mode_of (epoch_of (raised (word s w.anchor) 1)) ≡ 11) → ⊥
      not_over st h = let two = stage_two st in omega arith

  -- an entry that its writer leaves, at CLOSED or HALTED
  to_end : (t g' : ℕ) (w : Writer X) (chains : List Chain) → get_elem? v.tabs t ≡ some (Writing w) → (g' ≡ 3) ⊎ (g' ≡ 4)
      → length chains ≡ length s.chains → ((b : ℕ) → b ≢ w.anchor → get_or chains b no_chain ≡ chain_of s b) → ((get_or chains w.anchor no_chain).slots ≡ (chain_of s w.anchor).slots)
      → AnchorsSound k (raised_state t w.anchor (raised (word s w.anchor) (g' - stage_written w)) (left_tab w.anchor (raised (word s w.anchor) (g' - stage_written w))) chains)
  to_end t g' w chains was end len else_ slots = let there = writer_inside t w was in let lt = there.0 in let h = written_there t w was lt in
      let n : ℕ = word s w.anchor in let by : ℕ = g' - stage_written w in let few = stage_one_or_two w in let is = h.stage_is in
      let room : stage_of (epoch_of n) + by < 7 = omega arith in let now : stage_of (epoch_of (raised n by)) ≡ g' = stage_of-raised n by room ∙ omega arith in
      let y : IsUncounted w.anchor (left_tab w.anchor (raised n by)) = left_is w.anchor (is_left_over (raised n by)) in
      raises t w.anchor by (Writing w) (left_tab w.anchor (raised n by)) chains was lt refl y.at_a (λ b. refl) (λ b. left_counts b (is_left_over (raised n by)))
      room (λ from to. (omega arith, omega arith))
      (λ u g. let z = written_as w.anchor w refl h u g in let q = y.writes_none u g in let p = unwritten_now n by g' now end u g in omega arith)
      (λ u d. let q = y.frees_none u d in let p = unfreed_now n by g' now end u d in let p' = unfreed_before w h u d in omega arith)
      (left_stands k s i v so at pass (raised_state t w.anchor (raised n by) (left_tab w.anchor (raised n by)) chains) (raised_view t w.anchor (raised n by) (left_tab w.anchor (raised n by))) t w.anchor lt (is_left_over (raised n by)))
      (λ over. rw over refl)
      len else_ (λ low. (omega arith, slots)) (λ high. inr (omega arith))
    where
      left_counts : (b : ℕ) (z : Bool) → counts {X = X} b (cond z (Last w.anchor) Free) ≡ 0
      left_counts b true = refl
      left_counts b false = refl

      unwritten_now : (n by g' : ℕ) → stage_of (epoch_of (raised n by)) ≡ g' → (g' ≡ 3) ⊎ (g' ≡ 4) → (u g : ℕ) → written_at (epoch_of (raised n by)) u g ≡ 0
      unwritten_now n by g' now end u g = ⊎_elim
          (λ (q : g' ≡ 3). let z : stage_of (epoch_of (raised n by)) ≡ 3 = now ∙ q in rw z refl)
          (λ (q : g' ≡ 4). let z : stage_of (epoch_of (raised n by)) ≡ 4 = now ∙ q in rw z refl)
          end

      unfreed_now : (n by g' : ℕ) → stage_of (epoch_of (raised n by)) ≡ g' → (g' ≡ 3) ⊎ (g' ≡ 4) → (u d : ℕ) → freed_at (epoch_of (raised n by)) u d ≡ 0
      unfreed_now n by g' now end u d = ⊎_elim
          (λ (q : g' ≡ 3). let z : stage_of (epoch_of (raised n by)) ≡ 3 = now ∙ q in rw z refl)
          (λ (q : g' ≡ 4). let z : stage_of (epoch_of (raised n by)) ≡ 4 = now ∙ q in rw z refl)
          end

      unfreed_before : (w : Writer X) → Written w.anchor w → (u d : ℕ) → freed_at (epoch_of (word s w.anchor)) u d ≡ 0
      unfreed_before w h u d = let few = stage_one_or_two w in let is = h.stage_is in rw (ne_eqb (stage_of (epoch_of (word s w.anchor))) 5 (λ q. absurd (omega arith))) refl

  -- the word is at FREEING, with the version and the doom that the tab knows
  freed_as : (t : ℕ) (f : Freer X) → get_elem? v.tabs t ≡ some (Freeing f) → f.is_freeing ≡ true → f.anchor < k.anchors
      → (stage_of (epoch_of (word s f.anchor)) ≡ 5) × (version_of (epoch_of (word s f.anchor)) ≡ f.version) × (doom_of (epoch_of (word s f.anchor)) ≡ doom_number f.is_doomed)
  freed_as t f was freeing lt = let q = matches_freed k s so i t f record { view = v; at = at; there = was } freeing in (matches_freer k s so i t f record { view = v; at = at; there = was } freeing, q.version_is, q.doom_is)

  pub freed_there : (t : ℕ) (f : Freer X) → get_elem? v.tabs t ≡ some (Freeing f) → f.is_freeing ≡ true → f.anchor < k.anchors → stage_of (epoch_of (word s f.anchor)) ≡ 5
  freed_there t f was freeing lt = (freed_as t f was freeing lt).0

  -- an entry that was given back
  to_gone : (t : ℕ) (f : Freer X) → get_elem? v.tabs t ≡ some (Freeing f) → f.is_freeing ≡ true
      → AnchorsSound k (raised_state t f.anchor (raised (word s f.anchor) 1) (left_tab f.anchor (raised (word s f.anchor) 1)) s.chains)
  to_gone t f was freeing = let st0 = so.tabs i v at t (Freeing f) was in let lt = st0.0 in let n : ℕ = word s f.anchor in
      let five = freed_there t f was freeing lt in let room : stage_of (epoch_of n) + 1 < 7 = omega arith in let now : stage_of (epoch_of (raised n 1)) ≡ 6 = stage_of-raised n 1 room ∙ omega arith in
      let y : IsUncounted f.anchor (left_tab f.anchor (raised n 1)) = left_is f.anchor (is_left_over (raised n 1)) in
      raises t f.anchor 1 (Freeing f) (left_tab f.anchor (raised n 1)) s.chains was lt refl y.at_a (λ b. refl) (λ b. left_counts b (is_left_over (raised n 1)))
      room (λ from to. absurd (omega arith))
      (λ u g. let q = y.writes_none u g in let p = rw_six now u g in let p' = rw_five five u g in omega arith)
      (λ u d. let q = y.frees_none u d in let p = free_six now u d in let p' = free_five (freed_as t f was freeing lt) u d in omega arith)
      (left_stands k s i v so at pass (raised_state t f.anchor (raised n 1) (left_tab f.anchor (raised n 1)) s.chains) (raised_view t f.anchor (raised n 1) (left_tab f.anchor (raised n 1))) t f.anchor lt (is_left_over (raised n 1)))
      (λ over. rw over refl)
      refl (λ b ne. refl) (λ low. absurd (omega arith)) (λ high. inl (omega arith))
    where
      left_counts : (b : ℕ) (z : Bool) → counts {X = X} b (cond z (Last f.anchor) Free) ≡ 0
      left_counts b true = refl
      left_counts b false = refl

      rw_six : stage_of (epoch_of (raised (word s f.anchor) 1)) ≡ 6 → (u g : ℕ) → written_at (epoch_of (raised (word s f.anchor) 1)) u g ≡ 0
      rw_six now u g = rw now refl

      rw_five : stage_of (epoch_of (word s f.anchor)) ≡ 5 → (u g : ℕ) → written_at (epoch_of (word s f.anchor)) u g ≡ 0
      rw_five five u g = rw five refl

      free_six : stage_of (epoch_of (raised (word s f.anchor) 1)) ≡ 6 → (u d : ℕ) → freed_at (epoch_of (raised (word s f.anchor) 1)) u d ≡ 0
      free_six now u d = rw now refl

      free_five : (stage_of (epoch_of (word s f.anchor)) ≡ 5) × (version_of (epoch_of (word s f.anchor)) ≡ f.version) × (doom_of (epoch_of (word s f.anchor)) ≡ doom_number f.is_doomed) → (u d : ℕ)
          → freed_at (epoch_of (word s f.anchor)) u d ≡ frees f.anchor u d (Freeing f)
      free_five five u d = rw (five.0, five.1, five.2, eq-eqb f.anchor f.anchor refl, freeing) refl

  -- what a raise of the tab leaves, whatever it is
  abbrev raise_result : ℕ → Stage → (ℕ → List Chain) → Tab X → State X
  raise_result t to chains x = raised_state t (anchor_of x) (raised (word s (anchor_of x)) (stage_number to - stage_held x)) (raised_tab x to (raised (word s (anchor_of x)) (stage_number to - stage_held x))) (chains (anchor_of x))

  abbrev halt_chain : ℕ → List Chain
  halt_chain a = set s.chains a (halted (get_or s.chains a no_chain))

  -- a tab that may raise writes, where one that frees may not, and the other way round
  pub only_writer : (P : Writer X → Type 0) (Q : Freer X → Type 0) → ((f : Freer X) → Q f → ⊥) → (x : Tab X) → (OfWriter P x ⊎ OfFreer Q x) → (w : Writer X) × (x ≡ Writing w) × P w
  only_writer P Q no_freer (Writing w) (inl h) = (w, refl, h)
  only_writer P Q no_freer (Writing w) (inr h) = absurd h
  only_writer P Q no_freer (Freeing f) (inl h) = absurd h
  only_writer P Q no_freer (Freeing f) (inr h) = absurd (no_freer f h)
  only_writer P Q no_freer Free (inl h) = absurd h
  only_writer P Q no_freer Free (inr h) = absurd h
  only_writer P Q no_freer (Retreating b) (inl h) = absurd h
  only_writer P Q no_freer (Retreating b) (inr h) = absurd h
  only_writer P Q no_freer (Reading r) (inl h) = absurd h
  only_writer P Q no_freer (Reading r) (inr h) = absurd h
  only_writer P Q no_freer (Last b) (inl h) = absurd h
  only_writer P Q no_freer (Last b) (inr h) = absurd h

  pub only_freer : (P : Writer X → Type 0) (Q : Freer X → Type 0) → ((w : Writer X) → P w → ⊥) → (x : Tab X) → (OfWriter P x ⊎ OfFreer Q x) → (f : Freer X) × (x ≡ Freeing f) × Q f
  only_freer P Q no_writer (Writing w) (inl h) = absurd (no_writer w h)
  only_freer P Q no_writer (Writing w) (inr h) = absurd h
  only_freer P Q no_writer (Freeing f) (inl h) = absurd h
  only_freer P Q no_writer (Freeing f) (inr h) = (f, refl, h)
  only_freer P Q no_writer Free (inl h) = absurd h
  only_freer P Q no_writer Free (inr h) = absurd h
  only_freer P Q no_writer (Retreating b) (inl h) = absurd h
  only_freer P Q no_writer (Retreating b) (inr h) = absurd h
  only_freer P Q no_writer (Reading r) (inl h) = absurd h
  only_freer P Q no_writer (Reading r) (inr h) = absurd h
  only_freer P Q no_writer (Last b) (inl h) = absurd h
  only_freer P Q no_writer (Last b) (inr h) = absurd h

  abbrev Writes : Stage → Writer X → Type 0
  Writes to w = MayRaise w to × StartsRight k s w

  abbrev Ends : Stage → Freer X → Type 0
  Ends to f = MayEnd f to

  as_tab : (t : ℕ) (x y : Tab X) → x ≡ y → get_elem? v.tabs t ≡ some x → get_elem? v.tabs t ≡ some y
  as_tab t x y e h = h ∙ ap some e

  raise_appending : (t : ℕ) (x : Tab X) → get_elem? v.tabs t ≡ some x → (OfWriter (Writes Appending) x ⊎ OfFreer (Ends Appending) x) → AnchorsSound k (raise_result t Appending (λ _. s.chains) x)
  raise_appending t x was may = let q = only_writer (Writes Appending) (Ends Appending) (λ f h. h) x may in
      subst (λ (z : Tab X). AnchorsSound k (raise_result t Appending (λ _. s.chains) z)) (sym q.1) (to_appending t q.0 (as_tab t x (Writing q.0) q.1 was) q.2.0.0)

  raise_closed : (t : ℕ) (x : Tab X) → get_elem? v.tabs t ≡ some x → (OfWriter (Writes Closed) x ⊎ OfFreer (Ends Closed) x) → AnchorsSound k (raise_result t Closed (λ _. s.chains) x)
  raise_closed t x was may = let q = only_writer (Writes Closed) (Ends Closed) (λ f h. h) x may in
      subst (λ (z : Tab X). AnchorsSound k (raise_result t Closed (λ _. s.chains) z)) (sym q.1) (to_end t 3 q.0 s.chains (as_tab t x (Writing q.0) q.1 was) (inl refl) refl (λ b ne. refl) refl)

  raise_halted : (t : ℕ) (x : Tab X) → get_elem? v.tabs t ≡ some x → (OfWriter (Writes Halted) x ⊎ OfFreer (Ends Halted) x) → AnchorsSound k (raise_result t Halted halt_chain x)
  raise_halted t x was may = let q = only_writer (Writes Halted) (Ends Halted) (λ f h. h) x may in let a : ℕ = q.0.anchor in let c : Chain = halted (get_or s.chains a no_chain) in
      subst (λ (z : Tab X). AnchorsSound k (raise_result t Halted halt_chain z)) (sym q.1)
      (to_end t 4 q.0 (halt_chain a) (as_tab t x (Writing q.0) q.1 was) (inr refl) (length-set s.chains a c) (λ b ne. get_or-set_other s.chains a b c no_chain ne)
      (ap Chain.slots (get_or-set_same s.chains a c no_chain (let l = so.shaped.chains in let z = (writer_inside t q.0 (as_tab t x (Writing q.0) q.1 was)).0 in omega arith))))

  raise_gone : (t : ℕ) (x : Tab X) → get_elem? v.tabs t ≡ some x → (OfWriter (Writes Gone) x ⊎ OfFreer (Ends Gone) x) → AnchorsSound k (raise_result t Gone (λ _. s.chains) x)
  raise_gone t x was may = let q = only_freer (Writes Gone) (Ends Gone) (λ w h. h.0) x may in
      subst (λ (z : Tab X). AnchorsSound k (raise_result t Gone (λ _. s.chains) z)) (sym q.1) (to_gone t q.0 (as_tab t x (Freeing q.0) q.1 was) q.2.0)

  pub tab_was : (t : ℕ) → t ≤ inner → get_elem? v.tabs t ≡ some (tab_at v t)
  tab_was t le = tab_there v t (tab_at v t) (let p = pass in omega arith) refl

  pub raise_kept : (t : ℕ) (to : Stage) → Allowed k s v (Raise t to) → AnchorsSound k (after k s i v (Raise t to))
  raise_kept t Appending may = raise_appending t (tab_at v t) (tab_was t may.0) may.1
  raise_kept t Closed may = raise_closed t (tab_at v t) (tab_was t may.0) may.1
  raise_kept t Halted may = raise_halted t (tab_at v t) (tab_was t may.0) may.1
  raise_kept t Gone may = raise_gone t (tab_at v t) (tab_was t may.0) may.1
  raise_kept t Empty may = absurd (let q = only_writer (Writes Empty) (Ends Empty) (λ f h. h) (tab_at v t) may.1 in q.2.0)
  raise_kept t Taken may = absurd (let q = only_writer (Writes Taken) (Ends Taken) (λ f h. h) (tab_at v t) may.1 in q.2.0)
  raise_kept t FreeingStage may = absurd (let q = only_writer (Writes FreeingStage) (Ends FreeingStage) (λ f h. h) (tab_at v t) may.1 in q.2.0)

  -- a tab that reads is counted
  pub reads_counted : (x : Tab X) → is_reading x ≡ true → is_counted x ≡ true
  reads_counted Free h = cc
  reads_counted (Retreating a) h = refl
  reads_counted (Reading r) h = refl
  reads_counted (Writing w) h = cc
  reads_counted (Last a) h = cc
  reads_counted (Freeing f) h = cc

  dooms : (t a : ℕ) (old : Tab X) → get_elem? v.tabs t ≡ some old → is_reading old ≡ true → anchor_of old ≡ a
      → AnchorsSound k (moved s i (stepped v a (doomed (word s a)) (epoch_of (doomed (word s a))) v.tabs v.held (record { kind = Doomed; at = a; found = doomed (word s a) }) (deed_of v Doomed a (doomed (word s a)) false ∷ []) (meets a (doomed (word s a)) v.tabs)) a (doomed (word s a)) s.chains)
  dooms t a old was reads from = let c = counted_there k s i v so at pass t a old was (reads_counted old reads) from in let lt = c.0 in
      let n : ℕ = word s a in let n' : ℕ = doomed n in let some_reader = has_reader k s i v so at pass t a old was lt c.1.counts_one in
      let item : Item = record { kind = Doomed; at = a; found = n' } in let deed : Deed = deed_of v Doomed a n' false in let met : List ℕ = meets a n' v.tabs in
      let readers = readers_of-doomed n in let rises = epoch_of-doomed n in let ver = version_of-doomed n in let st = stage_of-doomed n in
      let tb = no_tab k s i v so at pass a n' (epoch_of n') v.held item (deed ∷ []) met s.chains readers (λ u g. same_writing u g (written-doomed n) ver st) (λ u d. same_freeing u d st (unfreed_reader old reads (so.tabs i v at t old was))) in
      at_anchor k s i v so at a n' (epoch_of n') v.tabs v.held item (deed ∷ []) met s.chains record {
        inside = lt;
        good = is_word-doomed n (so.shaped.anchors a lt);
        rises = rises;
        is_pass = pass;
        length_same = tb.length_same;
        sees = refl;
        item_at = refl;
        tells = refl;
        no_draw = refl;
        no_count = λ _ _. refl;
        found = omega arith;
        held_before = λ u h. (h, refl);
        readers = tb.readers;
        writers = tb.writers;
        freers = tb.freers;
        readers_else = tb.readers_else;
        writers_else = tb.writers_else;
        freers_else = tb.freers_else;
        steady = inr (ver, λ from to. (omega arith, omega arith));
        stand = tb.stand;
        lasts = λ over. absurd (let z = readers_of-left_over n' over in omega arith);
        lasts_else = tb.lasts_else;
        version = inl ver;
        chain_count = refl;
        chain_else = λ b ne. refl;
        chain_here = λ _ low. (omega arith, refl);
        left = inr (deed, (0, omega arith, refl), ((refl, inr (inr refl)), refl));
        doomed = λ h. inr (deed, (0, omega arith, refl), (refl, refl, refl));
        undoomed = λ h g. absurd (let z = doom_of-doomed n in omega arith);
        entered = λ b h. inl h;
        met_others = λ b h. let m = meets_others a n' b v.tabs h in (m.0, let z = m.1 in omega arith);
      }
    where
      same_writing : (u g : ℕ) → is_written (epoch_of (doomed (word s a))) ≡ is_written (epoch_of (word s a)) → version_of (epoch_of (doomed (word s a))) ≡ version_of (epoch_of (word s a)) → stage_of (epoch_of (doomed (word s a))) ≡ stage_of (epoch_of (word s a))
          → written_at (epoch_of (doomed (word s a))) u g ≡ written_at (epoch_of (word s a)) u g
      same_writing u g w ver st = rw (w, ver, st) refl

      -- nobody frees where a tab reads
      unfreed_reader : (x : Tab X) → is_reading x ≡ true → TabStands k s v t x → stage_of (epoch_of (word s (anchor_of x))) ≤ 4
      unfreed_reader Free h st = cc
      unfreed_reader (Retreating b) h st = cc
      unfreed_reader (Reading r) h st = st.1.to
      unfreed_reader (Writing w) h st = cc
      unfreed_reader (Last b) h st = cc
      unfreed_reader (Freeing f) h st = cc

      same_freeing : (u d : ℕ) → stage_of (epoch_of (doomed (word s a))) ≡ stage_of (epoch_of (word s a)) → stage_of (epoch_of (word s (anchor_of old))) ≤ 4 → freed_at (epoch_of (doomed (word s a))) u d ≡ freed_at (epoch_of (word s a)) u d
      same_freeing u d st low = let few = ap (λ (b : ℕ). stage_of (epoch_of (word s b))) from in rw (st, ne_eqb (stage_of (epoch_of (word s a))) 5 (λ q. absurd (omega arith))) refl

  pub doom_kept : (t : ℕ) → Allowed k s v (Doom t) → AnchorsSound k (after k s i v (Doom t))
  doom_kept t may = dooms t (anchor_of (tab_at v t)) (tab_at v t) (tab_was t may.0) may.1 refl
