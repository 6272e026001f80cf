-- What a state of a pass tells: where the slots of a chain are, and, of a lone pass, that its words and its chains are those that the pass knows.
use Rattle.std.proofs.Common.{Contains, List, [], ap, arith, inl, inr, length, ne_eqb, refl, subst, sum_by, sym, true, ◌++◌, ◌==◌, ◌+◌, ◌*◌, ◌-◌, ◌/◌, ◌<◌, ◌≤◌, ◌∙◌, ◌≡◌, ◌≢◌, ◌⊎◌, ◌∷◌, ℕ, cond, eq-eqb}
use Rattle.std.proofs.lemmas.List.Elements.{Contains-append_cases, Contains-append_left, Contains-append_right}
use Rattle.std.proofs.lemmas.List.Sums.{sum_by-cons}
use mathlib.Core.Logic.{dite}
use mathlib.Core.Option.{some, some-injective}
use native.Mathlib.Decide.{ℕ_discrete}
use lib.ListN.{get_elem?}
use Rattle.link_word.specs.Map.{taken_in}
use Rattle.link_word.specs.declared.link.Link.{Link as LinkOf}
use Rattle.link_word.specs.declared.link.Link.TheVariants.{Last as LastLink, Next, NotWritten}
use Rattle.lock_word.specs.Words.{epoch_of, is_written, stage_of}
use Rattle.core_model.specs.Chains.{EndsUnwritten, IsSpelled, Spells, Tied, no_chain, rest_of, slots_of_link, start_number, times}
use Rattle.core_model.specs.Holders.{IsTab}
use Rattle.core_model.specs.Layout.{IsPlace, Setting, index, word_in}
use Rattle.core_model.specs.Slots.{ChainStands, WriterHolds, held_in, published_in, resting_in, slot_words, standing_in, used}
use Rattle.core_model.specs.Spots.{IsIn}
use Rattle.core_model.specs.State.{State, chain_of, word}
use Rattle.core_model.specs.Tabs.{IsPass, count, inner, tab_at}
use Rattle.core_model.specs.Anchors.{tabs_in}
use Rattle.core_model.specs.declared.chain.Chain.{Chain}
use Rattle.core_model.specs.declared.moves.Side.TheVariants.{Start}
use Rattle.core_model.specs.declared.spot.Spot.{Spot}
use Rattle.core_model.specs.declared.spot.Spot.TheVariants.{Chained, Free as FreeSpot, Reserved, Resting}
use Rattle.core_model.specs.declared.tab.Freer.{Freer}
use Rattle.core_model.specs.declared.tab.Tab.{Tab}
use Rattle.core_model.specs.declared.tab.Tab.TheVariants.{Freeing, Writing}
use Rattle.core_model.specs.declared.tab.Writer.{Writer}
use Rattle.core_model.specs.declared.view.Place.{Place}
use Rattle.core_model.specs.declared.view.Place.TheVariants.{Beside, Link, Map}
use Rattle.core_model.specs.declared.view.View.{View}
use Rattle.core_model.proofs.Lists.{at_index, cons_contains, contains_none, le_sum_at, sum_mono, two_le_sum}
use Rattle.core_model.proofs.Matching.{has_writer}
use Rattle.core_model.proofs.OneSpot.{one_spot, unwritten}
use Rattle.core_model.proofs.SlotFrame.{used_few, used_some}
use Rattle.core_model.proofs.Tabs.{contains_times, tab_there}
use Rattle.core_model.proofs.Telling.{told_in, told_out}
use Rattle.store_rule.specs.Ground.{Ground, Rule}
use Rattle.store_rule.specs.Words.{has}
use Rattle.store_rule.proofs.MyWords.{word_alone}
use Rattle.plain_runs.specs.Words.{IsLone, link_known}

module _ {A : Type 0} where
  sum_plus : (f g : A → ℕ) (xs : List A) → sum_by (λ x. f x + g x) xs ≡ sum_by f xs + sum_by g xs
  sum_plus f g [] = omega arith
  sum_plus f g (x ∷ xs) = let a = sum_by-cons (λ x. f x + g x) x xs in let b = sum_by-cons f x xs in let c = sum_by-cons g x xs in let h = sum_plus f g xs in omega arith

abbrev no_tabs : List (Tab (List ℕ))
no_tabs = []

-- a tab that the pass has is one of the state
pub own_tab : (s : State (List ℕ)) (i : ℕ) (v : View (List ℕ)) → get_elem? s.views i ≡ some v → IsPass v → (t : ℕ) (tab : Tab (List ℕ)) → t ≤ inner → tab_at v t ≡ tab → IsTab s i t tab
own_tab s i v at pass t tab le e = record { view = v; at = at; there = tab_there v t tab (let nine = pass in omega arith) e }

module _ (g : Ground (List ℕ)) (s : State (List ℕ)) (rule : Rule g s) where
  abbrev k : Setting (List ℕ)
  k = g.setting

  abbrev stage_at : ℕ → ℕ
  stage_at a = stage_of (epoch_of (word s a))

  stage_is : (a : ℕ) → a < k.anchors → (slot_words k s.words).stage a ≡ stage_at a
  stage_is a lt = ap (λ z. stage_of (epoch_of z)) (told_in k.anchors a _ lt)

  stands : (a : ℕ) → a < k.anchors → ChainStands ((slot_words k s.words).stage a) ((slot_words k s.words).start a) (slot_words k s.words).link (chain_of s a)
  stands a lt = rule.sound.slots.stand a lt

  -- the chain of a writing tab's anchor is what it published
  pub writer_holds : (j t : ℕ) (w : Writer (List ℕ)) → IsTab s j t (Writing w) → WriterHolds ((slot_words k s.words).beside w.anchor) (chain_of s w.anchor) w
  writer_holds j t w x = rule.sound.slots.tabs j x.view x.at t (Writing w) x.there

  -- a slot that something has is one of the table
  inside : (x : ℕ) → 0 < sum_by (count (held_in x)) s.views + sum_by (standing_in x) s.chains → x < k.slots
  inside x h = dite (ℕ_discrete (k.slots - x) 0)
      (λ e. absurd (let o = rule.sound.slots.places.taken x in let z : used ((slot_words k s.words).taken x) ≡ 0 = ap used (told_out k.slots x _ (omega arith)) in omega arith))
      (λ ne. omega arith)

  pub standing_inside : (a x : ℕ) → a < k.anchors → Contains ((chain_of s a).slots ++ (chain_of s a).tail) x → x < k.slots
  standing_inside a x lt c = inside x (let l = le_sum_at (standing_in x) s.chains a (chain_of s a) (chain_there a lt) in let n = counted (Contains-append_cases (chain_of s a).slots (chain_of s a).tail x c) in omega arith)
    where
      chain_there : (b : ℕ) → b < k.anchors → get_elem? s.chains b ≡ some (chain_of s b)
      chain_there b lt = at_index s.chains b (chain_of s b) no_chain (let m = rule.sound.anchors.shaped.chains in omega arith) refl

      counted : Contains (chain_of s a).slots x ⊎ Contains (chain_of s a).tail x → 0 < standing_in x (chain_of s a)
      counted (inl h) = let z = contains_times x (chain_of s a).slots h in omega arith
      counted (inr h) = let z = contains_times x (chain_of s a).tail h in omega arith

  pub reserved_inside : (j t x : ℕ) (w : Writer (List ℕ)) → IsTab s j t (Writing w) → Contains w.reserved x → x < k.slots
  reserved_inside j t x w h c = inside x (let z = contains_times x w.reserved c in let a = le_sum_at (held_in x) h.view.tabs t (Writing w) h.there in let b = le_sum_at (count (held_in x)) s.views j h.view h.at in omega arith)

  -- Where a slot of a chain is, or the one that its end names: in the chain, or reserved by the tab that writes there.
  abbrev pub IsOf : ℕ → Spot → Type 0
  IsOf a (Chained b) = b ≡ a
  IsOf a (Reserved j t) = (w : Writer (List ℕ)) × IsTab s j t (Writing w) × (w.anchor ≡ a)
  IsOf a _ = ⊥

  pub record SpotOf (a x : ℕ) : Type 0 where
    pub there : x < k.slots
    pub spot : Spot
    pub is_in : IsIn k s x spot
    pub of : IsOf a spot

  named_by : (x : ℕ) (e : LinkOf) → Contains (slots_of_link e) x → e ≡ Next x
  named_by x NotWritten c = absurd (contains_none x c)
  named_by x LastLink c = absurd (contains_none x c)
  named_by x (Next y) c = ap Next (only_one (cons_contains y x [] c))
    where
      only_one : (y ≡ x) ⊎ Contains [] x → y ≡ x
      only_one (inl e) = e
      only_one (inr none) = absurd (contains_none x none)

  -- the slot that the end of a chain names is its tail, or reserved by the tab that writes there
  pub record ReservedAt (a x : ℕ) : Type 0 where
    pub j : ℕ
    pub t : ℕ
    pub writer : Writer (List ℕ)
    pub is_tab : IsTab s j t (Writing writer)
    pub anchor_is : writer.anchor ≡ a
    pub reserved : Contains writer.reserved x

  module _ (a : ℕ) (lt : a < k.anchors) where
    abbrev c : Chain
    c = chain_of s a

    stage_here : (slot_words k s.words).stage a ≡ stage_at a
    stage_here = stage_is a lt

    by_writer : (x : ℕ) → c.end ≡ Next x → is_written (epoch_of (word s a)) ≡ true → ReservedAt a x
    by_writer x e h = let w = has_writer k s rule.sound.anchors a lt h in let holds = writer_holds w.i w.t w.writer w.tab in record {
      j = w.i;
      t = w.t;
      writer = w.writer;
      is_tab = w.tab;
      anchor_is = w.anchor_is;
      reserved = first (tied w.writer.end w.writer.published w.writer.reserved (sym (ap (λ (z : Chain). z.end) holds.chain) ∙ ap (λ (z : ℕ). (chain_of s z).end) w.anchor_is ∙ e) holds.tied);
    }
      where
        tied : (e : LinkOf) (published reserved : List ℕ) → e ≡ Next x → Tied e published reserved → reserved ≡ x ∷ rest_of reserved
        tied e published reserved is h = subst (λ (z : LinkOf). Tied z published reserved) is h

        first : {reserved : List ℕ} → reserved ≡ x ∷ rest_of reserved → Contains reserved x
        first e = subst (λ (z : List ℕ). Contains z x) (sym e) (0, omega arith, refl)

    pub end_spot : (x : ℕ) → c.end ≡ Next x → Contains c.tail x ⊎ ReservedAt a x
    end_spot x e = dite (ℕ_discrete (stage_at a) 4)
        (λ is. inl (in_tail ((stands a lt).tails ∙ (let b = eq-eqb _ 4 (stage_here ∙ is) in rw b refl))))
        (λ ne. dite (ℕ_discrete (stage_at a) 1) (λ is. inr (by_writer x e (let b = eq-eqb _ 1 is in rw b refl)))
        (λ na. dite (ℕ_discrete (stage_at a) 2) (λ is. inr (by_writer x e (let f = ne_eqb _ 1 na in let b = eq-eqb _ 2 is in rw (f, b) refl)))
        (λ nb. dite (ℕ_discrete (stage_at a) 3) (λ is. absurd (no_next_last x (sym e ∙ (stands a lt).closed (stage_here ∙ is))))
        (λ nc. absurd (no_next_none x (sym e ∙ ap (λ (z : Chain). z.end) ((stands a lt).gone (gone ne na nb nc))))))))
      where
        in_tail : c.tail ≡ slots_of_link c.end → Contains c.tail x
        in_tail h = subst (λ (z : List ℕ). Contains z x) (sym (h ∙ ap slots_of_link e)) (0, omega arith, refl)

        gone : stage_at a ≢ 4 → stage_at a ≢ 1 → stage_at a ≢ 2 → stage_at a ≢ 3 → ((slot_words k s.words).stage a ≡ 0) ⊎ (5 ≤ (slot_words k s.words).stage a)
        gone ne na nb nc = dite (ℕ_discrete (stage_at a) 0) (λ z. inl (stage_here ∙ z)) (λ nz. inr (let h = stage_here in omega arith))

        no_next_last : (x : ℕ) → Next x ≡ LastLink → ⊥
        no_next_last x e = cc

        no_next_none : (x : ℕ) → Next x ≡ NotWritten → ⊥
        no_next_none x e = cc

    pub spot_of : (x : ℕ) → Contains (c.slots ++ slots_of_link c.end) x → SpotOf a x
    spot_of x h = of_case (Contains-append_cases c.slots (slots_of_link c.end) x h)
      where
        chained : Contains (c.slots ++ c.tail) x → SpotOf a x
        chained m = record { there = standing_inside a x lt m; spot = Chained a; is_in = (lt, m); of = refl }

        of_end : Contains c.tail x ⊎ ReservedAt a x → SpotOf a x
        of_end (inl m) = chained (Contains-append_right c.slots c.tail x m)
        of_end (inr r) = record { there = reserved_inside r.j r.t x r.writer r.is_tab r.reserved; spot = Reserved r.j r.t; is_in = (r.writer, r.is_tab, r.reserved); of = (r.writer, r.is_tab, r.anchor_is) }

        of_case : Contains c.slots x ⊎ Contains (slots_of_link c.end) x → SpotOf a x
        of_case (inl m) = chained (Contains-append_left c.slots c.tail x m)
        of_case (inr m) = of_end (end_spot x (named_by x c.end m))

    -- the tail of a chain has no link
    tail_unwritten : (x : ℕ) → Contains c.tail x → (slot_words k s.words).link x ≡ 0
    tail_unwritten x m = none_used ((slot_words k s.words).link x) (let o = rule.sound.slots.places.taken x in let l = rule.sound.slots.places.links x in let f = used_few ((slot_words k s.words).taken x) in
        let z = contains_times x c.tail m in let t = le_sum_at (λ (y : Chain). times x y.tail) s.chains a c (at_index s.chains a c no_chain (let many = rule.sound.anchors.shaped.chains in omega arith) refl) in
        let p = sum_plus (published_in x) (λ (y : Chain). times x y.tail) s.chains in
        let r = sum_mono (count (resting_in x)) (count (held_in x)) (λ u. sum_mono (resting_in x) (held_in x) less u.tabs) s.views in omega arith)
      where
        none_used : (n : ℕ) → used n ≡ 0 → n ≡ 0
        none_used n h = dite (ℕ_discrete n 0) (λ e. e) (λ ne. absurd (let u = used_some n (positive n ne) in omega arith))
          where
            positive : (n : ℕ) → n ≢ 0 → 0 < n
            positive n ne = omega arith

        less : (tab : Tab (List ℕ)) → resting_in x tab ≤ held_in x tab
        less tab = omega arith

    pub end_unwritten : (x : ℕ) → c.end ≡ Next x → (slot_words k s.words).link x ≡ 0
    end_unwritten x e = of_spot (end_spot x e)
      where
        of_spot : Contains c.tail x ⊎ ReservedAt a x → (slot_words k s.words).link x ≡ 0
        of_spot (inl m) = tail_unwritten x m
        of_spot (inr r) = let there = reserved_inside r.j r.t x r.writer r.is_tab r.reserved in
            told_in k.slots x _ there ∙ unwritten k s rule.sound.anchors.shaped rule.sound.slots x there (Reserved r.j r.t) tt (r.writer, r.is_tab, r.reserved)

    -- where an entry may be read or was given up the Start word names the first slot of its chain
    pub chain_starts : 2 ≤ stage_at a → stage_at a ≤ 4 → (slot_words k s.words).start a ≡ start_number c.slots
    chain_starts least most = (stands a lt).starts (let e = stage_here in omega arith) (let e = stage_here in omega arith)

    pub tail_is : c.tail ≡ cond (stage_at a == 4) (slots_of_link c.end) []
    tail_is = (stands a lt).tails ∙ ap (λ z. cond (z == 4) (slots_of_link c.end) []) stage_here

    -- A slot of it is not being given back, and no tab that writes at another anchor has it.
    pub not_resting : (x j t : ℕ) (f : Freer (List ℕ)) → Contains (c.slots ++ slots_of_link c.end) x → IsTab s j t (Freeing f) → Contains f.rest x → ⊥
    not_resting x j t f m tab rests = let y = spot_of x m in let one = one_spot k s rule.sound.anchors.shaped rule.sound.slots x y.there in
        differ y.spot (one.only y.spot y.is_in ∙ sym (one.only (Resting j t) (f, tab, rests))) y.of
      where
        differ : (y : Spot) → y ≡ Resting j t → IsOf a y → ⊥
        differ y e h = subst (IsOf a) e h

    pub not_reserved : (x j t : ℕ) (w : Writer (List ℕ)) → Contains (c.slots ++ slots_of_link c.end) x → IsTab s j t (Writing w) → w.anchor ≢ a → Contains w.reserved x → ⊥
    not_reserved x j t w m tab other reserved = let y = spot_of x m in let one = one_spot k s rule.sound.anchors.shaped rule.sound.slots x y.there in
        differ (subst (IsOf a) (one.only y.spot y.is_in ∙ sym (one.only (Reserved j t) (w, tab, reserved))) y.of)
      where
        differ : IsOf a (Reserved j t) → ⊥
        differ (u, there, anchor_is) = other (same_anchor (some-injective (Writing w) (Writing u) (sym tab.there ∙ ap (λ (z : View (List ℕ)). get_elem? z.tabs t) (some-injective tab.view there.view (sym tab.at ∙ there.at)) ∙ there.there)) ∙ anchor_is)
          where
            same_anchor : Writing w ≡ Writing u → w.anchor ≡ u.anchor
            same_anchor e = ap (λ (z : Writer (List ℕ)). z.anchor) (writing_is e)
              where
                writing_is : Writing w ≡ Writing u → w ≡ u
                writing_is e = cc

    -- nor is it free, nor in the chain of another anchor
    pub not_free : (x : ℕ) → Contains (c.slots ++ slots_of_link c.end) x → taken_in (word_in k s.words (Map (x / 64))) x ≢ 0
    not_free x m none = let y = spot_of x m in let one = one_spot k s rule.sound.anchors.shaped rule.sound.slots x y.there in
        differ y.spot (one.only y.spot y.is_in ∙ sym (one.only FreeSpot none)) y.of
      where
        differ : (y : Spot) → y ≡ FreeSpot → IsOf a y → ⊥
        differ y e h = subst (IsOf a) e h

module _ (g : Ground (List ℕ)) (lone : IsLone g) (s : State (List ℕ)) (i : ℕ) (v : View (List ℕ)) (rule : Rule g s) (at : get_elem? s.views i ≡ some v) (pass : IsPass v) where
  -- each word is as the pass knows it
  pub word_is : (q : Place) → IsPlace g.setting q → word_in g.setting s.words q ≡ has g v q
  word_is q here = word_alone g lone s i v rule at pass q here

  pub link_is : (j : ℕ) → (slot_words g.setting s.words).link j ≡ link_known g v j
  link_is j = dite (ℕ_discrete (g.setting.slots - j) 0)
      (λ e. told_out g.setting.slots j _ (omega arith) ∙ sym (told_out g.setting.slots j _ (omega arith)))
      (λ less. told_in g.setting.slots j _ (omega arith) ∙ word_is (Link j) (omega arith) ∙ sym (told_in g.setting.slots j _ (omega arith)))

  links_are : (slot_words g.setting s.words).link ≡ link_known g v
  links_are = λ d j. link_is j d

  -- no other view has a tab
  pub other_views : (j : ℕ) (u : View (List ℕ)) → get_elem? s.views j ≡ some u → j ≢ i → u.tabs ≡ []
  other_views j u there ne = none u.tabs (let two = two_le_sum tabs_in s.views i j v u at there ne in let all = rule.sound.anchors.shaped.tabs in let nine = pass in let one = lone in few two all nine one)
    where
      few : {x y n p : ℕ} → x + y ≤ n → n ≡ 9 * p → x ≡ 9 → p ≡ 1 → y ≡ 0
      few two all nine one = omega arith

      none : (xs : List (Tab (List ℕ))) → length xs ≡ 0 → xs ≡ []
      none [] e = refl
      none (x ∷ xs) e = absurd (omega arith)

  -- a tab that some view has is one of the pass
  pub only_tabs : (j t : ℕ) (tab : Tab (List ℕ)) → IsTab s j t tab → (j ≡ i) × (get_elem? v.tabs t ≡ some tab)
  only_tabs j t tab x = dite (ℕ_discrete j i)
      (λ e. (e, subst (λ (u : View (List ℕ)). get_elem? u.tabs t ≡ some tab) (some-injective x.view v (sym x.at ∙ ap (get_elem? s.views) e ∙ at)) x.there))
      (λ ne. absurd (nothing_in (other_views j x.view x.at ne) x.there))
    where
      nothing_in : x.view.tabs ≡ [] → get_elem? x.view.tabs t ≡ some tab → ⊥
      nothing_in none there = let h = ap (λ (z : List (Tab (List ℕ))). get_elem? z t) none in no_item (sym h ∙ there)
        where
          no_item : get_elem? no_tabs t ≡ some tab → ⊥
          no_item e = cc

  -- What the words that the pass knows spell is the chain, where the Start word names its first slot.
  module _ (a : ℕ) (lt : a < g.setting.anchors) where
    abbrev known : Chain
    known = chain_of s a

    ends : (e : LinkOf) → known.end ≡ e → EndsUnwritten (link_known g v) e
    ends NotWritten is = tt
    ends LastLink is = tt
    ends (Next x) is = sym (link_is x) ∙ end_unwritten g s rule a lt x is

    pub chain_spelled : has g v (Beside Start a) ≡ start_number known.slots → IsSpelled (has g v (Beside Start a)) (link_known g v) known.slots known.end
    chain_spelled starts = let h = stands g s rule a lt in record { starts = starts; spelled = subst (λ (f : ℕ → ℕ). Spells f known.slots known.end) links_are h.spelled; fits = h.fits; ends = ends known.end refl }
