-- Anchors that are left to a pass are its own, also where a store has several passes.
use Rattle.std.proofs.Common.{Contains, List, ap, arith, cond, false, inl, inr, nat_lt, refl, subst, sym, true, ⊎_elim, ◌++◌, ◌*◌, ◌/◌, ◌<◌, ◌==◌, ◌∙◌, ◌≡◌, ◌≢◌, ◌⊎◌, ℕ}
use Rattle.std.proofs.lemmas.Bool.Decides.{nat_tests}
use Rattle.std.proofs.lemmas.List.Elements.{Contains-append_left, Contains-append_right}
use mathlib.Core.Option.{some, some-injective}
use lib.ListN.{get_elem?}
use Rattle.link_word.specs.declared.link.Link.{Link as LinkOf}
use Rattle.link_word.specs.declared.link.Link.TheVariants.{Last as LastLink, Next, NotWritten}
use Rattle.core_model.specs.Chains.{EndsUnwritten, IsSpelled, start_number}
use Rattle.core_model.specs.Holders.{IsTab}
use Rattle.core_model.specs.Layout.{IsPlace, index, word_in}
use Rattle.core_model.specs.SlotMoves.{IsFront, IsNext}
use Rattle.core_model.specs.Slots.{ChainStands, slot_words}
use Rattle.core_model.specs.State.{chain_of}
use Rattle.core_model.specs.Tabs.{IsPass, OfFreer, OfReader, anchor_of, is_free, tab_at}
use Rattle.core_model.specs.declared.chain.Chain.{Chain}
use Rattle.core_model.specs.declared.moves.Move.TheVariants.{GetLink}
use Rattle.core_model.specs.declared.moves.Side.TheVariants.{Key0, Key1, Offer, Start}
use Rattle.core_model.specs.declared.tab.Tab.{Tab}
use Rattle.core_model.specs.declared.tab.Tab.TheVariants.{Free, Freeing, Last, Reading, Retreating, Writing}
use Rattle.core_model.specs.declared.view.Place.{Place}
use Rattle.core_model.specs.declared.view.Place.TheVariants.{Anchor, Beside, Counter, Link, LogCounter, Map, Turn}
use Rattle.core_model.specs.declared.view.View.{View}
use Rattle.core_model.proofs.SlotsOpened.{spells_alike}
use Rattle.core_model.proofs.Telling.{told_in}
use Rattle.core_alone.specs.Alone.{IsTabAt, KnowsAlone}
use Rattle.core_alone.proofs.Finding.{has_tabs}
use Rattle.store_rule.specs.Ground.{Ground, left_to}
use Rattle.store_rule.specs.Told.{Stands, Steps}
use Rattle.store_rule.specs.Words.{Mine, has, is_mine}
use Rattle.store_rule.proofs.MyWords.{looked_known}
use Rattle.plain_runs.specs.Words.{Lot, link_known}
use Rattle.plain_runs.proofs.Chains.{ReservedAt, end_spot, end_unwritten, reserved_inside, standing_inside}
use Rattle.plain_runs.proofs.OwnAnchors.{IsOfAnchor, OwnsAnchor, OwnsLot}

-- a tab that is not free is at its anchor
at_its_anchor : (x : Tab (List ℕ)) → (x ≡ Free → ⊥) → IsTabAt x (anchor_of x)
at_its_anchor Free ne = absurd (ne refl)
at_its_anchor (Retreating a) ne = refl
at_its_anchor (Reading r) ne = refl
at_its_anchor (Writing w) ne = refl
at_its_anchor (Last a) ne = refl
at_its_anchor (Freeing f) ne = refl

used_there : (x : Tab (List ℕ)) → is_free x ≡ false → x ≡ Free → ⊥
used_there x used e = absurd (free_used (subst (λ (z : Tab (List ℕ)). is_free z ≡ false) e used))
  where
    free_used : true ≡ false → ⊥
    free_used q = cc

module _ (g : Ground (List ℕ)) (pass a : ℕ) (lt : a < g.setting.anchors) (left : left_to g pass a ≡ true) where
  -- its words are in the row of the anchor
  in_row : (word : ℕ) → word < 5 * g.setting.anchors → word / 5 ≡ a → is_mine g pass word ≡ true
  in_row word low row = let t : nat_lt word (5 * g.setting.anchors) ≡ true = grind (arith, nat_tests) in
      (λ i. cond (t i) (left_to g pass (row i)) (g.setting.passes == 1)) ∙ left

  row_of : (q : Place) → IsOfAnchor a q → (index g.setting q < 5 * g.setting.anchors) × (index g.setting q / 5 ≡ a)
  row_of (Anchor b) e = (omega arith, omega arith)
  row_of (Beside Key0 b) e = (omega arith, omega arith)
  row_of (Beside Key1 b) e = (omega arith, omega arith)
  row_of (Beside Offer b) e = (omega arith, omega arith)
  row_of (Beside Start b) e = (omega arith, omega arith)
  row_of (Link slot) e = absurd e
  row_of (Turn slot) e = absurd e
  row_of (Map word) e = absurd e
  row_of Counter e = absurd e
  row_of LogCounter e = absurd e

  own_words : (v : View (List ℕ)) (q : Place) → v.pass ≡ pass → IsOfAnchor a q → Mine g v q
  own_words v q same here = let r = row_of q here in
      subst (λ (z : ℕ). is_mine g z (index g.setting q) ≡ true) (sym same) (in_row (index g.setting q) r.0 r.1)

  module _ (v : View (List ℕ)) (same : v.pass ≡ pass) where
    left_here : left_to g v.pass a ≡ true
    left_here = subst (λ (z : ℕ). left_to g z a ≡ true) (sym same) left

    own_links : (w : View (List ℕ)) (t slot n : ℕ) → anchor_of (tab_at v t) ≡ a → Steps g v (GetLink t slot) n w
        → n ≡ has g v (Link slot)
    own_links w t slot n at st = looked_known g v w n t a slot st
        (subst (IsTabAt (tab_at v t)) at (at_its_anchor (tab_at v t) no_free)) left_here
      where
        no_free : tab_at v t ≡ Free → ⊥
        no_free e = ⊎_elim (λ (z : ⊥). z) (λ (z : ⊥). z)
            (subst (λ (y : Tab (List ℕ)). OfReader (IsNext st.state slot) y ⊎ OfFreer (IsFront slot) y) e st.may.allowed.1)

    module _ (st : Stands g v) (nine : IsPass v) where
      mine : KnowsAlone (left_to g) g.setting st.state v
      mine = st.rule.alone.each st.index v st.at (has_tabs v nine)

      own_stands : (q : Place) → IsOfAnchor a q → word_in g.setting st.state.words q ≡ has g v q
      own_stands (Anchor b) e =
          subst (λ (z : ℕ). word_in g.setting st.state.words (Anchor z) ≡ has g v (Anchor z)) (sym e) (mine.word a lt left_here)
      own_stands (Beside side b) e =
          subst (λ (z : ℕ). word_in g.setting st.state.words (Beside side z) ≡ has g v (Beside side z)) (sym e)
          (mine.sides side a lt left_here)
      own_stands (Link slot) e = absurd e
      own_stands (Turn slot) e = absurd e
      own_stands (Map word) e = absurd e
      own_stands Counter e = absurd e
      own_stands LogCounter e = absurd e

      -- a tab there is one of the pass
      by_index : (j t : ℕ) (tab : Tab (List ℕ)) → IsTab st.state j t tab → IsTabAt tab a
          → (j ≡ st.index) × (get_elem? v.tabs t ≡ some tab)
      by_index j t tab x at = (
        here,
        subst (λ (u : View (List ℕ)). get_elem? u.tabs t ≡ some tab)
            (some-injective x.view v (sym x.at ∙ ap (get_elem? st.state.views) here ∙ st.at)) x.there,
      )
        where
          here : j ≡ st.index
          here = st.rule.alone.apart st.index j t a v tab st.at (has_tabs v nine, left_here) x at

      own_tabs : (j t : ℕ) (tab : Tab (List ℕ)) → IsTab st.state j t tab → is_free tab ≡ false → anchor_of tab ≡ a
          → (j ≡ st.index) × (get_elem? v.tabs t ≡ some tab)
      own_tabs j t tab x used at = by_index j t tab x (subst (IsTabAt tab) at (at_its_anchor tab (used_there tab used)))

      -- What the pass has spells the chain, where the Start word names its first slot.
      abbrev c : Chain
      c = chain_of st.state a

      link_is : (x : ℕ) → Contains c.slots x → link_known g v x ≡ (slot_words g.setting st.state.words).link x
      link_is x h = let there = Contains-append_left c.slots c.tail x h in
          let inside = standing_inside g st.state st.rule a x lt there in
          told_in g.setting.slots x _ inside ∙ sym (mine.links a x lt left_here there) ∙ sym (told_in g.setting.slots x _ inside)

      end_is : (x : ℕ) → Contains c.tail x ⊎ ReservedAt g st.state st.rule a x
          → link_known g v x ≡ (slot_words g.setting st.state.words).link x
      end_is x (inl there) = let all = Contains-append_right c.slots c.tail x there in
          let inside = standing_inside g st.state st.rule a x lt all in
          told_in g.setting.slots x _ inside ∙ sym (mine.links a x lt left_here all) ∙ sym (told_in g.setting.slots x _ inside)
      end_is x (inr r) = let inside = reserved_inside g st.state st.rule r.j r.t x r.writer r.is_tab r.reserved in
          told_in g.setting.slots x _ inside
          ∙ sym (mine.held r.t a x (Writing r.writer) (by_index r.j r.t (Writing r.writer) r.is_tab r.anchor_is).1 r.anchor_is left_here
          r.reserved)
          ∙ sym (told_in g.setting.slots x _ inside)

      ends : (e : LinkOf) → c.end ≡ e → EndsUnwritten (link_known g v) e
      ends NotWritten is = tt
      ends LastLink is = tt
      ends (Next x) is = end_is x (end_spot g st.state st.rule a lt x is) ∙ end_unwritten g st.state st.rule a lt x is

      own_spelled : has g v (Beside Start a) ≡ start_number c.slots
          → IsSpelled (has g v (Beside Start a)) (link_known g v) c.slots c.end
      own_spelled starts = record {
        starts = starts;
        spelled = spells_alike (slot_words g.setting st.state.words).link (link_known g v) c.slots c.end
            (λ j h. link_is j h) stands.spelled;
        fits = stands.fits;
        ends = ends c.end refl;
      }
        where
          stands : ChainStands ((slot_words g.setting st.state.words).stage a) ((slot_words g.setting st.state.words).start a)
              (slot_words g.setting st.state.words).link c
          stands = st.rule.sound.slots.stand a lt

  pub owns_left : OwnsAnchor g pass a
  owns_left = record {
    words = own_words;
    links = λ v w t slot n same at st. own_links v same w t slot n at st;
    stands = λ v st q same nine here inside. own_stands v same st nine q here;
    tabs = λ v st j t tab same nine is used at. own_tabs v same st nine j t tab is used at;
    spelled = λ v st same nine low starts. own_spelled v same st nine starts;
  }

-- So is a lot whose anchors are all left to the pass.
pub lot_left : (g : Ground (List ℕ)) (lot : Lot) (pass : ℕ) → ((a : ℕ) → a < g.setting.anchors → lot.anchors a ≡ true → left_to g pass a ≡ true) → OwnsLot g lot pass
lot_left g lot pass left a lt ours = owns_left g pass a lt (left a lt ours)
