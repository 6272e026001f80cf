-- The chain of an anchor that is left to a pass is spelled by what the pass has of words, also where its writer gave up.
use Rattle.std.proofs.Common.{◌≡◌, ◌≢◌, ◌⊎◌, inl, inr, ℕ, ◌<◌, ◌≤◌, List, [], ◌∷◌, ◌++◌, Bool, true, eq-eqb, ne_eqb, sym, refl, ap, ◌∙◌, subst, arith, Contains}
use Rattle.std.proofs.lemmas.List.Elements.{Contains-append_left, Contains-append_right}
use mathlib.Core.Logic.{dite}
use mathlib.Core.Option.{some, some-injective}
use native.Mathlib.Decide.{ℕ_discrete}
use lib.ListN.{get_elem?}
use Rattle.link_word.specs.declared.link.Link.{Link as LinkOf}
use Rattle.link_word.specs.declared.link.Link.TheVariants.{Last as LastLink, Next, NotWritten}
use Rattle.lock_word.specs.Words.{epoch_of, is_written, stage_of}
use Rattle.core_model.specs.declared.chain.Chain.{Chain}
use Rattle.core_model.specs.declared.moves.Side.TheVariants.{Start}
use Rattle.core_model.specs.declared.spot.Spot.TheVariants.{Reserved}
use Rattle.core_model.specs.declared.tab.Tab.TheVariants.{Writing}
use Rattle.core_model.specs.declared.view.Place.TheVariants.{Beside, Link}
use Rattle.core_model.specs.declared.tab.Writer.{Writer}
use Rattle.core_model.specs.declared.view.View.{View}
use Rattle.core_model.specs.Chains.{EndsUnwritten, IsSpelled, Tied, rest_of, slots_of_link}
use Rattle.core_model.specs.Holders.{HasWriter}
use Rattle.core_model.specs.Layout.{Setting}
use Rattle.core_model.specs.Slots.{ChainStands, slot_words, told, WriterHolds}
use Rattle.core_model.specs.Sound.{Sound}
use Rattle.core_model.specs.State.{State, chain_of, word}
use Rattle.core_model.proofs.Matching.{has_writer}
use Rattle.core_model.proofs.OneSpot.{unwritten}
use Rattle.core_model.proofs.SlotFrame.{tail_unwritten}
use Rattle.core_model.proofs.SlotsOpened.{spells_alike}
use Rattle.core_model.proofs.SpelledOnce.{spelled_once}
use Rattle.core_model.proofs.Tabs.{contains_times}
use Rattle.core_model.proofs.Telling.{stage_told, told_in}
use Rattle.core_alone.specs.Alone.{KnowsAlone, StandsAlone, has_word, link_in, KnowsWord}
use Rattle.core_alone.proofs.Inside.{chained_inside, tab_slot_inside}

-- the links that a pass has, and 0 for a slot that the table does not have
abbrev pub links_in : {X : Type 0} → Setting X → View X → ℕ → ℕ
links_in k v slot = told k.slots slot (link_in k v slot)

module _ {X : Type 0} (left : ℕ → ℕ → Bool) (k : Setting X) (s : State X) (i : ℕ) (v : View X) (so : Sound k s)
    (at : get_elem? s.views i ≡ some v) (some_tabs : v.tabs ≢ []) (alone : StandsAlone left k s)
    (a : ℕ) (lt : a < k.anchors) (is : left v.pass a ≡ true) where
  mine : KnowsAlone left k s v
  mine = alone.each i v at some_tabs

  abbrev c : Chain
  c = chain_of s a

  abbrev stage_at : ℕ
  stage_at = stage_of (epoch_of (word s a))

  stage_is : (slot_words k s.words).stage a ≡ stage_at
  stage_is = stage_told k s.words a lt

  stands : ChainStands ((slot_words k s.words).stage a) ((slot_words k s.words).start a) (slot_words k s.words).link c
  stands = so.slots.stand a lt

  link_is : (slot : ℕ) → Contains (c.slots ++ c.tail) slot → links_in k v slot ≡ (slot_words k s.words).link slot
  link_is slot h = let inside = chained_inside k s so a slot lt h in told_in k.slots slot _ inside ∙ sym (mine.links a slot lt is h)
      ∙ sym (told_in k.slots slot _ inside)

  -- the tail of a chain has no link
  unwritten_tail : (x : ℕ) → Contains c.tail x → (slot_words k s.words).link x ≡ 0
  unwritten_tail x m = tail_unwritten k.anchors (slot_words k s.words) s.chains s.views so.slots x a
      (let many = so.anchors.shaped.chains in omega arith) (contains_times x c.tail m)

  -- a tab of the pass that writes there has reserved the slot
  record ReservedHere (x : ℕ) : Type 0 where
    t : ℕ
    writer : Writer X
    there : get_elem? v.tabs t ≡ some (Writing writer)
    anchor_is : writer.anchor ≡ a
    reserved : Contains writer.reserved x

  -- While the entry is written, the slot that its last link names is reserved by such a tab.
  by_writer : (x : ℕ) → c.end ≡ Next x → is_written (epoch_of (word s a)) ≡ true → ReservedHere x
  by_writer x e h = record { t = w.t; writer = w.writer; there = own; anchor_is = w.anchor_is; reserved = reserved }
    where
      w : HasWriter s a
      w = has_writer k s so.anchors a lt h

      here : w.i ≡ i
      here = alone.apart i w.i w.t a v (Writing w.writer) at (some_tabs, is) w.tab w.anchor_is

      own : get_elem? v.tabs w.t ≡ some (Writing w.writer)
      own = subst (λ (u : View X). get_elem? u.tabs w.t ≡ some (Writing w.writer))
          (some-injective w.tab.view v (sym w.tab.at ∙ ap (get_elem? s.views) here ∙ at)) w.tab.there

      holds : WriterHolds ((slot_words k s.words).beside w.writer.anchor) (chain_of s w.writer.anchor) w.writer
      holds = so.slots.tabs w.i w.tab.view w.tab.at w.t (Writing w.writer) w.tab.there

      end_is : w.writer.end ≡ Next x
      end_is = sym (ap Chain.end holds.chain) ∙ ap (λ (z : ℕ). (chain_of s z).end) w.anchor_is ∙ e

      tied : (e : LinkOf) (published reserved : List ℕ) → e ≡ Next x → Tied e published reserved → reserved ≡ x ∷ rest_of reserved
      tied e published reserved same h = subst (λ (z : LinkOf). Tied z published reserved) same h

      reserved : Contains w.writer.reserved x
      reserved = subst (λ (z : List ℕ). Contains z x) (sym (tied w.writer.end w.writer.published w.writer.reserved end_is holds.tied))
          (0, omega arith, refl)

  -- where the slot is that the last link of an entry names: it is the tail, or reserved by the tab that writes there
  end_spot : (x : ℕ) → c.end ≡ Next x → 2 ≤ stage_at → stage_at ≤ 4 → Contains c.tail x ⊎ ReservedHere x
  end_spot x e least most = dite (ℕ_discrete stage_at 4)
      (λ four. inl (in_tail (stands.tails ∙ (let b = eq-eqb _ 4 (stage_is ∙ four) in rw b refl))))
      (λ nf. dite (ℕ_discrete stage_at 2)
      (λ two. inr (by_writer x e (let f = ne_eqb stage_at 1 (λ h. omega arith) in let b = eq-eqb stage_at 2 two in rw (f, b) refl)))
      (λ nt. absurd (no_next (sym e ∙ stands.closed (stage_is ∙ three nf nt)))))
    where
      three : stage_at ≢ 4 → stage_at ≢ 2 → stage_at ≡ 3
      three nf nt = omega arith

      no_next : Next x ≡ LastLink → ⊥
      no_next e = cc

      in_tail : c.tail ≡ slots_of_link c.end → Contains c.tail x
      in_tail h = subst (λ (z : List ℕ). Contains z x) (sym (h ∙ ap slots_of_link e)) (0, omega arith, refl)

  -- the pass has its link, which is not written
  pub end_known : (x : ℕ) → c.end ≡ Next x → 2 ≤ stage_at → stage_at ≤ 4 → KnowsWord k s v (Link x)
  end_known x e least most = by_spot (end_spot x e least most)
    where
      by_spot : Contains c.tail x ⊎ ReservedHere x → KnowsWord k s v (Link x)
      by_spot (inl there) = mine.links a x lt is (Contains-append_right c.slots c.tail x there)
      by_spot (inr r) = mine.held r.t a x (Writing r.writer) r.there r.anchor_is is r.reserved

  end_unwritten : (x : ℕ) → c.end ≡ Next x → 2 ≤ stage_at → stage_at ≤ 4 → links_in k v x ≡ 0
  end_unwritten x e least most = by_spot (end_spot x e least most)
    where
      by_spot : Contains c.tail x ⊎ ReservedHere x → links_in k v x ≡ 0
      by_spot (inl there) = link_is x (Contains-append_right c.slots c.tail x there) ∙ unwritten_tail x there
      by_spot (inr r) = let inside = tab_slot_inside k s so i v at r.t x (Writing r.writer) r.there r.reserved in
          told_in k.slots x _ inside ∙ sym (mine.held r.t a x (Writing r.writer) r.there r.anchor_is is r.reserved)
          ∙ unwritten k s so.anchors.shaped so.slots x inside (Reserved i r.t) tt
          (r.writer, record { view = v; at = at; there = r.there }, r.reserved)

  ends : 2 ≤ stage_at → stage_at ≤ 4 → (e : LinkOf) → c.end ≡ e → EndsUnwritten (links_in k v) e
  ends least most NotWritten e = tt
  ends least most LastLink e = tt
  ends least most (Next x) e = end_unwritten x e least most

  -- What the pass has spells the chain.
  pub chain_spelled : 2 ≤ stage_at → stage_at ≤ 4 → IsSpelled (has_word k v (Beside Start a)) (links_in k v) c.slots c.end
  chain_spelled least most = record {
    starts = sym (mine.sides Start a lt is) ∙ sym (told_in k.anchors a _ lt)
        ∙ stands.starts (let e = stage_is in omega arith) (let e = stage_is in omega arith);
    spelled = spells_alike (slot_words k s.words).link (links_in k v) c.slots c.end
        (λ j h. link_is j (Contains-append_left c.slots c.tail j h)) stands.spelled;
    fits = stands.fits;
    ends = ends least most c.end refl;
  }

  -- And nothing else: slots that it spells are those of the chain.
  pub chain_is : (slots : List ℕ) (end : LinkOf) → IsSpelled (has_word k v (Beside Start a)) (links_in k v) slots end → 2 ≤ stage_at
      → stage_at ≤ 4 → (slots ≡ c.slots) × (end ≡ c.end)
  chain_is slots end h least most =
      spelled_once (links_in k v) (has_word k v (Beside Start a)) slots c.slots end c.end h (chain_spelled least most)
