-- Each step keeps that entries which were given up go no further.
use Rattle.std.proofs.Common.{◌≡◌, ◌⊎◌, inl, inr, ⊎_elim, ℕ, ◌<◌, List, ◌∷◌, sym, refl, ap, ◌∙◌, subst, arith, Contains}
use Rattle.std.proofs.lemmas.List.Elements.{Contains-append_right}
use mathlib.Core.Option.{some}
use lib.ListN.{get_elem?}
use Rattle.lock_word.specs.Words.{epoch_of, stage_of, version_of}
use Rattle.core_model.specs.declared.chain.Chain.{Chain}
use Rattle.core_model.specs.declared.moves.Move.{Move}
use Rattle.core_model.specs.declared.moves.Move.TheVariants.{GetLink, Look}
use Rattle.core_model.specs.declared.view.Item.{Item}
use Rattle.core_model.specs.declared.view.Kind.TheVariants.{Followed, Looked}
use Rattle.core_model.specs.declared.view.Place.TheVariants.{Link}
use Rattle.core_model.specs.declared.view.Sight.TheVariants.{Stood}
use Rattle.core_model.specs.declared.view.View.{View}
use Rattle.core_model.specs.CellMoves.{note_of}
use Rattle.core_model.specs.Entries.{EntryAfter, EntryGrows, EntryStays}
use Rattle.core_model.specs.Layout.{Setting, word_in}
use Rattle.core_model.specs.Sound.{Sound}
use Rattle.core_model.specs.State.{State, chain_of, word}
use Rattle.core_model.specs.Steps.{after, finding, number_found, view_after}
use Rattle.core_model.specs.Table.{MayStep, answer, at_of, item_of, kind_of, sights_of}
use Rattle.core_model.proofs.Choices.{view_was}
use Rattle.core_model.proofs.Entries.{entry_after}
use Rattle.core_model.proofs.Lists.{cons_contains, contains_none}
use Rattle.core_model.proofs.Matching.{matches_writer}
use Rattle.core_model.proofs.SlotAnchors.{written_few}
use Rattle.core_halts.specs.Halts.{FoundEnd, HaltsStand, HasEnd, HasHalted, SaysHalted, SawNoLink}
use Rattle.core_halts.proofs.Links.{no_link_published, stands}
use Rattle.core_halts.proofs.Seeing.{WasHalted, inside, leads_on, was_halted}
use Rattle.core_halts.proofs.Trails.{end_halted}

module _ {X : Type 0} (k : Setting X) (s : State X) (i : ℕ) (v : View X) (so : Sound k s) (at : get_elem? s.views i ≡ some v)
    (h : HaltsStand s) where
  -- what a look finds its pass has seen then
  own_look : (m : Move) → kind_of m ≡ Looked
      → Contains (view_after v m (finding k s v m)).seen (Stood (at_of v m) (epoch_of (answer v m (number_found k s v m))))
  own_look (Look b) is = (0, omega arith, refl)
  own_look m is = cc

  -- a look at a link that finds none
  own_link : (m : Move) (slot : ℕ) → kind_of m ≡ Followed → at_of v m ≡ slot → answer v m (number_found k s v m) ≡ 0
      → word_in k s.words (Link slot) ≡ 0
  own_link (GetLink t x) slot is there none = subst (λ (z : ℕ). word_in k s.words (Link z) ≡ 0) there none
  own_link m slot is there none = cc

  module _ (m : Move) (may : MayStep k s v m) where
    abbrev t : State X
    t = after k s i v m

    abbrev w : View X
    w = view_after v m (finding k s v m)

    abbrev item : Item
    item = item_of v m (number_found k s v m)

    -- a view is what the pass came to have, or was there, or is a note
    abbrev WasView : ℕ → View X → Type 0
    WasView j u = ((j ≡ i) × (u ≡ w)) ⊎ ((get_elem? s.views j ≡ some u) ⊎ (u ≡ note_of u))

    -- Looks.

    looks_own : (x : Item) → Contains (item ∷ v.trail) x → x.kind ≡ Looked → Contains w.seen (Stood x.at (epoch_of x.found))
    looks_own x c is = ⊎_elim
        (λ (e : item ≡ x). subst (λ (z : Item). Contains w.seen (Stood z.at (epoch_of z.found))) e (own_look m (ap Item.kind e ∙ is)))
        (λ (d : Contains v.trail x). Contains-append_right (sights_of v m (finding k s v m)) v.seen (Stood x.at (epoch_of x.found))
        (h.looks i v at x d is))
        (cons_contains item x v.trail c)

    looks_now : (j : ℕ) (u : View X) → WasView j u → (x : Item) → Contains u.trail x → x.kind ≡ Looked
        → Contains u.seen (Stood x.at (epoch_of x.found))
    looks_now j u (inl q) x c is = subst (λ (z : View X). Contains z.seen (Stood x.at (epoch_of x.found))) (sym q.1)
        (looks_own x (subst (λ (z : View X). Contains z.trail x) q.1 c) is)
    looks_now j u (inr (inl uat)) x c is = h.looks j u uat x c is
    looks_now j u (inr (inr e)) x c is = absurd (contains_none x (subst (λ (z : View X). Contains z.trail x) e c))

    -- Ends. Of an entry that was given up, and whose version still stands there: it stayed, or its slots were given back. It does not grow.
    module _ (a version slot : ℕ) (was : WasHalted s a version) (now : SaysHalted version (word t a))
        (none : SaysHalted version (word s a) → Contains (chain_of s a).slots slot → ⊥) (c : Contains (chain_of t a).slots slot) where
      stayed : EntryStays k s t a → ⊥
      stayed e = ⊎_elim
          (λ (q : stage_of (epoch_of (word s a)) ≡ 4). none record { version_is = same; stage_is = q } before)
          (λ (q : 4 < stage_of (epoch_of (word s a))). contains_none slot (subst (λ (z : Chain). Contains z.slots slot)
          ((stands k s so a (inside k s so a version was)).gone (inr (omega arith))) before))
          (leads_on k s so a version was same)
        where
          same : version_of (epoch_of (word s a)) ≡ version
          same = sym e.named.version ∙ now.version_is

          before : Contains (chain_of s a).slots slot
          before = subst (λ (z : List ℕ). Contains z slot) e.slots c

      grew : EntryGrows k s t i a → ⊥
      grew e = let l = leads_on k s so a version was (sym e.named.version ∙ now.version_is) in
          let m = (matches_writer k s so.anchors i e.tab e.writer e.writes).1.stage_is in let f = (written_few e.writer).1 in
          let there = ap (λ (b : ℕ). stage_of (epoch_of (word s b))) e.anchor_is in
          ⊎_elim (λ (q : stage_of (epoch_of (word s a)) ≡ 4). absurd (omega arith))
          (λ (q : 4 < stage_of (epoch_of (word s a))). absurd (omega arith)) l

      by_entry : EntryAfter k s t i a → ⊥
      by_entry (inl e) = stayed e
      by_entry (inr (inl gone)) = contains_none slot (subst (λ (z : List ℕ). Contains z slot) gone c)
      by_entry (inr (inr e)) = grew e

      still : ⊥
      still = by_entry (entry_after k s i v m a so at may.pass may.allowed (inside k s so a version was))

    ends_own : (a version slot : ℕ) → SaysHalted version (word t a)
        → (SawNoLink slot item × HasHalted a version v.trail) ⊎ HasEnd a version slot v.trail
        → Contains (chain_of t a).slots slot → ⊥
    ends_own a version slot now (inl q) c = let was = was_halted s h i v at a version q.1 in
        still a version slot was now
        (λ old d. no_link_published k s so a (inside k s so a version was) slot (own_link m slot q.0.kind q.0.at q.0.found) d) c
    ends_own a version slot now (inr q) c = still a version slot (was_halted s h i v at a version (end_halted a version slot v.trail q)) now
        (λ old d. h.ends i v at a version slot old q d) c

    ends_now : (j : ℕ) (u : View X) → WasView j u → (a version slot : ℕ) → SaysHalted version (word t a) → FoundEnd u a version slot
        → Contains (chain_of t a).slots slot → ⊥
    ends_now j u (inl q) a version slot now f c = ends_own a version slot now (subst (λ (z : View X). FoundEnd z a version slot) q.1 f) c
    ends_now j u (inr (inl uat)) a version slot now f c =
        still a version slot (was_halted s h j u uat a version (end_halted a version slot u.trail f)) now
        (λ old d. h.ends j u uat a version slot old f d) c
    ends_now j u (inr (inr e)) a version slot now f c = absurd (subst (λ (z : View X). FoundEnd z a version slot) e f)

    pub halts_after : HaltsStand t
    halts_after = record {
      looks = λ j u uat. looks_now j u (view_was k s i v m j u uat);
      ends = λ j u uat. ends_now j u (view_was k s i v m j u uat);
    }
