-- How many slots the entry at an anchor holds, as the chain and the tabs of the pass have it.
use Rattle.std.proofs.Common.{Bool, List, None, Option, Some, [], ap, arith, cond, eq-eqb, false, inl, inr, length, ne_eqb, refl, subst, sum_by, sym, true, ⊎_elim, ◌+◌, ◌<◌, ◌==◌, ◌∙◌, ◌≡◌, ◌≢◌, ◌≤◌, ◌⊎◌, ◌∷◌, ℕ}
use mathlib.Core.Logic.{dite}
use mathlib.Core.Option.{some}
use native.Mathlib.Decide.{ℕ_discrete}
use lib.ListN.{get_elem?}
use Rattle.core_model.proofs.Lists.{at_or, by_eq}
use Rattle.core_model.proofs.Matching.{has_writer, matches_writer, one_writer}
use Rattle.core_model.proofs.SlotAnchors.{written_few}
use Rattle.core_model.proofs.Telling.{told_in}
use Rattle.core_model.specs.Chains.{Fits, slots_of_link}
use Rattle.core_model.specs.Holders.{IsTab, MatchesWriter}
use Rattle.core_model.specs.Layout.{Setting}
use Rattle.core_model.specs.Slots.{slot_words}
use Rattle.core_model.specs.Spots.{slots_chained}
use Rattle.core_model.specs.State.{State, chain_of, word}
use Rattle.core_model.specs.Tabs.{IsPass, stage_written, tab_at}
use Rattle.core_model.specs.declared.chain.Chain.{Chain}
use Rattle.core_model.specs.declared.tab.Tab.{Tab}
use Rattle.core_model.specs.declared.tab.Tab.TheVariants.{Free, Freeing, Last as LastTab, Reading, Retreating, Writing}
use Rattle.core_model.specs.declared.tab.Writer.{Writer}
use Rattle.core_model.specs.declared.view.Place.TheVariants.{Anchor}
use Rattle.core_model.specs.declared.view.View.{View}
use Rattle.entry_cut.specs.Content.{room_of}
use Rattle.link_word.specs.declared.link.Link.{Link}
use Rattle.link_word.specs.declared.link.Link.TheVariants.{Last, Next, NotWritten}
use Rattle.lock_word.specs.Words.{epoch_of, is_written, stage_number, stage_of}
use Rattle.lock_word.specs.declared.stage.Stage.TheVariants as stage
use Rattle.store_rule.specs.Words.{has}
use Rattle.plain_laws.proofs.Sums.{held_unfinished, held_whole, hold}
use Rattle.plain_runs.specs.Words.{HasChain, IsLone, ShowsAt, ShowsEntry, ShowsEntryIf, setting_of}
use Rattle.plain_runs.proofs.Chains as told
use Rattle.plain_runs.proofs.OwnAnchors.{OwnsAnchor, own_chain}
use Rattle.plain_runs.proofs.PlainWords.{stage_there}
use Rattle.plain_runs.proofs.Totals.{sum_none, sum_only}
use Rattle.plain_model.specs.declared.entry.Entry.{Entry}
use Rattle.plain_model.specs.declared.entry.Life.{Life}
use Rattle.plain_model.specs.declared.entry.Life.TheVariants.{GivenUp, Growing, Whole}
use Rattle.plain_model.specs.declared.store.Plain.{Plain}
use Rattle.plain_model.specs.Slots.{held, held_by}
use Rattle.plain_model.specs.Store.{entry_at, place_at, published, readers, stage_of as stage_at}
use Rattle.store_rule.specs.Ground.{Ground, Rule}
use Rattle.store_rule.specs.Told.{Stands}

-- how many slots the last link of a tab names that writes, also where it writes at this anchor
abbrev pub linked : {X : Type 0} → Tab X → ℕ
linked (Writing w) = length (slots_of_link w.end)
linked _ = 0

abbrev pub linked_at : {X : Type 0} → ℕ → Tab X → ℕ
linked_at a (Writing w) = cond (w.anchor == a) (length (slots_of_link w.end)) 0
linked_at a _ = 0

-- A tab that has published a slot has raised its entry to APPENDING. Only while a first slot is published this is not so.
pub record AllRaised {X : Type 0} (v : View X) : Type 0 where
  pub each : (t : ℕ) (w : Writer X) → tab_at v t ≡ Writing w → w.is_appending ≡ false → w.published ≡ []

-- slots that are spelled, and the one that the last link names, if any
held_so : (xs : List ℕ) (e : Link) → Fits xs e → e ≢ Last → length xs + length (slots_of_link e) ≡ hold (length xs)
held_so [] NotWritten fits ne = refl
held_so [] Last fits ne = absurd fits
held_so [] (Next x) fits ne = absurd fits
held_so (y ∷ ys) NotWritten fits ne = absurd fits
held_so (y ∷ ys) Last fits ne = absurd (ne refl)
held_so (y ∷ ys) (Next x) fits ne = omega arith

abbrev stage_of_bool : Bool → ℕ
stage_of_bool b = cond b 2 1

not_last : (e : Link) → Fits [] e → e ≢ Last
not_last NotWritten fits is = cc
not_last Last fits is = fits
not_last (Next x) fits is = fits

module _ (g : Ground (List ℕ)) (s : State (List ℕ)) (i : ℕ) (v : View (List ℕ)) (rule : Rule g s) (at : get_elem? s.views i ≡ some v) (pass : IsPass v) where
  abbrev k : Setting (List ℕ)
  k = g.setting

  abbrev stage_in : ℕ → ℕ
  stage_in a = stage_of (epoch_of (word s a))

  tab_here : (t : ℕ) (tab : Tab (List ℕ)) → get_elem? v.tabs t ≡ some tab → IsTab s i t tab
  tab_here t tab there = record { view = v; at = at; there = there }

  abbrev at_state : Stands g v
  at_state = record { state = s; index = i; rule = rule; at = at }

  writer_here : (t : ℕ) (w : Writer (List ℕ)) → get_elem? v.tabs t ≡ some (Writing w) → (w.anchor < k.anchors) × MatchesWriter s w
  writer_here t w there = matches_writer k s rule.sound.anchors i t w (tab_here t (Writing w) there)

  module _ (a : ℕ) (own : OwnsAnchor g v.pass a) (lt : a < k.anchors) where
    abbrev c : Chain
    c = chain_of s a

    at_other : (w : Writer (List ℕ)) → w.anchor ≢ a → linked_at a (Writing w) ≡ 0
    at_other w ne = rw (ne_eqb w.anchor a ne) refl

    at_it : (w : Writer (List ℕ)) → w.anchor ≡ a → linked_at a (Writing w) ≡ length (slots_of_link w.end)
    at_it w e = rw (eq-eqb w.anchor a e) refl

    no_tab : (tab : Tab (List ℕ)) → ((w : Writer (List ℕ)) → tab ≡ Writing w → w.anchor ≢ a) → linked_at a tab ≡ 0
    no_tab Free h = refl
    no_tab (Retreating b) h = refl
    no_tab (Reading r) h = refl
    no_tab (Writing w) h = at_other w (h w refl)
    no_tab (LastTab b) h = refl
    no_tab (Freeing f) h = refl

    -- at other stages no tab writes there
    none_linked : stage_in a ≢ 1 → stage_in a ≢ 2 → sum_by (linked_at a) v.tabs ≡ 0
    none_linked na nb = sum_none (linked_at a) v.tabs (λ t tab there. no_tab tab (λ w e is. unwritten t w (there ∙ ap some e) is))
      where
        unwritten : (t : ℕ) (w : Writer (List ℕ)) → get_elem? v.tabs t ≡ some (Writing w) → w.anchor ≡ a → ⊥
        unwritten t w there is = let m = (writer_here t w there).1.stage_is in let few = written_few w in let e = ap (λ (b : ℕ). stage_in b) is in
            dite (ℕ_discrete (stage_in a) 1) na (λ ne. nb (omega arith))

    one_linked : (t : ℕ) (w : Writer (List ℕ)) → get_elem? v.tabs t ≡ some (Writing w) → w.anchor ≡ a → sum_by (linked_at a) v.tabs ≡ length (slots_of_link w.end)
    one_linked t w there is = sum_only (linked_at a) v.tabs t (Writing w) there (λ j tab other ne. no_tab tab (λ u e isu. ne (sym (one_writer k s rule.sound.anchors a i i t j w u lt (tab_here t (Writing w) there) (tab_here j (Writing u) (other ∙ ap some e)) is isu).1))) ∙ at_it w is

    -- The tab that writes there: its chain is the anchor's.
    record WriterAt : Type 0 where
      t : ℕ
      writer : Writer (List ℕ)
      there : get_elem? v.tabs t ≡ some (Writing writer)
      stage_is : stage_in a ≡ stage_written writer
      chain_is : c ≡ record { slots = writer.published; end = writer.end; tail = [] }
      linked_is : sum_by (linked_at a) v.tabs ≡ length (slots_of_link c.end)

    writer_at : is_written (epoch_of (word s a)) ≡ true → WriterAt
    writer_at h = let w = has_writer k s rule.sound.anchors a lt h in let there = (own.tabs v at_state w.i w.t (Writing w.writer) refl pass w.tab refl w.anchor_is).1 in
        let chain = sym (ap (chain_of s) w.anchor_is) ∙ (told.writer_holds g s rule w.i w.t w.writer w.tab).chain in record {
          t = w.t;
          writer = w.writer;
          there = there;
          stage_is = sym (ap stage_in w.anchor_is) ∙ w.matches.stage_is;
          chain_is = chain;
          linked_is = one_linked w.t w.writer there w.anchor_is ∙ sym (ap (λ (z : Chain). length (slots_of_link z.end)) chain);
        }

    fits_there : Fits c.slots c.end
    fits_there = (rule.sound.slots.stand a lt).fits

    stage_told : (slot_words k s.words).stage a ≡ stage_in a
    stage_told = ap (λ z. stage_of (epoch_of z)) (told_in k.anchors a _ lt)

    gone_there : (stage_in a ≡ 0) ⊎ (stage_in a ≡ 6) → slots_chained c ≡ 0
    gone_there h = ap slots_chained ((rule.sound.slots.stand a lt).gone (⊎_elim (λ e. inl (stage_told ∙ e)) (λ e. inr (let t = stage_told in omega arith)) h))

    module _ (rename : ℕ → ℕ) (p : Plain) (n : ℕ) (shown : ShowsAt g rename v p n a) (few : readers p a + n < 65536) (raised : AllRaised v) where
      abbrev room : ℕ
      room = room_of g.slot

      stage_here : stage_in a ≡ stage_number (stage_at room (place_at p a).version (entry_at p a))
      stage_here = ap (λ z. stage_of (epoch_of z)) (own.stands v at_state (Anchor a) refl pass refl lt) ∙ stage_there rename (setting_of g) p n a (has g v (Anchor a)) shown.word few

      none_there : entry_at p a ≡ None → slots_chained c + sum_by (linked_at a) v.tabs ≡ 0
      none_there is = let st = stage_here ∙ ap (λ (o : Option Entry). stage_number (stage_at room (place_at p a).version o)) is in of_version st
        where
          no_entry : (stage_in a ≡ 0) ⊎ (stage_in a ≡ 6) → slots_chained c + sum_by (linked_at a) v.tabs ≡ 0
          no_entry h = let x = gone_there h in let y = none_linked (⊎_elim (λ e is. omega arith) (λ e is. omega arith) h) (⊎_elim (λ e is. omega arith) (λ e is. omega arith) h) in omega arith

          of_version : stage_in a ≡ stage_number (cond ((place_at p a).version == 0) stage.Empty stage.Gone) → slots_chained c + sum_by (linked_at a) v.tabs ≡ 0
          of_version = by_eq (λ b. stage_in a ≡ stage_number (cond b stage.Empty stage.Gone) → slots_chained c + sum_by (linked_at a) v.tabs ≡ 0) (place_at p a).version 0 (λ e st. no_entry (inl st)) (λ ne st. no_entry (inr st))

      module _ (e : Entry) (is : entry_at p a ≡ Some e) where
        entry : ShowsEntry g v a (place_at p a).version e
        entry = subst (ShowsEntryIf g v a (place_at p a).version) is shown.entry

        stage_of_entry : stage_in a ≡ stage_number (stage_at room (place_at p a).version (Some e))
        stage_of_entry = stage_here ∙ ap (λ (o : Option Entry). stage_number (stage_at room (place_at p a).version o)) is

        -- where the words spell the chain
        many_there : 2 ≤ stage_in a → stage_in a ≤ 4 → length c.slots ≡ length entry.chain.slots
        many_there least most = ap length (sym (own_chain g v a own at_state pass lt e entry.chain least most).0)

        end_there : 2 ≤ stage_in a → stage_in a ≤ 4 → entry.chain.end ≡ c.end
        end_there least most = (own_chain g v a own at_state pass lt e entry.chain least most).1

        whole_there : e.life ≡ Whole → slots_chained c + sum_by (linked_at a) v.tabs ≡ held_by room (Some e)
        whole_there l = let st : stage_in a ≡ 3 = stage_of_entry ∙ (rw l refl) in let m = many_there (omega arith) (omega arith) in let many : length entry.chain.slots ≡ published room e.content + 1 = entry.chain.many ∙ (rw l refl) in
            let tail : length c.tail ≡ 0 = ap length (told.tail_is g s rule a lt) ∙ (let ne = ne_eqb (stage_in a) 4 (λ h. omega arith) in rw ne refl) in
            let none = none_linked (λ h. omega arith) (λ h. omega arith) in let held = held_whole room e l in omega arith

        given_up_there : e.life ≡ GivenUp → slots_chained c + sum_by (linked_at a) v.tabs ≡ held_by room (Some e)
        given_up_there l = let st : stage_in a ≡ 4 = stage_of_entry ∙ (rw l refl) in let m = many_there (omega arith) (omega arith) in let many : length entry.chain.slots ≡ published room e.content = entry.chain.many ∙ (rw l refl) in
            let tail : length c.tail ≡ length (slots_of_link c.end) = ap length (told.tail_is g s rule a lt) ∙ (let eq = eq-eqb (stage_in a) 4 st in rw eq refl) in
            let none = none_linked (λ h. omega arith) (λ h. omega arith) in let held = held_unfinished room e GivenUp l (inr refl) in
            let so = held_so c.slots c.end fits_there (subst (λ (z : Link). z ≢ Last) (end_there (omega arith) (omega arith)) (not_ended l entry.chain.ends)) in let same = ap hold (m ∙ many) in omega arith
          where
            not_ended : e.life ≡ GivenUp → Rattle.plain_runs.specs.Words.EndsSo e.life entry.chain.end → entry.chain.end ≢ Last
            not_ended l = subst (λ (z : Life). Rattle.plain_runs.specs.Words.EndsSo z entry.chain.end → entry.chain.end ≢ Last) (sym l) (λ h. h)

        growing_there : e.life ≡ Growing → slots_chained c + sum_by (linked_at a) v.tabs ≡ held_by room (Some e)
        growing_there l = by_eq (λ b. stage_in a ≡ stage_number (cond b stage.Taken stage.Appending) → slots_chained c + sum_by (linked_at a) v.tabs ≡ held_by room (Some e)) (published room e.content) 0 taken appending (stage_of_entry ∙ (rw l refl))
          where
            finish : WriterAt → length c.slots ≡ published room e.content → c.end ≢ Last → slots_chained c + sum_by (linked_at a) v.tabs ≡ held_by room (Some e)
            finish w many ne = let tail : length c.tail ≡ 0 = ap (λ (z : Chain). length z.tail) w.chain_is in let held = held_unfinished room e Growing l (inl refl) in
                let so = held_so c.slots c.end fits_there ne in let same = ap hold many in let is = w.linked_is in omega arith

            not_ended : Rattle.plain_runs.specs.Words.EndsSo e.life entry.chain.end → entry.chain.end ≢ Last
            not_ended = subst (λ (z : Life). Rattle.plain_runs.specs.Words.EndsSo z entry.chain.end → entry.chain.end ≢ Last) (sym l) (λ h. h)

            taken : published room e.content ≡ 0 → stage_in a ≡ 1 → slots_chained c + sum_by (linked_at a) v.tabs ≡ held_by room (Some e)
            taken zero_ st = let w = writer_at (let b = eq-eqb (stage_in a) 1 st in rw b refl) in
                let none : w.writer.published ≡ [] = raised.each w.t w.writer (at_or v.tabs w.t (Writing w.writer) Free w.there) (not_appending w.writer (sym w.stage_is ∙ st)) in
                let slots : c.slots ≡ [] = ap Chain.slots w.chain_is ∙ none in finish w (ap length slots ∙ sym zero_) (not_last c.end (subst (λ (z : List ℕ). Fits z c.end) slots fits_there))
              where
                not_appending : (w : Writer (List ℕ)) → stage_written w ≡ 1 → w.is_appending ≡ false
                not_appending w h = of_bool w.is_appending refl h
                  where
                    of_bool : (b : Bool) → w.is_appending ≡ b → stage_of_bool b ≡ 1 → w.is_appending ≡ false
                    of_bool true e h = absurd (omega arith)
                    of_bool false e h = e

            appending : published room e.content ≢ 0 → stage_in a ≡ 2 → slots_chained c + sum_by (linked_at a) v.tabs ≡ held_by room (Some e)
            appending ne st = let w = writer_at (let f = ne_eqb (stage_in a) 1 (λ h. omega arith) in let b = eq-eqb (stage_in a) 2 st in rw (f, b) refl) in
                let m = many_there (omega arith) (omega arith) in let many : length entry.chain.slots ≡ published room e.content = entry.chain.many ∙ (rw l refl) in
                finish w (m ∙ many) (subst (λ (z : Link). z ≢ Last) (end_there (omega arith) (omega arith)) (not_ended entry.chain.ends))

      -- The chain of an anchor, and the slot that the last link of a tab names which writes there, are what the entry holds.
      pub holds_at : slots_chained c + sum_by (linked_at a) v.tabs ≡ held room (place_at p a)
      holds_at = of_entry (entry_at p a) refl
        where
          of_entry : (o : Option Entry) → entry_at p a ≡ o → slots_chained c + sum_by (linked_at a) v.tabs ≡ held_by room (entry_at p a)
          of_entry None is = none_there is ∙ sym (ap (held_by room) is)
          of_entry (Some e) is = of_life e.life refl ∙ sym (ap (held_by room) is)
            where
              of_life : (life : Life) → e.life ≡ life → slots_chained c + sum_by (linked_at a) v.tabs ≡ held_by room (Some e)
              of_life Growing l = growing_there e is l
              of_life Whole l = whole_there e is l
              of_life GivenUp l = given_up_there e is l
