-- A slot is reserved in a store that fits, by a pass that knows a lot of its own: of the lot it knows then what it knew before.
use Rattle.std.proofs.Common.{Contains, List, None, Option, Some, [], ap, arith, inl, inr, length, refl, subst, sym, true, ◌+◌, ◌++◌, ◌<◌, ◌∙◌, ◌≡◌, ◌≢◌, ◌≤◌, ◌∷◌, ℕ}
use mathlib.Core.Logic.{dite}
use native.Mathlib.Decide.{ℕ_discrete}
use Rattle.std.proofs.lemmas.List.Elements.{Contains-append_right}
use Rattle.link_word.specs.declared.link.Link.{Link as LinkOf}
use Rattle.lock_word.specs.Words.{epoch_of, stage_number, stage_of}
use Rattle.core_model.specs.Chains.{IsSpelled, slots_of_link, start_number}
use Rattle.core_model.specs.Slots.{WriterHolds, slot_words}
use Rattle.core_model.specs.State.{chain_of, word}
use Rattle.core_model.specs.Tabs.{IsPass, inner, tab_at}
use Rattle.core_model.specs.declared.chain.Chain.{Chain}
use Rattle.core_model.specs.declared.moves.Side.TheVariants.{Start}
use Rattle.core_model.specs.declared.tab.Tab.TheVariants.{Writing}
use Rattle.core_model.specs.declared.tab.Writer.{Writer}
use Rattle.core_model.specs.declared.view.Place.{Place}
use Rattle.core_model.specs.declared.view.Place.TheVariants.{Anchor, Beside, Counter, Link}
use Rattle.core_model.specs.declared.view.View.{View}
use Rattle.core_model.proofs.SpelledOnce.{spelled_once}
use Rattle.core_model.proofs.Tabs.{tab_there}
use Rattle.core_model.proofs.Telling.{told_in}
use Rattle.entry_cut.specs.Content.{room_of}
use Rattle.plain_model.specs.declared.entry.Entry.{Entry}
use Rattle.plain_model.specs.declared.store.Plain.{Plain}
use Rattle.plain_model.specs.Store.{entry_at, place_at, readers, stage_of as stage_at}
use Rattle.rock_writer.proofs.Standing as standing
use Rattle.store_rule.specs.Ground.{Ground}
use Rattle.store_rule.specs.Told.{Stands}
use Rattle.store_rule.specs.Words.{has}
use Rattle.plain_runs.specs.Words.{EndsSo, HasChain, KnowsLot, Lot, ShowsAt, ShowsEntryIf, link_known, no_guests, setting_of}
use Rattle.plain_runs.proofs.Chains as told
use Rattle.plain_runs.proofs.Frames.{SameBut, chain_same, link_same, names_same, spelled_same}
use Rattle.plain_runs.proofs.OwnAnchors.{OwnsAnchor, OwnsLot, lot_stays, own_chain}
use Rattle.plain_runs.proofs.PlainWords.{readers_fit, stage_there}
use Rattle.plain_runs.proofs.Published.{no_slots, stage_span}

link_in : Place → ℕ
link_in (Link slot) = slot
link_in q = 0

same_slot : (a b : ℕ) → Link a ≡ Link b → a ≡ b
unfolding link_in
same_slot a b e = ap link_in e

-- The tab t, which writes, has one slot more in the view u, whose link alone the steps to u touched.
module _ (g : Ground (List ℕ)) (rename : ℕ → ℕ) (lot : Lot) (t slot : ℕ) (below : t < inner) (v u : View (List ℕ)) (p : Plain) (w x : Writer (List ℕ)) (owns : OwnsLot g lot v.pass) (knows : KnowsLot g rename lot v p no_guests)
    (eight : length p.tabs ≡ 8) (st : Stands g v) (pass : IsPass v) (is : tab_at v t ≡ Writing w) (later : Stands g u) (nine : IsPass u) (number : u.pass ≡ v.pass) (now : tab_at u t ≡ Writing x) (anchor_is : x.anchor ≡ w.anchor)
    (published_is : x.published ≡ w.published) (end_is : x.end ≡ w.end) (reserved : Contains x.reserved slot) (same : SameBut g v u (λ q. q ≡ Link slot)) where
  module _ (b : ℕ) (lt : b < g.setting.anchors) (ours : lot.anchors b ≡ true) (e : Entry) (there : entry_at p b ≡ Some e) (h : HasChain g v b e) where
    own : OwnsAnchor g v.pass b
    own = owns b lt ours

    own_later : OwnsAnchor g u.pass b
    own_later = lot_stays g lot v u number owns b lt ours

    stage_known : stage_of (epoch_of (has g v (Anchor b))) ≡ stage_number (stage_at (room_of g.slot) (place_at p b).version (Some e))
    stage_known = stage_there rename (setting_of g) p 0 b (has g v (Anchor b)) (knows.each b lt ours).word (readers_fit p b 0 eight (omega arith))
        ∙ ap (λ (o : Option Entry). stage_number (stage_at (room_of g.slot) (place_at p b).version o)) there

    word_before : word st.state b ≡ has g v (Anchor b)
    word_before = own.stands v st (Anchor b) refl pass refl lt

    word_later : word later.state b ≡ has g v (Anchor b)
    word_later = own_later.stands u later (Anchor b) refl nine refl lt ∙ same.same (Anchor b) tt lt (λ k. cc)

    start_same : has g u (Beside Start b) ≡ has g v (Beside Start b)
    start_same = same.same (Beside Start b) tt lt (λ k. cc)

    module _ (some_slots : length h.slots ≢ 0) where
      range : (2 ≤ stage_of (epoch_of (has g v (Anchor b)))) × (stage_of (epoch_of (has g v (Anchor b))) ≤ 4)
      range = let span = stage_span (room_of g.slot) e.life e.content (λ z. some_slots (h.many ∙ z)) in let s = stage_known in (omega arith, omega arith)

      abbrev c : Chain
      c = chain_of later.state b

      starts : has g u (Beside Start b) ≡ start_number c.slots
      starts = sym (told_in g.setting.anchors b _ lt ∙ own_later.stands u later (Beside Start b) refl nine refl lt)
          ∙ told.chain_starts g later.state later.rule b lt (let r = range in let k = ap (λ (n : ℕ). stage_of (epoch_of n)) word_later in omega arith) (let r = range in let k = ap (λ (n : ℕ). stage_of (epoch_of n)) word_later in omega arith)

      spelled : IsSpelled (has g u (Beside Start b)) (link_known g u) c.slots c.end
      spelled = own_later.spelled u later refl nine lt starts

      -- at the tab's own anchor the chain is what the tab has published
      at_own : w.anchor ≡ b → HasChain g u b e
      at_own at = record {
        slots = c.slots;
        end = c.end;
        spelled = spelled;
        many = ap length slots_same ∙ h.many;
        ends = subst (EndsSo e.life) (sym end_same) h.ends;
      }
        where
          before : (h.slots ≡ (chain_of st.state b).slots) × (h.end ≡ (chain_of st.state b).end)
          before = own_chain g v b own st pass lt e h (let r = range in let k = ap (λ (n : ℕ). stage_of (epoch_of n)) word_before in omega arith) (let r = range in let k = ap (λ (n : ℕ). stage_of (epoch_of n)) word_before in omega arith)

          holds_before : chain_of st.state b ≡ chain_of st.state w.anchor
          holds_before = ap (chain_of st.state) (sym at)

          written : WriterHolds ((slot_words g.setting st.state.words).beside w.anchor) (chain_of st.state w.anchor) w
          written = standing.holds g v st t w (tab_there v t (Writing w) (let n = pass in let z = below in omega arith) is)

          written_later : WriterHolds ((slot_words g.setting later.state.words).beside x.anchor) (chain_of later.state x.anchor) x
          written_later = standing.holds g u later t x (tab_there u t (Writing x) (let n = nine in let z = below in omega arith) now)

          here : chain_of later.state b ≡ chain_of later.state x.anchor
          here = ap (chain_of later.state) (sym (anchor_is ∙ at))

          slots_same : c.slots ≡ h.slots
          slots_same = ap Chain.slots here ∙ ap Chain.slots written_later.chain ∙ published_is ∙ sym (ap Chain.slots holds_before ∙ ap Chain.slots written.chain) ∙ sym before.0

          end_same : c.end ≡ h.end
          end_same = ap Chain.end here ∙ ap Chain.end written_later.chain ∙ end_is ∙ sym (ap Chain.end holds_before ∙ ap Chain.end written.chain) ∙ sym before.1

      -- at any other the slot is none of the chain
      at_other : w.anchor ≢ b → HasChain g u b e
      at_other ne = chain_same g v u (λ q. q ≡ Link slot) b e lt same (λ k. cc) h (λ j among k. apart j (moved j among) (same_slot j slot k))
        where
          apart : (j : ℕ) → Contains (c.slots ++ slots_of_link c.end) j → j ≡ slot → ⊥
          apart j among e = told.not_reserved g later.state later.rule b lt j later.index t x among
              (told.own_tab later.state later.index u later.at nine t (Writing x) (let z = below in omega arith) now) (λ k. ne (sym anchor_is ∙ k)) (subst (Contains x.reserved) (sym e) reserved)

          as_before : IsSpelled (has g v (Beside Start b)) (link_known g v) c.slots c.end
          as_before = spelled_same g (has g u (Beside Start b)) (has g v (Beside Start b)) (link_known g u) (link_known g v) c.slots c.end (sym start_same)
              (λ j among. sym (link_same g v u (λ q. q ≡ Link slot) j same (λ k. apart j among (same_slot j slot k)))) spelled

          once : (h.slots ≡ c.slots) × (h.end ≡ c.end)
          once = spelled_once (link_known g v) (has g v (Beside Start b)) h.slots c.slots h.end c.end h.spelled as_before

          moved : (j : ℕ) → Contains (h.slots ++ slots_of_link h.end) j → Contains (c.slots ++ slots_of_link c.end) j
          moved j among = subst (λ (z : List ℕ). Contains z j) (λ i. once.0 i ++ slots_of_link (once.1 i)) among

    chain_later : HasChain g u b e
    chain_later = dite (ℕ_discrete (length h.slots) 0)
        (λ none. chain_same g v u (λ q. q ≡ Link slot) b e lt same (λ k. cc) h (λ j among k. no_slots g v b e h none j among))
        (λ some_slots. dite (ℕ_discrete w.anchor b) (at_own some_slots) (at_other some_slots))

  entry_later : (b : ℕ) → b < g.setting.anchors → lot.anchors b ≡ true → (o : Option Entry) → entry_at p b ≡ o → ShowsEntryIf g v b (place_at p b).version o → ShowsEntryIf g u b (place_at p b).version o
  entry_later b lt ours None is h = tt
  entry_later b lt ours (Some e) is h = record {
    names = names_same g v u (λ q. q ≡ Link slot) b e lt same (λ side k. cc) h.names;
    chain = chain_later b lt ours e is h.chain;
    offer = h.offer;
    drawn = h.drawn;
  }

  pub claimed_knows : KnowsLot g rename lot u p no_guests
  claimed_knows = record {
    counter = λ has_counter. same.same Counter tt tt (λ k. cc) ∙ knows.counter has_counter;
    many = knows.many;
    each = λ b lt ours. record {
      word = same.same (Anchor b) tt lt (λ k. cc) ∙ (knows.each b lt ours).word;
      entry = entry_later b lt ours (entry_at p b) refl (knows.each b lt ours).entry;
    };
  }
