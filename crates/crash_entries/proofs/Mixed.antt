-- The complete entries of a file of which each sane slot has what it had at the opening, or a piece that was logged for it.
use Rattle.std.proofs.Common.{◌≡◌, ◌≢◌, ◌⊎◌, inl, inr, ⊎_elim, ℕ, suc, ◌+◌, ◌<◌, ◌≤◌, ◌^◌, List, [], ◌∷◌, length, refl, ap, sym, ◌∙◌, subst, arith, Contains}
use Rattle.std.specs.Prelude.{ℤ, pos, negsuc}
use Rattle.std.proofs.lemmas.List.Elements.{All-contains}
use mathlib.Core.Logic.{dite}
use native.Mathlib.Decide.{ℕ_discrete}
use Rattle.link_word.specs.declared.link.Link.{Link}
use Rattle.link_word.specs.declared.link.Link.TheVariants.{Last, Next, NotWritten}
use Rattle.slot_cell.specs.Header.{IsSane, header_of}
use Rattle.store_key.specs.Anchor.{anchor_of}
use Rattle.rebuild_model.specs.Image.{BelongsTo, IsSaneAt, Links, header_at, image_at}
use Rattle.rebuild_model.specs.Entry.{Entry, IsComplete}
use Rattle.rebuild_model.specs.Rebuilt.{IsWinner}
use Rattle.entry_cut.specs.Content.{Cut, count, image}
use Rattle.entry_cut.specs.Standing.{IsWritable, Stand, StandFrom, entry_of}
use Rattle.crash_entries.specs.Parts.{HasPart, IsMixed, IsOfPart, KeepsTo, Offers, Part, PartsStand, bytes_of, cut_of, next_number}
use Rattle.rebuild_model.proofs.Depends.{complete_in}
use Rattle.crash_entries.proofs.Telling.{Tells, Tools, tells}

same_pos : {z : ℤ} {a b : ℕ} → z ≡ pos a → z ≡ pos b → a ≡ b
same_pos e k = cc

-- the link that a header tells
last_is : (l : Link) → l ≢ NotWritten → next_number l ≡ negsuc 0 → l ≡ Last
last_is NotWritten ne e = absurd (ne refl)
last_is Last ne e = refl
last_is (Next t) ne e = absurd (cc)

next_is : (l : Link) (t : ℕ) → next_number l ≡ pos t → l ≡ Next t
next_is NotWritten t e = absurd (cc)
next_is Last t e = absurd (cc)
next_is (Next u) t e = ap Next (same_pos refl e)

cut_same : (slot : ℕ) (o : Offers) (p q : Part) → p.offer ≡ q.offer → p.version ≡ q.version → p.first ≡ q.first → cut_of slot o p ≡ cut_of slot o q
cut_same slot o p q a b c = λ i. record { slot = slot; url = o.url (a i); body = o.body (a i); version = b i; first = c i }

module _ (t : Tools) (slot anchors : ℕ) (o : Offers) (file : List (List ℕ)) (P : Part → Type 0) (st : PartsStand slot anchors o file P) (sized : slot < 2 ^ 32) (few : length file ≤ 1048576)
    (images : List (List ℕ)) (mixed : IsMixed slot o file P images) where
  says : (p : Part) → P p → Tells slot o p
  says p h = tells t slot anchors (length file) o p (st.keeps p h) sized few

  abbrev Was : ℕ → Type 0
  Was s = image_at images s ≡ image_at file s

  abbrev Is : ℕ → Type 0
  Is s = HasPart slot o P (image_at images s) s

  module _ (e : Entry) (c : IsComplete slot images e) where
    first_there : Contains e.chain e.first
    first_there = subst (λ (xs : List ℕ). Contains xs e.first) (sym c.chain.begins) (0, omega arith, refl)

    belongs : (s : ℕ) → Contains e.chain s → BelongsTo slot images e.first s
    belongs s h = All-contains (BelongsTo slot images e.first) e.chain s c.chain.belong h

    -- a slot of the chain is sane, so it has what it had or a piece
    at_slot : (s : ℕ) → Contains e.chain s → Was s ⊎ Is s
    at_slot s h = ⊎_elim
        (λ (q : Was s). inl q)
        (λ (t : Is s ⊎ (IsSaneAt slot images s → ⊥)). ⊎_elim (λ (q : Is s). inr q) (λ (not : IsSaneAt slot images s → ⊥). absurd (not (belongs s h).sane)) t)
        (mixed.each s (belongs s h).sane.within)

    -- a slot of the chain that is as it was is sane in the file of the opening, with the version of the entry
    was_sane : (s : ℕ) → Contains e.chain s → Was s → IsSaneAt slot file s
    was_sane s h w = let b = belongs s h in record {
      within = (let z = b.sane.within in let m = mixed.count in omega arith);
      sane = subst (λ (n : ℕ). IsSane (header_at file s) n slot) mixed.count (subst (λ (b : List ℕ). IsSane (header_of b) (length images) slot) w b.sane.sane);
    }

    was_version : (s : ℕ) → Contains e.chain s → Was s → (header_at file s).version ≡ e.version
    was_version s h w = ap (λ (b : List ℕ). (header_of b).version) (sym w) ∙ (belongs s h).version ∙ sym c.version

    -- and so has a piece that was logged
    is_version : (s : ℕ) → Contains e.chain s → (q : Is s) → q.part.version ≡ e.version
    is_version s h q = sym (says q.part q.logged).version ∙ ap (λ (b : List ℕ). (header_of b).version) (sym q.bytes) ∙ (belongs s h).version ∙ sym c.version

    -- slots of both sorts do not stand in one chain
    apart : (s u : ℕ) → Contains e.chain s → Contains e.chain u → Was s → Is u → ⊥
    apart s u hs hu w q = let lt = st.new q.part q.logged s (was_sane s hs w) in let v = was_version s hs w in let z = is_version u hu q in omega arith

    -- Where the first slot is as it was, all are.
    as_file : Was e.first → IsComplete slot file e
    as_file w = complete_in slot images file (sym mixed.count) e
        (λ s h. ⊎_elim (λ (q : Was s). sym q) (λ (q : Is s). absurd (apart e.first s first_there h w q)) (at_slot s h)) c

    -- Where it has a piece, all have pieces of one entry, in order.
    module _ (f : Is e.first) where
      abbrev l : Part
      l = f.part

      abbrev cut : Cut
      cut = cut_of slot o l

      begins_first : l.first ≡ e.first
      begins_first = same_pos (ap (λ (b : List ℕ). (header_of b).first_slot) f.bytes ∙ (says l f.logged).first) (belongs e.first first_there).first

      at_front : l.place ≡ 0
      at_front = st.begins l f.logged (begins_first ∙ sym f.slot_is)

      part_at : (s : ℕ) → Contains e.chain s → Is s
      part_at s h = ⊎_elim (λ (q : Was s). absurd (apart s e.first h first_there q f)) (λ (q : Is s). q) (at_slot s h)

      same_version : (s : ℕ) (h : Contains e.chain s) (q : Is s) → q.part.version ≡ l.version
      same_version s h q = is_version s h q ∙ sym (is_version e.first first_there f)

      same_cut : (p : Part) → P p → p.version ≡ l.version → cut_of slot o p ≡ cut
      same_cut p h v = cut_same slot o p l (st.offer p l h f.logged v) v (st.first p l h f.logged v)

      image_is : (s : ℕ) (p : Part) → P p → p.version ≡ l.version → image_at images s ≡ bytes_of slot o p → image_at images s ≡ image cut p.place (next_number p.next)
      image_is s p h v is = is ∙ ap (λ (x : Cut). image x p.place (next_number p.next)) (same_cut p h v)

      number_is : (s : ℕ) (p : Part) → P p → image_at images s ≡ bytes_of slot o p → next_number p.next ≡ (header_at images s).next_slot
      number_is s p h is = sym (says p h).next ∙ ap (λ (b : List ℕ). (header_of b).next_slot) (sym is)

      stands : (x : ℕ) (xs : List ℕ) (p : Part) → P p → image_at images x ≡ bytes_of slot o p → p.version ≡ l.version → ((s : ℕ) → Contains (x ∷ xs) s → Contains e.chain s) → Links images (x ∷ xs)
          → StandFrom cut images p.place (x ∷ xs)
      stands x [] p h is v inside linked = let number = number_is x p h is ∙ linked in (
        image_is x p h v is ∙ ap (image cut p.place) number,
        (st.keeps p h).last.0 (last_is p.next (st.keeps p h).linked number) ∙ ap count (same_cut p h v),
      )
      stands x (y ∷ ys) p h is v inside linked =
          let number = number_is x p h is ∙ linked.0 in
          let there : Contains e.chain y = inside y (1, omega arith, refl) in
          let q = part_at y there in
          let w = same_version y there q in
          let more : q.part.place ≡ p.place + 1 = st.behind p q.part h q.logged (v ∙ sym w) (next_is p.next y number ∙ ap Next (sym q.slot_is)) in (
            image_is x p h v is ∙ ap (image cut p.place) number,
            subst (λ (n : ℕ). StandFrom cut images n (y ∷ ys)) more (stands y ys q.part q.logged q.bytes w (λ s i. inside s (suc i.0, (let z = i.1 in omega arith), i.2)) linked.1),
          )

      stand : Stand cut images e.chain
      stand = record {
        behind = c.chain.behind;
        begins = c.chain.begins ∙ ap (λ (n : ℕ). n ∷ c.chain.behind) (sym begins_first);
        within = λ i d lt. (c.chain.belong i d lt).sane.within;
        once = c.chain.once;
        pieces = subst (StandFrom cut images 0) (sym c.chain.begins) (subst (λ (n : ℕ). StandFrom cut images n (e.first ∷ c.chain.behind)) at_front
            (stands e.first c.chain.behind l f.logged f.bytes refl (λ s i. subst (λ (xs : List ℕ). Contains xs s) (sym c.chain.begins) i) (subst (Links images) c.chain.begins c.chain.linked)));
      }

      writable : IsWritable cut
      writable = let k = st.keeps l f.logged in record { url = k.url; short = k.short; sized = sized; version_from = k.version_from; version_to = k.version_to }

      whole : IsComplete slot images (entry_of cut e.chain)
      whole = t.placed cut images e.chain writable (let m = mixed.count in omega arith) stand

      of_part : IsOfPart slot o P e
      of_part = record { part = l; logged = f.logged; version = is_version e.first first_there f; entry = t.one slot images e (entry_of cut e.chain) c whole (sym begins_first) }

    pub known_entry : IsComplete slot file e ⊎ IsOfPart slot o P e
    known_entry = ⊎_elim (λ (q : Was e.first). inl (as_file q)) (λ (q : Is e.first). inr (of_part q)) (at_slot e.first first_there)

    -- the first slot of an entry of the opening is sane there, with its version
    pub file_first : IsComplete slot file e → (s : ℕ) × IsSaneAt slot file s × ((header_at file s).version ≡ e.version)
    file_first h = (e.first, (All-contains (BelongsTo slot file e.first) e.chain e.first h.chain.belong first_there).sane, sym h.version)

  -- A complete entry is kept, where no piece of a greater version was logged for its anchor, and no entry of the opening there is better.
  module _ (e : Entry) (c : IsComplete slot images e) (a : ℕ) (at : anchor_of e.key anchors ≡ a) (above : (p : Part) → P p → p.anchor ≡ a → p.version ≤ e.version)
      (old : (f : Entry) → IsComplete slot file f → anchor_of f.key anchors ≡ a → (f.version < e.version) ⊎ ((f.version ≡ e.version) × (e.first ≤ f.first))) where
    -- an entry of a piece with that version has the same first slot
    same_first : (p : Part) → P p → p.version ≡ e.version → p.first ≡ e.first
    same_first p h v = ⊎_elim
        (λ (q : IsComplete slot file e). absurd (let s = file_first e c q in let lt = st.new p h s.0 s.1 in let w = s.2 in omega arith))
        (λ (q : IsOfPart slot o P e). st.first p q.part h q.logged (v ∙ sym q.version) ∙ sym (ap Entry.first q.entry))
        (known_entry e c)

    best : (f : Entry) → IsComplete slot images f → anchor_of f.key anchors ≡ a → (f.version < e.version) ⊎ ((f.version ≡ e.version) × (e.first ≤ f.first))
    best f cf af = ⊎_elim
        (λ (q : IsComplete slot file f). old f q af)
        (λ (q : IsOfPart slot o P f).
        let here : q.part.anchor ≡ a = sym (st.keeps q.part q.logged).anchor_is ∙ sym (ap (λ (x : Entry). anchor_of x.key anchors) q.entry) ∙ af in
        let le = above q.part q.logged here in let v = q.version in
        dite (ℕ_discrete q.part.version e.version)
        (λ same. inr (sym v ∙ same, (let z = same_first q.part q.logged same in let y = ap Entry.first q.entry in omega arith)))
        (λ less. inl (omega arith)))
        (known_entry f cf)

    pub wins : IsWinner slot images anchors a e
    wins = record { complete = c; at = at; best = best }
