-- The entries that stand outlive a crash.
use Rattle.std.proofs.Common.{◌≡◌, inl, inr, ⊎_elim, ℕ, zero, suc, ◌+◌, ◌-◌, ◌/◌, ◌<◌, ◌≤◌, ◌^◌, List, [], ◌∷◌, length, drop, get_or, sym, refl, ap, ◌∙◌, subst, arith, Contains}
use Rattle.std.specs.Prelude.{nat_eq}
use Rattle.std.specs.List.{IsDistinct}
use Rattle.std.proofs.lemmas.List.Elements.{All-contains}
use mathlib.Core.Option.{some}
use lib.ListN.{get_elem?}
use Rattle.link_word.specs.declared.link.Link.{Link}
use Rattle.link_word.specs.declared.link.Link.TheVariants.{Last}
use Rattle.rebuild_model.specs.Image.{BelongsTo, image_at}
use Rattle.rebuild_model.specs.Entry.{Entry, IsComplete}
use Rattle.rebuild_model.specs.Rebuilt.{IsWinner}
use Rattle.entry_cut.specs.Content.{Cut, count, image}
use Rattle.entry_cut.specs.Standing.{IsWritable, Stand, StandFrom}
use Rattle.core_model.specs.declared.tab.Tab.TheVariants.{Freeing}
use Rattle.core_model.specs.declared.view.LoggedPiece.{LoggedPiece}
use Rattle.core_model.specs.Layout.{Setting, word_in}
use Rattle.link_word.specs.Map.{taken_in}
use Rattle.core_model.specs.declared.view.Place.TheVariants.{Map}
use Rattle.core_model.specs.State.{State, chain_of, side_word, word}
use Rattle.core_model.specs.declared.moves.Side.TheVariants.{Offer}
use Rattle.lock_word.specs.Words.{epoch_of, version_of}
use Rattle.core_model.specs.Anchors.{opening_counter}
use Rattle.core_model.specs.Chains.{first_of, link_at, link_to, rest_of, times}
use Rattle.core_model.specs.Cells.{IsContent}
use Rattle.core_model.specs.Slots.{published_in, standing_in, told, used}
use Rattle.core_model.specs.Sound.{Sound}
use Rattle.core_model.proofs.Lists.{at_length, sum_mono}
use Rattle.core_model.proofs.Telling.{told_out}
use mathlib.Core.Logic.{dite}
use native.Mathlib.Decide.{ℕ_discrete}
use Rattle.core_model.proofs.CellsTab.{written_unpublished, held_unpublished}
use Rattle.core_model.proofs.FollowsKept.{at_times}
use Rattle.core_model.proofs.SlotFrame.{published_few, used_few}
use Rattle.core_model.proofs.Spelling.{distinct, suc_is}
use Rattle.core_log.specs.Logged.{CellsLogged, IsFast, LinksStand, SettledStand}
use Rattle.crash_entries.specs.Parts.{KeepsTo, Offers, cut_of, next_number}
use Rattle.rebuild_model.proofs.Depends.{complete_in}
use Rattle.crash_entries.proofs.Telling.{Tools}
use Rattle.crash_laws.specs.Left.{IsFileOf, IsLeftWhile, LogKeeps, StandsNew, StandsOld, entry_at, part_at, piece_at}
use Rattle.core_log.specs.Within.{IsPossible, IsWriting, IsWiping}
use Rattle.crash_laws.proofs.Crashing.{a_cell, kept}

at_in : (xs : List ℕ) (i d : ℕ) → i < length xs → get_elem? xs i ≡ some (get_or xs i d)
at_in [] i d lt = absurd (omega arith)
at_in (x ∷ xs) zero d lt = refl
at_in (x ∷ xs) (suc i) d lt = at_in xs i d (omega arith)

in_front : (xs : List ℕ) → 0 < length xs → xs ≡ first_of xs ∷ rest_of xs
in_front [] h = absurd (omega arith)
in_front (x ∷ xs) h = refl

link_end : (n : ℕ) (xs : List ℕ) (e : Link) → n ≡ length xs → link_to (drop n xs) e ≡ e
link_end n [] e h = ap (λ (m : ℕ). link_to (drop m []) e) h
link_end zero (x ∷ xs) e h = absurd (omega arith)
link_end (suc n) (x ∷ xs) e h = link_end n xs e (omega arith)

-- the pieces stand, from a place on
stand_from : (c : Cut) (images : List (List ℕ)) (p x : ℕ) (xs : List ℕ) → ((q y n : ℕ) → n ≡ q + p → get_elem? (x ∷ xs) q ≡ some y → image_at images y ≡ image c n (next_number (link_to (drop q xs) Last)))
    → length (x ∷ xs) + p ≡ count c → StandFrom c images p (x ∷ xs)
stand_from c images p x [] at e = (at 0 x p (omega arith) refl, (omega arith))
stand_from c images p x (y ∷ ys) at e = (
  at 0 x p (omega arith) refl,
  stand_from c images (p + 1) y ys (λ q z n same h. at (suc q) z n (omega arith) h) (omega arith),
)

-- A new entry stands at the anchor: its chain ends, and its pieces are those of its offer.
pub record StandsWhole {X : Type 0} (slot : ℕ) (o : Offers) (k : Setting X) (s : State X) (a : ℕ) : Type 0 where
  pub some_slot : 0 < length (chain_of s a).slots
  pub closed : (chain_of s a).end ≡ Last
  pub offer : k.slots ≤ side_word k s Offer a
  pub new : opening_counter k < version_of (epoch_of (word s a))
  pub keeps : (place : ℕ) → place < length (chain_of s a).slots → KeepsTo slot k.anchors k.slots o (part_at k s a place)

-- a slot that the table does not have is used by nobody
used_low : (many j n : ℕ) → 0 < used (told many j n) → j < many
used_low many j n h = dite (ℕ_discrete (many - j) 0)
    (λ e. absurd (let z : told many j n ≡ 0 = told_out many j n (omega arith) in let y = ap used z in omega arith))
    (λ ne. omega arith)

module _ {X : Type 0} (t : Tools) (slot : ℕ) (o : Offers) (k : Setting X) (b : X → List ℕ) (was : List (List ℕ)) (s : State X) (log : List LoggedPiece) (sized : slot < 2 ^ 32) (few : k.slots ≤ 1048576) (file : IsFileOf slot o k b was) (so : Sound k s)
    (cells : CellsLogged k s log) (links : LinksStand k s log) (keeps : LogKeeps slot o k log)
    (images : List (List ℕ)) (left : IsLeftWhile k b s log images) (a : ℕ) (lt : a < k.anchors) where
  abbrev slots : List ℕ
  slots = (chain_of s a).slots

  times_used : (j : ℕ) → times j slots ≤ used (told k.slots j (taken_in (word_in k s.words (Map (j / 64))) j))
  times_used j = let p = so.slots.places.taken j in let f = published_few j s.chains a in let m = sum_mono (published_in j) (standing_in j) (λ y. omega arith) s.chains in omega arith

  once : IsDistinct nat_eq slots
  once = distinct slots (λ j. let u = times_used j in let f = used_few (told k.slots j (taken_in (word_in k s.words (Map (j / 64))) j)) in omega arith)

  pub inside : (place j : ℕ) → get_elem? slots place ≡ some j → j < k.slots
  inside place j e = used_low k.slots j (taken_in (word_in k s.words (Map (j / 64))) j) (let u = times_used j in let z = at_times slots place j e in omega arith)

  -- the slot at a place of the chain has in these images what is published there
  abbrev pub HasContent : (place j : ℕ) → Type 0
  HasContent place j = (x : X) × IsContent k s a place j x × (image_at images j ≡ b x)

  abbrev pub HasContents : Type 0
  HasContents = (place j : ℕ) → get_elem? slots place ≡ some j → HasContent place j

  -- a crash leaves it there where it leaves nothing else of such a slot
  pub left_content : SettledStand k s log → ((place : ℕ) → place < length slots → IsFast k s log a place) → HasContents
  left_content settled all_fast place j e = let fast = all_fast place (at_length slots place j e) in let c = a_cell t slot o k b was s log sized few file so cells links keeps j (inside place j e) in ⊎_elim
      (λ (q : IsPossible b c.0 (image_at images j)). (q.0, settled a place j c.0 q.0 lt e c.1 q.1 fast, q.2))
      (⊎_elim
      (λ (q : IsWriting k b s log j (image_at images j)). absurd (let z = written_unpublished k s q.i q.view so q.at q.t q.writer q.writes j q.reserved a in let y = at_times slots place j e in omega arith))
      (λ (q : IsWiping k b s j (image_at images j)). absurd (let r = q.rests in let z = held_unpublished k s q.i q.view so q.at q.t (Freeing q.freer) q.frees j (omega arith) a in let y = at_times slots place j e in omega arith)))
      (left.each j c.0 (inside place j e) c.1)

  -- an entry of the opening has at most the version that the counter had
  old_version : (f : Entry) → IsComplete slot was f → f.version ≤ opening_counter k
  old_version f c = let sane = (All-contains (BelongsTo slot was f.first) f.chain f.first c.chain.belong (subst (λ (xs : List ℕ). Contains xs f.first) (sym c.chain.begins) (0, omega arith, refl))).sane in
      let g = file.greatest f.first sane in let v = c.version in omega arith

  module _ (content : HasContents) (st : StandsWhole slot o k s a) where
    abbrev cut : Cut
    cut = cut_of slot o (part_at k s a 0)

    there : (place j : ℕ) → get_elem? slots place ≡ some j → image_at images j ≡ image cut place (next_number (link_at (chain_of s a) place))
    there place j e = of_content (content place j e)
      where
        of_content : (x : X) × IsContent k s a place j x × (image_at images j ≡ b x) → image_at images j ≡ image cut place (next_number (link_at (chain_of s a) place))
        of_content (x, inl q, is) = absurd (let z = st.offer in let y = q.0 in omega arith)
        of_content (x, inr q, is) = is ∙ ap b q.1 ∙ file.image j a (piece_at k s a place)

    pieces : (xs : List ℕ) → slots ≡ first_of slots ∷ xs → StandFrom cut images 0 (first_of slots ∷ xs)
    pieces xs e = stand_from cut images 0 (first_of slots) xs
        (λ q y n same h. let h₁ : get_elem? slots q ≡ some y = ap (λ (ys : List ℕ). get_elem? ys q) e ∙ h in
        there q y h₁
        ∙ ap (λ (l : Link). image cut q (next_number l)) (ap (λ (ys : List ℕ). link_to (drop (q + 1) ys) (chain_of s a).end) e ∙ ap (link_to (drop (q + 1) (first_of slots ∷ xs))) st.closed ∙ ap (λ (i : ℕ). link_to (drop i (first_of slots ∷ xs)) Last) (sym (suc_is q)))
        ∙ ap (λ (i : ℕ). image cut i (next_number (link_to (drop q xs) Last))) (let w : q ≡ n = omega arith in w))
        (let m = ap length e in
        let last = (st.keeps (length xs) (omega arith)).last.0 (link_end (length xs + 1) slots (chain_of s a).end (omega arith) ∙ st.closed) in omega arith)

    stand : Stand cut images slots
    stand = record {
      behind = rest_of slots;
      begins = in_front slots st.some_slot;
      within = λ i d low. let z = inside i (get_or slots i d) (at_in slots i d low) in let m = left.many in omega arith;
      once = once;
      pieces = subst (StandFrom cut images 0) (sym (in_front slots st.some_slot)) (pieces (rest_of slots) (in_front slots st.some_slot));
    }

    writable : IsWritable cut
    writable = let q = st.keeps 0 st.some_slot in record { url = q.url; short = q.short; sized = sized; version_from = q.version_from; version_to = q.version_to }

    whole : IsComplete slot images (entry_at slot o k s a)
    whole = t.placed cut images slots writable (let m = left.many in omega arith) stand

    pub new_wins : IsWinner slot images k.anchors a (entry_at slot o k s a)
    new_wins = kept t slot o k b was s log sized few file so cells links keeps images left (entry_at slot o k s a) whole a lt (st.keeps 0 st.some_slot).anchor_is refl
        (λ f c at. inl (let z = old_version f c in let y = st.new in omega arith))

  module _ (content : HasContents) (e : Entry) (st : StandsOld slot was k s a e) where
    same : (j : ℕ) → Contains e.chain j → image_at images j ≡ image_at was j
    same j h = of_content (content h₁.0 j there)
      where
        h₁ : Contains slots j
        h₁ = subst (λ (xs : List ℕ). Contains xs j) st.chain_is h

        there : get_elem? slots h₁.0 ≡ some j
        there = at_in slots h₁.0 j h₁.1 ∙ ap some h₁.2

        of_content : (x : X) × IsContent k s a h₁.0 j x × (image_at images j ≡ b x) → image_at images j ≡ image_at was j
        of_content (x, inl q, is) = is ∙ sym (file.content j x q.1)
        of_content (x, inr q, is) = absurd (let z = st.offer in let y = q.0 in omega arith)

    pub old_wins : IsWinner slot images k.anchors a e
    old_wins = kept t slot o k b was s log sized few file so cells links keeps images left e
        (complete_in slot was images (left.many ∙ sym file.many) e same st.won.complete) a lt st.won.at st.version_is st.won.best

module _ {X : Type 0} (t : Tools) (slot : ℕ) (o : Offers) (k : Setting X) (b : X → List ℕ) (was : List (List ℕ)) (s : State X) (log : List LoggedPiece) (sized : slot < 2 ^ 32) (few : k.slots ≤ 1048576) (file : IsFileOf slot o k b was) (so : Sound k s)
    (cells : CellsLogged k s log) (links : LinksStand k s log) (keeps : LogKeeps slot o k log) (settled : SettledStand k s log)
    (images : List (List ℕ)) (left : IsLeftWhile k b s log images) (a : ℕ) (lt : a < k.anchors) where
  pub new_kept : StandsNew slot o k s log a → IsWinner slot images k.anchors a (entry_at slot o k s a)
  new_kept st = new_wins t slot o k b was s log sized few file so cells links keeps images left a lt
      (left_content t slot o k b was s log sized few file so cells links keeps images left a lt settled (λ place low. inr (st.durable place low)))
      record { some_slot = st.some_slot; closed = st.closed; offer = st.offer; new = st.new; keeps = st.keeps }

  pub old_kept : (e : Entry) → StandsOld slot was k s a e → IsWinner slot images k.anchors a e
  old_kept e st = old_wins t slot o k b was s log sized few file so cells links keeps images left a lt
      (left_content t slot o k b was s log sized few file so cells links keeps images left a lt settled (λ place low. inl st.offer)) e st
