-- Along a list of steps, crashes and rebuilds what slots hold has as complete entries those of the first file and responses that were offered.
use Rattle.std.proofs.Common.{◌≡◌, ◌⊎◌, inl, inr, ⊎_elim, ℕ, zero, suc, ◌+◌, ◌<◌, ◌≤◌, ◌^◌, List, length, None, Some, replicate, refl, sym, ap, ◌∙◌, subst, arith, Contains}
use Rattle.std.proofs.lemmas.List.{length-replicate}
use mathlib.Core.Option.{some, some-injective, some-ne-none}
use lib.ListN.{get_elem?}
use Rattle.slot_cell.specs.Header.{header_of}
use Rattle.rebuild_model.specs.declared.image.FileImage.{FileImage}
use Rattle.rebuild_model.specs.Image.{IsSaneAt, header_at, image_at}
use Rattle.rebuild_model.specs.Entry.{Entry, IsComplete}
use Rattle.core_model.specs.declared.tab.Cell.{Cell}
use Rattle.core_model.specs.declared.tab.Piece.{Piece}
use Rattle.core_model.specs.declared.view.LoggedPiece.{LoggedPiece}
use Rattle.core_model.specs.declared.view.Place.TheVariants.{Counter}
use Rattle.core_model.specs.Anchors.{opening_counter}
use Rattle.core_model.specs.Cells.{IsCell}
use Rattle.core_model.specs.Layout.{word_in}
use Rattle.core_model.proofs.Lists.{at_length}
use Rattle.core_log.specs.Logged.{IsKnown, IsLogOf}
use Rattle.rebuild_model.specs.Rebuilt.{IsWinner}
use Rattle.core_state.specs.declared.act.Act.{Act}
use Rattle.core_state.specs.declared.act.Step.{Step}
use Rattle.core_state.specs.declared.act.Step.TheVariants as step
use Rattle.core_table.specs.declared.content.Content.{Content}
use Rattle.core_table.specs.declared.content.Content.TheVariants as content
use Rattle.core_table.specs.Machine.{Machine, opened_from, setting_of, state_of}
use Rattle.crash_entries.specs.Parts.{KeepsTo, Offers, bytes_of}
use Rattle.crash_entries.proofs.Telling.{Tools, tells}
use Rattle.crash_laws.specs.Left.{IsFileOf, IsLeftWhile, IsWholeOffer, StandsNew, StandsOld, entry_at, logged_part, part_of}
use Rattle.crash_laws.proofs.Standing.{new_kept, old_kept}
use Rattle.crash_laws.proofs.Crashing.{entries as entries_of}
use Rattle.named_rebuild.specs.declared.contents.FirstContent.{FirstContent}
use Rattle.named_rebuild.specs.declared.contents.FirstContent.TheVariants.{Blank, File, Logged}
use Rattle.named_rebuild.specs.Contents.{content_at}
use Rattle.named_rebuild.specs.Keeping.{IsGreatestShown, ShowsVersion}
use Rattle.named_rebuild.proofs.Facts.{not_blank}
use Rattle.named_bytes.specs.Bytes.{bytes_in, images_from}
use Rattle.named_bytes.proofs.Images.{blank_not_sane, image_is, many_images}
use Rattle.core_lives.specs.Along.{LeadsThrough}
use Rattle.core_lives.specs.Crash.{ArePicked, ShowsAs}
use Rattle.core_lives.specs.Happening.{Happens, IsActed, IsCrashed, IsNewLife, IsReopened, IsSameLife}
use Rattle.core_lives.specs.Left.{IsFaithful, KeepsToOffer, MayBeLeft, content_bytes}
use Rattle.core_lives.specs.Lived.{IsSoundLife, Lived}
use Rattle.core_lives.proofs.Bytes.{first_images}
use Rattle.core_lives.proofs.Leading.{there}
use Rattle.core_lives.proofs.Living.{all_files, happens_sound, no_piece, same_setting}
use Rattle.core_lives.proofs.OneCell.{one_cell}
use Rattle.core_lives.proofs.Seeking.{at_contains, contains_at}

no_left : (xs : List FirstContent) → None ≡ Some xs → ⊥
no_left xs e = cc

same_left : (xs ys : List FirstContent) → Some xs ≡ Some ys → xs ≡ ys
same_left xs ys e = cc

one_slot : (a b : ℕ) → content.Opened a ≡ content.Opened b → a ≡ b
one_slot a b e = cc

-- what a slot held at the opening is named by the slot
opened_at : (from n i : ℕ) (x : Content) → get_elem? (opened_from from n) i ≡ some x → x ≡ content.Opened (from + i)
opened_at from zero i x e = absurd (some-ne-none x (sym e))
opened_at from (suc n) zero x e = sym (some-injective (content.Opened from) x e) ∙ ap content.Opened (let z : from ≡ from + 0 = omega arith in z)
opened_at from (suc n) (suc i) x e = opened_at (from + 1) n i x e ∙ ap content.Opened (let z : (from + 1) + i ≡ from + suc i = omega arith in z)

opened_low : (from n i : ℕ) (x : Content) → get_elem? (opened_from from n) i ≡ some x → i < n
opened_low from zero i x e = absurd (some-ne-none x (sym e))
opened_low from (suc n) zero x e = omega arith
opened_low from (suc n) (suc i) x e = let r = opened_low (from + 1) n i x e in omega arith

module _ (t : Tools) (file : FileImage) (o : Offers) (anchors : ℕ) (sized : file.slot < 2 ^ 32) (few : length file.slots ≤ 1048576) where
  abbrev slots : ℕ
  slots = length file.slots

  abbrev Keeps : LoggedPiece → Type 0
  Keeps l = KeepsTo file.slot anchors slots o (logged_part l)

  -- each piece that a slot holds keeps to its offer
  abbrev KeepAll : List FirstContent → Type 0
  KeepAll xs = (s : ℕ) (l : LoggedPiece) → content_at xs s ≡ Logged l → Keeps l

  -- each complete entry is the first file's or was offered
  abbrev AreKnown : List FirstContent → Type 0
  AreKnown xs = (e : Entry) → IsComplete file.slot (images_from file o 0 xs) e → IsComplete file.slot file.slots e ⊎ IsWholeOffer o slots e

  pub record Known (l : Lived) : Type 0 where
    pub sound : IsSoundLife l
    pub file_is : l.file ≡ file
    pub anchors_is : l.core.anchors ≡ anchors
    pub keeps : KeepAll l.first
    pub greatest : IsGreatestShown file l.first (opening_counter (setting_of l.core))
    pub entries : AreKnown l.first
    pub left : (xs : List FirstContent) → l.left ≡ Some xs → KeepAll xs × AreKnown xs

  module _ (l : Lived) (k : Known l) (faithful : IsFaithful l.file o l.core) where
    pub slots_are : l.core.slots ≡ slots
    slots_are = sym k.sound.slots ∙ ap (λ (f : FileImage). length f.slots) k.file_is

    abbrev was : List (List ℕ)
    was = images_from file o 0 l.first

    abbrev b : Content → List ℕ
    b x = content_bytes file o l.first x

    many_was : length was ≡ l.core.slots
    many_was = many_images file o 0 l.first ∙ k.sound.first.many

    -- each logged piece keeps to its offer, as a header tells it
    keeps_here : (p : LoggedPiece) → Contains k.sound.logs.log p → KeepsTo file.slot l.core.anchors l.core.slots o (logged_part p) × (l.core.slots ≤ p.piece.offer)
    keeps_here p c = let f = subst (λ (g : FileImage). KeepsToOffer g o l.core.anchors p) k.file_is (faithful p (k.sound.logs.stands.of.seen p c)) in
        let in_range = k.sound.logs.stands.numbers.inside p c in let w = k.sound.logs.within p c in (
          record {
            url = f.url;
            short = f.short;
            anchor_is = f.anchor_is;
            last = f.last;
            linked = w.linked;
            version_from = let n = k.sound.logs.stands.links.new p c in omega arith;
            version_to = let z = in_range.0 in omega arith;
            place_low = in_range.1;
            first_low = w.first;
            next_low = w.next;
          },
          w.offer,
        )

    keeps_log : (p : LoggedPiece) → Contains k.sound.logs.log p → Keeps p
    keeps_log p c = subst (λ (n : ℕ). KeepsTo file.slot n slots o (logged_part p)) k.anchors_is
        (subst (λ (n : ℕ). KeepsTo file.slot l.core.anchors n o (logged_part p)) slots_are (keeps_here p c).0)

    -- no slot has a greater version than the counter had at the opening
    above : (j : ℕ) → IsSaneAt file.slot was j → (header_at was j).version ≤ opening_counter (setting_of l.core)
    above j sane = of_content (content_at l.first j) refl
      where
        low : j < length l.first
        low = let z = sane.within in let m = many_images file o 0 l.first in omega arith

        image : image_at was j ≡ bytes_in file o j (content_at l.first j)
        image = image_is file o l.first j low

        of_content : (x : FirstContent) → content_at l.first j ≡ x → (header_at was j).version ≤ opening_counter (setting_of l.core)
        of_content File e =
            let here : image_at was j ≡ image_at file.slots j = image ∙ ap (bytes_in file o j) e in
            let many : length was ≡ slots = many_was ∙ slots_are in
            let s : IsSaneAt file.slot file.slots j = record {
              within = (let z = sane.within in omega arith);
              sane = subst (λ (n : ℕ). Rattle.slot_cell.specs.Header.IsSane (header_at file.slots j) n file.slot) many
                  (subst (λ (bytes : List ℕ). Rattle.slot_cell.specs.Header.IsSane (header_of bytes) (length was) file.slot) here sane.sane);
            } in
            let shown = k.greatest.above j (header_at file.slots j).version low (inl (e, s, refl)) in
            let same = ap (λ (bytes : List ℕ). (header_of bytes).version) here in omega arith
        of_content (Logged p) e =
            let here : image_at was j ≡ bytes_of file.slot o (logged_part p) = image ∙ ap (bytes_in file o j) e in
            let told = (tells t file.slot anchors slots o (logged_part p) (k.keeps j p e) sized few).version in
            let same = ap (λ (bytes : List ℕ). (header_of bytes).version) here in
            let from : 0 < p.piece.version = (let least = sane.sane.version_from in omega arith) in
            let shown = k.greatest.above j p.piece.version low (inr record { piece = p; there = e; some = from; version_is = refl }) in omega arith
        of_content Blank e = absurd (blank_not_sane file.slot file.slot was j (image ∙ ap (bytes_in file o j) e) sane)

    is_file : IsFileOf file.slot o (setting_of l.core) b was
    is_file = record {
      many = many_was;
      content = λ j x e. let is = opened_at 0 l.core.slots j x e in let lt = opened_low 0 l.core.slots j x e in
          image_is file o l.first j (let m = k.sound.first.many in omega arith) ∙ ap b (let z : 0 + j ≡ j = omega arith in sym (is ∙ ap content.Opened z));
      image = λ j a p. refl;
      blank = λ images j e. blank_not_sane file.slot file.slot images j e;
      greatest = above;
    }

    abbrev log : List LoggedPiece
    log = k.sound.logs.log

    low : l.core.slots ≤ 1048576
    low = let m = slots_are in omega arith

    module _ (images : List (List ℕ)) (left : MayBeLeft file o l.first l.core images) where
      of_cell : (s : ℕ) (cell : Cell Content) → s < l.core.slots → IsCell (state_of l.core) s cell → (x : Content) × Contains cell.possible x × (image_at images s ≡ b x)
      of_cell s cell lt is = let q = left.each s lt in
          subst (λ (d : Cell Content). (x : Content) × Contains d.possible x × (image_at images s ≡ b x)) (one_cell l.core k.sound.sound s q.0 cell q.1 is) q.2

      left_while : IsLeftWhile (setting_of l.core) b (state_of l.core) log images
      left_while = record { many = left.many; each = λ s cell lt is. inl (of_cell s cell lt is) }

      -- a file that takes slot by slot one content that may be left
      pub entries_left : (e : Entry) → IsComplete file.slot images e → IsComplete file.slot file.slots e ⊎ IsWholeOffer o slots e
      entries_left e c = ⊎_elim
          (λ (q : IsComplete file.slot was e). k.entries e q)
          (λ (q : IsWholeOffer o l.core.slots e). inr (subst (λ (n : ℕ). IsWholeOffer o n e) slots_are q))
          (entries_of t file.slot o (setting_of l.core) b was (state_of l.core) log sized low is_file k.sound.sound k.sound.logs.stands.cells k.sound.logs.stands.links keeps_here images left_while e c)

      -- a new durable entry that stands is kept by a rebuild of it
      pub new_stands : (a : ℕ) → a < l.core.anchors → (seen : List LoggedPiece) → IsLogOf l.core.views seen → StandsNew file.slot o (setting_of l.core) (state_of l.core) seen a
          → IsWinner file.slot images l.core.anchors a (entry_at file.slot o (setting_of l.core) (state_of l.core) a)
      new_stands a lt seen of st = new_kept t file.slot o (setting_of l.core) b was (state_of l.core) log sized low is_file k.sound.sound k.sound.logs.stands.cells k.sound.logs.stands.links keeps_here k.sound.logs.stands.settled images left_while a lt record {
        some_slot = st.some_slot;
        closed = st.closed;
        offer = st.offer;
        new = st.new;
        durable = λ place low. let d = st.durable place low in record {
          link = d.link;
          among = k.sound.logs.stands.of.all d.link (of.seen d.link d.among);
          durable = d.durable;
          anchor_is = d.anchor_is;
          version_is = d.version_is;
          place_is = d.place_is;
        };
        keeps = st.keeps;
      }

      -- and so is an entry that was kept at the opening and still stands
      pub old_stands : (a : ℕ) → a < l.core.anchors → (e : Entry) → StandsOld file.slot was (setting_of l.core) (state_of l.core) a e → IsWinner file.slot images l.core.anchors a e
      old_stands a lt e st = old_kept t file.slot o (setting_of l.core) b was (state_of l.core) log sized low is_file k.sound.sound k.sound.logs.stands.cells k.sound.logs.stands.links keeps_here k.sound.logs.stands.settled images left_while a lt e st

    module _ (picks : List ℕ) (xs : List FirstContent) (p : ArePicked l.core l.first picks xs) where
      -- what is left of a slot has the bytes of the content that was picked
      shown_bytes : (s : ℕ) (x : Content) (y : FirstContent) → IsKnown (setting_of l.core) k.sound.logs.log s x → ShowsAs l.core l.first s x y → bytes_in file o s y ≡ b x
      shown_bytes s (content.Opened j) y known e = of_known known
        where
          of_known : IsKnown (setting_of l.core) k.sound.logs.log s (content.Opened j) → bytes_in file o s y ≡ b (content.Opened j)
          of_known (inl at) = let same : j ≡ s = one_slot j (0 + s) (opened_at 0 l.core.slots s (content.Opened j) at) ∙ (let z : 0 + s ≡ s = omega arith in z) in
              ap (bytes_in file o s) e ∙ ap (λ (i : ℕ). bytes_in file o i (content_at l.first i)) (sym same)
          of_known (inr (inl q)) = absurd (no_offered q.0 q.2)
            where
              no_offered : (r : Piece) → content.Opened j ≡ content.Offered r → ⊥
              no_offered r h = cc
          of_known (inr (inr q)) = absurd (no_blank q)
            where
              no_blank : content.Opened j ≡ content.Blank → ⊥
              no_blank h = cc
      shown_bytes s (content.Offered r) y known e = ap (bytes_in file o s) e.2 ∙ ap (λ (z : Piece). bytes_of file.slot o (part_of 0 0 z)) e.1.piece_is
      shown_bytes s content.Blank y known e = ap (bytes_in file o s) e

      left_images : MayBeLeft file o l.first l.core (images_from file o 0 xs)
      left_images = record {
        many = many_images file o 0 xs ∙ p.many;
        each = λ s lt. let q = p.each s lt in let has = contains_at q.picked.cell.possible _ q.content q.picked.at in
            (q.picked.cell, q.picked.is_cell, (q.content, has, image_is file o xs s (let m = p.many in omega arith) ∙ shown_bytes s q.content (content_at xs s) (k.sound.logs.stands.cells.possible s q.picked.cell q.content q.picked.is_cell has) q.shown));
      }

      pub known_left : AreKnown xs
      known_left e c = entries_left (images_from file o 0 xs) left_images e c

      shown_keeps : (s : ℕ) (x : Content) (r : LoggedPiece) → ShowsAs l.core l.first s x (Logged r) → Keeps r
      shown_keeps s (content.Opened j) r e = k.keeps s r (sym e)
      shown_keeps s (content.Offered q) r e =
          let at = at_contains l.core.views e.1.view e.1.among in
          let c = k.sound.logs.stands.of.all e.0 record { i = at.0; view = e.1.view; at = at.1; seen = e.1.seen } in
          subst Keeps (one e.0 r (sym e.2)) (keeps_log e.0 c)
        where
          one : (a c : LoggedPiece) → Logged a ≡ Logged c → a ≡ c
          one a c h = cc
      shown_keeps s content.Blank r e = absurd (no r e)
        where
          no : (r : LoggedPiece) → Logged r ≡ Blank → ⊥
          no r h = cc

      pub keep_left : KeepAll xs
      keep_left s r is = let lt = not_blank xs s r is in let q = p.each s (let m = p.many in omega arith) in
          shown_keeps s q.content r (subst (ShowsAs l.core l.first s q.content) is q.shown)

  acted_known : (l then : Lived) (act : Act) (number : ℕ) → Known l → IsSameLife l then → IsActed l (step.Act act) number then → Known then
  acted_known l then act number k same h = record {
    sound = happens_sound l then (step.Act act) number k.sound same h;
    file_is = same.file ∙ k.file_is;
    anchors_is = same.anchors ∙ k.anchors_is;
    keeps = subst KeepAll (sym h.first) k.keeps;
    greatest = subst (IsGreatestShown file then.first) (ap opening_counter (sym (same_setting l.core then.core h.same_store)))
        (subst (λ (xs : List FirstContent). IsGreatestShown file xs (opening_counter (setting_of l.core))) (sym h.first) k.greatest);
    entries = subst AreKnown (sym h.first) k.entries;
    left = λ xs e. absurd (no_left xs (sym h.left ∙ e));
  }

  crashed_known : (l then : Lived) (picks : List ℕ) → Known l → IsFaithful l.file o l.core → IsSameLife l then → IsCrashed l picks then → Known then
  crashed_known l then picks k faithful same h = record {
    sound = happens_sound l then (step.Crash picks) 0 k.sound same (refl, h);
    file_is = same.file ∙ k.file_is;
    anchors_is = same.anchors ∙ k.anchors_is;
    keeps = subst KeepAll (sym h.first) k.keeps;
    greatest = subst (λ (m : Machine). IsGreatestShown file then.first (opening_counter (setting_of m))) (sym h.core)
        (subst (λ (xs : List FirstContent). IsGreatestShown file xs (opening_counter (setting_of l.core))) (sym h.first) k.greatest);
    entries = subst AreKnown (sym h.first) k.entries;
    left = λ xs e. subst (λ (ys : List FirstContent). KeepAll ys × AreKnown ys) (same_left h.contents xs (sym h.left ∙ e))
        (keep_left l k faithful picks h.contents h.picked, known_left l k faithful picks h.contents h.picked);
  }

  counter_is : (m : Machine) (n : ℕ) (words : List ℕ) → words ≡ m.opening → word_in (setting_of m) words Counter ≡ n → opening_counter (setting_of m) ≡ n
  counter_is m n words same is = ap (λ (ws : List ℕ). word_in (setting_of m) ws Counter) (sym same) ∙ is

  reopened_known : (l then : Lived) → Known l → IsSameLife l then → IsReopened l then → Known then
  reopened_known l then k same h = let held = k.left then.first h.first in record {
    sound = happens_sound l then step.Rebuild 0 k.sound same (refl, h);
    file_is = same.file ∙ k.file_is;
    anchors_is = same.anchors ∙ k.anchors_is;
    keeps = held.0;
    greatest = subst (IsGreatestShown file then.first) (sym (counter_is then.core h.rebuilt.greatest then.core.words h.opened.opened.words h.opened.opened.counter))
        (subst (λ (f : FileImage). IsGreatestShown f then.first h.rebuilt.greatest) k.file_is h.kept.greatest);
    entries = held.1;
    left = λ xs e. absurd (no_left xs (sym h.left ∙ e));
  }

  known_next : (l then : Lived) (s : Step) (number : ℕ) → Known l → IsFaithful l.file o l.core → IsSameLife l then → Happens l s number then → Known then
  known_next l then (step.Act act) number k faithful same h = acted_known l then act number k same h
  known_next l then (step.Crash picks) number k faithful same h = crashed_known l then picks k faithful same h.1
  known_next l then step.Rebuild number k faithful same h = reopened_known l then k same h.1

  pub new_known : (passes : ℕ) (l : Lived) → IsNewLife file anchors passes l → IsSoundLife l → Known l
  new_known passes l new so = record {
    sound = so;
    file_is = new.file;
    anchors_is = new.core.anchors_are;
    keeps = λ s p e. absurd (no_piece slots s p (ap (λ (xs : List FirstContent). content_at xs s) (sym new.first) ∙ e));
    greatest = subst (λ (xs : List FirstContent). IsGreatestShown file xs (opening_counter (setting_of l.core))) (sym new.first)
        (subst (IsGreatestShown file (replicate slots File)) (sym (counter_is l.core new.core.rebuilt.greatest l.core.words new.core.opened.words new.core.opened.counter)) shown);
    entries = λ e c. inl (subst (λ (images : List (List ℕ)). IsComplete file.slot images e) (ap (images_from file o 0) new.first ∙ first_images file o) c);
    left = λ xs e. absurd (no_left xs (sym new.left ∙ e));
  }
    where
      shown : IsGreatestShown file (replicate slots File) new.core.rebuilt.greatest
      shown = record {
        above = λ s version lt h. of_shown s version h;
        there = λ some_version. let q = new.core.kept.greatest.there some_version in let n = length-replicate slots File in
            (q.0, (let z = q.1.within in omega arith), inl (all_files slots q.0 q.1.within, q.1, sym q.2));
      }
        where
          of_shown : (s version : ℕ) → ShowsVersion file (replicate slots File) s version → version ≤ new.core.rebuilt.greatest
          of_shown s version (inl q) = let z = new.core.kept.greatest.above s q.1 in let e = q.2 in omega arith
          of_shown s version (inr q) = absurd (no_piece slots s q.piece q.there)

  pub all_known : (steps : List Step) (lives : List Lived) (from : Lived) → LeadsThrough steps lives → get_elem? lives 0 ≡ some from → Known from → ((j : ℕ) (l : Lived) → get_elem? lives j ≡ some l → IsFaithful l.file o l.core)
      → (i : ℕ) (l : Lived) → get_elem? lives i ≡ some l → Known l
  all_known steps lives from leads first k faithful zero l at = subst Known (some-injective from l (sym first ∙ at)) k
  all_known steps lives from leads first k faithful (suc i) l at =
      let lt = at_length lives (suc i) l at in
      let count = leads.count in
      let was = there lives i (omega arith) in
      let made = there steps i (omega arith) in
      let more : suc i ≡ i + 1 = omega arith in
      let follows = leads.follows i made.0 was.0 l made.1 was.1 (ap (get_elem? lives) (sym more) ∙ at) in
      known_next was.0 l made.0 follows.1.0 (all_known steps lives from leads first k faithful i was.0 was.1) (faithful i was.0 was.1) follows.0 follows.1.1
