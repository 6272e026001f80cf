-- Of an entry that was wiped since the last opening a crash leaves no complete entry.
use Rattle.std.proofs.Common.{◌≡◌, inl, inr, ℕ, zero, suc, ◌+◌, ◌<◌, ◌≤◌, ◌^◌, List, length, refl, sym, ap, ◌∙◌, subst, arith, Contains}
use mathlib.Core.Option.{some, some-injective, some-ne-none}
use lib.ListN.{get_elem?}
use Rattle.slot_cell.specs.Header.{header_of}
use Rattle.rebuild_model.specs.declared.image.FileImage.{FileImage}
use Rattle.rebuild_model.specs.Image.{IsSaneAt, header_at, image_at}
use Rattle.rebuild_model.specs.Entry.{Entry, IsComplete}
use Rattle.core_model.specs.declared.tab.Cell.{Cell}
use Rattle.core_model.specs.declared.view.LoggedPiece.{LoggedPiece}
use Rattle.core_model.specs.Anchors.{opening_counter}
use Rattle.core_model.specs.Cells.{IsCell}
use Rattle.core_table.specs.declared.content.Content.{Content}
use Rattle.core_table.specs.declared.content.Content.TheVariants as content
use Rattle.core_table.specs.Machine.{opened_from, setting_of, state_of}
use Rattle.crash_entries.specs.Parts.{KeepsTo, Offers, bytes_of}
use Rattle.crash_entries.proofs.Telling.{Tools, tells}
use Rattle.crash_laws.specs.Left.{IsFileOf, logged_part}
use Rattle.named_rebuild.specs.declared.contents.FirstContent.{FirstContent}
use Rattle.named_rebuild.specs.declared.contents.FirstContent.TheVariants.{Blank, File, Logged}
use Rattle.named_rebuild.specs.Contents.{content_at}
use Rattle.named_bytes.specs.Bytes.{bytes_in, images_from}
use Rattle.named_bytes.proofs.Images.{blank_not_sane, image_is, many_images}
use Rattle.core_lives.specs.Left.{IsFaithful, KeepsToOffer, MayBeLeft, content_bytes}
use Rattle.core_lives.specs.Lived.{Lived}
use Rattle.std.proofs.Common.{◌≢◌}
use Rattle.core_wiped.specs.Wipes.{HasWipes, IsSeenWiped}
use Rattle.wiped_entries.specs.Now.{IsLeftNow}
use Rattle.wiped_entries.proofs.Gone.{begun, new_gone}
use Rattle.core_lives.proofs.Known.{Known}
use Rattle.wiped_lives.proofs.OneCell.{one_cell}

one_slot : (a b : ℕ) → content.Opened a ≡ content.Opened b → a ≡ b
one_slot a b e = cc

-- what a slot held at the opening is named by the slot
opened_at : (from n i : ℕ) (x : Content) → get_elem? (opened_from from n) i ≡ some x → x ≡ content.Opened (from + i)
opened_at from zero i x e = absurd (some-ne-none x (sym e))
opened_at from (suc n) zero x e = sym (some-injective (content.Opened from) x e)
    ∙ ap content.Opened (let z : from ≡ from + 0 = omega arith in z)
opened_at from (suc n) (suc i) x e = opened_at (from + 1) n i x e
    ∙ ap content.Opened (let z : (from + 1) + i ≡ from + suc i = omega arith in z)

opened_low : (from n i : ℕ) (x : Content) → get_elem? (opened_from from n) i ≡ some x → i < n
opened_low from zero i x e = absurd (some-ne-none x (sym e))
opened_low from (suc n) zero x e = omega arith
opened_low from (suc n) (suc i) x e = let r = opened_low (from + 1) n i x e in omega arith

module _ (t : Tools) (file : FileImage) (o : Offers) (anchors : ℕ) (sized : file.slot < 2 ^ 32) (few : length file.slots ≤ 1048576) where
  abbrev slots : ℕ
  slots = length file.slots

  module _ (l : Lived) (k : Known t file o anchors sized few l) (faithful : IsFaithful l.file o l.core) where
    slots_are : l.core.slots ≡ slots
    slots_are = sym k.sound.slots ∙ ap (λ (f : FileImage). length f.slots) k.file_is

    abbrev was : List (List ℕ)
    was = images_from file o 0 l.first

    abbrev b : Content → List ℕ
    b x = content_bytes file o l.first x

    many_was : length was ≡ l.core.slots
    many_was = many_images file o 0 l.first ∙ k.sound.first.many

    -- each logged piece keeps to its offer, as a header tells it
    keeps_here : (p : LoggedPiece) → Contains k.sound.logs.log p
        → KeepsTo file.slot l.core.anchors l.core.slots o (logged_part p) × (l.core.slots ≤ p.piece.offer)
    keeps_here p c = let f = subst (λ (g : FileImage). KeepsToOffer g o l.core.anchors p) k.file_is
        (faithful p (k.sound.logs.stands.of.seen p c)) in
        let in_range = k.sound.logs.stands.numbers.inside p c in let w = k.sound.logs.within p c in (
          record {
            url = f.url;
            short = f.short;
            anchor_is = f.anchor_is;
            last = f.last;
            linked = w.linked;
            version_from = let n = k.sound.logs.stands.links.new p c in omega arith;
            version_to = let z = in_range.0 in omega arith;
            place_low = in_range.1;
            first_low = w.first;
            next_low = w.next;
          },
          w.offer,
        )

    -- no slot has a greater version than the counter had at the opening
    above : (j : ℕ) → IsSaneAt file.slot was j → (header_at was j).version ≤ opening_counter (setting_of l.core)
    above j sane = of_content (content_at l.first j) refl
      where
        low : j < length l.first
        low = let z = sane.within in let m = many_images file o 0 l.first in omega arith

        image : image_at was j ≡ bytes_in file o j (content_at l.first j)
        image = image_is file o l.first j low

        of_content : (x : FirstContent) → content_at l.first j ≡ x → (header_at was j).version ≤ opening_counter (setting_of l.core)
        of_content File e =
            let here : image_at was j ≡ image_at file.slots j = image ∙ ap (bytes_in file o j) e in
            let many : length was ≡ slots = many_was ∙ slots_are in
            let s : IsSaneAt file.slot file.slots j = record {
              within = (let z = sane.within in omega arith);
              sane = subst (λ (n : ℕ). Rattle.slot_cell.specs.Header.IsSane (header_at file.slots j) n file.slot) many
                  (subst (λ (bytes : List ℕ). Rattle.slot_cell.specs.Header.IsSane (header_of bytes) (length was) file.slot) here
                  sane.sane);
            } in
            let shown = k.greatest.above j (header_at file.slots j).version low (inl (e, s, refl)) in
            let same = ap (λ (bytes : List ℕ). (header_of bytes).version) here in omega arith
        of_content (Logged p) e =
            let here : image_at was j ≡ bytes_of file.slot o (logged_part p) = image ∙ ap (bytes_in file o j) e in
            let told = (tells t file.slot anchors slots o (logged_part p) (k.keeps j p e) sized few).version in
            let same = ap (λ (bytes : List ℕ). (header_of bytes).version) here in
            let from : 0 < p.piece.version = (let least = sane.sane.version_from in omega arith) in
            let shown = k.greatest.above j p.piece.version low (inr record { piece = p; there = e; some = from; version_is = refl }) in
            omega arith
        of_content Blank e = absurd (blank_not_sane file.slot file.slot was j (image ∙ ap (bytes_in file o j) e) sane)

    is_file : IsFileOf file.slot o (setting_of l.core) b was
    is_file = record {
      many = many_was;
      content = λ j x e. let is = opened_at 0 l.core.slots j x e in let lt = opened_low 0 l.core.slots j x e in
          image_is file o l.first j (let m = k.sound.first.many in omega arith)
          ∙ ap b (let z : 0 + j ≡ j = omega arith in sym (is ∙ ap content.Opened z));
      image = λ j a p. refl;
      blank = λ images j e. blank_not_sane file.slot file.slot images j e;
      greatest = above;
    }

    abbrev log : List LoggedPiece
    log = k.sound.logs.log

    low : l.core.slots ≤ 1048576
    low = let m = slots_are in omega arith

    module _ (images : List (List ℕ)) (left : MayBeLeft file o l.first l.core images) where
      of_cell : (s : ℕ) (cell : Cell Content) → s < l.core.slots → IsCell (state_of l.core) s cell
          → (x : Content) × Contains cell.possible x × (image_at images s ≡ b x)
      of_cell s cell lt is = let q = left.each s lt in
          subst (λ (d : Cell Content). (x : Content) × Contains d.possible x × (image_at images s ≡ b x))
          (one_cell (setting_of l.core) (state_of l.core) k.sound.sound s q.0 cell q.1 is) q.2

      left_now : IsLeftNow (setting_of l.core) b (state_of l.core) images
      left_now = record { many = left.many; each = λ s cell lt is. inl (of_cell s cell lt is) }

      module _ (wipes : HasWipes (setting_of l.core) (state_of l.core)) (a version wiped : ℕ)
          (seen : IsSeenWiped (state_of l.core) a version wiped) (e : Entry) (c : IsComplete file.slot images e) where
        pub life_begun : e.first ≡ wiped → e.version ≢ version
        life_begun = begun t file.slot o (setting_of l.core) b was
            (state_of l.core) log sized low is_file k.sound.sound k.sound.logs.stands keeps_here
            (wipes log k.sound.logs.stands.of) images left_now a version wiped seen e c

        pub life_new : opening_counter (setting_of l.core) < version → e.version ≢ version
        life_new = new_gone t file.slot o (setting_of l.core) b was
            (state_of l.core) log sized low is_file k.sound.sound k.sound.logs.stands keeps_here
            (wipes log k.sound.logs.stands.of) images left_now a version wiped seen e c
