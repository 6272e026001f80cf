-- What a crash leaves is in order, where what slots held at the opening is, and each logged piece is one of its offer.
use Rattle.std.proofs.Common.{◌≡◌, ◌⊎◌, inl, inr, ⊎_elim, ℕ, ◌<◌, ◌≤◌, List, length, refl, sym, ◌∙◌, subst, arith, Contains}
use Rattle.rebuild_model.specs.declared.image.FileImage.{FileImage}
use Rattle.rebuild_model.specs.Image.{IsSaneAt, header_at}
use Rattle.store_key.specs.Key.{key_of}
use Rattle.core_model.specs.declared.view.LoggedPiece.{LoggedPiece}
use Rattle.core_model.specs.Anchors.{opening_counter}
use Rattle.core_log.specs.Keeps.{HasLog}
use Rattle.core_table.specs.declared.content.Content.{Content}
use Rattle.core_table.specs.declared.content.Content.TheVariants as content
use Rattle.core_table.specs.Machine.{Machine, setting_of, state_of}
use Rattle.core_runs.specs.Offered.{offering_of}
use Rattle.crash_entries.specs.Parts.{KeepsTo, Offers}
use Rattle.crash_entries.proofs.Telling.{Tools}
use Rattle.crash_laws.specs.Left.{logged_part}
use Rattle.named_rebuild.specs.declared.contents.FirstContent.{FirstContent}
use Rattle.named_rebuild.specs.declared.contents.FirstContent.TheVariants.{Blank, File, Logged}
use Rattle.named_rebuild.specs.Contents.{content_at}
use Rattle.named_rebuild.specs.Entries.{key_of_halves}
use Rattle.named_rebuild.specs.Keeping.{IsGreatestShown}
use Rattle.named_rebuild.proofs.Facts.{not_blank}
use Rattle.named_bytes.specs.Order.{AreInOrder, AreOfOne, IsPieceOf}
use Rattle.core_lives.specs.Crash.{ArePicked, ShowsAs}
use Rattle.core_lives.proofs.Seeking.{at_contains}
use Rattle.life_runs.specs.Opening.{file_of, responses_of}
use Rattle.life_runs.proofs.Keys.{halves_are}

module _ (t : Tools) (file : FileImage) (o : Offers) (anchors : ℕ) (first : List FirstContent) (from m : Machine) (order : AreInOrder file o anchors first) (many : length first ≡ m.slots) (as_many : length file.slots ≡ m.slots)
    (greatest : IsGreatestShown file first (opening_counter (setting_of m))) (logs : HasLog (offering_of (file_of file o first) (responses_of o) from) (setting_of m) (state_of m)) (picks : List ℕ) (left : List FirstContent)
    (p : ArePicked m first picks left) (keeps : (s : ℕ) (l : LoggedPiece) → content_at left s ≡ Logged l → KeepsTo file.slot anchors (length file.slots) o (logged_part l)) where
  -- a piece that was logged for a slot since the opening
  record IsNewAt (s : ℕ) (l : LoggedPiece) : Type 0 where
    among : Contains logs.log l
    slot_is : l.slot ≡ s

  shown_piece : (s : ℕ) (x : Content) (l : LoggedPiece) → ShowsAs m first s x (Logged l) → (content_at first s ≡ Logged l) ⊎ IsNewAt s l
  shown_piece s (content.Opened j) l e = inl (sym e)
  shown_piece s (content.Offered q) l e =
      let at = at_contains m.views e.1.view e.1.among in
      let c = logs.stands.of.all e.0 record { i = at.0; view = e.1.view; at = at.1; seen = e.1.seen } in
      inr (subst (IsNewAt s) (one e.0 l (sym e.2)) record { among = c; slot_is = e.1.slot_is })
    where
      one : (a b : LoggedPiece) → Logged a ≡ Logged b → a ≡ b
      one a b h = cc
  shown_piece s content.Blank l e = absurd (no l e)
    where
      no : (l : LoggedPiece) → Logged l ≡ Blank → ⊥
      no l h = cc

  shown_file : (s : ℕ) (x : Content) → ShowsAs m first s x File → content_at first s ≡ File
  shown_file s (content.Opened j) e = sym e
  shown_file s (content.Offered q) e = absurd (no e.0 e.2)
    where
      no : (l : LoggedPiece) → File ≡ Logged l → ⊥
      no l h = cc
  shown_file s content.Blank e = absurd (no e)
    where
      no : File ≡ Blank → ⊥
      no h = cc

  -- a piece that is left stood there at the opening, or was logged since
  piece_from : (s : ℕ) (l : LoggedPiece) → content_at left s ≡ Logged l → (content_at first s ≡ Logged l) ⊎ IsNewAt s l
  piece_from s l is = let lt = not_blank left s l is in let q = p.each s (let n = p.many in omega arith) in shown_piece s q.content l (subst (ShowsAs m first s q.content) is q.shown)

  file_from : (s : ℕ) → s < m.slots → content_at left s ≡ File → content_at first s ≡ File
  file_from s lt is = let q = p.each s lt in shown_file s q.content (subst (ShowsAs m first s q.content) is q.shown)

  -- a piece that stood at the opening is older than each that was logged since
  old_shown : (s : ℕ) (l : LoggedPiece) → content_at first s ≡ Logged l → l.piece.version ≤ opening_counter (setting_of m)
  old_shown s l is = greatest.above s l.piece.version (not_blank first s l is) (inr record { piece = l; there = is; some = (order.pieces s l is).keeps.version_from; version_is = refl })

  newer : (s u : ℕ) (l n : LoggedPiece) → content_at first s ≡ Logged l → IsNewAt u n → l.piece.version < n.piece.version
  newer s u l n is h = let low = old_shown s l is in let high = logs.stands.links.new n h.among in omega arith

  new_piece : (s : ℕ) (l : LoggedPiece) → content_at left s ≡ Logged l → IsNewAt s l → IsPieceOf file o anchors s l
  new_piece s l is h = let k = logs.keeps.each l h.among in record {
    keeps = keeps s l is;
    inside = k.inside;
    key_is = (λ i. key_of_halves (k.fits.key0 i) (k.fits.key1 i)) ∙ halves_are (key_of (o.url l.piece.offer)) (t.small (o.url l.piece.offer)) (t.long (o.url l.piece.offer));
    slot_is = h.slot_is;
    begins = logs.stands.links.begins l h.among;
  }

  of_one : (s u : ℕ) (l n : LoggedPiece) → (content_at first s ≡ Logged l) ⊎ IsNewAt s l → (content_at first u ≡ Logged n) ⊎ IsNewAt u n → l.piece.version ≡ n.piece.version → AreOfOne l n
  of_one s u l n (inl a) (inl b) e = order.one s u l n a b e
  of_one s u l n (inl a) (inr b) e = absurd (let z = newer s u l n a b in omega arith)
  of_one s u l n (inr a) (inl b) e = absurd (let z = newer u s n l b a in omega arith)
  of_one s u l n (inr a) (inr b) e = let z = logs.stands.links.agree l n a.among b.among e in record { key0 = z.key0; key1 = z.key1; offer = z.offer; first = z.first; behind = z.behind }

  newer_than_file : (s u : ℕ) (l : LoggedPiece) → content_at first s ≡ File → IsSaneAt file.slot file.slots s → (content_at first u ≡ Logged l) ⊎ IsNewAt u l → (header_at file.slots s).version < l.piece.version
  newer_than_file s u l is sane (inl a) = order.newer s u l is sane a
  newer_than_file s u l is sane (inr b) =
      let low = greatest.above s (header_at file.slots s).version (let z = sane.within in omega arith) (inl (is, sane, refl)) in
      let high = logs.stands.links.new l b.among in omega arith

  pub left_in_order : AreInOrder file o anchors left
  left_in_order = record {
    pieces = λ s l is. ⊎_elim (λ (a : content_at first s ≡ Logged l). order.pieces s l a) (λ (b : IsNewAt s l). new_piece s l is b) (piece_from s l is);
    one = λ s u l n a b e. of_one s u l n (piece_from s l a) (piece_from u n b) e;
    newer = λ s u l a sane b. newer_than_file s u l (file_from s (let z = sane.within in omega arith) a) sane (piece_from u l b);
  }
