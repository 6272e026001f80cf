-- Names and bytes have the same complete entries.
use Rattle.std.proofs.Common.{◌≡◌, ◌≢◌, inl, inr, ℕ, suc, ◌+◌, ◌<◌, ◌≤◌, ◌^◌, List, [], ◌∷◌, length, get_or, take, refl, ap, sym, ◌∙◌, subst, arith, Contains}
use Rattle.std.specs.Prelude.{ℤ, pos, negsuc}
use Rattle.std.proofs.lemmas.List.{get_or_default}
use Rattle.std.proofs.lemmas.List.Elements.{All-contains}
use Rattle.link_word.specs.declared.link.Link.{Link}
use Rattle.link_word.specs.declared.link.Link.TheVariants.{Last, Next, NotWritten}
use Rattle.slot_cell.specs.Header.{IsSane, header_of}
use Rattle.store_key.specs.Key.{key_of}
use Rattle.rebuild_model.specs.declared.found.Found.{Found}
use Rattle.rebuild_model.specs.declared.image.FileImage.{FileImage}
use Rattle.rebuild_model.specs.Image.{BelongsTo, IsSaneAt, Links, header_at, image_at}
use Rattle.rebuild_model.specs.Entry.{Entry, IsComplete, found_of}
use Rattle.rebuild_model.proofs.Depends.{complete_in}
use Rattle.entry_cut.specs.Content.{Cut, count, image}
use Rattle.entry_cut.specs.Standing.{IsWritable, Stand, StandFrom, entry_of}
use Rattle.entry_cut.proofs.Images.{key_of_image}
use Rattle.core_model.specs.declared.view.LoggedPiece.{LoggedPiece}
use Rattle.crash_entries.specs.Parts.{Offers, bytes_of, cut_of, next_number}
use Rattle.crash_entries.proofs.Telling.{Tells, Tools, tells}
use Rattle.crash_laws.specs.Left.{logged_part}
use Rattle.named_rebuild.specs.declared.contents.FirstContent.{FirstContent}
use Rattle.named_rebuild.specs.declared.contents.FirstContent.TheVariants.{Blank, File, Logged}
use Rattle.named_rebuild.specs.Contents.{content_at}
use Rattle.named_rebuild.specs.Entries.{ArePieces, IsFileEntry, IsNamedEntry, IsPart, IsPieceAt, IsPieceEntry, key_of_halves}
use Rattle.named_rebuild.proofs.Facts.{chain_once, not_blank, within}
use Rattle.named_bytes.specs.Alike.{named}
use Rattle.named_bytes.specs.Bytes.{bytes_in, images_from}
use Rattle.named_bytes.specs.Order.{AreInOrder}
use Rattle.named_bytes.proofs.Images.{blank_not_sane, image_is, many_images}

same_pos : {z : ℤ} {a b : ℕ} → z ≡ pos a → z ≡ pos b → a ≡ b
same_pos e k = cc

-- the link that a header tells
last_is : (l : Link) → l ≢ NotWritten → next_number l ≡ negsuc 0 → l ≡ Last
last_is NotWritten ne e = absurd (ne refl)
last_is Last ne e = refl
last_is (Next t) ne e = absurd (cc)

next_is : (l : Link) (t : ℕ) → next_number l ≡ pos t → l ≡ Next t
next_is NotWritten t e = absurd (cc)
next_is Last t e = absurd (cc)
next_is (Next u) t e = ap Next (same_pos refl e)

cut_same : (slot : ℕ) (o : Offers) (l m : LoggedPiece) → l.piece.offer ≡ m.piece.offer → l.piece.version ≡ m.piece.version → l.piece.first ≡ m.piece.first → cut_of slot o (logged_part l) ≡ cut_of slot o (logged_part m)
cut_same slot o l m a b c = λ i. record { slot = slot; url = o.url (a i); body = o.body (a i); version = b i; first = c i }

same_named : (a b v w : ℕ) (k l xs : List ℕ) → a ≡ b → v ≡ w → k ≡ l
    → ◌≡◌ {A = Found} (record { first = a; version = v; key = k; url = []; length = 0; chain = xs }) (record { first = b; version = w; key = l; url = []; length = 0; chain = xs })
same_named a b v w k l xs f g h = λ i. record { first = f i; version = g i; key = h i; url = []; length = 0; chain = xs }

module _ (t : Tools) (file : FileImage) (o : Offers) (anchors : ℕ) (contents : List FirstContent) (sized : file.slot < 2 ^ 32) (few : length file.slots ≤ 1048576) (many : length contents ≡ length file.slots)
    (ord : AreInOrder file o anchors contents) where
  abbrev slots : ℕ
  slots = length file.slots

  -- the bytes of all slots
  abbrev bytes : List (List ℕ)
  bytes = images_from file o 0 contents

  pub as_many : length bytes ≡ slots
  as_many = many_images file o 0 contents ∙ many

  here : (s : ℕ) (x : FirstContent) → s < slots → content_at contents s ≡ x → image_at bytes s ≡ bytes_in file o s x
  here s x lt e = image_is file o contents s (omega arith) ∙ ap (bytes_in file o s) e

  pub file_image : (s : ℕ) → s < slots → content_at contents s ≡ File → image_at bytes s ≡ image_at file.slots s
  file_image s lt e = here s File lt e

  pub piece_low : (s : ℕ) (l : LoggedPiece) → content_at contents s ≡ Logged l → s < slots
  piece_low s l e = let lt = not_blank contents s l e in omega arith

  pub piece_image : (s : ℕ) (l : LoggedPiece) → content_at contents s ≡ Logged l → image_at bytes s ≡ bytes_of file.slot o (logged_part l)
  piece_image s l e = here s (Logged l) (piece_low s l e) e

  says : (s : ℕ) (l : LoggedPiece) → content_at contents s ≡ Logged l → Tells file.slot o (logged_part l)
  says s l e = tells t file.slot anchors slots o (logged_part l) (ord.pieces s l e).keeps sized few

  pub blank_dead : (s : ℕ) → s < slots → content_at contents s ≡ Blank → ¬ IsSaneAt file.slot bytes s
  blank_dead s lt e = blank_not_sane file.slot file.slot bytes s (here s Blank lt e)

  -- a slot with the file's bytes is sane there exactly where it is sane in the file
  pub sane_there : (s : ℕ) → content_at contents s ≡ File → IsSaneAt file.slot bytes s → IsSaneAt file.slot file.slots s
  sane_there s e h = let lt : s < slots = (let z = h.within in let m = as_many in omega arith) in record {
    within = lt;
    sane = subst (λ (n : ℕ). IsSane (header_at file.slots s) n file.slot) as_many (subst (λ (b : List ℕ). IsSane (header_of b) (length bytes) file.slot) (file_image s lt e) h.sane);
  }

  pub sane_here : (s : ℕ) → content_at contents s ≡ File → IsSaneAt file.slot file.slots s → IsSaneAt file.slot bytes s
  sane_here s e h = record {
    within = (let z = h.within in let m = as_many in omega arith);
    sane = subst (λ (n : ℕ). IsSane (header_at bytes s) n file.slot) (sym as_many) (subst (λ (b : List ℕ). IsSane (header_of b) slots file.slot) (sym (file_image s h.within e)) h.sane);
  }

  pub file_version : (s : ℕ) → s < slots → content_at contents s ≡ File → (header_at bytes s).version ≡ (header_at file.slots s).version
  file_version s lt e = ap (λ (b : List ℕ). (header_of b).version) (file_image s lt e)

  pub piece_version : (s : ℕ) (l : LoggedPiece) → content_at contents s ≡ Logged l → (header_at bytes s).version ≡ l.piece.version
  piece_version s l e = ap (λ (b : List ℕ). (header_of b).version) (piece_image s l e) ∙ (says s l e).version

  -- ---- an entry of the bytes

  module _ (e : Entry) (c : IsComplete file.slot bytes e) where
    first_there : Contains e.chain e.first
    first_there = subst (λ (xs : List ℕ). Contains xs e.first) (sym c.chain.begins) (0, omega arith, refl)

    belongs : (s : ℕ) → Contains e.chain s → BelongsTo file.slot bytes e.first s
    belongs s h = All-contains (BelongsTo file.slot bytes e.first) e.chain s c.chain.belong h

    low : (s : ℕ) → Contains e.chain s → s < slots
    low s h = let z = (belongs s h).sane.within in let m = as_many in omega arith

    version_in : (s : ℕ) → Contains e.chain s → (header_at bytes s).version ≡ e.version
    version_in s h = (belongs s h).version ∙ sym c.version

    -- a slot of the file and one of a piece do not stand in one chain
    apart : (s u : ℕ) (l : LoggedPiece) → Contains e.chain s → Contains e.chain u → content_at contents s ≡ File → content_at contents u ≡ Logged l → ⊥
    apart s u l hs hu f p =
        let lt = ord.newer s u l f (sane_there s f (belongs s hs).sane) p in
        let a = file_version s (low s hs) f in let b = version_in s hs in let c = piece_version u l p in let d = version_in u hu in omega arith

    -- where the first slot holds what the file has, all do
    file_slot : content_at contents e.first ≡ File → (s : ℕ) → Contains e.chain s → (x : FirstContent) → content_at contents s ≡ x → x ≡ File
    file_slot f s h File is = refl
    file_slot f s h (Logged l) is = absurd (apart e.first s l first_there h f is)
    file_slot f s h Blank is = absurd (blank_dead s (low s h) is (belongs s h).sane)

    file_named : content_at contents e.first ≡ File → IsFileEntry file contents (found_of e)
    file_named f = record {
      entry = e;
      complete = complete_in file.slot bytes file.slots (sym as_many) e (λ s h. sym (file_image s (low s h) (file_slot f s h (content_at contents s) refl))) c;
      told = refl;
      stays = λ i d lt. let s : ℕ = get_or e.chain i d in file_slot f s (i, lt, get_or_default e.chain i s d lt) (content_at contents s) refl;
    }

    -- where it holds a piece, all hold pieces of one entry, in order
    module _ (head : LoggedPiece) (f : content_at contents e.first ≡ Logged head) where
      held : (s : ℕ) → Contains e.chain s → (x : FirstContent) → content_at contents s ≡ x → (l : LoggedPiece) × (content_at contents s ≡ Logged l)
      held s h File is = absurd (apart s e.first head h first_there is f)
      held s h (Logged l) is = (l, is)
      held s h Blank is = absurd (blank_dead s (low s h) is (belongs s h).sane)

      same_version : (s : ℕ) (l : LoggedPiece) → Contains e.chain s → content_at contents s ≡ Logged l → l.piece.version ≡ head.piece.version
      same_version s l h is = sym (piece_version s l is) ∙ version_in s h ∙ sym (version_in e.first first_there) ∙ piece_version e.first head f

      is_part : (s place : ℕ) (l : LoggedPiece) → content_at contents s ≡ Logged l → l.piece.version ≡ head.piece.version → l.piece.place ≡ place → IsPart head l place
      is_part s place l is v at = let a = ord.one s e.first l head is f v in record { version = v; key0 = a.key0; key1 = a.key1; first = a.first; place_is = at }

      number_is : (s : ℕ) (l : LoggedPiece) → content_at contents s ≡ Logged l → next_number l.piece.next ≡ (header_at bytes s).next_slot
      number_is s l is = sym (says s l is).next ∙ ap (λ (b : List ℕ). (header_of b).next_slot) (sym (piece_image s l is))

      pieces_on : (place x : ℕ) (xs : List ℕ) (l : LoggedPiece) → content_at contents x ≡ Logged l → l.piece.version ≡ head.piece.version → l.piece.place ≡ place → ((s : ℕ) → Contains (x ∷ xs) s → Contains e.chain s) → Links bytes (x ∷ xs)
          → ArePieces contents head place (x ∷ xs)
      pieces_on place x [] l is v at inside linked = (
        record { piece = l; there = is; part = is_part x place l is v at; link_is = last_is l.piece.next (ord.pieces x l is).keeps.linked (number_is x l is ∙ linked) },
        tt,
      )
      pieces_on place x (y ∷ ys) l is v at inside linked =
          let next : l.piece.next ≡ Next y = next_is l.piece.next y (number_is x l is ∙ linked.0) in
          let there : Contains e.chain y = inside y (1, omega arith, refl) in
          let m = held y there (content_at contents y) refl in
          let w = same_version y m.0 there m.1 in
          let more : m.0.piece.place ≡ place + 1 = (ord.one x y l m.0 is m.1 (v ∙ sym w)).behind (next ∙ ap Next (sym (ord.pieces y m.0 m.1).slot_is)) ∙ ap (λ (n : ℕ). n + 1) at in (
            record { piece = l; there = is; part = is_part x place l is v at; link_is = next },
            pieces_on (place + 1) y ys m.0 m.1 w more (λ s i. inside s (suc i.0, (let z = i.1 in omega arith), i.2)) linked.1,
          )

      begins_first : head.piece.first ≡ e.first
      begins_first = same_pos (ap (λ (b : List ℕ). (header_of b).first_slot) (piece_image e.first head f) ∙ (says e.first head f).first) (belongs e.first first_there).first

      at_front : head.piece.place ≡ 0
      at_front = let p = ord.pieces e.first head f in p.begins (begins_first ∙ sym p.slot_is)

      key_here : e.key ≡ key_of_halves head.key0 head.key1
      key_here = c.key ∙ ap (take 16) (piece_image e.first head f)
          ∙ key_of_image (cut_of file.slot o (logged_part head)) head.piece.place (next_number head.piece.next) (t.small (o.url head.piece.offer)) (t.long (o.url head.piece.offer))
          ∙ sym (ord.pieces e.first head f).key_is

      piece_named : IsPieceEntry contents (named (found_of e))
      piece_named = record {
        head = head;
        there = f;
        first_is = begins_first;
        some_version = (let z = (belongs e.first first_there).sane.sane.version_from in let y = piece_version e.first head f in omega arith);
        behind = c.chain.behind;
        begins = c.chain.begins;
        pieces = pieces_on 0 e.first c.chain.behind head f refl at_front (λ s i. subst (λ (xs : List ℕ). Contains xs s) (sym c.chain.begins) i) (subst (Links bytes) c.chain.begins c.chain.linked);
        version_is = sym (version_in e.first first_there) ∙ piece_version e.first head f;
        key_is = key_here;
        url_is = refl;
        length_is = refl;
      }

    of_content : (x : FirstContent) → content_at contents e.first ≡ x → (f : Found) × IsNamedEntry file contents f × (named f ≡ named (found_of e))
    of_content File is = (found_of e, inl (file_named is), refl)
    of_content (Logged head) is = (named (found_of e), inr (piece_named head is), refl)
    of_content Blank is = absurd (blank_dead e.first (low e.first first_there) is (belongs e.first first_there).sane)

    pub to_names : (f : Found) × IsNamedEntry file contents f × (named f ≡ named (found_of e))
    to_names = of_content (content_at contents e.first) refl

  -- ---- an entry by names

  file_entry : (f : Found) → IsFileEntry file contents f → (e : Entry) × IsComplete file.slot bytes e × (named f ≡ named (found_of e))
  file_entry f q = (
    q.entry,
    complete_in file.slot file.slots bytes as_many q.entry
        (λ s h. file_image s (All-contains (BelongsTo file.slot file.slots q.entry.first) q.entry.chain s q.complete.chain.belong h).sane.within (All-contains (λ x. content_at contents x ≡ File) q.entry.chain s q.stays h))
        q.complete,
    ap named q.told,
  )

  module _ (f : Found) (q : IsPieceEntry contents f) where
    abbrev cut : Cut
    cut = cut_of file.slot o (logged_part q.head)

    same_cut : (s : ℕ) (l : LoggedPiece) → content_at contents s ≡ Logged l → l.piece.version ≡ q.head.piece.version → cut_of file.slot o (logged_part l) ≡ cut
    same_cut s l is v = let a = ord.one s f.first l q.head is q.there v in cut_same file.slot o l q.head a.offer v a.first

    -- the image of a slot with the piece for a place
    piece_there : (place s : ℕ) (link : Link) → IsPieceAt contents q.head place s link → image_at bytes s ≡ image cut place (next_number link)
    piece_there place s link p = piece_image s p.piece p.there
        ∙ ap (λ (x : Cut). image x p.piece.piece.place (next_number p.piece.piece.next)) (same_cut s p.piece p.there p.part.version)
        ∙ ap (λ (n : ℕ). image cut n (next_number p.piece.piece.next)) p.part.place_is
        ∙ ap (λ (l : Link). image cut place (next_number l)) p.link_is

    stands : (place x : ℕ) (xs : List ℕ) → ArePieces contents q.head place (x ∷ xs) → StandFrom cut bytes place (x ∷ xs)
    stands place x [] h = (
      piece_there place x Last h.0,
      ap (λ (n : ℕ). n + 1) (sym h.0.part.place_is) ∙ (ord.pieces x h.0.piece h.0.there).keeps.last.0 h.0.link_is ∙ ap count (same_cut x h.0.piece h.0.there h.0.part.version),
    )
    stands place x (y ∷ ys) h = (piece_there place x (Next y) h.0, stands (place + 1) y ys h.1)

    stand : Stand cut bytes f.chain
    stand = record {
      behind = q.behind;
      begins = q.begins ∙ ap (λ (n : ℕ). n ∷ q.behind) (sym q.first_is);
      within = λ i d lt. let s : ℕ = get_or f.chain i d in (let z = within file contents many f (inr q) s (i, lt, get_or_default f.chain i s d lt) in let m = as_many in omega arith);
      once = chain_once file contents f (inr q);
      pieces = subst (StandFrom cut bytes 0) (sym q.begins) (stands 0 f.first q.behind q.pieces);
    }

    writable : IsWritable cut
    writable = let k = (ord.pieces f.first q.head q.there).keeps in record { url = k.url; short = k.short; sized = sized; version_from = k.version_from; version_to = k.version_to }

    piece_entry : (e : Entry) × IsComplete file.slot bytes e × (named f ≡ named (found_of e))
    piece_entry = (
      entry_of cut f.chain,
      t.placed cut bytes f.chain writable (let m = as_many in omega arith) stand,
      same_named f.first q.head.piece.first f.version q.head.piece.version f.key (key_of (o.url q.head.piece.offer)) f.chain (sym q.first_is) q.version_is (q.key_is ∙ (ord.pieces f.first q.head q.there).key_is),
    )

  pub to_bytes : (f : Found) → IsNamedEntry file contents f → (e : Entry) × IsComplete file.slot bytes e × (named f ≡ named (found_of e))
  to_bytes f (inl q) = file_entry f q
  to_bytes f (inr q) = piece_entry f q
