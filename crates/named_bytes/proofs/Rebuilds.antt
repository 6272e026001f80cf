-- A rebuild by names keeps the same as a rebuild of the bytes.
use Rattle.std.proofs.Common.{◌≡◌, inl, inr, ⊎_elim, ℕ, suc, ◌+◌, ◌<◌, ◌≤◌, ◌^◌, List, [], ◌∷◌, length, map, refl, ap, sym, ◌∙◌, subst, arith, Contains}
use Rattle.std.specs.List.Sorted.{IsStrictlyIncreasing}
use Rattle.slot_cell.specs.Header.{IsSane, header_of}
use Rattle.store_key.specs.Anchor.{anchor_of}
use Rattle.rebuild_model.specs.declared.found.Found.{Found}
use Rattle.rebuild_model.specs.declared.image.FileImage.{FileImage}
use Rattle.rebuild_model.specs.declared.rebuilt.Rebuilt.{Rebuilt}
use Rattle.rebuild_model.specs.Image.{IsGreatest, IsSaneAt, header_at}
use Rattle.rebuild_model.specs.Entry.{Entry, IsComplete, found_of}
use Rattle.rebuild_model.specs.Rebuilt.{IsRebuilt, IsWinner}
use Rattle.core_model.proofs.Lists.{cons_contains, contains_none}
use Rattle.crash_entries.specs.Parts.{Offers, bytes_of}
use Rattle.crash_entries.proofs.Telling.{Tools}
use Rattle.crash_laws.specs.Left.{logged_part}
use Rattle.named_rebuild.specs.declared.contents.FirstContent.{FirstContent}
use Rattle.named_rebuild.specs.declared.contents.FirstContent.TheVariants.{Blank, File, Logged}
use Rattle.named_rebuild.specs.Contents.{content_at}
use Rattle.named_rebuild.specs.Entries.{IsNamedEntry}
use Rattle.named_rebuild.specs.Keeping.{IsBestAt, IsRebuiltOfNames, ShowsVersion}
use Rattle.named_bytes.specs.Alike.{AreAlike, named}
use Rattle.named_bytes.specs.Bytes.{images_from}
use Rattle.named_bytes.specs.Order.{AreInOrder}
use Rattle.named_bytes.proofs.Named.{as_many, blank_dead, file_version, piece_image, piece_low, piece_version, sane_here, sane_there, to_bytes, to_names}
use Rattle.named_bytes.proofs.Sane.{Full, piece_sane}

later_in : {X : Type 0} (x y : X) (xs : List X) → Contains xs y → Contains (x ∷ xs) y
later_in x y xs h = (suc h.0, (let lt = h.1 in omega arith), h.2)

first_in : {X : Type 0} (x : X) (xs : List X) → Contains (x ∷ xs) x
first_in x xs = (0, omega arith, refl)

module _ (t : Tools) (full : Full) (file : FileImage) (o : Offers) (anchors : ℕ) (contents : List FirstContent) (sized : file.slot < 2 ^ 32) (few : length file.slots ≤ 1048576) (many : length contents ≡ length file.slots)
    (ord : AreInOrder file o anchors contents) where
  abbrev bytes : List (List ℕ)
  bytes = images_from file o 0 contents

  abbrev place : List ℕ → ℕ
  place key = anchor_of key anchors

  -- the entry has the bytes of the one by names
  record IsOf (f : Found) (e : Entry) : Type 0 where
    complete : IsComplete file.slot bytes e
    told : named f ≡ named (found_of e)

  of_names : (f : Found) → IsNamedEntry file contents f → (e : Entry) × IsOf f e
  of_names f q = let r = to_bytes t file o anchors contents sized few many ord f q in (r.0, record { complete = r.1; told = r.2 })

  -- entries by names, each with its bytes
  record Paired (ws : List Found) : Type 0 where
    es : List Entry
    same : map named ws ≡ map named (map found_of es)
    anchors_are : map (λ (f : Found). place f.key) ws ≡ map (λ (e : Entry). place e.key) es
    each : (e : Entry) → Contains es e → (f : Found) × Contains ws f × IsOf f e
    every : (f : Found) → Contains ws f → (e : Entry) × Contains es e × IsOf f e

  paired : (ws : List Found) → ((f : Found) → Contains ws f → IsNamedEntry file contents f) → Paired ws
  paired [] names = record { es = []; same = refl; anchors_are = refl; each = λ e h. absurd (contains_none e h); every = λ f h. absurd (contains_none f h) }
  paired (w ∷ ws) names =
      let q = of_names w (names w (first_in w ws)) in
      let r : Paired ws = paired ws (λ f h. names f (later_in w f ws h)) in
      record {
        es = q.0 ∷ r.es;
        same = λ i. q.1.told i ∷ r.same i;
        anchors_are = λ i. place (q.1.told i).key ∷ r.anchors_are i;
        each = λ e h. ⊎_elim
            (λ (is : q.0 ≡ e). (w, first_in w ws, subst (IsOf w) is q.1))
            (λ (l : Contains r.es e). let z = r.each e l in (z.0, later_in w z.0 ws z.1, z.2))
            (cons_contains q.0 e r.es h);
        every = λ f h. ⊎_elim
            (λ (is : w ≡ f). (q.0, first_in q.0 r.es, subst (λ (g : Found). IsOf g q.0) is q.1))
            (λ (l : Contains ws f). let z = r.every f l in (z.0, later_in q.0 z.0 r.es z.1, z.2))
            (cons_contains w f ws h);
      }

  module _ (r : Rebuilt) (b : IsRebuiltOfNames file contents anchors r) where
    pairs : Paired r.winners
    pairs = paired r.winners (λ f h. (b.won f h).entry)

    -- the rebuild of the bytes
    abbrev whole : Rebuilt
    whole = record { winners = map found_of pairs.es; owner = r.owner; greatest = r.greatest }

    key_of_pair : (f : Found) (e : Entry) → IsOf f e → f.key ≡ e.key
    key_of_pair f e q = ap (λ (g : Found). g.key) q.told

    -- the best of the entries by names is the best of those of the bytes
    wins : (f : Found) (e : Entry) → IsOf f e → IsBestAt file contents anchors (place f.key) f → IsWinner file.slot bytes anchors (place e.key) e
    wins f e q best = record {
      complete = q.complete;
      at = refl;
      best = λ g c at.
          let n = to_names t file o anchors contents sized few many ord g c in
          let version : f.version ≡ e.version = ap (λ (x : Found). x.version) q.told in
          let first : f.first ≡ e.first = ap (λ (x : Found). x.first) q.told in
          let their_version : n.0.version ≡ g.version = ap (λ (x : Found). x.version) n.2 in
          let their_first : n.0.first ≡ g.first = ap (λ (x : Found). x.first) n.2 in
          let there : place n.0.key ≡ place f.key = ap (λ (x : Found). place x.key) n.2 ∙ at ∙ ap place (sym (key_of_pair f e q)) in
          ⊎_elim
          (λ (less : n.0.version < f.version). inl (omega (arith, less, version, their_version)))
          (λ (here : (n.0.version ≡ f.version) × (f.first ≤ n.0.first)). inr ((sym their_version ∙ here.0 ∙ version), omega (arith, here.1, first, their_first)))
          (best.best n.0 n.1 there);
    }

    -- the greatest version that a slot shows is that of a sane slot
    above : (s : ℕ) → IsSaneAt file.slot bytes s → (header_at bytes s).version ≤ r.greatest
    above s sane = of_content (content_at contents s) refl
      where
        low : s < length file.slots
        low = let z = sane.within in let m = as_many t file o anchors contents sized few many ord in omega arith

        of_content : (x : FirstContent) → content_at contents s ≡ x → (header_at bytes s).version ≤ r.greatest
        of_content File e =
            let shown = b.greatest.above s (header_at file.slots s).version (omega (arith, low, many)) (inl (e, sane_there t file o anchors contents sized few many ord s e sane, refl)) in
            let v = file_version t file o anchors contents sized few many ord s low e in omega arith
        of_content (Logged l) e =
            let v = piece_version t file o anchors contents sized few many ord s l e in
            let some : 0 < l.piece.version = (let z = sane.sane.version_from in omega arith) in
            let shown = b.greatest.above s l.piece.version (omega (arith, low, many)) (inr record { piece = l; there = e; some = some; version_is = refl }) in omega arith
        of_content Blank e = absurd (blank_dead t file o anchors contents sized few many ord s low e sane)

    shows_sane : (s version : ℕ) → ShowsVersion file contents s version → IsSaneAt file.slot bytes s × ((header_at bytes s).version ≡ version)
    shows_sane s version (inl q) = (
      sane_here t file o anchors contents sized few many ord s q.0 q.1,
      file_version t file o anchors contents sized few many ord s q.1.within q.0 ∙ sym q.2,
    )
    shows_sane s version (inr q) =
        let p = ord.pieces s q.piece q.there in
        let m = as_many t file o anchors contents sized few many ord in (
          record {
            within = (let z = piece_low t file o anchors contents sized few many ord s q.piece q.there in omega arith);
            sane = subst (λ (x : List ℕ). IsSane (header_of x) (length bytes) file.slot) (sym (piece_image t file o anchors contents sized few many ord s q.piece q.there))
                (subst (λ (n : ℕ). IsSane (header_of (bytes_of file.slot o (logged_part q.piece))) n file.slot) (sym m)
                (piece_sane t full file.slot anchors (length file.slots) o (logged_part q.piece) p.keeps sized few p.inside));
          },
          piece_version t file o anchors contents sized few many ord s q.piece q.there ∙ sym q.version_is,
        )

    greatest : IsGreatest file.slot bytes r.greatest
    greatest = record {
      above = above;
      there = λ some. let q = b.greatest.there some in let s = shows_sane q.0 r.greatest q.2 in (q.0, s.0, s.1);
    }

    rebuilt : IsRebuilt file.slot bytes anchors whole
    rebuilt = record {
      entries = pairs.es;
      told = refl;
      won = λ e h. let q = pairs.each e h in wins q.0 e q.2 (b.won q.0 q.1);
      ordered = subst IsStrictlyIncreasing pairs.anchors_are b.ordered;
      every = λ e c. let n = to_names t file o anchors contents sized few many ord e c in
          let there : place n.0.key ≡ place e.key = ap (λ (x : Found). place x.key) n.2 in
          subst (λ (a : ℕ). Contains (map (λ (x : Entry). place x.key) pairs.es) a) there (subst (λ (xs : List ℕ). Contains xs (place n.0.key)) pairs.anchors_are (b.every n.0 n.1));
      one_a_slot = b.one_a_slot ∙ many ∙ sym (as_many t file o anchors contents sized few many ord);
      owned = λ e s h has. let q = pairs.each e h in
          b.owned q.0 s q.1 (subst (λ (xs : List ℕ). Contains xs s) (sym (ap (λ (x : Found). x.chain) q.2.told)) has) ∙ ap (λ (key : List ℕ). place key + 1) (key_of_pair q.0 e q.2);
      free = λ s none. b.free s (λ f h has. let q = pairs.every f h in none q.0 q.1 (subst (λ (xs : List ℕ). Contains xs s) (ap (λ (x : Found). x.chain) q.2.told) has));
      greatest = greatest;
    }

    alike : AreAlike r whole
    alike = record { winners = pairs.same; owner = refl; greatest = refl }

    pub has_rebuilt : (x : Rebuilt) × IsRebuilt file.slot bytes anchors x × AreAlike r x
    has_rebuilt = (whole, rebuilt, alike)
