-- What holds of complete entries that are told by names.
use Rattle.std.proofs.Common.{◌≡◌, ◌≢◌, inl, inr, ℕ, ◌-◌, ◌<◌, List, ◌∷◌, length, refl, sym, ap, ◌∙◌, subst, arith, Contains, All}
use Rattle.std.specs.Prelude.{nat_eq}
use Rattle.std.specs.List.{IsDistinct}
use Rattle.std.proofs.lemmas.List.{get_or_past}
use Rattle.std.proofs.lemmas.List.Elements.{All-contains}
use mathlib.Core.Logic.{dite}
use native.Mathlib.Decide.{ℕ_discrete}
use Rattle.rebuild_model.specs.declared.found.Found.{Found}
use Rattle.rebuild_model.specs.declared.image.FileImage.{FileImage}
use Rattle.rebuild_model.specs.Entry.{Entry, IsComplete}
use Rattle.rebuild_model.specs.Image.{BelongsTo, IsSaneAt, header_at, key_at}
use Rattle.rebuild_model.specs.Plain.{HasNoEntry, IsFound}
use Rattle.rebuild_model.proofs.Chains.{first_belongs}
use Rattle.rebuild_model.proofs.Whole.{One}
use Rattle.core_model.specs.declared.view.LoggedPiece.{LoggedPiece}
use Rattle.named_rebuild.specs.declared.contents.FirstContent.{FirstContent}
use Rattle.named_rebuild.specs.declared.contents.FirstContent.TheVariants.{Blank, File, Logged}
use Rattle.named_rebuild.specs.Contents.{content_at}
use Rattle.named_rebuild.specs.Entries.{IsFileEntry, IsNamedEntry, IsPieceEntry, key_of_halves}
use Rattle.named_rebuild.specs.Keeping.{ShowsVersion}
use Rattle.named_rebuild.proofs.Walking.{once, piece_in, same_piece}

-- entries of a file that begin at different slots share none
abbrev pub EntriesApart : Type 0
EntriesApart = (slot : ℕ) (images : List (List ℕ)) (e f : Entry) → IsComplete slot images e → IsComplete slot images f → e.first ≢ f.first → (s : ℕ) → Contains e.chain s → Contains f.chain s → ⊥

pub not_both : (contents : List FirstContent) (s : ℕ) (l : LoggedPiece) → content_at contents s ≡ File → content_at contents s ≡ Logged l → ⊥
not_both contents s l e f = no l (sym e ∙ f)
  where
    no : (l : LoggedPiece) → File ≡ Logged l → ⊥
    no l h = cc

pub not_blank : (contents : List FirstContent) (s : ℕ) (l : LoggedPiece) → content_at contents s ≡ Logged l → s < length contents
not_blank contents s l e = dite (ℕ_discrete (length contents - s) 0)
    (λ out. absurd (no l (sym (get_or_past contents s Blank (omega arith)) ∙ e)))
    (λ ne. omega arith)
  where
    no : (l : LoggedPiece) → Blank ≡ Logged l → ⊥
    no l h = cc

module _ (file : FileImage) (contents : List FirstContent) where
  first_in : (e : Entry) → IsComplete file.slot file.slots e → Contains e.chain e.first
  first_in e c = subst (λ (xs : List ℕ). Contains xs e.first) (sym c.chain.begins) (0, omega arith, refl)

  -- the first slot of an entry of the file holds what the file has
  first_file : (f : Found) → IsFileEntry file contents f → content_at contents f.first ≡ File
  first_file f q = subst (λ (g : Found). content_at contents g.first ≡ File) (sym q.told)
      (All-contains (λ s. content_at contents s ≡ File) q.entry.chain q.entry.first q.stays (first_in q.entry q.complete))

  key_is : (f : Found) (q : IsFileEntry file contents f) → f.key ≡ key_at file.slots f.first
  key_is f q = ap (λ (g : Found). g.key) q.told ∙ q.complete.key ∙ ap (λ (g : Found). key_at file.slots g.first) (sym q.told)

  version_is : (f : Found) (q : IsFileEntry file contents f) → f.version ≡ (header_at file.slots f.first).version
  version_is f q = ap (λ (g : Found). g.version) q.told ∙ q.complete.version ∙ ap (λ (g : Found). (header_at file.slots g.first).version) (sym q.told)

  -- entries that begin at one slot have one key and one version
  pub same : (f g : Found) → IsNamedEntry file contents f → IsNamedEntry file contents g → f.first ≡ g.first → (f.key ≡ g.key) × (f.version ≡ g.version)
  same f g (inl p) (inl q) e = (
    key_is f p ∙ ap (key_at file.slots) e ∙ sym (key_is g q),
    version_is f p ∙ ap (λ (s : ℕ). (header_at file.slots s).version) e ∙ sym (version_is g q),
  )
  same f g (inl p) (inr q) e = absurd (not_both contents g.first q.head (ap (content_at contents) (sym e) ∙ first_file f p) q.there)
  same f g (inr p) (inl q) e = absurd (not_both contents f.first p.head (ap (content_at contents) e ∙ first_file g q) p.there)
  same f g (inr p) (inr q) e = let heads = same_piece contents g.first p.head q.head (ap (content_at contents) (sym e) ∙ p.there) q.there in (
    p.key_is ∙ ap (λ (l : LoggedPiece). key_of_halves l.key0 l.key1) heads ∙ sym q.key_is,
    p.version_is ∙ ap (λ (l : LoggedPiece). l.piece.version) heads ∙ sym q.version_is,
  )

  chain_of_file : (f : Found) (q : IsFileEntry file contents f) (s : ℕ) → Contains f.chain s → Contains q.entry.chain s
  chain_of_file f q s has = subst (λ (g : Found). Contains g.chain s) q.told has

  file_holds : (f : Found) (q : IsFileEntry file contents f) (s : ℕ) → Contains f.chain s → content_at contents s ≡ File
  file_holds f q s has = All-contains (λ x. content_at contents x ≡ File) q.entry.chain s q.stays (chain_of_file f q s has)

  -- what a slot of a new entry holds
  record Held (q : LoggedPiece) (s : ℕ) : Type 0 where
    piece : LoggedPiece
    there : content_at contents s ≡ Logged piece
    first_is : piece.piece.first ≡ q.piece.first

  piece_holds : (f : Found) (q : IsPieceEntry contents f) (s : ℕ) → Contains f.chain s → Held q.head s
  piece_holds f q s has = let r = piece_in contents q.head 0 (f.first ∷ q.behind) s q.pieces (subst (λ (xs : List ℕ). Contains xs s) q.begins has) in
      record { piece = r.2.1.piece; there = r.2.1.there; first_is = r.2.1.part.first }

  -- entries that share a slot begin at one slot
  pub one_first : EntriesApart → (f g : Found) (s : ℕ) → IsNamedEntry file contents f → IsNamedEntry file contents g → Contains f.chain s → Contains g.chain s → f.first ≡ g.first
  one_first apart f g s (inl p) (inl q) h k = ap (λ (x : Found). x.first) p.told ∙ dite (ℕ_discrete p.entry.first q.entry.first) (λ e. e)
      (λ ne. absurd (apart file.slot file.slots p.entry q.entry p.complete q.complete ne s (chain_of_file f p s h) (chain_of_file g q s k)))
      ∙ ap (λ (x : Found). x.first) (sym q.told)
  one_first apart f g s (inl p) (inr q) h k = let there = piece_holds g q s k in absurd (not_both contents s there.piece (file_holds f p s h) there.there)
  one_first apart f g s (inr p) (inl q) h k = let there = piece_holds f p s h in absurd (not_both contents s there.piece (file_holds g q s k) there.there)
  one_first apart f g s (inr p) (inr q) h k = let x = piece_holds f p s h in let y = piece_holds g q s k in
      sym p.first_is ∙ sym x.first_is ∙ ap (λ (l : LoggedPiece). l.piece.first) (same_piece contents s x.piece y.piece x.there y.there) ∙ y.first_is ∙ q.first_is

  pub begins : (f : Found) → IsNamedEntry file contents f → (behind : List ℕ) × (f.chain ≡ f.first ∷ behind)
  begins f (inl q) = subst (λ (g : Found). (behind : List ℕ) × (g.chain ≡ g.first ∷ behind)) (sym q.told) (q.complete.chain.behind, q.complete.chain.begins)
  begins f (inr q) = (q.behind, q.begins)

  pub chain_once : (f : Found) → IsNamedEntry file contents f → IsDistinct nat_eq f.chain
  chain_once f (inl q) = subst (λ (g : Found). IsDistinct nat_eq g.chain) (sym q.told) q.complete.chain.once
  chain_once f (inr q) = subst (IsDistinct nat_eq) (sym q.begins) (once contents q.head 0 (f.first ∷ q.behind) q.pieces)

  pub within : length contents ≡ length file.slots → (f : Found) → IsNamedEntry file contents f → (s : ℕ) → Contains f.chain s → s < length file.slots
  within many f (inl q) s has = (All-contains (BelongsTo file.slot file.slots q.entry.first) q.entry.chain s q.complete.chain.belong (chain_of_file f q s has)).sane.within
  within many f (inr q) s has = let r = piece_holds f q s has in let lt = not_blank contents s r.piece r.there in omega arith

  -- an entry begins at a slot that shows its version
  pub shows : (f : Found) → IsNamedEntry file contents f → ShowsVersion file contents f.first f.version
  shows f (inl q) = inl (first_file f q, subst (λ (g : Found). IsSaneAt file.slot file.slots g.first) (sym q.told) (first_belongs file.slot file.slots q.entry.first q.entry.chain q.complete.chain).sane, version_is f q)
  shows f (inr q) = inr record { piece = q.head; there = q.there; some = q.some_version; version_is = q.version_is }

  pub first_within : length contents ≡ length file.slots → (f : Found) → IsNamedEntry file contents f → f.first < length contents
  first_within many f q = let b = begins f q in let lt = within many f q f.first (subst (λ (xs : List ℕ). Contains xs f.first) (sym b.1) (0, omega arith, refl)) in omega arith

  -- no entry begins at a slot that is blank
  pub blank_begins_none : (first : ℕ) → content_at contents first ≡ Blank → (f : Found) → IsNamedEntry file contents f → f.first ≡ first → ⊥
  blank_begins_none first blank f (inl q) here = no (sym (first_file f q) ∙ ap (content_at contents) here ∙ blank)
    where
      no : File ≡ Blank → ⊥
      no e = cc
  blank_begins_none first blank f (inr q) here = no q.head (sym q.there ∙ ap (content_at contents) here ∙ blank)
    where
      no : (l : LoggedPiece) → Logged l ≡ Blank → ⊥
      no l e = cc

  -- where a slot holds what the file has, the entry that begins there is the file's
  pub of_file : (first : ℕ) → content_at contents first ≡ File → (f : Found) → IsNamedEntry file contents f → f.first ≡ first → IsFileEntry file contents f
  of_file first is f (inl q) here = q
  of_file first is f (inr q) here = absurd (not_both contents first q.head is (ap (content_at contents) (sym here) ∙ q.there))

  -- and where it holds a piece, it is a new one
  pub of_piece : (first : ℕ) (l : LoggedPiece) → content_at contents first ≡ Logged l → (f : Found) → IsNamedEntry file contents f → f.first ≡ first → IsPieceEntry contents f
  of_piece first l is f (inl q) here = absurd (not_both contents first l (ap (content_at contents) (sym here) ∙ first_file f q) is)
  of_piece first l is f (inr q) here = q

  -- no entry begins at a slot at which the file has none
  pub no_file_entry : (first : ℕ) → content_at contents first ≡ File → HasNoEntry file.slot file.slots first → (f : Found) → IsNamedEntry file contents f → f.first ≡ first → ⊥
  no_file_entry first is none f q here = let p = of_file first is f q here in none p.entry p.complete (ap (λ (g : Found). g.first) (sym p.told) ∙ here)

  -- or one of which a slot holds something else
  pub file_entry_gone : One → (first : ℕ) → content_at contents first ≡ File → (found : Found) → IsFound file.slot file.slots first found → (All (λ s. content_at contents s ≡ File) found.chain → ⊥)
      → (f : Found) → IsNamedEntry file contents f → f.first ≡ first → ⊥
  file_entry_gone one first is found there gone f q here = let p = of_file first is f q here in
      let same : p.entry ≡ there.entry = one file.slot file.slots p.entry there.entry p.complete there.complete (ap (λ (g : Found). g.first) (sym p.told) ∙ here ∙ sym there.begins) in
      gone (subst (λ (g : Found). All (λ s. content_at contents s ≡ File) g.chain) (sym there.told) (subst (λ (e : Entry). All (λ s. content_at contents s ≡ File) e.chain) same p.stays))
