-- An entry that no line offered is one of the file's.
use Rattle.std.proofs.Common.{◌≡◌, ◌⊎◌, inl, inr, ◌∙◌, ℕ, zero, suc, ◌+◌, List, [], ◌∷◌, map, get_or, refl, sym, ap, subst, arith, Bool, true, false}
use Rattle.std.specs.Prelude.{Option, Some, None, ◌==◌, find, All, Contains}
use Rattle.std.specs.List.{range_with_len}
use Rattle.std.proofs.lemmas.Bool.Decides.{nat_tests}
use Rattle.std.proofs.lemmas.List.Elements.{All-map, All-weaker, All-contains_itself}
use Rattle.store_key.specs.Anchor.{anchor_of}
use Rattle.rebuild_model.specs.Entry.{Entry as FileEntry}
use Rattle.rebuild_model.specs.Rebuilt.{IsWinner}
use Rattle.script_text.specs.declared.line.Line.{Line}
use Rattle.plain_model.specs.declared.entry.Entry.{Entry}
use Rattle.plain_model.specs.declared.entry.Place.{Place}
use Rattle.plain_model.specs.declared.kept.Kept.{Kept}
use Rattle.plain_model.specs.declared.store.Setting.{Setting}
use Rattle.plain_model.specs.declared.store.Plain.{Plain}
use Rattle.plain_model.specs.Place.{nothing}
use Rattle.plain_model.specs.Store.{entry_at}
use Rattle.plain_model.specs.Opening.{kept_of, entry_kept, place_kept, kept_at, opened, IsOpened}
use Rattle.plain_model.specs.Serving.{after}
use Rattle.plain_laws.specs.Kept.{SameOffer}
use Rattle.plain_laws.specs.Offered.{IsOfLines, IsOfFile}
use Rattle.plain_laws.proofs.Course.{origins}
use Rattle.plain_laws.proofs.Openings.{found_all}

-- a place that is made for an anchor stands at that anchor
made_at : (f : ℕ → Place) (e : Entry) (i n a : ℕ) → (get_or (map f (range_with_len i n)) a nothing).entry ≡ Some e → (f (i + a)).entry ≡ Some e
made_at f e i zero a is = let k : None ≡ Some e = is in cc
made_at f e i (suc n) zero is = ap (λ (x : ℕ). (f x).entry) (let k : i + 0 ≡ i = omega arith in k) ∙ is
made_at f e i (suc n) (suc a) is = ap (λ (x : ℕ). (f x).entry) (let k : i + suc a ≡ i + 1 + a = omega arith in k) ∙ made_at f e (i + 1) n a is

found_at : (test : Kept → Bool) (kept : List Kept) (k : Kept) → find test kept ≡ Some k → test k ≡ true
found_at test [] k e = let j : None ≡ Some k = e in cc
found_at test (x ∷ kept) k e = by_test (test x) refl (found_at test kept k)
  where
    by_test : (b : Bool) → test x ≡ b → (find test kept ≡ Some k → test k ≡ true) → test k ≡ true
    by_test true t later = let h : Some x ≡ Some k = rw t at e in let same : x ≡ k = cc in ap test (sym same) ∙ t
    by_test false t later = later (rw t at e)

-- what is kept at an anchor
record KeptThere (anchors : ℕ) (kept : List Kept) (anchor : ℕ) (e : Entry) : Type 0 where
  found : Kept
  is : kept_at anchors kept anchor ≡ Some found
  entry : entry_kept found ≡ e

kept_there : (anchors : ℕ) (kept : List Kept) (anchor : ℕ) (e : Entry) (o : Option Kept) → kept_at anchors kept anchor ≡ o → (place_kept o).entry ≡ Some e → KeptThere anchors kept anchor e
kept_there anchors kept anchor e None is there = let k : None ≡ Some e = there in cc
kept_there anchors kept anchor e (Some found) is there = let k : Some (entry_kept found) ≡ Some e = there in record { found = found; is = is; entry = (cc) }

-- an entry of the file stands behind it
record Behind (slot : ℕ) (images : List (List ℕ)) (anchors : ℕ) (p : Plain) (o : IsOpened slot images anchors p) (k : Kept) : Type 0 where
  file : FileEntry
  among : Contains o.is.entries file
  is : k ≡ kept_of images file

all_behind : (slot : ℕ) (images : List (List ℕ)) (anchors : ℕ) (p : Plain) (o : IsOpened slot images anchors p) → All (Behind slot images anchors p o) (map (kept_of images) o.is.entries)
all_behind slot images anchors p o = All-map (Behind slot images anchors p o) (kept_of images) o.is.entries
    (All-weaker (Contains o.is.entries) (λ f. Behind slot images anchors p o (kept_of images f)) (λ f h. record { file = f; among = h; is = refl }) o.is.entries (All-contains_itself o.is.entries))

-- the entry of the file that a rebuild keeps there, for which this one stands
pub record StandsForFile (slot : ℕ) (images : List (List ℕ)) (anchors anchor : ℕ) (old : Entry) : Type 0 where
  pub file : FileEntry
  pub winner : IsWinner slot images anchors anchor file
  pub entry : entry_kept (kept_of images file) ≡ old

stands_for : (slot : ℕ) (images : List (List ℕ)) (anchors anchor : ℕ) (p : Plain) (o : IsOpened slot images anchors p) (old : Entry)
    → KeptThere anchors (map (kept_of images) o.is.entries) anchor old → StandsForFile slot images anchors anchor old
stands_for slot images anchors anchor p o old there =
    let kept : List Kept = map (kept_of images) o.is.entries in
    let behind = found_all (Behind slot images anchors p o) (λ k. anchor_of k.key anchors == anchor) kept there.found (all_behind slot images anchors p o) there.is in
    let test : (anchor_of there.found.key anchors == anchor) ≡ true = found_at (λ k. anchor_of k.key anchors == anchor) kept there.found there.is in
    let at : anchor_of there.found.key anchors ≡ anchor = grind (arith, nat_tests) in
    let where_it_is : anchor_of behind.file.key anchors ≡ anchor = ap (λ (k : Kept). anchor_of k.key anchors) (sym behind.is) ∙ at in
    record {
      file = behind.file;
      winner = subst (λ (a : ℕ). IsWinner slot images anchors a behind.file) where_it_is (o.is.won behind.file behind.among);
      entry = ap entry_kept (sym behind.is) ∙ there.entry;
    }

of_kept : (slot : ℕ) (images : List (List ℕ)) (anchors anchor : ℕ) (old : Entry) → StandsForFile slot images anchors anchor old → IsOfFile slot images anchors anchor old
of_kept slot images anchors anchor old h = record {
  file = h.file;
  winner = h.winner;
  url = ap (λ (x : Entry). x.url) (sym h.entry);
  key = ap (λ (x : Entry). x.key) (sym h.entry);
  body = ap (λ (x : Entry). x.body) (sym h.entry);
  offer = ap (λ (x : Entry). x.offer) (sym h.entry);
}

same_of_file : (slot : ℕ) (images : List (List ℕ)) (anchors anchor : ℕ) (old e : Entry) → SameOffer old e → IsOfFile slot images anchors anchor old → IsOfFile slot images anchors anchor e
same_of_file slot images anchors anchor old e same h = record {
  file = h.file;
  winner = h.winner;
  url = same.url ∙ h.url;
  key = same.key ∙ h.key;
  body = same.body ∙ h.body;
  offer = same.offer ∙ h.offer;
}

pub stands_at : (slot : ℕ) (images : List (List ℕ)) (anchors anchor : ℕ) (p : Plain) (o : IsOpened slot images anchors p) (old : Entry) → entry_at p anchor ≡ Some old
    → StandsForFile slot images anchors anchor old
stands_at slot images anchors anchor p o old there =
    let kept : List Kept = map (kept_of images) o.is.entries in
    let at : entry_at (opened anchors kept o.rebuilt.greatest) anchor ≡ Some old = ap (λ (q : Plain). entry_at q anchor) (sym o.store) ∙ there in
    let made : (place_kept (kept_at anchors kept (0 + anchor))).entry ≡ Some old = made_at (λ a. place_kept (kept_at anchors kept a)) old 0 anchors anchor at in
    let zero_more : anchor ≡ 0 + anchor = omega arith in
    let here : (place_kept (kept_at anchors kept anchor)).entry ≡ Some old = ap (λ (a : ℕ). (place_kept (kept_at anchors kept a)).entry) zero_more ∙ made in
    stands_for slot images anchors anchor p o old (kept_there anchors kept anchor old (kept_at anchors kept anchor) refl here)

opened_entry : (slot : ℕ) (images : List (List ℕ)) (anchors anchor : ℕ) (p : Plain) (o : IsOpened slot images anchors p) (old : Entry) → entry_at p anchor ≡ Some old → IsOfFile slot images anchors anchor old
opened_entry slot images anchors anchor p o old there = of_kept slot images anchors anchor old (stands_at slot images anchors anchor p o old there)

pub of_file : (s : Setting) (slot : ℕ) (images : List (List ℕ)) (script lines : List Line) (p : Plain) (anchor : ℕ) (e : Entry) → IsOpened slot images s.anchors p → entry_at (after s script lines p) anchor ≡ Some e
    → IsOfLines s lines anchor e ⊎ IsOfFile slot images s.anchors anchor e
of_file s slot images script lines p anchor e o is = elim (origins s script lines p anchor e is) [
  | inl h ↦ inl h
  | inr h ↦ inr (same_of_file slot images s.anchors anchor h.old e h.same (opened_entry slot images s.anchors anchor p o h.old h.there))
]
