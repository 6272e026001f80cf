-- What a rebuild keeps at an anchor is what the anchor had when the store was opened.
use Rattle.std.proofs.Common.{All, Contains, List, ap, arith, inl, inr, length, map, subst, sym, ⊎_elim, ◌<◌, ◌≡◌, ◌⊎◌, ◌∙◌, ℕ}
use Rattle.std.proofs.lemmas.List.Elements.{All-head}
use Rattle.store_key.specs.Anchor.{anchor_of}
use Rattle.lock_word.specs.Words.{epoch_at, epoch_of, word_at}
use Rattle.rebuild_model.specs.declared.found.Found.{Found}
use Rattle.rebuild_model.specs.declared.rebuilt.Rebuilt.{Rebuilt}
use Rattle.rebuild_model.specs.Entry.{Entry, IsComplete, found_of}
use Rattle.rebuild_model.specs.Image.{BelongsTo}
use Rattle.rebuild_model.specs.Rebuilt.{IsRebuilt, IsWinner}
use Rattle.core_model.specs.declared.chain.Chain.{Chain}
use Rattle.store_rule.specs.Ground.{Ground}
use Rattle.store_rule.specs.Rebuilding.{IsOpenedWith}
use Rattle.crew_accounts.specs.Openings.{HadKept, HadNone}
use Rattle.crew_accounts.proofs.Begun.{has_number, has_or_not, numbered, told}

-- the law that one entry is kept at an anchor
abbrev pub OneKept : Type 0
OneKept = (slot : ℕ) (images : List (List ℕ)) (anchors anchor : ℕ) (e f : Entry)
    → IsWinner slot images anchors anchor e → IsWinner slot images anchors anchor f → e ≡ f

-- an entry that is kept is one of those of the rebuild
pub among : OneKept → (slot : ℕ) (images : List (List ℕ)) (anchors a : ℕ) (r : Rebuilt) (b : IsRebuilt slot images anchors r) (e : Entry)
    → IsWinner slot images anchors a e → Contains b.entries e
among one slot images anchors a r b e won =
    let h = has_number (λ f. anchor_of f.key anchors) b.entries (anchor_of e.key anchors) (b.every e won.complete) in
    subst (Contains b.entries) (one slot images anchors a h.0 e (subst (λ n. IsWinner slot images anchors n h.0) (h.2 ∙ won.at) (b.won h.0 h.1)) won) h.1

-- a complete entry begins at a slot of the file
pub first_within : (slot : ℕ) (images : List (List ℕ)) (e : Entry) → IsComplete slot images e → e.first < length images
first_within slot images e c = let belong = subst (All (BelongsTo slot images e.first)) c.chain.begins c.chain.belong in
    (All-head (BelongsTo slot images e.first) e.first c.chain.behind belong).sane.within

closed_epoch : (version : ℕ) → epoch_of (word_at version 3) ≡ epoch_at version 3
closed_epoch version = omega arith

module _ (g : Ground (List ℕ)) (slot : ℕ) (images : List (List ℕ)) (r : Rebuilt) (b : IsRebuilt slot images g.setting.anchors r) (o : IsOpenedWith g r)
    (many : length images ≡ g.setting.slots) where
  abbrev place : Entry → ℕ
  place e = anchor_of e.key g.setting.anchors

  had_kept : (e : Entry) → Contains b.entries e → HadKept g slot g.setting.anchors images (place e)
  had_kept e in_b =
      let kept = o.opened.kept (found_of e) (subst (λ (fs : List Found). Contains fs (found_of e)) (sym b.told) (told b.entries e in_b)) in
      let won = b.won e in_b in
      let within : e.first < length images = first_within slot images e won.complete in record {
        entry = e;
        winner = won;
        epoch = ap epoch_of kept.word_is ∙ closed_epoch e.version;
        offer = kept.offer;
        below = omega arith;
        key0 = kept.key0;
        key1 = kept.key1;
        chain = ap (λ (f : ℕ → List ℕ). f (place e)) o.chain ∙ ap Chain.slots kept.chain;
      }

  had_none : (a : ℕ) → a < g.setting.anchors → (Contains (map place b.entries) a → ⊥) → HadNone g slot g.setting.anchors images a
  had_none a lt none =
      let place_there : (f : Found) → Contains r.winners f → Contains (map place b.entries) (anchor_of f.key g.setting.anchors) =
      λ f h. numbered (λ f. anchor_of f.key g.setting.anchors) b.entries f (subst (λ (fs : List Found). Contains fs f) b.told h)
      in
      let empty = o.opened.empty a lt (λ f h at. none (subst (Contains (map place b.entries)) at (place_there f h))) in record {
        none = λ e c at. none (subst (Contains (map place b.entries)) at (b.every e c));
        epoch = ap epoch_of empty.word_is;
        chain = ap (λ (f : ℕ → List ℕ). f a) o.chain ∙ ap Chain.slots empty.chain;
      }

  -- each anchor had what is kept there
  pub had : (a : ℕ) → a < g.setting.anchors → HadKept g slot g.setting.anchors images a ⊎ HadNone g slot g.setting.anchors images a
  had a lt = ⊎_elim
      (λ (h : (e : Entry) × Contains b.entries e × (place e ≡ a)). inl (subst (HadKept g slot g.setting.anchors images) h.2 (had_kept h.0 h.1)))
      (λ (none : Contains (map place b.entries) a → ⊥). inr (had_none a lt none))
      (has_or_not place b.entries a)
