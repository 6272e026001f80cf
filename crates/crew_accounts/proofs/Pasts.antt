-- The past of a store that was opened over a file: the offer of an entry that a rebuild keeps is its first slot.
use Rattle.std.proofs.Common.{List, [], ap, length, subst, sym, ⊎_elim, ◌<◌, ◌≡◌, ◌⊎◌, ◌∙◌, ◌∷◌, ℕ}
use Rattle.store_key.specs.Anchor.{back_half, front_half}
use Rattle.store_key.specs.Key.{key_of}
use Rattle.rebuild_model.specs.declared.rebuilt.Rebuilt.{Rebuilt}
use Rattle.rebuild_model.specs.Entry.{Entry, IsComplete}
use Rattle.rebuild_model.specs.Rebuilt.{IsRebuilt, IsWinner}
use Rattle.core_model.specs.declared.moves.Side.TheVariants.{Key0, Key1, Offer}
use Rattle.core_model.specs.declared.view.Place.TheVariants.{Beside}
use Rattle.core_model.specs.Layout.{word_in}
use Rattle.store_rule.specs.Ground.{Ground}
use Rattle.store_rule.specs.Rebuilding.{chain_kept}
use Rattle.rock_reader.specs.Responses.{HoldsFile, IsOpened}
use Rattle.crew_accounts.specs.Openings.{HadKept, HadNone}
use Rattle.crew_accounts.specs.Runs.{Past}
use Rattle.crew_accounts.proofs.AtAnchors.{OneKept, among}
use Rattle.crew_accounts.proofs.Begun.{AreApart, begun, begun_at}

-- the law that one complete entry begins at a slot
abbrev pub OneBegins : Type 0
OneBegins = (slot : ℕ) (images : List (List ℕ)) (e f : Entry) → IsComplete slot images e → IsComplete slot images f → e.first ≡ f.first → e ≡ f

-- the law that a store that was opened with what a rebuild of its file kept holds the file
abbrev pub HoldsKept : Type 0
HoldsKept = (g : Ground (List ℕ)) (r : Rebuilt) → length g.setting.contents ≡ g.setting.slots
    → IsRebuilt g.slot g.setting.contents g.setting.anchors r → g.chain ≡ chain_kept r.winners g.setting.anchors → HoldsFile g

abbrev pub past_of : List Entry → Past
past_of es = record { url = λ offer. (begun_at es offer).url; body = λ offer. (begun_at es offer).body }

same_first : {x y : ℕ} {xs ys : List ℕ} → x ∷ xs ≡ y ∷ ys → x ≡ y
same_first e = cc

not_begun : {x : ℕ} {xs : List ℕ} → x ∷ xs ≡ [] → ⊥
not_begun e = cc

module _ (begins : OneBegins) (one : OneKept) (slot : ℕ) (images : List (List ℕ)) where
  -- the entries of a rebuild are apart
  apart : (anchors : ℕ) (r : Rebuilt) (b : IsRebuilt slot images anchors r) → AreApart b.entries
  apart anchors r b e f p q same = begins slot images e f (b.won e p).complete (b.won f q).complete same

  -- the entry that is kept at an anchor is the one that begins at its first slot
  pub kept_begun : (anchors a : ℕ) (r : Rebuilt) (b : IsRebuilt slot images anchors r) (e : Entry) → IsWinner slot images anchors a e → begun_at b.entries e.first ≡ e
  kept_begun anchors a r b e won = begun b.entries (apart anchors r b) e (among one slot images anchors a r b e won)

  -- entries with the same slots are one
  same_slots : (e f : Entry) → IsComplete slot images e → IsComplete slot images f → e.chain ≡ f.chain → e ≡ f
  same_slots e f p q same = begins slot images e f p q (same_first (sym p.chain.begins ∙ same ∙ q.chain.begins))

-- Of a store that was opened with a rebuild of the contents that its ground has, with its slots and anchors.
module _ (begins : OneBegins) (one : OneKept) (g : Ground (List ℕ)) (slot anchors : ℕ) (images : List (List ℕ)) (r : Rebuilt)
    (b : IsRebuilt slot images anchors r)
    (each : (a : ℕ) → a < anchors → HadKept g slot anchors images a ⊎ HadNone g slot anchors images a)
    (slot_is : g.slot ≡ slot) (anchors_are : g.setting.anchors ≡ anchors) (contents_are : g.setting.contents ≡ images) where
  complete_here : (e : Entry) → IsComplete g.slot g.setting.contents e → IsComplete slot images e
  complete_here e c = subst (λ (n : ℕ). IsComplete n images e) slot_is (subst (λ (xs : List (List ℕ)). IsComplete g.slot xs e) contents_are c)

  module _ (a offer : ℕ) (url body : List ℕ) (lt : a < g.setting.anchors) (was : IsOpened g a offer url body) where
    -- the entry that the anchor had, of which it is said that it had it
    had_it : (h : HadKept g slot anchors images a) × (h.entry ≡ was.entry)
    had_it = let complete = complete_here was.entry was.complete in ⊎_elim
        (λ (h : HadKept g slot anchors images a).
        (h, same_slots begins one slot images h.entry was.entry h.winner.complete complete (sym h.chain ∙ sym was.chain_is)))
        (λ (h : HadNone g slot anchors images a). absurd (not_begun (sym complete.chain.begins ∙ was.chain_is ∙ h.chain)))
        (each a (subst (λ (n : ℕ). a < n) anchors_are lt))

    begun_there : word_in g.setting g.setting.words (Beside Offer a) ≡ offer → begun_at b.entries offer ≡ was.entry
    begun_there is = ap (begun_at b.entries) (sym is ∙ had_it.0.offer)
        ∙ kept_begun begins one slot images anchors a r b had_it.0.entry had_it.0.winner ∙ had_it.1

    pub told_there : word_in g.setting g.setting.words (Beside Offer a) ≡ offer
        → ((past_of b.entries).url offer ≡ url) × ((past_of b.entries).body offer ≡ body)
    told_there is = (ap Entry.url (begun_there is) ∙ was.url_is, ap Entry.body (begun_there is) ∙ was.body_is)

    pub keyed_there : (word_in g.setting g.setting.words (Beside Key0 a) ≡ front_half (key_of url))
        × (word_in g.setting g.setting.words (Beside Key1 a) ≡ back_half (key_of url))
    keyed_there =
        let key : had_it.0.entry.key ≡ key_of url = ap Entry.key had_it.1 ∙ was.complete.key_of_url ∙ ap key_of was.url_is in
        (had_it.0.key0 ∙ ap front_half key, had_it.0.key1 ∙ ap back_half key)

  pub holds_here : HoldsKept → length images ≡ g.setting.slots → g.chain ≡ chain_kept r.winners g.setting.anchors → HoldsFile g
  holds_here holds many chain = holds g r (ap length contents_are ∙ many)
      (subst (λ (n : ℕ). IsRebuilt n g.setting.contents g.setting.anchors r) (sym slot_is)
      (subst (λ (xs : List (List ℕ)). IsRebuilt slot xs g.setting.anchors r) (sym contents_are)
      (subst (λ (n : ℕ). IsRebuilt slot images n r) (sym anchors_are) b)))
      chain
