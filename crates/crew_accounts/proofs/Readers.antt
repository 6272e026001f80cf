-- How many tabs of a pass read at an anchor, by its view and by the lines.
use Rattle.std.proofs.Common.{Bool, List, None, Option, [], ap, arith, cond, get_or, inl, inr, length, refl, sum_by, sym, true, ◌+◌, ◌<◌, ◌==◌, ◌∙◌, ◌∷◌, ◌≡◌, ℕ}
use Rattle.rock_disk.specs.Cell.{CellState}
use Rattle.store_key.specs.Anchor.{anchor_of}
use Rattle.store_key.specs.Key.{key_of}
use Rattle.core_model.specs.Tabs.{counts, inner, is_free, tab_at}
use Rattle.core_model.specs.declared.tab.Tab.{Tab}
use Rattle.core_model.specs.declared.tab.Tab.TheVariants.{Free, Freeing, Last, Reading, Retreating, Writing}
use Rattle.line_account.specs.Answers.{is_anchor_of, reads_at, readers_at}
use Rattle.line_account.specs.Lines.{Served, reading}
use Rattle.store_rule.specs.declared.store.Pass.{Pass}
use Rattle.store_rule.specs.declared.store.Store.{Store}
use Rattle.store_rule.specs.Ground.{Offers}
use Rattle.store_rule.specs.Passes.{basis, view}
use Rattle.store_rule.proofs.Passing.{pass_of}
use Rattle.crew_accounts.specs.Runs.{Past}
use Rattle.crew_accounts.specs.Tracks.{IsTracked, Tracks}

module _ {X : Type 0} where
  -- the tabs of a pass, one by one
  nine_tabs : (f : Tab X → ℕ) (b : ℕ → ℕ) (xs : List (Tab X)) → length xs ≡ 9 → ((t : ℕ) → t < 7 → f (get_or xs t Free) ≡ b t) → f (get_or xs 7 Free) ≡ 0 → f (get_or xs 8 Free) ≡ 0
      → sum_by f xs ≡ b 0 + b 1 + b 2 + b 3 + b 4 + b 5 + b 6
  nine_tabs f b (x0 ∷ x1 ∷ x2 ∷ x3 ∷ x4 ∷ x5 ∷ x6 ∷ x7 ∷ x8 ∷ []) nine each whole inside =
      let h0 : f x0 ≡ b 0 = each 0 (omega arith) in
      let h1 : f x1 ≡ b 1 = each 1 (omega arith) in
      let h2 : f x2 ≡ b 2 = each 2 (omega arith) in
      let h3 : f x3 ≡ b 3 = each 3 (omega arith) in
      let h4 : f x4 ≡ b 4 = each 4 (omega arith) in
      let h5 : f x5 ≡ b 5 = each 5 (omega arith) in
      let h6 : f x6 ≡ b 6 = each 6 (omega arith) in
      let h7 : f x7 ≡ 0 = whole in
      let h8 : f x8 ≡ 0 = inside in
      let total : sum_by f (x0 ∷ x1 ∷ x2 ∷ x3 ∷ x4 ∷ x5 ∷ x6 ∷ x7 ∷ x8 ∷ []) ≡ 0 + f x0 + f x1 + f x2 + f x3 + f x4 + f x5 + f x6 + f x7 + f x8 = refl in
      omega arith
  nine_tabs f b [] nine each whole inside = absurd (omega arith)
  nine_tabs f b (x0 ∷ []) nine each whole inside = absurd (omega arith)
  nine_tabs f b (x0 ∷ x1 ∷ []) nine each whole inside = absurd (omega arith)
  nine_tabs f b (x0 ∷ x1 ∷ x2 ∷ []) nine each whole inside = absurd (omega arith)
  nine_tabs f b (x0 ∷ x1 ∷ x2 ∷ x3 ∷ []) nine each whole inside = absurd (omega arith)
  nine_tabs f b (x0 ∷ x1 ∷ x2 ∷ x3 ∷ x4 ∷ []) nine each whole inside = absurd (omega arith)
  nine_tabs f b (x0 ∷ x1 ∷ x2 ∷ x3 ∷ x4 ∷ x5 ∷ []) nine each whole inside = absurd (omega arith)
  nine_tabs f b (x0 ∷ x1 ∷ x2 ∷ x3 ∷ x4 ∷ x5 ∷ x6 ∷ []) nine each whole inside = absurd (omega arith)
  nine_tabs f b (x0 ∷ x1 ∷ x2 ∷ x3 ∷ x4 ∷ x5 ∷ x6 ∷ x7 ∷ []) nine each whole inside = absurd (omega arith)
  nine_tabs f b (x0 ∷ x1 ∷ x2 ∷ x3 ∷ x4 ∷ x5 ∷ x6 ∷ x7 ∷ x8 ∷ x9 ∷ xs) nine each whole inside = absurd (omega arith)

  free_counts : (a : ℕ) (x : Tab X) → is_free x ≡ true → counts a x ≡ 0
  free_counts a Free h = refl
  free_counts a (Retreating b) h = cc
  free_counts a (Reading r) h = cc
  free_counts a (Writing w) h = refl
  free_counts a (Last b) h = refl
  free_counts a (Freeing f) h = refl

-- two counts at anchors that are the same
same_counts : (a b c n m : ℕ) → n ≡ cond (b == a) 1 0 → m ≡ cond (c == a) 1 0 → b ≡ c → n ≡ m
same_counts a b c n m e f same = e ∙ ap (λ (d : ℕ). cond (d == a) 1 0) same ∙ sym f

module _ {C O : Type 0} (tells : Bool) (state : C → CellState) (offers : O → Offers) (s : Store C O) (told : Bool) (past : Past) (served : List Served) (p : Pass C) where
  abbrev anchors : ℕ
  anchors = (basis tells state offers s).setting.anchors

  -- 1 where the tab reads at the anchor, by the lines
  abbrev one : ℕ → ℕ → ℕ
  one a t = cond (reads_at anchors a (reading t served)) 1 0

  -- a tab that does not read, by the lines
  none_reads : (a t : ℕ) → reading t served ≡ None → one a t ≡ 0
  none_reads a t none = ap (λ (o : Option Served). cond (reads_at anchors a o) 1 0) none

  tab_counts : (a t : ℕ) → IsTracked tells state offers s told past served p t → counts a (tab_at (view p) t) ≡ one a t
  tab_counts a t (inl h) = ap (counts a) h.free ∙ sym (none_reads a t h.reads)
  tab_counts a t (inr (inl h)) = ap (counts a) h.is.rests.is ∙ sym (none_reads a t h.reads)
  tab_counts a t (inr (inr h)) = same_counts a h.is.reader.anchor (anchor_of (key_of h.standing.url) anchors) (counts a (tab_at (view p) t)) (one a t) (ap (counts a) h.is.is)
      (ap (λ (o : Option Served). cond (reads_at anchors a o) 1 0) h.reads ∙ ap (λ (o : Option (List ℕ)). cond (is_anchor_of anchors a o) 1 0) h.named) (h.is.anchor_is ∙ h.anchor)

  pub readers_are : Tracks tells state offers s told past served p → (a : ℕ) → sum_by (counts a) (view p).tabs ≡ readers_at anchors served a
  readers_are tracks a =
      let few = nine_tabs (counts a) (one a) (view p).tabs (pass_of p) (λ t lt. tab_counts a t (tracks.each t lt)) (ap (counts a) tracks.whole) (free_counts a (tab_at (view p) inner) tracks.ready.inner_free) in
      let total : readers_at anchors served a ≡ 0 + one a 0 + one a 1 + one a 2 + one a 3 + one a 4 + one a 5 + one a 6 = refl in
      omega arith
