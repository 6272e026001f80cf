-- The entries that are kept, gathered anchor by anchor, and what is known of them.
use Rattle.std.proofs.Common.{◌≡◌, inl, inr, ⊎_elim, ℕ, ◌+◌, ◌<◌, ◌≤◌, List, [], ◌∷◌, ◌++◌, length, map, ap, sym, ◌∙◌, subst, arith, Contains, All}
use Rattle.std.specs.Prelude.{slice_index}
use Rattle.std.specs.List.Sorted.{IsStrictlyIncreasing}
use Rattle.std.proofs.lemmas.Bool.{cases_lt}
use Rattle.std.proofs.lemmas.List.{get_or_past, map-append, length_push, get_or_append_left, get_or_push}
use Rattle.std.proofs.lemmas.List.Elements.{All-push, Contains-push, Contains-push_cases, Contains-append_left}
use mathlib.Core.Logic.{dite}
use native.Mathlib.Decide.{ℕ_discrete}
use Rattle.store_key.specs.Anchor.{anchor_of}
use Rattle.lock_word.specs.Words.{version_limit}
use Rattle.rebuild_model.specs.declared.found.Found.{Found}
use Rattle.rebuild_model.specs.declared.image.FileImage.{FileImage}
use Rattle.rebuild_model.specs.declared.rebuilt.Rebuilt.{Rebuilt}
use Rattle.rebuild_model.specs.Keeping.{AreOwners}
use Rattle.rebuild_model.proofs.Winners.{nearer}
use Rattle.core_openings.specs.KeptSo.{IsKeptSo}
use Rattle.named_rebuild.specs.declared.contents.FirstContent.{FirstContent}
use Rattle.named_rebuild.specs.Contents.{AreContents}
use Rattle.named_rebuild.specs.Entries.{IsNamedEntry}
use Rattle.named_rebuild.specs.Keeping.{AreBest, HasNoneAt, IsBestAt, IsGreatestShown, IsRebuiltOfNames, ShowsVersion}
use Rattle.named_rebuild.proofs.Facts.{EntriesApart, begins, chain_once, first_within, one_first, same, shows, within}

-- a number above all others can stand behind them
grow : (xs : List ℕ) (y : ℕ) → IsStrictlyIncreasing xs → All (λ x. x < y) xs → IsStrictlyIncreasing (xs ++ y ∷ [])
grow xs y up below k low =
    let longer = length_push xs y in
    elim (cases_lt (k + 1) (length xs)) as (λ _. slice_index (xs ++ y ∷ []) k < slice_index (xs ++ y ∷ []) (k + 1)) [
      | inl less ↦ omega (arith, up k less, get_or_append_left xs (y ∷ []) 0 k (omega (arith, less)), get_or_append_left xs (y ∷ []) 0 (k + 1) less)
      | inr more ↦ omega (arith, below k 0 (omega (arith, low, longer)), get_or_append_left xs (y ∷ []) 0 k (omega (arith, low, longer)), get_or_push xs y 0 (k + 1) (omega (arith, low, longer, more)))
    ]

weaken : (xs : List ℕ) (bound : ℕ) → All (λ x. x < bound) xs → All (λ x. x < bound + 1) xs
weaken xs bound all k d low = omega (arith, all k d low)

module _ (file : FileImage) (contents : List FirstContent) (anchors : ℕ) where
  abbrev place : Found → ℕ
  place f = anchor_of f.key anchors

  pub none_won : (winners : List Found) → winners ≡ [] → AreBest file contents anchors 0 winners
  none_won winners none = subst (AreBest file contents anchors 0) (sym none) record {
    won = λ f there. absurd (omega (arith, there.1));
    ordered = λ k low. absurd (omega (arith, low));
    below = λ k d low. absurd (omega (arith, low));
    every = λ f q less. absurd (omega (arith, less));
  }

  pub none_here : (bound : ℕ) (winners : List Found) → AreBest file contents anchors bound winners → HasNoneAt file contents anchors bound → AreBest file contents anchors (bound + 1) winners
  none_here bound winners w none = record {
    won = w.won;
    ordered = w.ordered;
    below = weaken (map place winners) bound w.below;
    every = λ f q less. elim (nearer (place f) bound less) as (λ _. Contains (map place winners) (place f)) [ inl lower ↦ w.every f q lower | inr here ↦ absurd (none f q here) ];
  }

  pub one_won : (bound : ℕ) (winners grown : List Found) (f : Found) → AreBest file contents anchors bound winners → IsBestAt file contents anchors bound f → grown ≡ winners ++ f ∷ [] → AreBest file contents anchors (bound + 1) grown
  one_won bound winners grown f w k grows =
      let at : place f ≡ bound = k.at in
      let maps : map place (winners ++ f ∷ []) ≡ map place winners ++ place f ∷ [] = map-append place winners (f ∷ []) in
      let here : IsBestAt file contents anchors (place f) f = subst (λ a. IsBestAt file contents anchors a f) (sym at) k in
      subst (AreBest file contents anchors (bound + 1)) (sym grows) record {
        won = λ g there. elim (Contains-push_cases winners f g there) as (λ _. IsBestAt file contents anchors (place g) g) [
          | inl old ↦ w.won g old
          | inr is ↦ subst (λ h. IsBestAt file contents anchors (place h) h) is here
        ];
        ordered = subst IsStrictlyIncreasing (sym maps) (grow (map place winners) (place f) w.ordered (subst (λ b. All (λ x. x < b) (map place winners)) (sym at) w.below));
        below = subst (All (λ a. a < bound + 1)) (sym maps) (All-push (λ a. a < bound + 1) (map place winners) (place f) (weaken (map place winners) bound w.below) (omega (arith, at)));
        every = λ g q less. subst (λ xs. Contains xs (place g)) (sym maps) (elim (nearer (place g) bound less) as (λ _. Contains (map place winners ++ place f ∷ []) (place g)) [
          | inl lower ↦ Contains-append_left (map place winners) (place f ∷ []) (place g) (w.every g q lower)
          | inr is ↦ subst (Contains (map place winners ++ place f ∷ [])) (at ∙ sym is) (Contains-push (map place winners) (place f))
        ]);
      }

  anchor_below : 0 < anchors → (key : List ℕ) → anchor_of key anchors < anchors
  anchor_below some key = omega arith

  module _ (apart : EntriesApart) (some : 0 < anchors) (r : Rebuilt) (w : AreBest file contents anchors anchors r.winners) (one_a_slot : length r.owner ≡ length contents) (many : length contents ≡ length file.slots)
      (owners : AreOwners anchors r.winners r.owner) (greatest : IsGreatestShown file contents r.greatest) where
    entry : (f : Found) → Contains r.winners f → IsNamedEntry file contents f
    entry f h = (w.won f h).entry

    owned : (f : Found) (s : ℕ) → Contains r.winners f → Contains f.chain s → slice_index r.owner s ≡ place f + 1
    owned f s h has = let lt = within file contents many f (entry f h) s has in ⊎_elim
        (λ (q : (g : Found) × Contains r.winners g × Contains g.chain s × (slice_index r.owner s ≡ place g + 1)).
        q.3 ∙ ap (λ (key : List ℕ). anchor_of key anchors + 1) (same file contents q.0 f (entry q.0 q.1) (entry f h) (one_first file contents apart q.0 f s (entry q.0 q.1) (entry f h) q.2 has)).0)
        (λ (q : ((g : Found) → Contains r.winners g → Contains g.chain s → ⊥) × (slice_index r.owner s ≡ 0)). absurd (q.0 f h has))
        (owners s (omega arith))

    free : (s : ℕ) → ((f : Found) → Contains r.winners f → Contains f.chain s → ⊥) → slice_index r.owner s ≡ 0
    free s none = elim (cases_lt s (length r.owner)) as (λ _. slice_index r.owner s ≡ 0) [
      | inl less ↦ ⊎_elim
          (λ (q : (g : Found) × Contains r.winners g × Contains g.chain s × (slice_index r.owner s ≡ place g + 1)). absurd (none q.0 q.1 q.2))
          (λ (q : ((g : Found) → Contains r.winners g → Contains g.chain s → ⊥) × (slice_index r.owner s ≡ 0)). q.1)
          (owners s less)
      | inr more ↦ get_or_past r.owner s 0 (omega (arith, more))
    ]

    pub rebuilt : IsRebuiltOfNames file contents anchors r
    rebuilt = record {
      won = w.won;
      ordered = w.ordered;
      every = λ f q. w.every f q (anchor_below some f.key);
      one_a_slot = one_a_slot;
      owned = owned;
      free = free;
      greatest = greatest;
    }

  -- what a rebuild keeps may be opened
  module _ (r : Rebuilt) (b : IsRebuiltOfNames file contents anchors r) (are : AreContents (length file.slots) contents) where
    limited : r.greatest ≤ version_limit
    limited = dite (ℕ_discrete r.greatest 0) (λ e. omega arith) (λ ne. of_slot (b.greatest.there (omega arith)))
      where
        of_slot : (s : ℕ) × (s < length contents) × ShowsVersion file contents s r.greatest → r.greatest ≤ version_limit
        of_slot (s, lt, inl q) = let most = q.1.sane.version_to in let is = q.2 in omega arith
        of_slot (s, lt, inr q) = let most = (are.pieces s q.piece q.there).version_to in let is = q.version_is in omega arith

    some_version : (s version : ℕ) → ShowsVersion file contents s version → 0 < version
    some_version s version (inl q) = let least = q.1.sane.version_from in let is = q.2 in omega arith
    some_version s version (inr q) = let least = q.some in let is = q.version_is in omega arith

    pub kept_so : IsKeptSo anchors (length file.slots) r
    kept_so = record {
      begins = λ f h. begins file contents f (b.won f h).entry;
      once = λ f h. chain_once file contents f (b.won f h).entry;
      within = λ f h. within file contents are.many f (b.won f h).entry;
      ordered = b.ordered;
      one_a_slot = b.one_a_slot ∙ are.many;
      owned = b.owned;
      free = b.free;
      some_version = λ f h. some_version f.first f.version (shows file contents f (b.won f h).entry);
      versions = λ f h. b.greatest.above f.first f.version (first_within file contents are.many f (b.won f h).entry) (shows file contents f (b.won f h).entry);
      limited = limited;
    }
