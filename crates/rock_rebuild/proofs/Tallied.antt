-- What is kept, gathered anchor by anchor, with its owners and its counts.
use Rattle.std.proofs.Common.{◌≡◌, inl, inr, ℕ, zero, suc, ◌+◌, ◌<◌, ◌≤◌, add-one, List, [], ◌∷◌, ◌++◌, length, map, take, get_or, refl, ap, sym, ◌∙◌, subst, arith}
use Rattle.std.specs.Prelude.{Option, None, Some, MatchOption, Contains, sum_by, count_by, slice_index}
use Rattle.std.specs.Option.{is_some, option_map}
use Rattle.std.proofs.Math.ListN.{replicate}
use Rattle.std.proofs.lemmas.List.{length_push, get_or-replicate, length-replicate}
use Rattle.std.proofs.lemmas.List.Elements.{All-contains}
use Rattle.std.proofs.lemmas.List.Folds.{sum_by-replicate}
use Rattle.std.proofs.lemmas.List.Sums.{count_by_more_yes, count_by_more_no, sum_by_more}
use Rattle.store_key.specs.Anchor.{anchor_of}
use Rattle.rebuild_model.specs.Image.{BelongsTo}
use Rattle.rebuild_model.specs.Entry.{Entry, found_of}
use Rattle.rebuild_model.specs.Rebuilt.{IsWinner}
use Rattle.rebuild_model.specs.Keeping.{HasNoneAt, IsKept, IsOwner, AreWinners, AreOwners}
use Rattle.rebuild_model.specs.declared.found.Found.{Found}
use Rattle.rock_rebuild.specs.declared.candidates.Candidate.{Candidate}
use Rattle.rock_rebuild.specs.Candidates.{candidate_of, slots_of}
use Rattle.rock_rebuild.specs.Tally.{used_in}
use Rattle.rock_rebuild.proofs.Keeping.{some_entry, map_there, map_from}
use Rattle.rock_rebuild.proofs.Lists.{is_among}
use Rattle.rock_rebuild.proofs.Marking.{marked, length_marked, marked_at, marked_count}
use Rattle.rock_rebuild.proofs.Owning.{owner_on}

-- what is known of the entries that are kept
pub record Known (slot : ℕ) (images : List (List ℕ)) (anchors : ℕ) : Type 0 where
  pub none : AreWinners slot images anchors 0 []
  pub passed : (anchor : ℕ) (winners : List Found) → AreWinners slot images anchors anchor winners → HasNoneAt slot images anchors anchor → AreWinners slot images anchors (anchor + 1) winners
  pub more : (anchor : ℕ) (winners : List Found) (f : Found) → AreWinners slot images anchors anchor winners → IsKept slot images anchors anchor f → AreWinners slot images anchors (anchor + 1) (winners ++ f ∷ [])
  pub apart : (a b : ℕ) (e f : Entry) → IsWinner slot images anchors a e → IsWinner slot images anchors b f → (a ≡ b → ⊥) → (s : ℕ) → Contains e.chain s → Contains f.chain s → ⊥

-- what is kept at the first anchors, whose each slot is, and how many entries and slots these are
pub record Gathered (slot : ℕ) (images : List (List ℕ)) (anchors : ℕ) (best : List (Option Candidate)) (bound : ℕ) : Type 0 where
  pub winners : List Found
  pub are : AreWinners slot images anchors bound winners
  pub many : length winners ≡ count_by is_some (take bound best)
  pub owner : List ℕ
  pub sized : length owner ≡ length images
  pub owned : AreOwners anchors winners owner
  pub used : used_in owner ≡ sum_by slots_of (take bound best)

none_gathered : (slot : ℕ) (images : List (List ℕ)) (anchors : ℕ) (best : List (Option Candidate)) → Known slot images anchors → Gathered slot images anchors best 0
none_gathered slot images anchors best known = record {
  winners = [];
  are = known.none;
  many = refl;
  owner = replicate (length images) 0;
  sized = length-replicate (length images) 0;
  owned = λ s inside. inr ((λ f there has. absurd (omega (arith, there.1))), get_or-replicate (length images) s 0 0 (omega (arith, inside, length-replicate {A = ℕ} (length images) 0)));
  used = sum_by-replicate _ (length images) 0 ∙ (omega arith);
}

passed_on : (slot : ℕ) (images : List (List ℕ)) (anchors : ℕ) (best : List (Option Candidate)) (bound : ℕ) → Known slot images anchors → Gathered slot images anchors best bound → bound < length best → get_or best bound None ≡ None → HasNoneAt slot images anchors bound
    → Gathered slot images anchors best (bound + 1)
passed_on slot images anchors best bound known so inside there none = record {
  winners = so.winners;
  are = known.passed bound so.winners so.are none;
  many = so.many ∙ sym (count_by_more_no is_some best bound None inside (ap is_some there));
  owner = so.owner;
  sized = so.sized;
  owned = so.owned;
  used = omega (arith, so.used, sum_by_more slots_of best bound None inside, ap slots_of there);
}

-- a slot of the entry that is kept at an anchor is there, and of none that is kept at one before
is_free : (slot : ℕ) (images : List (List ℕ)) (anchors bound : ℕ) (winners : List Found) (e : Entry) (s owner : ℕ) → Known slot images anchors → AreWinners slot images anchors bound winners → IsWinner slot images anchors bound e → Contains e.chain s
    → IsOwner anchors winners s owner → owner ≡ 0
is_free slot images anchors bound winners e s owner known are winner has (inr none) = none.1
is_free slot images anchors bound winners e s owner known are winner has (inl one) =
    let from = map_from found_of are.entries some_entry one.0 (subst (λ l. Contains l one.0) are.told one.1) in
    let f : Entry = from.0 in
    let before : anchor_of f.key anchors < bound = All-contains (λ a. a < bound) (map (λ g. anchor_of g.key anchors) are.entries) (anchor_of f.key anchors) are.below (map_there (λ g. anchor_of g.key anchors) are.entries f from.1) in
    let its : Contains f.chain s = subst (λ g. Contains g.chain s) from.2 one.2 in
    absurd (known.apart (anchor_of f.key anchors) bound f e (are.won f from.1) winner (λ same. omega (arith, before, same)) s its has)

more_on : (slot : ℕ) (images : List (List ℕ)) (anchors : ℕ) (best : List (Option Candidate)) (bound : ℕ) (e : Entry) → Known slot images anchors → Gathered slot images anchors best bound → bound < length best
    → get_or best bound None ≡ Some (candidate_of anchors (found_of e)) → IsWinner slot images anchors bound e → Gathered slot images anchors best (bound + 1)
more_on slot images anchors best bound e known so inside there winner =
    let number = anchor_of e.key anchors + 1 in
    let within : (s : ℕ) → Contains e.chain s → s < length so.owner =
    λ s has. omega (arith, so.sized, (All-contains (BelongsTo slot images e.first) e.chain s winner.complete.chain.belong has).sane.within)
    in
    let count = marked_count number e.chain so.owner (omega arith) winner.complete.chain.once
    (λ s has. (within s has, is_free slot images anchors bound so.winners e s (slice_index so.owner s) known so.are winner has (so.owned s (within s has))))
    in
    record {
      winners = so.winners ++ found_of e ∷ [];
      are = known.more bound so.winners (found_of e) so.are record { entry = e; winner = winner; told = refl };
      many = length_push so.winners (found_of e) ∙ ap (λ n. n + 1) so.many ∙ sym (count_by_more_yes is_some best bound None inside (ap is_some there));
      owner = marked number e.chain so.owner;
      sized = length_marked number e.chain so.owner ∙ so.sized;
      owned = λ s here.
          let was : s < length so.owner = omega (arith, here, length_marked number e.chain so.owner) in
          owner_on anchors so.winners (found_of e) s (slice_index so.owner s) (slice_index (marked number e.chain so.owner) s) (is_among s e.chain) refl (marked_at number e.chain so.owner s was) (so.owned s was);
      used = omega (arith, so.used, count, sum_by_more slots_of best bound None inside, ap slots_of there);
    }

-- this is told of what is kept at an anchor
abbrev pub TellsKept : ℕ → List (List ℕ) → ℕ → ℕ → Option Candidate → Type 0
TellsKept slot images anchors anchor best = (kept : Option Found) × MatchOption kept (HasNoneAt slot images anchors anchor) (IsKept slot images anchors anchor) × (best ≡ option_map (candidate_of anchors) kept)

one_more : (slot : ℕ) (images : List (List ℕ)) (anchors : ℕ) (best : List (Option Candidate)) (bound : ℕ) (kept : Option Found) → Known slot images anchors → Gathered slot images anchors best bound → bound < length best
    → MatchOption kept (HasNoneAt slot images anchors bound) (IsKept slot images anchors bound) → get_or best bound None ≡ option_map (candidate_of anchors) kept → Gathered slot images anchors best (bound + 1)
one_more slot images anchors best bound None known so inside none told = passed_on slot images anchors best bound known so inside told none
one_more slot images anchors best bound (Some f) known so inside is told =
    more_on slot images anchors best bound is.entry known so inside (told ∙ ap (λ g. Some (candidate_of anchors g)) is.told) is.winner

pub gathered : (slot : ℕ) (images : List (List ℕ)) (anchors : ℕ) (best : List (Option Candidate)) (bound : ℕ) → Known slot images anchors → ((anchor : ℕ) → anchor < length best → TellsKept slot images anchors anchor (get_or best anchor None)) → bound ≤ length best
    → Gathered slot images anchors best bound
gathered slot images anchors best zero known told few = none_gathered slot images anchors best known
gathered slot images anchors best (suc bound) known told few =
    let inside : bound < length best = omega (arith, few) in
    let here = told bound inside in
    subst (Gathered slot images anchors best) (add-one bound)
    (one_more slot images anchors best bound here.0 known (gathered slot images anchors best bound known told (omega (arith, few))) inside here.1 here.2)
