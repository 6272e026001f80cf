-- What is counted of entries, gathered slot by slot.
use Rattle.std.proofs.Common.{◌≡◌, ℕ, ◌+◌, List, [], ◌∷◌, ◌++◌, map, refl, ap, sym, ◌∙◌}
use Rattle.std.proofs.lemmas.List.{map-append}
use Rattle.rebuild_model.specs.Plain.{HasNoEntry}
use Rattle.rebuild_model.specs.declared.found.Found.{Found}
use Rattle.rock_rebuild.specs.declared.candidates.Candidate.{Candidate}
use Rattle.rock_rebuild.specs.Candidates.{candidate_of, IsFoundAs, AreFoundAs}
use Rattle.rock_rebuild.proofs.Gathering.{One, none_yet, none_here, one_more}

pub none_yet_as : (anchors slot : ℕ) (images : List (List ℕ)) (candidates : List Candidate) → candidates ≡ [] → AreFoundAs anchors slot images 0 candidates
none_yet_as anchors slot images candidates none = record { found = []; are = none_yet slot images [] refl; told = none }

-- no entry begins at the next slot
pub none_here_as : (anchors slot : ℕ) (images : List (List ℕ)) (first : ℕ) (candidates : List Candidate) → AreFoundAs anchors slot images first candidates → HasNoEntry slot images first
    → AreFoundAs anchors slot images (first + 1) candidates
none_here_as anchors slot images first candidates so none = record { found = so.found; are = none_here slot images first so.found so.are none; told = so.told }

-- or one does, of which this is told
pub one_more_as : One → (anchors slot : ℕ) (images : List (List ℕ)) (first : ℕ) (candidates grown : List Candidate) (c : Candidate) → AreFoundAs anchors slot images first candidates → IsFoundAs anchors slot images first c
    → grown ≡ candidates ++ c ∷ [] → AreFoundAs anchors slot images (first + 1) grown
one_more_as one anchors slot images first candidates grown c so is grows =
    let f : Found = is.found in record {
      found = so.found ++ f ∷ [];
      are = one_more one slot images first so.found (so.found ++ f ∷ []) f so.are is.is refl;
      told = grows ∙ ap (λ l. l ++ c ∷ []) so.told ∙ ap (λ x. map (candidate_of anchors) so.found ++ x ∷ []) is.told ∙ sym (map-append (candidate_of anchors) so.found (f ∷ []));
    }
