-- What is counted of entries.
use Rattle.std.specs.Prelude.{◌≡◌, ℕ, ◌<◌, List, length, map, drop, Option, None, Some, slice_index_or}
use Rattle.std.specs.Option.{option_map}
use Rattle.store_key.specs.Anchor.{anchor_of}
use Rattle.rebuild_model.specs.Plain.{IsFound}
use Rattle.rebuild_model.specs.declared.found.Found.{Found}
use Rattle.rock_rebuild.specs.declared.candidates.Candidate.{Candidate}
use Rattle.rock_rebuild.specs.Best.{BestOf}
use Rattle.rock_rebuild.specs.Gathered.{AreFound}

-- an entry, as far as it is counted
abbrev pub candidate_of : ℕ → Found → Candidate
candidate_of anchors f = record { anchor = anchor_of f.key anchors; version = f.version; slots = length f.chain }

-- how many slots a candidate has, if there is one
abbrev pub slots_of : Option Candidate → ℕ
slots_of None = 0
slots_of (Some c) = c.slots

-- this is told of the complete entry that begins at a slot
pub record IsFoundAs (anchors slot : ℕ) (images : List (List ℕ)) (first : ℕ) (candidate : Candidate) : Type 0 where
  pub found : Found
  pub is : IsFound slot images first found
  pub told : candidate ≡ candidate_of anchors found

-- these are told of the complete entries that begin before slot `bound`, in order of their first slots
pub record AreFoundAs (anchors slot : ℕ) (images : List (List ℕ)) (bound : ℕ) (candidates : List Candidate) : Type 0 where
  pub found : List Found
  pub are : AreFound slot images bound found
  pub told : candidates ≡ map (candidate_of anchors) found

-- for each anchor what is told of the best entry there, of those that stand from a place on
pub record AreBestAs (anchors : ℕ) (found : List Found) (from : ℕ) (best : List (Option Candidate)) : Type 0 where
  pub count : length best ≡ anchors
  pub each : (anchor : ℕ) → anchor < anchors → (kept : Option Found) × BestOf anchors anchor (drop from found) kept × (slice_index_or best anchor None ≡ option_map (candidate_of anchors) kept)
