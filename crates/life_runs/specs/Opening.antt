-- What a life was last opened over, as a file, and since when it is open.
use Rattle.std.specs.Prelude.{◌≡◌, ◌⊎◌, ◌+◌, ◌<◌, ◌≤◌, ℕ, List}
use mathlib.Core.Option.{some}
use lib.ListN.{get_elem?}
use Rattle.rebuild_model.specs.declared.image.FileImage.{FileImage}
use Rattle.core_state.specs.declared.act.Act.{Act}
use Rattle.core_state.specs.declared.act.Step.{Step}
use Rattle.core_state.specs.declared.act.Step.TheVariants as step
use Rattle.crash_entries.specs.Parts.{Offers}
use Rattle.core_runs.specs.Responses.{Offers as ResponsesOf}
use Rattle.named_rebuild.specs.declared.contents.FirstContent.{FirstContent}
use Rattle.named_bytes.specs.Bytes.{images_from}

-- what slots held, as a file of slots of the same size
abbrev pub file_of : FileImage → Offers → List FirstContent → FileImage
file_of file o first = record { slot = file.slot; slots = images_from file o 0 first }

-- the offers, as lists of steps speak of them
abbrev pub responses_of : Offers → ResponsesOf
responses_of o = record { url = o.url; body = o.body }

-- The life at place i was opened right then, by the first opening or by a rebuild, and up to place j passes alone made steps.
pub record IsOpenSince (steps : List Step) (i j : ℕ) : Type 0 where
  pub opens : (i ≡ 0) ⊎ ((h : ℕ) × (i ≡ h + 1) × (get_elem? steps h ≡ some step.Rebuild))
  pub up_to : i ≤ j
  pub acts : (h : ℕ) → i ≤ h → h < j → (act : Act) × (get_elem? steps h ≡ some (step.Act act))
