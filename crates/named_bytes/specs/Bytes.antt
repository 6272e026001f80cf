-- The bytes of slots that are told by names, where each offer is a response.
use Rattle.std.specs.Prelude.{◌+◌, [], ◌∷◌, ℕ, List, replicate}
use Rattle.rebuild_model.specs.declared.image.FileImage.{FileImage}
use Rattle.rebuild_model.specs.Image.{image_at}
use Rattle.crash_entries.specs.Parts.{Offers, bytes_of}
use Rattle.crash_laws.specs.Left.{logged_part}
use Rattle.named_rebuild.specs.declared.contents.FirstContent.{FirstContent}
use Rattle.named_rebuild.specs.declared.contents.FirstContent.TheVariants.{Blank, File, Logged}

-- the bytes of a slot that holds this
abbrev pub bytes_in : FileImage → Offers → ℕ → FirstContent → List ℕ
bytes_in file o s File = image_at file.slots s
bytes_in file o s (Logged l) = bytes_of file.slot o (logged_part l)
bytes_in file o s Blank = replicate file.slot 0

-- those of the slots from one on that hold these
abbrev pub images_from : FileImage → Offers → ℕ → List FirstContent → List (List ℕ)
images_from file o s [] = []
images_from file o s (x ∷ rest) = bytes_in file o s x ∷ images_from file o (s + 1) rest
