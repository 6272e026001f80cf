-- The bytes that a life begins with are those of its file.
use Rattle.std.proofs.Common.{◌≡◌, ℕ, ◌<◌, [], length, replicate, ap, ◌∙◌, arith}
use Rattle.std.proofs.lemmas.List.{ext_get_or, length-replicate}
use Rattle.rebuild_model.specs.declared.image.FileImage.{FileImage}
use Rattle.crash_entries.specs.Parts.{Offers}
use Rattle.named_rebuild.specs.declared.contents.FirstContent.TheVariants.{File}
use Rattle.named_bytes.specs.Bytes.{bytes_in, images_from}
use Rattle.named_bytes.proofs.Images.{image_is, many_images}
use Rattle.core_lives.proofs.Living.{all_files}

-- what the first file holds
pub first_images : (file : FileImage) (o : Offers) → images_from file o 0 (replicate (length file.slots) File) ≡ file.slots
first_images file o =
    let n : ℕ = length file.slots in let xs = replicate n File in let long : length xs ≡ n = length-replicate n File in
    ext_get_or [] (images_from file o 0 xs) file.slots (many_images file o 0 xs ∙ long)
    (λ i lt. let low : i < length xs = (let m = many_images file o 0 xs in omega arith) in
    image_is file o xs i low ∙ ap (bytes_in file o i) (all_files n i (omega arith)))
