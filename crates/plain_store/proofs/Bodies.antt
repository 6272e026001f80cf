-- How many bytes a body has.
use Rattle.std.proofs.Common.{◌≡◌, ℕ, ◌+◌, refl}
use Rattle.std.specs.Prelude.{length, ◌%◌}
use Rattle.std.proofs.lemmas.List.FromFn.{length-map-range_with_len}
use Rattle.script_text.specs.Fields.{body_size}
use Rattle.script_text.specs.declared.body.Body.{Body}
use Rattle.script_text.specs.declared.body.Body.TheVariants.{Text, Made}
use Rattle.plain_model.specs.Serving.{bytes_of}

pub size_of_bytes : (body : Body) → length (bytes_of body) ≡ body_size body
size_of_bytes (Text text) = refl
size_of_bytes (Made count shift) = length-map-range_with_len (λ i. 97 + (i + shift) % 26) 0 count
