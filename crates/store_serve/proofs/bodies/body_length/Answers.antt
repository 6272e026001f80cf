use Rattle.std.proofs.Common.{ap, length, sym, ◌∙◌}
use Rattle.plain_model.specs.Serving.{bytes_of}
use Rattle.store_serve.proofs.Letters.{letters_many}
use Rattle.store_serve.proofs.bodies.body_length.Goals as goal

pub returns-in-Made : goal.returns-in-Made
returns-in-Made c = sym (ap (λ z. length (bytes_of z)) c.in-Made.is ∙ letters_many c.in-Made.shift c.in-Made.length)
