use Rattle.std.proofs.Common.{rules, ◌≡◌, ap, ◌∙◌, length, arith}
use Rattle.std.proofs.lemmas.Grind.{common_steps}
use Rattle.plain_model.specs.Serving.{bytes_of}
use Rattle.plain_store.proofs.Bodies.{size_of_bytes}
use Rattle.plain_store.proofs.serving.bytes_of.Goals as goal

pub returns-in_ok-letters-in-Made-clause-size : goal.returns-in_ok-letters-in-Made-clause-size
returns-in_ok-letters-in-Made-clause-size c =
    let value : c.from_vec-in-Made.result ≡ bytes_of c.args.body.now = first_of (search rules, grind (arith, common_steps)) in
    ap length value ∙ size_of_bytes c.args.body.now
