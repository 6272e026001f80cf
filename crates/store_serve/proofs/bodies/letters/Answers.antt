use Rattle.std.proofs.Common.{◌+◌, ◌%◌, ap, arith, ◌∙◌}
use Rattle.store_serve.proofs.Alphabet.{cut_letter, shifted}
use Rattle.store_serve.proofs.bodies.letters.Goals as goal

pub returns-clause-letters : goal.returns-clause-letters
returns-clause-letters c i lt = cut_letter ((c.args.from % 26 + c.args.shift) % 26) i (omega arith) lt ∙ ap (λ n. 97 + n) (shifted c.args.from c.args.shift i)
