use Rattle.std.proofs.Common.{List, ap, length, replicate, ◌∙◌, ℕ}
use Rattle.core_model.specs.Tabs.{inner}
use Rattle.store_rule.specs.Lending.{with_bytes}
use Rattle.slice_chain.proofs.wiping.blank_buffer.Goals as goal

pub returns : goal.returns
returns g c = ap (λ (bytes : List ℕ). with_bytes c.args.pass.now inner bytes)
    (c.fill.ensures.after (λ y is. is) ∙ ap (λ (bytes : List ℕ). replicate {A = ℕ} (length bytes) 0) c.buffer_mut.ensures.value)
