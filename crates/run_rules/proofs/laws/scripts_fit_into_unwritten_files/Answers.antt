use Rattle.std.proofs.Common.{ap, arith, length, length-append, ◌+◌, ◌∙◌}
use Rattle.store_key.specs.Key.{key_of}
use Rattle.swap_meta.specs.Meta.{meta_bytes}
use Rattle.run_rules.proofs.Suiting.{fits_unwritten}
use Rattle.run_rules.proofs.laws.scripts_fit_into_unwritten_files.Goals as goal

pub returns : goal.returns
returns c slot anchors images script sized zeros fits = fits_unwritten slot anchors images script
    (λ url body. length-append (meta_bytes (key_of url) url) body
    ∙ ap (λ n. n + length body) (c.written_meta_is_spelled.ensures.size (key_of url) url (c.keys_have_16_bytes.ensures.length url)))
    (let least = sized.from in omega (arith, least)) (λ e complete. c.unwritten_slots_have_no_entry.ensures slot images e zeros complete) fits
