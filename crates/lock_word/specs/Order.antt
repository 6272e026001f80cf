-- The order of epochs: by version, then doom, then stage.
use Rattle.std.specs.declared.cmp.Ordering.{Ordering}
use Rattle.std.specs.Ordering.{nat_cmp, bool_cmp, ordering_then}
use Rattle.lock_word.specs.declared.epoch.Epoch.{Epoch}
use Rattle.lock_word.specs.Words.{stage_number}

abbrev pub epoch_cmp : Epoch → Epoch → Ordering
epoch_cmp e f = ordering_then (nat_cmp e.version f.version) (ordering_then (bool_cmp e.doom f.doom) (nat_cmp (stage_number e.stage) (stage_number f.stage)))
