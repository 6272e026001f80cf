use Rattle.run_rules.proofs.Full.{never_full}
use Rattle.run_rules.proofs.absurd.nothing_is_full_where_the_script_fits.Goals as goal

pub returns : goal.returns
returns c tells files name slot anchors workers script answers before after j number mine h into at among =
    never_full h.run script h.crew h.rules (h.fits_is.1 into) answers h.printed j number mine at among
