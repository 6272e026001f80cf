use Rattle.script_text.proofs.Excluding.{one_script, never_both, one_bad_line}
use Rattle.script_text.specs.Words.{lines_of}
use Rattle.script_text.proofs.laws.one_reading.Goals as goal

pub returns-clause-script : goal.returns-clause-script
returns-clause-script c workers text lines others few script again = one_script workers (lines_of text) lines others few script again

pub returns-clause-apart : goal.returns-clause-apart
returns-clause-apart c workers text lines line cause few script bad = never_both workers text lines line cause few script bad

pub returns-clause-bad : goal.returns-clause-bad
returns-clause-bad c workers text line cause other another few bad again = one_bad_line workers text line cause other another few bad again
