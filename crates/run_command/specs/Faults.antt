-- How the command ends at a fault of one of its parts.
use Rattle.answer_text.specs.declared.print.PrintFault.{PrintFault}
use Rattle.answer_text.specs.declared.print.PrintFault.TheVariants as printing
use Rattle.rock_status.specs.declared.status.Status.{Status}
use Rattle.rock_status.specs.declared.status.Status.TheVariants.{BadScript, Memory, SinkFault, SourceFault}
use Rattle.script_text.specs.declared.fault.ScriptFault.{ScriptFault}
use Rattle.script_text.specs.declared.fault.ScriptFault.TheVariants as reading

-- where the script was not read
abbrev pub status_of_script : ScriptFault → Status
status_of_script (reading.BadLine line cause) = BadScript line cause
status_of_script reading.Failed = SourceFault
status_of_script reading.Memory = Memory

-- where its answers were not printed
abbrev pub status_of_print : PrintFault → Status
status_of_print printing.Failed = SinkFault
status_of_print printing.Memory = Memory
