-- Exit statuses.
use Rattle.std.specs.Prelude.{ℕ}
use Rattle.rock_status.specs.declared.status.Status.{Status}
use Rattle.rock_status.specs.declared.status.Status.TheVariants.{Done, Usage, Memory, SourceFault, SinkFault, DeviceFault, BadScript, Missing, Small, BadGeometry, Exists}

-- the code of a status. 1 is left to what the system makes of a program that breaks, and 10 is not used
abbrev pub code_of : Status → ℕ
code_of Done = 0
code_of Usage = 2
code_of Memory = 3
code_of SourceFault = 4
code_of SinkFault = 5
code_of DeviceFault = 6
code_of (BadScript line cause) = 7
code_of Missing = 8
code_of (Small bytes) = 8
code_of (BadGeometry field) = 8
code_of Exists = 9
