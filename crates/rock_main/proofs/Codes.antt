-- Which status a code stands for.
use Rattle.std.proofs.Common.{◌≡◌, refl, arith}
use Rattle.rock_status.specs.Status.{code_of}
use Rattle.rock_status.specs.declared.status.Status.{Status}
use Rattle.rock_status.specs.declared.status.Status.TheVariants.{Done, Usage, Memory, SourceFault, SinkFault, DeviceFault, BadScript}
use Rattle.rock_status.specs.declared.status.Status.TheVariants.{Missing, Small, BadGeometry, Exists}

pub of_usage : (status : Status) → code_of status ≡ 2 → status ≡ Usage
of_usage Done is = absurd (omega (arith, is))
of_usage Usage is = refl
of_usage Memory is = absurd (omega (arith, is))
of_usage SourceFault is = absurd (omega (arith, is))
of_usage SinkFault is = absurd (omega (arith, is))
of_usage DeviceFault is = absurd (omega (arith, is))
of_usage (BadScript line cause) is = absurd (omega (arith, is))
of_usage Missing is = absurd (omega (arith, is))
of_usage (Small bytes) is = absurd (omega (arith, is))
of_usage (BadGeometry field) is = absurd (omega (arith, is))
of_usage Exists is = absurd (omega (arith, is))

pub of_source_fault : (status : Status) → code_of status ≡ 4 → status ≡ SourceFault
of_source_fault Done is = absurd (omega (arith, is))
of_source_fault Usage is = absurd (omega (arith, is))
of_source_fault Memory is = absurd (omega (arith, is))
of_source_fault SourceFault is = refl
of_source_fault SinkFault is = absurd (omega (arith, is))
of_source_fault DeviceFault is = absurd (omega (arith, is))
of_source_fault (BadScript line cause) is = absurd (omega (arith, is))
of_source_fault Missing is = absurd (omega (arith, is))
of_source_fault (Small bytes) is = absurd (omega (arith, is))
of_source_fault (BadGeometry field) is = absurd (omega (arith, is))
of_source_fault Exists is = absurd (omega (arith, is))

pub of_sink_fault : (status : Status) → code_of status ≡ 5 → status ≡ SinkFault
of_sink_fault Done is = absurd (omega (arith, is))
of_sink_fault Usage is = absurd (omega (arith, is))
of_sink_fault Memory is = absurd (omega (arith, is))
of_sink_fault SourceFault is = absurd (omega (arith, is))
of_sink_fault SinkFault is = refl
of_sink_fault DeviceFault is = absurd (omega (arith, is))
of_sink_fault (BadScript line cause) is = absurd (omega (arith, is))
of_sink_fault Missing is = absurd (omega (arith, is))
of_sink_fault (Small bytes) is = absurd (omega (arith, is))
of_sink_fault (BadGeometry field) is = absurd (omega (arith, is))
of_sink_fault Exists is = absurd (omega (arith, is))
