-- When a file is made.
use Rattle.std.proofs.Common.{inl, inr, ℕ, List, refl}
use Rattle.rock_disk.specs.Counts.{Counts, HasFailed}
use Rattle.rock_disk.specs.File.{Files}
use Rattle.file_commands.specs.Create.{CreateEnds, CreateSays, MayCreate}
use Rattle.file_commands.specs.Report.{ReportsOrLacksMemory}
use Rattle.rock_status.specs.declared.status.Status.{Status}
use Rattle.rock_status.specs.declared.status.Status.TheVariants.{Done, Usage, Memory, SourceFault, SinkFault, DeviceFault, BadScript}
use Rattle.rock_status.specs.declared.status.Status.TheVariants.{Missing, Small, BadGeometry, Exists}

-- where nothing refuses the command and the disk did not fail, it is done, unless memory ran out
pub complete_create : (files : Files) (name : List ℕ) (slot slots : ℕ) (c c' : Counts) (status : Status) → CreateEnds slot slots c c' status
    → CreateSays files name status → MayCreate files name slot slots → ¬ HasFailed c c'
    → ReportsOrLacksMemory status
complete_create files name slot slots c c' Done ends says may none = inl refl
complete_create files name slot slots c c' Usage ends says may none = absurd ends
complete_create files name slot slots c c' Memory ends says may none = inr refl
complete_create files name slot slots c c' SourceFault ends says may none = absurd ends
complete_create files name slot slots c c' SinkFault ends says may none = absurd ends
complete_create files name slot slots c c' DeviceFault ends says may none = absurd (none ends.1)
complete_create files name slot slots c c' (BadScript line cause) ends says may none = absurd ends
complete_create files name slot slots c c' Missing ends says may none = absurd says
complete_create files name slot slots c c' (Small bytes) ends says may none = absurd says
complete_create files name slot slots c c' (BadGeometry field) (inl ends) says may none = absurd (ends.1 may.geometry.size)
complete_create files name slot slots c c' (BadGeometry field) (inr ends) says may none = absurd (ends.2 may.geometry.count)
complete_create files name slot slots c c' Exists ends says may none = absurd (may.free says)
