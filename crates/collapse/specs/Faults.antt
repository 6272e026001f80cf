-- What becomes of counts of faults, by the answer.
use Rattle.std.specs.Prelude.{◌≡◌, ◌⊎◌, ℕ}
use Rattle.rock_io.specs.Faults.{Rose}
use Rattle.rock_writer.specs.declared.fault.WriteFault.{WriteFault}
use Rattle.rock_writer.specs.declared.fault.WriteFault.TheVariants as write
use Rattle.collapse.specs.declared.answer.Forwarded.{Forwarded}
use Rattle.collapse.specs.declared.answer.Forwarded.TheVariants.{Direct, Fault, FetchFault, SinkFault}
use Rattle.collapse.specs.declared.answer.Why.{Why}
use Rattle.collapse.specs.declared.answer.Why.TheVariants.{Begin, OtherUrl, Write}
use Rattle.collapse.specs.declared.following.Followed.{Followed}
use Rattle.collapse.specs.declared.following.Followed.TheVariants as followed
use Rattle.collapse.specs.declared.sending.Sent.{Sent}
use Rattle.collapse.specs.declared.sending.Sent.TheVariants as sent
use Rattle.collapse.specs.declared.writing.Kept.{Kept}
use Rattle.collapse.specs.declared.writing.Kept.TheVariants as kept

-- a count is as it was, or it rose
abbrev pub MayRise : ℕ → ℕ → Type 0
MayRise before after = (after ≡ before) ⊎ Rose before after

-- an entry was not written for this cause: the station's count rose exactly at its fault
abbrev pub StationAtWrite : WriteFault → ℕ → ℕ → Type 0
StationAtWrite write.Large before after = after ≡ before
StationAtWrite write.Full before after = after ≡ before
StationAtWrite write.Fault before after = Rose before after

abbrev pub StationAtWhy : Why → ℕ → ℕ → Type 0
StationAtWhy (Begin fault) before after = after ≡ before
StationAtWhy (Write fault) before after = StationAtWrite fault before after
StationAtWhy OtherUrl before after = after ≡ before

-- The station's count rose where it failed to read or to write. Where the fetcher or the sink failed, it may have failed to write before.
abbrev pub StationAt : Forwarded → ℕ → ℕ → Type 0
StationAt (Direct why) before after = StationAtWhy why before after
StationAt Fault before after = Rose before after
StationAt FetchFault before after = MayRise before after
StationAt SinkFault before after = MayRise before after
StationAt _ before after = after ≡ before

-- the fetcher's count rose at its fault, and only there
abbrev pub FetcherAt : Forwarded → ℕ → ℕ → Type 0
FetcherAt FetchFault before after = Rose before after
FetcherAt _ before after = after ≡ before

-- and so did the sink's
abbrev pub SinkAt : Forwarded → ℕ → ℕ → Type 0
SinkAt SinkFault before after = Rose before after
SinkAt _ before after = after ≡ before

-- the same of the parts of forwarding
abbrev pub StationAtFollowed : Followed → ℕ → ℕ → Type 0
StationAtFollowed followed.Fault before after = Rose before after
StationAtFollowed _ before after = after ≡ before

abbrev pub SinkAtFollowed : Followed → ℕ → ℕ → Type 0
SinkAtFollowed followed.SinkFault before after = Rose before after
SinkAtFollowed _ before after = after ≡ before

abbrev pub FetcherAtSent : Sent → ℕ → ℕ → Type 0
FetcherAtSent sent.FetchFault before after = Rose before after
FetcherAtSent _ before after = after ≡ before

abbrev pub SinkAtSent : Sent → ℕ → ℕ → Type 0
SinkAtSent sent.SinkFault before after = Rose before after
SinkAtSent _ before after = after ≡ before

abbrev pub StationAtKept : Kept → ℕ → ℕ → Type 0
StationAtKept (kept.Refused fault) before after = StationAtWrite fault before after
StationAtKept _ before after = after ≡ before

abbrev pub FetcherAtKept : Kept → ℕ → ℕ → Type 0
FetcherAtKept kept.FetchFault before after = Rose before after
FetcherAtKept _ before after = after ≡ before

abbrev pub SinkAtKept : Kept → ℕ → ℕ → Type 0
SinkAtKept kept.SinkFault before after = Rose before after
SinkAtKept _ before after = after ≡ before
