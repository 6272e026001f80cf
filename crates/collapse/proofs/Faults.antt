-- Counts of faults, by the answers of calls.
use Rattle.std.proofs.Common.{ap, inl, inr, refl, subst, sym, ◌≡◌, ℕ}
use Rattle.std.specs.Prelude.{Err, IsErrOf, Result}
use Rattle.rock_io.specs.Faults.{Rose}
use Rattle.rock_writer.specs.declared.fault.WriteFault.{WriteFault}
use Rattle.rock_writer.specs.declared.fault.WriteFault.TheVariants as write
use Rattle.collapse.specs.Faults.{MayRise, StationAt, StationAtWhy, StationAtWrite}
use Rattle.collapse.specs.Forwarding.{ComesPast}
use Rattle.collapse.specs.declared.answer.Forwarded.{Forwarded}
use Rattle.collapse.specs.declared.answer.Forwarded.TheVariants.{Direct, Fault, FetchFault, Fetched, Halted, Hit, SinkFault, Waited}
use Rattle.collapse.specs.declared.answer.Why.{Why}

same_error : {T E : Type 0} {f g : E} → ◌≡◌ {A = Result T E} (Err f) (Err g) → f ≡ g
same_error e = cc

-- an error is one of every such result
pub error_as : {T U E : Type 0} {f g : E} → IsErrOf {T = T} (Err f) g → IsErrOf {T = U} (Err f) g
error_as w = ap Err (same_error w)

-- what became of the count where a call was refused for this cause
pub at_write : {T : Type 0} (fault : WriteFault) (before after : ℕ) → ((IsErrOf {T = T} (Err fault) write.Fault → ⊥) → after ≡ before) → (IsErrOf {T = T} (Err fault) write.Fault → Rose before after) → StationAtWrite fault before after
at_write write.Large before after not is = not (λ w. let e = same_error w in cc)
at_write write.Full before after not is = not (λ w. let e = same_error w in cc)
at_write write.Fault before after not is = is refl

pub may_rise : (fault : WriteFault) (before after : ℕ) → StationAtWrite fault before after → MayRise before after
may_rise write.Large before after h = inl h
may_rise write.Full before after h = inl h
may_rise write.Fault before after h = inr h

-- where nothing was stored, the count is as it was when that was known
pub past : (why : Why) (r : Forwarded) (before after : ℕ) → ComesPast why r → StationAtWhy why before after → MayRise before after → StationAt r before after
past why (Direct cause) before after is h may = subst (λ (z : Why). StationAtWhy z before after) (sym is) h
past why FetchFault before after is h may = may
past why SinkFault before after is h may = may
past why (Hit version) before after is h may = absurd is
past why (Fetched version) before after is h may = absurd is
past why Halted before after is h may = absurd is
past why Fault before after is h may = absurd is
past why (Waited looks) before after is h may = absurd is
