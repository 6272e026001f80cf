use Rattle.std.proofs.Common.{subst}
use Rattle.core_model.specs.Sound.{Sound}
use Rattle.core_table.specs.Machine.{Machine, setting_of, state_of}
use Rattle.core_state.proofs.Applying.{still_sound}
use Rattle.core_state.proofs.machine.Core.apply.Goals as goal

pub returns-in-Crash-clause-sound : goal.returns-in-Crash-clause-sound
returns-in-Crash-clause-sound c = subst (λ (m : Machine). Sound (setting_of m) (state_of m)) c.self.view_is c.self.invariant

pub returns-in-Rebuild-clause-sound : goal.returns-in-Rebuild-clause-sound
returns-in-Rebuild-clause-sound c = subst (λ (m : Machine). Sound (setting_of m) (state_of m)) c.self.view_is c.self.invariant

pub returns-in_default-clause-sound : goal.returns-in_default-clause-sound
returns-in_default-clause-sound c = subst (λ (m : Machine). Sound (setting_of m) (state_of m)) c.self.view_is c.self.invariant

pub invariant_of-self : goal.invariant_of-self
invariant_of-self c = still_sound _ _ _ _ _ c.make.result c.self.invariant c.make.ensures.made c.make.ensures.unchanged

pub returns-clause-sound : goal.returns-clause-sound
returns-clause-sound c = still_sound _ _ _ _ _ c.make.result c.self.invariant c.make.ensures.made c.make.ensures.unchanged
