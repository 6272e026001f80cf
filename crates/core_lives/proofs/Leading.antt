-- From a sound life on all are sound.
use Rattle.std.proofs.Common.{◌≡◌, ℕ, zero, suc, ◌+◌, ◌<◌, List, [], ◌∷◌, length, refl, sym, ap, ◌∙◌, subst, arith}
use mathlib.Core.Option.{some, some-injective}
use lib.ListN.{get_elem?}
use Rattle.core_model.proofs.Lists.{at_length}
use Rattle.core_state.specs.declared.act.Step.{Step}
use Rattle.core_lives.specs.Along.{LeadsThrough}
use Rattle.core_lives.specs.Lived.{IsSoundLife, Lived}
use Rattle.core_lives.proofs.Living.{happens_sound}

pub there : {X : Type 0} → (xs : List X) (i : ℕ) → i < length xs → (x : X) × (get_elem? xs i ≡ some x)
there [] i h = absurd (omega arith)
there (x ∷ xs) zero h = (x, refl)
there (x ∷ xs) (suc i) h = there xs i (omega arith)

pub all_sound : (steps : List Step) (lives : List Lived) (from : Lived) → LeadsThrough steps lives → get_elem? lives 0 ≡ some from → IsSoundLife from
    → (i : ℕ) (l : Lived) → get_elem? lives i ≡ some l → IsSoundLife l
all_sound steps lives from leads first so zero l at = subst IsSoundLife (some-injective from l (sym first ∙ at)) so
all_sound steps lives from leads first so (suc i) l at =
    let lt = at_length lives (suc i) l at in
    let count = leads.count in
    let was = there lives i (omega arith) in
    let made = there steps i (omega arith) in
    let more : suc i ≡ i + 1 = omega arith in
    let follows = leads.follows i made.0 was.0 l made.1 was.1 (ap (get_elem? lives) (sym more) ∙ at) in
    happens_sound was.0 l made.0 follows.1.0 (all_sound steps lives from leads first so i was.0 was.1) follows.0 follows.1.1
