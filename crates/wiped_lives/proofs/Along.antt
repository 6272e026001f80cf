-- Along a list of steps, crashes and rebuilds what holds of wiped slots holds.
use Rattle.std.proofs.Common.{◌≡◌, ℕ, zero, suc, ◌+◌, ◌<◌, ◌^◌, List, sym, ap, ◌∙◌, subst, arith}
use mathlib.Core.Option.{some, some-injective}
use lib.ListN.{get_elem?}
use Rattle.rebuild_model.specs.declared.image.FileImage.{FileImage}
use Rattle.core_model.specs.Layout.{Setting}
use Rattle.core_model.proofs.Lists.{at_length}
use Rattle.core_log.proofs.LogOpened.{no_log}
use Rattle.core_table.specs.declared.content.Content.{Content}
use Rattle.core_table.specs.Machine.{Machine, setting_of, state_of}
use Rattle.core_state.specs.declared.act.Act.{Act}
use Rattle.core_state.specs.declared.act.Step.{Step}
use Rattle.core_state.specs.declared.act.Step.TheVariants as step
use Rattle.core_wiped.specs.Wipes.{HasWipes}
use Rattle.core_wiped.proofs.HasWipes.{wipes_after, wipes_opened}
use Rattle.core_lives.specs.Along.{LeadsThrough}
use Rattle.core_lives.specs.Happening.{Happens, IsActed, IsNewLife}
use Rattle.core_lives.specs.Lived.{IsSoundLife, Lived}
use Rattle.core_lives.proofs.Leading.{all_sound, there}
use Rattle.core_lives.proofs.Living.{same_setting}

abbrev pub Keeps : Lived → Type 0
Keeps l = HasWipes (setting_of l.core) (state_of l.core)

low : (l : Lived) → IsSoundLife l → l.core.slots < 2 ^ 32
low l so = let few = so.file.few in let n = so.slots in omega arith

-- a core that was just opened
pub new_keeps : (file : FileImage) (anchors passes : ℕ) (l : Lived) → IsNewLife file anchors passes l → IsSoundLife l → Keeps l
new_keeps file anchors passes l new so = wipes_opened (setting_of l.core) new.core.rebuilt
    (state_of l.core) so.sound.anchors.setting new.core.opened
    (no_log (setting_of l.core) new.core.rebuilt (state_of l.core) so.sound.anchors.setting new.core.opened so.sound (low l so))

acted : (l then : Lived) (act : Act) (number : ℕ) → IsSoundLife l → Keeps l → IsActed l (step.Act act) number then → Keeps then
acted l then act number so keeps h = let is = h.made.2 in
    subst (λ (k : Setting Content). HasWipes k (state_of then.core)) (sym (same_setting l.core then.core h.same_store))
    (subst (HasWipes (setting_of l.core)) (sym is.leaves)
    (wipes_after (setting_of l.core) (state_of l.core) so.logs.log so.sound so.logs.stands keeps act.pass is.view h.made.0 is.at is.may))

happens : (l then : Lived) (s : Step) (number : ℕ) → IsSoundLife l → IsSoundLife then → Keeps l → Happens l s number then → Keeps then
happens l then (step.Act act) number so after keeps h = acted l then act number so keeps h
happens l then (step.Crash picks) number so after keeps h = subst
    (λ (m : Machine). HasWipes (setting_of m) (state_of m)) (sym h.1.core) keeps
happens l then step.Rebuild number so after keeps h = let o = h.1.opened.opened in
    wipes_opened (setting_of then.core) h.1.rebuilt (state_of then.core) after.sound.anchors.setting o
    (no_log (setting_of then.core) h.1.rebuilt (state_of then.core) after.sound.anchors.setting o after.sound (low then after))

pub all_keep : (steps : List Step) (lives : List Lived) (from : Lived) → LeadsThrough steps lives → get_elem? lives 0 ≡ some from
    → IsSoundLife from → Keeps from
    → (i : ℕ) (l : Lived) → get_elem? lives i ≡ some l → Keeps l
all_keep steps lives from leads first so keeps zero l at = subst Keeps (some-injective from l (sym first ∙ at)) keeps
all_keep steps lives from leads first so keeps (suc i) l at =
    let lt = at_length lives (suc i) l at in
    let count = leads.count in
    let was = there lives i (omega arith) in
    let made = there steps i (omega arith) in
    let more : suc i ≡ i + 1 = omega arith in
    let follows = leads.follows i made.0 was.0 l made.1 was.1 (ap (get_elem? lives) (sym more) ∙ at) in
    happens was.0 l made.0 follows.1.0 (all_sound steps lives from leads first so i was.0 was.1)
    (all_sound steps lives from leads first so (suc i) l at)
    (all_keep steps lives from leads first so keeps i was.0 was.1) follows.1.1
