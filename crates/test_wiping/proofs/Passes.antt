-- A pass keeps its number, whatever a durable purge comes to.
use Rattle.std.proofs.Common.{Bool, List, ap, inl, inr, subst, ◌≡◌, ◌∙◌, ℕ}
use Rattle.std.specs.Prelude.{Err, IfErr, IfOk, Ok, Result}
use Rattle.lock_word.specs.declared.epoch.Epoch.{Epoch}
use Rattle.lock_word.specs.declared.cause.Cause.{Cause}
use Rattle.core_model.specs.TableForms.{with_wiper}
use Rattle.core_model.specs.Tabs.{inner}
use Rattle.core_model.specs.declared.moves.Move.{Move}
use Rattle.core_model.specs.declared.tab.Tab.{Tab}
use Rattle.core_model.specs.declared.tab.Turn.TheVariants.{Has}
use Rattle.core_model.specs.declared.view.View.{View}
use Rattle.store_rule.specs.Ground.{Ground}
use Rattle.store_rule.specs.Told.{Steps}
use Rattle.store_rule.specs.Turns.{IsReturned, new_hold}
use Rattle.rw_anchor.specs.Calls.{Leaves}
use Rattle.rw_anchor.specs.declared.Left.{Left}
use Rattle.slice_chain.specs.Names.{KeyLoaded}
use Rattle.slice_chain.specs.Wiping.{WipedSlot}
use Rattle.rock_reader.specs.Closing.{Parted}
use Rattle.rock_reader.specs.Opening.{Refused}
use Rattle.purge_entry.specs.Purging.{Purged}
use Rattle.purge_entry.specs.Wiping.{FaultTells, WipedAsLast, WipedTells}
use Rattle.purge_entry.specs.declared.wiping.Wiped.{Wiped}
use Rattle.purge_entry.specs.declared.wiping.WipeFault.{WipeFault}

module _ {X : Type 0} (g : Ground X) where
  by_step : (v w : View X) (m : Move) (n : ℕ) → Steps g v m n w → w.pass ≡ v.pass
  by_step v w m n st = ap View.pass st.leaves

  by_key : (v w : View X) (t : ℕ) (key : List ℕ) → KeyLoaded g t v key w → w.pass ≡ v.pass
  by_key v w t key h = by_step h.middle w _ _ h.back ∙ by_step v h.middle _ _ h.front

  by_leaving : (v w : View X) (t : ℕ) (left : Left) → Leaves g v t left w → w.pass ≡ v.pass
  by_leaving v w t left (inl h) = by_step v w _ _ h.1.evict
  by_leaving v w t left (inr (off, inl h)) = by_step v w _ _ h.leave
  by_leaving v w t left (inr (off, inr h)) = by_step h.middle w _ _ h.gives_up.evict ∙ by_step v h.middle _ _ h.leave

  by_parting : (v w : View X) (t : ℕ) → Parted g t v w → w.pass ≡ v.pass
  by_parting v w t (inl h) = by_leaving v w t Left.Done h.leaves
  by_parting v w t (inr h) = h.freed.went.pass ∙ by_leaving v h.middle t Left.MustFree h.leaves

  by_refusal : (v w : View X) (t : ℕ) (url : List ℕ) (cause : Cause) → Refused g t url v cause w → w.pass ≡ v.pass
  by_refusal v w t url cause (inl h) = by_parting h.entered w t h.parted ∙ by_step v h.entered _ _ h.came.enter
  by_refusal v w t url cause (inr h) = by_parting h.declined.keyed w t h.declined.parted ∙ by_key h.entered h.declined.keyed t h.declined.key h.declined.loaded ∙ by_step v h.entered _ _ h.came.enter

  by_purge : (v w : View X) (t : ℕ) (url : List ℕ) (left : Epoch) → Purged g t url v left w → w.pass ≡ v.pass
  by_purge v w t url left h = by_parting h.entry.after w t h.entry.parted ∙ by_step h.entry.keyed h.entry.after _ _ h.entry.doom ∙ by_key h.entered h.entry.keyed t _ h.entry.key ∙ by_step v h.entered _ _ h.came.enter

  by_slot : (v w : View X) (slot : ℕ) (done : Bool) → WipedSlot g slot v done w → w.pass ≡ v.pass
  by_slot v w slot done h = by_step h.from w _ _ h.ended ∙ ap View.pass back ∙ by_step v h.middle _ _ h.tried
    where
      back : h.from ≡ with_wiper h.middle inner (record h.freer { turn = Has (new_hold slot h.out.before) }) (new_hold slot h.cell)
      back = subst (λ (x : Tab X). IsReturned g.setting x inner slot h.cell h.middle h.from) h.out.held h.returned

  by_wipe : (v w : View X) (t : ℕ) (url : List ℕ) (done : Bool) (left : Epoch) → WipedAsLast g t url done v left w → w.pass ≡ v.pass
  by_wipe v w t url done left h = let x = h.entry in let y = x.ends in
      y.freed.went.pass ∙ by_slot y.wiped.started y.blanked y.wiped.slot done y.wiped.wiped ∙ by_step x.last y.wiped.started _ _ y.wiped.loads ∙ by_leaving x.after x.last t Left.MustFree x.leaves
      ∙ by_step x.keyed x.after _ _ x.doom ∙ by_key h.entered x.keyed t _ x.key ∙ by_step v h.entered _ _ h.came.enter

  pub keeps_number : (v w : View X) (url : List ℕ) (answer : Result Wiped WipeFault) → IfOk answer (WipedTells g url v w) → IfErr answer (FaultTells g url v w) → w.pass ≡ v.pass
  keeps_number v w url (Ok (Wiped.Gone epoch)) ok err = by_wipe v w inner url _ epoch ok
  keeps_number v w url (Ok (Wiped.Later epoch)) ok err = by_purge v w inner url epoch ok.purged
  keeps_number v w url (Err (WipeFault.NoEntry cause)) ok err = by_refusal v w inner url cause err
  keeps_number v w url (Err WipeFault.Fault) ok err = by_wipe v w inner url _ err.0 err.1
