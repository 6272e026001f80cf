-- A tab of the pass is as the plain store has it.
use Rattle.std.proofs.Common.{Bool, inl, inr, refl, subst, sym, ◌∙◌, ◌≡◌, ◌⊎◌, ℕ}
use Rattle.rock_disk.specs.Cell.{CellState}
use Rattle.script_text.specs.declared.answer.Answer.{Answer}
use Rattle.plain_model.specs.declared.store.Plain.{Plain}
use Rattle.plain_model.specs.declared.store.Tab.{Tab}
use Rattle.plain_model.specs.declared.store.Tab.TheVariants.{Free, Reading, Writing}
use Rattle.plain_model.specs.Store.{tab_at}
use Rattle.store_rule.specs.declared.store.Pass.{Pass}
use Rattle.store_rule.specs.declared.store.Store.{Store}
use Rattle.store_rule.specs.Ground.{Offers}
use Rattle.store_serve.specs.Tabs.{IsFree, IsMet, IsReading, IsTurnedAway, IsWriting}
use Rattle.plain_runs.specs.Shows.{ShowsReading, ShowsTab, ShowsWriting}

module _ {C O : Type 0} (tells : Bool) (state : C → CellState) (offers : O → Offers) (s : Store C O) (rename : ℕ → ℕ) (p : Pass C) (plain : Plain) (t : ℕ) where
  pub writes_not_free : (a : ℕ) → ShowsWriting tells state offers s rename p plain t a → IsFree p t → ⊥
  writes_not_free a w free = let k = sym w.writes.rests.is ∙ free in cc

  pub reads_not_free : (a given : ℕ) (is_other : Bool) → ShowsReading tells state offers s rename p plain t a given is_other → IsFree p t → ⊥
  reads_not_free a given is_other r free = let k = sym r.reads.is ∙ free in cc

  pub reads_not_writing : (a given : ℕ) (is_other : Bool) → ShowsReading tells state offers s rename p plain t a given is_other → IsWriting tells state offers s p t → ⊥
  reads_not_writing a given is_other r w = let k = sym r.reads.is ∙ w.1.rests.is in cc

  pub writes_not_reading : (a : ℕ) → ShowsWriting tells state offers s rename p plain t a → IsReading tells state offers s p t → ⊥
  writes_not_reading a w r = let k = sym r.1.is ∙ w.writes.rests.is in cc

  pub free_not_writing : IsFree p t → IsWriting tells state offers s p t → ⊥
  free_not_writing free w = let k = sym w.1.rests.is ∙ free in cc

  pub free_not_reading : IsFree p t → IsReading tells state offers s p t → ⊥
  free_not_reading free r = let k = sym r.1.is ∙ free in cc

  -- A request asks for a free tab, for one that writes, or for one that reads, and is turned away by any other.
  module _ (shown : ShowsTab tells state offers s rename p plain t (tab_at plain t)) (a : Answer) (q : Pass C) (Met : Type 0) where
    shown_as : {x : Tab} → tab_at plain t ≡ x → ShowsTab tells state offers s rename p plain t x
    shown_as is = subst (ShowsTab tells state offers s rename p plain t) is shown

    pub of_free : {R : Type 0} → IsMet (IsFree p t) Met p a q → (tab_at plain t ≡ Free → Met → R) → ((at : ℕ) → tab_at plain t ≡ Writing at → IsTurnedAway p a q → R)
        → ((at given : ℕ) (is_other : Bool) → tab_at plain t ≡ Reading at given is_other → IsTurnedAway p a q → R) → R
    of_free {R} met right writes reads = of_tab (tab_at plain t) refl met.met
      where
        of_tab : (x : Tab) → tab_at plain t ≡ x → ((IsFree p t) × Met) ⊎ ((IsFree p t → ⊥) × IsTurnedAway p a q) → R
        of_tab Free is (inl m) = right is m.1
        of_tab Free is (inr m) = absurd (m.0 (shown_as is))
        of_tab (Writing at) is (inl m) = absurd (writes_not_free at (shown_as is) m.0)
        of_tab (Writing at) is (inr m) = writes at is m.1
        of_tab (Reading at given is_other) is (inl m) = absurd (reads_not_free at given is_other (shown_as is) m.0)
        of_tab (Reading at given is_other) is (inr m) = reads at given is_other is m.1

    pub of_writer : {R : Type 0} → IsMet (IsWriting tells state offers s p t) Met p a q → ((at : ℕ) → tab_at plain t ≡ Writing at → Met → R) → (tab_at plain t ≡ Free → IsTurnedAway p a q → R)
        → ((at given : ℕ) (is_other : Bool) → tab_at plain t ≡ Reading at given is_other → IsTurnedAway p a q → R) → R
    of_writer {R} met right free reads = of_tab (tab_at plain t) refl met.met
      where
        of_tab : (x : Tab) → tab_at plain t ≡ x → ((IsWriting tells state offers s p t) × Met) ⊎ ((IsWriting tells state offers s p t → ⊥) × IsTurnedAway p a q) → R
        of_tab Free is (inl m) = absurd (free_not_writing (shown_as is) m.0)
        of_tab Free is (inr m) = free is m.1
        of_tab (Writing at) is (inl m) = right at is m.1
        of_tab (Writing at) is (inr m) = let w : ShowsWriting tells state offers s rename p plain t at = shown_as is in absurd (m.0 (w.written, w.writes))
        of_tab (Reading at given is_other) is (inl m) = absurd (reads_not_writing at given is_other (shown_as is) m.0)
        of_tab (Reading at given is_other) is (inr m) = reads at given is_other is m.1

    pub of_reader : {R : Type 0} → IsMet (IsReading tells state offers s p t) Met p a q → ((at given : ℕ) (is_other : Bool) → tab_at plain t ≡ Reading at given is_other → Met → R) → (tab_at plain t ≡ Free → IsTurnedAway p a q → R)
        → ((at : ℕ) → tab_at plain t ≡ Writing at → IsTurnedAway p a q → R) → R
    of_reader {R} met right free writes = of_tab (tab_at plain t) refl met.met
      where
        of_tab : (x : Tab) → tab_at plain t ≡ x → ((IsReading tells state offers s p t) × Met) ⊎ ((IsReading tells state offers s p t → ⊥) × IsTurnedAway p a q) → R
        of_tab Free is (inl m) = absurd (free_not_reading (shown_as is) m.0)
        of_tab Free is (inr m) = free is m.1
        of_tab (Writing at) is (inl m) = absurd (writes_not_reading at (shown_as is) m.0)
        of_tab (Writing at) is (inr m) = writes at is m.1
        of_tab (Reading at given is_other) is (inl m) = right at given is_other is m.1
        of_tab (Reading at given is_other) is (inr m) = let r : ShowsReading tells state offers s rename p plain t at given is_other = shown_as is in absurd (m.0 (r.standing, r.reads))
