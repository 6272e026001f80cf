-- What the end of a writing tells.
use Rattle.std.proofs.Common.{◌≡◌, ◌⊎◌, inl, inr, ◌∙◌, ℕ, ◌+◌, [], ◌∷◌, refl, subst, Bool, true, false}
use Rattle.std.specs.Prelude.{Option, Some, None}
use Rattle.script_text.specs.declared.answer.Answer.{Answer}
use Rattle.plain_model.specs.declared.entry.Entry.{Entry}
use Rattle.plain_model.specs.declared.store.Setting.{Setting}
use Rattle.plain_model.specs.declared.store.Tab.{Tab}
use Rattle.plain_model.specs.declared.store.Tab.TheVariants.{Free, Writing, Reading}
use Rattle.plain_model.specs.declared.store.Plain.{Plain}
use Rattle.plain_model.specs.declared.store.Refusal.{Refusal}
use Rattle.plain_model.specs.declared.store.Refusal.TheVariants.{Full, Large}
use Rattle.plain_model.specs.Store.{place_at, entry_at, tab_at}
use Rattle.plain_model.specs.Slots.{Grown}
use Rattle.plain_model.specs.Writing.{Step, unless_refused, finish, last_slot, append, lacking, end}
use Rattle.plain_laws.specs.Begun.{told_stored}
use Rattle.plain_laws.proofs.Keeping.{keeps_append, keeps_last_slot}

-- the answer tells no version, or this one
abbrev pub TellsAtMost : ℕ → Answer → Type 0
TellsAtMost version a = (told_stored a ≡ []) ⊎ (told_stored a ≡ version ∷ [])

finish_tells : (tab a : ℕ) (q : Plain) (b : Bool) → (place_at q a).doom ≡ b → TellsAtMost (place_at q a).version (finish tab a q).answer
finish_tells tab a q true e = rw e (inr refl)
finish_tells tab a q false e = rw e (inr refl)

unless_tells : (version tab a : ℕ) (next : Plain → Step) (g : Grown) → TellsAtMost version (next g.store).answer
    → (o : Option Refusal) → g.refusal ≡ o → TellsAtMost version (unless_refused tab a next g).answer
unless_tells version tab a next g h None e = rw e h
unless_tells version tab a next g h (Some Full) e = rw e (inl refl)
unless_tells version tab a next g h (Some Large) e = rw e (inl refl)

finish_at : (version tab a : ℕ) (q : Plain) → (place_at q a).version ≡ version → TellsAtMost version (finish tab a q).answer
finish_at version tab a q h = subst (λ (v : ℕ). TellsAtMost v (finish tab a q).answer) h (finish_tells tab a q (place_at q a).doom refl)

end_to : (s : Setting) (version tab a : ℕ) (p : Plain) (o : Option Entry) → entry_at p a ≡ o → tab_at p tab ≡ Writing a → (Some_is : (x : Entry) → o ≡ Some x → (place_at p a).version ≡ version)
    → TellsAtMost version (end s tab p).answer
end_to s version tab a p None e t is = rw (t, e) (inl refl)
end_to s version tab a p (Some x) e t is = rw (t, e)
    (unless_tells version tab a (λ q. unless_refused tab a (finish tab a) (last_slot s (x.content + lacking x) q)) grown
    (unless_tells version tab a (finish tab a) (last_slot s (x.content + lacking x) grown.store)
    (finish_at version tab a (last_slot s (x.content + lacking x) grown.store).store
    (((keeps_last_slot s (x.content + lacking x) grown.store).places a).version ∙ (((keeps_append s a (lacking x) x.content p).places a).version ∙ is x refl)))
    (last_slot s (x.content + lacking x) grown.store).refusal refl)
    grown.refusal refl)
  where
    grown : Grown
    grown = append s a (lacking x) x.content p

pub end_tells : (s : Setting) (version tab : ℕ) (p : Plain) (t : Tab) → tab_at p tab ≡ t → ((a : ℕ) (x : Entry) → t ≡ Writing a → entry_at p a ≡ Some x → (place_at p a).version ≡ version)
    → TellsAtMost version (end s tab p).answer
end_tells s version tab p Free t is = rw t (inl refl)
end_tells s version tab p (Reading a g o) t is = rw t (inl refl)
end_tells s version tab p (Writing a) t is = end_to s version tab a p (entry_at p a) refl t (λ x e. is a x refl e)
