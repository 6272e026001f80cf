-- What the plain store has at an anchor that is opened on what a rebuild keeps: the entry that is kept there, or nothing.
use Rattle.std.proofs.Common.{Bool, Contains, List, [], arith, false, inl, inr, map, refl, suc, true, ⊎_elim, ◌<◌, ◌∷◌, ◌≡◌, ◌⊎◌, ℕ}
use Rattle.std.specs.Prelude.{None, Some, ◌==◌}
use Rattle.std.proofs.lemmas.Bool.Decides.{nat_tests}
use Rattle.std.proofs.lemmas.List.FromFn.{get_or-map-range_with_len}
use Rattle.store_key.specs.Anchor.{anchor_of}
use Rattle.rebuild_model.specs.Entry.{Entry}
use Rattle.core_model.proofs.Lists.{cons_contains, contains_none}
use Rattle.plain_model.specs.declared.kept.Kept.{Kept}
use Rattle.plain_model.specs.Opening.{kept_at, kept_of, opened, place_kept}
use Rattle.plain_model.specs.Place.{nothing}
use Rattle.plain_model.specs.Store.{place_at}

module _ (images : List (List ℕ)) (anchors a : ℕ) where
  -- one of these entries has the anchor, and is what is kept there
  pub record HasOne (es : List Entry) : Type 0 where
    pub entry : Entry
    pub among : Contains es entry
    pub at : anchor_of entry.key anchors ≡ a
    pub is : kept_at anchors (map (kept_of images) es) a ≡ Some (kept_of images entry)

  -- none has it
  pub record HasNone (es : List Entry) : Type 0 where
    pub none : (e : Entry) → Contains es e → anchor_of e.key anchors ≡ a → ⊥
    pub is : kept_at anchors (map (kept_of images) es) a ≡ None

  one_or_none : (e : Entry) (es : List Entry) (b : Bool) → (anchor_of e.key anchors == a) ≡ b → HasOne es ⊎ HasNone es → HasOne (e ∷ es) ⊎ HasNone (e ∷ es)
  one_or_none e es true test rest = inl record { entry = e; among = (0, omega arith, refl); at = grind (arith, nat_tests); is = rw test refl }
  one_or_none e es false test (inl h) = inl record {
    entry = h.entry;
    among = (suc h.among.0, (let z = h.among.1 in omega arith), h.among.2);
    at = h.at;
    is = rw test h.is;
  }
  one_or_none e es false test (inr h) = inr record {
    none = λ f among at. ⊎_elim
        (λ (same : e ≡ f). let here : anchor_of e.key anchors ≡ a = (rw same at) in let k : true ≡ false = (grind (arith, nat_tests)) in absurd (cc))
        (λ (later : Contains es f). h.none f later at)
        (cons_contains e f es among);
    is = rw test h.is;
  }

  pub one_kept : (es : List Entry) → HasOne es ⊎ HasNone es
  one_kept [] = inr record { none = λ e among at. contains_none e among; is = refl }
  one_kept (e ∷ es) = one_or_none e es (anchor_of e.key anchors == a) refl (one_kept es)

-- what stands at an anchor of a store that is opened so
pub opened_place : (anchors : ℕ) (kept : List Kept) (greatest a : ℕ) → a < anchors → place_at (opened anchors kept greatest) a ≡ place_kept (kept_at anchors kept a)
opened_place anchors kept greatest a lt = get_or-map-range_with_len (λ (b : ℕ). place_kept (kept_at anchors kept b)) 0 anchors a a nothing lt (omega arith)
