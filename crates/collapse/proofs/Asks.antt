-- The entry of a URL is asked for, one time behind the other.
use Rattle.std.proofs.Common.{Bool, List, [], ap, arith, inl, inr, length, refl, subst, sym, ◌+◌, ◌<◌, ◌∷◌, ◌≡◌, ◌∙◌, ℕ}
use Rattle.lock_word.specs.declared.cause.Cause.{Cause}
use Rattle.lock_word.specs.declared.cause.Cause.TheVariants.{Absent, Writing}
use Rattle.lock_word.specs.declared.epoch.Epoch.{Epoch}
use Rattle.lock_word.specs.declared.word.Word.{Word}
use Rattle.std.specs.Prelude.{◌≢◌}
use Rattle.rock_disk.specs.Cell.{CellState}
use Rattle.core_model.specs.Tabs.{inner, is_free}
use Rattle.store_rule.specs.declared.store.Pass.{Pass}
use Rattle.store_rule.specs.declared.store.Store.{Store}
use Rattle.store_rule.specs.Ground.{Offers, anchor_for}
use Rattle.store_rule.specs.Passes.{IsOf, basis, view}
use Rattle.rock_reader.specs.Opening.{MayOpen, Refused}
use Rattle.rock_writer.specs.Beginning.{MayBegin, NotTaken}
use Rattle.rock_writer.specs.declared.fault.BeginFault.{BeginFault}
use Rattle.rock_writer.specs.declared.fault.BeginFault.TheVariants.{Busy}
use Rattle.collapse.specs.Asking.{AskedIn, AskedNow, AskedOnly, IsInVain}
use Rattle.collapse.specs.declared.asking.Asked.{Asked}
use Rattle.collapse.specs.declared.asking.Asked.TheVariants.{Begun, InVain, NotBegun, Open}
use Rattle.collapse.proofs.Going.{same_tabs}
use Rattle.collapse.proofs.Numbers.{busy, refused}

module _ {C O : Type 0} (tells : Bool) (state : C → CellState) (offers : O → Offers) (s : Store C O) (t offer : ℕ) (url : List ℕ) where
  pub may_open : (p : Pass C) → MayBegin tells state offers s p t offer url → MayOpen tells state offers s p t url
  may_open p may = record { own = may.own; below = may.below; free = may.free; inner_free = may.inner_free; names = may.name }

  -- a pass that has the tabs and the number that it had may begin still
  pub may_still : (p q : Pass C) → MayBegin tells state offers s p t offer url → IsOf tells state offers s q → (view q).tabs ≡ (view p).tabs → (view q).pass ≡ (view p).pass → MayBegin tells state offers s q t offer url
  may_still p q may own tabs number = record {
    own = own;
    below = may.below;
    free = same_tabs (view p) (view q) tabs t ∙ may.free;
    inner_free = ap is_free (same_tabs (view p) (view q) tabs inner) ∙ may.inner_free;
    from = may.from;
    url_is = may.url_is;
    good = may.good;
    needed = may.needed;
    name = λ pass is. may.name pass is ∙ sym number;
  }

  -- also where an opening was refused
  pub may_refused : (p q : Pass C) (cause : Cause) → MayBegin tells state offers s p t offer url → IsOf tells state offers s q → (view q).tabs ≡ (view p).tabs → Refused (basis tells state offers s) t url (view p) cause (view q)
      → MayBegin tells state offers s q t offer url
  may_refused p q cause may own tabs h = may_still p q may own tabs (refused (basis tells state offers s) t url (view p) cause (view q) h)

  -- or it was in vain
  pub number_in_vain : (p q : Pass C) → IsInVain tells state offers s t offer url p q → (view q).pass ≡ (view p).pass
  number_in_vain p q (inl h) = refused (basis tells state offers s) t url (view p) (Writing h.epoch) (view q) h.refused
  number_in_vain p q (inr h) = busy (basis tells state offers s) t (anchor_for (basis tells state offers s) url) (view h.middle) (view q) h.looked h.found h.busy ∙ refused (basis tells state offers s) t url (view p) (Absent h.epoch) (view h.middle) h.refused

  pub may_in_vain : (p q : Pass C) → MayBegin tells state offers s p t offer url → IsOf tells state offers s q → (view q).tabs ≡ (view p).tabs → IsInVain tells state offers s t offer url p q → MayBegin tells state offers s q t offer url
  may_in_vain p q may own tabs h = may_still p q may own tabs (number_in_vain p q h)

  pub asked_none : (p : Pass C) (looks : ℕ) → looks ≡ 0 → AskedOnly tells state offers s t offer url p looks p
  asked_none p looks none = record { rounds = []; in_vain = refl; many = sym none }

  pub asked_on : (p u q : Pass C) (looks : ℕ) → AskedOnly tells state offers s t offer url p looks u → IsInVain tells state offers s t offer url u q → AskedOnly tells state offers s t offer url p (looks + 1) q
  asked_on p u q looks h again = record { rounds = q ∷ h.rounds; in_vain = (u, h.in_vain, again, refl); many = let m = h.many in omega arith }

  pub asked_in : (most : ℕ) (p u q : Pass C) (looks : ℕ) (asked : Asked) → AskedOnly tells state offers s t offer url p looks u → looks < most → asked ≢ InVain → AskedNow tells state offers s t offer url u q asked
      → AskedIn tells state offers s t offer url most p looks q asked
  asked_in most p u q looks (Open version) h fewer some now = (record { rounds = h.rounds; middle = u; in_vain = h.in_vain; many = h.many; last = now }, fewer)
  asked_in most p u q looks (Begun version) h fewer some now = (record { rounds = h.rounds; middle = u; in_vain = h.in_vain; many = h.many; last = now }, fewer)
  asked_in most p u q looks (NotBegun fault) h fewer some now = (record { rounds = h.rounds; middle = u; in_vain = h.in_vain; many = h.many; last = now }, fewer)
  asked_in most p u q looks InVain h fewer some now = absurd (some refl)

  pub found_writing : (p q : Pass C) (epoch : Epoch) → Refused (basis tells state offers s) t url (view p) (Writing epoch) (view q) → IsInVain tells state offers s t offer url p q
  found_writing p q epoch h = inl record { epoch = epoch; refused = h }

  pub found_busy : (p u q : Pass C) (cause : Cause) (fault : BeginFault) (epoch : Epoch) (looked found : Word) → cause ≡ Absent epoch → fault ≡ Busy looked found → Refused (basis tells state offers s) t url (view p) cause (view u)
      → NotTaken (basis tells state offers s) t (anchor_for (basis tells state offers s) url) (view u) fault (view q) → IsInVain tells state offers s t offer url p q
  found_busy p u q cause fault epoch looked found absent is h k = inr record {
    epoch = epoch;
    middle = u;
    refused = subst (λ (z : Cause). Refused (basis tells state offers s) t url (view p) z (view u)) absent h;
    looked = looked;
    found = found;
    busy = subst (λ (z : BeginFault). NotTaken (basis tells state offers s) t (anchor_for (basis tells state offers s) url) (view u) z (view q)) is k;
  }

-- they were fewer than may be
pub few_of : {A : Type 0} (rounds : List A) (looks most : ℕ) → length rounds ≡ looks → looks < most → length rounds < most
few_of rounds looks most many few = omega (arith, many, few)
