-- Versions of a lot go on: one that is drawn stands for the next one of the plain store.
use Rattle.std.proofs.Common.{Bool, Contains, List, ap, arith, cond, false, inl, inr, nat_le, refl, subst, suc, sym, true, zero, ◌+◌, ◌-◌, ◌<◌, ◌∙◌, ◌≡◌, ◌≤◌, ◌⊎◌, ℕ}
use Rattle.std.proofs.lemmas.Bool.Decides.{nat_tests}
use mathlib.Core.Logic.{dite}
use native.Mathlib.Decide.{ℕ_discrete}
use Rattle.lock_word.specs.Words.{version_limit, word_number}
use Rattle.rock_disk.specs.Cell.{CellState}
use Rattle.core_model.specs.Anchors.{opening_counter}
use Rattle.core_model.specs.Table.{item_of}
use Rattle.core_model.specs.declared.moves.Move.TheVariants.{Draw}
use Rattle.core_model.specs.declared.view.Item.{Item}
use Rattle.core_model.specs.declared.view.Kind.TheVariants as kind
use Rattle.core_model.specs.declared.view.View.{View}
use Rattle.core_alone.specs.Versions.{renamed_from}
use Rattle.plain_model.specs.declared.store.Plain.{Plain}
use Rattle.plain_model.specs.declared.store.Tab.{Tab}
use Rattle.plain_model.specs.declared.store.Tab.TheVariants.{Free, Reading, Writing}
use Rattle.plain_model.specs.Store.{place_at, tab_at, word_at}
use Rattle.plain_laws.specs.Renaming.{CountsVersions, IsRenaming}
use Rattle.store_rule.specs.declared.store.Pass.{Pass}
use Rattle.store_rule.specs.declared.store.Store.{Store}
use Rattle.store_rule.specs.Ground.{Ground, Offers}
use Rattle.store_rule.specs.Passes.{basis, view}
use Rattle.store_rule.specs.Told.{Steps}
use Rattle.rw_anchor.specs.Calls.{Drew}
use Rattle.plain_runs.specs.Shows.{ShowsLot, ShowsTab}
use Rattle.plain_runs.specs.Words.{KnowsLot, Lot, ShowsAt, no_guests, setting_of}
use Rattle.plain_runs.proofs.Beginning.{DrewNext, drew_lot}

-- the second function names versions up to this one as the first does
abbrev pub Agrees : ℕ → (rename other : ℕ → ℕ) → Type 0
Agrees counter rename other = (v : ℕ) → v ≤ counter → other v ≡ rename v

-- The names go on with this version for the next one behind c.

from_low : (rename : ℕ → ℕ) (c version v : ℕ) → v ≤ c → renamed_from rename c version v ≡ rename v
from_low rename c version v le = let t : nat_le v c ≡ true = grind (arith, nat_tests) in ap (λ (b : Bool). cond b (rename v) (version + (v - (c + 1)))) t

from_high : (rename : ℕ → ℕ) (c version v : ℕ) → c < v → renamed_from rename c version v ≡ version + (v - (c + 1))
from_high rename c version v lt = let t : nat_le v c ≡ false = grind (arith, nat_tests) in ap (λ (b : Bool). cond b (rename v) (version + (v - (c + 1)))) t

pub goes_on_next : (rename : ℕ → ℕ) (c version : ℕ) → renamed_from rename c version (c + 1) ≡ version
goes_on_next rename c version = from_high rename c version (c + 1) (omega arith) ∙ (omega arith)

pub goes_on_agrees : (rename : ℕ → ℕ) (c version : ℕ) → Agrees c rename (renamed_from rename c version)
goes_on_agrees rename c version v le = from_low rename c version v le

pub goes_on : (base c version : ℕ) (rename : ℕ → ℕ) → IsRenaming base rename → base ≤ c → rename c < version → IsRenaming base (renamed_from rename c version)
goes_on base c version rename h le above = record {
  keeps = λ v low. from_low rename c version v (omega arith) ∙ h.keeps v low;
  rises = λ v w lt. dite (ℕ_discrete (w - c) 0)
      (λ z. both_low v w lt (omega arith))
      (λ nz. dite (ℕ_discrete (v - c) 0) (λ z. apart v w (omega arith) (omega arith)) (λ ny. both_high v w lt (omega arith)));
}
  where
    most : (v : ℕ) → v ≤ c → rename v ≤ rename c
    most v low = dite (ℕ_discrete v c) (λ e. let k = ap rename e in omega arith) (λ ne. let k = h.rises v c (omega arith) in omega arith)

    both_low : (v w : ℕ) → v < w → w ≤ c → renamed_from rename c version v < renamed_from rename c version w
    both_low v w lt low = let a = from_low rename c version v (omega arith) in let b = from_low rename c version w low in let k = h.rises v w lt in omega arith

    apart : (v w : ℕ) → v ≤ c → c < w → renamed_from rename c version v < renamed_from rename c version w
    apart v w low high = let a = from_low rename c version v low in let b = from_high rename c version w high in let k = most v low in omega arith

    both_high : (v w : ℕ) → v < w → c < v → renamed_from rename c version v < renamed_from rename c version w
    both_high v w lt high = let a = from_high rename c version v high in let b = from_high rename c version w (omega arith) in omega arith

-- a version stands for one that is no less
pub not_less : (base : ℕ) (rename : ℕ → ℕ) → IsRenaming base rename → (v : ℕ) → v ≤ rename v
not_less base rename h zero = omega arith
not_less base rename h (suc v) = let a = not_less base rename h v in let k = h.rises v (suc v) (omega arith) in omega arith

-- this pass drew the version
pub record WasDrawn {X : Type 0} (v : View X) (version : ℕ) : Type 0 where
  pub item : Item
  pub among : Contains v.trail item
  pub drew : item.kind ≡ kind.Drew
  pub next : item.found + 1 ≡ version

-- What stands for the newest version of the plain store was given out before the store was opened, or this pass drew it.
abbrev pub IsNewest : {X : Type 0} → Ground X → (ℕ → ℕ) → View X → ℕ → Type 0
IsNewest g rename v counter = (rename counter ≤ opening_counter g.setting) ⊎ WasDrawn v (rename counter)

module _ (g : Ground (List ℕ)) where
  -- so the next one that is drawn is above it
  pub newest_below : (rename : ℕ → ℕ) (v w : View (List ℕ)) (n counter : ℕ) → IsNewest g rename v counter → Steps g v Draw n w → rename counter ≤ n
  newest_below rename v w n counter (inl low) st = let f = st.found in let c = st.rule.sound.anchors.drawn.counted in omega arith
  newest_below rename v w n counter (inr d) st = let f = st.found in let c = st.rule.sound.anchors.drawn.drew st.index v st.at d.item d.among d.drew in let k = d.next in omega arith

  pub newest_on : (rename : ℕ → ℕ) (v w : View (List ℕ)) (counter : ℕ) → ((x : Item) → Contains v.trail x → Contains w.trail x) → IsNewest g rename v counter → IsNewest g rename w counter
  newest_on rename v w counter keeps (inl low) = inl low
  newest_on rename v w counter keeps (inr d) = inr record { item = d.item; among = keeps d.item d.among; drew = d.drew; next = d.next }

  drawn_now : (v w : View (List ℕ)) (n : ℕ) → Steps g v Draw n w → WasDrawn w (n + 1)
  drawn_now v w n st = record {
    item = item_of v Draw n;
    among = subst (λ (u : View (List ℕ)). Contains u.trail (item_of v Draw n)) (sym st.leaves) (0, omega arith, refl);
    drew = refl;
    next = refl;
  }

  pub drew_it : (v w : View (List ℕ)) (version : ℕ) → Drew g v version w → WasDrawn w version
  drew_it v w version d = subst (WasDrawn w) d.version_is (drawn_now d.middle w d.found d.draw)

  -- What a draw tells of a lot without the counter, by names for which the version stands for the next one.
  pub drew_named : (lot : Lot) (rename : ℕ → ℕ) (v w : View (List ℕ)) (version : ℕ) (p : Plain) (guests : ℕ → ℕ) → lot.counter ≡ false → p.counter < version_limit → rename (p.counter + 1) ≡ version
      → KnowsLot g rename lot v p guests → Drew g v version w → DrewNext g lot rename w version p guests
  drew_named lot rename v w version p guests none left next h d = record { version_is = sym next; left = left; knows = drew_lot g lot rename v w version p guests none h d }

  -- Names that agree on the versions of the plain store show the same.
  at_renamed : (rename other : ℕ → ℕ) (v : View (List ℕ)) (p : Plain) (n a : ℕ) → other (place_at p a).version ≡ rename (place_at p a).version → ShowsAt g rename v p n a → ShowsAt g other v p n a
  at_renamed rename other v p n a same h = record {
    word = h.word ∙ ap (λ (k : ℕ). word_number (record (word_at (setting_of g) p a) { epoch = record (word_at (setting_of g) p a).epoch { version = k } }) + n) (sym same);
    entry = h.entry;
  }

  pub knows_renamed : (lot : Lot) (rename other : ℕ → ℕ) (v : View (List ℕ)) (p : Plain) (guests : ℕ → ℕ) → CountsVersions p → Agrees p.counter rename other → KnowsLot g rename lot v p guests → KnowsLot g other lot v p guests
  knows_renamed lot rename other v p guests counts agrees h = record {
    counter = h.counter;
    many = h.many;
    each = λ a lt ours. at_renamed rename other v p (guests a) a (agrees (place_at p a).version (counts a)) (h.each a lt ours);
  }

module _ {C O : Type 0} (tells : Bool) (state : C → CellState) (offers : O → Offers) (s : Store C O) (rename other : ℕ → ℕ) (pass : Pass C) (p : Plain) (counts : CountsVersions p) (agrees : Agrees p.counter rename other) where
  tab_renamed : (t : ℕ) (x : Tab) → ShowsTab tells state offers s rename pass p t x → ShowsTab tells state offers s other pass p t x
  tab_renamed t Free h = h
  tab_renamed t (Writing a) h = record {
    inside = h.inside;
    entry = h.entry;
    there = h.there;
    grows = h.grows;
    written = h.written;
    writes = h.writes;
    anchor_is = h.anchor_is;
    version_is = h.version_is ∙ sym (agrees (place_at p a).version (counts a));
    offer_is = h.offer_is;
    size = h.size;
  }
  tab_renamed t (Reading a given is_other) h = record {
    inside = h.inside;
    entry = h.entry;
    there = h.there;
    standing = h.standing;
    reads = h.reads;
    anchor_is = h.anchor_is;
    version_is = h.version_is ∙ sym (agrees (place_at p a).version (counts a));
    offer_is = h.offer_is;
    key_is = h.key_is;
    other_is = h.other_is;
    turned = h.turned;
    unread = h.unread;
    given_is = h.given_is;
  }

  pub shows_renamed : (lot : Lot) → ShowsLot tells state offers s rename pass p lot → ShowsLot tells state offers s other pass p lot
  shows_renamed lot h = record {
    own = h.own;
    inner_free = h.inner_free;
    knows = knows_renamed (basis tells state offers s) lot rename other (view pass) p no_guests counts agrees h.knows;
    hand = h.hand;
    eight = h.eight;
    tabs = λ t lt own. tab_renamed t (tab_at p t) (h.tabs t lt own);
    within = h.within;
    away = λ t lt no. ((h.away t lt no).0, λ used. (h.away t lt no).1 used);
  }
