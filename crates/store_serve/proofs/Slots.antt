-- Calls on slots and chains.
use Rattle.std.proofs.Common.{Bool, List, Option, inl, inr, refl, subst, sym, ◌≡◌, [], ◌∷◌, ℕ}
use Rattle.link_word.specs.declared.link.Link.{Link}
use Rattle.core_model.specs.Layout.{Setting}
use Rattle.core_model.specs.TableForms.{with_hold, with_wiper}
use Rattle.core_model.specs.Tabs.{inner, tab_at}
use Rattle.core_model.specs.declared.tab.Cell.{Cell}
use Rattle.core_model.specs.declared.tab.Freer.{Freer}
use Rattle.core_model.specs.declared.tab.Hold.{Hold}
use Rattle.core_model.specs.declared.tab.Tab.{Tab}
use Rattle.core_model.specs.declared.tab.Tab.TheVariants.{Freeing, Writing}
use Rattle.core_model.specs.declared.tab.Writer.{Writer}
use Rattle.core_model.specs.declared.view.View.{View}
use Rattle.store_rule.specs.Ground.{Ground}
use Rattle.store_rule.specs.Turns.{IsReturned, Lost, new_hold}
use Rattle.free_set.specs.Claims.{Claimed, FoundAllTaken}
use Rattle.slice_chain.specs.Freeing.{Freed}
use Rattle.slice_chain.specs.Links.{Linked, Located, Published, PublishedFirst, PublishedMore}
use Rattle.slice_chain.specs.Names.{KeyLoaded, Named}
use Rattle.slice_chain.specs.Reads.{ReadSlot}
use Rattle.slice_chain.specs.Victims.{Evicted, NoneIdle}
use Rattle.slice_chain.specs.Wiping.{WipedFirst, WipedSlot}
use Rattle.slice_chain.specs.Writes.{WroteSlot}
use Rattle.store_serve.specs.Growing.{GrowsTo}
use Rattle.store_serve.proofs.Grown.{by_run, by_step, on, same}

module _ {X : Type 0} where
  held : (v u : View X) (t : ℕ) (w : Writer X) (h : Hold X) → u ≡ with_hold v t w h → GrowsTo v u
  held v u t w h e = subst (λ (z : View X). GrowsTo v z) (sym e) (record { pass = refl; seen = λ x c. c; trail = ([], refl); met = λ a c. c })

  blanked : (v u : View X) (t : ℕ) (f : Freer X) (h : Hold X) → u ≡ with_wiper v t f h → GrowsTo v u
  blanked v u t f h e = subst (λ (z : View X). GrowsTo v z) (sym e) (record { pass = refl; seen = λ x c. c; trail = ([], refl); met = λ a c. c })

  pub returned : (k : Setting X) (tab : Tab X) (t slot : ℕ) (c : Cell X) (v u : View X) → IsReturned k tab t slot c v u → GrowsTo v u
  returned k (Writing w) t slot c v u h = held v u t w h.0 h.2
  returned k (Freeing f) t slot c v u e = blanked v u t f (new_hold slot c) e
  returned k tab t slot c v u e = same e

module _ {X : Type 0} {g : Ground X} where
  pub claimed : {t slot : ℕ} {v w : View X} → Claimed g t v slot w → GrowsTo v w
  claimed h = by_run h.passed.went

  pub all_taken : {t : ℕ} {v w : View X} → FoundAllTaken g t v w → GrowsTo v w
  all_taken h = by_run h.passed.went

  pub freed : {v w : View X} → Freed g v w → GrowsTo v w
  freed h = by_run h.went

  pub evicted : {hand t slot after : ℕ} {v w : View X} → Evicted g hand v t slot w after → GrowsTo v w
  evicted h = by_run h.went

  pub none_idle : {hand : ℕ} {v w : View X} → NoneIdle g hand v w → GrowsTo v w
  none_idle h = by_run h.went

  pub named : {t offer : ℕ} {key : List ℕ} {v w : View X} → Named g t v key offer w → GrowsTo v w
  named h = on (by_step h.front) (on (by_step h.back) (on (by_step h.stored) (by_step h.start)))

  pub key_loaded : {t : ℕ} {key : List ℕ} {v w : View X} → KeyLoaded g t v key w → GrowsTo v w
  key_loaded h = on (by_step h.front) (by_step h.back)

module _ {X : Type 0} (g : Ground X) where
  wiped_slot : {slot : ℕ} {done : Bool} {v w : View X} → WipedSlot g slot v done w → GrowsTo v w
  wiped_slot {slot} h = on (by_step h.tried) (on (returned g.setting (tab_at h.middle inner) inner slot h.cell h.middle h.from h.returned) (by_step h.ended))

  pub wiped_first : {done : Bool} {v w : View X} → WipedFirst g v done w → GrowsTo v w
  wiped_first h = on (by_step h.loads) (wiped_slot h.wiped)

module _ {X : Type 0} (g : Ground X) (t : ℕ) where
  published_first : {slot : ℕ} {link : Link} {v w : View X} → PublishedFirst g t slot link v w → GrowsTo v w
  published_first h = on (by_step h.linked) (by_step h.started)

  published_more : {slot : ℕ} {link : Link} {v w : View X} → PublishedMore g t slot link v w → GrowsTo v w
  published_more h = by_step h.linked

  pub published : (slot : ℕ) (next : Option ℕ) (v w : View X) → Published g t slot next v w → GrowsTo v w
  published slot next v w (inl h) = published_first h
  published slot next v w (inr h) = published_more h

  located : (slot : ℕ) (v w : View X) → Located g t slot v w → GrowsTo v w
  located slot v w (inl h) = same h.stays
  located slot v w (inr h) = by_step h.start

  pub linked : {link : Link} {v w : View X} → Linked g t link v w → GrowsTo v w
  linked {link} {v} {w} h = on (located h.slot v h.middle h.located) (by_step h.step)

  lost : (slot : ℕ) (v : View X) (views : List (View X)) (w : View X) → Lost g t slot v views w → GrowsTo v w
  lost slot v [] w e = same e
  lost slot v (u ∷ us) w h = on (lost slot v us u h.3) (by_step h.1)

  pub read_slot : {done : Bool} {cell : Cell X} {v w : View X} → ReadSlot g t v done cell w → GrowsTo v w
  read_slot {done} {cell} {v} {w} h = on (lost h.slot v h.views h.last h.lost) (on (by_step h.tried) (by_step h.ended))

  pub wrote_slot : {durable done : Bool} {v w : View X} → WroteSlot g t v durable done w → GrowsTo v w
  wrote_slot h = on (by_step h.logs) (on (by_step h.tried) (on (returned g.setting (tab_at h.middle t) t h.slot h.cell h.middle h.from h.returned) (by_step h.ended)))
