-- What calls on slots and chains draw and do.
use Rattle.std.proofs.Common.{All, Bool, Contains, List, None, Option, [], ap, arith, false, inl, inr, refl, subst, suc, sym, true, zero, ◌≡◌, ◌∙◌, ◌∷◌, ◌⊎◌, ⊎_elim, ℕ}
use Rattle.link_word.specs.declared.link.Link.{Link}
use Rattle.lock_word.specs.Words.{evicted, raised}
use Rattle.core_model.specs.AnchorMoves.{deed_of}
use Rattle.core_model.specs.Layout.{Setting}
use Rattle.core_model.specs.TableForms.{with_hold, with_wiper}
use Rattle.core_model.specs.Tabs.{inner, tab_at}
use Rattle.core_model.specs.Trails.{draws, is_draw}
use Rattle.core_model.specs.declared.tab.Cell.{Cell}
use Rattle.core_model.specs.declared.tab.Freer.{Freer}
use Rattle.core_model.specs.declared.tab.Hold.{Hold}
use Rattle.core_model.specs.declared.tab.Tab.{Tab}
use Rattle.core_model.specs.declared.tab.Tab.TheVariants.{Freeing, Writing}
use Rattle.core_model.specs.declared.tab.Writer.{Writer}
use Rattle.core_model.specs.declared.view.Deed.{Deed}
use Rattle.core_model.specs.declared.view.Item.{Item}
use Rattle.core_model.specs.declared.view.Kind.TheVariants.{Changed, Owned, Raised, Searched}
use Rattle.core_model.specs.declared.view.View.{View}
use Rattle.store_rule.specs.Ground.{Ground}
use Rattle.store_rule.specs.Turns.{IsReturned, Lost, new_hold}
use Rattle.free_set.specs.Claims.{Claimed, FoundAllTaken}
use Rattle.slice_chain.specs.Freeing.{Freed}
use Rattle.slice_chain.specs.Links.{Linked, Located, Published, PublishedFirst, PublishedMore}
use Rattle.slice_chain.specs.Names.{KeyLoaded, Named}
use Rattle.slice_chain.specs.Reads.{ReadSlot}
use Rattle.slice_chain.specs.Victims.{Evicted, NoneIdle, onward}
use Rattle.slice_chain.specs.Wiping.{WipedFirst, WipedSlot}
use Rattle.slice_chain.specs.Writes.{WroteSlot}
use Rattle.store_serve.specs.Acting.{Acted}
use Rattle.store_serve.specs.Deeds.{Evicts, IsGone, OfReserving}
use Rattle.store_serve.proofs.AddingUp.{by_run, none_there, on, only_one, other_draw, quiet_run, quiet_step, same}
use Rattle.store_serve.proofs.AnchorDeeds.{at_five, idle_at}

-- looks at the map and tries for slots draw nothing
searching_draws_none : (items : List Item) → All (λ (x : Item). (x.kind ≡ Searched) ⊎ (x.kind ≡ Owned)) items → draws items ≡ 0
searching_draws_none [] h = refl
searching_draws_none (x ∷ xs) h = other_draw (is_draw x.kind) (draws xs) (⊎_elim (λ (kind : x.kind ≡ Searched). ap is_draw kind) (λ (kind : x.kind ≡ Owned). ap is_draw kind) (h 0 x (omega arith)))
    ∙ searching_draws_none xs (λ k d lt. h (suc k) d (omega arith))

module _ {X : Type 0} {P : Deed → Type 0} where
  held : (v u : View X) (t : ℕ) (w : Writer X) (h : Hold X) → u ≡ with_hold v t w h → Acted None P v u
  held v u t w h e = subst (λ (z : View X). Acted None P v z) (sym e) (record {
    keeps = record { pass = refl; seen = λ x c. c; trail = ([], refl); met = λ a c. c };
    drawn = λ x. omega arith;
    draws = omega arith;
    deeds = λ d c. inl c;
  })

  -- so does a tab that frees
  blanked : (v u : View X) (t : ℕ) (f : Freer X) (h : Hold X) → u ≡ with_wiper v t f h → Acted None P v u
  blanked v u t f h e = subst (λ (z : View X). Acted None P v z) (sym e) (record {
    keeps = record { pass = refl; seen = λ x c. c; trail = ([], refl); met = λ a c. c };
    drawn = λ x. omega arith;
    draws = omega arith;
    deeds = λ d c. inl c;
  })

  pub returned : (k : Setting X) (tab : Tab X) (t slot : ℕ) (c : Cell X) (v u : View X) → IsReturned k tab t slot c v u → Acted None P v u
  returned k (Writing w) t slot c v u h = held v u t w h.0 h.2
  returned k (Freeing f) t slot c v u e = blanked v u t f (new_hold slot c) e
  returned k tab t slot c v u e = same e

module _ {X : Type 0} {g : Ground X} where
  pub claimed : {P : Deed → Type 0} {t slot : ℕ} {v w : View X} → Claimed g t v slot w → Acted None P v w
  claimed h = quiet_run h.passed.went (searching_draws_none h.added.items h.passed.kinds) h.passed.quiet.1

  pub all_taken : {P : Deed → Type 0} {t : ℕ} {v w : View X} → FoundAllTaken g t v w → Acted None P v w
  all_taken h = quiet_run h.passed.went (searching_draws_none h.added.items h.passed.kinds) h.passed.quiet.1

  pub freed : {v w : View X} → Freed g v w → Acted None IsGone v w
  freed {v} {w} h = by_run h.went h.undrawn (by_kind h.freer.is_freeing refl)
    where
      by_kind : (b : Bool) → h.freer.is_freeing ≡ b → (d : Deed) → Contains h.added.done d → (d.pass ≡ v.pass) × IsGone d
      by_kind true e d c = let z = h.gone e in let is = only_one (deed_of v Raised h.freer.anchor (raised z.0 1) false) d (subst (λ (xs : List Deed). Contains xs d) z.1 c) in
          (ap Deed.pass (sym is), subst IsGone is (record { kind = refl; stage = z.2 }))
      by_kind false e d c = absurd (none_there d (subst (λ (xs : List Deed). Contains xs d) (h.quiet e).1 c))

  pub evicted_one : {hand t slot after : ℕ} {v w : View X} → Evicted g hand v t slot w after → Acted None (OfReserving g) v w
  evicted_one {hand} {t} {slot} {after} {v} {w} h = by_run h.went h.undrawn (λ d c. either d (subst (λ (xs : List Deed). Contains xs d) h.done c))
    where
      either : (d : Deed) → Contains (deed_of v Raised (onward g.setting.anchors hand h.steps) h.kept.word false ∷ deed_of v Changed (onward g.setting.anchors hand h.steps) (evicted h.victim.word) true ∷ []) d → (d.pass ≡ v.pass) × OfReserving g d
      either d (zero, lt, e) = (ap Deed.pass (sym e), inr (subst IsGone e (record { kind = refl; stage = h.kept.gone })))
      either d (suc zero, lt, e) = (ap Deed.pass (sym e), inl (subst (Evicts g) e (record { kind = refl; stage = at_five h.victim.word (idle_at h.victim.word h.victim.idle); was_idle = refl; unfit = h.unfit })))
      either d (suc (suc k), lt, e) = absurd (omega arith)

  pub none_idle : {P : Deed → Type 0} {hand : ℕ} {v w : View X} → NoneIdle g hand v w → Acted None P v w
  none_idle h = quiet_run h.went h.undrawn h.calm.0

  pub named : {P : Deed → Type 0} {t offer : ℕ} {key : List ℕ} {v w : View X} → Named g t v key offer w → Acted None P v w
  named h = on (on (on (quiet_step h.front refl refl) (quiet_step h.back refl refl)) (quiet_step h.stored refl refl)) (quiet_step h.start refl refl)

  pub key_loaded : {P : Deed → Type 0} {t : ℕ} {key : List ℕ} {v w : View X} → KeyLoaded g t v key w → Acted None P v w
  key_loaded h = on (quiet_step h.front refl refl) (quiet_step h.back refl refl)

module _ {X : Type 0} (g : Ground X) {P : Deed → Type 0} where
  wiped_slot : {slot : ℕ} {done : Bool} {v w : View X} → WipedSlot g slot v done w → Acted None P v w
  wiped_slot {slot} h = on (on (quiet_step h.tried refl refl) (returned g.setting (tab_at h.middle inner) inner slot h.cell h.middle h.from h.returned)) (quiet_step h.ended refl refl)

  pub wiped_first : {done : Bool} {v w : View X} → WipedFirst g v done w → Acted None P v w
  wiped_first h = on (quiet_step h.loads refl refl) (wiped_slot h.wiped)

module _ {X : Type 0} (g : Ground X) (t : ℕ) {P : Deed → Type 0} where
  published_first : {slot : ℕ} {link : Link} {v w : View X} → PublishedFirst g t slot link v w → Acted None P v w
  published_first h = on (quiet_step h.linked refl refl) (quiet_step h.started refl refl)

  published_more : {slot : ℕ} {link : Link} {v w : View X} → PublishedMore g t slot link v w → Acted None P v w
  published_more h = quiet_step h.linked refl refl

  pub published : (slot : ℕ) (next : Option ℕ) (v w : View X) → Published g t slot next v w → Acted None P v w
  published slot next v w (inl h) = published_first h
  published slot next v w (inr h) = published_more h

  located : (slot : ℕ) (v w : View X) → Located g t slot v w → Acted None P v w
  located slot v w (inl h) = same h.stays
  located slot v w (inr h) = quiet_step h.start refl refl

  pub linked : {link : Link} {v w : View X} → Linked g t link v w → Acted None P v w
  linked {link} {v} {w} h = on (located h.slot v h.middle h.located) (quiet_step h.step refl refl)

  lost : (slot : ℕ) (v : View X) (views : List (View X)) (w : View X) → Lost g t slot v views w → Acted None P v w
  lost slot v [] w e = same e
  lost slot v (u ∷ us) w h = on (lost slot v us u h.3) (quiet_step h.1 refl refl)

  pub read_slot : {done : Bool} {cell : Cell X} {v w : View X} → ReadSlot g t v done cell w → Acted None P v w
  read_slot {done} {cell} {v} {w} h = on (on (lost h.slot v h.views h.last h.lost) (quiet_step h.tried refl refl)) (quiet_step h.ended refl refl)

  pub wrote_slot : {durable done : Bool} {v w : View X} → WroteSlot g t v durable done w → Acted None P v w
  wrote_slot h = on (on (on (quiet_step h.logs refl refl) (quiet_step h.tried refl refl)) (returned g.setting (tab_at h.middle t) t h.slot h.cell h.middle h.from h.returned)) (quiet_step h.ended refl refl)
