-- What calls on anchors, slots and chains leave of a lot, by a tab that is at no anchor of it.
use Rattle.std.proofs.Common.{Bool, Contains, List, Option, ap, arith, false, get_or, get_or-set_same, inl, inr, length, refl, subst, sym, true, ◌<◌, ◌∙◌, ◌∷◌, ◌≡◌, ◌⊎◌, [], ℕ}
use Rattle.std.proofs.lemmas.Bool.{false≢true}
use Rattle.std.proofs.lemmas.List.Elements.{Contains-append_right}
use Rattle.link_word.specs.declared.link.Link.{Link as LinkOf}
use Rattle.core_model.specs.Layout.{IsPlace}
use Rattle.core_model.specs.SlotMoves.{reserves}
use Rattle.core_model.specs.Tabs.{anchor_of, inner, tab_at}
use Rattle.core_model.specs.declared.moves.Move.{Move}
use Rattle.core_model.specs.declared.tab.Cell.{Cell}
use Rattle.core_model.specs.declared.tab.Tab.{Tab}
use Rattle.core_model.specs.declared.tab.Tab.TheVariants.{Free, Freeing, Last, Reading, Retreating, Writing}
use Rattle.core_model.specs.declared.tab.Writer.{Writer}
use Rattle.core_model.specs.declared.view.Place.{Place}
use Rattle.core_model.specs.declared.view.Place.TheVariants.{Link}
use Rattle.core_model.specs.declared.view.View.{View}
use Rattle.core_model.proofs.Lists.{cons_contains, contains_none}
use Rattle.plain_model.specs.declared.store.Plain.{Plain}
use Rattle.tab_states.specs.Tabs.{is_last}
use Rattle.store_rule.specs.Ground.{Ground}
use Rattle.store_rule.specs.Told.{Stands, Steps}
use Rattle.store_rule.specs.Turns.{IsReturned, Lost}
use Rattle.free_set.specs.Claims.{Claimed}
use Rattle.rw_anchor.specs.Calls.{Drew, GivenUp, Gone, LeftLast, Leaves, SpentAtDraw, SpentAtLook}
use Rattle.rw_anchor.specs.declared.Left.{Left}
use Rattle.slice_chain.specs.Freeing.{Freed}
use Rattle.slice_chain.specs.Links.{Linked, Located, Published, PublishedFirst, PublishedMore}
use Rattle.slice_chain.specs.Names.{KeyLoaded, Named}
use Rattle.slice_chain.specs.Reads.{ReadSlot}
use Rattle.slice_chain.specs.Wiping.{WipedFirst, WipedSlot}
use Rattle.slice_chain.specs.Writes.{WroteSlot}
use Rattle.plain_runs.specs.Elsewhere.{IsOutside}
use Rattle.plain_runs.specs.Words.{Lot, no_guests}
use Rattle.plain_runs.proofs.AwaySteps.{Goes, Holds, by_step, few, same}
use Rattle.plain_runs.proofs.AwayTabs.{IsAtSuch, IsMine, Suits, TwoSuch, mine_such, one_such, reserves_such}
use Rattle.plain_runs.proofs.Frames.{SameBut, knows_same, same_weaker, went_touched}
use Rattle.plain_runs.proofs.Freeing.{freed_but, knows_all, knows_but}
use Rattle.plain_runs.proofs.OwnAnchors.{lot_stays}
use Rattle.plain_runs.proofs.Published.{returned_has}
use Rattle.plain_runs.proofs.Roomed.{claimed_knows}

module _ (g : Ground (List ℕ)) (rename : ℕ → ℕ) (lot : Lot) (t : ℕ) (p : Plain) (eight : length p.tabs ≡ 8)
    (apart : lot.counter ≡ false) where
  abbrev pub Passes : View (List ℕ) → View (List ℕ) → Type 0
  Passes v w = Goes g rename lot t p eight apart v w

  abbrev pub own_tab : IsMine t t
  own_tab = inl refl

  abbrev inner_tab : IsMine t inner
  inner_tab = inr refl

  there : (v : View (List ℕ)) → Holds g rename lot t p eight apart v → (u : ℕ) → IsMine t u → (x : Tab (List ℕ)) → tab_at v u ≡ x
      → IsAtSuch (IsOutside lot) x
  there v k u mine x is = subst (λ (y : Tab (List ℕ)). IsAtSuch (IsOutside lot) y) is (mine_such (IsOutside lot) t v.tabs k.tabs u mine)

  step : {v w : View (List ℕ)} {m : Move} {n : ℕ} → Suits (IsOutside lot) t m → Steps g v m n w → Passes v w
  step h st = by_step g rename lot t p eight apart h st

  still_so : {v w : View (List ℕ)} → w ≡ v → Passes v w
  still_so e = same g rename lot t p eight apart e

  -- Calls on anchors.

  pub drew : {v w : View (List ℕ)} {version : ℕ} → Drew g v version w → Passes v w
  drew h k = step tt h.draw (step tt h.look k)

  pub spent_at_look : {v w : View (List ℕ)} {versions : ℕ} → SpentAtLook g v versions w → Passes v w
  spent_at_look h = step tt h.look

  pub spent_at_draw : {v w : View (List ℕ)} {versions : ℕ} → SpentAtDraw g v versions w → Passes v w
  spent_at_draw h k = step tt h.draw (step tt h.look k)

  -- a last tab is at the anchor where it tries
  last_out : (x : Tab (List ℕ)) → is_last x ≡ true → IsAtSuch (IsOutside lot) x → IsOutside lot (anchor_of x)
  last_out (Last a) is h = h
  last_out Free is h = absurd (false≢true is)
  last_out (Retreating a) is h = absurd (false≢true is)
  last_out (Reading r) is h = absurd (false≢true is)
  last_out (Writing w) is h = absurd (false≢true is)
  last_out (Freeing f) is h = absurd (false≢true is)

  pub given_up : {v w : View (List ℕ)} {left : Left} → is_last (tab_at v t) ≡ true → GivenUp g v t left w → Passes v w
  given_up {v} {w} {left} was h k =
      step (own_tab, last_out (tab_at v t) was (mine_such (IsOutside lot) t v.tabs k.tabs t own_tab)) h.evict k

  gone : {v w : View (List ℕ)} {left : Left} → Gone g v t left w → Passes v w
  gone h = step own_tab h.leave

  left_last : {v w : View (List ℕ)} {left : Left} → LeftLast g v t left w → Passes v w
  left_last {v} {w} {left} h k = given_up was h.gives_up (step own_tab h.leave k)
    where
      was : is_last (tab_at h.middle t) ≡ true
      was = ap (λ (z : View (List ℕ)). is_last (tab_at z t)) h.leave.leaves
          ∙ ap is_last (get_or-set_same v.tabs t _ Free (let nine = h.leave.may.pass in let low = h.leave.may.allowed.0 in omega arith))
          ∙ (let o = h.over in rw o refl)

  pub leaves : (v w : View (List ℕ)) (left : Left) → Leaves g v t left w → Passes v w
  leaves v w left (inl h) = given_up h.0 h.1
  leaves v w left (inr (used, inl h)) = gone h
  leaves v w left (inr (used, inr h)) = left_last h

  -- Calls on slots and chains.

  -- a cell that comes back changes no word
  pub returned : (u slot : ℕ) → IsMine t u → (c : Cell (List ℕ)) (v w : View (List ℕ)) (x : Tab (List ℕ)) → tab_at v u ≡ x
      → IsReturned g.setting x u slot c v w → Passes v w
  returned u slot mine c v w x is h k = record {
    owns = lot_stays g lot v w (number x h) k.owns;
    knows = knows_same g rename v w p no_guests k.knows record { same = λ q known here none. returned_has g x u slot c v w h q };
    tabs = tabs x is h;
  }
    where
      number : (x : Tab (List ℕ)) → IsReturned g.setting x u slot c v w → w.pass ≡ v.pass
      number (Writing x) h = ap View.pass h.2
      number (Freeing f) h = ap View.pass h
      number Free h = ap View.pass h
      number (Retreating a) h = ap View.pass h
      number (Reading r) h = ap View.pass h
      number (Last a) h = ap View.pass h

      still : w ≡ v → TwoSuch (IsOutside lot) t w.tabs
      still e = subst (λ (z : View (List ℕ)). TwoSuch (IsOutside lot) t z.tabs) (sym e) k.tabs

      tabs : (x : Tab (List ℕ)) → tab_at v u ≡ x → IsReturned g.setting x u slot c v w → TwoSuch (IsOutside lot) t w.tabs
      tabs (Writing x) is h = subst (λ (z : View (List ℕ)). TwoSuch (IsOutside lot) t z.tabs) (sym h.2)
          (one_such (IsOutside lot) t v.tabs k.tabs u _ (there v k u mine (Writing x) is))
      tabs (Freeing f) is h = subst (λ (z : View (List ℕ)). TwoSuch (IsOutside lot) t z.tabs) (sym h)
          (one_such (IsOutside lot) t v.tabs k.tabs u _ (there v k u mine (Freeing f) is))
      tabs Free is h = still h
      tabs (Retreating a) is h = still h
      tabs (Reading r) is h = still h
      tabs (Last a) is h = still h

  -- A slot that a writing tab claims was in no chain.
  pub claimed : {slot : ℕ} {v w : View (List ℕ)} (x : Writer (List ℕ)) → t < inner → tab_at v t ≡ Writing x → Claimed g t v slot w
      → Passes v w
  claimed {slot} {v} {w} x below is h k = of_went h.passed.went.stands
    where
      tabs_now : TwoSuch (IsOutside lot) t w.tabs
      tabs_now = subst (λ (z : List (Tab (List ℕ))). TwoSuch (IsOutside lot) t z) (sym h.tabs)
          (one_such (IsOutside lot) t v.tabs k.tabs t (reserves (tab_at v t) slot)
          (reserves_such (IsOutside lot) slot (tab_at v t) k.tabs.tab))

      now : tab_at w t ≡ reserves (Writing x) slot
      now = ap (λ (z : List (Tab (List ℕ))). get_or z t Free) h.tabs
          ∙ get_or-set_same v.tabs t (reserves (tab_at v t) slot) Free (let nine = k.tabs.nine in let low = below in omega arith)
          ∙ ap (λ (z : Tab (List ℕ)). reserves z slot) is

      link_alone : (q : Place) → Contains h.added.touched q → q ≡ Link slot
      link_alone q c = only (cons_contains (Link slot) q [] (subst (λ (z : List Place). Contains z q) h.touched c))
        where
          only : (Link slot ≡ q) ⊎ Contains [] q → q ≡ Link slot
          only (inl e) = sym e
          only (inr none) = absurd (contains_none q none)

      same_else : SameBut g v w (λ q. q ≡ Link slot)
      same_else = same_weaker g v w (Contains h.added.touched) (λ q. q ≡ Link slot) link_alone
          (went_touched g v w h.added h.passed.went (λ q c. subst (IsPlace g.setting) (sym (link_alone q c)) h.there))

      of_went : (w ≡ v) ⊎ (Stands g v × Stands g w) → Holds g rename lot t p eight apart w
      of_went (inl e) = still_so e k
      of_went (inr s) = record {
        owns = lot_stays g lot v w h.passed.went.pass k.owns;
        knows = claimed_knows g rename lot t slot below v w p x _ k.owns k.knows eight s.0 k.tabs.nine is s.1 tabs_now.nine
            h.passed.went.pass now refl refl refl
            (Contains-append_right x.reserved (slot ∷ []) slot (0, omega arith, refl)) same_else;
        tabs = tabs_now;
      }

  -- No slot of a chain that is given back elsewhere is in one of the lot.
  pub freed : {v w : View (List ℕ)} → Freed g v w → Passes v w
  freed {v} {w} h k = record {
    owns = lot_stays g lot v w h.went.pass k.owns;
    knows = knows_all g rename w p no_guests h.freer.anchor
        (freed_but g rename v w k.tabs.nine h p no_guests h.freer.anchor (few g rename lot t p eight apart) k.owns refl
        (knows_but g rename v p no_guests h.freer.anchor k.knows))
        (λ lt ours. absurd (false≢true (sym (there v k inner inner_tab (Freeing h.freer) h.was) ∙ ours)));
    tabs = subst (λ (z : List (Tab (List ℕ))). TwoSuch (IsOutside lot) t z) (sym h.tabs)
        (one_such (IsOutside lot) t v.tabs k.tabs inner Free tt);
  }

  pub named : {offer : ℕ} {key : List ℕ} {v w : View (List ℕ)} → Named g t v key offer w → Passes v w
  named h k = step own_tab h.start (step own_tab h.stored
      (step own_tab h.back (step own_tab h.front k)))

  pub key_loaded : {key : List ℕ} {v w : View (List ℕ)} → KeyLoaded g t v key w → Passes v w
  key_loaded h k = step own_tab h.back (step own_tab h.front k)

  wiped_slot : {slot : ℕ} {done : Bool} {v w : View (List ℕ)} → WipedSlot g slot v done w → Passes v w
  wiped_slot {slot} h k = step inner_tab h.ended
      (returned inner slot inner_tab h.cell h.middle h.from (tab_at h.middle inner) refl h.returned (step inner_tab h.tried k))

  pub wiped_first : {done : Bool} {v w : View (List ℕ)} → WipedFirst g v done w → Passes v w
  wiped_first h k = wiped_slot h.wiped (step inner_tab h.loads k)

  published_first : {slot : ℕ} {link : LinkOf} {v w : View (List ℕ)} → PublishedFirst g t slot link v w → Passes v w
  published_first h k = step own_tab h.started (step own_tab h.linked k)

  published_more : {slot : ℕ} {link : LinkOf} {v w : View (List ℕ)} → PublishedMore g t slot link v w → Passes v w
  published_more h = step own_tab h.linked

  pub published : (slot : ℕ) (next : Option ℕ) (v w : View (List ℕ)) → Published g t slot next v w → Passes v w
  published slot next v w (inl h) = published_first h
  published slot next v w (inr h) = published_more h

  located : (slot : ℕ) (v w : View (List ℕ)) → Located g t slot v w → Passes v w
  located slot v w (inl h) = still_so h.stays
  located slot v w (inr h) = step own_tab h.start

  pub linked : {link : LinkOf} {v w : View (List ℕ)} → Linked g t link v w → Passes v w
  linked {link} {v} {w} h k = step own_tab h.step (located h.slot v h.middle h.located k)

  lost : (slot : ℕ) (v : View (List ℕ)) (views : List (View (List ℕ))) (w : View (List ℕ)) → Lost g t slot v views w → Passes v w
  lost slot v [] w e = still_so e
  lost slot v (u ∷ us) w h = λ k. step own_tab h.1 (lost slot v us u h.3 k)

  pub read_slot : {done : Bool} {cell : Cell (List ℕ)} {v w : View (List ℕ)} → ReadSlot g t v done cell w → Passes v w
  read_slot {done} {cell} {v} {w} h k = step own_tab h.ended
      (step own_tab h.tried (lost h.slot v h.views h.last h.lost k))

  pub wrote_slot : {durable done : Bool} {v w : View (List ℕ)} → WroteSlot g t v durable done w → Passes v w
  wrote_slot h k = step own_tab h.ended
      (returned t h.slot own_tab h.cell h.middle h.from (tab_at h.middle t) refl h.returned
      (step own_tab h.tried (step own_tab h.logs k)))
