-- A slot more for a tab that writes, in the store and in the plain store.
use Rattle.std.proofs.Common.{Bool, Contains, List, None, Option, Some, ap, arith, false, get_or, get_or-set_other, inl, inr, length, refl, set, subst, sum_by, sym, true, ◌+◌, ◌++◌, ◌-◌, ◌<◌, ◌∙◌, ◌≡◌, ◌≢◌, ◌≤◌, ◌⊎◌, ◌∷◌, [], ℕ}
use mathlib.Core.Logic.{dite}
use mathlib.Core.Option.{some}
use native.Mathlib.Decide.{ℕ_discrete}
use lib.ListN.{get_elem?}
use Rattle.core_model.specs.Chains.{slots_of_link}
use Rattle.core_model.specs.SlotMoves.{reserves}
use Rattle.core_model.specs.Tabs.{InnerIsFree, IsPass, inner, is_free, tab_at, with_tab}
use Rattle.core_model.specs.declared.tab.Tab.{Tab}
use Rattle.core_model.specs.declared.tab.Tab.TheVariants.{Free, Freeing, Last, Reading, Retreating, Writing}
use Rattle.core_model.specs.declared.tab.Writer.{Writer}
use Rattle.core_model.specs.declared.view.View.{View}
use Rattle.core_model.proofs.Lists.{at_or, cons_contains, contains_none}
use Rattle.core_model.proofs.Tabs.{tab_there}
use Rattle.plain_model.specs.declared.entry.Entry.{Entry}
use Rattle.plain_model.specs.declared.entry.Life.TheVariants.{Growing, Whole}
use Rattle.plain_model.specs.declared.entry.Place.{Place as PlaceOf}
use Rattle.plain_model.specs.declared.store.Plain.{Plain}
use Rattle.plain_model.specs.declared.store.Setting.{Setting}
use Rattle.plain_model.specs.Place.{nothing, vacated}
use Rattle.plain_model.specs.Slots.{Claimed, claim, held, limit, resize}
use Rattle.plain_model.specs.Store.{entry_at, is_idle_at, meta_size, place_at, published, readers}
use Rattle.plain_laws.proofs.Evicting.{idle_whole}
use Rattle.store_rule.specs.Calls.{Others}
use Rattle.store_rule.specs.Runs.{Went}
use Rattle.free_set.specs.Claims.{searched_to}
use Rattle.rock_writer.specs.Reserving.{ByClaim, ByEviction, RanOut, Reserved}
use Rattle.rock_writer.proofs.Resting.{inner_now, nine_now, tab_now}
use Rattle.slice_chain.specs.Victims.{hand_in}
use Rattle.store_rule.specs.Ground.{Ground, fits}
use Rattle.store_rule.specs.Told.{Stands}
use Rattle.plain_runs.specs.Words.{IsLone, Knows, KnowsLot, Lot, no_guests, setting_of, spare, spare_of, whole_lot}
use Rattle.plain_runs.proofs.Claims.{ClaimsRight, GaveWay, RunsOutRight, claims_right, runs_out_right}
use Rattle.plain_runs.proofs.Holding.{AllRaised}
use Rattle.plain_runs.proofs.OwnAnchors.{OwnsLot, lot_stays, owns_lone}
use Rattle.plain_runs.proofs.PlainWords.{readers_fit}
use Rattle.plain_runs.proofs.Roomed.{claimed_knows}
use Rattle.plain_runs.proofs.Totals.{sum_only}
use Rattle.plain_runs.proofs.Frames.{SameBut, same_weaker, went_touched}
use Rattle.plain_laws.specs.Holding.{slots_held}
use Rattle.plain_laws.proofs.Alone.{claim_free, resize_sums}
use Rattle.plain_laws.proofs.Filling.{resized_there}
use Rattle.entry_cut.specs.Content.{room_of}
use Rattle.core_model.specs.Layout.{IsPlace}
use Rattle.core_model.specs.declared.view.Place.{Place}
use Rattle.core_model.specs.declared.view.Place.TheVariants.{Link}
use Rattle.std.proofs.lemmas.List.Elements.{Contains-append_right}
use Rattle.std.proofs.lemmas.Bool.{false≢true}
use Rattle.std.specs.Prelude.{min}

-- A claim leaves tabs and entries that grow as they are.
pub record ClaimStays (p q : Plain) (a : ℕ) : Type 0 where
  pub tabs : q.tabs ≡ p.tabs
  pub place : place_at q a ≡ place_at p a

pub claim_stays : (g : Ground (List ℕ)) (rename : ℕ → ℕ) (a : ℕ) (p q : Plain) (x : Entry) → entry_at p a ≡ Some x → x.life ≡ Growing → (q ≡ p) ⊎ GaveWay g rename p q → ClaimStays p q a
claim_stays g rename a p q x there grows (inl e) = record { tabs = ap Plain.tabs e; place = ap (λ (q : Plain). place_at q a) e }
claim_stays g rename a p q x there grows (inr gave) = let w = idle_whole p gave.anchor gave.idle in record {
  tabs = ap Plain.tabs gave.is;
  place = ap (λ (q : Plain). place_at q a) gave.is ∙ get_or-set_other p.places gave.anchor a (vacated (place_at p gave.anchor)) nothing (λ same. differ w.0 (sym there ∙ ap (entry_at p) same ∙ w.1) w.2);
}
  where
    differ : (y : Entry) → Some x ≡ Some y → y.life ≡ Whole → ⊥
    differ y e whole = let same : x ≡ y = cc in let k : Growing ≡ Whole = sym grows ∙ (ap (λ (z : Entry). z.life) same ∙ whole) in cc

-- A tab that writes and is at rest has reserved no slot but the one that it linked, and has published none before its entry may be read.
abbrev pub IsQuiet : {X : Type 0} → Tab X → Type 0
IsQuiet (Writing w) = (length w.reserved ≡ length (slots_of_link w.end)) × (w.is_appending ≡ false → w.published ≡ [])
IsQuiet _ = Unit {0}

-- so are all tabs but t and the inner one
abbrev pub AreQuiet : {X : Type 0} → ℕ → View X → Type 0
AreQuiet t v = (j : ℕ) → j ≢ t → j ≢ inner → IsQuiet (tab_at v j)

pub quiet_on : {X : Type 0} (t : ℕ) (v w : View X) → AreQuiet t v → Others t v w → AreQuiet t w
quiet_on t v w quiet others j ne far = subst IsQuiet (sym (others j ne far)) (quiet j ne far)

module _ {X : Type 0} where
  no_spare : (tab : Tab X) → IsQuiet tab → spare_of tab ≡ 0
  no_spare Free h = refl
  no_spare (Retreating a) h = refl
  no_spare (Reading r) h = refl
  no_spare (Writing w) h = let e = h.0 in omega arith
  no_spare (Last a) h = refl
  no_spare (Freeing f) h = refl

  free_spare : (tab : Tab X) → is_free tab ≡ true → spare_of tab ≡ 0
  free_spare Free h = refl
  free_spare (Retreating a) h = refl
  free_spare (Reading r) h = refl
  free_spare (Writing w) h = cc
  free_spare (Last a) h = refl
  free_spare (Freeing f) h = refl

  -- the slots that the tab t has beside the linked one are all that tabs have
  pub quiet_spare : (t : ℕ) (v : View X) (w : Writer X) → IsPass v → t < inner → AreQuiet t v → InnerIsFree v → tab_at v t ≡ Writing w → spare v ≡ length w.reserved - length (slots_of_link w.end)
  quiet_spare t v w pass below quiet free is = sum_only spare_of v.tabs t (Writing w) (tab_there v t (Writing w) (omega arith) is) (λ j y there ne. at_j j y (at_or v.tabs j y Free there) ne)
    where
      at_j : (j : ℕ) (y : Tab X) → tab_at v j ≡ y → j ≢ t → spare_of y ≡ 0
      at_j j y e ne = dite (ℕ_discrete j inner)
          (λ same. ap spare_of (sym e) ∙ free_spare (tab_at v j) (ap (λ (z : ℕ). is_free (tab_at v z)) same ∙ free))
          (λ far. ap spare_of (sym e) ∙ no_spare (tab_at v j) (quiet j ne far))

  pub quiet_raised : (t : ℕ) (v : View X) (w : Writer X) → AreQuiet t v → InnerIsFree v → tab_at v t ≡ Writing w → (w.is_appending ≡ false → w.published ≡ []) → AllRaised v
  quiet_raised t v w quiet free is one = record { each = λ j x e. at_j j x e }
    where
      at_j : (j : ℕ) (x : Writer X) → tab_at v j ≡ Writing x → x.is_appending ≡ false → x.published ≡ []
      at_j j x e = dite (ℕ_discrete j t)
          (λ same. let k : Writing w ≡ Writing x = sym is ∙ (ap (tab_at v) (sym same) ∙ e) in let z : w ≡ x = cc in subst (λ (y : Writer X). y.is_appending ≡ false → y.published ≡ []) z one)
          (λ ne. dite (ℕ_discrete j inner)
          (λ same. let k : true ≡ false = sym free ∙ ap is_free (ap (tab_at v) (sym same) ∙ e) in cc)
          (λ far. (subst IsQuiet e (quiet j ne far)).1))

-- A pass that knows the plain store p of its own lot, with its inner tab free.
pub record IsReady (g : Ground (List ℕ)) (rename : ℕ → ℕ) (lot : Lot) (v : View (List ℕ)) (p : Plain) : Type 0 where
  pub knows : KnowsLot g rename lot v p no_guests
  pub owns : OwnsLot g lot v.pass
  pub stands : Stands g v
  pub pass : IsPass v
  pub inner_free : InnerIsFree v
  pub eight : length p.tabs ≡ 8

-- Where the slots come from that the tab t needs for its entry.

-- The store has one pass, which owns all of it, and all other tabs are at rest: so free slots are counted.
pub record IsCounted {X : Type 0} (g : Ground X) (lot : Lot) (t : ℕ) (v : View X) : Type 0 where
  pub lone : IsLone g
  pub whole : lot ≡ whole_lot
  pub quiet : AreQuiet t v

-- The store fits, and so does the plain store: it has slots for the most that the entry at the anchor may have.
pub record IsAmple {X : Type 0} (g : Ground X) (a : ℕ) (p : Plain) : Type 0 where
  pub fits_is : fits g ≡ true
  pub some : 0 < (setting_of g).slots
  pub filling : 0 < (setting_of g).room
  pub cap : ℕ
  pub entry : Entry
  pub there : entry_at p a ≡ Some entry
  pub grows : entry.life ≡ Growing
  pub may_hold : slots_held (setting_of g) p + cap ≤ (setting_of g).slots + held (room_of g.slot) (place_at p a)
  pub enough : min (limit (setting_of g)) (published (room_of g.slot) (meta_size entry.url + length entry.body) + 1) ≤ cap

abbrev pub Supply : {X : Type 0} → Ground X → Lot → (t a : ℕ) → View X → Plain → Type 0
Supply g lot t a v p = IsCounted g lot t v ⊎ IsAmple g a p

-- It has one slot at least.
pub some_cap : {X : Type 0} (g : Ground X) (a : ℕ) (p : Plain) → (m : IsAmple g a p) → 0 < m.cap
some_cap g a p m = let e = m.enough in let s = m.some in omega arith

-- Other tabs, and the size of the entry, make no difference.
pub supply_on : {X : Type 0} (g : Ground X) (lot : Lot) (t a : ℕ) (v w : View X) (p : Plain) → Others t v w → Supply g lot t a v p → Supply g lot t a w p
supply_on g lot t a v w p others (inl c) = inl record { lone = c.lone; whole = c.whole; quiet = quiet_on t v w c.quiet others }
supply_on g lot t a v w p others (inr m) = inr m

pub supply_resized : {X : Type 0} (g : Ground X) (lot : Lot) (t a c : ℕ) (v : View X) (p : Plain) → Supply g lot t a v p → Supply g lot t a v (resize a c p)
supply_resized g lot t a c v p (inl k) = inl k
supply_resized g lot t a c v p (inr m) = inr record {
  fits_is = m.fits_is;
  some = m.some;
  filling = m.filling;
  cap = m.cap;
  entry = record m.entry { content = c };
  there = resized_there a c p m.entry m.there;
  grows = m.grows;
  may_hold = (resize_sums (setting_of g) a c m.cap p record { entry = m.entry; there = m.there; grows = m.grows; may_hold = m.may_hold }).may_hold;
  enough = m.enough;
}

module _ (g : Ground (List ℕ)) (lot : Lot) (rename : ℕ → ℕ) where
  -- A pass that knows the plain store p of its lot, with its hand, between two calls or while the tab t needs slots for the entry at the anchor a.
  pub record IsReadied (t a : ℕ) (v : View (List ℕ)) (p : Plain) (hand : ℕ) : Type 0 where
    pub knows : KnowsLot g rename lot v p no_guests
    pub owns : OwnsLot g lot v.pass
    pub stands : Stands g v
    pub pass : IsPass v
    pub inner_free : InnerIsFree v
    pub supply : Supply g lot t a v p
    pub hand_is : hand_in g.setting.anchors hand ≡ p.hand
    pub eight : length p.tabs ≡ 8

  pub ready_by : (t a : ℕ) (v : View (List ℕ)) (p : Plain) (hand : ℕ) → IsReadied t a v p hand → IsReady g rename lot v p
  ready_by t a v p hand h = record { knows = h.knows; owns = h.owns; stands = h.stands; pass = h.pass; inner_free = h.inner_free; eight = h.eight }

  -- the slot is claimed in the plain store too, and there is nothing else
  pub record HasClaimed (t n a : ℕ) (v u : View (List ℕ)) (p : Plain) (hand slot : ℕ) : Type 0 where
    pub done : (claim (setting_of g) n p).done ≡ true
    pub readied : IsReadied t a u (claim (setting_of g) n p).store hand
    pub tab : tab_at u t ≡ reserves (tab_at v t) slot
    pub others : Others t v u
    pub stays : ClaimStays p (claim (setting_of g) n p).store a

  -- none was there, in the plain store neither
  pub record HasRunOut (t n a : ℕ) (v u : View (List ℕ)) (p : Plain) (hand : ℕ) : Type 0 where
    pub none : (claim (setting_of g) n p).done ≡ false
    pub same : (claim (setting_of g) n p).store ≡ p
    pub readied : IsReadied t a u p hand
    pub claim : Option ℕ
    pub tab : tab_at u t ≡ searched_to (tab_at v t) claim
    pub others : Others t v u

  -- In a store that fits no search finds all slots taken.
  pub never_runs_out : {t hand a : ℕ} {v u : View (List ℕ)} {p : Plain} → IsAmple g a p → RanOut g t hand v u → ⊥
  never_runs_out m r = false≢true (sym r.none.unfit ∙ m.fits_is)

  module _ (t a : ℕ) (v : View (List ℕ)) (p : Plain) (hand : ℕ) (h : IsReadied t a v p hand) (below : t < inner) (w : Writer (List ℕ)) (is : tab_at v t ≡ Writing w) (raised : w.is_appending ≡ false → w.published ≡ [])
      (n : ℕ) (extra : length w.reserved - length (slots_of_link w.end) ≡ n) where
    others_set : (u : View (List ℕ)) (x : Tab (List ℕ)) → u.tabs ≡ with_tab v t x → Others t v u
    others_set u x tabs j ne far = ap (λ (xs : List (Tab (List ℕ))). get_or xs j Free) tabs ∙ get_or-set_other v.tabs t j x Free ne

    -- In a store with one pass free slots are counted.
    module _ (c : IsCounted g lot t v) where
      spare_is : spare v ≡ n
      spare_is = quiet_spare t v w h.pass below c.quiet h.inner_free is ∙ extra

      knows_whole : Knows g rename v p no_guests
      knows_whole = subst (λ (l : Lot). KnowsLot g rename l v p no_guests) c.whole h.knows

      of_whole : {u : View (List ℕ)} {q : Plain} → Knows g rename u q no_guests → KnowsLot g rename lot u q no_guests
      of_whole {u} {q} k = subst (λ (l : Lot). KnowsLot g rename l u q no_guests) (sym c.whole) k

      counted_reserves : (u : View (List ℕ)) (slot hand_after : ℕ) (x : Entry) → entry_at p a ≡ Some x → x.life ≡ Growing → Reserved g t hand v slot u hand_after → HasClaimed t n a v u p hand_after slot
      counted_reserves u slot hand_after x there grows r =
          let k = claims_right g c.lone rename v p knows_whole h.eight h.stands h.pass h.inner_free (quiet_raised t v w c.quiet h.inner_free is raised) t w is slot u hand hand_after h.hand_is r in
          of_claim (claim (setting_of g) (spare v) p) k (ap (λ (m : ℕ). claim (setting_of g) m p) spare_is)
        where
          of_claim : (d : Claimed) → ClaimsRight g rename p v u hand_after d → d ≡ claim (setting_of g) n p → HasClaimed t n a v u p hand_after slot
          of_claim d k same = let right = subst (ClaimsRight g rename p v u hand_after) same k in
              let stays = claim_stays g rename a p (claim (setting_of g) n p).store x there grows right.how in record {
                done = right.done;
                readied = record {
                  knows = of_whole right.knows;
                  owns = λ b lt ours. owns_lone g c.lone u.pass b;
                  stands = right.stands;
                  pass = right.pass;
                  inner_free = right.inner_free;
                  supply = inl record { lone = c.lone; whole = c.whole; quiet = quiet_on t v u c.quiet (others_set u (reserves (tab_at v t) slot) r.tabs) };
                  hand_is = right.hand;
                  eight = ap length stays.tabs ∙ h.eight;
                };
                tab = tab_now t v u (reserves (tab_at v t) slot) h.pass below r.tabs;
                others = others_set u (reserves (tab_at v t) slot) r.tabs;
                stays = stays;
              }

      counted_runs_out : (u : View (List ℕ)) → RanOut g t hand v u → HasRunOut t n a v u p hand
      counted_runs_out u r =
          let k = runs_out_right g c.lone rename v p knows_whole h.eight h.stands h.pass h.inner_free (quiet_raised t v w c.quiet h.inner_free is raised) t hand u h.hand_is r in
          of_claim (claim (setting_of g) (spare v) p) k (ap (λ (m : ℕ). claim (setting_of g) m p) spare_is)
        where
          of_claim : (d : Claimed) → RunsOutRight g rename p u d → d ≡ claim (setting_of g) n p → HasRunOut t n a v u p hand
          of_claim d k same = let right = subst (RunsOutRight g rename p u) same k in record {
            none = right.done;
            same = right.store;
            readied = record {
              knows = of_whole right.knows;
              owns = λ b lt ours. owns_lone g c.lone u.pass b;
              stands = right.stands;
              pass = nine_now t v u (searched_to (tab_at v t) r.none.claim) h.pass below r.tabs;
              inner_free = inner_now t v u (searched_to (tab_at v t) r.none.claim) h.pass below r.tabs h.inner_free;
              supply = inl record { lone = c.lone; whole = c.whole; quiet = quiet_on t v u c.quiet (others_set u (searched_to (tab_at v t) r.none.claim) r.tabs) };
              hand_is = h.hand_is;
              eight = h.eight;
            };
            claim = r.none.claim;
            tab = tab_now t v u (searched_to (tab_at v t) r.none.claim) h.pass below r.tabs;
            others = others_set u (searched_to (tab_at v t) r.none.claim) r.tabs;
          }

    -- In a store that fits a slot is found by a search, and the plain store has one too.
    module _ (m : IsAmple g a p) (more : held (room_of g.slot) (place_at p a) + n < m.cap) where
      claims_one : claim (setting_of g) n p ≡ record { store = p; done = true }
      claims_one = claim_free (setting_of g) n p (let k = m.may_hold in omega arith)

      ample_reserves : (u : View (List ℕ)) (slot hand_after : ℕ) → Reserved g t hand v slot u hand_after → HasClaimed t n a v u p hand_after slot
      ample_reserves u slot hand_after r = by_way r.how
        where
          reserved : Writer (List ℕ)
          reserved = record w { claim = None; reserved = w.reserved ++ slot ∷ [] }

          tab_after : tab_at u t ≡ Writing reserved
          tab_after = tab_now t v u (reserves (tab_at v t) slot) h.pass below r.tabs ∙ ap (λ (z : Tab (List ℕ)). reserves z slot) is

          by_claim : ByClaim g t hand v slot u hand_after → HasClaimed t n a v u p hand_after slot
          by_claim k = record {
            done = ap (λ (c : Claimed). c.done) claims_one;
            readied = subst (λ (q : Plain). IsReadied t a u q hand_after) (sym (ap (λ (c : Claimed). c.store) claims_one)) record {
              knows = claimed_knows g rename lot t slot below v u p w reserved h.owns h.knows h.eight h.stands h.pass is later nine number tab_after refl refl refl
                  (Contains-append_right w.reserved (slot ∷ []) slot (0, omega arith, refl)) same;
              owns = lot_stays g lot v u number h.owns;
              stands = later;
              pass = nine;
              inner_free = inner_now t v u (reserves (tab_at v t) slot) h.pass below r.tabs h.inner_free;
              supply = inr m;
              hand_is = ap (hand_in g.setting.anchors) k.stays ∙ h.hand_is;
              eight = h.eight;
            };
            tab = tab_now t v u (reserves (tab_at v t) slot) h.pass below r.tabs;
            others = others_set u (reserves (tab_at v t) slot) r.tabs;
            stays = subst (λ (q : Plain). ClaimStays p q a) (sym (ap (λ (c : Claimed). c.store) claims_one)) record { tabs = refl; place = refl };
          }
            where
              number : u.pass ≡ v.pass
              number = k.claimed.passed.went.pass

              nine : IsPass u
              nine = nine_now t v u (reserves (tab_at v t) slot) h.pass below r.tabs

              later : Stands g u
              later = of_stands k.claimed.passed.went.stands
                where
                  of_stands : (u ≡ v) ⊎ (Stands g v × Stands g u) → Stands g u
                  of_stands (inl e) = subst (Stands g) (sym e) h.stands
                  of_stands (inr both) = both.1

              only : (q : Place) → Contains k.claimed.added.touched q → q ≡ Link slot
              only q among = of_list (subst (λ (z : List Place). Contains z q) k.claimed.touched among)
                where
                  of_list : Contains (Link slot ∷ []) q → q ≡ Link slot
                  of_list c = of_case (cons_contains (Link slot) q [] c)
                    where
                      of_case : (Link slot ≡ q) ⊎ Contains [] q → q ≡ Link slot
                      of_case (inl e) = sym e
                      of_case (inr none) = absurd (contains_none q none)

              same : SameBut g v u (λ q. q ≡ Link slot)
              same = same_weaker g v u (Contains k.claimed.added.touched) (λ q. q ≡ Link slot) only
                  (went_touched g v u k.claimed.added k.claimed.passed.went (λ q c. subst (IsPlace g.setting) (sym (only q c)) k.claimed.there))

          by_way : ByClaim g t hand v slot u hand_after ⊎ ByEviction g t hand v slot u hand_after → HasClaimed t n a v u p hand_after slot
          by_way (inl k) = by_claim k
          by_way (inr e) = absurd (false≢true (sym e.evicted.unfit ∙ m.fits_is))

    -- Where there is room for it in a store that fits, the slot that is reserved is one that the plain store claims.
    pub reserves_right : (u : View (List ℕ)) (slot hand_after : ℕ) (x : Entry) → entry_at p a ≡ Some x → x.life ≡ Growing → ((m : IsAmple g a p) → held (room_of g.slot) (place_at p a) + n < m.cap)
        → Reserved g t hand v slot u hand_after → HasClaimed t n a v u p hand_after slot
    reserves_right u slot hand_after x there grows more r = of_supply h.supply
      where
        of_supply : Supply g lot t a v p → HasClaimed t n a v u p hand_after slot
        of_supply (inl c) = counted_reserves c u slot hand_after x there grows r
        of_supply (inr m) = ample_reserves m (more m) u slot hand_after r

    pub runs_out : (u : View (List ℕ)) → RanOut g t hand v u → HasRunOut t n a v u p hand
    runs_out u r = of_supply h.supply
      where
        of_supply : Supply g lot t a v p → HasRunOut t n a v u p hand
        of_supply (inl c) = counted_runs_out c u r
        of_supply (inr m) = absurd (never_runs_out m r)
