-- What a step makes of the chain of an anchor: it has the slots that it had, and those that a tab of the pass had reserved there.
use Rattle.std.proofs.Common.{◌≡◌, ◌⊎◌, inl, inr, ⊎_elim, ℕ, zero, suc, ◌-◌, ◌<◌, ◌≤◌, List, [], ◌∷◌, ◌++◌, length, get_or, set, get_or-set_same, get_or-set_other, Bool, true, false, cond, ◌==◌, sym, refl, ap, ◌∙◌, subst, arith, Contains}
use Rattle.std.proofs.lemmas.List.Elements.{Contains-append_cases, Contains-append_left}
use mathlib.Core.Logic.{dite}
use mathlib.Core.Option.{some}
use native.Mathlib.Decide.{ℕ_discrete}
use lib.ListN.{get_elem?}
use Rattle.lock_word.specs.declared.stage.Stage.TheVariants.{Halted}
use Rattle.link_word.specs.declared.link.Link.{Link}
use Rattle.link_word.specs.declared.link.Link.TheVariants.{Last as LastLink, Next, NotWritten}
use Rattle.core_model.specs.declared.chain.Chain.{Chain}
use Rattle.core_model.specs.declared.moves.Move.{Move}
use Rattle.core_model.specs.declared.moves.Move.TheVariants.{Take, Evict, Raise, Publish}
use Rattle.core_model.specs.declared.tab.Writer.{Writer}
use Rattle.core_model.specs.declared.tab.Tab.{Tab}
use Rattle.core_model.specs.declared.tab.Tab.TheVariants.{Writing}
use Rattle.core_model.specs.declared.view.View.{View}
use Rattle.core_model.specs.AnchorMoves.{MayEnd, MayRaise, StartsRight}
use Rattle.core_model.specs.Chains.{Tied, no_chain, rest_of, slots_of_link}
use Rattle.core_model.specs.Layout.{Setting}
use Rattle.core_model.specs.SlotMoves.{MayPublish}
use Rattle.core_model.specs.Sound.{Sound}
use Rattle.core_model.specs.State.{State, chain_of, word}
use Rattle.core_model.specs.Steps.{after, halted, longer}
use Rattle.core_model.specs.Table.{MayStep}
use Rattle.core_model.specs.Tabs.{anchor_of, tab_at, IsPass, OfFreer, OfWriter}
use Rattle.core_model.specs.Trails.{last_find}
use Rattle.core_model.proofs.Lists.{contains_none}
use Rattle.core_model.proofs.ReservesKept.{of_freer, of_writer, tab_was}
use Rattle.core_alone.proofs.Others.{ComesTo, raising_at, writing_at}
use Rattle.core_alone.proofs.Tabbing.{TabsHave, has_there}

module _ {X : Type 0} (k : Setting X) (s : State X) (i : ℕ) (v : View X) (so : Sound k s) (at : get_elem? s.views i ≡ some v) where
  -- a tab of the pass that writes at the anchor has reserved the slot
  pub record HasReserved (a slot : ℕ) : Type 0 where
    pub t : ℕ
    pub writer : Writer X
    pub there : get_elem? v.tabs t ≡ some (Writing writer)
    pub anchor_is : writer.anchor ≡ a
    pub reserved : Contains writer.reserved slot

  -- the slots of the chain c at the anchor are those that it had, or those of a tab there
  abbrev pub Grows : ℕ → Chain → Type 0
  Grows a c =
      (slot : ℕ) → Contains (c.slots ++ c.tail) slot → Contains ((chain_of s a).slots ++ (chain_of s a).tail) slot ⊎ HasReserved a slot

  module _ (A : ℕ → Type 0) (B : ℕ → ℕ → Type 0) (all : TabsHave A B v.tabs) where
    -- what becomes of it: it stays, or the pass comes there
    abbrev pub Becomes : ℕ → Chain → Type 0
    Becomes a c = (c ≡ chain_of s a) ⊎ (A a × Grows a c)

    gone : (a b : ℕ) (hit : Bool) → A b → Becomes a (get_or (cond hit (set s.chains b no_chain) s.chains) a no_chain)
    gone a b false come = inl refl
    gone a b true come = dite (ℕ_discrete a b)
        (λ e. inr (
          subst A (sym e) come,
          λ slot c. absurd
              (nothing slot (subst (λ (z : Chain). Contains (z.slots ++ z.tail) slot) (empty e) c)),
        ))
        (λ ne. inl (get_or-set_other s.chains b a no_chain no_chain ne))
      where
        nothing : (slot : ℕ) → Contains (no_chain.slots ++ no_chain.tail) slot → ⊥
        nothing slot c = contains_none slot c

        empty : a ≡ b → get_or (set s.chains b no_chain) a no_chain ≡ no_chain
        empty e = dite (ℕ_discrete (length s.chains - b) 0)
            (λ past. ap (λ (z : ℕ). get_or (set s.chains b no_chain) z no_chain) e ∙ set_past s.chains b (omega arith))
            (λ inside. subst (λ (z : ℕ). get_or (set s.chains b no_chain) z no_chain ≡ no_chain) (sym e)
            (get_or-set_same s.chains b no_chain no_chain (omega arith)))
          where
            set_past : (xs : List Chain) (b : ℕ) → length xs ≤ b → get_or (set xs b no_chain) b no_chain ≡ no_chain
            set_past [] b le = refl
            set_past (x ∷ xs) zero le = absurd (omega arith)
            set_past (x ∷ xs) (suc b) le = set_past xs b (omega arith)

    there : IsPass v → (t : ℕ) → t ≤ 8 → (x : Tab X) → tab_at v t ≡ x → get_elem? v.tabs t ≡ some x
    there pass t le x e = tab_was k s i v so.anchors so.slots at pass t x le e

    module _ (t : ℕ) (x : Writer X) (was : get_elem? v.tabs t ≡ some (Writing x)) where
      -- its chain is what it published, and the slot that the last link names it has reserved
      linked : (slot : ℕ) → Contains (slots_of_link (chain_of s x.anchor).end) slot → HasReserved x.anchor slot
      linked slot c = record {
        t = t;
        writer = x;
        there = was;
        anchor_is = refl;
        reserved =
            tied x.end x.published x.reserved slot holds.tied (subst (λ (z : Chain). Contains (slots_of_link z.end) slot) holds.chain c);
      }
        where
          holds : Rattle.core_model.specs.Slots.WriterHolds ((Rattle.core_model.specs.Slots.slot_words k s.words).beside x.anchor)
              (chain_of s x.anchor) x
          holds = so.slots.tabs i v at t (Writing x) was

          tied : (e : Link) (published reserved : List ℕ) (slot : ℕ) → Tied e published reserved → Contains (slots_of_link e) slot
              → Contains reserved slot
          tied NotWritten published reserved slot h c = absurd (contains_none slot c)
          tied LastLink published reserved slot h c = absurd (contains_none slot c)
          tied (Next y) published reserved slot h (zero, lt, e) = subst (λ (z : List ℕ). Contains z slot) (sym h) (0, omega arith, e)
          tied (Next y) published reserved slot h (suc j, lt, e) = absurd (omega arith)

      halts : (a : ℕ) → a < k.anchors → A x.anchor → Becomes a (get_or (set s.chains x.anchor (halted (chain_of s x.anchor))) a no_chain)
      halts a lt come = dite (ℕ_discrete a x.anchor)
          (λ e. inr (
            subst A (sym e) come,
            λ slot c. in_halted e slot
                (subst (λ (z : Chain). Contains (z.slots ++ z.tail) slot) (here e) c),
          ))
          (λ ne. inl (get_or-set_other s.chains x.anchor a (halted (chain_of s x.anchor)) no_chain ne))
        where
          here : a ≡ x.anchor → get_or (set s.chains x.anchor (halted (chain_of s x.anchor))) a no_chain ≡ halted (chain_of s x.anchor)
          here e = subst (λ (z : ℕ). get_or (set s.chains x.anchor (halted (chain_of s x.anchor))) z no_chain ≡ halted
              (chain_of s x.anchor)) (sym e)
              (get_or-set_same s.chains x.anchor (halted (chain_of s x.anchor)) no_chain (let m = so.anchors.shaped.chains in omega arith))

          in_halted : a ≡ x.anchor → (slot : ℕ)
              → Contains ((halted (chain_of s x.anchor)).slots ++ (halted (chain_of s x.anchor)).tail) slot
              → Contains ((chain_of s a).slots ++ (chain_of s a).tail) slot ⊎ HasReserved a slot
          in_halted e slot c = subst (λ (z : ℕ). Contains ((chain_of s z).slots ++ (chain_of s z).tail) slot ⊎ HasReserved z slot) (sym e)
              (⊎_elim (λ (h : Contains (chain_of s x.anchor).slots slot). inl
              (Contains-append_left (chain_of s x.anchor).slots (chain_of s x.anchor).tail slot h))
              (λ (h : Contains (slots_of_link (chain_of s x.anchor).end) slot). inr (linked slot h))
              (Contains-append_cases (chain_of s x.anchor).slots (slots_of_link (chain_of s x.anchor).end) slot c))

      publishes : (a slot : ℕ) (link : Link) → a < k.anchors → A x.anchor → x.reserved ≡ slot ∷ rest_of x.reserved
          → Becomes a (get_or (set s.chains x.anchor (longer (chain_of s x.anchor) slot link)) a no_chain)
      publishes a slot link lt come first = dite (ℕ_discrete a x.anchor)
          (λ e. inr (subst A (sym e) come, λ y c. in_longer e y (subst (λ (z : Chain). Contains (z.slots ++ z.tail) y) (here e) c)))
          (λ ne. inl (get_or-set_other s.chains x.anchor a (longer (chain_of s x.anchor) slot link) no_chain ne))
        where
          here : a ≡ x.anchor
              → get_or (set s.chains x.anchor (longer (chain_of s x.anchor) slot link)) a no_chain ≡ longer (chain_of s x.anchor) slot link
          here e = subst (λ (z : ℕ). get_or (set s.chains x.anchor (longer (chain_of s x.anchor) slot link)) z no_chain ≡ longer
              (chain_of s x.anchor) slot link) (sym e)
              (get_or-set_same s.chains x.anchor (longer (chain_of s x.anchor) slot link) no_chain
              (let m = so.anchors.shaped.chains in omega arith))

          one_reserved : (y : ℕ) → Contains (slot ∷ []) y → HasReserved x.anchor y
          one_reserved y (zero, lt, e) = record {
            t = t;
            writer = x;
            there = was;
            anchor_is = refl;
            reserved = subst
                (λ (z : List ℕ). Contains z y) (sym first) (0, omega arith, e);
          }
          one_reserved y (suc j, lt, e) = absurd (omega arith)

          in_longer : a ≡ x.anchor → (y : ℕ)
              → Contains ((longer (chain_of s x.anchor) slot link).slots ++ (longer (chain_of s x.anchor) slot link).tail) y
              → Contains ((chain_of s a).slots ++ (chain_of s a).tail) y ⊎ HasReserved a y
          in_longer e y c = subst (λ (z : ℕ). Contains ((chain_of s z).slots ++ (chain_of s z).tail) y ⊎ HasReserved z y) (sym e)
              (⊎_elim (λ (h : Contains ((chain_of s x.anchor).slots ++ slot ∷ []) y). ⊎_elim
              (λ (g : Contains (chain_of s x.anchor).slots y). inl
              (Contains-append_left (chain_of s x.anchor).slots (chain_of s x.anchor).tail y g))
              (λ (g : Contains (slot ∷ []) y). inr (one_reserved y g))
              (Contains-append_cases (chain_of s x.anchor).slots (slot ∷ []) y h))
              (λ (h : Contains [] y). absurd (contains_none y h))
              (Contains-append_cases ((chain_of s x.anchor).slots ++ slot ∷ []) [] y c))

    raise_halted : (t a : ℕ) → a < k.anchors → MayStep k s v (Raise t Halted)
        → Becomes a (get_or (set s.chains (anchor_of (tab_at v t)) (halted (get_or s.chains (anchor_of (tab_at v t)) no_chain))) a no_chain)
    raise_halted t a lt may = ⊎_elim
        (λ (h : OfWriter (λ w. MayRaise w Halted × StartsRight k s w) (tab_at v t)). let q = of_writer
        (λ w. MayRaise w Halted × StartsRight k s w) (tab_at v t) h in
        subst (λ (z : Tab X). Becomes a (get_or (set s.chains (anchor_of z) (halted (get_or s.chains (anchor_of z) no_chain))) a no_chain))
        (sym q.1)
        (halts t q.0 (there may.pass t may.allowed.0 (Writing q.0) q.1) a lt
        (subst (λ (z : Tab X). A (anchor_of z)) q.1
        (raising_at A B (λ w. MayRaise w Halted × StartsRight k s w) (λ f. MayEnd f Halted) (tab_at v t) may.allowed.1
        (has_there A B v.tabs t all)))))
        (λ (h : OfFreer (λ f. MayEnd f Halted) (tab_at v t)). let q = of_freer (λ f. MayEnd f Halted) (tab_at v t) h in absurd q.2)
        may.allowed.1

    pub chain_becomes : (m : Move) → MayStep k s v m → ComesTo A m → (a : ℕ) → a < k.anchors → Becomes a (chain_of (after k s i v m) a)
    chain_becomes (Take t b u) may come a lt = gone a b (word s b == last_find b v.trail) come
    chain_becomes (Evict t b) may come a lt = gone a b (word s b == last_find b v.trail) come
    chain_becomes (Raise t Halted) may come a lt = raise_halted t a lt may
    chain_becomes (Publish t slot link) may come a lt = let q = of_writer (MayPublish k s slot link) (tab_at v t) may.allowed.1 in
        subst (λ (z : Tab X). Becomes a (get_or (set s.chains (anchor_of z)
        (longer (get_or s.chains (anchor_of z) no_chain) slot link)) a no_chain)) (sym q.1)
        (publishes t q.0 (there may.pass t (let z = may.allowed.0 in omega arith) (Writing q.0) q.1) a slot link lt
        (subst (λ (z : Tab X). A (anchor_of z)) q.1
        (writing_at A B (MayPublish k s slot link) (tab_at v t) may.allowed.1 (has_there A B v.tabs t all))) q.2.first)
    chain_becomes m may come a lt = inl refl
