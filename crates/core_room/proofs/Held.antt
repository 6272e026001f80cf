-- What steps make of the slots of an anchor, in its chain, in its tail and at the tabs of one pass: but where a search begins there come to
-- be no more.
use Rattle.std.proofs.Common.{Bool, List, Some, [], ap, arith, cond, eq-eqb, false, get_or, length, ne_eqb, refl, set, suc, sum_by, sym, true, zero, ◌+◌, ◌∷◌, ◌≡◌, ◌≢◌, ◌≤◌, ℕ}
use Rattle.std.proofs.lemmas.List.{length-append}
use mathlib.Core.Logic.{dite}
use native.Mathlib.Decide.{ℕ_discrete}
use Rattle.link_word.specs.declared.link.Link.{Link}
use Rattle.core_model.specs.declared.tab.Freer.{Freer}
use Rattle.core_model.specs.declared.tab.Tab.{Tab}
use Rattle.core_model.specs.declared.tab.Tab.TheVariants.{Free, Freeing, Writing}
use Rattle.core_model.specs.declared.tab.Writer.{Writer}
use Rattle.core_model.specs.declared.chain.Chain.{Chain}
use Rattle.core_model.specs.Chains.{no_chain, rest_of, slots_of_link}
use Rattle.core_model.specs.Spots.{slots_chained}
use Rattle.core_model.specs.Tabs.{inner}
use Rattle.core_model.specs.AnchorMoves.{freer_of, left_tab, writer_of}
use Rattle.core_model.specs.SlotMoves.{publishes, reserves}
use Rattle.core_model.specs.Steps.{halted, longer}
use Rattle.core_room.specs.Room.{holds_at, running}
use Rattle.core_room.proofs.Tabs.{Less, left_less, set_less, set_more, set_tab}

-- a chain of a list becomes another
set_chain : (cs : List Chain) (a : ℕ) (d : Chain) (b m : ℕ) → (b ≡ a → slots_chained d ≤ m)
    → (b ≢ a → slots_chained (get_or cs b no_chain) ≤ m) → slots_chained (get_or (set cs a d) b no_chain) ≤ m
set_chain [] a d b m p q = omega arith
set_chain (c ∷ cs) zero d zero m p q = p refl
set_chain (c ∷ cs) zero d (suc b) m p q = q (λ e. absurd (omega arith))
set_chain (c ∷ cs) (suc a) d zero m p q = q (λ e. absurd (omega arith))
set_chain (c ∷ cs) (suc a) d (suc b) m p q = set_chain cs a d b m (λ e. p (ap suc e)) (λ ne. q (λ e. ne (omega arith)))

module _ {X : Type 0} where
  -- what a writing and a freeing tab have of an anchor
  pub writer_here : (a : ℕ) (w : Writer X) → w.anchor ≡ a → holds_at a (Writing w) ≡ length w.reserved + running w.claim
  writer_here a w e = let z = eq-eqb w.anchor a e in rw z refl

  pub writer_else : (a : ℕ) (w : Writer X) → w.anchor ≢ a → holds_at a (Writing w) ≡ 0
  writer_else a w ne = let z = ne_eqb w.anchor a ne in rw z refl

  freer_here : (a : ℕ) (f : Freer X) → f.anchor ≡ a → holds_at a (Freeing f) ≡ length f.rest + length f.loose
  freer_here a f e = let z = eq-eqb f.anchor a e in rw z refl

  freer_else : (a : ℕ) (f : Freer X) → f.anchor ≢ a → holds_at a (Freeing f) ≡ 0
  freer_else a f ne = let z = ne_eqb f.anchor a ne in rw z refl

  -- the slots of the anchor a in these chains and at these tabs of one pass
  abbrev pub at_anchor : List Chain → List (Tab X) → ℕ → ℕ
  at_anchor cs tabs a = slots_chained (get_or cs a no_chain) + sum_by (holds_at a) tabs

module _ {X : Type 0} (cs : List Chain) (tabs : List (Tab X)) where
  -- a tab has no more than it had, and chains stay
  pub stays : (t : ℕ) (y : Tab X) → Less (get_or tabs t Free) y → (b : ℕ) → at_anchor cs (set tabs t y) b ≤ at_anchor cs tabs b
  stays t y less b = let h = set_less (holds_at b) refl tabs t y (less.held b) in omega arith

  -- the chain of an anchor goes to a tab that frees
  gone : (a b : ℕ) (c : Bool) (n : ℕ)
      → slots_chained (get_or (set cs a no_chain) b no_chain) + holds_at {X = X} b (Freeing (freer_of a c n (get_or cs a no_chain)))
      ≤ slots_chained (get_or cs b no_chain)
  gone a b c n = let f : Freer X = freer_of a c n (get_or cs a no_chain) in dite (ℕ_discrete b a)
      (λ e. let h = freer_here b f (sym e) in let l = length-append (get_or cs a no_chain).slots (get_or cs a no_chain).tail in
      let q = ap (λ (z : ℕ). slots_chained (get_or cs z no_chain)) e in
      let d = set_chain cs a no_chain b 0 (λ _. omega arith) (λ ne. absurd (ne e)) in omega arith)
      (λ ne. let h = freer_else b f (λ e. ne (sym e)) in let d = set_chain cs a no_chain b (slots_chained (get_or cs b no_chain))
      (λ e. absurd (ne e)) (λ _. omega arith) in omega arith)

  emptied_chain : (a b : ℕ) → slots_chained (get_or (set cs a no_chain) b no_chain) ≤ slots_chained (get_or cs b no_chain)
  emptied_chain a b = set_chain cs a no_chain b (slots_chained (get_or cs b no_chain)) (λ _. omega arith) (λ _. omega arith)

  new_writer : (a b u : ℕ) → holds_at {X = X} b (Writing (writer_of a u)) ≡ 0
  new_writer a b u = dite (ℕ_discrete a b) (λ e. writer_here {X = X} b (writer_of a u) e) (λ ne. writer_else {X = X} b (writer_of a u) ne)

  pub taken : (hit idle : Bool) (t a u n b : ℕ) → at_anchor (cond hit (set cs a no_chain) cs)
      (cond hit
      (set (cond idle (set tabs inner (Freeing (freer_of a false n (get_or cs a no_chain)))) tabs) t (Writing (writer_of a u))) tabs) b
      ≤ at_anchor cs tabs b
  taken false idle t a u n b = omega arith
  taken true true t a u n b = let f : Tab X = Freeing (freer_of a false n (get_or cs a no_chain)) in
      let x = set_more (holds_at b) refl (set tabs inner f) t (Writing (writer_of a u)) in
      let y = set_more (holds_at b) refl tabs inner f in let g = gone a b false n in let z = new_writer a b u in omega arith
  taken true false t a u n b = let x = set_more (holds_at b) refl tabs t (Writing (writer_of a u)) in let z = new_writer a b u in
      let d = emptied_chain a b in omega arith

  pub evicted : (hit : Bool) (t a n b : ℕ) → at_anchor (cond hit (set cs a no_chain) cs)
      (cond hit (set (set tabs t Free) inner (Freeing (freer_of a true n (get_or cs a no_chain)))) (set tabs t Free)) b
      ≤ at_anchor cs tabs b
  evicted false t a n b = let x = set_more (holds_at b) refl tabs t Free in omega arith
  evicted true t a n b = let f : Tab X = Freeing (freer_of a true n (get_or cs a no_chain)) in
      let x = set_more (holds_at b) refl (set tabs t Free) inner f in let y = set_more (holds_at b) refl tabs t Free in
      let g = gone a b true n in omega arith

-- A tab that writes, whose chain is what it published.
module _ {X : Type 0} (cs : List Chain) (tabs : List (Tab X)) (t : ℕ) (w : Writer X) (is : get_or tabs t Free ≡ Writing w) where
  -- the tab becomes another one
  now : (y : Tab X) (b : ℕ) → sum_by (holds_at b) (set tabs t y) + holds_at b (Writing w) ≤ sum_by (holds_at b) tabs + holds_at b y
  now y b = let h = set_tab (holds_at b) refl tabs t y in let e = ap (holds_at b) is in omega arith

  -- its entry is halted, with a tail that the tab had reserved
  pub halts : (n b : ℕ) → (get_or cs w.anchor no_chain).end ≡ w.end → w.reserved ≡ slots_of_link w.end
      → at_anchor (set cs w.anchor (halted (get_or cs w.anchor no_chain))) (set tabs t (left_tab w.anchor n)) b ≤ at_anchor cs tabs b
  halts n b end all = let c : Chain = get_or cs w.anchor no_chain in let l : holds_at {X = X} b (left_tab w.anchor n)
      ≤ 0 = (left_less Free w.anchor n).held b in let x = now (left_tab w.anchor n) b in
      let r = ap length all in let q = ap (λ (z : Link). length (slots_of_link z)) end in
      let d = set_chain cs w.anchor (halted c) b (slots_chained (get_or cs b no_chain) + holds_at b (Writing w))
      (λ e. let h = writer_here b w (sym e) in let s = ap (λ (z : ℕ). slots_chained (get_or cs z no_chain)) e in omega arith)
      (λ _. omega arith) in omega arith

  -- a slot that it had reserved is published
  pub shows_one : (slot : ℕ) (link : Link) (b : ℕ) → w.reserved ≡ slot ∷ rest_of w.reserved
      → at_anchor (set cs w.anchor (longer (get_or cs w.anchor no_chain) slot link)) (set tabs t (publishes (Writing w) slot link)) b
      ≤ at_anchor cs tabs b
  shows_one slot link b first = let c : Chain = get_or cs w.anchor no_chain in let y : Tab X = publishes (Writing w) slot link in
      let x = now y b in let r = ap length first in
      let l = length-append c.slots (slot ∷ []) in dite (ℕ_discrete b w.anchor)
      (λ e. let h = writer_here b w (sym e) in let s = ap (λ (z : ℕ). slots_chained (get_or cs z no_chain)) e in let g = one_less (sym e) in
      let d = set_chain cs w.anchor (longer c slot link) b (slots_chained (get_or cs b no_chain) + 1) (λ _. omega arith)
      (λ ne. absurd (ne e)) in omega arith)
      (λ ne. let h = writer_else b w (λ e. ne (sym e)) in let g = none_left (λ e. ne (sym e)) in
      let d = set_chain cs w.anchor (longer c slot link) b (slots_chained (get_or cs b no_chain)) (λ e. absurd (ne e)) (λ _. omega arith) in
      omega arith)
    where
      one_less : w.anchor ≡ b → holds_at b (publishes (Writing w) slot link) ≡ length (rest_of w.reserved) + running w.claim
      one_less e = let z = eq-eqb w.anchor b e in rw z refl

      none_left : w.anchor ≢ b → holds_at b (publishes (Writing w) slot link) ≡ 0
      none_left ne = let z = ne_eqb w.anchor b ne in rw z refl

  -- its search takes a slot, or goes on
  pub wins : (slot : ℕ) (b : ℕ) → w.claim ≡ Some slot → at_anchor cs (set tabs t (reserves (Writing w) slot)) b ≤ at_anchor cs tabs b
  wins slot b come = let x = now (reserves (Writing w) slot) b in let g = as_many in omega arith
    where
      as_many : holds_at b (reserves (Writing w) slot) ≤ holds_at b (Writing w)
      as_many = let l = length-append w.reserved (slot ∷ []) in let r = ap running come in dite (ℕ_discrete w.anchor b)
          (λ e. let z = eq-eqb w.anchor b e in rw z (omega arith))
          (λ ne. let z = ne_eqb w.anchor b ne in rw z (omega arith))

  pub runs_on : (y : Writer X) (p q b : ℕ) → y ≡ record w { claim = Some p } → w.claim ≡ Some q → at_anchor cs (set tabs t (Writing y)) b
      ≤ at_anchor cs tabs b
  runs_on y p q b e come = let x = now (Writing y) b in let f = ap (λ (z : Writer X). holds_at b (Writing z)) e in let g = as_many in
      omega arith
    where
      as_many : holds_at {X = X} b (Writing record w { claim = Some p }) ≤ holds_at b (Writing w)
      as_many = let r = ap running come in dite (ℕ_discrete w.anchor b)
          (λ e. let z = eq-eqb w.anchor b e in rw z (omega arith))
          (λ ne. let z = ne_eqb w.anchor b ne in rw z (omega arith))
