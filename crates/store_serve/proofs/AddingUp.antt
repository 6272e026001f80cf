-- What is drawn and done adds up.
use Rattle.std.proofs.Common.{Bool, Contains, List, None, Option, Some, [], ap, arith, cond, false, inl, inr, refl, subst, suc, sym, true, zero, ◌+◌, ◌++◌, ◌&&◌, ◌==◌, ◌≡◌, ◌⊎◌, ◌∙◌, ◌∷◌, ⊎_elim, ℕ}
use Rattle.std.proofs.lemmas.List.Elements.{Contains-append_cases}
use Rattle.core_model.specs.Table.{deeds_of, item_of, kind_of}
use Rattle.core_model.specs.Trails.{drawn, draws, is_draw}
use Rattle.core_model.specs.declared.moves.Move.{Move}
use Rattle.core_model.specs.declared.moves.Move.TheVariants.{Draw}
use Rattle.core_model.specs.declared.view.Deed.{Deed}
use Rattle.core_model.specs.declared.view.Item.{Item}
use Rattle.core_model.specs.declared.view.View.{View}
use Rattle.store_rule.specs.Ground.{Ground}
use Rattle.store_rule.specs.Told.{Steps}
use Rattle.store_rule.specs.Runs.{Added, Went}
use Rattle.store_serve.specs.Acting.{Acted}
use Rattle.store_serve.proofs.Grown as grown

-- In lists.

pub none_there : {A : Type 0} (x : A) → Contains [] x → ⊥
none_there x (i, lt, e) = omega arith

pub only_one : {A : Type 0} (x y : A) → Contains (x ∷ []) y → x ≡ y
only_one x y (zero, lt, e) = e
only_one x y (suc k, lt, e) = absurd (omega arith)

-- an item that draws nothing draws no version either
undrawn_item : (b c : Bool) (n m : ℕ) → cond b 1 0 + n ≡ 0 → (n ≡ 0 → m ≡ 0) → cond (b && c) 1 0 + m ≡ 0
undrawn_item true c n m e f = absurd (omega arith)
undrawn_item false c n m e f = let z = f (omega arith) in omega arith

pub undrawn : (x : ℕ) (items : List Item) → draws items ≡ 0 → drawn x items ≡ 0
undrawn x [] e = refl
undrawn x (y ∷ ys) e = undrawn_item (is_draw y.kind) (y.found + 1 == x) (draws ys) (drawn x ys) e (λ z. undrawn x ys z)

draws-append : (xs ys : List Item) → draws (xs ++ ys) ≡ draws xs + draws ys
draws-append [] ys = omega arith
draws-append (x ∷ xs) ys = let e = draws-append xs ys in omega arith

drawn-append : (x : ℕ) (xs ys : List Item) → drawn x (xs ++ ys) ≡ drawn x xs + drawn x ys
drawn-append x [] ys = omega arith
drawn-append x (y ∷ xs) ys = let e = drawn-append x xs ys in omega arith

-- one item more that draws nothing
other_item : (b c : Bool) (n : ℕ) → b ≡ false → cond (b && c) 1 0 + n ≡ n
other_item true c n e = cc
other_item false c n e = omega arith

pub other_draw : (b : Bool) (n : ℕ) → b ≡ false → cond b 1 0 + n ≡ n
other_draw true n e = cc
other_draw false n e = omega arith

module _ {X : Type 0} where
  pub at_rest : {P : Deed → Type 0} (v : View X) → Acted None P v v
  at_rest v = record { keeps = grown.stays v; drawn = λ x. omega arith; draws = omega arith; deeds = λ d c. inl c }

  pub same : {P : Deed → Type 0} {v w : View X} → w ≡ v → Acted None P v w
  same {P} {v} {w} e = subst (λ (z : View X). Acted None P v z) (sym e) (at_rest v)

  pub wider : {drew : Option ℕ} {P Q : Deed → Type 0} {v w : View X} → ((d : Deed) → P d → Q d) → Acted drew P v w → Acted drew Q v w
  wider f h = record { keeps = h.keeps; drawn = h.drawn; draws = h.draws; deeds = λ d c. ⊎_elim (λ o. inl o) (λ n. inr (n.0, f d n.1)) (h.deeds d c) }

  deeds_on : (P : Deed → Type 0) (u v w : View X) → v.pass ≡ u.pass → ((d : Deed) → Contains v.deeds d → Contains u.deeds d ⊎ ((d.pass ≡ u.pass) × P d))
      → ((d : Deed) → Contains w.deeds d → Contains v.deeds d ⊎ ((d.pass ≡ v.pass) × P d)) → (d : Deed) → Contains w.deeds d → Contains u.deeds d ⊎ ((d.pass ≡ u.pass) × P d)
  deeds_on P u v w pass first second d c = ⊎_elim (λ o. first d o) (λ n. inr (n.0 ∙ pass, n.1)) (second d c)

  -- first something, and then more without a draw; and the other way round
  pub on : {drew : Option ℕ} {P : Deed → Type 0} {u v w : View X} → Acted drew P u v → Acted None P v w → Acted drew P u w
  on {drew} {P} {u} {v} {w} h k = record {
    keeps = grown.on h.keeps k.keeps;
    drawn = λ x. let a = h.drawn x in let b = k.drawn x in omega arith;
    draws = let a = h.draws in let b = k.draws in omega arith;
    deeds = deeds_on P u v w h.keeps.pass h.deeds k.deeds;
  }

  pub behind : {drew : Option ℕ} {P : Deed → Type 0} {u v w : View X} → Acted None P u v → Acted drew P v w → Acted drew P u w
  behind {drew} {P} {u} {v} {w} h k = record {
    keeps = grown.on h.keeps k.keeps;
    drawn = λ x. let a = h.drawn x in let b = k.drawn x in omega arith;
    draws = let a = h.draws in let b = k.draws in omega arith;
    deeds = deeds_on P u v w h.keeps.pass h.deeds k.deeds;
  }

  -- the other records alone are longer
  deeds_added : {P : Deed → Type 0} (v w : View X) (done : List Deed) → w.deeds ≡ done ++ v.deeds → ((d : Deed) → Contains done d → (d.pass ≡ v.pass) × P d)
      → (d : Deed) → Contains w.deeds d → Contains v.deeds d ⊎ ((d.pass ≡ v.pass) × P d)
  deeds_added v w done e so d c = ⊎_elim (λ n. inr (so d n)) (λ o. inl o) (Contains-append_cases done v.deeds d (subst (λ (z : List Deed). Contains z d) e c))

module _ {X : Type 0} {g : Ground X} where
  -- steps of which none drew
  pub by_run : {P : Deed → Type 0} {v w : View X} {added : Added} → Went g v added w → draws added.items ≡ 0 → ((d : Deed) → Contains added.done d → (d.pass ≡ v.pass) × P d) → Acted None P v w
  by_run {P} {v} {w} {added} went none so = record {
    keeps = grown.by_run went;
    drawn = λ x. let a = undrawn x added.items none in let b = drawn-append x added.items v.trail in ap (drawn x) went.trail ∙ (omega arith);
    draws = let b = draws-append added.items v.trail in ap draws went.trail ∙ (omega arith);
    deeds = deeds_added {P = P} v w added.done went.deeds so;
  }

  pub quiet_run : {P : Deed → Type 0} {v w : View X} {added : Added} → Went g v added w → draws added.items ≡ 0 → added.done ≡ [] → Acted None P v w
  quiet_run {P} {v} {w} {added} went none calm = by_run went none (λ d c. absurd (none_there d (subst (λ (z : List Deed). Contains z d) calm c)))

  -- one step
  pub by_step : {P : Deed → Type 0} {v w : View X} {m : Move} {n : ℕ} → Steps g v m n w → is_draw (kind_of m) ≡ false → ((d : Deed) → Contains (deeds_of v m n) d → (d.pass ≡ v.pass) × P d) → Acted None P v w
  by_step {P} {v} {w} {m} {n} st none so = record {
    keeps = grown.by_step st;
    drawn = λ x. ap (drawn x) (ap View.trail st.leaves) ∙ other_item (is_draw (kind_of m)) ((item_of v m n).found + 1 == x) (drawn x v.trail) none ∙ (omega arith);
    draws = ap draws (ap View.trail st.leaves) ∙ other_draw (is_draw (kind_of m)) (draws v.trail) none ∙ (omega arith);
    deeds = deeds_added {P = P} v w (deeds_of v m n) (ap View.deeds st.leaves) so;
  }

  pub quiet_step : {P : Deed → Type 0} {v w : View X} {m : Move} {n : ℕ} → Steps g v m n w → is_draw (kind_of m) ≡ false → deeds_of v m n ≡ [] → Acted None P v w
  quiet_step {P} {v} {w} {m} {n} st none calm = by_step st none (λ d c. absurd (none_there d (subst (λ (z : List Deed). Contains z d) calm c)))

  -- with one deed
  pub deed_step : {P : Deed → Type 0} {v w : View X} {m : Move} {n : ℕ} (done : Deed) → Steps g v m n w → is_draw (kind_of m) ≡ false → deeds_of v m n ≡ done ∷ [] → done.pass ≡ v.pass → P done → Acted None P v w
  deed_step {P} {v} {w} {m} {n} done st none is pass so = by_step st none (λ d c. let e = only_one done d (subst (λ (z : List Deed). Contains z d) is c) in (ap Deed.pass (sym e) ∙ pass, subst P e so))

  -- a draw
  pub draw_step : {P : Deed → Type 0} {v w : View X} {n : ℕ} → Steps g v Draw n w → Acted (Some (n + 1)) P v w
  draw_step {P} {v} {w} {n} st = record {
    keeps = grown.by_step st;
    drawn = λ x. ap (drawn x) (ap View.trail st.leaves);
    draws = ap draws (ap View.trail st.leaves);
    deeds = deeds_added {P = P} v w [] (ap View.deeds st.leaves) (λ d c. absurd (none_there d c));
  }
