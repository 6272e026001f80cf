-- What a pass knows grows with each step, and along each run of steps.
use Rattle.std.proofs.Common.{Contains, List, ap, append_assoc, refl, subst, sym, ◌++◌, ◌∙◌, ◌∷◌, ◌≡◌, [], ℕ}
use Rattle.std.proofs.lemmas.List.Elements.{Contains-append_right}
use Rattle.core_model.specs.declared.moves.Move.{Move}
use Rattle.core_model.specs.declared.view.Item.{Item}
use Rattle.core_model.specs.declared.view.Sight.{Sight}
use Rattle.core_model.specs.declared.view.View.{View}
use Rattle.core_model.specs.Table.{item_of, met_of, sights_of}
use Rattle.store_rule.specs.Ground.{Ground}
use Rattle.store_rule.specs.Told.{Steps, found_as}
use Rattle.store_rule.specs.Runs.{Added, Went}
use Rattle.core_model.specs.Knowing.{KnowsAll}
use Rattle.store_serve.specs.Growing.{GrowsTo}

behind : {A : Type 0} (new old all : List A) (x : A) → all ≡ new ++ old → Contains old x → Contains all x
behind {A} new old all x e h = subst (λ (z : List A). Contains z x) (sym e) (Contains-append_right new old x h)

module _ {X : Type 0} where
  pub stays : (v : View X) → GrowsTo v v
  stays v = record { pass = refl; seen = λ x h. h; trail = ([], refl); met = λ a h. h }

  pub same : {v w : View X} → w ≡ v → GrowsTo v w
  same {v} {w} e = subst (λ (z : View X). GrowsTo v z) (sym e) (stays v)

  pub on : {u v w : View X} → GrowsTo u v → GrowsTo v w → GrowsTo u w
  on {u} {v} {w} h k = record {
    pass = k.pass ∙ h.pass;
    seen = λ x c. k.seen x (h.seen x c);
    trail = (k.trail.0 ++ h.trail.0, k.trail.1 ∙ ap (λ (xs : List Item). k.trail.0 ++ xs) h.trail.1 ∙ sym (append_assoc k.trail.0 h.trail.0 u.trail));
    met = λ a c. k.met a (h.met a c);
  }

  -- a pass whose steps stand in order still has lost none of them
  pub knows_all : {v w : View X} → GrowsTo v w → KnowsAll v w
  knows_all {v} {w} h = record {
    pass = h.pass;
    seen = h.seen;
    trail = λ x c. behind h.trail.0 v.trail w.trail x h.trail.1 c;
    met = h.met;
  }

  pub longer : {v w : View X} (items : List Item) (sights : List Sight) (meetings : List ℕ) → w.pass ≡ v.pass → w.trail ≡ items ++ v.trail → w.seen ≡ sights ++ v.seen → w.met ≡ meetings ++ v.met → GrowsTo v w
  longer {v} {w} items sights meetings pass trail seen met = record {
    pass = pass;
    seen = λ x h. behind sights v.seen w.seen x seen h;
    trail = (items, trail);
    met = λ a h. behind meetings v.met w.met a met h;
  }

module _ {X : Type 0} {g : Ground X} where
  pub by_step : {v w : View X} {m : Move} {n : ℕ} → Steps g v m n w → GrowsTo v w
  by_step {v} {w} {m} {n} st = let x = found_as g.setting st.state v m n in
      longer (item_of v m n ∷ []) (sights_of v m x) (met_of v m x) (ap View.pass st.leaves) (ap View.trail st.leaves) (ap View.seen st.leaves) (ap View.met st.leaves)

  pub by_run : {v w : View X} {d : Added} → Went g v d w → GrowsTo v w
  by_run {v} {w} {d} went = longer d.items d.sights d.meetings went.pass went.trail went.seen went.met
