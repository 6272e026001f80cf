-- The epochs that a line shows.
use Rattle.std.proofs.Common.{Bool, Contains, List, Option, Some, [], ap, arith, cond, eq-eqb, false, refl, subst, sym, true, ⊎_elim, ◌==◌, ◌∙◌, ◌∷◌, ◌≡◌, ◌<◌, ◌≤◌, ℕ}
use Rattle.std.proofs.lemmas.Bool.{eqb-true}
use Rattle.std.proofs.lemmas.List.Elements.{Contains-append_right}
use Rattle.store_key.specs.Anchor.{anchor_of}
use Rattle.store_key.specs.Key.{key_of}
use Rattle.core_model.specs.Trails.{seen_at, stood}
use Rattle.core_model.specs.Versions.{Leads}
use Rattle.core_model.specs.declared.view.Sight.{Sight}
use Rattle.core_model.specs.declared.view.Sight.TheVariants.{Stood}
use Rattle.core_model.specs.declared.view.View.{View}
use Rattle.core_model.proofs.Lists.{cons_contains, contains_none}
use Rattle.line_account.specs.Lines.{IsAnchorOf, Served, url_at}
use Rattle.line_account.specs.Accounts.{Shows, epochs_of}
use Rattle.line_account.specs.Deeds.{Begins}
use Rattle.lock_word.specs.Words.{stage_of, version_of}
use Rattle.store_serve.specs.Growing.{GrowsTo}
use Rattle.store_rule.specs.Calls.{IsFresh}

-- Of an anchor of which nothing was seen no epoch was.

stood_none : (a : ℕ) (x : Sight) → ((e : ℕ) → x ≡ Stood a e → ⊥) → stood a x ≡ 0
stood_none a (Stood b e) never = here (b == a) refl
  where
    here : (is : Bool) → (b == a) ≡ is → cond is e 0 ≡ 0
    here true q = absurd (never e (ap (λ (z : ℕ). Stood z e) (eqb-true b a q)))
    here false q = refl
stood_none a _ never = refl

pub nothing_seen : (a : ℕ) (xs : List Sight) → ((e : ℕ) → Contains xs (Stood a e) → ⊥) → seen_at a xs ≡ 0
nothing_seen a [] never = refl
nothing_seen a (x ∷ xs) never =
    let first = stood_none a x (λ e q. never e (0, omega arith, q)) in
    let rest = nothing_seen a xs (λ e c. never e (Contains-append_right (x ∷ []) xs (Stood a e) c)) in
    omega arith

-- What was seen is not above what is seen later.

stood_below : (a : ℕ) (x : Sight) (ys : List Sight) → Contains ys x → stood a x ≤ seen_at a ys
stood_below a x [] h = absurd (contains_none x h)
stood_below a x (y ∷ ys) h = ⊎_elim
    (λ (q : y ≡ x). let e : stood a y ≡ stood a x = ap (stood a) q in omega arith)
    (λ (q : Contains ys x). let r = stood_below a x ys q in omega arith)
    (cons_contains y x ys h)

seen_epoch : (a d : ℕ) (ys : List Sight) → Contains ys (Stood a d) → d ≤ seen_at a ys
seen_epoch a d ys h = let low = stood_below a (Stood a d) ys h in let here : stood a (Stood a d) ≡ d = ap (λ (b : Bool). cond b d 0) (eq-eqb a a refl) in omega arith

pub seen_below : (a : ℕ) (xs ys : List Sight) → ((x : Sight) → Contains xs x → Contains ys x) → seen_at a xs ≤ seen_at a ys
seen_below a [] ys f = omega arith
seen_below a (x ∷ xs) ys f =
    let first = stood_below a x ys (f x (0, omega arith, refl)) in
    let rest = seen_below a xs ys (λ y c. f y (Contains-append_right (x ∷ []) xs y c)) in
    omega arith

-- The epoch is not below what the pass with the view v had seen at the anchor. The stages that it had seen of the version lead to its stage,
-- and with the view w it has seen it.
pub record IsInTurn {X : Type 0} (a epoch : ℕ) (v w : View X) : Type 0 where
  pub above : seen_at a v.seen ≤ epoch
  pub leads : (d : ℕ) → Contains v.seen (Stood a d) → version_of d ≡ version_of epoch → Leads (stage_of d) (stage_of epoch)
  pub seen : Contains w.seen (Stood a epoch)

module _ {X : Type 0} where
  -- it was fresh for a pass that knew less
  pub fresh_from : {a e : ℕ} {u v w : View X} → GrowsTo u v → IsFresh a e v w → IsFresh a e u w
  fresh_from {a} {e} {u} {v} {w} keeps h = record { above = let m = seen_below a u.seen v.seen keeps.seen in let k = h.above in omega arith; seen = h.seen }

  pub fresh_to : {a e : ℕ} {u v w : View X} → IsFresh a e u v → GrowsTo v w → IsFresh a e u w
  fresh_to h keeps = record { above = h.above; seen = keeps.seen _ h.seen }

  -- and in turn
  pub turn_from : {a e : ℕ} {u v w : View X} → GrowsTo u v → IsInTurn a e v w → IsInTurn a e u w
  turn_from {a} {e} {u} {v} {w} keeps h = record {
    above = let m = seen_below a u.seen v.seen keeps.seen in let k = h.above in omega arith;
    leads = λ d c same. h.leads d (keeps.seen (Stood a d) c) same;
    seen = h.seen;
  }

  pub turn_to : {a e : ℕ} {u v w : View X} → IsInTurn a e u v → GrowsTo v w → IsInTurn a e u w
  turn_to h keeps = record { above = h.above; leads = h.leads; seen = keeps.seen _ h.seen }

  -- an epoch of a later version than was seen there is in turn
  pub later_turn : {a e : ℕ} {v w : View X} → version_of (seen_at a v.seen) < version_of e → IsFresh a e v w → IsInTurn a e v w
  later_turn {a} {e} {v} {w} later h = record {
    above = h.above;
    leads = λ d c same. absurd (let below : d ≤ seen_at a v.seen = seen_epoch a d v.seen c in let up : version_of d ≤ version_of (seen_at a v.seen) = omega arith in omega arith);
    seen = h.seen;
  }

pub one_there : (e x : ℕ) → Contains (e ∷ []) x → e ≡ x
one_there e x h = ⊎_elim (λ (q : e ≡ x). q) (λ (q : Contains [] x). absurd (contains_none x q)) (cons_contains e x [] h)

same_url : (url other : List ℕ) → Some url ≡ Some other → url ≡ other
same_url url other e = cc

-- the anchor of a line that names this URL
pub anchor_at : (anchors : ℕ) (named : Option (List ℕ)) (url : List ℕ) (a : ℕ) → named ≡ Some url → IsAnchorOf anchors named a → anchor_of (key_of url) anchors ≡ a
anchor_at anchors named url a is h = ap (λ (u : List ℕ). anchor_of (key_of u) anchors) (same_url url h.url (sym is ∙ h.named_is)) ∙ sym h.anchor

-- a line that drew a version, where this is later than all that was seen
pub drawn_above : (anchors : ℕ) (s : Served) (sights : List Sight) (version : ℕ) → s.drew ≡ Some version → ((b : ℕ) → version_of (seen_at b sights) < version) → (a b x : ℕ) → Begins anchors s a x → version_of (seen_at b sights) < x
drawn_above anchors s sights version drew later a b x h = let same : Some version ≡ Some x = sym drew ∙ h.drew in let is : version ≡ x = cc in let below = later b in omega arith

module _ {X : Type 0} (anchors : ℕ) (v w : View X) (earlier : List Served) (s : Served) where
  -- each epoch that the line shows is in turn
  abbrev pub ShowsInTurn : Type 0
  ShowsInTurn = (a e : ℕ) → Shows anchors earlier s a e → IsInTurn a e v w

  pub shows_none : epochs_of s.opened s.looked s.answer ≡ [] → ShowsInTurn
  shows_none none a e h = absurd (contains_none e (subst (λ (l : List ℕ). Contains l e) none h.shown))

  module _ (url : List ℕ) (named : url_at earlier s.asked.request ≡ Some url) where
    there : (a e f : ℕ) → Shows anchors earlier s a e → f ≡ e → IsInTurn (anchor_of (key_of url) anchors) f v w → IsInTurn a e v w
    there a e f h same turn = subst (λ (z : ℕ). IsInTurn a z v w) same
        (subst (λ (b : ℕ). IsInTurn b f v w) (anchor_at anchors (url_at earlier s.asked.request) url a named h.at) turn)

    pub shows_one : (f : ℕ) → epochs_of s.opened s.looked s.answer ≡ f ∷ [] → IsInTurn (anchor_of (key_of url) anchors) f v w → ShowsInTurn
    shows_one f one turn a e h = there a e f h (one_there f e (subst (λ (l : List ℕ). Contains l e) one h.shown)) turn

    pub shows_two : (f g : ℕ) → epochs_of s.opened s.looked s.answer ≡ f ∷ g ∷ [] → IsInTurn (anchor_of (key_of url) anchors) f v w → IsInTurn (anchor_of (key_of url) anchors) g v w → ShowsInTurn
    shows_two f g both first second a e h = ⊎_elim
        (λ (q : f ≡ e). there a e f h q first)
        (λ (q : Contains (g ∷ []) e). there a e g h (one_there g e q) second)
        (cons_contains f e (g ∷ []) (subst (λ (l : List ℕ). Contains l e) both h.shown))
