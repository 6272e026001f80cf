-- A line that set or met a mark, or did not meet it.
use Rattle.std.proofs.Common.{Bool, Contains, List, None, [], ap, arith, get_or, inl, inr, refl, subst, sym, ◌++◌, ◌∙◌, ◌∷◌, ◌≡◌, ℕ}
use Rattle.std.proofs.lemmas.List.Elements.{Contains-append_right}
use Rattle.std.specs.Prelude.{◌≢◌}
use Rattle.rock_disk.specs.Cell.{CellState}
use Rattle.script_text.specs.declared.answer.Answer.{Answer}
use Rattle.script_text.specs.declared.answer.Answer.TheVariants as answer
use Rattle.script_text.specs.declared.line.Line.{Line}
use Rattle.script_text.specs.declared.request.Request.TheVariants.{Await, Mark}
use Rattle.core_model.specs.Tabs.{inner, is_free}
use Rattle.core_model.specs.Trails.{drawn, draws}
use Rattle.core_model.specs.declared.tab.Tab.{Tab}
use Rattle.core_model.specs.declared.tab.Tab.TheVariants.{Free}
use Rattle.core_model.specs.declared.view.Item.{Item}
use Rattle.core_model.specs.declared.view.Kind.TheVariants.{Learned, Noted}
use Rattle.core_model.specs.declared.view.Sight.{Sight}
use Rattle.core_model.specs.declared.view.View.{View}
use Rattle.store_serve.specs.Growing.{GrowsTo}
use Rattle.line_account.specs.Lines.{Served}
use Rattle.line_account.specs.Steps.{AtMark, IsIdle as IsStill}
use Rattle.line_account.proofs.Quiet.{mark_adds}
use Rattle.tab_states.specs.declared.desks.Desk.{Desk}
use Rattle.store_rule.specs.declared.store.Pass.{Pass}
use Rattle.store_rule.specs.declared.store.Store.{Store}
use Rattle.tab_states.specs.Desks.{buffer_at, draft_at}
use Rattle.store_rule.specs.Ground.{Offers}
use Rattle.store_rule.specs.Notes.{learning, noting}
use Rattle.store_rule.specs.Passes.{Keeps as KeepsHands, basis, view}
use Rattle.store_serve.specs.Tabs.{Leaves}
use Rattle.store_serve.specs.Whole.{whole_tab}
use Rattle.store_serve.proofs.Grown.{knows_all, on}
use Rattle.crew_accounts.specs.Lines.{AddsLine, served_as}
use Rattle.crew_accounts.specs.Runs.{Past, run_of}
use Rattle.crew_accounts.specs.Tracks.{Tracks}
use Rattle.crew_accounts.proofs.TabLines.{LeavesAlone, elsewhere, writing_on}
use Rattle.crew_accounts.proofs.Tracking.{lines_on, pass_on, tracks_still}
use Rattle.crew_accounts.proofs.TurningAway.{still}

-- A pass that noted something, or learned it, drew nothing and did nothing.
module _ {X : Type 0} where
  longer : (v w : View X) (sights : List Sight) (item : Item) → w.pass ≡ v.pass → w.seen ≡ sights ++ v.seen → w.trail ≡ item ∷ v.trail → w.met ≡ v.met → GrowsTo v w
  longer v w sights item pass seen trail met = record {
    pass = pass;
    seen = λ x h. subst (λ (z : List Sight). Contains z x) (sym seen) (Contains-append_right sights v.seen x h);
    trail = (item ∷ [], trail);
    met = λ a h. subst (λ (z : List ℕ). Contains z a) (sym met) h;
  }

  noted_grows : (v w : View X) → w ≡ noting v → GrowsTo v w
  noted_grows v w is = longer v w [] (record { kind = Noted; at = 0; found = 0 }) (ap View.pass is) (ap View.seen is) (ap View.trail is) (ap View.met is)

  learned_grows : (v w : View X) (sights : List Sight) → w ≡ learning v sights → GrowsTo v w
  learned_grows v w sights is = longer v w sights (record { kind = Learned; at = 0; found = 0 }) (ap View.pass is) (ap View.seen is) (ap View.trail is) (ap View.met is)

  noted_still : (v w : View X) → w ≡ noting v → IsStill v w
  noted_still v w is = record {
    keeps = knows_all (noted_grows v w is);
    drawn = λ x. ap (λ (u : View X). drawn x u.trail) is ∙ (omega arith);
    draws = ap (λ (u : View X). draws u.trail) is ∙ (omega arith);
    deeds = ap View.deeds is;
  }

  learned_still : (v w : View X) (sights : List Sight) → w ≡ learning v sights → IsStill v w
  learned_still v w sights is = record {
    keeps = knows_all (learned_grows v w sights is);
    drawn = λ x. ap (λ (u : View X). drawn x u.trail) is ∙ (omega arith);
    draws = ap (λ (u : View X). draws u.trail) is ∙ (omega arith);
    deeds = ap View.deeds is;
  }

  both_still : (u v w : View X) → IsStill u v → IsStill v w → IsStill u w
  both_still u v w a b = record {
    keeps = let h = a.keeps in let k = b.keeps in record { pass = k.pass ∙ h.pass; seen = λ x z. k.seen x (h.seen x z); trail = λ x z. k.trail x (h.trail x z); met = λ x z. k.met x (h.met x z) };
    drawn = λ x. b.drawn x ∙ a.drawn x;
    draws = b.draws ∙ a.draws;
    deeds = b.deeds ∙ a.deeds;
  }

both_hands : {C O : Type 0} (tells : Bool) (state : C → CellState) (offers : O → Offers) (s : Store C O) (p m q : Pass C) → KeepsHands tells state offers s p m → KeepsHands tells state offers s m q → KeepsHands tells state offers s p q
both_hands tells state offers s p m q a b = record { own = b.own; left = b.left ∙ a.left; places = b.places ∙ a.places; desks = b.desks ∙ a.desks; hand = b.hand ∙ a.hand; cells = b.cells ∙ a.cells }

module _ {C O : Type 0} (tells : Bool) (state : C → CellState) (offers : O → Offers) (s : Store C O) (told : Bool) (past : Past) (served : List Served) (line : Line) (p : Pass C) (a : Answer) (q : Pass C) where
  all_left : Tracks tells state offers s told past served p → KeepsHands tells state offers s p q → (view q).tabs ≡ (view p).tabs → GrowsTo (view p) (view q) → Leaves tells state offers s inner p q
  all_left tracks hands tabs keeps = record {
    own = hands.own;
    inner_free = ap (λ (xs : List (Tab (List ℕ))). is_free (get_or xs inner Free)) tabs ∙ tracks.ready.inner_free;
    others = λ j ne far. ap (λ (xs : List (Tab (List ℕ))). get_or xs j Free) tabs;
    desks = λ j ne far. (ap (λ (ds : List Desk). buffer_at ds j) hands.desks, ap (λ (ds : List Desk). draft_at ds j) hands.desks);
    keeps = keeps;
    places = hands.places;
    cells = hands.cells;
  }

  -- the line adds nothing but what the pass saw, and each tab is as it was
  seen_adds : AtMark line.request a → ((j : ℕ) → LeavesAlone j line.request a) → Tracks tells state offers s told past served p → KeepsHands tells state offers s p q → (view q).tabs ≡ (view p).tabs → GrowsTo (view p) (view q) → IsStill (view p) (view q)
      → AddsLine tells state offers s told past served line p a q
  seen_adds at alone tracks hands tabs grows idle =
      let l = served_as line a None 0 0 in
      let leaves = all_left tracks hands tabs grows in
      record {
        drew = None;
        opened = 0;
        looked = 0;
        adds = mark_adds (run_of (basis tells state offers s) told past) (view p) (view q) served l (record { at = at; drew = refl }) idle;
        tracks = record {
          ready = record { own = leaves.own; inner_free = leaves.inner_free };
          whole = ap (λ (xs : List (Tab (List ℕ))). get_or xs whole_tab Free) tabs ∙ tracks.whole;
          beyond = λ j from. writing_on j l served (alone j) ∙ tracks.beyond j from;
          each = λ j below. let far : j ≢ inner = λ e. absurd (omega arith) in
              lines_on tells state offers s told past served q j l (alone j) (pass_on tells state offers s told past served p q inner j leaves far far (tracks.each j below));
        };
      }

module _ {C O : Type 0} (tells : Bool) (state : C → CellState) (offers : O → Offers) (s : Store C O) (told : Bool) (past : Past) (served : List Served) (worker number mark : ℕ) (p q : Pass C) where
  pub set_adds : Tracks tells state offers s told past served p → KeepsHands tells state offers s p q → view q ≡ noting (view p)
      → AddsLine tells state offers s told past served (record { worker = worker; number = number; request = Mark mark }) p answer.Marked q
  set_adds tracks hands is = seen_adds tells state offers s told past served (record { worker = worker; number = number; request = Mark mark }) p answer.Marked q refl (λ j. elsewhere (Mark mark) answer.Marked j (λ z. z)) tracks hands
      (ap View.tabs is) (noted_grows (view p) (view q) is) (noted_still (view p) (view q) is)

  pub met_adds : (m : Pass C) (sights : List Sight) → Tracks tells state offers s told past served p → KeepsHands tells state offers s p m → view m ≡ learning (view p) sights → KeepsHands tells state offers s m q → view q ≡ noting (view m)
      → AddsLine tells state offers s told past served (record { worker = worker; number = number; request = Await mark }) p answer.Met q
  met_adds m sights tracks learns is notes again = seen_adds tells state offers s told past served (record { worker = worker; number = number; request = Await mark }) p answer.Met q (inl refl) (λ j. elsewhere (Await mark) answer.Met j (λ z. z)) tracks
      (both_hands tells state offers s p m q learns notes) (ap View.tabs again ∙ ap View.tabs is)
      (on (learned_grows (view p) (view m) sights is) (noted_grows (view m) (view q) again))
      (both_still (view p) (view m) (view q) (learned_still (view p) (view m) sights is) (noted_still (view m) (view q) again))

  pub unmet_adds : Tracks tells state offers s told past served p → q ≡ p → AddsLine tells state offers s told past served (record { worker = worker; number = number; request = Await mark }) p answer.Unmet q
  unmet_adds tracks same = record {
    drew = None;
    opened = 0;
    looked = 0;
    adds = mark_adds (run_of (basis tells state offers s) told past) (view p) (view q) served (served_as (record { worker = worker; number = number; request = Await mark }) answer.Unmet None 0 0) (record { at = inr refl; drew = refl })
        (still (view p) (view q) (ap view same));
    tracks = tracks_still tells state offers s told past served p q (served_as (record { worker = worker; number = number; request = Await mark }) answer.Unmet None 0 0) same (λ j. elsewhere (Await mark) answer.Unmet j (λ z. z)) tracks;
  }
