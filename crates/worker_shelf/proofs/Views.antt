-- A shelf's pass after a note was made or learned, and what a shelf is to its callers.
use Rattle.std.proofs.Common.{Bool, Contains, List, [], ap, arith, inl, inr, refl, subst, sym, ◌<◌, ◌∷◌, ◌≡◌, ◌∙◌, ◌⊎◌, false, true, ℕ}
use Rattle.std.specs.Global.{Vec}
use Rattle.std.specs.Prelude.{drop, length, take, vec_capacity, vec_len, ◌++◌, ◌≤◌, ◌≢◌}
use Rattle.std.proofs.Math.Dec.{eqb}
use Rattle.std.proofs.Math.Seq.{take-append_seam}
use Rattle.std.proofs.lemmas.Bool.Decides.{eqb_tells}
use Rattle.std.proofs.lemmas.List.Elements.{Contains-append_left, Contains-append_right}
use Rattle.rock_disk.specs.Cell.{CellState}
use Rattle.script_text.specs.declared.line.Line.{Line}
use Rattle.core_model.specs.Tabs.{inner, is_free, tab_at}
use Rattle.core_model.specs.declared.view.Item.{Item}
use Rattle.core_model.specs.declared.view.Sight.{Sight}
use Rattle.core_model.specs.declared.view.View.{View}
use Rattle.store_serve.specs.Growing.{GrowsTo as Knows}
use Rattle.tab_states.specs.declared.desks.Desk.{Desk}
use Rattle.store_rule.specs.declared.store.Pass.{Pass}
use Rattle.store_rule.specs.declared.store.Store.{Store}
use Rattle.tab_states.specs.Desks.{buffer_at, draft_at}
use Rattle.store_rule.specs.Ground.{Offers}
use Rattle.core_model.specs.TableForms.{learns}
use Rattle.store_rule.specs.Passes.{Keeps, basis, hand, view}
use Rattle.store_serve.specs.Serving.{Takes}
use Rattle.store_serve.specs.Tabs.{IsFree, IsReady, Leaves}
use Rattle.store_serve.specs.Whole.{whole_tab}
use Rattle.store_serve.specs.declared.tabs.ScriptTab.{ScriptTab}
use Rattle.worker_shelf.specs.Shelves.{AllFree, AllHold, HasShelf, KeepsCells, Left, LeftBelow, OnShelf}
use Rattle.worker_shelf.proofs.Holding.{Stays, all_hold_whole}

abbrev pub on_shelf : {C O St : Type 0} → Store C O → Pass C → St → OnShelf C O St
on_shelf s p st = record { store = s; pass = p; station = st }

-- what a pass knows that has seen more
knows_more : {X : Type 0} (v : View X) (sights : List Sight) (item : Item) → Knows v (learns v sights item)
knows_more v sights item = record {
  pass = refl;
  seen = λ x h. Contains-append_right sights v.seen x h;
  trail = (item ∷ [], refl);
  met = λ a h. h;
}

-- where a list was handed out whole and one of this length came back, that one is there
pub put_back : {A : Type 0} (n : ℕ) (before after : List A) → n ≡ length after → take n (after ++ drop (length after) before) ≡ after
put_back n before after is = ap (λ (m : ℕ). take m (after ++ drop (length after) before)) is ∙ take-append_seam after (drop (length after) before)

-- all that a shelf knew, its pass knows still, and what a note tells it knows too
pub knew : {C O St : Type 0} (o : OnShelf C O St) (s : Store C O) (p q : Pass C) (st : St) (sights : List Sight) (item : Item) → on_shelf s p st ≡ o → view q ≡ learns (view p) sights item → (x : Sight) → Contains (view o.pass).seen x → Contains (view q).seen x
knew {C = C} {O = O} {St = St} o s p q st sights item is more x h = subst (λ (z : List Sight). Contains z x) (sym (ap View.seen more)) (Contains-append_right sights (view p).seen x (subst (λ (z : List Sight). Contains z x) (ap (λ (z : OnShelf C O St). (view z.pass).seen) (sym is)) h))

pub learned : {C : Type 0} (p q : Pass C) (sights : List Sight) (item : Item) → view q ≡ learns (view p) sights item → (x : Sight) → Contains sights x → Contains (view q).seen x
learned p q sights item more x h = subst (λ (z : List Sight). Contains z x) (sym (ap View.seen more)) (Contains-append_left sights (view p).seen x h)

module _ {C O : Type 0} (tells : Bool) (state : C → CellState) (offers : O → Offers) where
  takes_one : (s : Store C O) (p q : Pass C) (line : Line) → (view q).pass ≡ (view p).pass → Takes tells state offers s p line → Takes tells state offers s q line
  takes_one s p q line same h = record { asks = h.asks; goes = λ url is pass alone. h.goes url is pass alone ∙ sym same }

  -- a shelf takes the lines that it took
  pub takes_stay : {St : Type 0} (o : OnShelf C O St) (s : Store C O) (p q : Pass C) (st : St) → on_shelf s p st ≡ o → (view q).pass ≡ (view p).pass → (line : Line)
      → (Takes tells state offers s q line → Takes tells state offers o.store o.pass line) × (Takes tells state offers o.store o.pass line → Takes tells state offers s q line)
  takes_stay {St = St} o s p q st is same line = subst (λ (z : OnShelf C O St). (Takes tells state offers s q line → Takes tells state offers z.store z.pass line) × (Takes tells state offers z.store z.pass line → Takes tells state offers s q line)) is
      (takes_one s q p line (sym same), takes_one s p q line same)

  -- it left its tabs
  pub left_of : {St : Type 0} (o : OnShelf C O St) (s : Store C O) (p q : Pass C) (st : St) → on_shelf s p st ≡ o → LeftBelow tells state offers s whole_tab p q → Left tells state offers o (on_shelf s q st)
  left_of {St = St} o s p q st is left = subst (λ (z : OnShelf C O St). Left tells state offers z (on_shelf s q st)) is record { store = refl; station = refl; left = left }

  module _ (s : Store C O) where
    -- where a pass has seen more, and has at hand what it had, its tabs are as they were
    leaves_note : (p q : Pass C) (sights : List Sight) (item : Item) → Keeps tells state offers s p q → view q ≡ learns (view p) sights item → IsReady tells state offers s p → Leaves tells state offers s whole_tab p q
    leaves_note p q sights item keeps more ready = record {
      own = keeps.own;
      inner_free = ap (λ (v : View (List ℕ)). is_free (tab_at v inner)) more ∙ ready.inner_free;
      others = λ j ne far. ap (λ (v : View (List ℕ)). tab_at v j) more;
      desks = λ j ne far. (ap (λ (ds : List Desk). buffer_at ds j) keeps.desks, ap (λ (ds : List Desk). draft_at ds j) keeps.desks);
      keeps = subst (λ (v : View (List ℕ)). Knows (view p) v) (sym more) (knows_more (view p) sights item);
      places = keeps.places;
      cells = keeps.cells;
    }

    -- the pass keeps the room for all cells, if it did
    cells_kept : (p q : Pass C) → (view q).pass ≡ (view p).pass → q.cells ≡ p.cells → KeepsCells tells state offers s p → KeepsCells tells state offers s q
    cells_kept p q same cells h first = subst (λ (z : Vec C). (z.items ≡ []) × (vec_len z ≡ 0) × ((basis tells state offers s).setting.slots ≤ vec_capacity z)) (sym cells) (h (sym same ∙ first))

    pub shelf_still : Stays tells state offers s → (p q : Pass C) (tabs : List ScriptTab) (piece : List ℕ) (sights : List Sight) (item : Item) → Keeps tells state offers s p q → view q ≡ learns (view p) sights item
        → HasShelf tells state offers s p tabs piece → HasShelf tells state offers s q tabs piece
    shelf_still stays p q tabs piece sights item keeps more h = record {
      holds = all_hold_whole tells state offers s stays whole_tab p q (leaves_note p q sights item keeps more h.holds.ready) tabs refl h.holds (ap (λ (v : View (List ℕ)). tab_at v whole_tab) more ∙ h.holds.whole);
      home = keeps.places ∙ h.home;
      cells = cells_kept p q (ap View.pass more) keeps.cells h.cells;
      room = h.room;
    }

    -- a shelf is one still, where its pass keeps what the end of the store asks for
    pub shelf_on : (p q : Pass C) (tabs_before tabs : List ScriptTab) (piece_before piece : List ℕ) → HasShelf tells state offers s p tabs_before piece_before → AllHold tells state offers s q tabs
        → Knows (view p) (view q) → hand q ≡ hand p → q.cells ≡ p.cells → length piece ≡ length piece_before → HasShelf tells state offers s q tabs piece
    shelf_on p q tabs_before tabs piece_before piece h holds keeps places cells long = record {
      holds = holds;
      home = places ∙ h.home;
      cells = cells_kept p q keeps.pass cells h.cells;
      room = let r = h.room in let l = long in omega arith;
    }

    -- what is kept of its tabs and its room, back in their places
    pub handed_back : (q : Pass C) (tabs_before tabs : List ScriptTab) (piece_before piece : List ℕ) (n m : ℕ) → HasShelf tells state offers s q tabs piece → n ≡ length tabs → m ≡ length piece
        → HasShelf tells state offers s q (take n (tabs ++ drop (length tabs) tabs_before)) (take m (piece ++ drop (length piece) piece_before))
    handed_back q tabs_before tabs piece_before piece n m h is long = subst (λ (z : List ScriptTab). HasShelf tells state offers s q z (take m (piece ++ drop (length piece) piece_before))) (sym (put_back n tabs_before tabs is))
        (subst (λ (z : List ℕ). HasShelf tells state offers s q tabs z) (sym (put_back m piece_before piece long)) h)

    -- all tabs are free once those of the script are
    pub all_free : (q : Pass C) (tabs : List ScriptTab) → AllHold tells state offers s q tabs → ((t : ℕ) → t < whole_tab → IsFree q t) → AllFree q
    all_free q tabs all free t lt = at (eqb_tells t whole_tab) (eqb_tells t inner)
      where
        at : ((eqb t whole_tab ≡ true) × (t ≡ whole_tab)) ⊎ ((eqb t whole_tab ≡ false) × (t ≢ whole_tab)) → ((eqb t inner ≡ true) × (t ≡ inner)) ⊎ ((eqb t inner ≡ false) × (t ≢ inner)) → is_free (tab_at (view q) t) ≡ true
        at (inl is) _ = ap is_free (ap (tab_at (view q)) is.1 ∙ all.whole)
        at (inr ne) (inl is) = ap (λ (n : ℕ). is_free (tab_at (view q) n)) is.1 ∙ all.ready.inner_free
        at (inr ne) (inr far) = ap is_free (free t (let a = ne.1 in let b = far.1 in omega arith))
