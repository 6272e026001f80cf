-- Lines that follow one another, and the course that they make.
use Rattle.std.proofs.Common.{Bool, Contains, IsTrue, List, [], map, refl, subst, sym, ◌++◌, ◌∷◌, ◌≡◌, ◌∙◌, ap, arith, ℕ}
use Rattle.std.proofs.lemmas.List.Elements.{Contains-append_right}
use Rattle.rock_disk.specs.Cell.{CellState}
use Rattle.line_account.specs.Courses.{Course, Stage as Told, lines_in}
use Rattle.store_rule.specs.declared.store.Store.{Store}
use Rattle.store_rule.specs.Ground.{Offers}
use Rattle.store_rule.specs.Passes.{basis, view}
use Rattle.worker_pool.specs.Courses.{Linked, Stage}
use Rattle.worker_shelf.specs.Shelves.{OnShelf}
use Rattle.crew_accounts.specs.Lines.{served_as}
use Rattle.crew_accounts.specs.Runs.{IsTold, Past, run_of}
use Rattle.crew_accounts.specs.Tracks.{Tracks}
use Rattle.crew_accounts.specs.Courses.{HasCourse, in_order, stage_shown, with_views}
use Rattle.worker_shelf.specs.Playing.{IsStep}
use Rattle.crew_accounts.proofs.Steps.{Laws, MayServe, goes}

here : {A : Type 0} (x : A) (xs : List A) → Contains (x ∷ xs) x
here x xs = (0, (omega arith), refl)

there : {A : Type 0} (y : A) (xs : List A) (x : A) → Contains xs x → Contains (y ∷ xs) x
there y xs x h = Contains-append_right (y ∷ []) xs x h

joined : {A : Type 0} (xs : List A) (y : A) (ys : List A) → (xs ++ y ∷ []) ++ ys ≡ xs ++ y ∷ ys
joined [] y ys = refl
joined (x ∷ xs) y ys = ap (λ zs. x ∷ zs) (joined xs y ys)

nothing_behind : {A : Type 0} (xs : List A) → xs ++ [] ≡ xs
nothing_behind [] = refl
nothing_behind (x ∷ xs) = ap (λ ys. x ∷ ys) (nothing_behind xs)

-- one line more
told_next : {X : Type 0} (course : List (Told X)) (x : Told X) → in_order (x ∷ course) ≡ in_order course ++ (x.served.asked, x.served.answer) ∷ []
told_next course x = refl

shown_next : {X : Type 0} (course : List (Told X)) (x : Told X) → with_views (x ∷ course) ≡ with_views course ++ (x.before, x.served.asked, x.served.answer, x.after) ∷ []
shown_next course x = refl

module _ {C O St : Type 0} (tells : Bool) (state : C → CellState) (offers : O → Offers) (faults : St → ℕ) (s : Store C O) (told : Bool) (past : Past)
    (laws : Laws tells state offers faults s told past) (is_told : IsTrue told → IsTold (basis tells state offers s) told past tells) (start : OnShelf C O St) where
  -- a worker that has come so far goes on
  pub record Reached (now : OnShelf C O St) : Type 0 where
    pub course : List (Told (List ℕ))
    pub is : Course (run_of (basis tells state offers s) told past) (view start.pass) course (view now.pass)
    pub store : now.store ≡ s
    pub tracks : Tracks tells state offers s told past (lines_in course) now.pass

  pub record Reaches (now end : OnShelf C O St) (r : Reached now) (stages : List (Stage (OnShelf C O St))) : Type 0 where
    pub reached : Reached end
    pub more : in_order reached.course ≡ in_order r.course ++ map (λ x. (x.line, x.answer)) stages
    pub more_views : with_views reached.course ≡ with_views r.course ++ map stage_shown stages

  one_more : (now : OnShelf C O St) (r : Reached now) (x : Stage (OnShelf C O St)) → x.before ≡ now → IsStep tells state offers faults x → MayServe tells state offers s x → Reaches now x.after r (x ∷ [])
  one_more now r x is step takes = let store = ap OnShelf.store is ∙ r.store in let tracks = subst (λ (z : OnShelf C O St). Tracks tells state offers s told past (lines_in r.course) z.pass) (sym is) r.tracks in
      let h = goes tells state offers faults s told past laws is_told (lines_in r.course) x store tracks takes x.line.request refl step in
      let line : Told (List ℕ) = record { before = view x.before.pass; served = served_as x.line x.answer h.adds.drew h.adds.opened h.adds.looked; after = view x.after.pass } in record {
        reached = record {
          course = line ∷ r.course;
          is = (refl, h.adds.adds, subst (λ (z : OnShelf C O St). Course (run_of (basis tells state offers s) told past) (view start.pass) r.course (view z.pass)) (sym is) r.is);
          store = h.store;
          tracks = h.adds.tracks;
        };
        more = told_next r.course line;
        more_views = shown_next r.course line;
      }

  pub all_on : (now : OnShelf C O St) (r : Reached now) (stages : List (Stage (OnShelf C O St))) (end : OnShelf C O St) → Linked now stages end → ((x : Stage (OnShelf C O St)) → Contains stages x → IsStep tells state offers faults x)
      → ((x : Stage (OnShelf C O St)) → Contains stages x → MayServe tells state offers s x) → Reaches now end r stages
  all_on now r [] end linked steps takes = record {
    reached = record {
      course = r.course;
      is = subst (λ (z : OnShelf C O St). Course (run_of (basis tells state offers s) told past) (view start.pass) r.course (view z.pass)) (sym linked) r.is;
      store = ap OnShelf.store linked ∙ r.store;
      tracks = subst (λ (z : OnShelf C O St). Tracks tells state offers s told past (lines_in r.course) z.pass) (sym linked) r.tracks;
    };
    more = sym (nothing_behind (in_order r.course));
    more_views = sym (nothing_behind (with_views r.course));
  }
  all_on now r (x ∷ stages) end linked steps takes = let one = one_more now r x linked.0 (steps x (here x stages)) (takes x (here x stages)) in
      let rest = all_on x.after one.reached stages end linked.1 (λ y h. steps y (there x stages y h)) (λ y h. takes y (there x stages y h)) in record {
        reached = rest.reached;
        more = rest.more ∙ ap (λ ys. ys ++ map (λ y. (y.line, y.answer)) stages) one.more ∙ joined (in_order r.course) (x.line, x.answer) (map (λ y. (y.line, y.answer)) stages);
        more_views = rest.more_views ∙ ap (λ ys. ys ++ map stage_shown stages) one.more_views ∙ joined (with_views r.course) (stage_shown x) (map stage_shown stages);
      }

  -- from the start on
  pub from_start : start.store ≡ s → Tracks tells state offers s told past [] start.pass → (stages : List (Stage (OnShelf C O St))) (end : OnShelf C O St) → Linked start stages end → ((x : Stage (OnShelf C O St)) → Contains stages x → IsStep tells state offers faults x)
      → ((x : Stage (OnShelf C O St)) → Contains stages x → MayServe tells state offers s x) → HasCourse tells state offers s told past start end stages
  from_start store tracks stages end linked steps takes = let all = all_on start record { course = []; is = refl; store = store; tracks = tracks } stages end linked steps takes in record {
    course = all.reached.course;
    is = all.reached.is;
    lines = all.more;
    views = all.more_views;
    store = all.reached.store;
    tracks = all.reached.tracks;
  }
