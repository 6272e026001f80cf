-- What a run says, from what its workers did.
use Rattle.std.proofs.Common.{◌≡◌, ◌⊎◌, inl, inr, ⊎_elim, ℕ, ◌+◌, zero, suc, Bool, true, false, List, [], ◌∷◌, ◌++◌, map, take, length, get_or, sym, refl, ap, ◌∙◌, subst, arith, Contains, Vec, Global}
use Rattle.std.proofs.lemmas.List.Elements.{Contains-append_left, Contains-append_right}
use Rattle.script_text.specs.declared.line.Line.{Line}
use Rattle.script_text.specs.declared.answer.Answer.{Answer}
use Rattle.script_text.specs.declared.shelf.Shelf.{Ghosts}
use Rattle.marks.specs.declared.places.Marks.{Marks}
use Rattle.marks.specs.declared.seat.MarkSeat.{MarkSeat}
use Rattle.marks.specs.declared.view.View.{View}
use Rattle.marks.specs.Seats.{view, key, IsSeatOf}
use Rattle.marks.specs.Views.{Agrees}
use Rattle.marks.proofs.Lists.{none_in, first_in, later_in, cons_cases}
use Rattle.worker_pool.specs.declared.notes.Of.{Of}
use Rattle.worker_pool.specs.declared.worker.Worker.{Worker}
use Rattle.worker_pool.specs.Courses.{At, IsServed, Stage, lines_of, Kept, Halted}
use Rattle.worker_pool.specs.Knowing.{Extends, IsTold, Worked}
use Rattle.worker_pool.specs.Crews.{Sets, AreHired, Gathered, Begins, Ended, AreEnded}
use Rattle.worker_pool.specs.Running.{Meets, Account, answers_of, IsWhole, HasServed, HasBack, HasTried}
use Rattle.worker_pool.proofs.Going.{told_more}
use Rattle.worker_pool.proofs.Places.{one_at, at_read, at_same, at_contains, contains_at, at_map, from_map, take_whole}

module _ {X Y : Type 0} (f : X → Y) where
  length_map : (xs : List X) → length (map f xs) ≡ length xs
  length_map [] = refl
  length_map (x ∷ xs) = ap suc (length_map xs)

module _ {X Y Z : Type 0} (f : X → Y) (h : Y → Z) where
  map_map : (xs : List X) → map h (map f xs) ≡ map (λ x. h (f x)) xs
  map_map [] = refl
  map_map (x ∷ xs) = ap (λ (l : List Z). h (f x) ∷ l) (map_map xs)

module _ {X : Type 0} where
  front_whole : (xs ys : List X) → take (length xs) (xs ++ ys) ≡ xs
  front_whole [] [] = refl
  front_whole [] (y ∷ ys) = refl
  front_whole (x ∷ xs) ys = ap (λ (l : List X). x ∷ l) (front_whole xs ys)

  pub written_back : (xs ys : List X) (n : ℕ) → n ≡ length xs → take n (xs ++ ys) ≡ xs
  written_back xs ys n e = ap (λ (k : ℕ). take k (xs ++ ys)) e ∙ front_whole xs ys

module _ {H N : Type 0} (g : Ghosts H N) where
  pub begins : (marks : Marks N (Of H) H) (lines : List Line) (shelves : List H) (seats : List (MarkSeat N (Of H) H)) (workers : List (Worker H N)) → ((a b : H) → Contains shelves a → Contains shelves b → g.home a ≡ g.home b)
      → ((w k : ℕ) (shelf : H) (line : Line) → At shelves w shelf → At lines k line → line.worker ≡ w + 1 → IsServed line.request → g.takes shelf line)
      → At shelves 0 (key marks) → Sets marks lines seats → AreHired shelves seats workers → (w : ℕ) (x : Worker H N) → At workers w x → Begins g marks lines x
  begins marks lines shelves seats workers home takes first sets hired w x at =
      let h = hired.each w x at in
      let s = sets w x.seat h.seat in record {
        ready = record {
          own = s.0;
          home = home x.shelf (key marks) (at_contains shelves w x.shelf h.shelf) (at_contains shelves 0 (key marks) first);
          takes = λ k line here mine is. takes w k x.shelf line h.shelf here (mine ∙ h.number) is;
          may = λ k m line here le mine q. s.1 k m line here (mine ∙ h.number) q;
        };
        fresh = h.fresh;
        goes = h.goes;
      }

  ended_at : (marks : Marks N (Of H) H) (lines : List Line) (before after : List (Worker H N)) (w : ℕ) (y : Worker H N) → AreEnded g marks lines before after → At after w y → Ended g marks lines (get_or before w y) y
  ended_at marks lines before after w y ended at = ended.each w (get_or before w y) y (at_read before w y (let lt = at.0 in let same = ended.count in omega arith)) at

  pub own_after : (marks : Marks N (Of H) H) (lines : List Line) (before after : List (Worker H N)) → AreEnded g marks lines before after → (y : Worker H N) → Contains after y → IsSeatOf marks y.seat
  own_after marks lines before after ended y h = (ended_at marks lines before after h.0 y ended (contains_at after y h)).own

  whole_of : (lines : List Line) (w : ℕ) (start end : H) (answers : List (ℕ × Answer)) (v : View H N) → (x : Worked g lines w start end answers v)
      → IsWhole g lines w (record { start = start; stages = x.served.stages; last = x.last; end = end })
  whole_of lines w start end answers v x = record {
    course = record { each = x.served.each ∙ ap (lines_of w) (take_whole lines); linked = x.served.linked; steps = x.served.steps };
    left = x.left;
  }

  -- what each worker did, those from place n on
  record Accounts (lines : List Line) (whole : View H N) (n : ℕ) (shelves : List H) (workers : List (Worker H N)) : Type 0 where
    accounts : List (Account H)
    starts : map (λ a. a.start) accounts ≡ shelves
    ends : map (λ a. a.end) accounts ≡ map (λ x. x.shelf) workers
    answers_are : map answers_of accounts ≡ map (λ x. x.answers.items) workers
    each : (w : ℕ) (a : Account H) → At accounts w a → IsWhole g lines (n + w + 1) a
    told : (a : Account H) → Contains accounts a → (s : Stage H) → Contains a.stages s → IsTold g whole s

  each_of : (lines : List Line) (n : ℕ) (a : Account H) (others : List (Account H)) → IsWhole g lines (n + 0 + 1) a → ((w : ℕ) (b : Account H) → At others w b → IsWhole g lines (n + 1 + w + 1) b)
      → (w : ℕ) (b : Account H) → At (a ∷ others) w b → IsWhole g lines (n + w + 1) b
  each_of lines n a others first rest zero b at = subst (IsWhole g lines (n + 0 + 1)) at.1 first
  each_of lines n a others first rest (suc w) b at = let on : n + 1 + w + 1 ≡ n + suc w + 1 = omega arith in subst (λ (k : ℕ). IsWhole g lines k b) on (rest w b ((let lt = at.0 in omega arith), at.1))

  told_of : (whole : View H N) (a : Account H) (others : List (Account H)) → ((s : Stage H) → Contains a.stages s → IsTold g whole s) → ((b : Account H) → Contains others b → (s : Stage H) → Contains b.stages s → IsTold g whole s)
      → (b : Account H) → Contains (a ∷ others) b → (s : Stage H) → Contains b.stages s → IsTold g whole s
  told_of whole a others first rest b h = ⊎_elim (λ (same : a ≡ b). subst (λ (c : Account H). (s : Stage H) → Contains c.stages s → IsTold g whole s) same first) (λ (later : Contains others b). rest b later) (cons_cases a b others h)

  accounts_of : (lines : List Line) (whole : View H N) (n : ℕ) (shelves : List H) (workers : List (Worker H N)) → length workers ≡ length shelves
      → ((w : ℕ) (s : H) (y : Worker H N) → At shelves w s → At workers w y → Worked g lines (n + w + 1) s y.shelf y.answers.items (view y.seat))
      → ((y : Worker H N) → Contains workers y → Extends (view y.seat) whole) → Accounts lines whole n shelves workers
  accounts_of lines whole n [] [] e did extends = record {
    accounts = [];
    starts = refl;
    ends = refl;
    answers_are = refl;
    each = λ w a at. absurd (let lt = at.0 in omega arith);
    told = λ a h. absurd (none_in a h);
  }
  accounts_of lines whole n [] (y ∷ ys) e did extends = absurd (omega arith)
  accounts_of lines whole n (s ∷ ss) [] e did extends = absurd (omega arith)
  accounts_of lines whole n (s ∷ ss) (y ∷ ys) e did extends =
      let first = did 0 s y (omega arith, refl) (omega arith, refl) in
      let account : Account H = record { start = s; stages = first.served.stages; last = first.last; end = y.shelf } in
      let rest = accounts_of lines whole (n + 1) ss ys (omega arith)
      (λ w t z a b. let on : n + suc w + 1 ≡ n + 1 + w + 1 = omega arith in
      subst (λ (k : ℕ). Worked g lines k t z.shelf z.answers.items (view z.seat)) on (did (suc w) t z ((let lt = a.0 in omega arith), a.1) ((let lt = b.0 in omega arith), b.1)))
      (λ z h. extends z (later_in y z ys h)) in record {
        accounts = account ∷ rest.accounts;
        starts = ap (λ (l : List H). s ∷ l) rest.starts;
        ends = ap (λ (l : List H). y.shelf ∷ l) rest.ends;
        answers_are = (ap (λ (r : List (ℕ × Answer)). r ∷ map answers_of rest.accounts) (sym first.served.answers_are) ∙ ap (λ (l : List (List (ℕ × Answer))). y.answers.items ∷ l) rest.answers_are);
        each = each_of lines n account rest.accounts (whole_of lines (n + 0 + 1) s y.shelf y.answers.items (view y.seat) first) rest.each;
        told = told_of whole account rest.accounts (λ t h. told_more g (view y.seat) whole t.line t.before t.answer t.after (extends y (first_in y ys)) (first.served.told t h)) rest.told;
      }

  meets_of : (whole : View H N) (a b : Account H) → Agrees whole → ((s : Stage H) → Contains a.stages s → IsTold g whole s) → ((s : Stage H) → Contains b.stages s → IsTold g whole s) → Meets g a.stages b.stages
  meets_of whole a b agrees told learned s t m hs ht set await met fact knew =
      let note = (told s hs).set m set in
      let was = (learned t ht).met m await met in
      let one : note.note ≡ was.was = agrees m note.note was.was (Contains-append_left whole.set whole.met (m, note.note) note.set) (Contains-append_right whole.set whole.met (m, was.was) was.met) in
      was.knows fact (subst (λ (z : N). g.note_knows z fact) one (note.knows fact knew))

  module _ (marks : Marks N (Of H) H) (lines : List Line) (shelves : List H) (seats : List (MarkSeat N (Of H) H)) (before after : List (Worker H N)) (hired : AreHired shelves seats before) (ended : AreEnded g marks lines before after) where
    -- the worker at a place, before and after
    did : (w : ℕ) (s : H) (y : Worker H N) → At shelves w s → At after w y → (x : Worker H N) × (x.number ≡ w + 1) × (x.shelf ≡ s) × Ended g marks lines x y
    did w s y hs hy =
        let x = get_or before w y in
        let h = hired.each w x (at_read before w y (let lt = hy.0 in let same = ended.count in omega arith)) in
        (x, h.number, one_at shelves w x.shelf s h.shelf hs, ended_at marks lines before after w y ended hy)

    worked : (w : ℕ) (s : H) (y : Worker H N) → At shelves w s → At after w y → y.is_stopped ≡ false → Worked g lines (w + 1) s y.shelf y.answers.items (view y.seat)
    worked w s y hs hy go = let d = did w s y hs hy in
        subst (λ (k : ℕ). Worked g lines k s y.shelf y.answers.items (view y.seat)) d.1
        (subst (λ (z : H). Worked g lines d.0.number z y.shelf y.answers.items (view y.seat)) d.2 (d.3.done go))

    halted : (w : ℕ) (s : H) (y : Worker H N) → At shelves w s → At after w y → y.is_stopped ≡ true → Halted g lines (w + 1) s y.shelf
    halted w s y hs hy stop = let d = did w s y hs hy in
        subst (λ (k : ℕ). Halted g lines k s y.shelf) d.1 (subst (λ (z : H). Halted g lines d.0.number z y.shelf) d.2 (d.3.stopped stop))

    same_count : length after ≡ length shelves
    same_count = ended.count ∙ hired.count

    pub has_served : (back : List H) (answers : List (Vec (ℕ × Answer) Global)) → back ≡ map (λ x. x.shelf) after → answers ≡ map (λ x. x.answers) after → ((y : Worker H N) → Contains after y → y.is_stopped ≡ false) → Gathered after
        → HasServed g lines shelves back (map (λ a. a.items) answers)
    has_served back answers e f go gathered =
        let made = accounts_of lines gathered.whole 0 shelves after same_count (λ w s y hs hy. let on : w + 1 ≡ 0 + w + 1 = omega arith in
        subst (λ (k : ℕ). Worked g lines k s y.shelf y.answers.items (view y.seat)) on (worked w s y hs hy (go y (at_contains after w y hy)))) gathered.extends in record {
          accounts = made.accounts;
          starts = made.starts;
          ends = made.ends ∙ sym e;
          answers_are = made.answers_are ∙ sym (ap (map (λ (v : Vec (ℕ × Answer) Global). v.items)) f ∙ map_map (λ (x : Worker H N). x.answers) (λ (v : Vec (ℕ × Answer) Global). v.items) after);
          each = λ w a at. let on : 0 + w + 1 ≡ w + 1 = omega arith in subst (λ (k : ℕ). IsWhole g lines k a) on (made.each w a at);
          meets = λ a b ha hb. meets_of gathered.whole a b gathered.agrees (made.told a ha) (made.told b hb);
        }

    pub has_back : (back : List H) → back ≡ map (λ x. x.shelf) after → HasBack g shelves back
    has_back back e = record {
      count = ap length e ∙ (length_map (λ (x : Worker H N). x.shelf) after ∙ same_count);
      kept = λ w s b hs hb. let y = from_map (λ (x : Worker H N). x.shelf) after w b (at_same back (map (λ x. x.shelf) after) w b e hb) in
          let d = did w s y.0 hs y.1 in subst (λ (z : H). Kept g z b) d.2 (subst (λ (z : H). Kept g d.0.shelf z) y.2 d.3.kept);
      free = λ b h tab. let y = from_map (λ (x : Worker H N). x.shelf) after h.0 b (at_same back (map (λ x. x.shelf) after) h.0 b e (contains_at back b h)) in
          subst (λ (z : H). g.is_free z tab) y.2 ((ended_at marks lines before after h.0 y.0 ended y.1).free tab);
    }

    tried : (w : ℕ) (s : H) (y : Worker H N) (t : Bool) → At shelves w s → At after w y → y.is_stopped ≡ t → ((a : Account H) × (a.start ≡ s) × (a.end ≡ y.shelf) × IsWhole g lines (w + 1) a) ⊎ Halted g lines (w + 1) s y.shelf
    tried w s y true hs hy e = inr (halted w s y hs hy e)
    tried w s y false hs hy e = let x = worked w s y hs hy e in
        inl (record { start = s; stages = x.served.stages; last = x.last; end = y.shelf }, refl, refl, whole_of lines (w + 1) s y.shelf y.answers.items (view y.seat) x)

    tried_each : (back : List H) → back ≡ map (λ x. x.shelf) after → (w : ℕ) (s b : H) → At shelves w s → At back w b → ((a : Account H) × (a.start ≡ s) × (a.end ≡ b) × IsWhole g lines (w + 1) a) ⊎ Halted g lines (w + 1) s b
    tried_each back e w s b hs hb =
        let y = from_map (λ (x : Worker H N). x.shelf) after w b (at_same back (map (λ x. x.shelf) after) w b e hb) in
        subst (λ (z : H). ((a : Account H) × (a.start ≡ s) × (a.end ≡ z) × IsWhole g lines (w + 1) a) ⊎ Halted g lines (w + 1) s z) y.2 (tried w s y.0 y.0.is_stopped hs y.1 refl)

    pub has_tried : (back : List H) → back ≡ map (λ x. x.shelf) after → (y : Worker H N) → Contains after y → y.is_stopped ≡ true → HasTried g lines shelves back
    has_tried back e y h stop =
        let there : At after h.0 y = contains_at after y h in
        let start : H = get_or shelves h.0 y.shelf in
        let here : At shelves h.0 start = at_read shelves h.0 y.shelf (let lt = there.0 in let same = same_count in omega arith) in record {
          each = tried_each back e;
          place = h.0;
          before = start;
          after = y.shelf;
          handed_in = here;
          handed_back = at_same (map (λ x. x.shelf) after) back h.0 y.shelf (sym e) (at_map (λ (x : Worker H N). x.shelf) after h.0 y there);
          stopped = halted h.0 start y here there stop;
        }
