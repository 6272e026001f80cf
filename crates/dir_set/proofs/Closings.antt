-- The stores of some files are closed, the last one first.
use Rattle.std.proofs.Common.{Bool, List, Some, [], ap, arith, inl, inr, length, refl, subst, sym, ◌+◌, ◌++◌, ◌<◌, ◌≡◌, ◌≢◌, ◌≤◌, ◌⊎◌, ◌∙◌, ◌∷◌, ℕ}
use Rattle.std.specs.FinMap.{get}
use Rattle.std.specs.Prelude.{IsTrue, slice_get}
use Rattle.std.proofs.lemmas.Option.{slice_get_within}
use Rattle.rock_disk.specs.Cell.{CellState}
use Rattle.rock_disk.specs.File.{Files}
use Rattle.rock_disk.specs.File.File.{Away}
use Rattle.rock_disk.proofs.Out.{get_inserted}
use Rattle.store_rule.specs.declared.store.Pass.{Pass}
use Rattle.store_rule.specs.declared.store.Store.{Store}
use Rattle.store_rule.specs.Ground.{Offers}
use Rattle.dir_set.specs.declared.dirs.DirPass.{DirPass}
use Rattle.dir_set.specs.declared.parts.DirHome.{DirHome}
use Rattle.dir_set.specs.declared.parts.Parts.{Parts}
use Rattle.dir_set.specs.Files.{AreDifferent, ArePassesAt, ClosesDir, ClosesFile, MayClose, MayCloseDir}
use Rattle.dir_set.specs.Parts.{Gathered}
use Rattle.dir_set.proofs.Names.{name_or_not, others_inserted}
use Rattle.dir_set.proofs.Dealing.{one_item, one_row, put_before, put_here, put_length}
use Rattle.dir_set.proofs.OneFile.{is_or_not, there_is}

module _ {C O : Type 0} (told tells : Bool) (state : C → CellState) (offers : O → Offers) where
  -- a file may be closed with the passes that were gathered
  pub may_close_row : (files : Files) (workers : List (DirPass C)) (d : ℕ) (name : List ℕ) (s : Store C O) (h : DirHome C) (ps : List (Pass C)) → MayCloseDir told tells state offers files workers d name s h → ArePassesAt workers d ps → MayClose told tells state offers files name s ps
  may_close_row files workers d name s h ps may row = subst (λ (xs : List (Pass C)). MayClose told tells state offers files name s xs) (one_row workers d may.passes ps may.passes_are row) may.may

  -- of these files, those from one number on were closed
  pub record Closing (names : List (List ℕ)) (before now : Files) (p0 p : Parts C O) (n : ℕ) : Type 0 where
    pub stores : length p.stores.items ≡ n
    pub homes : length p.homes.items ≡ n
    pub within : n ≤ length p0.stores.items
    pub stores_front : (d : ℕ) → d < n → slice_get p.stores.items d ≡ slice_get p0.stores.items d
    pub homes_front : (d : ℕ) → d < n → slice_get p.homes.items d ≡ slice_get p0.homes.items d
    pub workers_many : length p.passes.items ≡ length p0.passes.items
    pub workers : (w : ℕ) (a b : DirPass C) → slice_get p0.passes.items w ≡ Some a → slice_get p.passes.items w ≡ Some b → (length b.passes.items ≡ n) × ((j : ℕ) → j < n → slice_get b.passes.items j ≡ slice_get a.passes.items j)
    pub closed : (d : ℕ) (name : List ℕ) (s : Store C O) (h : DirHome C) → n ≤ d → slice_get names d ≡ Some name → slice_get p0.stores.items d ≡ Some s → slice_get p0.homes.items d ≡ Some h → ClosesDir told tells state offers before now p0.passes.items d name s h
    pub others : IsTrue told → (name : List ℕ) → ((d : ℕ) × (n ≤ d) × (d < length p0.stores.items) × (slice_get names d ≡ Some name)) ⊎ (get now name ≡ get before name)

  pub closing_none : (names : List (List ℕ)) (before : Files) (p0 : Parts C O) → length p0.homes.items ≡ length p0.stores.items
      → ((w : ℕ) (a : DirPass C) → slice_get p0.passes.items w ≡ Some a → length a.passes.items ≡ length p0.stores.items) → Closing names before before p0 p0 (length p0.stores.items)
  closing_none names before p0 homes many = record {
    stores = refl;
    homes = homes;
    within = omega arith;
    stores_front = λ d lt. refl;
    homes_front = λ d lt. refl;
    workers_many = refl;
    workers = λ w a b e f. let same = one_item (slice_get p0.passes.items w) a b e f in (many w b f, λ j lt. ap (λ (z : DirPass C). slice_get z.passes.items j) (sym same));
    closed = λ d name s h le en es eh. let lt = slice_get_within p0.stores.items d s es in absurd (omega (arith, le, lt));
    others = λ t name. inr refl;
  }

  module _ (names : List (List ℕ)) (before now : Files) (p0 p : Parts C O) (n k : ℕ) (h : Closing names before now p0 p n) (one : n ≡ k + 1) where
    -- the last store that is open, and what its closing needs
    pub last_store : (rest : List (Store C O)) (s : Store C O) → p.stores.items ≡ rest ++ s ∷ [] → slice_get p0.stores.items k ≡ Some s
    last_store rest s put =
        let a = ap length put in let b = put_length rest s in let c = h.stores in
        sym (h.stores_front k (omega (arith, one))) ∙ ap (λ (xs : List (Store C O)). slice_get xs k) put ∙ put_here rest s k (omega (arith, a, b, c, one))

    pub last_home : (rest : List (DirHome C)) (x : DirHome C) → p.homes.items ≡ rest ++ x ∷ [] → slice_get p0.homes.items k ≡ Some x
    last_home rest x put =
        let a = ap length put in let b = put_length rest x in let c = h.homes in
        sym (h.homes_front k (omega (arith, one))) ∙ ap (λ (xs : List (DirHome C)). slice_get xs k) put ∙ put_here rest x k (omega (arith, a, b, c, one))

    -- the next file to close, and its passes
    module _ (differ : AreDifferent names) (name : List ℕ) (at : slice_get names k ≡ Some name) where
      still_before : IsTrue told → get now name ≡ get before name
      still_before t = pick (h.others t name)
        where
          pick : ((d : ℕ) × (n ≤ d) × (d < length p0.stores.items) × (slice_get names d ≡ Some name)) ⊎ (get now name ≡ get before name) → get now name ≡ get before name
          pick (inl x) = absurd (let same = differ x.0 k name x.3 at in let le = x.1 in omega (arith, same, le, one))
          pick (inr e) = e

      row_first : (ps : List (Pass C)) → ArePassesAt p0.passes.items k ps → ArePassesAt p.passes.items k ps
      row_first ps row = record {
        many = row.many ∙ sym h.workers_many;
        each = λ w b f.
            let lt = slice_get_within p.passes.items w b f in
            let a = there_is p0.passes.items w (let m = h.workers_many in omega (arith, lt, m)) in
            row.each w a.0 a.1 ∙ sym ((h.workers w a.0 b a.1 f).1 k (omega (arith, one)));
      }

      row_now : (ps : List (Pass C)) → ArePassesAt p.passes.items k ps → ArePassesAt p0.passes.items k ps
      row_now ps row = record {
        many = row.many ∙ h.workers_many;
        each = λ w a e.
            let lt = slice_get_within p0.passes.items w a e in
            let b = there_is p.passes.items w (let m = h.workers_many in omega (arith, lt, m)) in
            row.each w b.0 b.1 ∙ (h.workers w a b.0 e b.1).1 k (omega (arith, one));
      }

      pub may_close_next : (s : Store C O) (x : DirHome C) → MayCloseDir told tells state offers before p0.passes.items k name s x → MayCloseDir told tells state offers now p.passes.items k name s x
      may_close_next s x may = record {
        passes = may.passes;
        passes_are = row_first may.passes may.passes_are;
        may = record {
          all = may.may.all;
          own = may.may.own;
          rest = may.may.rest;
          room = may.may.room;
          away = λ t. let a = may.may.away t in (a.0, still_before t ∙ a.1);
        };
        home = may.home;
      }

      -- it was closed
      module _ (later : Files) (q : Parts C O) (s : Store C O) (x : DirHome C) (ps : List (Pass C)) (row : ArePassesAt p.passes.items k ps) (closes : ClosesFile told tells state offers now later name s x.header ps)
          (stores : p.stores.items ≡ q.stores.items ++ s ∷ []) (homes : p.homes.items ≡ q.homes.items ++ x ∷ []) (left : Gathered k p.passes.items q.passes.items) where
        stores_less : length q.stores.items ≡ k
        stores_less = let a = ap length stores in let b = put_length q.stores.items s in let c = h.stores in omega (arith, a, b, c, one)

        homes_less : length q.homes.items ≡ k
        homes_less = let a = ap length homes in let b = put_length q.homes.items x in let c = h.homes in omega (arith, a, b, c, one)

        its_store : slice_get p0.stores.items k ≡ Some s
        its_store = last_store q.stores.items s stores

        its_home : slice_get p0.homes.items k ≡ Some x
        its_home = last_home q.homes.items x homes

        closed_now : ClosesDir told tells state offers before later p0.passes.items k name s x
        closed_now = record {
          passes = ps;
          passes_are = row_now ps row;
          cells = closes.cells;
          closed = closes.closed;
          back = λ t slots slot rest found. ap (λ (m : Files). get m name) (closes.back t slots slot rest (still_before t ∙ found)) ∙ get_inserted now name _;
        }

        -- another file is as it was, where this one was out
        beside_now : (away : IsTrue told → (slots : ℕ) × ((slot : ℕ) × ((rest : List ℕ) × (get before name ≡ Some (Away slots slot rest))))) → IsTrue told → (other : List ℕ) → other ≢ name → get later other ≡ get now other
        beside_now away t other ne = let a = away t in ap (λ (m : Files). get m other) (closes.back t a.0 a.1.0 a.1.1.0 (still_before t ∙ a.1.1.1)) ∙ others_inserted now name _ other ne

        module _ (away : IsTrue told → (slots : ℕ) × ((slot : ℕ) × ((rest : List ℕ) × (get before name ≡ Some (Away slots slot rest))))) where
          each_closed : (d : ℕ) (other : List ℕ) (r : Store C O) (y : DirHome C) → k ≤ d → slice_get names d ≡ Some other → slice_get p0.stores.items d ≡ Some r → slice_get p0.homes.items d ≡ Some y → ((d ≡ k) ⊎ (d ≢ k)) → ClosesDir told tells state offers before later p0.passes.items d other r y
          each_closed d other r y le en es eh (inl same) =
              let name_is : name ≡ other = one_item (slice_get names k) name other at (ap (λ (j : ℕ). slice_get names j) (sym same) ∙ en) in
              let store_is : s ≡ r = one_item (slice_get p0.stores.items k) s r its_store (ap (λ (j : ℕ). slice_get p0.stores.items j) (sym same) ∙ es) in
              let home_is : x ≡ y = one_item (slice_get p0.homes.items k) x y its_home (ap (λ (j : ℕ). slice_get p0.homes.items j) (sym same) ∙ eh) in
              subst (λ (j : ℕ). ClosesDir told tells state offers before later p0.passes.items j other r y) (sym same)
              (subst (λ (z : List ℕ). ClosesDir told tells state offers before later p0.passes.items k z r y) name_is
              (subst (λ (z : Store C O). ClosesDir told tells state offers before later p0.passes.items k name z y) store_is
              (subst (λ (z : DirHome C). ClosesDir told tells state offers before later p0.passes.items k name s z) home_is closed_now)))
          each_closed d other r y le en es eh (inr ne) =
              let had = h.closed d other r y (omega (arith, one, le, ne)) en es eh in record {
                passes = had.passes;
                passes_are = had.passes_are;
                cells = had.cells;
                closed = had.closed;
                back = λ t slots slot rest found. beside_now away t other (λ is. ne (differ d k other en (at ∙ ap Some (sym is)))) ∙ had.back t slots slot rest found;
              }

          pub closing_one : Closing names before later p0 q k
          closing_one = record {
            stores = stores_less;
            homes = homes_less;
            within = let w = h.within in omega (arith, w, one);
            stores_front = λ d lt. sym (put_before q.stores.items s d (omega (arith, lt, stores_less))) ∙ ap (λ (xs : List (Store C O)). slice_get xs d) (sym stores) ∙ h.stores_front d (omega (arith, lt, one));
            homes_front = λ d lt. sym (put_before q.homes.items x d (omega (arith, lt, homes_less))) ∙ ap (λ (xs : List (DirHome C)). slice_get xs d) (sym homes) ∙ h.homes_front d (omega (arith, lt, one));
            workers_many = left.many ∙ h.workers_many;
            workers = λ w a b e f.
                let lt = slice_get_within p0.passes.items w a e in
                let m = there_is p.passes.items w (let z = h.workers_many in omega (arith, lt, z)) in
                let was = h.workers w a m.0 e m.1 in
                let lost = left.each w m.0 b m.1 f in
                let less = lost.many in let many = was.0 in (
                  omega (arith, less, many, one, m.0.passes.ok.0, b.passes.ok.0),
                  λ j below. lost.below j below ∙ was.1 j (omega (arith, below, one)),
                );
            closed = λ d other r y le en es eh. each_closed d other r y le en es eh (is_or_not d k);
            others = λ t other. pick t other (name_or_not other name) (h.others t other);
          }
            where
              pick : IsTrue told → (other : List ℕ) → ((other ≡ name) ⊎ (other ≢ name)) → ((d : ℕ) × (n ≤ d) × (d < length p0.stores.items) × (slice_get names d ≡ Some other)) ⊎ (get now other ≡ get before other)
                  → ((d : ℕ) × (k ≤ d) × (d < length p0.stores.items) × (slice_get names d ≡ Some other)) ⊎ (get later other ≡ get before other)
              pick t other (inl same) z = inl (k, omega arith, let w = h.within in omega (arith, w, one), at ∙ ap Some (sym same))
              pick t other (inr ne) (inl z) = inl (z.0, let le = z.1 in omega (arith, le, one), z.2, z.3)
              pick t other (inr ne) (inr z) = inr (beside_now away t other ne ∙ z)
