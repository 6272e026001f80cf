-- The files of a cache are opened one after the other.
use Rattle.std.proofs.Common.{All, Bool, List, None, Option, Some, [], ap, arith, drop, false, get_or, inl, inr, length, map, refl, subst, suc, sym, true, zero, ◌+◌, ◌<◌, ◌≡◌, ◌≢◌, ◌⊎◌, ◌∙◌, ◌∷◌, ℕ}
use Rattle.std.specs.FinMap.{get, insert}
use Rattle.std.specs.Global.{Vec}
use Rattle.std.specs.Prelude.{IsTrue, slice_get}
use Rattle.std.proofs.lemmas.List.{length-map}
use Rattle.std.proofs.lemmas.Option.{get_or_from_slice_get, slice_get_within}
use Rattle.db_layout.specs.Layout.{slots_of}
use Rattle.rock_disk.specs.Cell.{CellState, shape}
use Rattle.rock_disk.specs.File.{File, Files, HasSlots, bytes_of, rest_cut}
use Rattle.rock_disk.specs.File.File.{Away}
use Rattle.rock_disk.specs.Opened.{HasShape, IsSmall}
use Rattle.rock_disk.proofs.Out.{get_inserted}
use Rattle.rock_open.specs.Opening.{IsAnchors, OpensStore}
use Rattle.store_rule.specs.declared.store.Pass.{Pass}
use Rattle.store_rule.specs.declared.store.Store.{Store}
use Rattle.store_rule.specs.Closing.{IsResting}
use Rattle.store_rule.specs.Ground.{Offers}
use Rattle.store_rule.specs.Passes.{IsNewOf, IsOf, KeepsRoom, basis}
use Rattle.dir_set.specs.declared.dirs.DirPass.{DirPass}
use Rattle.dir_set.specs.declared.dirs.Dirs.{Dirs}
use Rattle.dir_set.specs.declared.parts.DirHome.{DirHome}
use Rattle.dir_set.specs.declared.parts.Parts.{Parts}
use Rattle.dir_set.specs.Dirs.{dir_count}
use Rattle.dir_set.specs.Files.{AreDifferent, ArePassesAt, IsHome, MayClose, MayCloseDir, OpensDir, OpensDirs}
use Rattle.dir_set.specs.Parts.{Adds, AreOpen, AreParts, Gains}
use Rattle.dir_set.proofs.Names.{name_or_not, others_inserted}
use Rattle.dir_set.proofs.Dealing.{one_item, put_before, put_here, put_length}
use Rattle.dir_set.proofs.OneFile.{first_of_all, is_or_not, there_is}

-- the first item of what is left of a list
pub first_left : {T : Type 0} (xs : List T) (n : ℕ) (x : T) → n < length xs → slice_get (drop n xs) 0 ≡ Some x → slice_get xs n ≡ Some x
first_left [] n x lt e = absurd (omega (arith, lt))
first_left (y ∷ xs) zero x lt e = e
first_left (y ∷ xs) (suc n) x lt e = first_left xs n x (omega (arith, lt)) e

pub drop_first : {T : Type 0} (xs : List T) (n : ℕ) → drop 1 (drop n xs) ≡ drop (n + 1) xs
drop_first [] zero = refl
drop_first {T} [] (suc n) = let e : suc (suc n) ≡ suc n + 1 = omega arith in ap (λ (k : ℕ). drop {A = T} k []) e
drop_first (y ∷ xs) zero = refl
drop_first (y ∷ xs) (suc n) = let e : suc (n + 1) ≡ suc n + 1 = omega arith in drop_first xs n ∙ ap (λ (k : ℕ). drop k (y ∷ xs)) e

no_file : {f : File} {o : Option File} → o ≡ None → o ≡ Some f → ⊥
no_file e k = cc

not_told : IsTrue false → ⊥
not_told e = cc

module _ {C O : Type 0} (told tells : Bool) (state : C → CellState) (offers : O → Offers) (before after : Files) (name : List ℕ) (slot anchors passes : ℕ) (origin : O) (header : C) (s : Store C O) (all : Vec (Pass C))
    (h : OpensStore told tells state offers before after name slot anchors passes origin header s all) where
  -- it has a pass
  pub some_pass : 0 < length all.items
  some_pass = pick all.items h.store.room
    where
      pick : (ps : List (Pass C)) → KeepsRoom (length h.cells) ps → 0 < length ps
      pick [] room = absurd room
      pick (p ∷ ps) room = omega arith

  pub as_many : length all.items ≡ passes
  as_many = let m = h.store.many in omega (arith, m, all.ok.0)

  -- what an opened file is not
  pub not_missing : IsTrue told → get before name ≡ None → ⊥
  not_missing t none = no_file none (h.out t).found

  pub not_small : IsTrue told → (bytes : ℕ) → IsSmall before name slot bytes → ⊥
  not_small t bytes small =
      let o = h.out t in
      let same : o.was ≡ small.was = one_item (get before name) o.was small.was o.found small.found in
      let long : length (bytes_of o.was) ≡ length (bytes_of small.was) = ap (λ (f : File). length (bytes_of f)) same in
      let room = h.shape.room in let size = o.size in let other = small.size in let short = small.short in omega (arith, room, size, other, short, long)

  module _ (count : (slot bytes : ℕ) (header : CellState) (cells : List CellState) → HasShape slot bytes header cells → length cells ≡ slots_of bytes slot) where
    its_slots : length h.cells ≡ slots_of h.bytes slot
    its_slots = sym (length-map h.cells state) ∙ count slot h.bytes (state header) (map state h.cells) h.shape

    pub not_beyond : IsTrue told → (slots : ℕ) → HasSlots before name slot slots → (IsAnchors anchors slots → ⊥) → ⊥
    not_beyond t slots has unfit =
        let o = h.out t in
        let same : o.was ≡ has.was = one_item (get before name) o.was has.was o.found has.there in
        let is : length h.cells ≡ slots = its_slots ∙ ap (λ (n : ℕ). slots_of n slot) (o.size ∙ ap (λ (f : File). length (bytes_of f)) same) ∙ sym has.count in
        unfit (subst (λ (n : ℕ). IsAnchors anchors n) is h.fit)

    -- it may be closed with its new passes, as long as it is out
    pub may_close_new : ((s : Store C O) (ps : List (Pass C)) → All (IsNewOf tells state offers s) ps → All IsResting ps) → (now : Files) → (IsTrue told → get now name ≡ get after name) → MayClose told tells state offers now name s all.items
    may_close_new rests now out = record {
      all = as_many ∙ sym h.store.passes_are;
      own = λ k d lt. (h.store.new k d lt).own;
      rest = rests s all.items h.store.new;
      room = subst (λ (n : ℕ). KeepsRoom n all.items) (sym h.store.slots_are) h.store.room;
      away = λ t.
          let o = h.out t in (
            rest_cut slot (bytes_of o.was),
            out t ∙ ap (λ (m : Files). get m name) o.out ∙ get_inserted before name (Away (slots_of h.bytes slot) slot (rest_cut slot (bytes_of o.was)))
                ∙ ap (λ (n : ℕ). Some (Away n slot (rest_cut slot (bytes_of o.was)))) (sym (h.store.slots_are ∙ its_slots))
                ∙ ap (λ (n : ℕ). Some (Away (basis tells state offers s).setting.slots n (rest_cut slot (bytes_of o.was)))) (sym h.store.slot_is),
          );
    }

-- a file that was opened behind others is as where it is opened alone
pub opened_alone : {C O : Type 0} (told tells : Bool) (state : C → CellState) (offers : O → Offers) (before mid after : Files) (name : List ℕ) (slot anchors passes : ℕ) (origin : O) (header : C) (s : Store C O) (all : Vec (Pass C))
    → (IsTrue told → get mid name ≡ get before name) → OpensStore told tells state offers mid after name slot anchors passes origin header s all
    → (files : Files) × OpensStore told tells state offers before files name slot anchors passes origin header s all × (IsTrue told → get after name ≡ get files name)
opened_alone false tells state offers before mid after name slot anchors passes origin header s all same h = (
  before,
  record {
    bytes = h.bytes;
    cells = h.cells;
    shape = h.shape;
    fit = h.fit;
    told = λ t. absurd (not_told t);
    out = λ t. absurd (not_told t);
    store = h.store;
  },
  λ t. absurd (not_told t),
)
opened_alone true tells state offers before mid after name slot anchors passes origin header s all same h =
    let o = h.out refl in
    let away : File = Away (slots_of h.bytes slot) slot (rest_cut slot (bytes_of o.was)) in (
      insert before name away,
      record {
        bytes = h.bytes;
        cells = h.cells;
        shape = h.shape;
        fit = h.fit;
        told = h.told;
        out = λ t. record { was = o.was; found = sym (same refl) ∙ o.found; size = o.size; header_is = o.header_is; cells_are = o.cells_are; out = refl };
        store = h.store;
      },
      λ t. ap (λ (m : Files). get m name) o.out ∙ get_inserted mid name away ∙ sym (get_inserted before name away),
    )

module _ {C O : Type 0} (told tells : Bool) (state : C → CellState) (offers : O → Offers) (slot anchors passes : ℕ) (names : List (List ℕ)) (origins : List O) where
  -- none is open yet
  pub none_open : (before : Files) (p : Parts C O) → AreParts (length names) passes 0 p → AreOpen told tells state offers before before slot anchors passes names origins 0 p
  none_open before p parts = record {
    parts = parts;
    each = λ d name origin s h en eo es eh. absurd (let lt = slice_get_within p.stores.items d s es in let none = parts.stores in omega (arith, lt, none, p.stores.ok.0));
    others = λ t name. inr refl;
  }

  -- the next file is as it was
  pub still_first : AreDifferent names → (before mid : Files) (n : ℕ) (p : Parts C O) → AreOpen told tells state offers before mid slot anchors passes names origins n p → (name : List ℕ) → slice_get names n ≡ Some name → IsTrue told → get mid name ≡ get before name
  still_first differ before mid n p h name at t = pick (h.others t name)
    where
      pick : ((d : ℕ) × (d < n) × (slice_get names d ≡ Some name)) ⊎ (get mid name ≡ get before name) → get mid name ≡ get before name
      pick (inl x) = absurd (let same = differ x.0 n name x.2 at in let lt = x.1 in omega (arith, same, lt))
      pick (inr e) = e

  module _ (differ : AreDifferent names) (before mid after : Files) (n : ℕ) (p q : Parts C O) (h : AreOpen told tells state offers before mid slot anchors passes names origins n p) (name : List ℕ) (origin : O) (header : C) (s : Store C O) (all : Vec (Pass C))
      (at : slice_get names n ≡ Some name) where
    module _ (its : slice_get origins n ≡ Some origin) (opened : OpensStore told tells state offers mid after name slot anchors passes origin header s all) (adds : Adds p q s header all) where
      beside_open : IsTrue told → (other : List ℕ) → other ≢ name → get after other ≡ get mid other
      beside_open t other ne = ap (λ (m : Files). get m other) (opened.out t).out ∙ others_inserted mid name _ other ne

      -- each worker has one pass more
      gains_at : (w : ℕ) (b : DirPass C) → slice_get q.passes.items w ≡ Some b → (a : DirPass C) × ((x : Pass C) × (slice_get p.passes.items w ≡ Some a) × (slice_get all.items w ≡ Some x) × Gains a b x)
      gains_at w b f =
          let lt = slice_get_within q.passes.items w b f in
          let many = adds.dealt.many in let workers = h.parts.workers_many in
          let long = as_many told tells state offers mid after name slot anchors passes origin header s all opened in
          let a = there_is p.passes.items w (omega (arith, lt, many)) in
          let x = there_is all.items w (omega (arith, lt, many, workers, long)) in
          (a.0, (x.0, a.1, x.1, adds.dealt.each w a.0 b x.0 a.1 f x.1))

      has_passes : (w : ℕ) (a : DirPass C) → slice_get p.passes.items w ≡ Some a → length a.passes.items ≡ n
      has_passes w a e = let m = (h.parts.each w a e).many in omega (arith, m, a.passes.ok.0)

      row_before : (d : ℕ) (ps : List (Pass C)) → d < n → ArePassesAt p.passes.items d ps → ArePassesAt q.passes.items d ps
      row_before d ps below row = record {
        many = row.many ∙ sym adds.dealt.many;
        each = λ w b f.
            let x = gains_at w b f in
            let long = has_passes w x.0 x.1.1 in
            row.each w x.0 x.1.1 ∙ sym (put_before x.0.passes.items x.1.0 d (omega (arith, below, long))) ∙ ap (λ (xs : List (Pass C)). slice_get xs d) (sym x.1.3.items);
      }

      row_last : ArePassesAt q.passes.items n all.items
      row_last = record {
        many = let many = adds.dealt.many in let workers = h.parts.workers_many in let long = as_many told tells state offers mid after name slot anchors passes origin header s all opened in omega (arith, many, workers, long);
        each = λ w b f.
            let x = gains_at w b f in
            x.1.2 ∙ sym (put_here x.0.passes.items x.1.0 n (sym (has_passes w x.0 x.1.1))) ∙ ap (λ (xs : List (Pass C)). slice_get xs n) (sym x.1.3.items);
      }

      stores_long : length p.stores.items ≡ n
      stores_long = let m = h.parts.stores in omega (arith, m, p.stores.ok.0)

      homes_long : length p.homes.items ≡ n
      homes_long = let m = h.parts.homes in omega (arith, m, p.homes.ok.0)

      parts_more : AreParts (length names) passes (n + 1) q
      parts_more = record {
        stores = let a = ap length adds.stores in let b = put_length p.stores.items s in omega (arith, a, b, stores_long, q.stores.ok.0);
        homes = let a = ap length adds.homes in let b = put_length p.homes.items adds.home in omega (arith, a, b, homes_long, q.homes.ok.0);
        workers_many = adds.dealt.many ∙ h.parts.workers_many;
        each = λ w b f.
            let x = gains_at w b f in let had = h.parts.each w x.0 x.1.1 in let g = x.1.3 in record {
              many = let a = ap length g.items in let l = put_length x.0.passes.items x.1.0 in let long = has_passes w x.0 x.1.1 in omega (arith, a, l, long, b.passes.ok.0);
              room = let r = had.room in let k = g.room in omega (arith, r, k);
              hand = g.hand ∙ had.hand;
              tabs = g.tabs ∙ had.tabs;
            };
        stores_room = let r = h.parts.stores_room in let k = adds.stores_room in omega (arith, r, k);
        homes_room = let r = h.parts.homes_room in let k = adds.homes_room in omega (arith, r, k);
      }

      home_last : IsHome state passes adds.home
      home_last = record {
        header_shape = ap (λ (x : C). shape (state x)) adds.header_is ∙ opened.shape.header_shape;
        empty = adds.emptied;
        room = let k = adds.kept in let m = opened.store.many in omega (arith, k, m, all.ok.1);
      }

      opens_last : OpensDir told tells state offers before after slot anchors passes q.passes.items n name origin s adds.home
      opens_last = let x = opened_alone told tells state offers before mid after name slot anchors passes origin header s all (still_first differ before mid n p h name at) opened in record {
        files = x.0;
        all = all;
        opened = subst (λ (z : C). OpensStore told tells state offers before x.0 name slot anchors passes origin z s all) (sym adds.header_is) x.1;
        out = x.2;
        passes_are = row_last;
        home = home_last;
      }

      opens_each : (d : ℕ) (other : List ℕ) (o : O) (r : Store C O) (y : DirHome C) → slice_get names d ≡ Some other → slice_get origins d ≡ Some o → slice_get q.stores.items d ≡ Some r → slice_get q.homes.items d ≡ Some y
          → ((d ≡ n) ⊎ (d ≢ n)) → OpensDir told tells state offers before after slot anchors passes q.passes.items d other o r y
      opens_each d other o r y en eo es eh (inl same) =
          let name_is : name ≡ other = one_item (slice_get names n) name other at (ap (λ (j : ℕ). slice_get names j) (sym same) ∙ en) in
          let origin_is : origin ≡ o = one_item (slice_get origins n) origin o its (ap (λ (j : ℕ). slice_get origins j) (sym same) ∙ eo) in
          let store_is : s ≡ r = one_item (slice_get q.stores.items n) s r (ap (λ (xs : List (Store C O)). slice_get xs n) adds.stores ∙ put_here p.stores.items s n (sym stores_long)) (ap (λ (j : ℕ). slice_get q.stores.items j) (sym same) ∙ es) in
          let home_is : adds.home ≡ y = one_item (slice_get q.homes.items n) adds.home y (ap (λ (xs : List (DirHome C)). slice_get xs n) adds.homes ∙ put_here p.homes.items adds.home n (sym homes_long)) (ap (λ (j : ℕ). slice_get q.homes.items j) (sym same) ∙ eh) in
          subst (λ (j : ℕ). OpensDir told tells state offers before after slot anchors passes q.passes.items j other o r y) (sym same)
          (subst (λ (z : List ℕ). OpensDir told tells state offers before after slot anchors passes q.passes.items n z o r y) name_is
          (subst (λ (z : O). OpensDir told tells state offers before after slot anchors passes q.passes.items n name z r y) origin_is
          (subst (λ (z : Store C O). OpensDir told tells state offers before after slot anchors passes q.passes.items n name origin z y) store_is
          (subst (λ (z : DirHome C). OpensDir told tells state offers before after slot anchors passes q.passes.items n name origin s z) home_is opens_last))))
      opens_each d other o r y en eo es eh (inr ne) =
          let lt = slice_get_within q.stores.items d r es in
          let a = ap length adds.stores in let b = put_length p.stores.items s in
          let below : d < n = omega (arith, lt, a, b, stores_long, ne) in
          let had = h.each d other o r y en eo (sym (put_before p.stores.items s d (omega (arith, below, stores_long))) ∙ ap (λ (xs : List (Store C O)). slice_get xs d) (sym adds.stores) ∙ es)
          (sym (put_before p.homes.items adds.home d (omega (arith, below, homes_long))) ∙ ap (λ (xs : List (DirHome C)). slice_get xs d) (sym adds.homes) ∙ eh) in record {
            files = had.files;
            all = had.all;
            opened = had.opened;
            out = λ t. beside_open t other (λ is. ne (differ d n other en (at ∙ ap Some (sym is)))) ∙ had.out t;
            passes_are = row_before d had.all.items below had.passes_are;
            home = had.home;
          }

      -- one more is open
      pub one_more_open : AreOpen told tells state offers before after slot anchors passes names origins (n + 1) q
      one_more_open = record {
        parts = parts_more;
        each = λ d other o r y en eo es eh. opens_each d other o r y en eo es eh (is_or_not d n);
        others = λ t other. pick t other (name_or_not other name) (h.others t other);
      }
        where
          pick : IsTrue told → (other : List ℕ) → ((other ≡ name) ⊎ (other ≢ name)) → ((d : ℕ) × (d < n) × (slice_get names d ≡ Some other)) ⊎ (get mid other ≡ get before other)
              → ((d : ℕ) × (d < n + 1) × (slice_get names d ≡ Some other)) ⊎ (get after other ≡ get before other)
          pick t other (inl same) z = inl (n, omega arith, at ∙ ap Some (sym same))
          pick t other (inr ne) (inl z) = inl (z.0, let lt = z.1 in omega (arith, lt), z.2)
          pick t other (inr ne) (inr z) = inr (beside_open t other ne ∙ z)

  -- all are open
  module _ (before after : Files) (p : Parts C O) (h : AreOpen told tells state offers before after slot anchors passes names origins (length names) p) (some : 0 < length names) (same : length origins ≡ length names) (dirs : Dirs C O) (are : dirs.stores ≡ p.stores) where
    stores_all : length p.stores.items ≡ length names
    stores_all = let m = h.parts.stores in omega (arith, m, p.stores.ok.0)

    homes_all : length p.homes.items ≡ length names
    homes_all = let m = h.parts.homes in omega (arith, m, p.homes.ok.0)

    dirs_all : dir_count dirs ≡ length names
    dirs_all = ap (λ (v : Vec (Store C O)). length v.items) are ∙ stores_all

    its_pass_own : (w : ℕ) (a : DirPass C) → slice_get p.passes.items w ≡ Some a → (d : ℕ) (s : Store C O) (x : Pass C) → slice_get dirs.stores.items d ≡ Some s → slice_get a.passes.items d ≡ Some x → IsOf tells state offers s x
    its_pass_own w a ea d s x es ex =
        let lt = slice_get_within dirs.stores.items d s es in
        let name = there_is names d (omega (arith, lt, dirs_all)) in
        let origin = there_is origins d (omega (arith, lt, dirs_all, same)) in
        let home = there_is p.homes.items d (omega (arith, lt, dirs_all, homes_all)) in
        let o = h.each d name.0 origin.0 s home.0 name.1 origin.1 (ap (λ (v : Vec (Store C O)). slice_get v.items d) (sym are) ∙ es) home.1 in
        let at : slice_get o.all.items w ≡ Some x = o.passes_are.each w a ea ∙ ex in
        (subst (λ (z : Pass C). IsNewOf tells state offers s z) (get_or_from_slice_get o.all.items w x x at) (o.opened.store.new w x (slice_get_within o.all.items w x at))).own

    pub opens_dirs : OpensDirs told tells state offers before after slot anchors passes names origins dirs p.passes.items p.homes.items
    opens_dirs = record {
      many = dirs_all;
      homes_many = homes_all;
      workers_many = h.parts.workers_many;
      own = λ w a ea. record {
        many = let m = (h.parts.each w a ea).many in omega (arith, m, a.passes.ok.0, dirs_all);
        own = λ d s x es ex. its_pass_own w a ea d s x es ex;
        hand = let e = (h.parts.each w a ea).hand in omega (arith, e, some, dirs_all);
        tabs = λ t lt. subst (λ (xs : List ℕ). get_or xs t 0 < dir_count dirs) (sym (h.parts.each w a ea).tabs) (first_of_all (dir_count dirs) (omega (arith, some, dirs_all)) 8 t);
      };
      new = λ w a ea. let e = h.parts.each w a ea in (e.hand, e.tabs);
      each = λ d name origin s x en eo es ex. h.each d name origin s x en eo (ap (λ (v : Vec (Store C O)). slice_get v.items d) (sym are) ∙ es) ex;
      others = λ t name. pick t name (h.others t name);
    }
      where
        pick : IsTrue told → (name : List ℕ) → ((d : ℕ) × (d < length names) × (slice_get names d ≡ Some name)) ⊎ (get after name ≡ get before name) → ((d : ℕ) × (slice_get names d ≡ Some name)) ⊎ (get after name ≡ get before name)
        pick t name (inl x) = inl (x.0, x.2)
        pick t name (inr e) = inr e

  -- a file that is open may be closed with its new passes, as long as it is out
  module _ (count : (slot bytes : ℕ) (header : CellState) (cells : List CellState) → HasShape slot bytes header cells → length cells ≡ slots_of bytes slot)
      (rests : (s : Store C O) (ps : List (Pass C)) → All (IsNewOf tells state offers s) ps → All IsResting ps) where
    pub may_close_dir : (before after now : Files) (workers : List (DirPass C)) (d : ℕ) (name : List ℕ) (origin : O) (s : Store C O) (x : DirHome C) → OpensDir told tells state offers before after slot anchors passes workers d name origin s x
        → (IsTrue told → get now name ≡ get after name) → MayCloseDir told tells state offers now workers d name s x
    may_close_dir before after now workers d name origin s x o out = record {
      passes = o.all.items;
      passes_are = o.passes_are;
      may = may_close_new told tells state offers before o.files name slot anchors passes origin x.header s o.all o.opened count rests now (λ t. out t ∙ o.out t);
      home = record { header_shape = o.home.header_shape; empty = o.home.empty; room = let r = o.home.room in let m = o.opened.store.many in omega (arith, r, m, o.all.ok.0) };
    }

    module _ (before after : Files) (dirs : Dirs C O) (workers : List (DirPass C)) (homes : List (DirHome C)) (h : OpensDirs told tells state offers before after slot anchors passes names origins dirs workers homes) (same : length origins ≡ length names) where
      pub may_close_new_dir : (d : ℕ) (name : List ℕ) (s : Store C O) (x : DirHome C) → slice_get names d ≡ Some name → slice_get dirs.stores.items d ≡ Some s → slice_get homes d ≡ Some x → MayCloseDir told tells state offers after workers d name s x
      may_close_new_dir d name s x en es ex =
          let o = there_is origins d (let lt = slice_get_within names d name en in omega (arith, lt, same)) in
          may_close_dir before after after workers d name o.0 s x (h.each d name o.0 s x en o.1 es ex) (λ t. refl)

      pub some_worker : 0 < length names → 0 < length workers
      some_worker some =
          let name = there_is names 0 some in
          let origin = there_is origins 0 (omega (arith, some, same)) in
          let s = there_is dirs.stores.items 0 (let m = h.many in omega (arith, some, m)) in
          let x = there_is homes 0 (let m = h.homes_many in omega (arith, some, m)) in
          let o = h.each 0 name.0 origin.0 s.0 x.0 name.1 origin.1 s.1 x.1 in
          let row = o.passes_are.many in let first = some_pass told tells state offers before o.files name.0 slot anchors passes origin.0 x.0.header s.0 o.all o.opened in omega (arith, row, first)
