-- Bytes of a body are taken by calls, one behind the other.
use Rattle.std.proofs.Common.{Bool, List, [], ap, arith, drop, length, length-append, refl, subst, sym, take, ◌++◌, ◌+◌, ◌-◌, ◌∷◌, ◌≡◌, ◌≤◌, ◌∙◌, ℕ}
use Rattle.std.proofs.Math.Seq.{drop-append_seam, take-append_seam}
use Rattle.std.proofs.lemmas.List.{append_assoc, drop-drop, drop-take, length-drop, take_rest}
use Rattle.rock_disk.specs.Cell.{CellState}
use Rattle.core_model.specs.Tabs.{InnerIsFree, tab_at}
use Rattle.core_model.specs.declared.tab.Tab.TheVariants.{Free}
use Rattle.store_rule.specs.declared.store.Pass.{Pass}
use Rattle.store_rule.specs.declared.store.Store.{Store}
use Rattle.store_rule.specs.Ground.{Offers}
use Rattle.store_rule.specs.Passes.{basis, view}
use Rattle.rock_writer.specs.declared.fault.WriteFault.{WriteFault}
use Rattle.rock_writer.specs.Appending.{Appended, MayAppend, NotAppended}
use Rattle.rock_writer.specs.Entries.{Entry, WritesAs, body_in, with_taken}
use Rattle.collapse.specs.Sending.{Sends, SendsFront}
use Rattle.collapse.specs.Writing.{Added, Call, KeepsNoMore, KeepsSome, KeepsWhole, MayTake, NotAdded, Took}
use Rattle.collapse.proofs.Sends.{least_here, least_on, sends_all, sends_none, sends_on}

-- behind the first bytes of what comes next in a body comes the rest of it
rest_continues : (bytes body : List ℕ) (from taken total : ℕ) → bytes ≡ take (length bytes) (drop from body) → total ≡ from + taken → taken ≤ length bytes → drop taken bytes ≡ take (length (drop taken bytes)) (drop total body)
rest_continues bytes body from taken total is sum within =
    let m = length (drop taken bytes) in
    let many : length bytes ≡ taken + m = let l = length-drop taken bytes in omega (arith, l) in
    ap (drop taken) (is ∙ ap (λ n. take n (drop from body)) many) ∙ drop-take taken m (drop from body) ∙ ap (take m) (drop-drop taken from body ∙ ap (λ n. drop n body) (sym sum))

-- how many bytes there are behind the first ones
pub length_rest : (bytes : List ℕ) (taken : ℕ) → length (take (length bytes - taken) (drop taken bytes)) ≡ length bytes - taken
length_rest bytes taken = ap length (take_rest bytes taken) ∙ length-drop taken bytes

module _ {C O : Type 0} (tells : Bool) (state : C → CellState) (offers : O → Offers) (s : Store C O) (t : ℕ) where
  took_behind : (e : Entry) (p : Pass C) (calls : List (Call C)) (u : Pass C) (n : ℕ) → Took tells state offers s t e p calls u n → (more : List (Call C)) (q : Pass C) (m : ℕ) → Took tells state offers s t (with_taken e n) u more q m
      → Took tells state offers s t e p (more ++ calls) q m
  took_behind e p calls u n h [] q m (q_is, m_is) = subst (λ (z : ℕ). Took tells state offers s t e p calls q z) (sym m_is) (subst (λ (z : Pass C). Took tells state offers s t e p calls z n) (sym q_is) h)
  took_behind e p calls u n h (c ∷ more) q m (middle, before, k, appended, q_is, m_is) = (middle, before, took_behind e p calls u n h more middle before k, appended, q_is, m_is)

  -- nothing was taken yet
  pub added_none : (e : Entry) (p : Pass C) (n : ℕ) → WritesAs tells state offers s p t e → n ≡ e.taken → Added tells state offers s t e p p n
  added_none e p n writes is = record { calls = []; took = (refl, is); writes = subst (λ (z : ℕ). WritesAs tells state offers s p t (with_taken e z)) (sym is) writes }

  pub added_at : (e : Entry) (p q : Pass C) (n m : ℕ) → n ≡ m → Added tells state offers s t e p q n → Added tells state offers s t e p q m
  added_at e p q n m same h = subst (λ (z : ℕ). Added tells state offers s t e p q z) same h

  -- one call took some more
  pub added_one : (e : Entry) (p u q : Pass C) (total count n : ℕ) (bytes : List ℕ) → Added tells state offers s t e p u total → Appended tells state offers s t (with_taken e total) bytes u q count → n ≡ total + count → Added tells state offers s t e p q n
  added_one e p u q total count n bytes added appended sum = record {
    calls = record { bytes = bytes; count = count; after = q } ∷ added.calls;
    took = (u, total, added.took, appended, refl, sum);
    writes = subst (λ (z : ℕ). WritesAs tells state offers s q t (with_taken e z)) (sym sum) appended.writes;
  }

  -- or gave the entry up
  pub added_not : (e : Entry) (p u q : Pass C) (total : ℕ) (bytes : List ℕ) (fault : WriteFault) → Added tells state offers s t e p u total → NotAppended tells state offers s t (with_taken e total) bytes u q fault → NotAdded tells state offers s t e p q fault
  added_not e p u q total bytes cause added stopped = record { calls = added.calls; middle = u; total = total; took = added.took; bytes = bytes; stopped = stopped }

  -- some calls behind others
  pub added_on : (e : Entry) (p u q : Pass C) (total n : ℕ) → Added tells state offers s t e p u total → Added tells state offers s t (with_taken e total) u q n → Added tells state offers s t e p q n
  added_on e p u q total n h k = record { calls = k.calls ++ h.calls; took = took_behind e p h.calls u total h.took k.calls q n k.took; writes = k.writes }

  pub not_added_on : (e : Entry) (p u q : Pass C) (total : ℕ) (fault : WriteFault) → Added tells state offers s t e p u total → NotAdded tells state offers s t (with_taken e total) u q fault → NotAdded tells state offers s t e p q fault
  not_added_on e p u q total cause h k = record {
    calls = k.calls ++ h.calls;
    middle = k.middle;
    total = k.total;
    took = took_behind e p h.calls u total h.took k.calls k.middle k.total k.took;
    bytes = k.bytes;
    stopped = k.stopped;
  }

  -- the entry was given up, and the tab is free
  pub not_added_free : (e : Entry) (p q : Pass C) (fault : WriteFault) → NotAdded tells state offers s t e p q fault → (tab_at (view q) t ≡ Free) × InnerIsFree (view q)
  not_added_free e p q cause h = (h.stopped.halts.parted.free, h.stopped.halts.parted.inner_free)

  -- of bytes that come next in the body, what is behind the first ones comes next
  pub may_append_rest : (e : Entry) (p u : Pass C) (bytes : List ℕ) (taken total : ℕ) → MayAppend tells state offers s t e bytes p → Added tells state offers s t e p u total → total ≡ e.taken + taken → taken ≤ length bytes
      → MayAppend tells state offers s t (with_taken e total) (take (length bytes - taken) (drop taken bytes)) u
  may_append_rest e p u bytes taken total may added sum within = record {
    writes = added.writes;
    continues = subst (λ (z : List ℕ). z ≡ take (length z) (drop total (body_in (basis tells state offers s) e))) (sym (take_rest bytes taken)) (rest_continues bytes (body_in (basis tells state offers s) e) e.taken taken total may.continues sum within);
  }

  -- The rest of a fetch is taken so far: what is left of it is the rest of the body, and what came went to the sink.
  pub record HasKept (e : Entry) (p q : Pass C) (sink_tells : Bool) (old new rest left : List ℕ) : Type 0 where
    pub total : ℕ
    pub added : Added tells state offers s t e p q total
    pub left_is : left ≡ drop total (body_in (basis tells state offers s) e)
    pub bytes : List ℕ
    pub total_is : total ≡ e.taken + length bytes
    pub rest_is : rest ≡ bytes ++ left
    pub sent : Sends sink_tells old new bytes

  pub kept_none : (e : Entry) (p : Pass C) (sink_tells : Bool) (old rest : List ℕ) → MayTake tells state offers s t e rest p → HasKept e p p sink_tells old old rest rest
  kept_none e p sink_tells old rest may = record {
    total = e.taken;
    added = added_none e p e.taken may.writes refl;
    left_is = may.rest_is;
    bytes = [];
    total_is = omega arith;
    rest_is = refl;
    sent = sends_none sink_tells old;
  }

  -- the next bytes of the fetch are the next ones of the body
  pub may_append_next : (e : Entry) (p u : Pass C) (sink_tells : Bool) (old new rest left piece behind : List ℕ) (h : HasKept e p u sink_tells old new rest left) → left ≡ piece ++ behind
      → MayAppend tells state offers s t (with_taken e h.total) piece u
  may_append_next e p u sink_tells old new rest left piece behind h is = record {
    writes = h.added.writes;
    continues = sym (ap (take (length piece)) (sym h.left_is ∙ is) ∙ take-append_seam piece behind);
  }

  pub kept_on : (e : Entry) (p u q : Pass C) (sink_tells : Bool) (old mid new rest left piece behind : List ℕ) (h : HasKept e p u sink_tells old mid rest left) → left ≡ piece ++ behind → Sends sink_tells mid new piece
      → Added tells state offers s t (with_taken e h.total) u q (h.total + length piece) → HasKept e p q sink_tells old new rest behind
  kept_on e p u q sink_tells old mid new rest left piece behind h is sent added = record {
    total = h.total + length piece;
    added = added_on e p u q h.total (h.total + length piece) h.added added;
    left_is = sym (drop-append_seam piece behind) ∙ ap (drop (length piece)) (sym is ∙ h.left_is) ∙ drop-drop (length piece) h.total (body_in (basis tells state offers s) e);
    bytes = h.bytes ++ piece;
    total_is = let n = h.total_is in let l = length-append h.bytes piece in omega (arith, n, l);
    rest_is = h.rest_is ∙ ap (λ z. h.bytes ++ z) is ∙ sym (append_assoc h.bytes piece behind);
    sent = sends_on sink_tells old mid new h.bytes piece h.sent sent;
  }

  -- nothing is left of the fetch
  pub keeps_whole : (e : Entry) (p q : Pass C) (sink_tells : Bool) (old new rest left now : List ℕ) (h : HasKept e p q sink_tells old new rest left) → left ≡ [] → KeepsWhole tells state offers s t e p q sink_tells old new rest now
  keeps_whole e p q sink_tells old new rest left now h none = record {
    added = subst (λ (z : ℕ). Added tells state offers s t e p q z) (let inside = h.added.writes.drafts.inside in let l = ap length (sym h.left_is ∙ none) in let m = length-drop h.total (body_in (basis tells state offers s) e) in omega (arith, l, m, inside)) h.added;
    sent = sends_all sink_tells old new h.bytes left rest h.sent h.rest_is none;
  }

  -- the fetcher failed, or the sink, which took a first part of the next piece
  pub keeps_some : (e : Entry) (p q : Pass C) (sink_tells : Bool) (old new rest left now : List ℕ) (h : HasKept e p q sink_tells old new rest left) → KeepsSome tells state offers s t e p q sink_tells old new rest now
  keeps_some e p q sink_tells old new rest left now h = record { total = h.total; added = h.added; many = length h.bytes; total_is = h.total_is; sent = least_here sink_tells old new h.bytes left rest h.sent h.rest_is }

  pub keeps_part : (e : Entry) (p q : Pass C) (sink_tells : Bool) (old mid new rest left piece behind now : List ℕ) (h : HasKept e p q sink_tells old mid rest left) → left ≡ piece ++ behind → SendsFront sink_tells mid new piece
      → KeepsSome tells state offers s t e p q sink_tells old new rest now
  keeps_part e p q sink_tells old mid new rest left piece behind now h is sent = record {
    total = h.total;
    added = h.added;
    many = length h.bytes;
    total_is = h.total_is;
    sent = least_on sink_tells old mid new h.bytes piece behind rest h.sent sent (h.rest_is ∙ ap (λ z. h.bytes ++ z) is);
  }

  -- the entry was given up
  pub keeps_no_more : (e : Entry) (p u q : Pass C) (sink_tells : Bool) (old mid new rest left piece behind : List ℕ) (fault : WriteFault) (h : HasKept e p u sink_tells old mid rest left) → left ≡ piece ++ behind → Sends sink_tells mid new piece
      → NotAdded tells state offers s t (with_taken e h.total) u q fault → KeepsNoMore tells state offers s t e p q sink_tells old new rest behind fault
  keeps_no_more e p u q sink_tells old mid new rest left piece behind fault h is sent stopped = record {
    not_added = not_added_on e p u q h.total fault h.added stopped;
    bytes = h.bytes ++ piece;
    rest_is = h.rest_is ∙ ap (λ z. h.bytes ++ z) is ∙ sym (append_assoc h.bytes piece behind);
    sent = sends_on sink_tells old mid new h.bytes piece h.sent sent;
  }
