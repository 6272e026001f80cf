-- An entry was begun and written: what that comes to.
use Rattle.std.proofs.Common.{arith, Bool, List, [], ap, inl, inr, length, refl, subst, sym, ◌+◌, ◌-◌, ◌≡◌, ◌∙◌, ℕ}
use Rattle.rock_disk.specs.Cell.{CellState}
use Rattle.store_rule.specs.declared.store.Pass.{Pass}
use Rattle.store_rule.specs.declared.store.Store.{Store}
use Rattle.store_rule.specs.Ground.{Offers}
use Rattle.store_rule.specs.Passes.{basis, view}
use Rattle.rock_writer.specs.declared.fault.Ended.{Ended}
use Rattle.rock_writer.specs.declared.fault.WriteFault.{WriteFault}
use Rattle.rock_writer.specs.Entries.{WritesAs, body_in, with_taken}
use Rattle.rock_writer.specs.Finishing.{Finished, MayFinish, NotFinished}
use Rattle.rock_writer.specs.Halting.{Halts}
use Rattle.collapse.specs.Forwarding.{Aborted, Begins, FailsToFetch, FetchesInVain, Fetches, FetchesPast, GivenUp, fresh}
use Rattle.collapse.specs.Sending.{Sends, SendsAtLeast}
use Rattle.collapse.specs.Writing.{Added, KeepsNoMore, KeepsSome, KeepsWhole, MayTake}
use Rattle.collapse.specs.declared.answer.Why.TheVariants.{Write}
use Rattle.collapse.proofs.Sends.{front_here, front_of, least_here, sends_none}
use Rattle.collapse.proofs.Takes.{added_none}

module _ {C O : Type 0} (tells : Bool) (state : C → CellState) (offers : O → Offers) (s : Store C O) (t offer : ℕ) (url : List ℕ) (version : ℕ) (body : List ℕ)
    (body_is : (basis tells state offers s).offers.body (offer - (basis tells state offers s).setting.slots) ≡ body) where
  -- the fetch that was started is that of the body
  pub may_take : (p : Pass C) (left : List ℕ) → WritesAs tells state offers s p t (fresh tells state offers s t offer url version) → left ≡ body → MayTake tells state offers s t (fresh tells state offers s t offer url version) left p
  may_take p left writes is = record { writes = writes; rest_is = is ∙ sym body_is }

  size_is : length (body_in (basis tells state offers s) (fresh tells state offers s t offer url version)) ≡ length body
  size_is = ap length body_is

  pub may_finish : (o u : Pass C) (sink_tells : Bool) (old new rest left : List ℕ) → KeepsWhole tells state offers s t (fresh tells state offers s t offer url version) o u sink_tells old new rest left
      → MayFinish tells state offers s t (with_taken (fresh tells state offers s t offer url version) (length (body_in (basis tells state offers s) (fresh tells state offers s t offer url version)))) u
  may_finish o u sink_tells old new rest left k = record { writes = k.added.writes; all = refl }

  module _ (p o q : Pass C) (most : ℕ) (begins : Begins tells state offers s t offer url most p o version) (sink_tells : Bool) (old : List ℕ) (starts started : ℕ) where
    pub fetches : (u : Pass C) (new rest left : List ℕ) (ended : Ended) → rest ≡ body → KeepsWhole tells state offers s t (fresh tells state offers s t offer url version) o u sink_tells old new rest left
        → Finished tells state offers s t (with_taken (fresh tells state offers s t offer url version) (length (body_in (basis tells state offers s) (fresh tells state offers s t offer url version)))) u q ended → started ≡ starts + 1
        → Fetches tells state offers s t offer url most p q body sink_tells old new starts started version
    fetches u new rest left ended is k finished once = record {
      writes = record {
        began = o;
        begins = begins;
        full = u;
        added = subst (λ (n : ℕ). Added tells state offers s t (fresh tells state offers s t offer url version) o u n) size_is k.added;
        ended = ended;
        finished = subst (λ (n : ℕ). Finished tells state offers s t (with_taken (fresh tells state offers s t offer url version) n) u q ended) size_is finished;
      };
      sent = subst (λ (z : List ℕ). Sends sink_tells old new z) is k.sent;
      once = once;
    }

    pub not_finished : (u : Pass C) (new rest left : List ℕ) (fault : WriteFault) → rest ≡ body → KeepsWhole tells state offers s t (fresh tells state offers s t offer url version) o u sink_tells old new rest left
        → NotFinished tells state offers s t (with_taken (fresh tells state offers s t offer url version) (length (body_in (basis tells state offers s) (fresh tells state offers s t offer url version)))) u q fault → started ≡ starts + 1
        → FetchesPast tells state offers s t offer url most p q body sink_tells old new starts started (Write fault)
    not_finished u new rest left fault is k stopped once = record {
      goes = record {
        version = version;
        began = o;
        begins = begins;
        stopped = inr record {
          full = u;
          added = subst (λ (n : ℕ). Added tells state offers s t (fresh tells state offers s t offer url version) o u n) size_is k.added;
          stopped = subst (λ (n : ℕ). NotFinished tells state offers s t (with_taken (fresh tells state offers s t offer url version) n) u q fault) size_is stopped;
        };
      };
      sent = subst (λ (z : List ℕ). Sends sink_tells old new z) is k.sent;
      once = once;
    }

    pub gives_up : (new rest left : List ℕ) (fault : WriteFault) → KeepsNoMore tells state offers s t (fresh tells state offers s t offer url version) o q sink_tells old new rest left fault → GivenUp tells state offers s t offer url most p q (length body) fault
    gives_up new rest left cause k = record { version = version; began = o; begins = begins; stopped = inl k.not_added }

    aborted : (u : Pass C) (new : List ℕ) (total : ℕ) → Added tells state offers s t (fresh tells state offers s t offer url version) o u total → SendsAtLeast sink_tells old new body total → Halts (basis tells state offers s) t (view u) (view q) → Aborted tells state offers s t offer url most p q sink_tells old new body
    aborted u new total added sent halts = record { version = version; began = o; begins = begins; some = u; total = total; added = added; sent = sent; halts = halts }

    -- what was taken went to the sink
    sent_taken : (u : Pass C) (new rest left : List ℕ) → rest ≡ body → (k : KeepsSome tells state offers s t (fresh tells state offers s t offer url version) o u sink_tells old new rest left) → SendsAtLeast sink_tells old new body k.total
    sent_taken u new rest left is k = subst (λ (n : ℕ). SendsAtLeast sink_tells old new body n) (let n = k.total_is in omega (arith, n)) (subst (λ (z : List ℕ). SendsAtLeast sink_tells old new z k.many) is k.sent)

    -- the fetch was not started
    pub fails_to_start : WritesAs tells state offers s o t (fresh tells state offers s t offer url version) → Halts (basis tells state offers s) t (view o) (view q) → started ≡ starts
        → FailsToFetch tells state offers s t offer url most p q body sink_tells old old starts started
    fails_to_start writes halts none = record {
      stops = inl (aborted o old 0 (added_none tells state offers s t (fresh tells state offers s t offer url version) o 0 writes refl) (least_here sink_tells old old [] body body (sends_none sink_tells old) refl) halts);
      sent = front_here sink_tells old old [] body body (sends_none sink_tells old) refl;
      once = inl none;
    }

    -- it was, and failed
    pub fails_to_fetch : (u : Pass C) (new rest left : List ℕ) → rest ≡ body → KeepsSome tells state offers s t (fresh tells state offers s t offer url version) o u sink_tells old new rest left → Halts (basis tells state offers s) t (view u) (view q)
        → started ≡ starts + 1 → FailsToFetch tells state offers s t offer url most p q body sink_tells old new starts started
    fails_to_fetch u new rest left is k halts once = record { stops = inl (aborted u new k.total k.added (sent_taken u new rest left is k) halts); sent = front_of sink_tells old new body k.total (sent_taken u new rest left is k); once = inr once }

    pub fails_to_send : (u : Pass C) (new rest left : List ℕ) → rest ≡ body → KeepsSome tells state offers s t (fresh tells state offers s t offer url version) o u sink_tells old new rest left → Halts (basis tells state offers s) t (view u) (view q)
        → started ≡ starts + 1 → FetchesInVain tells state offers s t offer url most p q body sink_tells old new starts started
    fails_to_send u new rest left is k halts once = record { stops = inl (aborted u new k.total k.added (sent_taken u new rest left is k) halts); sent = front_of sink_tells old new body k.total (sent_taken u new rest left is k); once = once }
