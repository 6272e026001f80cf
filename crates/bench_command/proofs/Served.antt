-- The lines of a benchmark may be served.
use Rattle.std.proofs.Common.{◌==◌, ◌≡◌, ◌≤◌, List, subst, ℕ}
use Rattle.std.specs.Prelude.{Contains, Some, find}
use Rattle.script_text.specs.declared.line.Line.{Line}
use Rattle.script_text.specs.declared.request.Request.{Request}
use Rattle.script_text.specs.declared.request.Request.TheVariants.{Get, Purge, Put, Save}
use Rattle.workload.specs.Requests.{NamesUrl}
use Rattle.rock_run.specs.Scripts.{MayBeServed}
use Rattle.rock_run.specs.Asked.{IsAsked}

asked_by_url : (request : Request) → NamesUrl request → IsAsked request
asked_by_url (Get url) h = h
asked_by_url (Put url body) h = h
asked_by_url (Save url body) h = h
asked_by_url (Purge url) h = h
asked_by_url _ h = absurd h

pub lines_served : (workers : ℕ) (lines : List Line)
    → ((line : Line) → Contains lines line → (1 ≤ line.worker) × (line.worker ≤ workers))
    → ((line : Line) → Contains lines line → find (λ (other : Line). other.number == line.number) lines ≡ Some line)
    → ((line : Line) → Contains lines line → NamesUrl line.request) → MayBeServed workers lines
lines_served workers lines within found named = record {
  within = within;
  found = found;
  asked = λ line among. asked_by_url line.request (named line among);
  marks = record {
    set = λ k mark line at e. absurd (subst NamesUrl e (named line (k, at.0, at.1)));
    awaited = λ k mark line at e. absurd (subst NamesUrl e (named line (k, at.0, at.1)));
  };
}
