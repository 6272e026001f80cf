-- Lines that workers served are lines of the script.
use Rattle.std.proofs.Common.{Bool, Contains, List, [], ap, arith, cond, false, refl, subst, true, ⊎_elim, ◌++◌, ◌+◌, ◌∷◌, ◌≡◌, ℕ}
use Rattle.std.specs.Prelude.{Some, ◌==◌}
use Rattle.std.specs.List.{filter}
use Rattle.std.proofs.lemmas.List.Elements.{Contains-append_right}
use Rattle.plain_model.specs.Serving.{bytes_of}
use Rattle.script_text.specs.declared.body.Body.{Body}
use Rattle.script_text.specs.declared.line.Line.{Line}
use Rattle.script_text.specs.declared.request.Request.{Request}
use Rattle.script_text.specs.declared.request.Request.TheVariants.{Begin, Put, Save}
use Rattle.core_model.proofs.Lists.{cons_contains, contains_none}
use Rattle.line_account.specs.Closing.{LineIn, Worker}
use Rattle.script_text.specs.Requests.{url_in}
use Rattle.line_account.specs.Lines.{Offers, Served, offers}
use Rattle.line_account.specs.Scripts.{ServesScript, in_order}
use Rattle.run_rules.specs.Responses.{IsOffered}

-- an item that is in the list stays in a longer one
in_front : {A : Type 0} (x : A) (xs ys : List A) → Contains xs x → Contains (xs ++ ys) x
in_front x [] ys h = absurd (contains_none x h)
in_front {A} x (z ∷ xs) ys h = ⊎_elim
    (λ (e : z ≡ x). (0, omega arith, e))
    (λ (g : Contains xs x). Contains-append_right (z ∷ []) (xs ++ ys) x (in_front x xs ys g))
    (cons_contains z x xs h)

-- what a test lets through was in the list
pub of_filter : (p : Line → Bool) (lines : List Line) (line : Line) → Contains (filter p lines) line → Contains lines line
of_filter p [] line h = absurd (contains_none line h)
of_filter p (l ∷ lines) line h = by_test (p l) h (of_filter p lines line)
  where
    by_test : (b : Bool) → Contains (cond b (l ∷ filter p lines) (filter p lines)) line
        → (Contains (filter p lines) line → Contains lines line) → Contains (l ∷ lines) line
    by_test true g rest = ⊎_elim
        (λ (e : l ≡ line). (0, omega arith, e))
        (λ (k : Contains (filter p lines) line). Contains-append_right (l ∷ []) lines line (rest k))
        (cons_contains l line (filter p lines) g)
    by_test false g rest = Contains-append_right (l ∷ []) lines line (rest g)

-- a line that was served is among those that were
among : (served later earlier : List Served) (s : Served) → served ≡ later ++ s ∷ earlier → Contains (in_order served) s.asked
among [] [] earlier s e = absurd cc
among [] (x ∷ later) earlier s e = absurd cc
among (y ∷ served) [] earlier s e = let here : y ≡ s = cc in
    Contains-append_right (in_order served) (y.asked ∷ []) s.asked (0, omega arith, ap Served.asked here)
among (y ∷ served) (x ∷ later) earlier s e = in_front s.asked (in_order served) (y.asked ∷ []) (among served later earlier s cc)

-- a line of a worker is one of the script
pub in_script : (script : List Line) (crew : List Worker) (P : List Served → Served → Type 0) → ServesScript script crew
    → (p : LineIn crew P) → Contains script p.served.asked
in_script script crew P serves p = of_filter (λ l. l.worker == p.j + 1) script p.served.asked
    (subst (λ ls. Contains ls p.served.asked) (serves p.j p.worker p.at) (among p.worker.served p.later p.earlier p.served p.split))

-- a request that offers a body, and names this URL, offers it under the URL
pub offer_of : (request : Request) (url : List ℕ) → offers request ≡ true → url_in request ≡ Some url
    → (body : Body) × Offers request url body
offer_of (Put u b) url is named = (b, (cc, refl))
offer_of (Save u b) url is named = (b, (cc, refl))
offer_of (Begin tab u b) url is named = (b, (cc, refl))
offer_of _ url is named = absurd cc

-- so the script offers it
pub offered : (script : List Line) (crew : List Worker) (P : List Served → Served → Type 0) → ServesScript script crew → (p : LineIn crew P)
    → (url : List ℕ) (body : Body)
    → Offers p.served.asked.request url body → IsOffered script url (bytes_of body)
offered script crew P serves p url body offers = record {
  line = p.served.asked;
  among = in_script script crew P serves p;
  made = body;
  offers = offers;
  body_is = refl;
}
