-- What the offer of a number says is what a line of the script offers.
use Rattle.std.proofs.Common.{◌≡◌, ◌≢◌, ℕ, List, [], ◌∷◌, Bool, true, false, cond, Contains, Option, Some, None, ap, refl, suc, arith}
use Rattle.std.specs.Prelude.{find, option_and_then, ◌==◌}
use Rattle.std.specs.Option.{option_map_or}
use Rattle.script_text.specs.declared.line.Line.{Line}
use Rattle.script_text.specs.declared.request.Request.{Request}
use Rattle.script_text.specs.declared.request.Request.TheVariants.{Begin, Put, Save}
use Rattle.plain_model.specs.Serving.{bytes_of}
use Rattle.line_account.specs.Lines.{Offers}
use Rattle.rock_run.specs.Offered.{Response, offered_by, offered_in, offers_of}
use Rattle.run_rules.specs.Responses.{IsOffered}

-- a line that is found is one of the lines
found_among : (p : Line → Bool) (lines : List Line) (line : Line) → find p lines ≡ Some line → Contains lines line
found_among p [] line e = cc
found_among p (l ∷ lines) line e = by_test (p l) e (found_among p lines line)
  where
    by_test : (b : Bool) → cond b (Some l) (find p lines) ≡ Some line → (find p lines ≡ Some line → Contains lines line)
        → Contains (l ∷ lines) line
    by_test true q rest = (0, omega arith, the q)
      where
        the : Some l ≡ Some line → l ≡ line
        the q = cc
    by_test false q rest = let c = rest q in (suc c.0, (let z = c.1 in omega arith), c.2)

-- a request that offers this response offers its body under its URL
offers_it : (request : Request) (r : Response) → offered_in request ≡ Some r → Offers request r.url r.body
offers_it (Put u b) r e = (
  ap (λ (z : Option Response). option_map_or (λ x. x.url) z u) e,
  ap (λ (z : Option Response). option_map_or (λ x. x.body) z b) e,
)
offers_it (Save u b) r e = (
  ap (λ (z : Option Response). option_map_or (λ x. x.url) z u) e,
  ap (λ (z : Option Response). option_map_or (λ x. x.body) z b) e,
)
offers_it (Begin tab u b) r e = (
  ap (λ (z : Option Response). option_map_or (λ x. x.url) z u) e,
  ap (λ (z : Option Response). option_map_or (λ x. x.body) z b) e,
)
offers_it _ r e = cc

module _ (lines : List Line) (number : ℕ) where
  of_line : (found : Option Line) → find (λ line. line.number == number) lines ≡ found → (r : Response)
      → option_and_then (λ line. offered_in line.request) found ≡ Some r → IsOffered lines r.url (bytes_of r.body)
  of_line None is r e = cc
  of_line (Some line) is r e = record {
    line = line;
    among = found_among (λ (l : Line). l.number == number) lines line is;
    made = r.body;
    offers = offers_it line.request r e;
    body_is = refl;
  }

  of_response : (offered : Option Response) → offered_by lines number ≡ offered → option_map_or (λ (r : Response). r.url) offered [] ≢ []
      → IsOffered lines (option_map_or (λ (r : Response). r.url) offered []) (option_map_or (λ (r : Response). bytes_of r.body) offered [])
  of_response None is some = absurd (some refl)
  of_response (Some r) is some = of_line (find (λ line. line.number == number) lines) refl r is

  -- an offer whose URL is not empty
  pub offer_of_line : (offers_of lines).url number ≢ [] → IsOffered lines ((offers_of lines).url number) ((offers_of lines).body number)
  unfolding offers_of
  offer_of_line some = of_response (offered_by lines number) refl some
