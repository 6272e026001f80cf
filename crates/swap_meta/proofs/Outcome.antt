-- What a reader that is right about each outcome says of all bytes.
use Rattle.std.proofs.Common.{◌≡◌, ℕ, ◌+◌, ◌≤◌, List, length, take, Result, Ok, Err, ap, subst}
use Rattle.std.specs.Prelude.{IfOk, IfErr, IsOkAnd, IsErrOf, ◌↔◌}
use Rattle.swap_meta.specs.declared.fault.MetaFault.{MetaFault}
use Rattle.swap_meta.specs.declared.reading.Meta.{Meta}
use Rattle.swap_meta.specs.Meta.{Spells, Refuses}
use Rattle.swap_meta.proofs.OneOutcome.{refused_once, spelled_or_refused, spelled_once}
use Rattle.swap_meta.proofs.Size.{spelled_size}

-- metadata that is found is there
abbrev pub Found : List ℕ → Result Meta MetaFault → Type 0
Found bytes result = IfOk result (λ meta. Spells (take meta.length bytes) meta.key meta.url.now meta.length)

-- metadata is found
pub only_found : (bytes : List ℕ) (result : Result Meta MetaFault) → Found bytes result → IfErr result (λ fault. Refuses bytes fault) → (key url : List ℕ) (n : ℕ) → Spells (take n bytes) key url n → IsOkAnd result (λ meta. (meta.key ≡ key) × (meta.url.now ≡ url) × (meta.length ≡ n))
only_found bytes (Ok meta) found refused key url n spells = spelled_once bytes meta.key meta.url.now key url meta.length n found spells
only_found bytes (Err fault) found refused key url n spells = absurd (spelled_or_refused bytes key url n fault spells refused)

-- a result has one fault
same_fault : (f g : MetaFault) → (let r : Result Meta MetaFault = Err f in r) ≡ Err g → f ≡ g
same_fault f g e = cc

-- the fault is the one that there is
pub one_fault : (bytes : List ℕ) (result : Result Meta MetaFault) → Found bytes result → IfErr result (λ fault. Refuses bytes fault) → (f : MetaFault) → (IsErrOf result f ↔ Refuses bytes f)
one_fault bytes (Ok meta) found refused f = (λ e. absurd cc, λ refuses. absurd (spelled_or_refused bytes meta.key meta.url.now meta.length f found refuses))
one_fault bytes (Err g) found refused f = (λ e. subst (Refuses bytes) (same_fault g f e) refused, λ refuses. ap (λ (x : MetaFault). Err x) (refused_once bytes g f refused refuses))

-- metadata is longer than its URL
pub room_found : (bytes : List ℕ) (result : Result Meta MetaFault) → Found bytes result → IfOk result (λ meta. length meta.url.now + 32 ≤ meta.length)
room_found bytes (Ok meta) found = spelled_size (take meta.length bytes) meta.key meta.url.now meta.length found
room_found bytes (Err fault) found = tt
