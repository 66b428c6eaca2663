-- That a request has one answer. Each is a statement, whose proof is asked for by a function's contract. Assumes nothing.
use Rattle.std.specs.Prelude.{◌≡◌, ℕ, List, Result}
use Rattle.requests.specs.declared.refusal.Refusal.{Refusal}
use Rattle.requests.specs.First.{Condition, Answers}
use Rattle.requests.specs.Requests.{naming, telling_apart}

-- two answers that are both right are the same, whatever checks were made and in whatever order
abbrev pub OneAnswer : List Condition → Type 0
OneAnswer cs = (r s : Result Unit Refusal) → Answers cs r → Answers cs s → r ≡ s

abbrev pub NamingHasOneAnswer : Type 0
NamingHasOneAnswer =
    (stars spots : List ℕ) (error none room : ℕ) → OneAnswer (naming stars spots error none room)

abbrev pub TellingApartHasOneAnswer : Type 0
TellingApartHasOneAnswer =
    (stars : List ℕ) (error k room : ℕ) → OneAnswer (telling_apart stars error k room)
