-- A condition under which a request is turned away, and which of an ordered list of conditions is the first that holds. Assumes nothing: these are definitions.
use Rattle.std.specs.Prelude.{◌≡◌, ℕ, ◌<◌, ◌⊎◌, List, [], ◌∷◌, Result, MatchResult}
use Rattle.requests.specs.declared.refusal.Refusal.{Refusal}
use Rattle.requests.specs.Refusals.{code}

-- a condition on a request: its number, and the places at which it holds
pub record Condition : Type 1 where
  pub number : ℕ
  pub at : ℕ → Type 0

-- of a list of conditions, the one with number n holds at place p
abbrev pub Holds : List Condition → ℕ → ℕ → Type 0
Holds [] n p = ⊥
Holds (c ∷ cs) n p = ((c.number ≡ n) × c.at p) ⊎ Holds cs n p

-- none of the conditions holds anywhere
pub record NoneHolds (cs : List Condition) : Type 0 where
  pub none : (n p : ℕ) → Holds cs n p → ⊥

-- the first reason that applies: the condition with number n holds at place p, none with a smaller number holds anywhere, nor this one at an earlier place
pub record TurnedAway (cs : List Condition) (n p : ℕ) : Type 0 where
  pub holds : Holds cs n p
  pub no_smaller : (m q : ℕ) → m < n → Holds cs m q → ⊥
  pub no_earlier : (q : ℕ) → q < p → Holds cs n q → ⊥

-- what a check of all the conditions answers
abbrev pub Answers : List Condition → Result Unit Refusal → Type 0
Answers cs r = MatchResult r (λ _. NoneHolds cs) (λ e. TurnedAway cs (code e).0 (code e).1)

-- what a check of one condition answers
pub record Checks (c : Condition) (r : Result Unit Refusal) : Type 0 where
  pub checked : MatchResult r (λ _. (p : ℕ) → c.at p → ⊥) (λ e. ((code e).0 ≡ c.number) × c.at (code e).1 × ((q : ℕ) → q < (code e).1 → c.at q → ⊥))
