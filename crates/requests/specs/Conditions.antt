-- The conditions under which a request is turned away, by number, with their places. Assumes nothing: these are definitions.
use Rattle.std.specs.Prelude.{◌≡◌, ℕ, ◌*◌, ◌%◌, ◌<◌, ◌⊎◌, List, length, Some, None, Option, ◌≢◌}
use Rattle.sky.specs.Lent.{count, SoundAt}
use Rattle.requests.specs.First.{Condition}

-- numbers that are not three for each direction
abbrev pub Uneven : List ℕ → Type 0
Uneven ns = length ns % 3 ≡ 0 → ⊥

-- the numbers are not three for each star, or not three for each spot: at 0 for the stars, at 1 for the spots
abbrev pub not_threes : (stars spots : List ℕ) → Condition
not_threes stars spots =
    record { number = 1; at = λ p. ((p ≡ 0) × Uneven stars) ⊎ ((p ≡ 1) × Uneven spots) }

-- no star, or more than 400: at their number
abbrev pub star_count : (stars : List ℕ) → Condition
star_count stars =
    record { number = 2; at = λ p. (p ≡ count stars) × ((p ≡ 0) ⊎ (400 < p)) }

-- more than 16 spots: at their number
abbrev pub spot_count : (spots : List ℕ) → Condition
spot_count spots = record { number = 3; at = λ p. (p ≡ count spots) × (16 < p) }

-- the room for names has another length than there are spots: at its length
abbrev pub names_room : (spots : List ℕ) (room : ℕ) → Condition
names_room spots room =
    record { number = 4; at = λ p. (p ≡ room) × (p ≢ count spots) }

-- none where each direction is sound, and else the first that is not
abbrev pub FirstUnsound : List ℕ → Option ℕ → Type 0
FirstUnsound ns None = (k : ℕ) → k < count ns → SoundAt ns k
FirstUnsound ns (Some i) = (i < count ns) × (SoundAt ns i → ⊥) × ((k : ℕ) → k < i → SoundAt ns k)

-- a direction of a list that is not sound: at its place in the list
abbrev pub unsound : (number : ℕ) (directions : List ℕ) → Condition
unsound number directions =
    record { number = number; at = λ p. (p < count directions) × (SoundAt directions p → ⊥) }

-- a star that is no direction: at the star
abbrev pub bad_star : (stars : List ℕ) → Condition
bad_star stars = unsound 5 stars

-- a spot that is no direction: at the spot
abbrev pub bad_spot : (spots : List ℕ) → Condition
bad_spot spots = unsound 6 spots

-- an error above 1,000,000: at 0
abbrev pub error_too_large : (error : ℕ) → Condition
error_too_large error = record { number = 7; at = λ p. (p ≡ 0) × (1000000 < error) }

-- more than 4 spots that may be no star: at 0
abbrev pub none_too_large : (none : ℕ) → Condition
none_too_large none = record { number = 8; at = λ p. (p ≡ 0) × (4 < none) }

-- groups of fewer than 3 stars or of more than 6: at 0
abbrev pub group_size : (k : ℕ) → Condition
group_size k = record { number = 9; at = λ p. (p ≡ 0) × ((k < 3) ⊎ (6 < k)) }

-- the room for two rows of k stars is not 2 × k long: at its length
abbrev pub rows_room : (k room : ℕ) → Condition
rows_room k room =
    record { number = 10; at = λ p. (p ≡ room) × (p ≢ 2 * k) }

-- the room for the pair table is too short: at the length that it needs
abbrev pub table_room : (needed room : ℕ) → Condition
table_room needed room =
    record { number = 11; at = λ p. (p ≡ needed) × (room < needed) }
