-- Which conditions each kind of request is held to, in the order of their numbers. Assumes nothing: these are definitions.
use Rattle.std.specs.Prelude.{ℕ, List, [], ◌∷◌}
use Rattle.requests.specs.declared.request.NameRequest.{NameRequest}
use Rattle.requests.specs.declared.request.ApartRequest.{ApartRequest}
use Rattle.requests.specs.First.{Condition}
use Rattle.requests.specs.Conditions.{not_threes, star_count, spot_count, names_room, bad_star, bad_spot, error_too_large, none_too_large, group_size, rows_room}

-- naming the spots of a picture, with a room of this length for the names
abbrev pub naming : (stars spots : List ℕ) (error none room : ℕ) → List Condition
naming stars spots error none room =
    not_threes stars spots ∷ star_count stars ∷ spot_count spots ∷ names_room spots room ∷ bad_star stars ∷ bad_spot spots ∷ error_too_large error ∷ none_too_large none ∷ []

-- telling groups of k stars apart, with a room of this length for two rows: no spots are lent with it
abbrev pub telling_apart : (stars : List ℕ) (error k room : ℕ) → List Condition
telling_apart stars error k room =
    not_threes stars [] ∷ star_count stars ∷ bad_star stars ∷ error_too_large error ∷ group_size k ∷ rows_room k room ∷ []

-- the same of the two requests
abbrev pub name_conditions : NameRequest → List Condition
name_conditions q = naming q.stars.now q.spots.now q.error q.none q.room

abbrev pub apart_conditions : ApartRequest → List Condition
apart_conditions q = telling_apart q.stars.now q.error q.size q.room
