-- What stands between the lines of a text, and what is answered there. Assumes nothing: these are definitions.
use Rattle.std.specs.Prelude.{◌≡◌, ◌≢◌, ℕ, ◌*◌, ◌%◌, min, List, [], ◌∷◌, ◌++◌, length, Option, MatchOption}
use Rattle.sky.specs.Lent.{count}
use Rattle.requests.specs.First.{Condition}
use Rattle.requests.specs.Requests.{naming, telling_apart}
use Rattle.text.specs.declared.name_pictures.NamePictures.{NamePictures}
use Rattle.text.specs.declared.check_catalogue.CheckCatalogue.{CheckCatalogue}

-- one line more of a list, with a direction or without: behind threes come its three numbers, or one that is over; any other list stays
pub record LineMore (direction : Option (List ℕ)) (ns ms : List ℕ) : Type 0 where
  pub grows : length ns % 3 ≡ 0 → MatchOption direction (ms ≡ ns ++ 0 ∷ []) (λ three. ms ≡ ns ++ three)
  pub stays : length ns % 3 ≢ 0 → ms ≡ ns

-- the conditions for the picture that stands, with a room for as many names as it has spots
abbrev pub picture_conditions : NamePictures → List Condition
picture_conditions s =
    naming s.stars s.spots s.error s.none (count s.spots)

-- the conditions for groups of k stars of the catalogue that stands, with a room for two rows of k, or of 6 where k is larger
abbrev pub group_conditions : CheckCatalogue → ℕ → List Condition
group_conditions s k = telling_apart s.stars s.error k (2 * min k 6)

-- after a request the picture has no spots, and all else stands
pub record NextPicture (s t : NamePictures) : Type 0 where
  pub stars : t.stars ≡ s.stars
  pub spots : t.spots ≡ []
  pub error : t.error ≡ s.error
  pub none : t.none ≡ s.none

-- nothing stands yet, in the program that names pictures
pub record NoPicture (s : NamePictures) : Type 0 where
  pub stars : s.stars ≡ []
  pub spots : s.spots ≡ []
  pub error : s.error ≡ 0
  pub none : s.none ≡ 0

-- nothing stands yet, in the program that checks catalogues
pub record NoCatalogue (s : CheckCatalogue) : Type 0 where
  pub stars : s.stars ≡ []
  pub error : s.error ≡ 0
