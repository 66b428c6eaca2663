use Rattle.requests.proofs.First.{refused, passed, decided}
use Rattle.requests.proofs.request.NameRequest.check.Goals as goal

pub returns-in_err-star_count : goal.returns-in_err-star_count
returns-in_err-star_count c = search (passed, refused)

pub returns-in_err-spot_count : goal.returns-in_err-spot_count
returns-in_err-spot_count c = search (passed, refused)

pub returns-in_err-names_room : goal.returns-in_err-names_room
returns-in_err-names_room c = search (passed, refused)

pub returns-in_err-sound_stars : goal.returns-in_err-sound_stars
returns-in_err-sound_stars c = search (passed, refused) depth 12 fits 4000

pub returns-in_err-sound_spots : goal.returns-in_err-sound_spots
returns-in_err-sound_spots c = search (passed, refused) depth 12 fits 4000

pub returns-in_err-error_limit : goal.returns-in_err-error_limit
returns-in_err-error_limit c = search (passed, refused) depth 12 fits 4000

pub returns : goal.returns
returns c = search (passed, decided) depth 12 fits 4000
