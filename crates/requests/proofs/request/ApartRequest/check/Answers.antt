use Rattle.requests.proofs.First.{refused, passed, decided}
use Rattle.requests.proofs.request.ApartRequest.check.Goals as goal

pub returns-in_err-star_count : goal.returns-in_err-star_count
returns-in_err-star_count c = search (passed, refused)

pub returns-in_err-sound_stars : goal.returns-in_err-sound_stars
returns-in_err-sound_stars c = search (passed, refused)

pub returns-in_err-error_limit : goal.returns-in_err-error_limit
returns-in_err-error_limit c = search (passed, refused)

pub returns-in_err-group_size : goal.returns-in_err-group_size
returns-in_err-group_size c = search (passed, refused)

pub returns : goal.returns
returns c = search (passed, decided)
