-- The equality of places is that of their three numbers.
use Rattle.std.proofs.Common.{◌≡◌, rules}
use Rattle.terms.specs.contracts.word.PlacePartialEq.TheImpl as place
use Rattle.terms.specs.declared.word.Place.{Place}
use Rattle.terms.specs.Places.{same_place}

pub place_eq : (a b : Place) → place.ghosts.eq a b ≡ same_place a b
place_eq a b = search rules
