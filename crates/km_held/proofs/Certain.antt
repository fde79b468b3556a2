-- The laws of lists at a moment of a history.
use Rattle.km_laws.proofs.Laws as laws
use Rattle.km_laws.proofs.Counts.{IdsRise}
use Rattle.km_model.specs.History.{History}
use Rattle.km_model.specs.Past.{world}
use Rattle.km_model.specs.Follows.{past_of}
use Rattle.km_certificates.specs.Certificates.{standing_after}
use Rattle.km_held.specs.Laws.{ListsAreComplete, MembersAreHeld, CheckedAreHeld}
use Rattle.km_held.proofs.Grown.{held_is, is_held_held, list_held, checked_held}

rise : (h : History) → IdsRise (world (past_of h)).blocks
rise h = (laws.names_rise h).ids

pub lists_are_complete : ListsAreComplete
lists_are_complete words h id = (is_held_held (standing_after words h) (rise h) id, held_is (standing_after words h) (rise h) id)

pub members_are_held : MembersAreHeld
members_are_held words h id = list_held (standing_after words h) (rise h) id

pub checked_are_held : CheckedAreHeld
checked_are_held words h bs there e = checked_held (standing_after words h) (rise h) bs there e
