use Rattle.flight.proofs.Boxed.{stays-inside}
use Rattle.enc_file.proofs.CanonicalWhole.{canonical-says}
use Rattle.enc_file.proofs.laws.canonical_text_law.Goals as goal

pub returns : goal.returns
returns c e h inside = canonical-says e h ((stays-inside e).1 inside)
