use Rattle.enc_gen.proofs.Parts.{made-inside, made-near, made-valid}
use Rattle.enc_gen.proofs.making.made_law.Goals as goal

pub returns : goal.returns
returns c = record { valid = made-valid; near = made-near; inside = made-inside }
