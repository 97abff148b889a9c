use Rattle.std.proofs.Common.{refl}
use Rattle.air_journal.proofs.SmallEncounter.{is-encounter}
use Rattle.air_journal.proofs.laws.air_law.Goals as goal

pub returns : goal.returns
returns c = record {
  fields = λ e. record {
    count = refl;
    places = refl;
    cycles = refl;
    kind = λ own. refl;
    address = λ own. refl;
    view = λ own other cycle. refl;
    word = refl;
    read = refl;
    flip = refl;
  };
  copies = record { encounter = is-encounter; before = refl; own = refl; after = refl; back_before = refl; back = refl; back_after = refl };
}
