use Rattle.std.proofs.Common.{◌∷◌, [], refl}
use Rattle.enc_file.specs.declared.record.Record.TheVariants as said
use Rattle.enc_file.proofs.Tabled.{still-none}
use Rattle.enc_file.proofs.tables.Tables.begun.Goals as goal

pub returns : goal.returns
returns c =
    let h = c.in_ok-tables.ensures in
    record {
      read = c.requires;
      count = refl;
      version = refl;
      heading = h.heading;
      run = h.run;
      gains = h.gains;
      crafts = h.crafts;
      calls = h.calls;
      legs = h.legs;
      misses = h.misses;
      plans = h.plans;
      fates = h.fates;
      made = still-none [] (said.Header c.args.version ∷ []) _ h.made refl refl;
    }
