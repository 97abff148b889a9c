use Rattle.std.proofs.Common.{◌≡◌, ◌∙◌, ◌∷◌, [], ap, sym, refl, Ok, Err}
use Rattle.csv.specs.Records.{fields_of}
use Rattle.enc_file.specs.Saying.{header_of, needs}
use Rattle.enc_file.specs.declared.record.Record.TheVariants as said
use Rattle.enc_file.specs.declared.refusal.Code.TheVariants as code
use Rattle.enc_file.proofs.Refused.{refuses}
use Rattle.enc_file.proofs.Tabled.{still-none}
use Rattle.enc_file.proofs.tables.Tables.add_header.Goals as goal

pub returns-in_default : goal.returns-in_default
returns-in_default c = λ h.
    let none : header_of (fields_of c.args.row.now) ≡ Err code.Header = ap (λ o. needs o code.Header (λ version. Ok (said.Header version))) (sym c.version_in.ensures.value ∙ c.in_default.is) in
    refuses [] c.args.self.now (λ why. header_of (fields_of c.args.row.now) ≡ Err why) code.Header c.refused.result h none c.refused.ensures

pub returns : goal.returns
returns c = λ h.
    let v = c.in-Some.version in
    let is : header_of (fields_of c.args.row.now) ≡ Ok (said.Header v) = ap (λ o. needs o code.Header (λ version. Ok (said.Header version))) (sym c.version_in.ensures.value ∙ c.in-Some.is) in (
      said.Header v,
      is,
      record {
        read = c.in-Some.ensures.range;
        count = refl;
        version = refl;
        heading = h.heading;
        run = h.run;
        gains = h.gains;
        crafts = h.crafts;
        calls = h.calls;
        legs = h.legs;
        misses = h.misses;
        plans = h.plans;
        fates = h.fates;
        made = still-none [] (said.Header v ∷ []) c.args.self.now.made h.made refl refl;
      },
    )
