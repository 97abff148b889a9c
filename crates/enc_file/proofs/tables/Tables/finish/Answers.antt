use Rattle.std.proofs.Common.{◌≡◌, ◌∙◌, ap, Some, false, length}
use Rattle.enc_file.specs.Earlier.{has_ended}
use Rattle.enc_file.specs.Reading.{missing_after, refusal_after}
use Rattle.enc_file.specs.Tables.{IsMade}
use Rattle.enc_file.specs.declared.refusal.ReadError.TheVariants.{Refused}
use Rattle.enc_file.proofs.Taken.{read-ended, read-unended}
use Rattle.enc_file.proofs.tables.Tables.finish.Goals as goal

pub returns-in-Some : goal.returns-in-Some
returns-in-Some c = λ earlier h.
    let made : IsMade earlier (Some c.in-Some.encounter) = rw c.in-Some.is at h.made in
    read-ended earlier c.in-Some.encounter made

pub returns : goal.returns
returns c = λ earlier h.
    let unended : has_ended earlier ≡ false = rw c.in-None.is at h.made in
    let why : c.missing_after.result ≡ missing_after (length earlier) = c.missing_after.ensures ∙ ap missing_after h.count in
    let told : c.refused-missing.result ≡ Refused (refusal_after (length earlier) (missing_after (length earlier))) =
    c.refused-missing.ensures ∙ ap (λ n. Refused (refusal_after n c.missing_after.result)) h.count ∙ ap (λ w. Refused (refusal_after (length earlier) w)) why in
    rw told (read-unended earlier unended)
