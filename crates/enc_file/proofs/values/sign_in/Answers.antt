use Rattle.std.proofs.Common.{◌≡◌, ◌∙◌, sym, ap, Some, true}
use Rattle.acas_base.specs.Labels.{is_call_sign}
use Rattle.enc_file.proofs.Called.{sign-label, text-found}
use Rattle.enc_file.proofs.values.sign_in.Goals as goal

pub returns : goal.returns
returns c =
    let is : is_call_sign c.args.bytes.now ≡ true = sym c.is_call_sign.ensures ∙ c.if-not-is_call_sign.false in
    rw is (text-found c.args.bytes.now c.new.result c.new.ensures.some c.new.ensures.value (sign-label c.args.bytes.now is))
